-- Trees may cross threads: each by the trees below it.
use denote.Param.Send.{IsSend, IsSync, enum_send, enum_sync, recorded_send, recorded_sync, sendable}
use denote.Enum.Declared.{shape}
use Rattle.std.proofs.Crossing.{crosses}
use Rattle.eif_tree.proofs.tree.Literal.TheSendSync as Literal
use Rattle.eif_tree.proofs.tree.NameAt.TheSendSync as NameAt
use Rattle.eif_tree.proofs.tree.TypeTree.TheLaws.TheKnot as types
use Rattle.eif_tree.proofs.tree.ExprKind.TheLaws.TheKnot as expressions
use Rattle.eif_tree.proofs.tree.Instr.TheLaws.TheKnot as instructions
use Rattle.eif_tree.specs.contracts.tree.TypeTree as TypeTree
use Rattle.eif_tree.specs.contracts.tree.Expr as Expr
use Rattle.eif_tree.specs.contracts.tree.Assertion as Assertion
use Rattle.eif_tree.specs.contracts.tree.Instr as Instr
use Rattle.eif_tree.specs.contracts.class.Group as Group
use Rattle.eif_tree.specs.contracts.class.FormalTree as FormalTree
use Rattle.eif_tree.specs.contracts.class.ParentClause as ParentClause
use Rattle.eif_tree.specs.contracts.class.FeatureKind as FeatureKind
use Rattle.eif_tree.specs.contracts.class.FeatureDecl as FeatureDecl
use Rattle.eif_tree.specs.contracts.class.FeatureClause as FeatureClause
use Rattle.eif_tree.specs.contracts.class.ClassTree as ClassTree

pub ruleset parts = (NameAt.the_send, NameAt.the_sync, NameAt.the_field_send, NameAt.the_field_sync, crosses, sendable)

pub type_field_send : IsSend (TypeTree.the_field).row
type_field_send = search (types.crosses, parts) depth 60 fits 20000

pub type_field_sync : IsSync (TypeTree.the_field).row
type_field_sync = search (types.crosses, parts) depth 60 fits 20000

pub type_send : IsSend TypeTree.the_row
type_send = recorded_send (TypeTree.the_field).row _ _ (TypeTree.the_type).to_one type_field_send

pub type_sync : IsSync TypeTree.the_row
type_sync = recorded_sync (TypeTree.the_field).row _ _ (TypeTree.the_type).to_one type_field_sync

pub expr_field_send : IsSend (Expr.the_field).row
expr_field_send = search (type_send, type_field_send, expressions.crosses, parts) depth 60 fits 20000

pub expr_field_sync : IsSync (Expr.the_field).row
expr_field_sync = search (type_sync, type_field_sync, expressions.crosses, parts) depth 60 fits 20000

pub expr_send : IsSend Expr.the_row
expr_send = recorded_send (Expr.the_field).row _ _ (Expr.the_type).to_one expr_field_send

pub expr_sync : IsSync Expr.the_row
expr_sync = recorded_sync (Expr.the_field).row _ _ (Expr.the_type).to_one expr_field_sync

pub assertion_send : IsSend Assertion.the_row
assertion_send = search (expr_field_send, parts) depth 60 fits 20000

pub assertion_sync : IsSync Assertion.the_row
assertion_sync = search (expr_field_sync, parts) depth 60 fits 20000

pub instr_send : IsSend Instr.the_row
instr_send = search (type_send, expr_send, expr_field_send, assertion_send, instructions.crosses, parts) depth 60 fits 20000

pub instr_sync : IsSync Instr.the_row
instr_sync = search (type_sync, expr_sync, expr_field_sync, assertion_sync, instructions.crosses, parts) depth 60 fits 20000

pub group_send : IsSend Group.the_row
group_send = search (type_field_send, parts) depth 60 fits 20000

pub group_sync : IsSync Group.the_row
group_sync = search (type_field_sync, parts) depth 60 fits 20000

pub formal_send : IsSend FormalTree.the_row
formal_send = search (type_send, parts) depth 60 fits 20000

pub formal_sync : IsSync FormalTree.the_row
formal_sync = search (type_sync, parts) depth 60 fits 20000

pub parent_send : IsSend ParentClause.the_row
parent_send = search (type_field_send, parts) depth 60 fits 20000

pub parent_sync : IsSync ParentClause.the_row
parent_sync = search (type_field_sync, parts) depth 60 fits 20000

pub kind_field_send : IsSend (FeatureKind.the_field).row
kind_field_send = enum_send (shape FeatureKind.the_type)
    (tt, ((Literal.the_field_send, tt), (tt, ((search (group_send, parts) depth 60 fits 20000, (search (instr_send, parts) depth 60 fits 20000, tt)), tt))))

pub kind_field_sync : IsSync (FeatureKind.the_field).row
kind_field_sync = enum_sync (shape FeatureKind.the_type)
    (tt, ((Literal.the_field_sync, tt), (tt, ((search (group_sync, parts) depth 60 fits 20000, (search (instr_sync, parts) depth 60 fits 20000, tt)), tt))))

pub kind_send : IsSend FeatureKind.the_row
kind_send = recorded_send (FeatureKind.the_field).row _ _ (FeatureKind.the_type).to_one kind_field_send

pub kind_sync : IsSync FeatureKind.the_row
kind_sync = recorded_sync (FeatureKind.the_field).row _ _ (FeatureKind.the_type).to_one kind_field_sync

pub decl_send : IsSend FeatureDecl.the_row
decl_send = search (group_send, type_send, assertion_send, kind_field_send, parts) depth 60 fits 20000

pub decl_sync : IsSync FeatureDecl.the_row
decl_sync = search (group_sync, type_sync, assertion_sync, kind_field_sync, parts) depth 60 fits 20000

pub features_send : IsSend FeatureClause.the_row
features_send = search (decl_send, parts) depth 60 fits 20000

pub features_sync : IsSync FeatureClause.the_row
features_sync = search (decl_sync, parts) depth 60 fits 20000

pub class_send : IsSend ClassTree.the_row
class_send = search (formal_send, parent_send, features_send, assertion_send, parts) depth 60 fits 20000

pub class_sync : IsSync ClassTree.the_row
class_sync = search (formal_sync, parent_sync, features_sync, assertion_sync, parts) depth 60 fits 20000

-- for the crates above, at the types that hold trees
pub ruleset trees = (
  type_send,
  type_sync,
  type_field_send,
  type_field_sync,
  expr_send,
  expr_sync,
  expr_field_send,
  expr_field_sync,
  assertion_send,
  assertion_sync,
  instr_send,
  instr_sync,
  group_send,
  group_sync,
  formal_send,
  formal_sync,
  parent_send,
  parent_sync,
  kind_send,
  kind_sync,
  kind_field_send,
  kind_field_sync,
  decl_send,
  decl_sync,
  features_send,
  features_sync,
  class_send,
  class_sync,
  parts,
)
