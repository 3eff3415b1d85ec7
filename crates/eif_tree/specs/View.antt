-- What each tree of the program is as plain data.
use Rattle.std.specs.Prelude.{List, [], ◌∷◌, Option, Some, None, map}
use Rattle.std.specs.Option.{option_map}
use Rattle.eif_base.specs.declared.Place.{Place}
use Rattle.eif_tree.specs.declared.tree.TypeTree.{TypeTree, fold-TypeTree, TypeTree-F}
use Rattle.eif_tree.specs.declared.tree.Expr.{Expr, Expr-F, fold-Expr}
use Rattle.eif_tree.specs.declared.tree.ExprKind.{ExprKind-F}
use Rattle.eif_tree.specs.declared.tree.Assertion.{Assertion}
use Rattle.eif_tree.specs.declared.tree.Instr.{Instr, Instr-F, fold-Instr}
use Rattle.eif_tree.specs.declared.tree.Branch.{Branch, Branch-F, fold-Branch}
use Rattle.eif_tree.specs.declared.class.Group.{Group}
use Rattle.eif_tree.specs.declared.class.FormalTree.{FormalTree}
use Rattle.eif_tree.specs.declared.class.Clients.{Clients}
use Rattle.eif_tree.specs.declared.class.ExportItem.{ExportItem}
use Rattle.eif_tree.specs.declared.class.ParentClause.{ParentClause}
use Rattle.eif_tree.specs.declared.class.CreatorPart.{CreatorPart}
use Rattle.eif_tree.specs.declared.class.FeatureKind.{FeatureKind}
use Rattle.eif_tree.specs.declared.class.FeatureKind.TheVariants as k
use Rattle.eif_tree.specs.declared.class.FeatureDecl.{FeatureDecl}
use Rattle.eif_tree.specs.declared.class.FeatureClause.{FeatureClause}
use Rattle.eif_tree.specs.declared.class.ClassTree.{ClassTree}
use Rattle.eif_tree.specs.Tree.{TypeT, Types, type_at, no_types, and_type, Ex, Exs, literal, void_value, current_value, result_value, unqualified, precursor, qualified, creation, test, paren, unary, binary, no_exs, and_ex, Ins, Inss, Branches, Otherwise, assign, call, create, choose, loop, check, no_inss, and_ins, no_branches, and_branch, no_else, else_part, GroupT, FormalT, ClientsT, ExportT, ParentT, CreatorsT, KindT, attribute, constant, deferred_body, routine, DeclT, FeaturesT, ClassT}

-- types in order
abbrev pub types_from : List TypeT → Types
types_from [] = no_types
types_from (t ∷ ts) = and_type t (types_from ts)

-- a type whose actuals are viewed already
abbrev pub type_step : TypeTree-F TypeT → TypeT
type_step t = type_at t.place t.name_place t.mark t.name (types_from t.actuals.items)

abbrev pub type_view : TypeTree → TypeT
type_view = fold-TypeTree TypeT type_step

-- expressions in order
abbrev pub exs_from : List Ex → Exs
exs_from [] = no_exs
exs_from (e ∷ es) = and_ex e (exs_from es)

-- a kind becomes an expression once it has a place
abbrev pub kind_step : ExprKind-F (Place → Ex) Ex → Place → Ex
kind_step (ExprKind-F.Lit x) p = literal p x
kind_step ExprKind-F.VoidValue p = void_value p
kind_step ExprKind-F.CurrentValue p = current_value p
kind_step ExprKind-F.ResultValue p = result_value p
kind_step (ExprKind-F.Unqualified n args) p = unqualified p n (exs_from args.items)
kind_step (ExprKind-F.Precursor n args) p = precursor p n (exs_from args.items)
kind_step (ExprKind-F.Qualified t n args) p = qualified p t.value n (exs_from args.items)
kind_step (ExprKind-F.Creation t n args) p = creation p (type_view t) n (exs_from args.items)
kind_step (ExprKind-F.Test t l e) p = test p (option_map type_view t) l e.value
kind_step (ExprKind-F.Paren e) p = paren p e.value
kind_step (ExprKind-F.Unary o e) p = unary p o e.value
kind_step (ExprKind-F.Binary o q l r) p = binary p o q l.value r.value

abbrev pub expr_step : Expr-F (Place → Ex) Ex → Ex
expr_step e = e.kind e.place

abbrev pub expr_view : Expr → Ex
expr_view = fold-Expr (Place → Ex) Ex kind_step expr_step

-- an assertion is its expression
abbrev pub assertion_view : Assertion → Ex
assertion_view a = expr_view a.value

-- instructions in order
abbrev pub inss_from : List Ins → Inss
inss_from [] = no_inss
inss_from (i ∷ is) = and_ins i (inss_from is)

-- branches in order
abbrev pub branches_from : List (Ex × Inss) → Branches
branches_from [] = no_branches
branches_from (b ∷ bs) = and_branch b.0 b.1 (branches_from bs)

-- what follows `else`
abbrev pub otherwise_from : Option (List Ins) → Otherwise
otherwise_from None = no_else
otherwise_from (Some is) = else_part (inss_from is)

-- an instruction whose parts are viewed already
abbrev pub instr_step : Instr-F Ins (Ex × Inss) → Ins
instr_step (Instr-F.Assign t e) = assign t (expr_view e)
instr_step (Instr-F.Call e) = call (expr_view e)
instr_step (Instr-F.Create p t n c args) = create p (option_map type_view t) n c (exs_from (map expr_view args.items))
instr_step (Instr-F.If bs o) = choose (branches_from bs.items) (otherwise_from (option_map (λ v. v.items) o))
instr_step (Instr-F.Loop s is e b v) = loop (inss_from s.items) (exs_from (map assertion_view is.items)) (expr_view e) (inss_from b.items) (option_map expr_view v)
instr_step (Instr-F.Check cs) = check (exs_from (map assertion_view cs.items))

-- a branch whose instructions are viewed already
abbrev pub branch_step : Branch-F Ins (Ex × Inss) → Ex × Inss
branch_step b = (expr_view b.condition, inss_from b.body.items)

abbrev pub instr_view : Instr → Ins
instr_view = fold-Instr Ins (Ex × Inss) instr_step branch_step

abbrev pub branch_view : Branch → Ex × Inss
branch_view = fold-Branch Ins (Ex × Inss) instr_step branch_step

abbrev pub group_view : Group → GroupT
group_view g = record { names = g.names.items; type_tree = type_view g.type_tree }

abbrev pub formal_view : FormalTree → FormalT
formal_view f = record { place = f.place; name = f.name; constraint = option_map type_view f.constraint }

abbrev pub clients_view : Clients → ClientsT
clients_view c = record { stated = c.stated; names = c.names.items }

abbrev pub export_view : ExportItem → ExportT
export_view e = record { clients = clients_view e.clients; all = e.all; names = e.names.items }

abbrev pub parent_view : ParentClause → ParentT
parent_view p = record {
  parent = type_view p.parent;
  renames = p.renames.items;
  exports = map export_view p.exports.items;
  undefines = p.undefines.items;
  redefines = p.redefines.items;
  selects = p.selects.items;
}

abbrev pub creators_view : CreatorPart → CreatorsT
creators_view c = record { clients = clients_view c.clients; names = c.names.items }

abbrev pub kind_view : FeatureKind → KindT
kind_view k.Attribute = attribute
kind_view (k.Constant x) = constant x
kind_view k.DeferredBody = deferred_body
kind_view (k.Routine gs is) = routine (map group_view gs.items) (inss_from (map instr_view is.items))

abbrev pub decl_view : FeatureDecl → DeclT
decl_view d = record {
  names = d.names.items;
  arguments = map group_view d.arguments.items;
  result_type = option_map type_view d.result;
  kind = kind_view d.kind;
  preconditions = exs_from (map assertion_view d.preconditions.items);
  postconditions = exs_from (map assertion_view d.postconditions.items);
}

abbrev pub features_view : FeatureClause → FeaturesT
features_view f = record { clients = clients_view f.clients; decls = map decl_view f.decls.items }

abbrev pub class_view : ClassTree → ClassT
class_view c = record {
  place = c.place;
  name = c.name;
  is_deferred = c.is_deferred;
  formals = map formal_view c.formals.items;
  parents = map parent_view c.parents.items;
  creators = map creators_view c.creators.items;
  features = map features_view c.features.items;
  invariants = exs_from (map assertion_view c.invariants.items);
}
