-- Parts of the grammar's rules for class texts, as functions read them, and what lists of parts are.
use Rattle.std.specs.Prelude.{◌==◌, Bool, true, false, List, ◌∷◌, ◌++◌, Option, Some, None, map}
use Rattle.std.specs.declared.vec.Vec.{Vec}
use Rattle.std.specs.declared.alloc.Global.{Global}
use Rattle.eif_tree.specs.declared.NameAt.{NameAt}
use Rattle.eif_tree.specs.declared.RenamePair.{RenamePair}
use Rattle.eif_tree.specs.declared.Literal.{Literal}
use Rattle.eif_tree.specs.declared.Literal.TheVariants as lit
use Rattle.eif_tree.specs.declared.Group.{Group}
use Rattle.eif_tree.specs.declared.FormalTree.{FormalTree}
use Rattle.eif_tree.specs.declared.ExportItem.{ExportItem}
use Rattle.eif_tree.specs.declared.ParentClause.{ParentClause}
use Rattle.eif_tree.specs.declared.CreatorPart.{CreatorPart}
use Rattle.eif_tree.specs.declared.FeatureDecl.{FeatureDecl}
use Rattle.eif_tree.specs.declared.FeatureClause.{FeatureClause}
use Rattle.eif_tree.specs.Tree.{no_clients, GroupT, FormalT, ClientsT, ExportT, ParentT, CreatorsT, DeclT, FeaturesT, ClassT}
use Rattle.eif_tree.specs.View.{group_view, formal_view, export_view, parent_view, creators_view, decl_view, features_view}
use Rattle.eif_grammar.specs.declared.terminal.Terminal.{Terminal}
use Rattle.eif_grammar.specs.declared.terminal.Terminal.TheVariants as t
use Rattle.eif_grammar.specs.Tokens.{Token}
use Rattle.eif_grammar.specs.Literals.{integer_value, character_value, string_value}
use Rattle.eif_grammar.specs.SpelledClasses.{Clause, rename_clause, export_clause, undefine_clause, redefine_clause, select_clause, clause_length}
use Rattle.eif_grammar.specs.Goals.{note_item, more_note_items, obsolete, formals, formal, more_formals, names, colon_names, clients, renames, exports, parents, creators, features, notes, invariants, instruction_goal, class_goal, token}
use Rattle.eif_grammar.specs.Parts.{most_height}
use Rattle.eif_grammar.specs.Reader.{Reader, done, refuse, look, next, call, guard, on, expect, name_of}
use Rattle.eif_grammar.specs.ClassRules.{clause_start}
use Rattle.eif_parse.specs.declared.class.ClassHead.{ClassHead}
use Rattle.eif_parse.specs.declared.parents.ClauseKind.{ClauseKind}
use Rattle.eif_parse.specs.declared.parents.ClauseKind.TheVariants as k

-- ---- lists of trees

abbrev pub names_view : Vec NameAt Global → List NameAt
names_view v = v.items

abbrev pub renames_view : Vec RenamePair Global → List RenamePair
renames_view v = v.items

abbrev pub groups_view : Vec Group Global → List GroupT
groups_view v = map group_view v.items

abbrev pub formals_view : Vec FormalTree Global → List FormalT
formals_view v = map formal_view v.items

abbrev pub exports_view : Vec ExportItem Global → List ExportT
exports_view v = map export_view v.items

abbrev pub parents_view : Vec ParentClause Global → List ParentT
parents_view v = map parent_view v.items

abbrev pub creators_parts : Vec CreatorPart Global → List CreatorsT
creators_parts v = map creators_view v.items

abbrev pub decls_view : Vec FeatureDecl Global → List DeclT
decls_view v = map decl_view v.items

abbrev pub features_parts : Vec FeatureClause Global → List FeaturesT
features_parts v = map features_view v.items

-- ---- literals and notes

-- the literal that is one token, if it is one
abbrev pub literal_value : Terminal → Token → Option Literal
literal_value t.Integer w = Some (lit.Int (integer_value w.text))
literal_value t.Character w = Some (lit.Char (character_value w.text))
literal_value t.StringText w = Some (lit.Text (string_value w.text))
literal_value t.True w = Some (lit.Bool true)
literal_value t.False w = Some (lit.Bool false)
literal_value _ w = None

-- one item or more
abbrev pub note_items : Reader (Unit {0})
note_items = call (class_goal note_item) (λ _. call (class_goal more_note_items) done)

-- ---- names, formals, clients

-- the names behind these, and the colon
abbrev pub names_behind : List NameAt → Reader (List NameAt)
names_behind ns = call (class_goal colon_names) (λ ms. done (ns ++ ms))

-- one formal or more
abbrev pub formal_list : Reader (List FormalT)
formal_list =
    call (class_goal formal) (λ f.
    call (class_goal more_formals) (λ fs. done (f ∷ fs)))

-- clients, if they are written
abbrev pub maybe_clients : Reader ClientsT
maybe_clients = on t.OpenBrace (call (class_goal clients) done) (done no_clients)

-- ---- parents

abbrev pub clause_of : ClauseKind → Clause
clause_of k.Rename = rename_clause
clause_of k.Export = export_clause
clause_of k.Undefine = undefine_clause
clause_of k.Redefine = redefine_clause
clause_of k.Select = select_clause

-- what the clause of that kind says, behind its word
abbrev pub clause_body : ParentT → Clause → Reader ParentT
clause_body p rename_clause = call (class_goal renames) (λ rs. done (record p { renames = rs }))
clause_body p export_clause = call (class_goal exports) (λ xs. done (record p { exports = xs }))
clause_body p undefine_clause = call (class_goal names) (λ ns. done (record p { undefines = ns }))
clause_body p redefine_clause = call (class_goal names) (λ ns. done (record p { redefines = ns }))
clause_body p select_clause = call (class_goal names) (λ ns. done (record p { selects = ns }))

abbrev pub clause_with : ParentT → Option Clause → Reader ParentT
clause_with p None = refuse
clause_with p (Some c) = guard (clause_length p c == 0) (next (λ _. clause_body p c))

-- one clause, behind this much of a parent
abbrev pub clause : ParentT → Reader ParentT
clause p = look (λ x. clause_with p (clause_start x))

-- ---- the class

-- a class text from its word `class` up to its parents
abbrev pub class_head : Reader (NameAt × List FormalT)
class_head =
    expect t.Class (
    call (token t.Identifier) (λ n.
    call (class_goal formals) (λ fs.
    call (class_goal obsolete) (λ _. done (name_of n, fs)))))

abbrev pub head_view : ClassHead → NameAt × List FormalT
head_view h = (h.name, formals_view h.formals)

-- the class text from its parents on
abbrev pub class_rest : Bool → NameAt × List FormalT → Reader ClassT
class_rest is_deferred h =
    call (class_goal parents) (λ ps.
    call (class_goal creators) (λ cs.
    call (class_goal features) (λ ds.
    call (instruction_goal (invariants most_height)) (λ is.
    call (class_goal notes) (λ _.
    expect t.End (done (record {
      place = h.0.place;
      name = h.0.name;
      is_deferred = is_deferred;
      formals = h.1;
      parents = ps;
      creators = cs;
      features = ds;
      invariants = is;
    })))))))
