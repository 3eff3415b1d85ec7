-- How the parts of a class text are read: one rule for each goal.
use Rattle.std.specs.Prelude.{◌==◌, pos, ◌-ℤ◌, true, false, Bool, List, [], ◌∷◌, Option, Some, None}
use Rattle.std.specs.Str.{str_to_ascii_lowercase}
use Rattle.eif_tree.specs.declared.NameAt.{NameAt}
use Rattle.eif_tree.specs.declared.Literal.{Literal}
use Rattle.eif_tree.specs.declared.Literal.TheVariants as lit
use Rattle.eif_tree.specs.Tree.{TypeT, no_exs, GroupT, ParentT, attribute, constant, deferred_body, routine, KindT, DeclT, ClientsT, no_clients, FeaturesT, CreatorsT, ClassT}
use Rattle.eif_grammar.specs.declared.terminal.Terminal.{Terminal}
use Rattle.eif_grammar.specs.declared.terminal.Terminal.TheVariants as t
use Rattle.eif_grammar.specs.Literals.{integer_value, character_value, string_value}
use Rattle.eif_grammar.specs.Forms.{begins_routine, begins_clause}
use Rattle.eif_grammar.specs.SpelledClasses.{Clause, rename_clause, export_clause, undefine_clause, redefine_clause, select_clause, clause_length}
use Rattle.eif_grammar.specs.Goals.{written, unmarked, semis, assertions, invariants, compound, ClassGoal, ClassFound, notes, note_entries, note_item, more_note_items, literal, obsolete, formals, formal, more_formals, names, more_names, colon_names, clients, rename, renames, more_renames, export, exports, more_exports, clauses, more_clauses, parent, parents, more_parents, creators, group, more_groups, groups_behind, formal_arguments, local_groups, locals, result_type, conditions, body, routine_rest, declaration, declarations, features, class_text, type_goal, instruction_goal, class_goal, token}
use Rattle.eif_grammar.specs.Parts.{most_height}
use Rattle.eif_grammar.specs.Reader.{Reader, done, refuse, look, next, call, guard, fork, on, expect, name_of}

-- ---- literals

-- how a literal begins
pub data LiteralStart : Type 0 where
  plus : LiteralStart
  minus : LiteralStart
  integer : LiteralStart
  character : LiteralStart
  string : LiteralStart
  truth : LiteralStart
  falsehood : LiteralStart
  no_literal : LiteralStart

abbrev pub literal_start : Terminal → LiteralStart
literal_start t.Plus = plus
literal_start t.Minus = minus
literal_start t.Integer = integer
literal_start t.Character = character
literal_start t.StringText = string
literal_start t.True = truth
literal_start t.False = falsehood
literal_start _ = no_literal

abbrev pub literal_by : LiteralStart → Reader Literal
literal_by plus = next (λ _. call (token t.Integer) (λ x. done (lit.Int (integer_value x.text))))
literal_by minus = next (λ _. call (token t.Integer) (λ x. done (lit.Int (pos 0 -ℤ integer_value x.text))))
literal_by integer = next (λ x. done (lit.Int (integer_value x.text)))
literal_by character = next (λ x. done (lit.Char (character_value x.text)))
literal_by string = next (λ x. done (lit.Text (string_value x.text)))
literal_by truth = next (λ _. done (lit.Bool true))
literal_by falsehood = next (λ _. done (lit.Bool false))
literal_by no_literal = refuse

-- ---- clients

abbrev pub these_clients : List NameAt → ClientsT
these_clients ns = record { stated = true; names = ns }

-- ---- parents

-- a parent of which nothing is changed
abbrev pub unchanged : TypeT → ParentT
unchanged ty = record { parent = ty; renames = []; exports = []; undefines = []; redefines = []; selects = [] }

-- which clause begins
abbrev pub clause_start : Terminal → Option Clause
clause_start t.Rename = Some rename_clause
clause_start t.Export = Some export_clause
clause_start t.Undefine = Some undefine_clause
clause_start t.Redefine = Some redefine_clause
clause_start t.Select = Some select_clause
clause_start _ = None

abbrev pub go_on : ParentT → Reader ParentT
go_on p = call (class_goal (more_clauses p)) done

-- what the clause of that kind says
abbrev pub clause_by : ParentT → Clause → Reader ParentT
clause_by p rename_clause = call (class_goal renames) (λ rs. go_on (record p { renames = rs }))
clause_by p export_clause = call (class_goal exports) (λ xs. go_on (record p { exports = xs }))
clause_by p undefine_clause = call (class_goal names) (λ ns. go_on (record p { undefines = ns }))
clause_by p redefine_clause = call (class_goal names) (λ ns. go_on (record p { redefines = ns }))
clause_by p select_clause = call (class_goal names) (λ ns. go_on (record p { selects = ns }))

-- each kind of clause stands at most once
abbrev pub clauses_by : ParentT → Option Clause → Reader ParentT
clauses_by p None = refuse
clauses_by p (Some c) = guard (clause_length p c == 0) (next (λ _. clause_by p c))

-- a parent, and those after it
abbrev pub parents_from : Reader (List ParentT)
parents_from =
    call (class_goal parent) (λ p.
    call (instruction_goal semis) (λ _.
    call (class_goal more_parents) (λ ps. done (p ∷ ps))))

-- ---- features

abbrev pub creators_of : ClientsT → Reader (List CreatorsT)
creators_of c =
    call (class_goal names) (λ ns.
    call (class_goal creators) (λ cs. done (record { clients = c; names = ns } ∷ cs)))

abbrev pub features_of : ClientsT → Reader (List FeaturesT)
features_of c =
    call (class_goal declarations) (λ ds.
    call (class_goal features) (λ fs. done (record { clients = c; decls = ds } ∷ fs)))

-- a group, and those after it
abbrev pub groups_from : Reader (List GroupT)
groups_from =
    call (class_goal group) (λ g.
    call (class_goal more_groups) (λ gs. done (g ∷ gs)))

abbrev pub attributes : List NameAt → TypeT → KindT → DeclT
attributes ns ty k = record { names = ns; arguments = []; result_type = Some ty; kind = k; preconditions = no_exs; postconditions = no_exs }

-- a constant's value behind its type, or an attribute's end
abbrev pub value_of : List NameAt → TypeT → Reader DeclT
value_of ns ty =
    on t.Equal (next (λ _. call (class_goal literal) (λ x. done (attributes ns ty (constant x)))))
    (done (attributes ns ty attribute))

-- behind the colon of one name: a routine, or an attribute
abbrev pub typed_by : NameAt → TypeT → Bool → Reader DeclT
typed_by n ty begins = fork begins (call (class_goal (routine_rest n [] (Some ty))) done) (value_of (n ∷ []) ty)

abbrev pub typed : NameAt → Reader DeclT
typed n = call (type_goal (written most_height)) (λ ty. look (λ x. typed_by n ty (begins_routine x)))

-- behind the comma after one name
abbrev pub several : NameAt → Reader DeclT
several n =
    call (token t.Identifier) (λ m.
    call (class_goal colon_names) (λ ms.
    call (type_goal (written most_height)) (λ ty. value_of (n ∷ name_of m ∷ ms) ty)))

-- behind a name that is no attribute's
abbrev pub routine_from : NameAt → Reader DeclT
routine_from n =
    call (class_goal formal_arguments) (λ args.
    call (class_goal result_type) (λ ty.
    call (class_goal (routine_rest n args ty)) done))

-- ---- the class

abbrev pub class_from : Bool → Reader ClassT
class_from is_deferred =
    expect t.Class (
    call (token t.Identifier) (λ n.
    call (class_goal formals) (λ fs.
    call (class_goal obsolete) (λ _.
    call (class_goal parents) (λ ps.
    call (class_goal creators) (λ cs.
    call (class_goal features) (λ ds.
    call (instruction_goal (invariants most_height)) (λ is.
    call (class_goal notes) (λ _.
    expect t.End (done (record {
      place = n.place;
      name = str_to_ascii_lowercase n.text;
      is_deferred = is_deferred;
      formals = fs;
      parents = ps;
      creators = cs;
      features = ds;
      invariants = is;
    })))))))))))

abbrev pub class_rule : (g : ClassGoal) → Reader (ClassFound g)
class_rule notes = on t.Note (next (λ _. call (class_goal note_entries) done)) (done tt)
class_rule note_entries =
    on t.Identifier (next (λ _.
    expect t.Colon (
    call (class_goal note_item) (λ _.
    call (class_goal more_note_items) (λ _.
    call (instruction_goal semis) (λ _.
    call (class_goal note_entries) done))))))
    (done tt)
class_rule note_item = on t.Identifier (next (λ _. done tt)) (call (class_goal literal) (λ _. done tt))
class_rule more_note_items =
    on t.Comma (next (λ _.
    call (class_goal note_item) (λ _.
    call (class_goal more_note_items) done)))
    (done tt)
class_rule literal = look (λ x. literal_by (literal_start x))
class_rule obsolete = on t.Obsolete (next (λ _. expect t.StringText (done tt))) (done tt)
class_rule formals =
    on t.OpenBracket (next (λ _.
    call (class_goal formal) (λ f.
    call (class_goal more_formals) (λ fs.
    expect t.CloseBracket (done (f ∷ fs))))))
    (done [])
class_rule formal =
    call (token t.Identifier) (λ n.
    on t.Arrow (next (λ _.
    call (type_goal (written most_height)) (λ ty. done (record { place = n.place; name = str_to_ascii_lowercase n.text; constraint = Some ty }))))
    (done (record { place = n.place; name = str_to_ascii_lowercase n.text; constraint = None })))
class_rule more_formals =
    on t.Comma (next (λ _.
    call (class_goal formal) (λ f.
    call (class_goal more_formals) (λ fs. done (f ∷ fs)))))
    (done [])
class_rule names =
    call (token t.Identifier) (λ n.
    call (class_goal more_names) (λ ns. done (name_of n ∷ ns)))
class_rule more_names = on t.Comma (next (λ _. call (class_goal names) done)) (done [])
class_rule colon_names =
    on t.Comma (next (λ _.
    call (token t.Identifier) (λ n.
    call (class_goal colon_names) (λ ns. done (name_of n ∷ ns)))))
    (expect t.Colon (done []))
class_rule clients =
    expect t.OpenBrace (
    on t.CloseBrace (next (λ _. done (these_clients [])))
    (call (class_goal names) (λ ns.
    expect t.CloseBrace (done (these_clients ns)))))
class_rule rename =
    call (token t.Identifier) (λ old.
    expect t.As (
    call (token t.Identifier) (λ new. done (record { old_name = name_of old; new_name = name_of new }))))
class_rule renames =
    call (class_goal rename) (λ r.
    call (class_goal more_renames) (λ rs. done (r ∷ rs)))
class_rule more_renames = on t.Comma (next (λ _. call (class_goal renames) done)) (done [])
class_rule export =
    call (class_goal clients) (λ c.
    on t.All (next (λ word. done (record { clients = c; all = Some word.place; names = [] })))
    (call (class_goal names) (λ ns. done (record { clients = c; all = None; names = ns }))))
class_rule exports =
    call (class_goal export) (λ x.
    call (instruction_goal semis) (λ _.
    call (class_goal more_exports) (λ xs. done (x ∷ xs))))
class_rule more_exports = on t.OpenBrace (call (class_goal exports) done) (done [])
class_rule (clauses p) = look (λ x. clauses_by p (clause_start x))
class_rule (more_clauses p) =
    look (λ x. fork (begins_clause x) (call (class_goal (clauses p)) done) (expect t.End (done p)))
class_rule parent =
    call (type_goal (unmarked most_height)) (λ ty.
    look (λ x. fork (begins_clause x) (call (class_goal (clauses (unchanged ty))) done) (done (unchanged ty))))
class_rule parents = on t.Inherit (next (λ _. parents_from)) (done [])
class_rule more_parents = on t.Identifier parents_from (done [])
class_rule creators =
    on t.Create (next (λ _. on t.OpenBrace (call (class_goal clients) creators_of) (creators_of no_clients)))
    (done [])
class_rule group =
    call (token t.Identifier) (λ n.
    call (class_goal colon_names) (λ ns.
    call (type_goal (written most_height)) (λ ty. done (record { names = name_of n ∷ ns; type_tree = ty }))))
class_rule more_groups =
    on t.Semicolon (next (λ _. call (class_goal groups_behind) done))
    (on t.Identifier groups_from (done []))
class_rule groups_behind = on t.Semicolon (next (λ _. call (class_goal groups_behind) done)) groups_from
class_rule formal_arguments =
    on t.OpenParenthesis (next (λ _.
    call (class_goal group) (λ g.
    call (class_goal more_groups) (λ gs.
    expect t.CloseParenthesis (done (g ∷ gs))))))
    (done [])
class_rule local_groups =
    on t.Identifier (
    call (class_goal group) (λ g.
    call (instruction_goal semis) (λ _.
    call (class_goal local_groups) (λ gs. done (g ∷ gs)))))
    (done [])
class_rule locals = on t.Local (next (λ _. call (class_goal local_groups) done)) (done [])
class_rule result_type = on t.Colon (next (λ _. call (type_goal (written most_height)) (λ ty. done (Some ty)))) (done None)
class_rule (conditions first second) =
    on first (next (λ _.
    on second (next (λ _. call (instruction_goal (assertions most_height)) done))
    (call (instruction_goal (assertions most_height)) done)))
    (done no_exs)
class_rule body =
    on t.Deferred (next (λ _. done deferred_body))
    (call (class_goal locals) (λ ls.
    expect t.Do (
    call (instruction_goal (compound most_height)) (λ is. done (routine ls is)))))
class_rule (routine_rest n args ty) =
    call (class_goal obsolete) (λ _.
    call (class_goal (conditions t.Require t.Else)) (λ pre.
    call (class_goal body) (λ k.
    call (class_goal (conditions t.Ensure t.Then)) (λ post.
    expect t.End (done (record {
      names = n ∷ [];
      arguments = args;
      result_type = ty;
      kind = k;
      preconditions = pre;
      postconditions = post;
    }))))))
class_rule declaration =
    call (token t.Identifier) (λ n.
    on t.Comma (next (λ _. several (name_of n)))
    (on t.Colon (next (λ _. typed (name_of n)))
    (routine_from (name_of n))))
class_rule declarations =
    on t.Identifier (
    call (class_goal declaration) (λ d.
    call (instruction_goal semis) (λ _.
    call (class_goal declarations) (λ ds. done (d ∷ ds)))))
    (done [])
class_rule features =
    on t.Feature (next (λ _. on t.OpenBrace (call (class_goal clients) features_of) (features_of no_clients)))
    (done [])
class_rule class_text =
    call (class_goal notes) (λ _.
    on t.Deferred (next (λ _. class_from true)) (class_from false))
