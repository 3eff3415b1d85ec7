-- Some class texts, each with its tree. The places are in file 0.
use Rattle.std.specs.Prelude.{◌≡◌, ℕ, false, List, [], ◌∷◌, ◌++◌, codes, Some, None, Ok}
use Rattle.eif_base.specs.declared.Place.{Place}
use Rattle.eif_tree.specs.declared.Mark.TheVariants.{Plain, Detachable}
use Rattle.eif_tree.specs.declared.Literal.TheVariants as lit
use Rattle.eif_tree.specs.declared.NameAt.{NameAt}
use Rattle.eif_tree.specs.Tree.{TypeT, Types, type_at, no_types, and_type, Ex, Exs, literal, void_value, unqualified, qualified, no_exs, and_ex, Ins, Inss, assign, call, no_inss, and_ins, GroupT, FormalT, no_clients, CreatorsT, attribute, routine, DeclT, ClassT}
use Rattle.eif_grammar.specs.Tokens.{Token, tokens_of}
use Rattle.eif_grammar.specs.Parts.{Text}

-- each line and a line feed
abbrev pub lines : List (List ℕ) → List ℕ
lines [] = []
lines (l ∷ ls) = l ++ 10 ∷ lines ls

-- an offset from 0, a line and a column from 1
abbrev pub at : ℕ → ℕ → ℕ → Place
at offset line column = record { file = 0; offset = offset; line = line; column = column }

abbrev pub name : Place → List ℕ → NameAt
name p text = record { place = p; name = text }

-- ---- trees

abbrev pub plain_type : Place → List ℕ → TypeT
plain_type p text = type_at p p Plain text no_types

-- the places of the mark and the name
abbrev pub detachable_type : Place → Place → List ℕ → Types → TypeT
detachable_type p q text actuals = type_at p q Detachable text actuals

abbrev pub group : NameAt → TypeT → GroupT
group n ty = record { names = n ∷ []; type_tree = ty }

abbrev pub formal : NameAt → FormalT
formal n = record { place = n.place; name = n.name; constraint = None }

abbrev pub attribute_of : NameAt → TypeT → DeclT
attribute_of n ty = record { names = n ∷ []; arguments = []; result_type = Some ty; kind = attribute; preconditions = no_exs; postconditions = no_exs }

-- the name, the arguments, the body
abbrev pub procedure : NameAt → List GroupT → Inss → DeclT
procedure n arguments body =
    record { names = n ∷ []; arguments = arguments; result_type = None; kind = routine [] body; preconditions = no_exs; postconditions = no_exs }

abbrev pub one_argument : Ex → Exs
one_argument e = and_ex e no_exs

abbrev pub one_instruction : Ins → Inss
one_instruction i = and_ins i no_inss

-- a name without arguments
abbrev pub word : Place → List ℕ → Ex
word p text = unqualified p text no_exs

abbrev pub create_part : List NameAt → CreatorsT
create_part names = record { clients = no_clients; names = names }

-- the name, the formals, the creators, and the declarations of one part
abbrev pub plain_class : NameAt → List FormalT → List CreatorsT → List DeclT → ClassT
plain_class n formals creators decls = record {
  place = n.place;
  name = n.name;
  is_deferred = false;
  formals = formals;
  parents = [];
  creators = creators;
  features = record { clients = no_clients; decls = decls } ∷ [];
  invariants = no_exs;
}

-- ---- the texts

-- a class with one procedure, whose body is empty
abbrev pub empty_app_text : List ℕ
empty_app_text = lines (
    codes "class APP" ∷
    codes "create make" ∷
    codes "feature" ∷
    codes "  make" ∷
    codes "    do" ∷
    codes "    end" ∷
    codes "end" ∷
    [])

abbrev pub empty_app : ClassT
empty_app = plain_class (name (at 6 1 7) (codes "app")) [] (create_part (name (at 17 2 8) (codes "make") ∷ []) ∷ []) (
    procedure (name (at 32 4 3) (codes "make")) [] no_inss ∷
    [])

-- an attribute, and a procedure with an argument
abbrev pub a_class_text : List ℕ
a_class_text = lines (
    codes "class A" ∷
    codes "feature" ∷
    codes "  ok: BOOLEAN" ∷
    codes "  put (x: detachable ANY)" ∷
    codes "    do" ∷
    codes "    end" ∷
    codes "end" ∷
    [])

abbrev pub a_class : ClassT
a_class = plain_class (name (at 6 1 7) (codes "a")) [] [] (
    attribute_of (name (at 18 3 3) (codes "ok")) (plain_type (at 22 3 7) (codes "boolean")) ∷
    procedure (name (at 32 4 3) (codes "put"))
    (group (name (at 37 4 8) (codes "x")) (detachable_type (at 40 4 11) (at 51 4 22) (codes "any") no_types) ∷ [])
    no_inss ∷
    [])

-- calls with and without a target
abbrev pub calling_app_text : List ℕ
calling_app_text = lines (
    codes "class APP" ∷
    codes "create make" ∷
    codes "feature" ∷
    codes "  make" ∷
    codes "    do" ∷
    codes "      run (Void)" ∷
    codes "    end" ∷
    codes "  run (x: detachable A)" ∷
    codes "    do" ∷
    codes "      x.put (Void)" ∷
    codes "    end" ∷
    codes "end" ∷
    [])

abbrev pub calling_app : ClassT
calling_app = plain_class (name (at 6 1 7) (codes "app")) [] (create_part (name (at 17 2 8) (codes "make") ∷ []) ∷ []) (
    procedure (name (at 32 4 3) (codes "make"))
    []
    (one_instruction (call (unqualified (at 50 6 7) (codes "run") (one_argument (void_value (at 55 6 12)))))) ∷
    procedure (name (at 71 8 3) (codes "run"))
    (group (name (at 76 8 8) (codes "x")) (detachable_type (at 79 8 11) (at 90 8 22) (codes "a") no_types) ∷ [])
    (one_instruction (call (qualified (at 106 10 7) (word (at 106 10 7) (codes "x")) (name (at 108 10 9) (codes "put")) (one_argument (void_value (at 113 10 14)))))) ∷
    [])

-- an assignment of a string
abbrev pub person_text : List ℕ
person_text = lines (
    codes "class PERSON" ∷
    codes "create make" ∷
    codes "feature" ∷
    codes "  name: STRING" ∷
    codes "  make" ∷
    codes "    do" ∷
    codes "      name := \"p\"" ∷
    codes "    end" ∷
    codes "end" ∷
    [])

abbrev pub person : ClassT
person = plain_class (name (at 6 1 7) (codes "person")) [] (create_part (name (at 20 2 8) (codes "make") ∷ []) ∷ []) (
    attribute_of (name (at 35 4 3) (codes "name")) (plain_type (at 41 4 9) (codes "string")) ∷
    procedure (name (at 50 5 3) (codes "make"))
    []
    (one_instruction (assign (name (at 68 7 7) (codes "name")) (literal (at 76 7 15) (lit.Text (codes "p"))))) ∷
    [])

-- notes, a formal generic, and types with actuals
abbrev pub link_text : List ℕ
link_text = lines (
    codes "note" ∷
    codes "  description: \"One cell.\"" ∷
    codes "class LINK [G]" ∷
    codes "create make" ∷
    codes "feature" ∷
    codes "  item: G" ∷
    codes "  next: detachable LINK [G]" ∷
    codes "  make (v: G)" ∷
    codes "    do" ∷
    codes "      item := v" ∷
    codes "    end" ∷
    codes "  set_next (n: detachable LINK [G])" ∷
    codes "    do" ∷
    codes "      next := n" ∷
    codes "    end" ∷
    codes "end" ∷
    [])

abbrev pub link : ClassT
link = plain_class (name (at 38 3 7) (codes "link")) (formal (name (at 44 3 13) (codes "g")) ∷ []) (create_part (name (at 54 4 8) (codes "make") ∷ []) ∷ []) (
    attribute_of (name (at 69 6 3) (codes "item")) (plain_type (at 75 6 9) (codes "g")) ∷
    attribute_of (name (at 79 7 3) (codes "next")) (detachable_type (at 85 7 9) (at 96 7 20) (codes "link") (and_type (plain_type (at 102 7 26) (codes "g")) no_types)) ∷
    procedure (name (at 107 8 3) (codes "make"))
    (group (name (at 113 8 9) (codes "v")) (plain_type (at 116 8 12) (codes "g")) ∷ [])
    (one_instruction (assign (name (at 132 10 7) (codes "item")) (word (at 140 10 15) (codes "v")))) ∷
    procedure (name (at 152 12 3) (codes "set_next"))
    (group (name (at 162 12 13) (codes "n")) (detachable_type (at 165 12 16) (at 176 12 27) (codes "link") (and_type (plain_type (at 182 12 33) (codes "g")) no_types)) ∷ [])
    (one_instruction (assign (name (at 199 14 7) (codes "next")) (word (at 207 14 15) (codes "n")))) ∷
    [])

-- ---- what is claimed of them

-- the text's tokens are those of the tree
abbrev pub IsTextOf : List ℕ → ClassT → Type 0
IsTextOf text c = (tokens : List Token) × (tokens_of 0 text ≡ Ok tokens) × Text tokens c

pub record WorkedTexts : Type 0 where
  pub of_empty_app : IsTextOf empty_app_text empty_app
  pub of_a_class : IsTextOf a_class_text a_class
  pub of_calling_app : IsTextOf calling_app_text calling_app
  pub of_person : IsTextOf person_text person
  pub of_link : IsTextOf link_text link
