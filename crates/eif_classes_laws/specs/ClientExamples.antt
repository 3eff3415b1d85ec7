-- Clients and creators, worked out. Above each stands its class text; the first class of a list has the
-- number 6.
use Prim.Native.String.{String}
use Rattle.std.specs.Prelude.{◌≡◌, ℕ, Bool, true, false, List, [], ◌∷◌, ◌++◌, codes}
use Rattle.eif_tree.specs.Tree.{no_clients, ParentT, CreatorsT, ClassT}
use Rattle.eif_classes.specs.Clients.{clients, is_available}
use Rattle.eif_classes.specs.Creators.{Creator, creators, is_creator_for}
use Rattle.eif_system.specs.Universe.{universe}
use Rattle.eif_classes_laws.specs.ClassTexts.{texts, names_at, routine_of, parent, renaming, redefining, selecting, clients_of, export, export_all, exporting, class, inherits, declares_too, declares_for, class_at}

-- ---- clients

-- class A feature {B, C} f do end feature g do end feature {} h do end feature {NONE} i do end end
abbrev pub class_a : ClassT
class_a =
    declares_for ("none" ∷ []) (routine_of "i" ∷ [])
    (declares_for [] (routine_of "h" ∷ [])
    (declares_too (routine_of "g" ∷ [])
    (declares_for ("b" ∷ "c" ∷ []) (routine_of "f" ∷ []) (class "a"))))

-- class B end
abbrev pub class_b : ClassT
class_b = class "b"

-- class BB inherit B end
abbrev pub class_bb : ClassT
class_bb = inherits (parent "b" ∷ []) (class "bb")

-- A has the number 6, B 7, BB 8, and the class given 9
abbrev pub with_class : ClassT → List ClassT
with_class c = class_a ∷ class_b ∷ class_bb ∷ c ∷ []

-- class D with these parents
abbrev pub class_d : List ParentT → ClassT
class_d parents = inherits parents (class "d")

-- the clients of a name in A
abbrev pub of_a : String → List (List ℕ)
of_a s = clients (class_at (with_class class_b) 6) (codes s)

-- the clients of a name in D with these parents
abbrev pub of_d : List ParentT → String → List (List ℕ)
of_d parents s = clients (class_at (with_class (class_d parents)) 9) (codes s)

-- inherit A export {D} f {NONE} all end
abbrev pub narrowed : List ParentT
narrowed = exporting (export ("d" ∷ []) ("f" ∷ []) ∷ export_all ("none" ∷ []) ∷ []) (parent "a") ∷ []

-- inherit A export {NONE} all {D} f {BB} f, g end
abbrev pub listed_twice : List ParentT
listed_twice =
    exporting
    (export_all ("none" ∷ []) ∷ export ("d" ∷ []) ("f" ∷ []) ∷ export ("bb" ∷ []) ("f" ∷ "g" ∷ []) ∷ [])
    (parent "a") ∷ []

-- inherit A rename f as k, g as f end
abbrev pub renamed : ParentT
renamed = renaming "g" "f" (renaming "f" "k" (parent "a"))

-- class D inherit A redefine f end feature {BB} f do end end
abbrev pub redeclaring_d : ClassT
redeclaring_d =
    declares_for ("bb" ∷ []) (routine_of "f" ∷ []) (class_d (redefining ("f" ∷ []) (parent "a") ∷ []))

-- inherit A
abbrev pub inherited_parents : List ParentT
inherited_parents = parent "a" ∷ []

-- inherit A rename f as k, g as f export {D} f end
abbrev pub final_parents : List ParentT
final_parents = exporting (export ("d" ∷ []) ("f" ∷ []) ∷ []) renamed ∷ []

-- inherit A A export {D} f end
abbrev pub both_parents : List ParentT
both_parents = parent "a" ∷ exporting (export ("d" ∷ []) ("f" ∷ []) ∷ []) (parent "a") ∷ []

pub record ClientExamples : Type 0 where
  pub listed : of_a "f" ≡ texts ("b" ∷ "c" ∷ [])
  pub missing_list : of_a "g" ≡ texts ("any" ∷ [])
  pub empty_list : of_a "h" ≡ []
  pub none : of_a "i" ≡ texts ("none" ∷ [])
  pub inherited : of_d inherited_parents "f" ≡ texts ("b" ∷ "c" ∷ [])
  pub inherited_from_any : of_d inherited_parents "out" ≡ texts ("any" ∷ [])
  pub named : of_d narrowed "f" ≡ texts ("d" ∷ [])
  pub all_others : of_d narrowed "g" ≡ texts ("none" ∷ [])
  pub all_of_any : of_d narrowed "out" ≡ texts ("none" ∷ [])
  -- a name counts before `all`, and the first of two items
  pub first_item : of_d listed_twice "f" ≡ texts ("d" ∷ [])
  pub later_item : of_d listed_twice "g" ≡ texts ("bb" ∷ [])
  pub no_item : of_d listed_twice "h" ≡ texts ("none" ∷ [])
  -- an item names final names
  pub final : of_d final_parents "f" ≡ texts ("d" ∷ [])
  pub no_final : of_d final_parents "k" ≡ texts ("b" ∷ "c" ∷ [])
  -- all entries count
  pub both : of_d both_parents "f" ≡ texts ("b" ∷ "c" ∷ "d" ∷ [])
  pub redeclared : clients (class_at (with_class redeclaring_d) 9) (codes "f") ≡ texts ("bb" ∷ [])
  pub absent : of_a "nope" ≡ []

-- ---- whom a feature is available to

abbrev pub narrowed_system : List ClassT
narrowed_system = with_class (class_d narrowed)

-- the name in the class with the first number is available to the class with the second
abbrev pub available : ℕ → String → ℕ → Bool
available d s k = is_available (universe narrowed_system) (class_at narrowed_system d) (codes s) k

pub record AvailabilityExamples : Type 0 where
  -- A's f to B, to its heir and to A itself
  pub to_listed : available 6 "f" 7 ≡ true
  pub to_heir : available 6 "f" 8 ≡ true
  pub to_itself : available 6 "f" 6 ≡ false
  -- A's g to INTEGER, A's h and i to A
  pub to_all : available 6 "g" 1 ≡ true
  pub to_nobody : available 6 "h" 6 ≡ false
  pub to_none : available 6 "i" 6 ≡ false
  -- D's f to D and to B
  pub narrowed_to : available 9 "f" 9 ≡ true
  pub narrowed_from : available 9 "f" 7 ≡ false

-- ---- creators

abbrev pub creator : String → List String → Creator
creator s ss = record { name = codes s; clients = texts ss }

-- create {B} make
abbrev pub first_part : List CreatorsT
first_part = record { clients = clients_of ("b" ∷ []); names = names_at ("make" ∷ []) } ∷ []

-- create {B} make create other, make
abbrev pub two_parts : List CreatorsT
two_parts = first_part ++ record { clients = no_clients; names = names_at ("other" ∷ "make" ∷ []) } ∷ []

-- class C with these creators parts and parents
abbrev pub class_c : List CreatorsT → List ParentT → ClassT
class_c parts parents = record (inherits parents (class "c")) { creators = parts }

-- inherit ANY rename default_create as dc end
abbrev pub renamed_any : ParentT
renamed_any = renaming "default_create" "dc" (parent "any")

abbrev pub of_c : List CreatorsT → List ParentT → List Creator
of_c parts parents = creators (class_at (with_class (class_c parts parents)) 9)

abbrev pub made_for_b : List ClassT
made_for_b = with_class (class_c first_part [])

-- `make` is a creator of C with the first part alone that is available to the class k
abbrev pub makes_c : ℕ → Bool
makes_c k = is_creator_for (universe made_for_b) (class_at made_for_b 9) (codes "make") k

-- inherit ANY rename default_create as dc end
abbrev pub default_renamed_parents : List ParentT
default_renamed_parents = renamed_any ∷ []

-- inherit ANY rename default_create as dc select dc end ANY
abbrev pub default_selected_parents : List ParentT
default_selected_parents = selecting ("dc" ∷ []) renamed_any ∷ parent "any" ∷ []

-- inherit ANY rename default_create as dc end ANY
abbrev pub default_unselected_parents : List ParentT
default_unselected_parents = renamed_any ∷ parent "any" ∷ []

pub record CreatorExamples : Type 0 where
  pub parts : of_c two_parts []
      ≡ creator "make" ("b" ∷ []) ∷ creator "other" ("any" ∷ []) ∷ creator "make" ("any" ∷ []) ∷ []
  pub by_default : of_c [] [] ≡ creator "default_create" ("any" ∷ []) ∷ []
  pub default_renamed : of_c [] default_renamed_parents ≡ creator "dc" ("any" ∷ []) ∷ []
  pub default_selected : of_c [] default_selected_parents ≡ creator "dc" ("any" ∷ []) ∷ []
  pub default_unselected : of_c [] default_unselected_parents ≡ []
  -- of BOOLEAN and ARRAY
  pub boolean : creators (class_at [] 2) ≡ creator "default_create" ("any" ∷ []) ∷ []
  pub array : creators (class_at [] 5) ≡ creator "make_filled" ("any" ∷ []) ∷ []
  -- to B and to A
  pub for_listed : makes_c 7 ≡ true
  pub for_other : makes_c 6 ≡ false
