-- Reach and dynamic binding, worked out, with the names, fields and creators of the same classes. Above each stands
-- its class text; the first class of a list has the number 6.
use Rattle.std.specs.Prelude.{◌≡◌, ℕ, List, [], ◌∷◌, Option, Some, None, codes}
use Rattle.eif_tree.specs.Tree.{ParentT, ClassT}
use Rattle.eif_classes.specs.Binding.{bind, reach}
use Rattle.eif_classes.specs.Creators.{Creator, creators}
use Rattle.eif_classes.specs.Features.{names, origin, fields}
use Rattle.eif_classes_laws.specs.ClassTexts.{texts, plain, routine_of, field, parent, renaming, selecting, class, inherits, creates, declares, class_at}
use Rattle.eif_classes_laws.specs.FeatureExamples.{declared, person, renamed_system}

-- ---- several versions of one feature

-- class Z feature f do end end
abbrev pub class_z : ClassT
class_z = declares (routine_of "f" ∷ []) (class "z")

-- class B inherit Z end
abbrev pub class_b : ClassT
class_b = inherits (parent "z" ∷ []) (class "b")

-- class C inherit Z rename f as g end end
abbrev pub class_c : ClassT
class_c = inherits (renaming "f" "g" (parent "z") ∷ []) (class "c")

-- class APP inherit .. create make feature make do end end
abbrev pub app : List ParentT → ClassT
app parents = inherits parents (creates ("make" ∷ []) (declares (routine_of "make" ∷ []) (class "app")))

-- Z has the number 6, B 7, C 8, and APP with these parents 9
abbrev pub with_app : List ParentT → List ClassT
with_app parents = class_z ∷ class_b ∷ class_c ∷ app parents ∷ []

-- the name in APP of Z's f
abbrev pub bound_f : List ParentT → Option (List ℕ)
bound_f parents = bind (class_at (with_app parents) 9) 6 (codes "f")

-- all names in APP of Z's f
abbrev pub reached_f : List ParentT → List (List ℕ)
reached_f parents = reach (class_at (with_app parents) 9) 6 (codes "f")

-- inherit B C
abbrev pub b_and_c : List ParentT
b_and_c = parent "b" ∷ parent "c" ∷ []

-- inherit B select f end C
abbrev pub selected_b : List ParentT
selected_b = selecting ("f" ∷ []) (parent "b") ∷ parent "c" ∷ []

-- inherit B select f end C select g end
abbrev pub selected_both : List ParentT
selected_both = selecting ("f" ∷ []) (parent "b") ∷ selecting ("g" ∷ []) (parent "c") ∷ []

-- inherit B select f end
abbrev pub selected_alone : List ParentT
selected_alone = selecting ("f" ∷ []) (parent "b") ∷ []

-- created by `make`, which is available to all
abbrev pub made : List Creator
made = record { name = codes "make"; clients = texts ("any" ∷ []) } ∷ []

-- inherit B B
abbrev pub shared_parents : List ParentT
shared_parents = parent "b" ∷ parent "b" ∷ []

-- inherit C rename g as h end
abbrev pub renamed_twice_parents : List ParentT
renamed_twice_parents = renaming "g" "h" (parent "c") ∷ []

-- inherit B rename f as h select h end C rename g as f end
abbrev pub renamed_and_selected_parents : List ParentT
renamed_and_selected_parents =
    selecting ("h" ∷ []) (renaming "f" "h" (parent "b")) ∷ renaming "g" "f" (parent "c") ∷ []

pub record VersionExamples : Type 0 where
  pub both_names : names (class_at (with_app b_and_c) 9)
      ≡ texts ("default_create" ∷ "f" ∷ "g" ∷ "make" ∷ "out" ∷ "print" ∷ [])
  pub both_origins : origin (class_at (with_app b_and_c) 9) (codes "g") ≡ declared 6 "f" (routine_of "f")
  pub both_creators : creators (class_at (with_app b_and_c) 9) ≡ made
  pub unselected : bound_f b_and_c ≡ None
  pub unselected_reach : reached_f b_and_c ≡ texts ("f" ∷ "g" ∷ [])
  pub one_selected : bound_f selected_b ≡ Some (codes "f")
  pub one_selected_reach : reached_f selected_b ≡ texts ("f" ∷ "g" ∷ [])
  -- of C's g
  pub through_c : bind (class_at (with_app selected_b) 9) 8 (codes "g") ≡ Some (codes "g")
  pub both_selected : bound_f selected_both ≡ None
  pub alone : bound_f selected_alone ≡ Some (codes "f")
  pub alone_reach : reached_f selected_alone ≡ texts ("f" ∷ [])
  pub alone_names : names (class_at (with_app selected_alone) 9)
      ≡ texts ("default_create" ∷ "f" ∷ "make" ∷ "out" ∷ "print" ∷ [])
  pub no_fields : fields (class_at (with_app selected_alone) 9) ≡ []
  pub shared : bound_f shared_parents ≡ Some (codes "f")
  pub renamed_twice : bound_f renamed_twice_parents ≡ Some (codes "h")
  pub renamed_and_selected : bound_f renamed_and_selected_parents ≡ Some (codes "h")

pub record NoVersionExamples : Type 0 where
  -- a name of the class itself
  pub own : bind (class_at (with_app selected_b) 9) 9 (codes "make") ≡ Some (codes "make")
  -- a name that APP has and Z has not
  pub unnamed : bind (class_at (with_app selected_b) 9) 6 (codes "make") ≡ None
  pub unnamed_reach : reach (class_at (with_app selected_b) 9) 6 (codes "make") ≡ []
  pub own_unnamed : bind (class_at (with_app selected_b) 9) 9 (codes "nope") ≡ None
  -- Z is no heir of APP
  pub no_heir : bind (class_at (with_app selected_b) 6) 9 (codes "make") ≡ None
  pub no_heir_reach : reach (class_at (with_app selected_b) 6) 9 (codes "make") ≡ []

-- ---- replicated fields

-- class APP inherit PERSON select name end PERSON rename name as nick end create make end
abbrev pub replicating_app : ClassT
replicating_app =
    inherits (selecting ("name" ∷ []) (parent "person") ∷ renaming "name" "nick" (parent "person") ∷ [])
    (creates ("make" ∷ []) (class "app"))

-- APP has the number 6 and PERSON 7
abbrev pub replicated_system : List ClassT
replicated_system = replicating_app ∷ person ∷ []

pub record FieldExamples : Type 0 where
  pub replicated_names : names (class_at replicated_system 6)
      ≡ texts ("default_create" ∷ "make" ∷ "name" ∷ "nick" ∷ "out" ∷ "print" ∷ [])
  pub replicated_fields : fields (class_at replicated_system 6) ≡ texts ("name" ∷ "nick" ∷ [])
  pub replicated_origin : origin (class_at replicated_system 6) (codes "nick")
      ≡ declared 7 "name" (field "name" (plain "string"))
  pub replicated_creators : creators (class_at replicated_system 6) ≡ made
  pub replicated_reach : reach (class_at replicated_system 6) 7 (codes "name")
      ≡ texts ("name" ∷ "nick" ∷ [])
  pub replicated : bind (class_at replicated_system 6) 7 (codes "name") ≡ Some (codes "name")
  pub creator : bind (class_at replicated_system 6) 7 (codes "make") ≡ Some (codes "make")
  -- class APP inherit PERSON rename make as make_person end .. with a procedure `make` of its own
  pub renamed_creator : bind (class_at renamed_system 6) 7 (codes "make") ≡ Some (codes "make_person")
  pub renamed_reach : reach (class_at renamed_system 6) 7 (codes "make") ≡ texts ("make_person" ∷ [])
  pub renamed_creators : creators (class_at renamed_system 6) ≡ made
