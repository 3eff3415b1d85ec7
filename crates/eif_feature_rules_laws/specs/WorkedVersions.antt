-- Whole systems with renamed, selected and replicated features. Above each class stands its text.
use Rattle.std.specs.Prelude.{◌≡◌, ℕ, [], ◌∷◌, codes}
use Rattle.eif_base.specs.declared.code.Code.TheVariants as code
use Rattle.eif_base.specs.declared.place.Place.{Place}
use Rattle.eif_tree.specs.declared.tree.Literal.TheVariants as value
use Rattle.eif_tree.specs.Tree.{literal, unqualified, no_exs, call, assign, no_inss, and_ins, ClassT}
use Rattle.eif_system.specs.TreeForms.{attribute_of, created_by, inline, procedure, spot, with_features}
use Rattle.eif_rules.specs.FaultForms.{fault_at}
use Rattle.eif_feature_rules_laws.specs.FoundFaults.{root, found}
use Rattle.eif_feature_rules_laws.specs.PlacedClasses.{at, name, plain, pair, renaming, selecting, parent, class, inherits, declares}

-- ---- a renamed creator

abbrev pub person_at : ℕ → ℕ → Place
person_at = spot 1 (13 ∷ 12 ∷ 8 ∷ 15 ∷ 7 ∷ 7 ∷ 18 ∷ 8 ∷ 4 ∷ [])

-- class PERSON
-- create make
-- feature
--   name: STRING
--   make
--     do
--       name := "p"
--     end
-- end
abbrev pub person : ClassT
person = record (class (person_at 1 7) "person") {
  creators = created_by (name (person_at 2 8) "make" ∷ []);
  features = with_features (
      attribute_of (name (person_at 4 3) "name") (plain (person_at 4 9) "string")
      ∷ procedure (name (person_at 5 3) "make")
      (and_ins (assign (name (person_at 7 7) "name") (literal (person_at 7 15) (value.Text (codes "p"))))
      no_inss)
      ∷ []);
}

abbrev pub renaming_app_at : ℕ → ℕ → Place
renaming_app_at = spot 0 (10 ∷ 46 ∷ 12 ∷ 8 ∷ 16 ∷ 7 ∷ 7 ∷ 18 ∷ 19 ∷ 8 ∷ 4 ∷ [])

-- class APP
-- inherit PERSON rename make as make_person end
-- create make
-- feature
--   title: STRING
--   make
--     do
--       make_person
--       title := "t"
--     end
-- end
abbrev pub renaming_app : ClassT
renaming_app = record (class (renaming_app_at 1 7) "app") {
  parents =
      renaming (pair (renaming_app_at 2 23) "make" (renaming_app_at 2 31) "make_person" ∷ [])
      (parent (renaming_app_at 2 9) "person")
      ∷ [];
  creators = created_by (name (renaming_app_at 3 8) "make" ∷ []);
  features = with_features (
      attribute_of (name (renaming_app_at 5 3) "title") (plain (renaming_app_at 5 10) "string")
      ∷ procedure (name (renaming_app_at 6 3) "make")
      (and_ins (call (unqualified (renaming_app_at 8 7) (codes "make_person") no_exs))
      (and_ins
      (assign (name (renaming_app_at 9 7) "title") (literal (renaming_app_at 9 16) (value.Text (codes "t"))))
      no_inss))
      ∷ []);
}

-- ---- two versions of a feature

-- class Z feature f do end end
abbrev pub class_z : ClassT
class_z = declares (procedure (name (at 17) "f") no_inss ∷ []) (class (at 7) "z")

-- class B inherit Z end
abbrev pub class_b : ClassT
class_b = inherits (parent (inline 1 17) "z" ∷ []) (class (inline 1 7) "b")

-- class C inherit Z rename f as g end end
abbrev pub class_c : ClassT
class_c = record (class (inline 2 7) "c") {
  parents = renaming (pair (inline 2 26) "f" (inline 2 31) "g" ∷ []) (parent (inline 2 17) "z") ∷ [];
}

abbrev pub undecided_app_at : ℕ → ℕ → Place
undecided_app_at = spot 3 (10 ∷ 8 ∷ 4 ∷ 4 ∷ 12 ∷ 8 ∷ 7 ∷ 7 ∷ 8 ∷ 4 ∷ [])

-- class APP
-- inherit
--   B
--   C
-- create make
-- feature
--   make
--     do
--     end
-- end
abbrev pub undecided_app : ClassT
undecided_app = record (class (undecided_app_at 1 7) "app") {
  parents = parent (undecided_app_at 3 3) "b" ∷ parent (undecided_app_at 4 3) "c" ∷ [];
  creators = created_by (name (undecided_app_at 5 8) "make" ∷ []);
  features = with_features (procedure (name (undecided_app_at 7 3) "make") no_inss ∷ []);
}

abbrev pub selecting_app_at : ℕ → ℕ → Place
selecting_app_at = spot 3 (10 ∷ 8 ∷ 17 ∷ 4 ∷ 12 ∷ 8 ∷ 7 ∷ 7 ∷ 8 ∷ 4 ∷ [])

-- class APP
-- inherit
--   B select f end
--   C
-- create make
-- feature
--   make
--     do
--     end
-- end
abbrev pub selecting_app : ClassT
selecting_app = record (class (selecting_app_at 1 7) "app") {
  parents =
      selecting (name (selecting_app_at 3 12) "f" ∷ []) (parent (selecting_app_at 3 3) "b")
      ∷ parent (selecting_app_at 4 3) "c"
      ∷ [];
  creators = created_by (name (selecting_app_at 5 8) "make" ∷ []);
  features = with_features (procedure (name (selecting_app_at 7 3) "make") no_inss ∷ []);
}

abbrev pub needless_app_at : ℕ → ℕ → Place
needless_app_at = spot 3 (10 ∷ 8 ∷ 17 ∷ 12 ∷ 8 ∷ 7 ∷ 7 ∷ 8 ∷ 4 ∷ [])

-- class APP
-- inherit
--   B select f end
-- create make
-- feature
--   make
--     do
--     end
-- end
abbrev pub needless_app : ClassT
needless_app = record (class (needless_app_at 1 7) "app") {
  parents = selecting (name (needless_app_at 3 12) "f" ∷ []) (parent (needless_app_at 3 3) "b") ∷ [];
  creators = created_by (name (needless_app_at 4 8) "make" ∷ []);
  features = with_features (procedure (name (needless_app_at 6 3) "make") no_inss ∷ []);
}

-- ---- a replicated field

abbrev pub replicating_app_at : ℕ → ℕ → Place
replicating_app_at = spot 0 (10 ∷ 8 ∷ 25 ∷ 33 ∷ 12 ∷ 8 ∷ 4 ∷ [])

-- class APP
-- inherit
--   PERSON select name end
--   PERSON rename name as nick end
-- create make
-- feature
-- end
abbrev pub replicating_app : ClassT
replicating_app = record (class (replicating_app_at 1 7) "app") {
  parents =
      selecting (name (replicating_app_at 3 17) "name" ∷ []) (parent (replicating_app_at 3 3) "person")
      ∷ renaming (pair (replicating_app_at 4 17) "name" (replicating_app_at 4 25) "nick" ∷ [])
      (parent (replicating_app_at 4 3) "person")
      ∷ [];
  creators = created_by (name (replicating_app_at 5 8) "make" ∷ []);
  features = with_features ([]);
}

pub record WorkedVersions : Type 0 where
  pub renamed_creator : found (root "app" "make") (renaming_app ∷ person ∷ []) ≡ []
  pub undecided : found (root "app" "make") (class_z ∷ class_b ∷ class_c ∷ undecided_app ∷ [])
      ≡ fault_at undecided_app code.Vmrc 1 (undecided_app_at 1 7) (codes "f") ∷ []
  pub selected : found (root "app" "make") (class_z ∷ class_b ∷ class_c ∷ selecting_app ∷ []) ≡ []
  pub needless : found (root "app" "make") (class_z ∷ class_b ∷ class_c ∷ needless_app ∷ [])
      ≡ fault_at needless_app code.Vmss 3 (needless_app_at 3 12) (codes "f") ∷ []
  pub replicated_field : found (root "app" "make") (replicating_app ∷ person ∷ []) ≡ []
