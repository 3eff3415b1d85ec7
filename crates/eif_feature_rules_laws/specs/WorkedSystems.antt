-- Whole systems with a redeclared function, a deferred feature, an actual and a wrong clause. Above each class stands
-- its text.
use Rattle.std.specs.Prelude.{◌≡◌, ℕ, [], ◌∷◌, None, Some, codes}
use Rattle.eif_base.specs.declared.code.Code.TheVariants as code
use Rattle.eif_base.specs.declared.place.Place.{Place}
use Rattle.eif_tree.specs.Tree.{void_value, unqualified, qualified, no_exs, and_ex, call, assign, no_inss, and_ins, routine, ClassT}
use Rattle.eif_system.specs.TreeForms.{attribute_of, created_by, declared, deferred_procedure, inline, procedure, spot, with_features}
use Rattle.eif_rules.specs.FaultForms.{fault_at, fault_in}
use Rattle.eif_feature_rules_laws.specs.FoundFaults.{root, found}
use Rattle.eif_feature_rules_laws.specs.PlacedClasses.{at, name, plain, maybe, maybe_of, group, command, pair, renaming, redefining, selecting, parent, class, constrained, declares}

-- ---- a redeclared function

-- class P feature f (x: P): ANY do Result := x end end
abbrev pub class_p : ClassT
class_p = record (class (at 7) "p") {
  features = with_features (
      declared (name (at 17) "f") (group (name (at 20) "x" ∷ []) (plain (at 23) "p") ∷ [])
      (Some (plain (at 27) "any"))
      (routine [] (and_ins (assign (name (at 34) "result") (unqualified (at 44) (codes "x") no_exs)) no_inss))
      ∷ []);
}

abbrev pub redeclaring_app_at : ℕ → ℕ → Place
redeclaring_app_at = spot 1 (10 ∷ 25 ∷ 12 ∷ 8 ∷ 7 ∷ 7 ∷ 8 ∷ 18 ∷ 7 ∷ 18 ∷ 8 ∷ 4 ∷ [])

-- class APP
-- inherit P redefine f end
-- create make
-- feature
--   make
--     do
--     end
--   f (x: APP): ANY
--     do
--       Result := x
--     end
-- end
abbrev pub redeclaring_app : ClassT
redeclaring_app = record (class (redeclaring_app_at 1 7) "app") {
  parents = redefining (name (redeclaring_app_at 2 20) "f" ∷ []) (parent (redeclaring_app_at 2 9) "p") ∷ [];
  creators = created_by (name (redeclaring_app_at 3 8) "make" ∷ []);
  features = with_features (
      procedure (name (redeclaring_app_at 5 3) "make") no_inss
      ∷ declared (name (redeclaring_app_at 8 3) "f")
      (group (name (redeclaring_app_at 8 6) "x" ∷ []) (plain (redeclaring_app_at 8 9) "app") ∷ [])
      (Some (plain (redeclaring_app_at 8 15) "any"))
      (routine []
      (and_ins
      (assign (name (redeclaring_app_at 10 7) "result")
      (unqualified (redeclaring_app_at 10 17) (codes "x") no_exs)) no_inss))
      ∷ []);
}

abbrev pub fitting_app_at : ℕ → ℕ → Place
fitting_app_at = spot 1 (10 ∷ 25 ∷ 12 ∷ 8 ∷ 7 ∷ 7 ∷ 8 ∷ 14 ∷ 7 ∷ 18 ∷ 8 ∷ 4 ∷ [])

-- class APP
-- inherit P redefine f end
-- create make
-- feature
--   make
--     do
--     end
--   f (x: P): P
--     do
--       Result := x
--     end
-- end
abbrev pub fitting_app : ClassT
fitting_app = record (class (fitting_app_at 1 7) "app") {
  parents = redefining (name (fitting_app_at 2 20) "f" ∷ []) (parent (fitting_app_at 2 9) "p") ∷ [];
  creators = created_by (name (fitting_app_at 3 8) "make" ∷ []);
  features = with_features (
      procedure (name (fitting_app_at 5 3) "make") no_inss
      ∷ declared (name (fitting_app_at 8 3) "f")
      (group (name (fitting_app_at 8 6) "x" ∷ []) (plain (fitting_app_at 8 9) "p") ∷ [])
      (Some (plain (fitting_app_at 8 13) "p"))
      (routine []
      (and_ins
      (assign (name (fitting_app_at 10 7) "result") (unqualified (fitting_app_at 10 17) (codes "x") no_exs))
      no_inss))
      ∷ []);
}

-- ---- a deferred feature

-- class A feature f deferred end end
abbrev pub effective_a : ClassT
effective_a = declares (deferred_procedure (name (at 17) "f") ∷ []) (class (at 7) "a")

-- ---- an actual

abbrev pub small_app_at : ℕ → ℕ → Place
small_app_at = spot 0 (10 ∷ 12 ∷ 8 ∷ 7 ∷ 7 ∷ 8 ∷ 4 ∷ [])

-- class APP
-- create make
-- feature
--   make
--     do
--     end
-- end
abbrev pub small_app : ClassT
small_app = record (class (small_app_at 1 7) "app") {
  creators = created_by (name (small_app_at 2 8) "make" ∷ []);
  features = with_features (procedure (name (small_app_at 4 3) "make") no_inss ∷ []);
}

-- class B [G -> ANY] feature f: detachable B [detachable B [ANY]] end
abbrev pub generic_b : ClassT
generic_b = record (class (inline 1 7) "b") {
  formals = constrained (inline 1 10) "g" (plain (inline 1 15) "any") ∷ [];
  features = with_features (
      attribute_of (name (inline 1 28) "f")
      (maybe_of (inline 1 31) (inline 1 42) "b"
      (maybe_of (inline 1 45) (inline 1 56) "b" (plain (inline 1 59) "any")))
      ∷ []);
}

-- ---- an unknown name renamed

abbrev pub calling_app_at : ℕ → ℕ → Place
calling_app_at = spot 0 (10 ∷ 12 ∷ 8 ∷ 7 ∷ 7 ∷ 17 ∷ 8 ∷ 24 ∷ 7 ∷ 19 ∷ 8 ∷ 4 ∷ [])

-- class APP
-- create make
-- feature
--   make
--     do
--       run (Void)
--     end
--   run (x: detachable A)
--     do
--       x.put (Void)
--     end
-- end
abbrev pub calling_app : ClassT
calling_app = record (class (calling_app_at 1 7) "app") {
  creators = created_by (name (calling_app_at 2 8) "make" ∷ []);
  features = with_features (
      procedure (name (calling_app_at 4 3) "make")
      (and_ins
      (call (unqualified (calling_app_at 6 7) (codes "run") (and_ex (void_value (calling_app_at 6 12)) no_exs)))
      no_inss)
      ∷ declared (name (calling_app_at 8 3) "run")
      (group (name (calling_app_at 8 8) "x" ∷ []) (maybe (calling_app_at 8 11) (calling_app_at 8 22) "a") ∷ [])
      None
      (routine []
      (and_ins
      (call
      (qualified (calling_app_at 10 7) (unqualified (calling_app_at 10 7) (codes "x") no_exs)
      (name (calling_app_at 10 9) "put") (and_ex (void_value (calling_app_at 10 14)) no_exs))) no_inss))
      ∷ []);
}

abbrev pub class_a_at : ℕ → ℕ → Place
class_a_at = spot 1 (8 ∷ 8 ∷ 14 ∷ 26 ∷ 7 ∷ 8 ∷ 4 ∷ [])

-- class A
-- feature
--   ok: BOOLEAN
--   put (x: detachable ANY)
--     do
--     end
-- end
abbrev pub class_a : ClassT
class_a = record (class (class_a_at 1 7) "a") {
  features = with_features (
      attribute_of (name (class_a_at 3 3) "ok") (plain (class_a_at 3 7) "boolean")
      ∷ command (class_a_at 4 3) "put"
      (group (name (class_a_at 4 8) "x" ∷ []) (maybe (class_a_at 4 11) (class_a_at 4 22) "any") ∷ [])
      ∷ []);
}

-- class H inherit A rename nope as no end end
abbrev pub class_h : ClassT
class_h = record (class (inline 2 7) "h") {
  parents = renaming (pair (inline 2 26) "nope" (inline 2 34) "no" ∷ []) (parent (inline 2 17) "a") ∷ [];
}

-- ---- a replicated body

-- class K feature f do g end g do end end
abbrev pub class_k : ClassT
class_k = record (class (inline 1 7) "k") {
  features = with_features (
      procedure (name (inline 1 17) "f") (and_ins (call (unqualified (inline 1 22) (codes "g") no_exs)) no_inss)
      ∷ procedure (name (inline 1 28) "g") no_inss
      ∷ []);
}

-- class D inherit K select f, g end K rename f as f2, g as g2 end end
abbrev pub class_d : ClassT
class_d = record (class (inline 2 7) "d") {
  parents =
      selecting (name (inline 2 26) "f" ∷ name (inline 2 29) "g" ∷ []) (parent (inline 2 17) "k")
      ∷ renaming (pair (inline 2 44) "f" (inline 2 49) "f2" ∷ pair (inline 2 53) "g" (inline 2 58) "g2" ∷ [])
      (parent (inline 2 35) "k")
      ∷ [];
}

-- class D inherit K select f end K rename f as f2 end end
abbrev pub smaller_d : ClassT
smaller_d = record (class (inline 2 7) "d") {
  parents =
      selecting (name (inline 2 26) "f" ∷ []) (parent (inline 2 17) "k")
      ∷ renaming (pair (inline 2 41) "f" (inline 2 46) "f2" ∷ []) (parent (inline 2 32) "k")
      ∷ [];
}

pub record WorkedSystems : Type 0 where
  pub redeclared : found (root "app" "make") (class_p ∷ redeclaring_app ∷ [])
      ≡ fault_in redeclaring_app (codes "f") code.Vdrd 2 (redeclaring_app_at 8 3) (codes "p") ∷ []
  pub fitting : found (root "app" "make") (class_p ∷ fitting_app ∷ []) ≡ []
  pub deferred_feature : found (root "a" "default_create") (effective_a ∷ [])
      ≡ fault_at effective_a code.Vcch 1 (at 7) (codes "f") ∷ []
  pub wrong_actual : found (root "app" "make") (small_app ∷ generic_b ∷ [])
      ≡ fault_in generic_b (codes "f") code.Xgen 2 (inline 1 45) (codes "g") ∷ []
  pub unknown_rename : found (root "app" "make") (calling_app ∷ class_a ∷ class_h ∷ [])
      ≡ fault_at class_h code.Vhrc 1 (inline 2 26) (codes "nope") ∷ []
  pub without_h : found (root "app" "make") (calling_app ∷ class_a ∷ []) ≡ []
  pub replicated_body : found (root "app" "make") (small_app ∷ class_k ∷ class_d ∷ [])
      ≡ fault_at class_d code.Xrep 1 (inline 2 7) (codes "g") ∷ []
  pub one_name : found (root "app" "make") (small_app ∷ class_k ∷ smaller_d ∷ []) ≡ []
