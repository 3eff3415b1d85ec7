-- Closed types, which are those of objects, and classes that may have instances.
use Rattle.std.specs.Prelude.{◌≡◌, ℕ, Bool, true, ◌||◌, Some}
use Rattle.eif_tree.specs.declared.tree.Mark.TheVariants.{Detachable}
use Rattle.eif_classes.specs.KernelNumbers.{is_basic}
use Rattle.eif_classes.specs.Types.{TyT, class_type, formal_type, none_type, Actuals, no_actuals, and_actual, same_mark, actual_at, put_in_all}
use Rattle.eif_type_laws.specs.ClassTypes.{actual_count}
use Rattle.eif_meaning.specs.Values.{ClassType}
use Rattle.eif_meaning.specs.System.{System}

-- basic values are instances of their classes
abbrev pub has_instances : System → ℕ → Bool
has_instances system d = is_basic d || system.is_creatable d

-- Void may stand in a holder of the type
abbrev pub takes_void : TyT → Bool
takes_void (class_type d m ts) = same_mark m Detachable
takes_void (formal_type i m) = same_mark m Detachable
takes_void none_type = true

-- ---- closed types

abbrev mutual
  -- without formals and NONE: each class is there, and has as many actuals as formals
  pub IsClosed : System → TyT → Type 0
  IsClosed system (class_type d m ts) =
      (system.ancestry d d ≡ Some (system.formals d))
      × (actual_count ts ≡ actual_count (system.formals d))
      × AreClosed system ts
  IsClosed system (formal_type i m) = ⊥
  IsClosed system none_type = ⊥

  pub AreClosed : System → Actuals → Type 0
  AreClosed system no_actuals = Unit {0}
  AreClosed system (and_actual t ts) = IsClosed system t × AreClosed system ts

-- closed types that may stand for the formals of class d: as many, and each conforms to its constraint
pub record Suit (system : System) (d : ℕ) (xs : Actuals) : Type 0 where
  pub closed : AreClosed system xs
  pub count : actual_count xs ≡ actual_count (system.formals d)
  pub meet : (i : ℕ) (t : TyT) → system.constraint d i ≡ Some t
      → system.conforms (actual_at xs i) t ≡ true

-- what an object may be made of
pub record IsMade (system : System) (t : ClassType) : Type 0 where
  pub there : system.ancestry t.class_number t.class_number ≡ Some (system.formals t.class_number)
  pub instances : has_instances system t.class_number ≡ true
  pub suit : Suit system t.class_number t.actuals

-- on an object that was made of t, class k has the actuals xs
pub record Over (system : System) (t : ClassType) (k : ℕ) (xs : Actuals) : Type 0 where
  pub derived : Actuals
  pub gives : system.ancestry t.class_number k ≡ Some derived
  pub is : put_in_all t.actuals derived ≡ xs
