-- What runs ask of the types of a system.
use Rattle.std.specs.Prelude.{◌≡◌, ℕ, Bool, true, ◌||◌, ◌==◌, List, Some, None}
use Rattle.eif_tree.specs.declared.tree.Mark.{Mark}
use Rattle.eif_classes.specs.KernelNumbers.{is_basic, string_number, array_number}
use Rattle.eif_classes.specs.Types.{TyT, class_type, Actuals, no_actuals, attached_form}
use Rattle.eif_meaning.specs.Values.{Object}
use Rattle.eif_meaning.specs.System.{System}
use Rattle.eif_meaning.specs.Objects.{field_type, type_of}
use Rattle.eif_run_laws.specs.ObjectTypes.{takes_void, IsMade, Over}

-- INTEGER, BOOLEAN, CHARACTER, STRING
abbrev pub is_plain_kernel : ℕ → Bool
is_plain_kernel d = is_basic d || (d == string_number)

-- the classes of the kernel but ANY
abbrev pub is_final : ℕ → Bool
is_final d = is_plain_kernel d || (d == array_number)

-- what is asked of the kernel's classes
pub record KernelLaws (system : System) : Type 0 where
  -- no class inherits from one of them but ANY
  pub final : (d k : ℕ) (xs : Actuals) → is_final k ≡ true → system.ancestry d k ≡ Some xs → d ≡ k
  -- they have no fields
  pub fieldless : (d : ℕ) (n : List ℕ) → is_final d ≡ true → field_type system d n ≡ None
  -- those without formals may have instances
  pub plain : (d : ℕ) → is_plain_kernel d ≡ true → IsMade system
      (record { class_number = d; actuals = no_actuals })

-- what is asked of conformance between closed types
pub record TypeLaws (system : System) : Type 0 where
  pub kernel : KernelLaws system
  pub transitive :
      (a b c : TyT) → system.conforms a b ≡ true → system.conforms b c ≡ true
      → system.conforms a c ≡ true
  pub void : (a b : TyT) → system.conforms a b ≡ true → takes_void a ≡ true → takes_void b ≡ true
  -- the type of an object conforms to itself
  pub same : (o : Object) → IsMade system o.made → system.conforms (type_of o) (type_of o) ≡ true
  -- to a type with any mark, where it conforms to the attached form, and to that, where it conforms to the type
  pub marks : (o : Object) (d : ℕ) (m : Mark) (xs : Actuals)
      → system.conforms (type_of o) (attached_form (class_type d m xs)) ≡ true
      → system.conforms (type_of o) (class_type d m xs) ≡ true
  pub attached : (o : Object) (t : TyT) → system.conforms (type_of o) t ≡ true
      → system.conforms (type_of o) (attached_form t) ≡ true
  -- to the class types that stand above it, by the actuals that they have on the object
  pub down : (o : Object) (k : ℕ) (m : Mark) (xs : Actuals)
      → system.conforms (type_of o) (class_type k m xs) ≡ true → Over system o.made k xs
