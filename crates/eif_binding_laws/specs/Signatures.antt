-- Types of a class, and signatures of such types.
use Rattle.std.specs.Prelude.{◌≡◌, ℕ, false, List, Some, slice_get}
use Rattle.std.specs.Option.{ForSome}
use Rattle.eif_classes.specs.Ancestry.{ancestor}
use Rattle.eif_classes.specs.Entries.{Declaration, Origin, deferred, declared_as, clashing, Feature}
use Rattle.eif_classes.specs.Features.{declaration_of}
use Rattle.eif_classes.specs.Signatures.{Signature, declared_signature, with_actuals}
use Rattle.eif_classes.specs.Types.{TyT, Actuals}
use Rattle.eif_feature_rules.specs.DeclarationRules.{is_deferred_kind}
use Rattle.eif_rules.specs.UniverseRules.{formal_count}
use Rattle.eif_tree.specs.Tree.{ClassT}
use Rattle.eif_type_laws.specs.ClassTypes.{IsSomething, IsOf, IsValid}

-- t is a type of the class d: it isn't NONE, its formals are those of d, and the actuals in it meet their constraints
pub record IsTypeOf (u : List ClassT) (d : ℕ) (t : TyT) : Type 0 where
  pub something : IsSomething t
  pub formed : IsOf u (formal_count u d) t
  pub valid : IsValid u d t

-- P of each type of the signature
pub record OfTypes (P : TyT → Type 0) (s : Signature) : Type 0 where
  pub arguments : (i : ℕ) → ForSome (slice_get s.arguments i) P
  pub result : ForSome s.result P

-- ---- the declaration of a name

-- x is a declaration of the class d or of an ancestor of it, to whose formals d gives the actuals
pub record IsDeclaredAbove (u : List ClassT) (d : ℕ) (x : Declaration) : Type 0 where
  pub class : ClassT
  pub at : slice_get u x.class_number ≡ Some class
  pub declares : declaration_of class x.name ≡ Some x.tree
  pub actuals : Actuals
  pub gives : ancestor u d x.class_number ≡ Some actuals

-- the signature that a declaration writes, with the actuals that the class d gives put in
abbrev pub signature_above : (u : List ClassT) (d : ℕ) (x : Declaration) → IsDeclaredAbove u d x → Signature
signature_above u d x above = with_actuals above.actuals (declared_signature u above.class x.tree)

-- there is no version, or it is the declaration x
abbrev pub IsVersion : Origin → Declaration → Type 0
IsVersion deferred x = Unit {0}
IsVersion (declared_as y) x = (y ≡ x) × (is_deferred_kind x.tree.kind ≡ false)
IsVersion clashing x = ⊥

-- s is what the declaration that gives the signature of a feature of the class d writes, seen in d; the version, if
-- there is one, is that declaration
pub record IsSigned (u : List ClassT) (d : ℕ) (f : Feature) (s : Signature) : Type 0 where
  pub declaration : Declaration
  pub source : f.source ≡ Some declaration
  pub above : IsDeclaredAbove u d declaration
  pub signed : s ≡ signature_above u d declaration above
  pub version : IsVersion f.origin declaration
