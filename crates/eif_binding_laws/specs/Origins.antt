-- Laws of the origins of names and of their signatures, in a system without a breach of the universe, of features and
-- of derivations.
use Rattle.std.specs.Prelude.{◌≡◌, ℕ, false, List, Some, slice_get}
use Rattle.eif_base.specs.declared.root.Root.{Root}
use Rattle.eif_classes.specs.Entries.{Declaration, declared_as, Feature}
use Rattle.eif_classes.specs.Features.{feature}
use Rattle.eif_classes.specs.Signatures.{Signature, signature}
use Rattle.eif_system.specs.Lineage.{line_of}
use Rattle.eif_system.specs.Universe.{universe}
use Rattle.eif_tree.specs.Tree.{ClassT}
use Rattle.eif_binding_laws.specs.Signatures.{IsTypeOf, OfTypes, IsSigned}
use Rattle.eif_binding_laws.specs.WellFormed.{IsDerived}

-- each name has a signature, which is that of a declaration of the class or of an ancestor, seen in the class
abbrev pub SignaturesAreDeclared : Type 0
SignaturesAreDeclared =
    (given : List ClassT) (root : Root) → IsDerived given root → (d : ℕ) (n : List ℕ) (f : Feature) →
    feature (line_of (universe given) d) n ≡ Some f →
    (s : Signature) × (signature (universe given) (line_of (universe given) d) n ≡ Some s)
    × IsSigned (universe given) d f s

-- its types are types of the class
abbrev pub SignaturesAreFormed : Type 0
SignaturesAreFormed =
    (given : List ClassT) (root : Root) → IsDerived given root → (d : ℕ) (n : List ℕ) (s : Signature) →
    signature (universe given) (line_of (universe given) d) n ≡ Some s → OfTypes (IsTypeOf (universe given) d) s

-- in a class that isn't deferred each name has a version
abbrev pub NamesHaveVersions : Type 0
NamesHaveVersions =
    (given : List ClassT) (root : Root) → IsDerived given root → (d : ℕ) (c : ClassT) →
    slice_get (universe given) d ≡ Some c → c.is_deferred ≡ false → (n : List ℕ) (f : Feature) →
    feature (line_of (universe given) d) n ≡ Some f → (x : Declaration) × (f.origin ≡ declared_as x)
