-- Laws of the names that dynamic binding gives, in a system without a breach of the universe, of features and of
-- derivations.
use Rattle.std.specs.Prelude.{◌≡◌, ℕ, true, false, List, Some, None}
use Rattle.eif_base.specs.declared.root.Root.{Root}
use Rattle.eif_classes.specs.Binding.{bind}
use Rattle.eif_classes.specs.Descent.{descends}
use Rattle.eif_classes.specs.Features.{has_feature}
use Rattle.eif_system.specs.Lineage.{line_of}
use Rattle.eif_system.specs.Universe.{universe}
use Rattle.eif_tree.specs.Tree.{ClassT}
use Rattle.eif_binding_laws.specs.WellFormed.{IsDerived}

-- what is no name of the class k is bound to nothing
abbrev pub UnnamedIsUnbound : Type 0
UnnamedIsUnbound =
    (given : List ClassT) (root : Root) → IsDerived given root → (d k : ℕ) (m : List ℕ) →
    has_feature (line_of (universe given) k) m ≡ false → bind (line_of (universe given) d) k m ≡ None

-- and each name of an ancestor k is bound to a name of the class d
abbrev pub NamedIsBound : Type 0
NamedIsBound =
    (given : List ClassT) (root : Root) → IsDerived given root → (d k : ℕ) (m : List ℕ) →
    descends (line_of (universe given) d) k ≡ true → has_feature (line_of (universe given) k) m ≡ true →
    (n : List ℕ) × (bind (line_of (universe given) d) k m ≡ Some n)
    × (has_feature (line_of (universe given) d) n ≡ true)
