-- The rows of a universe while they are filled, class by class.
use Rattle.std.specs.Prelude.{◌≡◌, ℕ, true, List, length, Option, Some, slice_get}
use Rattle.eif_classes.specs.Types.{Actuals}
use Rattle.eif_derivations.specs.DerivationRows.{IsDerivationRow}
use Rattle.eif_derivations.specs.ListNumbers.{lists_of}
use Rattle.eif_derivations.specs.declared.derivation.DerivationRow.{DerivationRow}
use Rattle.eif_derivations.specs.declared.fill.Derivations.{Derivations}
use Rattle.eif_system.specs.Graph.{is_member}
use Rattle.eif_tree.specs.Tree.{ClassT}

-- these classes have their rows
abbrev pub HaveDerivations : List ClassT → List Actuals → List (Option DerivationRow) → List ℕ → Type 0
HaveDerivations u lists rows ks =
    (k : ℕ) → is_member k ks ≡ true
    → (r : DerivationRow) × (slice_get rows k ≡ Some (Some r)) × IsDerivationRow u lists k r

-- these classes of the universe are done
pub record AreDerived (u : List ClassT) (lists : List Actuals) (rows : List (Option DerivationRow)) (done : List ℕ)
    : Type 0 where
  pub long : length rows ≡ length u
  pub done_have : HaveDerivations u lists rows done

-- all classes have their rows
pub record AreDerivations (u : List ClassT) (x : Derivations) : Type 0 where
  pub long : length x.rows.items ≡ length u
  pub each : (d : ℕ) (r : DerivationRow) → slice_get x.rows.items d ≡ Some r → IsDerivationRow u (lists_of x.lists) d r
