-- What a class gives the formals of its ancestors, by numbers.
use Rattle.std.specs.Prelude.{◌≡◌, ℕ, List, Option, Some, slice_get}
use Rattle.eif_classes.specs.Ancestry.{ancestor}
use Rattle.eif_classes.specs.Descent.{above}
use Rattle.eif_classes.specs.Resolution.{own_formals}
use Rattle.eif_classes.specs.Types.{Actuals}
use Rattle.eif_derivations.specs.ListNumbers.{Holds}
use Rattle.eif_derivations.specs.declared.lists.ListId.{ListId}
use Rattle.eif_derivations.specs.declared.derivation.Derivation.{Derivation}
use Rattle.eif_derivations.specs.declared.derivation.DerivationRow.{DerivationRow}
use Rattle.eif_rows.specs.Matched.{Match}
use Rattle.eif_system.specs.Lineage.{line_of}
use Rattle.eif_tree.specs.Tree.{ClassT}

-- in the class d, to its proper ancestor k
pub record IsDerivation (u : List ClassT) (lists : List Actuals) (d : ℕ) (x : Derivation) (k : ℕ) : Type 0 where
  pub class : x.class_id.0 ≡ k
  pub actuals : Holds lists x.actuals (ancestor u d k)

-- of the class d: its formals, and what it gives each proper ancestor
pub record IsDerivationRow (u : List ClassT) (lists : List Actuals) (d : ℕ) (r : DerivationRow) : Type 0 where
  pub own : (c : ClassT) → slice_get u d ≡ Some c → Holds lists (Some r.own) (Some (own_formals c))
  pub ancestors_are : Match (IsDerivation u lists d) r.ancestors.items (above (line_of u d))

-- the number of what the class d gives the class k, where it is k or descends from it
abbrev pub IsGiven : List ClassT → List Actuals → ℕ → ℕ → Option ListId → Type 0
IsGiven u lists d k given = Holds lists given (ancestor u d k)
