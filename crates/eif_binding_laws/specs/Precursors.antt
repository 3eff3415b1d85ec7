-- The law of `Precursor`, in a system without a breach.
use Rattle.std.specs.Prelude.{◌≡◌, ℕ, List, Option, Some}
use Rattle.eif_base.specs.declared.root.Root.{Root}
use Rattle.eif_classes.specs.Entries.{Declaration, declared_as}
use Rattle.eif_classes.specs.Precursors.{precursor}
use Rattle.eif_classes.specs.Signatures.{SignedEntry, signed_entries_in}
use Rattle.eif_system.specs.Lineage.{line_of}
use Rattle.eif_system.specs.Universe.{universe}
use Rattle.eif_tree.specs.Tree.{ClassT}
use Rattle.eif_binding_laws.specs.KeptSignatures.{Serves}
use Rattle.eif_binding_laws.specs.WellFormed.{IsWellFormed}

-- the entry for which it stands has a version, which serves the signature with which the class sees the entry
abbrev pub PrecursorsServe : Type 0
PrecursorsServe =
    (given : List ClassT) (root : Root) → IsWellFormed given root → (d : ℕ) (n : List ℕ) (parent : Option (List ℕ))
    (s : SignedEntry) →
    precursor (λ s. s.entry) parent (signed_entries_in (universe given) (line_of (universe given) d) n) ≡ Some s →
    (x : Declaration) × (s.entry.feature.origin ≡ declared_as x) × Serves (universe given) d x s.signature
