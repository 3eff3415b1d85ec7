-- The faults of a name by its version.
use Rattle.std.specs.Prelude.{ℕ, not, ◌&&◌, List, [], ◌∷◌, Option, Some, None}
use Rattle.eif_base.specs.declared.code.Code.TheVariants as code
use Rattle.eif_base.specs.declared.fault.Fault.{Fault}
use Rattle.eif_classes.specs.Entries.{Feature}
use Rattle.eif_heirs.specs.declared.drafts.FeatureDraft.{FeatureDraft}
use Rattle.eif_rows.specs.Versions.{is_deferred_version, IsVersionIfOne}
use Rattle.eif_rows.specs.declared.version.Version.{Version}
use Rattle.eif_rules.specs.FaultForms.{fault_at, fault_where}
use Rattle.eif_tree.specs.Tree.{ClassT}

-- the draft has the version of the feature
abbrev pub HasVersion : List ClassT → FeatureDraft → Feature → Type 0
HasVersion u r f = IsVersionIfOne u r.version f.origin

-- of the name n of the class c; there is no version where several clash
abbrev pub version_faults : ClassT → List ℕ → Option Version → List Fault
version_faults c n None = fault_at c code.Vmfn 3 c.place n ∷ []
version_faults c n (Some v) =
    fault_where (is_deferred_version v && not c.is_deferred) (fault_at c code.Vcch 1 c.place n)
