use Rattle.std.proofs.Common.{◌≡◌, ℕ, Some, length}
use Rattle.std.specs.Prelude.{slice_get}
use Rattle.eif_heirs.specs.DraftForms.{IsDraftAt}
use Rattle.eif_heirs.specs.declared.drafts.FeatureDraft.{FeatureDraft}
use Rattle.eif_universe.specs.Universes.{classes_of}
use Rattle.eif_heirs.proofs.drafts.feature_drafts.Given as goal

abbrev pub invariant-names : goal.invariant-names
invariant-names l =
    record {
      count : length l.drafts.items ≡ l.i;
      each : (k : ℕ) (r : FeatureDraft) → slice_get l.drafts.items k ≡ Some r → IsDraftAt (classes_of l.u) l.heir k r;
    }
