use Rattle.std.proofs.Common.{◌≡◌, ℕ, length, Some, Vec, Global}
use Rattle.std.specs.Prelude.{slice_get}
use Rattle.eif_base.specs.declared.feat_id.FeatId.{FeatId}
use Rattle.eif_choices.specs.Candidacy.{AreCandidates}
use Rattle.eif_choices.proofs.ancestor.all_candidates.Given as goal

abbrev pub invariant-features : goal.invariant-features
invariant-features l = record {
  count : length l.out.items ≡ l.i;
  each : (j : ℕ) (fs : Vec FeatId Global) → slice_get l.out.items j ≡ Some fs → AreCandidates l.heir l.k.0 j fs.items;
}
