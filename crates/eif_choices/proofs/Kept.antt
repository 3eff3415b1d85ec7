-- All names of the features of an ancestor, feature by feature.
use Rattle.std.proofs.Common.{◌≡◌, ◌≢◌, ℕ, ◌+◌, ◌<◌, List, sym, ap₂, subst, arith, below_more}
use Rattle.std.specs.Prelude.{◌==◌, slice_index_or, None}
use Rattle.std.specs.Option.{option_map_or, option_to_list}
use Rattle.indexmap.specs.IndexMap.{get_by}
use Rattle.eif_base.specs.declared.feat_id.FeatId.{FeatId}
use Rattle.eif_choices.specs.Candidacy.{AreReached}
use Rattle.eif_heirs.specs.declared.heir.Heir.{Heir}
use Rattle.eif_rows.specs.AncestorRows.{reached_at}
use Rattle.eif_rows.specs.declared.ancestor_row.AncestorRow.{AncestorRow}

-- one feature more
pub kept_more : (h : Heir) (k i : ℕ) (old new : AncestorRow) (fs : List FeatId) → AreReached h k i fs
    → new.bound.items ≡ old.bound.items → reached_at new i ≡ fs
    → ((j : ℕ) → j ≢ i → get_by (λ q. j == q) new.several ≡ get_by (λ q. j == q) old.several)
    → ((j : ℕ) → j < i → AreReached h k j (reached_at old j))
    → (j : ℕ) → j < i + 1 → AreReached h k j (reached_at new j)
kept_more h k i old new fs reached bound here others before =
    below_more (λ j. AreReached h k j (reached_at new j)) i
    (λ j lt. subst (AreReached h k j)
    (ap₂ (λ o names. option_map_or (λ fs. fs.items) o (option_to_list (slice_index_or names j None)))
    (sym (others j (λ e. omega arith))) (sym bound))
    (before j lt))
    (subst (AreReached h k i) (sym here) reached)
