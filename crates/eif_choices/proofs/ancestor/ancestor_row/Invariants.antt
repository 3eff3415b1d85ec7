use Rattle.std.proofs.Common.{◌≡◌, ℕ, ◌<◌, ◌≤◌, None}
use Rattle.std.specs.Prelude.{◌==◌}
use Rattle.indexmap.specs.IndexMap.{get_by}
use Rattle.eif_choices.specs.Candidacy.{AreReached}
use Rattle.eif_rows.specs.AncestorRows.{reached_at}
use Rattle.eif_choices.proofs.ancestor.ancestor_row.Given as goal

abbrev pub invariant-features : goal.invariant-features
invariant-features l = record {
  class : l.row.class_id ≡ l.k;
  bound : l.row.bound.items ≡ l.fn.bound.items;
  reached : (j : ℕ) → j < l.i → AreReached l.heir l.k.0 j (reached_at l.row j);
  absent : (j : ℕ) → l.i ≤ j → get_by (λ k. j == k) l.row.several ≡ None;
}
