use Rattle.std.proofs.Common.{◌≡◌, ℕ, List, length, Some}
use Rattle.std.specs.Prelude.{slice_get}
use Rattle.eif_system.specs.Graph.{IsProperAncestor}
use Rattle.eif_ancestry.specs.Ancestries.{number_graph, IsRisingListOf}
use Rattle.eif_ancestry.specs.Walks.{IsClear}
use Rattle.eif_ancestry.proofs.walk.ancestors_of_all.Given as goal

abbrev pub invariant-loop-d : goal.invariant-loop-d
invariant-loop-d l = record {
  clear : IsClear (length l.graph) l.walk.met.items l.walk.marks.items;
  long : length l.rows.items ≡ l.d;
  each : (k : ℕ) (xs : List ℕ) → slice_get l.rows.items k ≡ Some xs
      → IsRisingListOf (IsProperAncestor (number_graph l.graph) k) xs;
}
