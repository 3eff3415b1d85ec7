use Rattle.std.proofs.Common.{◌≡◌, ℕ, ◌<◌, true, length}
use Rattle.eif_system.specs.Graph.{is_member, parents_of}
use Rattle.eif_ancestry.specs.Ancestries.{number_graph}
use Rattle.eif_ancestry.proofs.tests.leads_to_classes.Given as goal

abbrev pub invariant-loop-d : goal.invariant-loop-d
invariant-loop-d l = (k p : ℕ) → k < l.d → is_member p (parents_of (number_graph l.graph) k) ≡ true → p < length l.graph
