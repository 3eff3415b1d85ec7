use Rattle.std.proofs.Common.{◌≡◌, ◌++◌, drop}
use Rattle.eif_ancestry.specs.Ancestries.{number_graph}
use Rattle.eif_universe.specs.Universes.{lists_of}
use Rattle.eif_universe.proofs.judge.class_lists.Given as goal

abbrev pub invariant-lists : goal.invariant-lists
invariant-lists l = lists_of l.lists.items ++ number_graph (drop l.numbers-index l.graph) ≡ number_graph l.graph
