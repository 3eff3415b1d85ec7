use Rattle.std.proofs.Common.{◌≡◌, ℕ, List, take}
use Rattle.std.specs.Prelude.{map}
use Rattle.eif_tree.specs.View.{class_view}
use Rattle.eif_system.specs.Universe.{class_number}
use Rattle.eif_universe.specs.ClassNumbering.{number_in}
use Rattle.eif_universe.proofs.Numbered.{Marked}
use Rattle.eif_universe.proofs.class_numbers.number_classes.Given as goal

abbrev pub invariant-classes : goal.invariant-classes
invariant-classes l = record {
  names : (n : List ℕ) → number_in l.numbers n ≡ class_number (take l.i (map class_view l.trees)) n;
  marks : Marked (map class_view l.trees) l.i l.repeated.items;
}
