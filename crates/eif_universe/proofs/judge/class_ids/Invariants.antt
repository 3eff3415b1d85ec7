use Rattle.std.proofs.Common.{◌≡◌, ◌++◌, drop}
use Rattle.eif_universe.specs.Universes.{numbers_of}
use Rattle.eif_universe.proofs.judge.class_ids.Given as goal

abbrev pub invariant-numbers : goal.invariant-numbers
invariant-numbers l = numbers_of l.ids.items ++ drop l.number-index l.numbers ≡ l.numbers
