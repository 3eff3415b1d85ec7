use Rattle.std.proofs.Common.{◌≡◌, ◌++◌, drop}
use Rattle.std.specs.List.{filter}
use Rattle.eif_choices.specs.Picked.{is_flagged}
use Rattle.eif_choices.proofs.picked.picked.Given as goal

abbrev pub invariant-candidates : goal.invariant-candidates
invariant-candidates l =
    l.chosen.items ++ filter (is_flagged l.selected) (drop l.feat-index l.candidates)
    ≡ filter (is_flagged l.selected) l.candidates
