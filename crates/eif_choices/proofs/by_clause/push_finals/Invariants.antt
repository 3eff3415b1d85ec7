use Rattle.std.proofs.Common.{◌≡◌, ◌++◌, drop}
use Rattle.eif_choices.specs.Candidacy.{finals_of}
use Rattle.eif_choices.proofs.by_clause.push_finals.Given as goal

abbrev pub invariant-features : goal.invariant-features
invariant-features l =
    l.out.items ++ finals_of l.finals (drop l.feat-index l.features)
    ≡ l.initial.out.items ++ finals_of l.finals l.features
