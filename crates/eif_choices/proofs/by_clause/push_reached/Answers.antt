use Rattle.std.proofs.Common.{◌++◌, ap, ◌∙◌}
use Rattle.eif_choices.specs.Candidacy.{finals_of}
use Rattle.eif_choices.proofs.Clauses.{adds_reached}
use Rattle.eif_choices.proofs.by_clause.push_reached.Goals as goal

pub returns : goal.returns
returns c =
    let old = c.args.out.now.items in
    adds_reached c.args.clause.now c.args.finals.now c.args.k.0 c.args.feat.0 old c.push_finals.new.out.items
    c.in_ok-names.names.items c.in_ok-names.ensures
    (c.in_ok-push_finals.ensures ∙ ap (λ fs. old ++ finals_of c.args.finals.now fs) c.deref.ensures.value)
