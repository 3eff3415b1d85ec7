use Rattle.eif_choices.proofs.Clauses.{adds_candidate}
use Rattle.eif_choices.proofs.by_clause.push_candidate.Goals as goal

pub returns-in_ok-push_final-in-Some : goal.returns-in_ok-push_final-in-Some
returns-in_ok-push_final-in-Some c =
    adds_candidate c.args.clause.now c.args.finals.now c.args.k.0 c.args.feat.0 c.args.out.now.items
    c.push_final.new.out.items c.in-Some.name c.in-Some.ensures c.in_ok-push_final-in-Some.ensures
