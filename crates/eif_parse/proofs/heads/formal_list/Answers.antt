use Rattle.std.proofs.Common.{◌≡◌, map, ◌++◌, ◌∷◌, [], drop, arith}
use Rattle.std.proofs.lemmas.Grind.{common_steps}
use Rattle.eif_tree.specs.View.{formal_view}
use Rattle.eif_grammar.specs.Goals.{formal, class_goal}
use Rattle.eif_grammar.specs.Outcomes.{got, refused, Runs, Calls}
use Rattle.eif_grammar_laws.proofs.Readers.{call_refused}
use Rattle.eif_parse_expr.proofs.Steps.{relay}
use Rattle.eif_parse.specs.ClassSubrules.{formal_list, formals_view}
use Rattle.eif_parse.proofs.Lists.{behind, behind-more}
use Rattle.eif_parse.proofs.HeadSteps.{last_formal, one_more_formal}
use Rattle.eif_parse.proofs.heads.formal_list.Goals as goal

pub returns-in_err-one : goal.returns-in_err-one
returns-in_err-one c =
    let a = c.args in let all = a.tokens.now.tokens in let i = c.formals.invariant in
    relay (Calls (class_goal formal) (drop c.formals.next all)) (Runs formal_list (drop a.from all)) formal_view formals_view all c.formals.next a.from _ _
    c.from_residual.ensures.1 c.in_err-one.ensures i.forward (λ rest r. i.goes_on (refused rest) (call_refused r))

pub returns-in_default : goal.returns-in_default
returns-in_default c =
    let a = c.args in let all = a.tokens.now.tokens in let i = c.formals.invariant in let one = c.in_ok-one.one in let r = c.in_ok-one.ensures in
    let before = map formal_view c.formals.tree.items in let f = formal_view one.tree in
    let pushed : map formal_view c.push.new.self.items ≡ before ++ f ∷ [] = grind (arith, common_steps, c.in_ok-push.ensures.items) in
    let whole : Runs formal_list (drop a.from all) (got (map formal_view c.push.new.self.items) (drop one.next all)) =
    rw pushed (i.goes_on (got (f ∷ []) (drop one.next all)) (last_formal r.outcome c.in_default.ensures)) in
    record { outcome = whole; forward = omega (arith, i.forward, r.forward); within = r.within }

pub formals-preserved : goal.formals-preserved
formals-preserved c =
    let i = c.formals.invariant in let one = c.in_ok-one.one in let r = c.in_ok-one.ensures in let comma = c.in-Some.ensures in
    let before = map formal_view c.formals.tree.items in let f = formal_view one.tree in
    let pushed : map formal_view c.push.new.self.items ≡ before ++ f ∷ [] = grind (arith, common_steps, c.in_ok-push.ensures.items) in
    record {
      within = comma.within;
      forward = omega (arith, i.forward, r.forward, comma.behind);
      goes_on = λ u d. rw pushed (rw (behind-more before f u) at (i.goes_on (behind (f ∷ []) u) (one_more_formal u r.outcome comma d)));
    }
