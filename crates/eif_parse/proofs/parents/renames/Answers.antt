use Rattle.std.proofs.Common.{◌≡◌, ◌++◌, ◌∷◌, [], drop, arith}
use Rattle.eif_grammar.specs.Goals.{rename, renames, class_goal}
use Rattle.eif_grammar.specs.Outcomes.{got, refused, Calls}
use Rattle.eif_grammar_laws.proofs.Readers.{by_rule, call_refused}
use Rattle.eif_parse_expr.proofs.Steps.{relay}
use Rattle.eif_parse.specs.ClassSubrules.{renames_view}
use Rattle.eif_parse.proofs.Lists.{behind, behind-more}
use Rattle.eif_parse.proofs.ParentSteps.{last_rename, one_more_rename}
use Rattle.eif_parse.proofs.parents.renames.Goals as goal

pub returns-in_err-one : goal.returns-in_err-one
returns-in_err-one c =
    let a = c.args in let all = a.tokens.now.tokens in let i = c.pairs.invariant in
    relay (Calls (class_goal rename) (drop c.pairs.next all)) (Calls (class_goal renames) (drop a.from all)) (λ r. r) renames_view all c.pairs.next a.from _ _
    c.from_residual.ensures.1 c.in_err-one.ensures i.forward (λ rest r. i.goes_on (refused rest) (by_rule (call_refused r)))

pub returns-in_default : goal.returns-in_default
returns-in_default c =
    let a = c.args in let all = a.tokens.now.tokens in let i = c.pairs.invariant in let one = c.in_ok-one.one in let r = c.in_ok-one.ensures in
    let pushed : c.push.new.self.items ≡ c.pairs.tree.items ++ one.tree ∷ [] = c.in_ok-push.ensures.items in
    let whole : Calls (class_goal renames) (drop a.from all) (got c.push.new.self.items (drop one.next all)) =
    rw pushed (i.goes_on (got (one.tree ∷ []) (drop one.next all)) (last_rename r.outcome c.in_default.ensures)) in
    record { outcome = whole; forward = omega (arith, i.forward, r.forward); within = r.within }

pub pairs-preserved : goal.pairs-preserved
pairs-preserved c =
    let i = c.pairs.invariant in let one = c.in_ok-one.one in let r = c.in_ok-one.ensures in let before = c.pairs.tree.items in let comma = c.in-Some.ensures in
    let pushed : c.push.new.self.items ≡ before ++ one.tree ∷ [] = c.in_ok-push.ensures.items in
    record {
      within = comma.within;
      forward = omega (arith, i.forward, r.forward, comma.behind);
      goes_on = λ u d. rw pushed (rw (behind-more before one.tree u) at (i.goes_on (behind (one.tree ∷ []) u) (one_more_rename u r.outcome comma d)));
    }
