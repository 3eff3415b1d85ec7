use Rattle.std.proofs.Common.{drop, arith}
use Rattle.eif_grammar.specs.declared.terminal.Terminal.TheVariants as t
use Rattle.eif_grammar.specs.Goals.{rename, class_goal}
use Rattle.eif_grammar.specs.Outcomes.{got, Calls}
use Rattle.eif_grammar_laws.proofs.Readers.{by_rule, called, ended}
use Rattle.eif_parse_expr.proofs.Steps.{relay_name, relay_token, token_here, expect_here, other_here}
use Rattle.eif_parse.proofs.parents.rename.Goals as goal

pub returns-in_err-old_name : goal.returns-in_err-old_name
returns-in_err-old_name c =
    let a = c.args in let all = a.tokens.now.tokens in
    relay_name (Calls (class_goal rename) (drop a.from all)) (λ r. r) all a.from a.from _ _ c.from_residual.ensures.1 c.in_err-old_name.ensures
    (omega arith) c.requires (λ other. by_rule (other_here other))

pub returns-in_err-start : goal.returns-in_err-start
returns-in_err-start c =
    let a = c.args in let all = a.tokens.now.tokens in let old = c.in_ok-old_name.ensures.0 in
    relay_token (Calls (class_goal rename) (drop a.from all)) (λ r. r) t.As all c.in_ok-old_name.old_name.next a.from _ _
    c.from_residual-in_err-start.ensures.1 c.in_err-start.ensures (omega (arith, old.behind)) old.within
    (λ other. by_rule (called (token_here old) (other_here other)))

pub returns-in_err-new_name : goal.returns-in_err-new_name
returns-in_err-new_name c =
    let a = c.args in let all = a.tokens.now.tokens in let old = c.in_ok-old_name.ensures.0 in let word = c.in_ok-start.ensures in
    relay_name (Calls (class_goal rename) (drop a.from all)) (λ r. r) all c.in_ok-start.start a.from _ _
    c.from_residual-in_err-new_name.ensures.1 c.in_err-new_name.ensures (omega (arith, old.behind, word.behind)) word.within
    (λ other. by_rule (called (token_here old) (expect_here word (other_here other))))

pub returns : goal.returns
returns c =
    let a = c.args in let all = a.tokens.now.tokens in let old = c.in_ok-old_name.ensures in let word = c.in_ok-start.ensures in let new = c.in_ok-new_name.ensures in
    let o = c.in_ok-old_name.old_name in let n = c.in_ok-new_name.new_name in
    let whole : Calls (class_goal rename) (drop a.from all) (got (record { old_name = o.tree; new_name = n.tree }) (drop n.next all)) =
    rw (old.1, new.1) (by_rule (called (token_here old.0) (expect_here word (called (token_here new.0) ended)))) in
    record { outcome = whole; forward = omega (arith, old.0.behind, word.behind, new.0.behind); within = new.0.within }
