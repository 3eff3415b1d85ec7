use Rattle.std.proofs.Common.{◌≡◌, drop, refl, ◌∙◌, arith}
use Rattle.eif_tree.specs.declared.Mark.TheVariants.{Plain}
use Rattle.eif_tree.specs.View.{type_view}
use Rattle.eif_grammar.specs.Goals.{unmarked, type_goal}
use Rattle.eif_grammar.specs.Reader.{name_of}
use Rattle.eif_grammar.specs.Outcomes.{Runs, Calls}
use Rattle.eif_grammar_laws.proofs.Readers.{by_rule, called}
use Rattle.eif_parse_expr.specs.Readings.{first}
use Rattle.eif_parse_expr.specs.Subrules.{headed}
use Rattle.eif_parse_expr.proofs.Steps.{carry, relay_name, token_here, other_here}
use Rattle.eif_parse_expr.proofs.types.unmarked_type.Goals as goal

pub returns-in_err-name-clause-reads : goal.returns-in_err-name-clause-reads
returns-in_err-name-clause-reads c =
    let a = c.args in let all = a.tokens.now.tokens in let ts = drop a.from all in
    relay_name (Calls (type_goal (unmarked a.room)) ts) type_view all a.from a.from _ _ c.from_residual.ensures.1 c.in_err-name.ensures (omega arith) c.requires.start
    (λ other. by_rule (other_here other))

pub returns-clause-reads : goal.returns-clause-reads
returns-clause-reads c =
    let a = c.args in let all = a.tokens.now.tokens in let ts = drop a.from all in
    let taken = c.in_ok-name.ensures.0 in
    let h = c.plain_head.result in
    let tree : h.tree ≡ record { place = (first ts).place; mark = Plain; name = name_of (first ts) } = c.plain_head.ensures.tree ∙ rw (c.in_ok-name.ensures.1) refl in
    carry (Runs (headed a.room h.tree) (drop h.next all)) (Calls (type_goal (unmarked a.room)) ts) type_view all h.next a.from c.headed_type.result
    (omega (arith, taken.behind, c.plain_head.ensures.next))
    (λ o d. by_rule (called (token_here taken) (rw (tree, c.plain_head.ensures.next) at d))) c.headed_type.ensures.reads
