use Rattle.std.proofs.Common.{◌≡◌, Some, None, drop, refl, ap, ◌∙◌, arith}
use Rattle.eif_tree.specs.declared.Mark.TheVariants.{Plain}
use Rattle.eif_grammar.specs.Spelling.{head}
use Rattle.eif_grammar.specs.Reader.{name_of}
use Rattle.eif_grammar.specs.TypeRules.{with_mark, with_name, no_type, type_start}
use Rattle.eif_grammar.specs.Outcomes.{got, Runs}
use Rattle.eif_grammar_laws.proofs.Readers.{refuses, called, ended}
use Rattle.eif_parse_expr.specs.Readings.{first}
use Rattle.eif_parse_expr.specs.Subrules.{mark_of, type_head}
use Rattle.eif_parse_expr.proofs.Steps.{relay_name, next_here, token_here, other_here}
use Rattle.eif_parse_expr.proofs.TypeSteps.{mark_starts, nothing_starts, type_head_at}
use Rattle.eif_parse_expr.proofs.types.type_head.Goals as goal

pub returns-in_err-name : goal.returns-in_err-name
returns-in_err-name c =
    let all = c.args.tokens.now.tokens in let from = c.args.from in let ts = drop from all in
    let plain : mark_of (head ts) ≡ None = cc (c.mark_of.ensures, c.in_default.is, c.next_terminal.ensures) in
    relay_name (Runs type_head ts) (λ h. h) all from from _ _ c.from_residual.ensures.1 c.in_err-name.ensures (omega arith) c.requires
    (λ other. type_head_at no_type (nothing_starts (head ts) plain other) refuses)

pub returns-in_default : goal.returns-in_default
returns-in_default c =
    let all = c.args.tokens.now.tokens in let from = c.args.from in let ts = drop from all in
    let n = c.in_ok-name.name in
    let taken = c.in_ok-name.ensures.0 in
    let tree : c.plain_head.result.tree ≡ record { place = (first ts).place; mark = Plain; name = name_of (first ts) } =
    c.plain_head.ensures.tree ∙ rw (c.in_ok-name.ensures.1) refl in
    let whole : Runs type_head ts (got c.plain_head.result.tree (drop c.plain_head.result.next all)) =
    rw (tree, c.plain_head.ensures.next) (type_head_at with_name (ap type_start taken.is) (next_here taken ended)) in
    record { outcome = whole; forward = omega (arith, taken.behind, c.plain_head.ensures.next); within = omega (arith, taken.within, c.plain_head.ensures.next) }

pub returns-in_err-name-2 : goal.returns-in_err-name-2
returns-in_err-name-2 c =
    let all = c.args.tokens.now.tokens in let from = c.args.from in let ts = drop from all in
    let marked : mark_of (head ts) ≡ Some c.in-Some.mark = cc (c.mark_of.ensures, c.in-Some.is, c.next_terminal.ensures) in
    relay_name (Runs type_head ts) (λ h. h) all c.after.result from _ _ c.from_residual-in_err-name-2.ensures.1 c.in_err-name-2.ensures
    (omega (arith, c.after.ensures.behind)) c.after.ensures.within
    (λ other. type_head_at (with_mark c.in-Some.mark) (mark_starts (head ts) c.in-Some.mark marked) (next_here c.after.ensures (other_here other)))

pub returns : goal.returns
returns c =
    let all = c.args.tokens.now.tokens in let from = c.args.from in let ts = drop from all in
    let marked : mark_of (head ts) ≡ Some c.in-Some.mark = cc (c.mark_of.ensures, c.in-Some.is, c.next_terminal.ensures) in
    let n = c.in_ok-name-2.name in
    let taken = c.in_ok-name-2.ensures.0 in
    let whole : Runs type_head ts (got (record { place = c.place_at.result; mark = c.in-Some.mark; name = n.tree }) (drop n.next all)) =
    rw (c.place_at.ensures, c.in_ok-name-2.ensures.1)
    (type_head_at (with_mark c.in-Some.mark) (mark_starts (head ts) c.in-Some.mark marked) (next_here c.after.ensures (called (token_here taken) ended))) in
    record { outcome = whole; forward = omega (arith, taken.behind, c.after.ensures.behind); within = taken.within }
