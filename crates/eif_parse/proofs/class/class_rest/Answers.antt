use Rattle.std.proofs.Common.{drop, arith}
use Rattle.eif_tree.specs.View.{class_view}
use Rattle.eif_grammar.specs.declared.terminal.Terminal.TheVariants as t
use Rattle.eif_grammar.specs.Goals.{creators, features, invariants, notes, instruction_goal, class_goal}
use Rattle.eif_grammar.specs.Outcomes.{got, Runs, Calls}
use Rattle.eif_grammar.specs.Parts.{most_height}
use Rattle.eif_grammar_laws.proofs.Readers.{called, call_refused, ended}
use Rattle.eif_parse_expr.specs.InstructionSubrules.{assertions_view}
use Rattle.eif_parse_expr.proofs.Steps.{relay, relay_token, expect_here, other_here}
use Rattle.eif_parse.specs.ClassSubrules.{class_rest, head_view, creators_parts, features_parts}
use Rattle.eif_parse.proofs.class.class_rest.Goals as goal

pub returns-in_err-creators : goal.returns-in_err-creators
returns-in_err-creators c =
    let a = c.args in let all = a.tokens.now.tokens in let ps = c.in_ok-parents.ensures in let at = c.in_ok-parents.parents.next in
    relay (Calls (class_goal creators) (drop at all)) (Runs (class_rest a.is_deferred (head_view a.head)) (drop a.from all)) creators_parts class_view all at a.from _ _
    c.from_residual-in_err-creators.ensures.1 c.in_err-creators.ensures ps.forward
    (λ rest r. called ps.outcome (call_refused r))

pub returns-in_err-features : goal.returns-in_err-features
returns-in_err-features c =
    let a = c.args in let all = a.tokens.now.tokens in let ps = c.in_ok-parents.ensures in let cs = c.in_ok-creators.ensures in let at = c.in_ok-creators.creators.next in
    relay (Calls (class_goal features) (drop at all)) (Runs (class_rest a.is_deferred (head_view a.head)) (drop a.from all)) features_parts class_view all at a.from _ _
    c.from_residual-in_err-features.ensures.1 c.in_err-features.ensures (omega (arith, ps.forward, cs.forward))
    (λ rest r. called ps.outcome (called cs.outcome (call_refused r)))

pub returns-in_err-claims : goal.returns-in_err-claims
returns-in_err-claims c =
    let a = c.args in let all = a.tokens.now.tokens in let ps = c.in_ok-parents.ensures in let cs = c.in_ok-creators.ensures in let fs = c.in_ok-features.ensures in
    let at = c.in_ok-features.features.next in
    relay (Calls (instruction_goal (invariants most_height)) (drop at all)) (Runs (class_rest a.is_deferred (head_view a.head)) (drop a.from all)) assertions_view class_view all at a.from _ _
    c.from_residual-in_err-claims.ensures.1 c.in_err-claims.ensures.reads (omega (arith, ps.forward, cs.forward, fs.forward))
    (λ rest r. called ps.outcome (called cs.outcome (called fs.outcome (call_refused r))))

pub returns-in_err-end : goal.returns-in_err-end
returns-in_err-end c =
    let a = c.args in let all = a.tokens.now.tokens in let ps = c.in_ok-parents.ensures in let cs = c.in_ok-creators.ensures in let fs = c.in_ok-features.ensures in
    let is = c.in_ok-claims.ensures.reads in let at = c.in_ok-claims.claims.next in
    relay (Calls (class_goal notes) (drop at all)) (Runs (class_rest a.is_deferred (head_view a.head)) (drop a.from all)) (λ x. x) class_view all at a.from _ _
    c.from_residual-in_err-end.ensures.1 c.in_err-end.ensures (omega (arith, ps.forward, cs.forward, fs.forward, is.forward))
    (λ rest r. called ps.outcome (called cs.outcome (called fs.outcome (called is.outcome (call_refused r)))))

pub returns-in_err-next : goal.returns-in_err-next
returns-in_err-next c =
    let a = c.args in let all = a.tokens.now.tokens in let ps = c.in_ok-parents.ensures in let cs = c.in_ok-creators.ensures in let fs = c.in_ok-features.ensures in
    let is = c.in_ok-claims.ensures.reads in let end = c.in_ok-end.ensures in
    relay_token (Runs (class_rest a.is_deferred (head_view a.head)) (drop a.from all)) class_view t.End all c.in_ok-end.end.next a.from _ _
    c.from_residual-in_err-next.ensures.1 c.in_err-next.ensures (omega (arith, ps.forward, cs.forward, fs.forward, is.forward, end.forward)) end.within
    (λ other. called ps.outcome (called cs.outcome (called fs.outcome (called is.outcome (called end.outcome (other_here other))))))

pub returns : goal.returns
returns c =
    let a = c.args in let all = a.tokens.now.tokens in let ps = c.in_ok-parents.ensures in let cs = c.in_ok-creators.ensures in let fs = c.in_ok-features.ensures in
    let is = c.in_ok-claims.ensures.reads in let end = c.in_ok-end.ensures in let word = c.in_ok-next.ensures in
    let whole : Runs (class_rest a.is_deferred (head_view a.head)) (drop a.from all) (got (class_view c.written_class.result) (drop c.in_ok-next.next all)) =
    rw (c.written_class.ensures) (called ps.outcome (called cs.outcome (called fs.outcome (called is.outcome (called end.outcome (expect_here word ended)))))) in
    record { outcome = whole; forward = omega (arith, ps.forward, cs.forward, fs.forward, is.forward, end.forward, word.behind); within = word.within }
