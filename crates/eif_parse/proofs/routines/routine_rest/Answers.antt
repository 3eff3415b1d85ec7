use Rattle.std.proofs.Common.{◌≡◌, ◌∷◌, [], drop, arith}
use Rattle.std.specs.Option.{option_map}
use Rattle.eif_tree.specs.View.{decl_view, kind_view, type_view}
use Rattle.eif_grammar.specs.declared.terminal.Terminal.TheVariants as t
use Rattle.eif_grammar.specs.Goals.{obsolete, conditions, body, routine_rest, class_goal}
use Rattle.eif_grammar.specs.Outcomes.{got, Calls}
use Rattle.eif_grammar_laws.proofs.Readers.{by_rule, called, call_refused, ended}
use Rattle.eif_parse.specs.ClassSubrules.{groups_view}
use Rattle.eif_parse_expr.specs.InstructionSubrules.{assertions_view}
use Rattle.eif_parse_expr.proofs.Steps.{relay, relay_token, expect_here, other_here}
use Rattle.eif_parse.proofs.routines.routine_rest.Goals as goal

pub returns-in_err-start : goal.returns-in_err-start
returns-in_err-start c =
    let a = c.args in let all = a.tokens.now.tokens in
    relay (Calls (class_goal obsolete) (drop a.from all)) _ (λ x. x) _ all a.from _ _ _ c.from_residual.ensures.1 c.in_err-start.ensures (omega arith)
    (λ rest r. by_rule (call_refused r))

pub returns-in_err-before : goal.returns-in_err-before
returns-in_err-before c =
    let all = c.args.tokens.now.tokens in let start = c.in_ok-start.field-0.next in let old = c.in_ok-start.ensures in
    relay (Calls (class_goal (conditions t.Require t.Else)) (drop start all)) _ assertions_view _ all start _ _ _
    c.from_residual-in_err-before.ensures.1 c.in_err-before.ensures old.forward (λ rest r. by_rule (called old.outcome (call_refused r)))

pub returns-in_err-kind : goal.returns-in_err-kind
returns-in_err-kind c =
    let all = c.args.tokens.now.tokens in let x = c.in_ok-before.before in let old = c.in_ok-start.ensures in let pre = c.in_ok-before.ensures in
    relay (Calls (class_goal body) (drop x.next all)) _ kind_view _ all x.next _ _ _
    c.from_residual-in_err-kind.ensures.1 c.in_err-kind.ensures (omega (arith, old.forward, pre.forward))
    (λ rest r. by_rule (called old.outcome (called pre.outcome (call_refused r))))

pub returns-in_err-after : goal.returns-in_err-after
returns-in_err-after c =
    let all = c.args.tokens.now.tokens in let x = c.in_ok-kind.kind in
    let old = c.in_ok-start.ensures in let pre = c.in_ok-before.ensures in let kind = c.in_ok-kind.ensures in
    relay (Calls (class_goal (conditions t.Ensure t.Then)) (drop x.next all)) _ assertions_view _ all x.next _ _ _
    c.from_residual-in_err-after.ensures.1 c.in_err-after.ensures (omega (arith, old.forward, pre.forward, kind.forward))
    (λ rest r. by_rule (called old.outcome (called pre.outcome (called kind.outcome (call_refused r)))))

pub returns-in_err-next : goal.returns-in_err-next
returns-in_err-next c =
    let all = c.args.tokens.now.tokens in let x = c.in_ok-after.after in
    let old = c.in_ok-start.ensures in let pre = c.in_ok-before.ensures in let kind = c.in_ok-kind.ensures in let post = c.in_ok-after.ensures in
    relay_token _ _ t.End all x.next _ _ _
    c.from_residual-in_err-next.ensures.1 c.in_err-next.ensures (omega (arith, old.forward, pre.forward, kind.forward, post.forward)) post.within
    (λ other. by_rule (called old.outcome (called pre.outcome (called kind.outcome (called post.outcome (other_here other))))))

pub returns : goal.returns
returns c =
    let a = c.args in let all = a.tokens.now.tokens in
    let old = c.in_ok-start.ensures in let pre = c.in_ok-before.ensures in let kind = c.in_ok-kind.ensures in let post = c.in_ok-after.ensures in let word = c.in_ok-next.ensures in
    let one : c.in_ok-names.names.items ≡ a.name ∷ [] = c.in_ok-names.ensures.items in
    let whole : Calls (class_goal (routine_rest a.name (groups_view a.arguments) (option_map type_view a.result_type))) (drop a.from all) (got (decl_view c.written_decl.result) (drop c.in_ok-next.next all)) =
    rw (c.written_decl.ensures, one) (by_rule (called old.outcome (called pre.outcome (called kind.outcome (called post.outcome (expect_here word ended)))))) in
    record { outcome = whole; forward = omega (arith, old.forward, pre.forward, kind.forward, post.forward, word.behind); within = word.within }
