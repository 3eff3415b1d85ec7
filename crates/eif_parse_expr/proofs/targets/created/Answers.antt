use Rattle.std.proofs.Common.{drop, arith}
use Rattle.std.specs.Option.{option_map}
use Rattle.eif_tree.specs.View.{type_view, instr_view}
use Rattle.eif_grammar.specs.Goals.{creator, expression_goal}
use Rattle.eif_grammar.specs.InstructionRules.{created}
use Rattle.eif_grammar.specs.Outcomes.{got, Runs, Calls}
use Rattle.eif_grammar_laws.proofs.Readers.{called, call_refused, ended}
use Rattle.eif_parse_expr.specs.Subrules.{creator_view}
use Rattle.eif_parse_expr.proofs.Steps.{relay}
use Rattle.eif_parse_expr.proofs.targets.created.Goals as goal

pub returns-in_err-call-clause-reads : goal.returns-in_err-call-clause-reads
returns-in_err-call-clause-reads c =
    let a = c.args in let all = a.tokens.now.tokens in let name = c.in_ok-name.name in let n = c.in_ok-name.ensures in
    relay (Calls (expression_goal (creator a.room)) (drop name.next all)) (Runs (created a.room a.place (option_map type_view a.made.tree)) (drop a.made.next all)) creator_view instr_view all name.next a.made.next _ _
    c.from_residual-in_err-call.ensures.1 c.in_err-call.ensures.reads n.forward (λ rest d. called n.outcome (call_refused d))

pub returns-clause-reads : goal.returns-clause-reads
returns-clause-reads c =
    let a = c.args in let all = a.tokens.now.tokens in let n = c.in_ok-name.ensures in let call = c.in_ok-call.call in let r = c.in_ok-call.ensures.reads in
    let whole : Runs (created a.room a.place (option_map type_view a.made.tree)) (drop a.made.next all) (got (instr_view c.create.result) (drop call.next all)) =
    rw (c.create.ensures) (called n.outcome (called r.outcome ended)) in
    record { outcome = whole; forward = omega (arith, n.forward, r.forward); within = r.within }
