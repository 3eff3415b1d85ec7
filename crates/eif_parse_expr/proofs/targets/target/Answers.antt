use Rattle.std.proofs.Common.{drop, arith}
use Rattle.eif_grammar.specs.Goals.{target, instruction_goal}
use Rattle.eif_grammar.specs.Outcomes.{got, Calls}
use Rattle.eif_parse_expr.proofs.InstructionSteps.{result_target, target_named}
use Rattle.eif_parse_expr.proofs.targets.target.Goals as goal

pub returns-in_default : goal.returns-in_default
returns-in_default c = let a = c.args in target_named a.tokens.now.tokens a.from c.name_behind.result c.requires c.in_default.ensures c.name_behind.ensures

pub returns : goal.returns
returns c =
    let a = c.args in let all = a.tokens.now.tokens in let word = c.in-Some.ensures in
    let whole : Calls (instruction_goal target) (drop a.from all) (got c.in_ok-result_name.field-0 (drop c.in-Some.next all)) =
    rw (c.in_ok-result_name.ensures, c.place_at.ensures) (result_target word) in
    record { outcome = whole; forward = omega (arith, word.behind); within = word.within }
