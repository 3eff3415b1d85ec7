use Rattle.std.proofs.Common.{drop, arith}
use Rattle.eif_tree.specs.View.{expr_view}
use Rattle.eif_grammar.specs.Goals.{expression, assertion, expression_goal, instruction_goal}
use Rattle.eif_grammar.specs.Outcomes.{Calls}
use Rattle.eif_parse_expr.proofs.InstructionSteps.{plain_assertion, untagged_assertion, tagged_assertion}
use Rattle.eif_parse_expr.proofs.Steps.{carry}
use Rattle.eif_parse_expr.proofs.claims.assertion.Goals as goal

pub returns-in_default-clause-reads : goal.returns-in_default-clause-reads
returns-in_default-clause-reads c =
    let a = c.args in let all = a.tokens.now.tokens in let ts = drop a.from all in
    carry (Calls (expression_goal (expression a.room 1)) ts) (Calls (instruction_goal (assertion a.room)) ts) expr_view all a.from a.from c.expression.result (omega arith)
    (λ u d. plain_assertion u c.in_default.ensures d) c.expression.ensures.reads

pub returns-in_default-behind-clause-reads : goal.returns-in_default-behind-clause-reads
returns-in_default-behind-clause-reads c =
    let a = c.args in let all = a.tokens.now.tokens in let ts = drop a.from all in
    carry (Calls (expression_goal (expression a.room 1)) ts) (Calls (instruction_goal (assertion a.room)) ts) expr_view all a.from a.from c.expression-in_default-behind.result (omega arith)
    (λ u d. untagged_assertion u c.in-Some.ensures c.in_default-behind.ensures d) c.expression-in_default-behind.ensures.reads

pub returns-clause-reads : goal.returns-clause-reads
returns-clause-reads c =
    let a = c.args in let all = a.tokens.now.tokens in let start = c.in-Some-behind.start in let name = c.in-Some.ensures in let colon = c.in-Some-behind.ensures in
    carry (Calls (expression_goal (expression a.room 1)) (drop start all)) (Calls (instruction_goal (assertion a.room)) (drop a.from all)) expr_view all start a.from c.expression-2.result
    (omega (arith, name.behind, colon.behind)) (λ u d. tagged_assertion u name colon d) c.expression-2.ensures.reads
