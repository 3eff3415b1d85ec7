use Rattle.std.proofs.Common.{◌≡◌, ◌==◌, true, drop, arith}
use Rattle.eif_tree.specs.View.{parent_view}
use Rattle.eif_grammar.specs.Outcomes.{Runs}
use Rattle.eif_grammar.specs.SpelledClasses.{clause_length}
use Rattle.eif_parse_expr.proofs.Steps.{carry}
use Rattle.eif_parse.specs.ClassSubrules as rule
use Rattle.eif_parse.proofs.ParentSteps.{clause_here}
use Rattle.eif_parse.proofs.parents.clause.Goals as goal

pub returns : goal.returns
returns c =
    let a = c.args in let all = a.tokens.now.tokens in let p = parent_view a.parent in let kind = rule.clause_of a.kind in let start = c.after.result in
    let first' : (clause_length p kind == 0) ≡ true = cc (c.is_first.ensures, c.if-not-is_first.false) in
    carry (Runs (rule.clause_body p kind) (drop start all)) (Runs (rule.clause p) (drop a.from all)) parent_view all start a.from c.clause_body.result
    (omega (arith, c.after.ensures.behind)) (λ o d. clause_here o c.requires.begins first' c.after.ensures d) c.clause_body.ensures
