use Rattle.std.proofs.Common.{drop}
use Rattle.eif_tree.specs.View.{class_view}
use Rattle.eif_grammar.specs.ClassRules.{class_from}
use Rattle.eif_grammar.specs.Outcomes.{Runs}
use Rattle.eif_parse_expr.proofs.Bind.{bound}
use Rattle.eif_parse_expr.proofs.Steps.{carry}
use Rattle.eif_parse.specs.ClassSubrules.{class_head, class_rest, head_view}
use Rattle.eif_parse.proofs.class.class_from.Goals as goal

pub returns : goal.returns
returns c =
    let a = c.args in let all = a.tokens.now.tokens in let h = c.in_ok-head.head in let front = c.in_ok-head.ensures in
    carry (Runs (class_rest a.is_deferred (head_view h.tree)) (drop h.next all)) (Runs (class_from a.is_deferred) (drop a.from all)) class_view all h.next a.from c.class_rest.result
    front.forward (λ o d. bound (class_rest a.is_deferred) class_head (drop a.from all) (drop h.next all) (head_view h.tree) o front.outcome d) c.class_rest.ensures
