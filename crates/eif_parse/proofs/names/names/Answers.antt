use Rattle.std.proofs.Common.{◌≡◌, ◌++◌, ◌∷◌, [], drop, arith}
use Rattle.eif_grammar.specs.Goals.{names, class_goal}
use Rattle.eif_grammar.specs.Outcomes.{got, refused, Calls}
use Rattle.eif_grammar.specs.Reader.{name_of}
use Rattle.eif_parse_expr.specs.Readings.{first}
use Rattle.eif_parse_expr.proofs.Steps.{relay_name}
use Rattle.eif_parse.specs.ClassSubrules.{names_view}
use Rattle.eif_parse.proofs.Lists.{behind, behind-more}
use Rattle.eif_parse.proofs.NameSteps.{no_names, last_name, one_more_name}
use Rattle.eif_parse.proofs.names.names.Goals as goal

pub returns-in_err-name : goal.returns-in_err-name
returns-in_err-name c =
    let all = c.args.tokens.now.tokens in let i = c.names.invariant in
    relay_name (Calls (class_goal names) (drop c.args.from all)) names_view all c.names.next c.args.from _ _ c.from_residual.ensures.1 c.in_err-name.ensures i.forward i.within
    (λ other. i.goes_on (refused (drop c.names.next all)) (no_names other))

pub returns-in_default : goal.returns-in_default
returns-in_default c =
    let all = c.args.tokens.now.tokens in let i = c.names.invariant in let name = c.in_ok-name.ensures in
    let x = c.in_ok-name.name in let before = c.names.tree.items in
    let pushed : c.push.new.self.items ≡ before ++ x.tree ∷ [] = c.in_ok-push.ensures.items in
    let whole : Calls (class_goal names) (drop c.args.from all) (got c.push.new.self.items (drop x.next all)) =
    rw (pushed, name.1) (i.goes_on (got (name_of (first (drop c.names.next all)) ∷ []) (drop x.next all)) (last_name name.0 c.in_default.ensures)) in
    record { outcome = whole; forward = omega (arith, i.forward, name.0.behind); within = name.0.within }

pub names-preserved : goal.names-preserved
names-preserved c =
    let all = c.args.tokens.now.tokens in let i = c.names.invariant in let name = c.in_ok-name.ensures in
    let x = c.in_ok-name.name in let before = c.names.tree.items in let comma = c.in-Some.ensures in
    let pushed : c.push.new.self.items ≡ before ++ x.tree ∷ [] = c.in_ok-push.ensures.items in
    record {
      within = comma.within;
      forward = omega (arith, i.forward, name.0.behind, comma.behind);
      goes_on = λ u d. rw (pushed, name.1) (rw (behind-more before (name_of (first (drop c.names.next all))) u) at
          (i.goes_on (behind (name_of (first (drop c.names.next all)) ∷ []) u) (one_more_name u name.0 comma d)));
    }
