use Rattle.std.proofs.Common.{drop, arith}
use Rattle.eif_tree.specs.View.{decl_view}
use Rattle.eif_grammar.specs.ClassRules.{several, typed, routine_from}
use Rattle.eif_grammar.specs.Outcomes.{Runs}
use Rattle.eif_grammar_laws.proofs.Readers.{by_rule, called}
use Rattle.eif_grammar_laws.proofs.Terminals.{on_other}
use Rattle.eif_parse_expr.proofs.Steps.{carry, relay_name, on_here, token_here, other_here}
use Rattle.eif_parse.proofs.features.declaration.Goals as goal

pub returns-in_err-name : goal.returns-in_err-name
returns-in_err-name c =
    let a = c.args in
    relay_name _ _ a.tokens.now.tokens a.from _ _ _ c.from_residual.ensures.1 c.in_err-name.ensures (omega arith) c.requires (λ other. by_rule (other_here other))

pub returns-in-Some : goal.returns-in-Some
returns-in-Some c =
    let all = c.args.tokens.now.tokens in let x = c.in_ok-name.name in let name = c.in_ok-name.ensures in let comma = c.in-Some.ensures in let start = c.in-Some.start in
    carry (Runs (several x.tree) (drop start all)) _ decl_view all start _ _ (omega (arith, name.0.behind, comma.behind))
    (λ o d. by_rule (called (token_here name.0) (on_here comma (rw (← name.1) d)))) c.several.ensures

pub returns-in-Some-behind : goal.returns-in-Some-behind
returns-in-Some-behind c =
    let all = c.args.tokens.now.tokens in let x = c.in_ok-name.name in let name = c.in_ok-name.ensures in let colon = c.in-Some-behind.ensures in let start = c.in-Some-behind.start in
    carry (Runs (typed x.tree) (drop start all)) _ decl_view all start _ _ (omega (arith, name.0.behind, colon.behind))
    (λ o d. by_rule (called (token_here name.0) (on_other c.in_default.ensures (on_here colon (rw (← name.1) d))))) c.typed.ensures

pub returns-in-None : goal.returns-in-None
returns-in-None c =
    let all = c.args.tokens.now.tokens in let x = c.in_ok-name.name in let name = c.in_ok-name.ensures in
    carry (Runs (routine_from x.tree) (drop x.next all)) _ decl_view all x.next _ _ (omega (arith, name.0.behind))
    (λ o d. by_rule (called (token_here name.0) (on_other c.in_default.ensures (on_other c.in-None.ensures (rw (← name.1) d))))) c.routine_from.ensures
