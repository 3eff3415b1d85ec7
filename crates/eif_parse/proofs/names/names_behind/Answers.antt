use Rattle.std.proofs.Common.{◌≡◌, ◌++◌, ◌∷◌, [], drop, arith}
use Rattle.std.proofs.lemmas.List.{append-nil}
use Rattle.eif_grammar.specs.declared.terminal.Terminal.TheVariants as t
use Rattle.eif_grammar.specs.Outcomes.{got, refused, Runs}
use Rattle.eif_grammar.specs.Reader.{name_of}
use Rattle.eif_parse_expr.specs.Readings.{first}
use Rattle.eif_parse_expr.proofs.Steps.{relay_name, relay_token}
use Rattle.eif_parse.specs.ClassSubrules as rule
use Rattle.eif_parse.proofs.Lists.{behind, behind-more}
use Rattle.eif_parse.proofs.NameSteps.{no_colon, colon_found, no_name_behind, one_more_behind}
use Rattle.eif_parse.proofs.names.names_behind.Goals as goal

pub returns-in_err-name : goal.returns-in_err-name
returns-in_err-name c =
    let a = c.args in let all = a.tokens.now.tokens in let i = c.names.invariant in let comma = c.in-Some.ensures in let start = c.in-Some.start in
    relay_name (Runs (rule.names_behind a.names.items) (drop a.from all)) rule.names_view all start a.from _ _ c.from_residual.ensures.1 c.in_err-name.ensures
    (omega (arith, i.forward, comma.behind)) comma.within (λ other. i.goes_on (refused (drop start all)) (no_name_behind comma other))

pub names-preserved : goal.names-preserved
names-preserved c =
    let all = c.args.tokens.now.tokens in let i = c.names.invariant in let comma = c.in-Some.ensures in let name = c.in_ok-name.ensures in
    let before = c.names.tree.items in let n = name_of (first (drop c.in-Some.start all)) in
    let pushed : c.push.new.self.items ≡ before ++ c.in_ok-name.name.tree ∷ [] = c.in_ok-push.ensures.items in
    record {
      within = name.0.within;
      forward = omega (arith, i.forward, comma.behind, name.0.behind);
      goes_on = λ u d. rw (pushed, name.1) (rw (behind-more before n u) at (i.goes_on (behind (n ∷ []) u) (one_more_behind u comma name.0 d)));
    }

pub returns-in_err-next : goal.returns-in_err-next
returns-in_err-next c =
    let a = c.args in let all = a.tokens.now.tokens in let i = c.names.invariant in let ts = drop c.names.next all in
    relay_token (Runs (rule.names_behind a.names.items) (drop a.from all)) rule.names_view t.Colon all c.names.next a.from _ _
    c.from_residual-in_err-next.ensures.1 c.in_err-next.ensures i.forward i.within (λ other. i.goes_on (refused ts) (no_colon c.in_default.ensures other))

pub returns : goal.returns
returns c =
    let a = c.args in let all = a.tokens.now.tokens in let i = c.names.invariant in let colon = c.in_ok-next.ensures in
    let before = c.names.tree.items in let rest = drop c.in_ok-next.next all in
    let whole : Runs (rule.names_behind a.names.items) (drop a.from all) (got before rest) =
    rw (append-nil before) at (i.goes_on (got [] rest) (colon_found c.in_default.ensures colon)) in
    record { outcome = whole; forward = omega (arith, i.forward, colon.behind); within = colon.within }
