use Rattle.std.proofs.Common.{◌≡◌, map, ◌++◌, ◌∷◌, [], drop, arith}
use Rattle.std.proofs.lemmas.List.{append-nil}
use Rattle.std.proofs.lemmas.Grind.{common_steps}
use Rattle.eif_tree.specs.View.{clients_view, creators_view}
use Rattle.eif_grammar.specs.Goals.{names, creators, class_goal}
use Rattle.eif_grammar.specs.Outcomes.{got, refused, Runs, Calls}
use Rattle.eif_parse_expr.proofs.Steps.{relay}
use Rattle.eif_parse.specs.ClassSubrules.{maybe_clients, names_view, creators_parts}
use Rattle.eif_parse.proofs.Lists.{behind, behind-more}
use Rattle.eif_parse.proofs.HeadSteps.{no_creators, creators_unnamed, creators_refused, creators_part, creators_more}
use Rattle.eif_parse.proofs.heads.creators.Goals as goal

pub returns-in_err-clients : goal.returns-in_err-clients
returns-in_err-clients c =
    let a = c.args in let all = a.tokens.now.tokens in let i = c.parts.invariant in let word = c.in-Some.ensures in let start = c.in-Some.start in
    relay (Runs maybe_clients (drop start all)) (Calls (class_goal creators) (drop a.from all)) clients_view creators_parts all start a.from _ _
    c.from_residual.ensures.1 c.in_err-clients.ensures (omega (arith, i.forward, word.behind)) (λ rest r. i.goes_on (refused rest) (creators_unnamed word r))

pub returns-in_err-names : goal.returns-in_err-names
returns-in_err-names c =
    let a = c.args in let all = a.tokens.now.tokens in let i = c.parts.invariant in let word = c.in-Some.ensures in
    let to = c.in_ok-clients.clients in let r = c.in_ok-clients.ensures in
    relay (Calls (class_goal names) (drop to.next all)) (Calls (class_goal creators) (drop a.from all)) names_view creators_parts all to.next a.from _ _
    c.from_residual-in_err-names.ensures.1 c.in_err-names.ensures (omega (arith, i.forward, word.behind, r.forward))
    (λ rest n. i.goes_on (refused rest) (creators_refused word r.outcome n))

pub parts-preserved : goal.parts-preserved
parts-preserved c =
    let i = c.parts.invariant in let word = c.in-Some.ensures in let r = c.in_ok-clients.ensures in let n = c.in_ok-names.ensures in
    let before = map creators_view c.parts.tree.items in
    let part = creators_part (clients_view c.in_ok-clients.clients.tree) (names_view c.in_ok-names.names.tree) in
    let pushed : map creators_view c.push.new.self.items ≡ before ++ part ∷ [] = grind (arith, common_steps, c.in_ok-push.ensures.items, c.written_creators.ensures) in
    record {
      within = n.within;
      forward = omega (arith, i.forward, word.behind, r.forward, n.forward);
      goes_on = λ u d. rw pushed (rw (behind-more before part u) at (i.goes_on (behind (part ∷ []) u) (creators_more u word r.outcome n.outcome d)));
    }

pub returns : goal.returns
returns c =
    let a = c.args in let all = a.tokens.now.tokens in let i = c.parts.invariant in let ts = drop c.parts.next all in
    let before = map creators_view c.parts.tree.items in
    let whole : Calls (class_goal creators) (drop a.from all) (got before ts) = rw (append-nil before) at (i.goes_on (got [] ts) (no_creators c.in_default.ensures)) in
    record { outcome = whole; forward = i.forward; within = i.within }
