use Rattle.std.proofs.Common.{◌≡◌, ◌++◌, ◌∷◌, [], drop, arith}
use Rattle.std.proofs.lemmas.List.{append-nil}
use Rattle.std.proofs.lemmas.Grind.{common_steps}
use Rattle.eif_tree.specs.Tree.{FeaturesT}
use Rattle.eif_tree.specs.View.{clients_view}
use Rattle.eif_grammar.specs.ClassRules.{features_of}
use Rattle.eif_grammar.specs.Goals.{declarations, features, class_goal}
use Rattle.eif_grammar.specs.Outcomes.{got, refused, Runs, Calls}
use Rattle.eif_grammar_laws.proofs.Readers.{call_refused}
use Rattle.eif_parse.specs.ClassSubrules.{maybe_clients, decls_view, features_parts}
use Rattle.eif_parse.proofs.Lists.{behind, behind-more}
use Rattle.eif_parse.proofs.FeatureSteps.{no_features, features_from, more_features}
use Rattle.eif_parse_expr.proofs.Bind.{bound, bound_refused}
use Rattle.eif_parse_expr.proofs.Steps.{relay}
use Rattle.eif_parse.proofs.features.features.Goals as goal

pub returns-in_err-clients : goal.returns-in_err-clients
returns-in_err-clients c =
    let all = c.args.tokens.now.tokens in let i = c.parts.invariant in let word = c.in-Some.ensures in let start = c.in-Some.start in
    relay (Runs maybe_clients (drop start all)) _ clients_view _ all start _ _ _ c.from_residual.ensures.1 c.in_err-clients.ensures (omega (arith, i.forward, word.behind))
    (λ rest r. i.goes_on (refused rest) (features_from word (bound_refused features_of maybe_clients (drop start all) rest r)))

pub returns-in_err-decls : goal.returns-in_err-decls
returns-in_err-decls c =
    let all = c.args.tokens.now.tokens in let i = c.parts.invariant in let word = c.in-Some.ensures in let start = c.in-Some.start in
    let x = c.in_ok-clients.clients in let clients = c.in_ok-clients.ensures in
    relay (Calls (class_goal declarations) (drop x.next all)) _ decls_view _ all x.next _ _ _
    c.from_residual-in_err-decls.ensures.1 c.in_err-decls.ensures (omega (arith, i.forward, word.behind, clients.forward))
    (λ rest r. i.goes_on (refused rest)
    (features_from word (bound features_of maybe_clients (drop start all) (drop x.next all) (clients_view x.tree) (refused rest) clients.outcome (call_refused r))))

pub parts-preserved : goal.parts-preserved
parts-preserved c =
    let all = c.args.tokens.now.tokens in let i = c.parts.invariant in let word = c.in-Some.ensures in let start = c.in-Some.start in
    let x = c.in_ok-clients.clients in let clients = c.in_ok-clients.ensures in let y = c.in_ok-decls.decls in let decls = c.in_ok-decls.ensures in
    let before = features_parts c.parts.tree in let part : FeaturesT = record { clients = clients_view x.tree; decls = decls_view y.tree } in
    let pushed : features_parts c.push.new.self ≡ before ++ part ∷ [] = grind (arith, common_steps, c.in_ok-push.ensures.items, c.written_features.ensures) in
    record {
      within = decls.within;
      forward = omega (arith, i.forward, word.behind, clients.forward, decls.forward);
      goes_on = λ u more. rw pushed (rw (behind-more before part u) at (i.goes_on (behind (part ∷ []) u)
          (features_from word (bound features_of maybe_clients (drop start all) (drop x.next all) (clients_view x.tree) (behind (part ∷ []) u) clients.outcome
          (more_features u decls.outcome more)))));
    }

pub returns : goal.returns
returns c =
    let a = c.args in let i = c.parts.invariant in let ts = drop c.parts.next a.tokens.now.tokens in let before = features_parts c.parts.tree in
    let whole : Calls (class_goal features) (drop a.from a.tokens.now.tokens) (got before ts) = rw (append-nil before) at (i.goes_on (got [] ts) (no_features c.in_default.ensures)) in
    record { outcome = whole; forward = i.forward; within = i.within }
