use Rattle.std.proofs.Common.{◌≡◌, ◌≢◌, ◌<◌, ◌-◌, ◌++◌, ◌∷◌, [], drop, length, arith}
use Rattle.std.proofs.lemmas.List.{append-nil}
use Rattle.std.proofs.lemmas.Grind.{common_steps}
use Rattle.eif_tree.specs.View.{decl_view}
use Rattle.eif_grammar.specs.declared.terminal.Terminal.TheVariants as t
use Rattle.eif_grammar.specs.Goals.{declaration, declarations, class_goal}
use Rattle.eif_grammar.specs.Outcomes.{got, refused, Calls}
use Rattle.eif_grammar.specs.Spelling.{head}
use Rattle.eif_parse.specs.ClassSubrules.{decls_view}
use Rattle.eif_parse.proofs.Lists.{behind, behind-more}
use Rattle.eif_parse.proofs.FeatureSteps.{declaration_onward, no_declarations, declarations_refused, more_declarations}
use Rattle.eif_parse_expr.proofs.Steps.{relay}
use Rattle.eif_parse.proofs.features.declarations.Goals as goal

pub returns-in_err-one : goal.returns-in_err-one
returns-in_err-one c =
    let all = c.args.tokens.now.tokens in let i = c.decls.invariant in let ts = drop c.decls.next all in
    relay (Calls (class_goal declaration) ts) _ decl_view _ all c.decls.next _ _ _ c.from_residual.ensures.1 c.in_err-one.ensures i.forward
    (λ rest r. i.goes_on (refused rest) (declarations_refused (c.is_at.ensures.0 c.decls-test.true) r))

pub decls-smaller : goal.decls-smaller
decls-smaller c =
    let all = c.args.tokens.now.tokens in let one = c.in_ok-one.one in let r = c.in_ok-one.ensures in let s = c.semis-next.ensures in
    let less : length all - c.semis-next.result < length all - c.decls.next =
    omega (arith, declaration_onward all c.decls.next one.next r.outcome r.within, r.within, s.forward, s.within) in less

pub decls-preserved : goal.decls-preserved
decls-preserved c =
    let one = c.in_ok-one.one in let r = c.in_ok-one.ensures in let s = c.semis-next.ensures in let i = c.decls.invariant in
    let before = decls_view c.decls.tree in let d = decl_view one.tree in
    let pushed : decls_view c.push.new.self ≡ before ++ d ∷ [] = grind (arith, common_steps, c.in_ok-push.ensures.items) in
    record {
      within = s.within;
      forward = omega (arith, r.forward, i.forward, s.forward);
      goes_on = λ u more. rw pushed (rw (behind-more before d u) at
          (i.goes_on (behind (d ∷ []) u) (more_declarations u (c.is_at.ensures.0 c.decls-test.true) r.outcome s.outcome more)));
    }

pub returns : goal.returns
returns c =
    let a = c.args in let all = a.tokens.now.tokens in let i = c.decls.invariant in let ts = drop c.decls.next all in let before = decls_view c.decls.tree in
    let other : head ts ≢ t.Identifier = λ same. let yes = c.is_at.ensures.1 same in let no = c.decls-test.false in cc in
    let whole : Calls (class_goal declarations) (drop a.from all) (got before ts) = rw (append-nil before) at (i.goes_on (got [] ts) (no_declarations other)) in
    record { outcome = whole; forward = i.forward; within = i.within }
