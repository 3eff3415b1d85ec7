use Rattle.std.proofs.Common.{◌≡◌, ◌+◌, ◌-◌, false, Some, None, drop, map, ◌++◌, ◌∷◌, [], refl, sym, ◌∙◌, arith}
use Rattle.std.proofs.lemmas.Grind.{common_steps}
use Rattle.std.specs.Str.{str_to_ascii_lowercase}
use Rattle.eif_tree.specs.Tree.{no_exs, and_ex, unqualified, precursor, qualified, creation, test, paren, unary, binary}
use Rattle.eif_tree.specs.ExpressionPlaces.{place_of}
use Rattle.eif_tree.specs.Height.{height}
use Rattle.eif_tree.specs.View.{type_view, expr_view}
use Rattle.eif_grammar.specs.declared.terminal.Terminal.TheVariants as t
use Rattle.eif_grammar.specs.Forms.{operator, prefix_operator}
use Rattle.eif_grammar.specs.Spelling.{head}
use Rattle.eif_grammar.specs.Goals.{expression, operand, chain, dots, primary, precursor_rest, creator, arguments, listed, expression_goal}
use Rattle.eif_grammar.specs.ExpressionRules.{chained, operand_start}
use Rattle.eif_grammar.specs.Reader.{name_of}
use Rattle.eif_grammar.specs.Outcomes.{got, refused, Runs, Calls}
use Rattle.eif_grammar_laws.proofs.Levels.{height_some}
use Rattle.eif_grammar_laws.proofs.Readers.{by_rule, called, call_refused, ended}
use Rattle.eif_grammar_laws.proofs.Taken.{tail}
use Rattle.eif_grammar_laws.proofs.ExpressionSteps.{operand_at}
use Rattle.eif_parse_expr.specs.Readings.{first, exs_view}
use Rattle.eif_parse_expr.specs.Subrules.{sign, begins_test, test_head, test_head_view, test_rest, local_behind, closed_type, link, parent_name, creator_view}
use Rattle.eif_parse_expr.proofs.Bind.{bound, bound_refused}
use Rattle.eif_parse_expr.proofs.Lists.{and_ex_first, exs_behind-more, exs_behind-last, exs_behind-refused, heights-more}
use Rattle.eif_parse_expr.proofs.Steps.{carry, relay, relay_name, relay_token, on_here, token_here, expect_here, other_here}
use Rattle.eif_parse_expr.proofs.ExpressionSteps as steps
use Rattle.eif_parse_expr.proofs.+expressions.Goals as goal

-- ---- arguments

pub chains::arguments-returns-in_default-clause-reads : goal.chains::arguments-returns-in_default-clause-reads
chains::arguments-returns-in_default-clause-reads measure c =
    let a = c.args in let ts = drop a.from a.tokens.now.tokens in
    let none : exs_view c.new.result ≡ no_exs = rw (c.new.ensures.items) refl in
    let whole : Calls (expression_goal (arguments a.room)) ts (got (exs_view c.new.result) ts) = rw none (steps.no_arguments c.in_default.ensures) in
    record { outcome = whole; forward = omega arith; within = c.requires.start }

pub chains::arguments-returns-then-room-eq1-clause-reads : goal.chains::arguments-returns-then-room-eq1-clause-reads
chains::arguments-returns-then-room-eq1-clause-reads measure c =
    record { outcome = steps.arguments_high c.in-Some.ensures.is (omega arith); forward = omega arith; within = c.requires.start }

pub chains::arguments-returns-in_err-all-clause-reads : goal.chains::arguments-returns-in_err-all-clause-reads
chains::arguments-returns-in_err-all-clause-reads measure c =
    let a = c.args in let all = a.tokens.now.tokens in let open' = c.in-Some.ensures in
    relay (Calls (expression_goal (listed (a.room - 1))) (drop c.in-Some.start all)) (Calls (expression_goal (arguments a.room)) (drop a.from all)) exs_view exs_view all c.in-Some.start a.from _ _
    c.from_residual.ensures.1 c.in_err-all.ensures.reads (omega (arith, open'.behind))
    (λ rest r. steps.arguments_whole (omega (arith, c.requires.some, c.if-room-eq1.false)) open' (call_refused r))

pub chains::arguments-returns-in_err-next-clause-reads : goal.chains::arguments-returns-in_err-next-clause-reads
chains::arguments-returns-in_err-next-clause-reads measure c =
    let a = c.args in let all = a.tokens.now.tokens in let open' = c.in-Some.ensures in
    let es = c.in_ok-all.all in let r = c.in_ok-all.ensures.reads in
    relay_token (Calls (expression_goal (arguments a.room)) (drop a.from all)) exs_view t.CloseParenthesis all es.next a.from _ _
    c.from_residual-in_err-next.ensures.1 c.in_err-next.ensures (omega (arith, r.forward, open'.behind)) r.within
    (λ other. steps.arguments_whole (omega (arith, c.requires.some, c.if-room-eq1.false)) open' (called r.outcome (other_here other)))

pub chains::arguments-returns-clause-reads : goal.chains::arguments-returns-clause-reads
chains::arguments-returns-clause-reads measure c =
    let open' = c.in-Some.ensures in let r = c.in_ok-all.ensures.reads in let close = c.in_ok-next.ensures in
    record {
      outcome = steps.arguments_whole (omega (arith, c.requires.some, c.if-room-eq1.false)) open' (called r.outcome (expect_here close ended));
      forward = omega (arith, r.forward, open'.behind, close.behind);
      within = close.within;
    }

-- ---- chain

pub chains::chain-returns-in_err-first-clause-reads : goal.chains::chain-returns-in_err-first-clause-reads
chains::chain-returns-in_err-first-clause-reads measure c =
    let a = c.args in let all = a.tokens.now.tokens in let ts = drop a.from all in
    relay (Calls (expression_goal (primary a.room)) ts) (Calls (expression_goal (chain a.room)) ts) expr_view expr_view all a.from a.from _ _
    c.from_residual.ensures.1 c.in_err-first.ensures.reads (omega arith) (λ rest r. by_rule (call_refused r))

pub chains::chain-returns-clause-reads : goal.chains::chain-returns-clause-reads
chains::chain-returns-clause-reads measure c =
    let a = c.args in let all = a.tokens.now.tokens in let first = c.in_ok-first.first in let r = c.in_ok-first.ensures.reads in
    carry (Calls (expression_goal (dots a.room (expr_view first.tree))) (drop first.next all)) (Calls (expression_goal (chain a.room)) (drop a.from all)) expr_view all first.next a.from c.dots.result
    r.forward (λ o d. by_rule (called r.outcome (tail o d))) c.dots.ensures.reads

-- ---- creator

pub chains::creator-returns-in_default-clause-reads : goal.chains::creator-returns-in_default-clause-reads
chains::creator-returns-in_default-clause-reads measure c =
    let a = c.args in let ts = drop a.from a.tokens.now.tokens in
    let none : exs_view c.new.result ≡ no_exs = rw (c.new.ensures.items) refl in
    let whole : Calls (expression_goal (creator a.room)) ts (got (record { name = None; arguments = exs_view c.new.result }) ts) = rw none (steps.no_creator c.in_default.ensures) in
    record { outcome = whole; forward = omega arith; within = c.requires.start }

pub chains::creator-returns-in_err-name-clause-reads : goal.chains::creator-returns-in_err-name-clause-reads
chains::creator-returns-in_err-name-clause-reads measure c =
    let a = c.args in let all = a.tokens.now.tokens in let dot = c.in-Some.ensures in
    relay_name (Calls (expression_goal (creator a.room)) (drop a.from all)) creator_view all c.in-Some.start a.from _ _ c.from_residual.ensures.1 c.in_err-name.ensures
    (omega (arith, dot.behind)) dot.within (λ other. by_rule (on_here dot (other_here other)))

pub chains::creator-returns-in_err-args-clause-reads : goal.chains::creator-returns-in_err-args-clause-reads
chains::creator-returns-in_err-args-clause-reads measure c =
    let a = c.args in let all = a.tokens.now.tokens in let dot = c.in-Some.ensures in let name = c.in_ok-name.ensures.0 in let n = c.in_ok-name.name in
    relay (Calls (expression_goal (arguments a.room)) (drop n.next all)) (Calls (expression_goal (creator a.room)) (drop a.from all)) exs_view creator_view all n.next a.from _ _
    c.from_residual-in_err-args.ensures.1 c.in_err-args.ensures.reads (omega (arith, dot.behind, name.behind))
    (λ rest r. by_rule (on_here dot (called (token_here name) (call_refused r))))

pub chains::creator-returns-clause-reads : goal.chains::creator-returns-clause-reads
chains::creator-returns-clause-reads measure c =
    let a = c.args in let all = a.tokens.now.tokens in let dot = c.in-Some.ensures in let name = c.in_ok-name.ensures.0 in let n = c.in_ok-name.name in
    let args = c.in_ok-args.args in let r = c.in_ok-args.ensures.reads in
    let whole : Calls (expression_goal (creator a.room)) (drop a.from all) (got (record { name = Some n.tree; arguments = exs_view args.tree }) (drop args.next all)) =
    rw (c.in_ok-name.ensures.1) (by_rule (on_here dot (called (token_here name) (called r.outcome ended)))) in
    record { outcome = whole; forward = omega (arith, r.forward, dot.behind, name.behind); within = r.within }

-- ---- dots

pub chains::dots-returns-in_default-clause-reads : goal.chains::dots-returns-in_default-clause-reads
chains::dots-returns-in_default-clause-reads measure c =
    let i = c.links.invariant in
    record { outcome = i.goes_on (got (expr_view c.links.left.tree) (drop c.links.left.next c.args.tokens.now.tokens)) (steps.dots_end c.in_default.ensures); forward = i.forward; within = i.within }

pub chains::dots-returns-then-left-room-clause-reads : goal.chains::dots-returns-then-left-room-clause-reads
chains::dots-returns-then-left-room-clause-reads measure c =
    let i = c.links.invariant in
    record {
      outcome = i.goes_on (refused (drop c.links.left.next c.args.tokens.now.tokens)) (steps.dots_high c.in-Some.ensures.is (omega (arith, i.height, c.if-left-room.true)));
      forward = i.forward;
      within = i.within;
    }

pub chains::dots-returns-in_err-left-clause-reads : goal.chains::dots-returns-in_err-left-clause-reads
chains::dots-returns-in_err-left-clause-reads measure c =
    let a = c.args in let all = a.tokens.now.tokens in let i = c.links.invariant in let left = c.links.left in let e = expr_view left.tree in
    let dot = c.in-Some.ensures in let start = c.in-Some.start in
    relay (Runs (link a.room e) (drop start all)) (Calls (expression_goal (dots a.room (expr_view a.first.tree))) (drop a.first.next all)) expr_view expr_view all start a.first.next _ _
    c.from_residual.ensures.1 c.in_err-left.ensures.reads (omega (arith, i.forward, dot.behind))
    (λ rest r. i.goes_on (refused rest) (steps.dots_whole (omega (arith, i.height, c.if-left-room.false)) dot (bound_refused (steps.dots_rest a.room) (link a.room e) (drop start all) rest r)))

pub chains::dots-links-preserved : goal.chains::dots-links-preserved
chains::dots-links-preserved measure c =
    let a = c.args in let all = a.tokens.now.tokens in let i = c.links.invariant in let left = c.links.left in let e = expr_view left.tree in
    let dot = c.in-Some.ensures in let start = c.in-Some.start in let more = c.in_ok-left.left in let r = c.in_ok-left.ensures.reads in
    record {
      within = r.within;
      forward = omega (arith, i.forward, dot.behind, r.forward);
      low = c.in_ok-left.ensures.low;
      height = c.in_ok-left.ensures.height;
      goes_on = λ u d. i.goes_on u (steps.dots_whole (omega (arith, i.height, c.if-left-room.false)) dot
          (bound (steps.dots_rest a.room) (link a.room e) (drop start all) (drop more.next all) (expr_view more.tree) u r.outcome (tail u d)));
    }

-- ---- link

pub chains::link-returns-in_err-name-clause-reads : goal.chains::link-returns-in_err-name-clause-reads
chains::link-returns-in_err-name-clause-reads measure c =
    let a = c.args in let all = a.tokens.now.tokens in
    relay_name (Runs (link a.room (expr_view a.target.tree)) (drop a.from all)) expr_view all a.from a.from _ _ c.from_residual.ensures.1 c.in_err-name.ensures
    (omega arith) c.requires.start (λ other. other_here other)

pub chains::link-returns-in_err-args-clause-reads : goal.chains::link-returns-in_err-args-clause-reads
chains::link-returns-in_err-args-clause-reads measure c =
    let a = c.args in let all = a.tokens.now.tokens in let name = c.in_ok-name.ensures.0 in let n = c.in_ok-name.name in
    relay (Calls (expression_goal (arguments a.room)) (drop n.next all)) (Runs (link a.room (expr_view a.target.tree)) (drop a.from all)) exs_view expr_view all n.next a.from _ _
    c.from_residual-in_err-args.ensures.1 c.in_err-args.ensures.reads (omega (arith, name.behind)) (λ rest r. called (token_here name) (call_refused r))

pub chains::link-returns-clause-reads : goal.chains::link-returns-clause-reads
chains::link-returns-clause-reads measure c =
    let a = c.args in let all = a.tokens.now.tokens in let ts = drop a.from all in let e = expr_view a.target.tree in
    let name = c.in_ok-name.ensures.0 in let n = c.in_ok-name.name in let args = c.in_ok-args.args in let r = c.in_ok-args.ensures.reads in
    let tree : expr_view c.in_ok-tree.tree ≡ qualified (place_of e) e (name_of (first ts)) (exs_view args.tree) =
    c.in_ok-tree.ensures ∙ rw (c.place_of-place.ensures, c.in_ok-name.ensures.1) refl in
    let whole : Runs (link a.room e) ts (got (expr_view c.in_ok-tree.tree) (drop args.next all)) = rw tree (called (token_here name) (called r.outcome ended)) in
    record { outcome = whole; forward = omega (arith, name.behind, r.forward); within = r.within }

-- ---- listed

pub chains::listed-returns-in_err-one-clause-reads : goal.chains::listed-returns-in_err-one-clause-reads
chains::listed-returns-in_err-one-clause-reads measure c =
    let a = c.args in let all = a.tokens.now.tokens in
    relay (Calls (expression_goal (expression a.room 1)) (drop c.items.next all)) (Calls (expression_goal (listed a.room)) (drop a.from all)) expr_view exs_view all c.items.next a.from _ _
    c.from_residual.ensures.1 c.in_err-one.ensures.reads c.items.invariant.forward
    (λ rest r. rw (exs_behind-refused (map expr_view c.items.tree.items) rest) at (c.items.invariant.goes_on (refused rest) (by_rule (call_refused r))))

pub chains::listed-returns-in_default-clause-reads : goal.chains::listed-returns-in_default-clause-reads
chains::listed-returns-in_default-clause-reads measure c =
    let a = c.args in let all = a.tokens.now.tokens in let one = c.in_ok-one.one in
    let r = c.in_ok-one.ensures.reads in
    let before = map expr_view c.items.tree.items in
    let pushed : map expr_view c.push.new.self.items ≡ before ++ expr_view one.tree ∷ [] = grind (arith, common_steps, c.in_ok-push.ensures.items) in
    let last = c.items.invariant.goes_on (got (and_ex (expr_view one.tree) no_exs) (drop one.next all)) (steps.listed_last r.outcome c.in_default.ensures) in
    let whole : Calls (expression_goal (listed a.room)) (drop a.from all) (got (exs_view c.push.new.self) (drop one.next all)) =
    rw pushed (rw (exs_behind-last before (expr_view one.tree) (drop one.next all)) at last) in
    record { outcome = whole; forward = omega (arith, r.forward, c.items.invariant.forward); within = r.within }

pub chains::listed-returns-in_default-clause-height : goal.chains::listed-returns-in_default-clause-height
chains::listed-returns-in_default-clause-height measure c =
    let one = c.in_ok-one.one in let before = map expr_view c.items.tree.items in
    let pushed : map expr_view c.push.new.self.items ≡ before ++ expr_view one.tree ∷ [] = grind (arith, common_steps, c.in_ok-push.ensures.items) in
    rw pushed (omega (arith, heights-more before (expr_view one.tree), c.max-height.ensures, c.in_ok-one.ensures.height, c.items.invariant.height))

pub chains::listed-items-preserved : goal.chains::listed-items-preserved
chains::listed-items-preserved measure c =
    let a = c.args in let all = a.tokens.now.tokens in let one = c.in_ok-one.one in
    let r = c.in_ok-one.ensures.reads in
    let before = map expr_view c.items.tree.items in
    let pushed : map expr_view c.push.new.self.items ≡ before ++ expr_view one.tree ∷ [] = grind (arith, common_steps, c.in_ok-push.ensures.items) in
    let comma = c.in-Some.ensures in
    record {
      within = comma.within;
      forward = omega (arith, r.forward, c.items.invariant.forward, comma.behind);
      low = omega (arith, c.max-height.ensures, c.in_ok-one.ensures.low, c.items.invariant.low);
      height = rw pushed (omega (arith, heights-more before (expr_view one.tree), c.max-height.ensures, c.in_ok-one.ensures.height, c.items.invariant.height));
      goes_on = λ u d. rw pushed (rw (exs_behind-more before (expr_view one.tree) u) at (c.items.invariant.goes_on (and_ex_first (expr_view one.tree) u)
          (steps.listed_more u r.outcome comma d)));
    }

-- ---- precursor_rest

pub chains::precursor_rest-returns-in_err-parent-clause-reads : goal.chains::precursor_rest-returns-in_err-parent-clause-reads
chains::precursor_rest-returns-in_err-parent-clause-reads measure c =
    let a = c.args in let all = a.tokens.now.tokens in let ts = drop a.from all in
    relay (Runs parent_name ts) (Calls (expression_goal (precursor_rest a.room a.place)) ts) (λ n. n) expr_view all a.from a.from _ _ c.from_residual.ensures.1 c.in_err-parent.ensures
    (omega arith) (λ rest r. steps.precursor_whole (bound_refused (steps.precursor_args a.room a.place) parent_name ts rest r))

pub chains::precursor_rest-returns-in_err-args-clause-reads : goal.chains::precursor_rest-returns-in_err-args-clause-reads
chains::precursor_rest-returns-in_err-args-clause-reads measure c =
    let a = c.args in let all = a.tokens.now.tokens in let ts = drop a.from all in let p = c.in_ok-parent.parent in let r = c.in_ok-parent.ensures in
    relay (Calls (expression_goal (arguments a.room)) (drop p.next all)) (Calls (expression_goal (precursor_rest a.room a.place)) ts) exs_view expr_view all p.next a.from _ _
    c.from_residual-in_err-args.ensures.1 c.in_err-args.ensures.reads r.forward
    (λ rest d. steps.precursor_whole (bound (steps.precursor_args a.room a.place) parent_name ts (drop p.next all) p.tree (refused rest) r.outcome (call_refused d)))

pub chains::precursor_rest-returns-clause-reads : goal.chains::precursor_rest-returns-clause-reads
chains::precursor_rest-returns-clause-reads measure c =
    let a = c.args in let all = a.tokens.now.tokens in let ts = drop a.from all in let p = c.in_ok-parent.parent in let r = c.in_ok-parent.ensures in
    let args = c.in_ok-args.args in let q = c.in_ok-args.ensures.reads in
    let tree : expr_view c.precursor.result ≡ precursor a.place p.tree (exs_view args.tree) = c.precursor.ensures in
    let whole : Calls (expression_goal (precursor_rest a.room a.place)) ts (got (expr_view c.precursor.result) (drop args.next all)) =
    rw tree (steps.precursor_whole (bound (steps.precursor_args a.room a.place) parent_name ts (drop p.next all) p.tree _ r.outcome (called q.outcome ended))) in
    record { outcome = whole; forward = omega (arith, r.forward, q.forward); within = q.within }

-- ---- expression

pub expressions::expression-returns-in_err-left-clause-reads : goal.expressions::expression-returns-in_err-left-clause-reads
expressions::expression-returns-in_err-left-clause-reads measure c =
    let a = c.args in let all = a.tokens.now.tokens in let ts = drop a.from all in
    relay (Calls (expression_goal (operand a.room)) ts) (Calls (expression_goal (expression a.room a.least)) ts) expr_view expr_view all a.from a.from _ _
    c.from_residual.ensures.1 c.in_err-left.ensures.reads (omega arith) (λ rest r. by_rule (call_refused r))

pub expressions::expression-signs-init : goal.expressions::expression-signs-init
expressions::expression-signs-init measure c =
    let left = c.in_ok-left.left in let r = c.in_ok-left.ensures.reads in
    record {
      within = r.within;
      forward = r.forward;
      some = omega (arith, c.in_ok-left.ensures.height, height_some (expr_view left.tree));
      low = c.in_ok-left.ensures.low;
      height = c.in_ok-left.ensures.height;
      goes_on = λ u d. by_rule (called r.outcome (tail u d));
    }

pub expressions::expression-returns-in_default-clause-reads : goal.expressions::expression-returns-in_default-clause-reads
expressions::expression-returns-in_default-clause-reads measure c =
    let i = c.signs.invariant in
    record { outcome = i.goes_on (got (expr_view c.signs.left.tree) (drop c.signs.left.next c.args.tokens.now.tokens)) (steps.climb_end (sym c.in_default.ensures)); forward = i.forward; within = i.within }

pub expressions::expression-returns-then-left-room-clause-reads : goal.expressions::expression-returns-then-left-room-clause-reads
expressions::expression-returns-then-left-room-clause-reads measure c =
    let i = c.signs.invariant in
    record {
      outcome = i.goes_on (refused (drop c.signs.left.next c.args.tokens.now.tokens)) (steps.climb_high c.in-Some.first (sym c.in-Some.ensures) (omega (arith, i.height, c.if-left-room.true)));
      forward = i.forward;
      within = i.within;
    }

pub expressions::expression-sign_at-sign-requires : goal.expressions::expression-sign_at-sign-requires
expressions::expression-sign_at-sign-requires measure c =
    (steps.of_level_some c.args.least (operator (head (drop c.signs.left.next c.args.tokens.now.tokens))) c.in-Some.first (sym c.in-Some.ensures)).0

pub expressions::expression-returns-in_err-right-clause-reads : goal.expressions::expression-returns-in_err-right-clause-reads
expressions::expression-returns-in_err-right-clause-reads measure c =
    let a = c.args in let all = a.tokens.now.tokens in let i = c.signs.invariant in let left = c.signs.left in let e = expr_view left.tree in let ts = drop left.next all in
    let s = c.sign_at-sign.result in let w = c.sign_at-sign.ensures in
    relay (Calls (expression_goal (expression (a.room - 1) c.right_level-right_least.result)) (drop s.next all)) (Calls (expression_goal (expression a.room a.least)) (drop a.from all))
    expr_view expr_view all s.next a.from _ _ c.from_residual-in_err-right.ensures.1 c.in_err-right.ensures.reads (omega (arith, i.forward, w.forward))
    (λ rest r. i.goes_on (refused rest) (steps.climb_whole c.in-Some.first (sym c.in-Some.ensures) (omega (arith, i.height, c.if-left-room.false))
    (bound (steps.sign_rest a.room a.least e) (sign c.in-Some.first) ts (drop s.next all) s.tree (refused rest) w.outcome (call_refused (rw (c.right_level-right_least.ensures) at r)))))

pub expressions::expression-signs-preserved : goal.expressions::expression-signs-preserved
expressions::expression-signs-preserved measure c =
    let a = c.args in let all = a.tokens.now.tokens in let i = c.signs.invariant in let left = c.signs.left in let e = expr_view left.tree in let ts = drop left.next all in
    let s = c.sign_at-sign.result in let w = c.sign_at-sign.ensures in let right = c.in_ok-right.right in let r = c.in_ok-right.ensures.reads in
    let tree : expr_view c.in_ok-tree.tree ≡ binary (place_of e) s.tree.op s.tree.place e (expr_view right.tree) = c.in_ok-tree.ensures ∙ rw (c.place_of-place.ensures) refl in
    let tall : height (expr_view c.in_ok-tree.tree) ≡ c.max-height.result + 1 = rw tree (omega (arith, c.max-height.ensures, c.in_ok-right.ensures.height, i.height)) in
    record {
      within = r.within;
      forward = omega (arith, i.forward, w.forward, r.forward);
      some = omega arith;
      low = omega (arith, c.max-height.ensures, c.in_ok-right.ensures.low, c.if-left-room.false);
      height = sym tall;
      goes_on = λ u d. i.goes_on u (steps.climb_whole c.in-Some.first (sym c.in-Some.ensures) (omega (arith, i.height, c.if-left-room.false))
          (bound (steps.sign_rest a.room a.least e) (sign c.in-Some.first) ts (drop s.next all) s.tree u w.outcome
          (called (rw (c.right_level-right_least.ensures) at r.outcome) (tail u (rw tree at d)))));
    }

-- ---- operand

pub operands::operand-returns-in_default-clause-reads : goal.operands::operand-returns-in_default-clause-reads
operands::operand-returns-in_default-clause-reads measure c =
    let a = c.args in let all = a.tokens.now.tokens in let ts = drop a.from all in
    let no_test : begins_test (head ts) ≡ false = cc (c.begins_test.ensures, c.if-begins_test.false, c.next_terminal-terminal.ensures) in
    let none : prefix_operator (head ts) ≡ None = cc (c.prefix_operator.ensures, c.in_default.is, c.next_terminal-terminal.ensures) in
    carry (Calls (expression_goal (chain a.room)) ts) (Calls (expression_goal (operand a.room)) ts) expr_view all a.from a.from c.chain.result (omega arith)
    (λ o d. operand_at a.room ts o chained (steps.is_chained (head ts) no_test none) (tail o d)) c.chain.ensures.reads

pub operands::operand-returns-then-room-eq1-clause-reads : goal.operands::operand-returns-then-room-eq1-clause-reads
operands::operand-returns-then-room-eq1-clause-reads measure c =
    let a = c.args in let ts = drop a.from a.tokens.now.tokens in
    let found : prefix_operator (head ts) ≡ Some c.in-Some.op = cc (c.prefix_operator.ensures, c.in-Some.is, c.next_terminal-terminal.ensures) in
    record { outcome = steps.prefix_high c.in-Some.op found (omega arith); forward = omega arith; within = c.requires.start }

pub operands::operand-returns-in_err-value-clause-reads : goal.operands::operand-returns-in_err-value-clause-reads
operands::operand-returns-in_err-value-clause-reads measure c =
    let a = c.args in let all = a.tokens.now.tokens in let ts = drop a.from all in
    let found : prefix_operator (head ts) ≡ Some c.in-Some.op = cc (c.prefix_operator.ensures, c.in-Some.is, c.next_terminal-terminal.ensures) in
    relay (Calls (expression_goal (operand (a.room - 1))) (drop c.after.result all)) (Calls (expression_goal (operand a.room)) ts) expr_view expr_view all c.after.result a.from _ _
    c.from_residual.ensures.1 c.in_err-value.ensures.reads (omega (arith, c.after.ensures.behind))
    (λ rest r. steps.prefix_refused c.in-Some.op found (omega (arith, c.requires.some, c.if-room-eq1.false)) c.after.ensures r)

pub operands::operand-returns-clause-reads : goal.operands::operand-returns-clause-reads
operands::operand-returns-clause-reads measure c =
    let a = c.args in let all = a.tokens.now.tokens in let ts = drop a.from all in let e = c.in_ok-value.value in let r = c.in_ok-value.ensures.reads in
    let found : prefix_operator (head ts) ≡ Some c.in-Some.op = cc (c.prefix_operator.ensures, c.in-Some.is, c.next_terminal-terminal.ensures) in
    let tree : expr_view c.in_ok-tree.tree ≡ unary (first ts).place c.in-Some.op (expr_view e.tree) = c.in_ok-tree.ensures ∙ rw (c.place_at.ensures) refl in
    let whole : Calls (expression_goal (operand a.room)) ts (got (expr_view c.in_ok-tree.tree) (drop e.next all)) =
    rw tree (steps.prefix_whole c.in-Some.op found (omega (arith, c.requires.some, c.if-room-eq1.false)) c.after.ensures r.outcome) in
    record { outcome = whole; forward = omega (arith, c.after.ensures.behind, r.forward); within = r.within }

-- ---- tested

pub operands::tested-returns-then-room-eq1-clause-reads : goal.operands::tested-returns-then-room-eq1-clause-reads
operands::tested-returns-then-room-eq1-clause-reads measure c =
    record { outcome = steps.test_high c.requires.begins (omega arith); forward = omega arith; within = c.requires.start }

pub operands::tested-returns-in_err-head-clause-reads : goal.operands::tested-returns-in_err-head-clause-reads
operands::tested-returns-in_err-head-clause-reads measure c =
    let a = c.args in let all = a.tokens.now.tokens in let ts = drop a.from all in let begun = test_head (a.room - 1) (operand_start (head ts)) in
    relay (Runs begun ts) (Calls (expression_goal (operand a.room)) ts) test_head_view expr_view all a.from a.from _ _ c.from_residual.ensures.1 c.in_err-head.ensures.reads (omega arith)
    (λ rest r. steps.test_whole c.requires.begins (omega (arith, c.requires.some, c.if-room-eq1.false)) (bound_refused (test_rest a.room) begun ts rest r))

pub operands::tested-returns-in_err-value-clause-reads : goal.operands::tested-returns-in_err-value-clause-reads
operands::tested-returns-in_err-value-clause-reads measure c =
    let a = c.args in let all = a.tokens.now.tokens in let ts = drop a.from all in let begun = test_head (a.room - 1) (operand_start (head ts)) in
    let h = c.in_ok-head.head in let q = c.in_ok-head.ensures.reads in
    relay (Calls (expression_goal (chain (a.room - 1))) (drop h.next all)) (Calls (expression_goal (operand a.room)) ts) expr_view expr_view all h.next a.from _ _
    c.from_residual-in_err-value.ensures.1 c.in_err-value.ensures.reads q.forward
    (λ rest r. steps.test_whole c.requires.begins (omega (arith, c.requires.some, c.if-room-eq1.false))
    (bound (test_rest a.room) begun ts (drop h.next all) (test_head_view h.tree) (refused rest) q.outcome (call_refused r)))

pub operands::tested-returns-in_err-local-clause-reads : goal.operands::tested-returns-in_err-local-clause-reads
operands::tested-returns-in_err-local-clause-reads measure c =
    let a = c.args in let all = a.tokens.now.tokens in let ts = drop a.from all in let begun = test_head (a.room - 1) (operand_start (head ts)) in
    let h = c.in_ok-head.head in let q = c.in_ok-head.ensures.reads in let e = c.in_ok-value.value in let r = c.in_ok-value.ensures.reads in
    relay (Runs (local_behind h.tree.local) (drop e.next all)) (Calls (expression_goal (operand a.room)) ts) (λ n. n) expr_view all e.next a.from _ _
    c.from_residual-in_err-local.ensures.1 c.in_err-local.ensures (omega (arith, q.forward, r.forward))
    (λ rest d. steps.test_whole c.requires.begins (omega (arith, c.requires.some, c.if-room-eq1.false))
    (bound (test_rest a.room) begun ts (drop h.next all) (test_head_view h.tree) (refused rest) q.outcome
    (called r.outcome (bound_refused (steps.test_done (test_head_view h.tree) (expr_view e.tree)) (local_behind h.tree.local) (drop e.next all) rest d))))

pub operands::tested-returns-clause-reads : goal.operands::tested-returns-clause-reads
operands::tested-returns-clause-reads measure c =
    let a = c.args in let all = a.tokens.now.tokens in let ts = drop a.from all in let begun = test_head (a.room - 1) (operand_start (head ts)) in
    let h = c.in_ok-head.head in let q = c.in_ok-head.ensures.reads in let e = c.in_ok-value.value in let r = c.in_ok-value.ensures.reads in
    let l = c.in_ok-local.local in let d = c.in_ok-local.ensures in let begins = test_head_view h.tree in
    let tree : expr_view c.in_ok-tree.tree ≡ test begins.place begins.type_tree l.tree (expr_view e.tree) = c.in_ok-tree.ensures in
    let whole : Calls (expression_goal (operand a.room)) ts (got (expr_view c.in_ok-tree.tree) (drop l.next all)) =
    rw tree (steps.test_whole c.requires.begins (omega (arith, c.requires.some, c.if-room-eq1.false))
    (bound (test_rest a.room) begun ts (drop h.next all) begins _ q.outcome
    (called r.outcome (bound (steps.test_done begins (expr_view e.tree)) (local_behind h.tree.local) (drop e.next all) (drop l.next all) l.tree _ d.outcome ended)))) in
    record { outcome = whole; forward = omega (arith, q.forward, r.forward, d.forward); within = d.within }

-- ---- created

pub primaries::created-returns-then-room-eq1-clause-reads : goal.primaries::created-returns-then-room-eq1-clause-reads
primaries::created-returns-then-room-eq1-clause-reads measure c =
    record { outcome = steps.created_high c.requires.begins (omega arith); forward = omega arith; within = c.requires.start }

pub primaries::created-returns-in_err-start-clause-reads : goal.primaries::created-returns-in_err-start-clause-reads
primaries::created-returns-in_err-start-clause-reads measure c =
    let a = c.args in let all = a.tokens.now.tokens in let word = c.after.ensures in
    relay_token (Calls (expression_goal (primary a.room)) (drop a.from all)) expr_view t.OpenBrace all c.after.result a.from _ _ c.from_residual.ensures.1 c.in_err-start.ensures
    (omega (arith, word.behind)) word.within (λ other. steps.created_whole c.requires.begins (omega (arith, c.requires.some, c.if-room-eq1.false)) word (other_here other))

pub primaries::created-returns-in_err-made-clause-reads : goal.primaries::created-returns-in_err-made-clause-reads
primaries::created-returns-in_err-made-clause-reads measure c =
    let a = c.args in let all = a.tokens.now.tokens in let ts = drop a.from all in let word = c.after.ensures in let brace = c.in_ok-start.ensures in let start = c.in_ok-start.start in
    relay (Runs (closed_type (a.room - 1)) (drop start all)) (Calls (expression_goal (primary a.room)) ts) type_view expr_view all start a.from _ _
    c.from_residual-in_err-made.ensures.1 c.in_err-made.ensures.reads (omega (arith, word.behind, brace.behind))
    (λ rest r. steps.created_whole c.requires.begins (omega (arith, c.requires.some, c.if-room-eq1.false)) word
    (expect_here brace (bound_refused (steps.created_rest a.room (first ts).place) (closed_type (a.room - 1)) (drop start all) rest r)))

pub primaries::created-returns-in_err-call-clause-reads : goal.primaries::created-returns-in_err-call-clause-reads
primaries::created-returns-in_err-call-clause-reads measure c =
    let a = c.args in let all = a.tokens.now.tokens in let ts = drop a.from all in let word = c.after.ensures in let brace = c.in_ok-start.ensures in let start = c.in_ok-start.start in
    let ty = c.in_ok-made.made in let r = c.in_ok-made.ensures.reads in
    relay (Calls (expression_goal (creator a.room)) (drop ty.next all)) (Calls (expression_goal (primary a.room)) ts) creator_view expr_view all ty.next a.from _ _
    c.from_residual-in_err-call.ensures.1 c.in_err-call.ensures.reads (omega (arith, word.behind, brace.behind, r.forward))
    (λ rest d. steps.created_whole c.requires.begins (omega (arith, c.requires.some, c.if-room-eq1.false)) word
    (expect_here brace (bound (steps.created_rest a.room (first ts).place) (closed_type (a.room - 1)) (drop start all) (drop ty.next all) (type_view ty.tree) (refused rest) r.outcome (call_refused d))))

pub primaries::created-returns-clause-reads : goal.primaries::created-returns-clause-reads
primaries::created-returns-clause-reads measure c =
    let a = c.args in let all = a.tokens.now.tokens in let ts = drop a.from all in let word = c.after.ensures in let brace = c.in_ok-start.ensures in let start = c.in_ok-start.start in
    let ty = c.in_ok-made.made in let r = c.in_ok-made.ensures.reads in let call' = c.in_ok-call.call in let d = c.in_ok-call.ensures.reads in
    let tree : expr_view c.creation.result ≡ creation (first ts).place (type_view ty.tree) call'.tree.name (exs_view call'.tree.args) = c.creation.ensures ∙ rw (c.place_at-place.ensures) refl in
    let whole : Calls (expression_goal (primary a.room)) ts (got (expr_view c.creation.result) (drop call'.next all)) =
    rw tree (steps.created_whole c.requires.begins (omega (arith, c.requires.some, c.if-room-eq1.false)) word
    (expect_here brace (bound (steps.created_rest a.room (first ts).place) (closed_type (a.room - 1)) (drop start all) (drop ty.next all) (type_view ty.tree) _ r.outcome (called d.outcome ended)))) in
    record { outcome = whole; forward = omega (arith, word.behind, brace.behind, r.forward, d.forward); within = d.within }

-- ---- parenthesized

pub primaries::parenthesized-returns-then-room-eq1-clause-reads : goal.primaries::parenthesized-returns-then-room-eq1-clause-reads
primaries::parenthesized-returns-then-room-eq1-clause-reads measure c =
    record { outcome = steps.paren_high c.requires.begins (omega arith); forward = omega arith; within = c.requires.start }

pub primaries::parenthesized-returns-in_err-inner-clause-reads : goal.primaries::parenthesized-returns-in_err-inner-clause-reads
primaries::parenthesized-returns-in_err-inner-clause-reads measure c =
    let a = c.args in let all = a.tokens.now.tokens in let open' = c.after.ensures in
    relay (Calls (expression_goal (expression (a.room - 1) 1)) (drop c.after.result all)) (Calls (expression_goal (primary a.room)) (drop a.from all)) expr_view expr_view all c.after.result a.from _ _
    c.from_residual.ensures.1 c.in_err-inner.ensures.reads (omega (arith, open'.behind))
    (λ rest r. steps.paren_whole c.requires.begins (omega (arith, c.requires.some, c.if-room-eq1.false)) open' (call_refused r))

pub primaries::parenthesized-returns-in_err-next-clause-reads : goal.primaries::parenthesized-returns-in_err-next-clause-reads
primaries::parenthesized-returns-in_err-next-clause-reads measure c =
    let a = c.args in let all = a.tokens.now.tokens in let open' = c.after.ensures in let e = c.in_ok-inner.inner in let r = c.in_ok-inner.ensures.reads in
    relay_token (Calls (expression_goal (primary a.room)) (drop a.from all)) expr_view t.CloseParenthesis all e.next a.from _ _
    c.from_residual-in_err-next.ensures.1 c.in_err-next.ensures (omega (arith, open'.behind, r.forward)) r.within
    (λ other. steps.paren_whole c.requires.begins (omega (arith, c.requires.some, c.if-room-eq1.false)) open' (called r.outcome (other_here other)))

pub primaries::parenthesized-returns-clause-reads : goal.primaries::parenthesized-returns-clause-reads
primaries::parenthesized-returns-clause-reads measure c =
    let a = c.args in let all = a.tokens.now.tokens in let ts = drop a.from all in let open' = c.after.ensures in
    let e = c.in_ok-inner.inner in let r = c.in_ok-inner.ensures.reads in let close = c.in_ok-next.ensures in
    let tree : expr_view c.in_ok-tree.tree ≡ paren (first ts).place (expr_view e.tree) = c.in_ok-tree.ensures ∙ rw (c.place_at.ensures) refl in
    let whole : Calls (expression_goal (primary a.room)) ts (got (expr_view c.in_ok-tree.tree) (drop c.in_ok-next.next all)) =
    rw tree (steps.paren_whole c.requires.begins (omega (arith, c.requires.some, c.if-room-eq1.false)) open' (called r.outcome (expect_here close ended))) in
    record { outcome = whole; forward = omega (arith, open'.behind, r.forward, close.behind); within = close.within }

-- ---- primary

pub primaries::primary-returns-in_err-args-in-Identifier-clause-reads : goal.primaries::primary-returns-in_err-args-in-Identifier-clause-reads
primaries::primary-returns-in_err-args-in-Identifier-clause-reads measure c =
    let a = c.args in let all = a.tokens.now.tokens in let ts = drop a.from all in let name = c.after.ensures in
    let found : head ts ≡ t.Identifier = cc (c.next_terminal.ensures, c.in-Identifier.is) in
    relay (Calls (expression_goal (arguments a.room)) (drop c.after.result all)) (Calls (expression_goal (primary a.room)) ts) exs_view expr_view all c.after.result a.from _ _
    c.from_residual-in_err-args-in-Identifier.ensures.1 c.in_err-args-in-Identifier.ensures.reads (omega (arith, name.behind)) (λ rest r. steps.name_whole found name (call_refused r))

pub primaries::primary-returns-in_ok-args-in-Identifier-clause-reads : goal.primaries::primary-returns-in_ok-args-in-Identifier-clause-reads
primaries::primary-returns-in_ok-args-in-Identifier-clause-reads measure c =
    let a = c.args in let all = a.tokens.now.tokens in let ts = drop a.from all in let name = c.after.ensures in
    let found : head ts ≡ t.Identifier = cc (c.next_terminal.ensures, c.in-Identifier.is) in
    let args = c.in_ok-args-in-Identifier.args in let r = c.in_ok-args-in-Identifier.ensures.reads in
    let tree : expr_view c.unqualified.result ≡ unqualified (first ts).place (str_to_ascii_lowercase (first ts).text) (exs_view args.tree) =
    c.unqualified.ensures ∙ rw (c.in_ok-name-in-Identifier.ensures) refl in
    let whole : Calls (expression_goal (primary a.room)) ts (got (expr_view c.unqualified.result) (drop args.next all)) = rw tree (steps.name_whole found name (called r.outcome ended)) in
    record { outcome = whole; forward = omega (arith, name.behind, r.forward); within = r.within }

pub primaries::primary-returns-in-Precursor-clause-reads : goal.primaries::primary-returns-in-Precursor-clause-reads
primaries::primary-returns-in-Precursor-clause-reads measure c =
    let a = c.args in let all = a.tokens.now.tokens in let ts = drop a.from all in let word = c.after-in-Precursor.ensures in
    let found : head ts ≡ t.Precursor = cc (c.next_terminal.ensures, c.in-Precursor.is) in
    carry (Calls (expression_goal (precursor_rest a.room c.place_at-place.result)) (drop c.after-in-Precursor.result all)) (Calls (expression_goal (primary a.room)) ts) expr_view all
    c.after-in-Precursor.result a.from c.precursor_rest.result (omega (arith, word.behind))
    (λ o d. steps.precursor_here o found word (rw (c.place_at-place.ensures) at d)) c.precursor_rest.ensures.reads
