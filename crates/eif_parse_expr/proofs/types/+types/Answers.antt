use Rattle.std.proofs.Common.{◌≡◌, ◌-◌, drop, map, ◌++◌, ◌∷◌, [], refl, arith}
use Rattle.std.proofs.lemmas.Grind.{common_steps}
use Rattle.eif_tree.specs.Tree.{no_types, and_type}
use Rattle.eif_tree.specs.View.{type_view}
use Rattle.eif_grammar.specs.declared.terminal.Terminal.TheVariants as t
use Rattle.eif_grammar.specs.Goals.{written, actuals, type_goal}
use Rattle.eif_grammar.specs.Outcomes.{got, refused, Runs, Calls}
use Rattle.eif_grammar_laws.proofs.Readers.{by_rule, call_refused, ended}
use Rattle.eif_grammar_laws.proofs.Terminals.{on_found}
use Rattle.eif_parse_expr.specs.Readings.{types_view}
use Rattle.eif_parse_expr.specs.Subrules.{type_head, headed, type_list}
use Rattle.eif_parse_expr.proofs.Bind.{bound, bound_refused}
use Rattle.eif_parse_expr.proofs.Lists.{and_type_first, types_behind-more, types_behind-last, types_behind-refused, types_height-more}
use Rattle.eif_parse_expr.proofs.Steps.{carry, relay, relay_token, expect_here, other_here, no_room}
use Rattle.eif_parse_expr.proofs.TypeSteps.{written_whole, no_actuals, actuals_whole, actuals_rest, type_list_last, type_list_more}
use Rattle.eif_parse_expr.proofs.types.+types.Goals as goal

-- ---- written_type

pub written_type-returns-in_err-head-clause-reads : goal.written_type-returns-in_err-head-clause-reads
written_type-returns-in_err-head-clause-reads measure c =
    let a = c.args in let all = a.tokens.now.tokens in let ts = drop a.from all in
    relay (Runs type_head ts) (Calls (type_goal (written a.room)) ts) (λ h. h) type_view all a.from a.from _ _ c.from_residual.ensures.1 c.in_err-head.ensures (omega arith)
    (λ rest r. written_whole (bound_refused (headed a.room) type_head ts rest r))

pub written_type-returns-clause-reads : goal.written_type-returns-clause-reads
written_type-returns-clause-reads measure c =
    let a = c.args in let all = a.tokens.now.tokens in let ts = drop a.from all in let h = c.in_ok-head.head in let r = c.in_ok-head.ensures in
    carry (Runs (headed a.room h.tree) (drop h.next all)) (Calls (type_goal (written a.room)) ts) type_view all h.next a.from c.headed_type.result r.forward
    (λ o d. written_whole (bound (headed a.room) type_head ts (drop h.next all) h.tree o r.outcome d)) c.headed_type.ensures.reads

-- ---- headed_type

-- ---- actuals

pub actuals-returns-in_default-clause-reads : goal.actuals-returns-in_default-clause-reads
actuals-returns-in_default-clause-reads measure c =
    let a = c.args in let ts = drop a.from a.tokens.now.tokens in
    let none : types_view c.new.result ≡ no_types = rw (c.new.ensures.items) refl in
    let whole : Calls (type_goal (actuals a.room)) ts (got (types_view c.new.result) ts) = rw none (no_actuals c.in_default.ensures) in
    record { outcome = whole; forward = omega arith; within = c.requires.start }

pub actuals-returns-then-room-eq1-clause-reads : goal.actuals-returns-then-room-eq1-clause-reads
actuals-returns-then-room-eq1-clause-reads measure c =
    let a = c.args in
    record { outcome = by_rule (on_found c.in-Some.ensures.is (no_room 1 a.room (omega arith))); forward = omega arith; within = c.requires.start }

pub actuals-returns-in_err-all-clause-reads : goal.actuals-returns-in_err-all-clause-reads
actuals-returns-in_err-all-clause-reads measure c =
    let a = c.args in let all = a.tokens.now.tokens in let ts = drop a.from all in let open' = c.in-Some.ensures in let start = c.in-Some.start in
    relay (Runs (type_list (a.room - 1)) (drop start all)) (Calls (type_goal (actuals a.room)) ts) types_view types_view all start a.from _ _
    c.from_residual.ensures.1 c.in_err-all.ensures.reads (omega (arith, open'.behind))
    (λ rest r. actuals_whole (omega (arith, c.requires.some, c.if-room-eq1.false)) open' (bound_refused actuals_rest (type_list (a.room - 1)) (drop start all) rest r))

pub actuals-returns-in_err-next-clause-reads : goal.actuals-returns-in_err-next-clause-reads
actuals-returns-in_err-next-clause-reads measure c =
    let a = c.args in let all = a.tokens.now.tokens in let ts = drop a.from all in let open' = c.in-Some.ensures in let start = c.in-Some.start in
    let types = c.in_ok-all.all in let r = c.in_ok-all.ensures.reads in
    relay_token (Calls (type_goal (actuals a.room)) ts) types_view t.CloseBracket all types.next a.from _ _
    c.from_residual-in_err-next.ensures.1 c.in_err-next.ensures (omega (arith, r.forward, open'.behind)) r.within
    (λ other. actuals_whole (omega (arith, c.requires.some, c.if-room-eq1.false)) open'
    (bound actuals_rest (type_list (a.room - 1)) (drop start all) (drop types.next all) (types_view types.tree) (refused (drop types.next all)) r.outcome (other_here other)))

pub actuals-returns-clause-reads : goal.actuals-returns-clause-reads
actuals-returns-clause-reads measure c =
    let a = c.args in let all = a.tokens.now.tokens in let ts = drop a.from all in let open' = c.in-Some.ensures in let start = c.in-Some.start in
    let types = c.in_ok-all.all in let r = c.in_ok-all.ensures.reads in let close = c.in_ok-next.ensures in
    record {
      outcome = actuals_whole (omega (arith, c.requires.some, c.if-room-eq1.false)) open'
          (bound actuals_rest (type_list (a.room - 1)) (drop start all) (drop types.next all) (types_view types.tree) (got (types_view types.tree) (drop c.in_ok-next.next all)) r.outcome
          (expect_here close ended));
      forward = omega (arith, r.forward, open'.behind, close.behind);
      within = close.within;
    }

-- ---- type_list

pub type_list-returns-in_err-one-clause-reads : goal.type_list-returns-in_err-one-clause-reads
type_list-returns-in_err-one-clause-reads measure c =
    let a = c.args in let all = a.tokens.now.tokens in
    relay (Calls (type_goal (written a.room)) (drop c.items.next all)) (Runs (type_list a.room) (drop a.from all)) type_view types_view all c.items.next a.from _ _
    c.from_residual.ensures.1 c.in_err-one.ensures.reads c.items.invariant.forward
    (λ rest r. rw (types_behind-refused (map type_view c.items.tree.items) rest) at (c.items.invariant.goes_on (refused rest) (call_refused r)))

pub type_list-returns-in_default-clause-reads : goal.type_list-returns-in_default-clause-reads
type_list-returns-in_default-clause-reads measure c =
    let a = c.args in let all = a.tokens.now.tokens in let one = c.in_ok-one.one in
    let r = c.in_ok-one.ensures.reads in
    let before = map type_view c.items.tree.items in
    let pushed : map type_view c.push.new.self.items ≡ before ++ type_view one.tree ∷ [] = grind (arith, common_steps, c.in_ok-push.ensures.items) in
    let last = c.items.invariant.goes_on (got (and_type (type_view one.tree) no_types) (drop one.next all)) (type_list_last r.outcome c.in_default.ensures) in
    let whole : Runs (type_list a.room) (drop a.from all) (got (types_view c.push.new.self) (drop one.next all)) =
    rw pushed (rw (types_behind-last before (type_view one.tree) (drop one.next all)) at last) in
    record { outcome = whole; forward = omega (arith, r.forward, c.items.invariant.forward); within = r.within }

pub type_list-returns-in_default-clause-height : goal.type_list-returns-in_default-clause-height
type_list-returns-in_default-clause-height measure c =
    let one = c.in_ok-one.one in let before = map type_view c.items.tree.items in
    let pushed : map type_view c.push.new.self.items ≡ before ++ type_view one.tree ∷ [] = grind (arith, common_steps, c.in_ok-push.ensures.items) in
    rw pushed (omega (arith, types_height-more before (type_view one.tree), c.max-height.ensures, c.in_ok-one.ensures.height, c.items.invariant.height))

pub type_list-items-preserved : goal.type_list-items-preserved
type_list-items-preserved measure c =
    let a = c.args in let all = a.tokens.now.tokens in let one = c.in_ok-one.one in
    let r = c.in_ok-one.ensures.reads in
    let before = map type_view c.items.tree.items in
    let pushed : map type_view c.push.new.self.items ≡ before ++ type_view one.tree ∷ [] = grind (arith, common_steps, c.in_ok-push.ensures.items) in
    let comma = c.in-Some.ensures in
    record {
      within = comma.within;
      forward = omega (arith, r.forward, c.items.invariant.forward, comma.behind);
      low = omega (arith, c.max-height.ensures, c.in_ok-one.ensures.low, c.items.invariant.low);
      height = rw pushed (omega (arith, types_height-more before (type_view one.tree), c.max-height.ensures, c.in_ok-one.ensures.height, c.items.invariant.height));
      goes_on = λ u d. rw pushed (rw (types_behind-more before (type_view one.tree) u) at (c.items.invariant.goes_on (and_type_first (type_view one.tree) u)
          (type_list_more u r.outcome comma d)));
    }
