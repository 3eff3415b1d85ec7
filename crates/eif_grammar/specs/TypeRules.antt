-- How types are read: one rule for each goal.
use Rattle.std.specs.Prelude.{ℕ, ◌-◌, nat_lt}
use Rattle.std.specs.Str.{str_to_ascii_lowercase}
use Rattle.eif_base.specs.declared.Place.{Place}
use Rattle.eif_tree.specs.declared.Mark.{Mark}
use Rattle.eif_tree.specs.declared.Mark.TheVariants.{Plain, Attached, Detachable}
use Rattle.eif_tree.specs.Tree.{TypeT, type_at, no_types, and_type}
use Rattle.eif_grammar.specs.declared.terminal.Terminal.{Terminal}
use Rattle.eif_grammar.specs.declared.terminal.Terminal.TheVariants as t
use Rattle.eif_grammar.specs.Tokens.{Token}
use Rattle.eif_grammar.specs.Goals.{TypeGoal, TypeFound, written, unmarked, actuals, more_types, type_goal, token}
use Rattle.eif_grammar.specs.Reader.{Reader, done, refuse, look, next, call, guard, on, expect}

-- how a type begins
pub data TypeStart : Type 0 where
  with_mark : Mark → TypeStart
  with_name : TypeStart
  no_type : TypeStart

abbrev pub type_start : Terminal → TypeStart
type_start t.Question = with_mark Detachable
type_start t.Detachable = with_mark Detachable
type_start t.Exclamation = with_mark Attached
type_start t.Attached = with_mark Attached
type_start t.Identifier = with_name
type_start _ = no_type

-- behind the name
abbrev pub named : ℕ → Place → Mark → Token → Reader TypeT
named room p m n = call (type_goal (actuals room)) (λ ts. done (type_at p n.place m (str_to_ascii_lowercase n.text) ts))

abbrev pub written_by : ℕ → TypeStart → Reader TypeT
written_by room (with_mark m) = next (λ mark. call (token t.Identifier) (named room mark.place m))
written_by room with_name = next (λ n. named room n.place Plain n)
written_by room no_type = refuse

abbrev pub type_rule : (g : TypeGoal) → Reader (TypeFound g)
type_rule (written room) = look (λ x. written_by room (type_start x))
type_rule (unmarked room) = call (token t.Identifier) (λ n. named room n.place Plain n)
type_rule (actuals room) =
    on t.OpenBracket (guard (nat_lt 1 room) (next (λ _.
    call (type_goal (written (room - 1))) (λ ty.
    call (type_goal (more_types (room - 1))) (λ ts.
    expect t.CloseBracket (done (and_type ty ts)))))))
    (done no_types)
type_rule (more_types room) =
    on t.Comma (next (λ _.
    call (type_goal (written room)) (λ ty.
    call (type_goal (more_types room)) (λ ts. done (and_type ty ts)))))
    (done no_types)
