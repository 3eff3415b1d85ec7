-- What was taken of a type can be completed: a missing type or name is an identifier.
use Rattle.std.proofs.Common.{◌≡◌, ℕ, ◌-◌, ◌≤◌, nat_lt, true, Some, None, refl, arith}
use Rattle.std.proofs.lemmas.Bool.Decides.{nat_tests}
use Rattle.eif_base.specs.declared.Place.{Place}
use Rattle.eif_tree.specs.declared.Mark.{Mark}
use Rattle.eif_grammar.specs.declared.terminal.Terminal.TheVariants as t
use Rattle.eif_grammar.specs.Tokens.{Token}
use Rattle.eif_grammar.specs.Goals.{TypeGoal, written, unmarked, actuals, more_types, type_goal}
use Rattle.eif_grammar.specs.TypeRules.{TypeStart, with_mark, with_name, no_type, type_start, named, written_by, type_rule}
use Rattle.eif_grammar_laws.proofs.Endings.{at_closing, type_room}
use Rattle.eif_grammar_laws.proofs.Closing.{not_here}
use Rattle.eif_grammar_laws.proofs.Completions.{Sample, sample_of, one_token, ends_done, ends_call, ends_next, ends_look, ends_other, Living, Live, living_done, living_refuse, living_look, living_next, living_guard, living_test, living_token, live_done, live_call, live_token, live_expect}

-- ---- words that complete a type

pub no_actuals : (room : ℕ) → Sample (type_goal (actuals room)) None
no_actuals room = sample_of (ends_other (not_here at_closing t.OpenBracket refl) ends_done)

pub no_more_types : (room : ℕ) → Sample (type_goal (more_types room)) None
no_more_types room = sample_of (ends_other (not_here at_closing t.Comma refl) ends_done)

pub a_type : (room : ℕ) → Sample (type_goal (written room)) (Some t.Identifier)
a_type room = sample_of (ends_look t.Identifier (ends_next t.Identifier (ends_call (no_actuals room) (λ y st. st) ends_done)))

pub a_class_type : (room : ℕ) → Sample (type_goal (unmarked room)) (Some t.Identifier)
a_class_type room = sample_of (ends_call (one_token t.Identifier) (λ y st. refl) (ends_call (no_actuals room) (λ y st. st) ends_done))

-- ---- the rules

-- a guard leaves room below
pub room_under : (room : ℕ) → nat_lt 1 room ≡ true → 1 ≤ room - 1
room_under room e = grind (arith, nat_tests)

live_named : (g : TypeGoal) (room : ℕ) → 1 ≤ room → (p : Place) (m : Mark) (n : Token) → Live (type_goal g) None (named room p m n)
live_named g room ok p m n = live_call (no_actuals room) ok (λ y st. st) (λ ts. live_done)

living_written : (g : TypeGoal) (room : ℕ) → 1 ≤ room → (s : TypeStart) → Living (type_goal g) (written_by room s)
living_written g room ok (with_mark m) = living_next (λ mark. live_token (λ n. live_named g room ok mark.place m n))
living_written g room ok with_name = living_next (λ n. live_named g room ok n.place _ n)
living_written g room ok no_type = living_refuse

pub living_type : (g : TypeGoal) → type_room g → Living (type_goal g) (type_rule g)
living_type (written room) ok = living_look (λ x. living_written (written room) room ok (type_start x))
living_type (unmarked room) ok = living_token (λ n. live_named (unmarked room) room ok n.place _ n)
living_type (actuals room) ok = living_test
    (living_guard (λ low. living_next (λ w.
    live_call (a_type (room - 1)) (room_under room low) (λ y st. refl) (λ ty.
    live_call (no_more_types (room - 1)) (room_under room low) (λ y st. refl) (λ ts.
    live_expect live_done)))))
    living_done
living_type (more_types room) ok = living_test
    (living_next (λ w.
    live_call (a_type room) ok (λ y st. st) (λ ty.
    live_call (no_more_types room) ok (λ y st. st) (λ ts.
    live_done))))
    living_done
