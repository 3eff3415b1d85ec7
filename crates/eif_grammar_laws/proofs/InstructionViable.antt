-- What was taken of assertions and instructions can be completed: each is closed at once, with what it must have.
use Rattle.std.proofs.Common.{◌≡◌, ℕ, ◌-◌, ◌≤◌, ◌<◌, nat_lt, true, Option, Some, None, refl, arith}
use Rattle.std.proofs.lemmas.Bool.Decides.{nat_tests}
use Rattle.eif_base.specs.declared.Place.{Place}
use Rattle.eif_tree.specs.declared.NameAt.{NameAt}
use Rattle.eif_tree.specs.Tree.{TypeT, Ex, Exs, Inss, current_value}
use Rattle.eif_tree.specs.Height.{height}
use Rattle.eif_grammar.specs.declared.terminal.Terminal.TheVariants as t
use Rattle.eif_grammar.specs.Tokens.{Token}
use Rattle.eif_grammar.specs.Goals.{InstructionGoal, semis, assertions, assertion, invariants, variant, compound, instruction, target, elseifs, otherwise, instruction_goal}
use Rattle.eif_grammar.specs.InstructionRules.{from_name, InstructionStart, by_name, by_result, by_precursor, by_current, by_create, by_if, by_from, by_check, no_instruction, instruction_start, assigned, called_on, created, branches, loop_rest, instruction_by, instruction_rule}
use Rattle.eif_grammar_laws.proofs.Endings.{at_closing, instruction_room}
use Rattle.eif_grammar_laws.proofs.Closing.{not_here, closing_expression, closing_instruction}
use Rattle.eif_grammar_laws.proofs.Completions.{Sample, sample_of, one_token, ends_done, ends_call, ends_other, Living, Live, living_done, living_refuse, living_look, living_next, living_guard, living_test, living_call, living_token, live_done, live_call, live_expect, live_found, live_other}
use Rattle.eif_grammar_laws.proofs.TypeViable.{a_type, room_under}
use Rattle.eif_grammar_laws.proofs.ExpressionViable.{no_arguments, no_dots, no_operators, no_creator, no_parent, an_expression, a_dotted}

-- ---- words that complete assertions and instructions

pub no_semis : Sample (instruction_goal semis) None
no_semis = sample_of (ends_other (not_here at_closing t.Semicolon refl) ends_done)

pub no_assertions : (room : ℕ) → Sample (instruction_goal (assertions room)) None
no_assertions room = sample_of (ends_other closing_expression ends_done)

pub an_assertion : (room : ℕ) → Sample (instruction_goal (assertion room)) (Some t.Void)
an_assertion room = sample_of (ends_other (λ y st. refl) (ends_call (an_expression room 1) (λ y st. st) ends_done))

pub no_invariants : (room : ℕ) → Sample (instruction_goal (invariants room)) None
no_invariants room = sample_of (ends_other (not_here at_closing t.Invariant refl) ends_done)

pub no_variant : (room : ℕ) → Sample (instruction_goal (variant room)) None
no_variant room = sample_of (ends_other (not_here at_closing t.Variant refl) ends_done)

pub no_instructions : (room : ℕ) → Sample (instruction_goal (compound room)) None
no_instructions room = sample_of (ends_other (not_here at_closing t.Semicolon refl) (ends_other closing_instruction ends_done))

pub a_target : Sample (instruction_goal target) (Some t.Identifier)
a_target = sample_of (ends_other (λ y st. refl) (ends_call (one_token t.Identifier) (λ y st. refl) ends_done))

pub no_elseifs : (room : ℕ) → Sample (instruction_goal (elseifs room)) None
no_elseifs room = sample_of (ends_other (not_here at_closing t.Elseif refl) ends_done)

pub no_otherwise : (room : ℕ) → Sample (instruction_goal (otherwise room)) None
no_otherwise room = sample_of (ends_other (not_here at_closing t.Else refl) ends_done)

-- ---- instructions

some_room : (room : ℕ) → nat_lt 0 room ≡ true → 1 ≤ room
some_room room e = grind (arith, nat_tests)

live_from_name : (room : ℕ) → 1 ≤ room → (n : Token) → Live (instruction_goal (assertion room)) None (from_name room n)
live_from_name room ok n =
    live_call (no_arguments room) ok (λ y st. st) (λ args.
    live_call (no_dots room _) ok (λ y st. st) (λ first.
    live_call (no_operators room 1 first) ok (λ y st. st) (λ e. live_done)))

living_assigned : (room : ℕ) → 1 ≤ room - 1 → (n : NameAt) → Living (instruction_goal (instruction room)) (assigned room n)
living_assigned room low n = living_next (λ w. live_call (an_expression (room - 1) 1) low (λ y st. st) (λ e. live_done))

live_called_on : (room : ℕ) → 1 ≤ room - 1 → (e : Ex) → Live (instruction_goal (instruction room)) None (called_on room e)
live_called_on room low e = live_call (no_dots (room - 1) e) low (λ y st. st) (λ whole. live_done)

live_created : (room : ℕ) → 1 ≤ room → (p : Place) (ty : Option TypeT) → Live (instruction_goal (instruction room)) (Some t.Identifier) (created room p ty)
live_created room ok p ty = live_call a_target tt (λ y st. refl) (λ n. live_call (no_creator room) ok (λ y st. st) (λ c. live_done))

live_branches : (room : ℕ) → 1 ≤ room - 1 → (e : Ex) → Live (instruction_goal (instruction room)) (Some t.Then) (branches room e)
live_branches room low e =
    live_expect (
    live_call (no_instructions (room - 1)) tt (λ y st. refl) (λ b.
    live_call (no_elseifs (room - 1)) low (λ y st. refl) (λ bs.
    live_call (no_otherwise (room - 1)) tt (λ y st. refl) (λ o.
    live_expect live_done))))

live_loop : (room : ℕ) → 1 ≤ room - 1 → (s : Inss) (cs : Exs) → Live (instruction_goal (instruction room)) (Some t.Until) (loop_rest room s cs)
live_loop room low s cs =
    live_expect (
    live_call (an_expression (room - 1) 1) low (λ y st. refl) (λ e.
    live_expect (
    live_call (no_instructions (room - 1)) tt (λ y st. refl) (λ b.
    live_call (no_variant (room - 1)) low (λ y st. refl) (λ v.
    live_expect live_done)))))

current_low : (room : ℕ) (p : Place) → nat_lt 2 room ≡ true → height (current_value p) < room - 1
current_low room p e = grind (arith, nat_tests)

living_start : (room : ℕ) → 1 ≤ room → (s : InstructionStart) → Living (instruction_goal (instruction room)) (instruction_by room s)
living_start room ok by_name = living_guard (λ low. living_next (λ n. live_other (not_here at_closing t.Assign refl)
    (living_assigned room (room_under room low) _)
    (live_call (no_arguments (room - 1)) (room_under room low) (λ y st. st) (λ args. live_called_on room (room_under room low) _))))
living_start room ok by_result = living_guard (λ low. living_next (λ word. live_found t.Assign refl
    (λ w. live_call (an_expression (room - 1) 1) (room_under room low) (λ y st. st) (λ e. live_done))
    (living_call (room_under room low) (λ y st. st) (λ whole. live_done))))
living_start room ok by_precursor = living_guard (λ low. living_next (λ word.
    live_call (no_parent (room - 1) word.place) (room_under room low) (λ y st. st) (λ e. live_called_on room (room_under room low) e)))
living_start room ok by_current = living_guard (λ low. living_next (λ word.
    live_call (a_dotted (room - 1) (current_value word.place) (current_low room word.place low)) (grind (arith, nat_tests, low)) (λ y st. st) (λ whole. live_done)))
living_start room ok by_create = living_next (λ word. live_other (λ y st. refl)
    (living_guard (λ low. living_next (λ w.
    live_call (a_type (room - 1)) (room_under room low) (λ y st. refl) (λ ty.
    live_expect (live_created room ok word.place (Some ty))))))
    (live_created room ok word.place None))
living_start room ok by_if = living_guard (λ low. living_next (λ w.
    live_call (an_expression (room - 1) 1) (room_under room low) (λ y st. refl) (λ e. live_branches room (room_under room low) e)))
living_start room ok by_from = living_guard (λ low. living_next (λ w.
    live_call (no_instructions (room - 1)) tt (λ y st. refl) (λ s.
    live_call (no_invariants (room - 1)) tt (λ y st. refl) (λ cs.
    live_loop room (room_under room low) s cs))))
living_start room ok by_check = living_next (λ w. live_call (no_assertions (room - 1)) tt (λ y st. refl) (λ cs. live_expect live_done))
living_start room ok no_instruction = living_refuse

-- ---- the rules

pub living_instruction : (g : InstructionGoal) → instruction_room g → Living (instruction_goal g) (instruction_rule g)
living_instruction semis ok = living_test (living_next (λ w. live_call no_semis tt (λ y st. st) (λ u. live_done))) living_done
living_instruction (assertions room) ok = living_test
    (living_guard (λ low.
    living_call (some_room room low) (λ y st. st) (λ e.
    live_call no_semis tt (λ y st. st) (λ u.
    live_call (no_assertions room) tt (λ y st. st) (λ es. live_done)))))
    living_done
living_instruction (assertion room) ok = living_test
    (living_next (λ n. live_other (not_here at_closing t.Colon refl)
    (living_next (λ w. live_call (an_expression room 1) ok (λ y st. st) (λ e. live_done)))
    (live_from_name room ok n)))
    (living_call ok (λ y st. st) (λ e. live_done))
living_instruction (invariants room) ok = living_test (living_next (λ w. live_call (no_assertions room) tt (λ y st. st) (λ es. live_done))) living_done
living_instruction (variant room) ok = living_test
    (living_next (λ w.
    live_call (an_assertion room) ok (λ y st. st) (λ e.
    live_call no_semis tt (λ y st. st) (λ u. live_done))))
    living_done
living_instruction (compound room) ok = living_test
    (living_next (λ w. live_call (no_instructions room) tt (λ y st. st) (λ is. live_done)))
    (living_test
    (living_guard (λ low.
    living_call (some_room room low) (λ y st. st) (λ i.
    live_call (no_instructions room) tt (λ y st. st) (λ is. live_done))))
    living_done)
living_instruction (instruction room) ok = living_look (λ x. living_start room ok (instruction_start x))
living_instruction target ok = living_test (living_next (λ w. live_done)) (living_token (λ n. live_done))
living_instruction (elseifs room) ok = living_test
    (living_next (λ w.
    live_call (an_expression room 1) ok (λ y st. refl) (λ e.
    live_expect (
    live_call (no_instructions room) tt (λ y st. st) (λ b.
    live_call (no_elseifs room) ok (λ y st. st) (λ bs. live_done))))))
    living_done
living_instruction (otherwise room) ok = living_test (living_next (λ w. live_call (no_instructions room) tt (λ y st. st) (λ b. live_done))) living_done
