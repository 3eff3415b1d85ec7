-- Assertions and instructions that end before a token end so before all that close.
use Rattle.std.proofs.Common.{ℕ, refl, inl}
use Rattle.eif_base.specs.declared.Place.{Place}
use Rattle.eif_tree.specs.declared.NameAt.{NameAt}
use Rattle.eif_tree.specs.Tree.{TypeT, Ex, Exs, Inss}
use Rattle.std.specs.Prelude.{Option, Some, None}
use Rattle.eif_grammar.specs.declared.terminal.Terminal.TheVariants as t
use Rattle.eif_grammar.specs.Tokens.{Token}
use Rattle.eif_grammar.specs.Goals.{InstructionGoal, semis, assertions, assertion, invariants, variant, compound, instruction, target, elseifs, otherwise, instruction_goal}
use Rattle.eif_grammar.specs.InstructionRules.{from_name, InstructionStart, by_name, by_result, by_precursor, by_current, by_create, by_if, by_from, by_check, no_instruction, instruction_start, assigned, called_on, called_through, created, branches, loop_rest, instruction_by, instruction_rule}
use Rattle.eif_grammar_laws.proofs.Endings.{at_closing}
use Rattle.eif_grammar_laws.proofs.Closing.{not_here, closing_expression, closing_instruction}
use Rattle.eif_grammar_laws.proofs.Takes.{takes_instruction_start}
use Rattle.eif_grammar_laws.proofs.Still.{Still, still_done, still_refuse, still_next, still_guard, still_fork, still_call, still_token, still_expect, still_taking, still_test}

still_from_name : (room : ℕ) (n : Token) → Still (instruction_goal (assertion room)) (from_name room n)
still_from_name room n = still_call (λ y st. st) (λ args. still_call (λ y st. st) (λ first. still_call (λ y st. st) (λ e. still_done)))

still_assigned : (room : ℕ) (n : NameAt) → Still (instruction_goal (instruction room)) (assigned room n)
still_assigned room n = still_next (λ w. still_call (λ y st. st) (λ e. still_done))

still_called_on : (room : ℕ) (e : Ex) → Still (instruction_goal (instruction room)) (called_on room e)
still_called_on room e = still_call (λ y st. st) (λ whole. still_done)

still_called_through : (room : ℕ) (e : Ex) → Still (instruction_goal (instruction room)) (called_through room e)
still_called_through room e = still_call (λ y st. st) (λ whole. still_done)

still_created : (room : ℕ) (p : Place) (ty : Option TypeT) → Still (instruction_goal (instruction room)) (created room p ty)
still_created room p ty = still_call (λ y st. refl) (λ n. still_call (λ y st. st) (λ c. still_done))

still_branches : (room : ℕ) (e : Ex) → Still (instruction_goal (instruction room)) (branches room e)
still_branches room e = still_expect (still_call (λ y st. st) (λ b. still_call (λ y st. st) (λ bs. still_call (λ y st. st) (λ o. still_expect still_done))))

still_loop : (room : ℕ) (s : Inss) (cs : Exs) → Still (instruction_goal (instruction room)) (loop_rest room s cs)
still_loop room s cs =
    still_expect (still_call (λ y st. st) (λ e. still_expect (still_call (λ y st. st) (λ b. still_call (λ y st. st) (λ v. still_expect still_done)))))

still_start : (room : ℕ) (s : InstructionStart) → Still (instruction_goal (instruction room)) (instruction_by room s)
still_start room by_name =
    still_guard (still_next (λ n. still_test (not_here at_closing t.Assign refl) tt (still_assigned room _) (still_call (λ y st. st) (λ args. still_called_on room _))))
still_start room by_result =
    still_guard (still_next (λ word. still_test (not_here at_closing t.Assign refl) tt (still_assigned room _) (still_called_through room _)))
still_start room by_precursor = still_guard (still_next (λ word. still_call (λ y st. st) (λ e. still_called_on room e)))
still_start room by_current = still_guard (still_next (λ word. still_called_through room _))
still_start room by_create =
    still_next (λ word. still_test (not_here at_closing t.OpenBrace refl) tt
    (still_guard (still_next (λ w. still_call (λ y st. st) (λ ty. still_expect (still_created room word.place (Some ty))))))
    (still_created room word.place None))
still_start room by_if = still_guard (still_next (λ w. still_call (λ y st. st) (λ e. still_branches room e)))
still_start room by_from = still_guard (still_next (λ w. still_call (λ y st. st) (λ s. still_call (λ y st. st) (λ cs. still_loop room s cs))))
still_start room by_check = still_next (λ w. still_call (λ y st. st) (λ cs. still_expect still_done))
still_start room no_instruction = still_refuse

pub still_instruction : (g : InstructionGoal) → Still (instruction_goal g) (instruction_rule g)
still_instruction semis = still_test (not_here at_closing t.Semicolon refl) tt (still_next (λ w. still_call (λ y st. st) (λ u. still_done))) still_done
still_instruction (assertions room) = still_test closing_expression (inl refl)
    (still_guard (still_call (λ y st. st) (λ e. still_call (λ y st. st) (λ u. still_call (λ y st. st) (λ es. still_done)))))
    still_done
still_instruction (assertion room) = still_taking
    (λ x. still_fork
    (still_next (λ n. still_test (not_here at_closing t.Colon refl) tt (still_next (λ w. still_call (λ y st. st) (λ e. still_done))) (still_from_name room n)))
    (still_call (λ y st. st) (λ e. still_done)))
    (λ x. (λ e. tt, λ e. inl refl))
still_instruction (invariants room) = still_test (not_here at_closing t.Invariant refl) tt (still_next (λ w. still_call (λ y st. st) (λ es. still_done))) still_done
still_instruction (variant room) = still_test (not_here at_closing t.Variant refl) tt
    (still_next (λ w. still_call (λ y st. st) (λ e. still_call (λ y st. st) (λ u. still_done))))
    still_done
still_instruction (compound room) = still_test (not_here at_closing t.Semicolon refl) tt
    (still_next (λ w. still_call (λ y st. st) (λ is. still_done)))
    (still_test closing_instruction (inl refl) (still_guard (still_call (λ y st. st) (λ i. still_call (λ y st. st) (λ is. still_done)))) still_done)
still_instruction (instruction room) = still_taking (λ x. still_start room (instruction_start x)) (λ x. takes_instruction_start room (instruction_start x))
still_instruction target = still_taking (λ x. still_fork (still_next (λ w. still_done)) (still_token (λ n. still_done))) (λ x. (λ e. tt, λ e. inl refl))
still_instruction (elseifs room) = still_test (not_here at_closing t.Elseif refl) tt
    (still_next (λ w. still_call (λ y st. st) (λ e. still_expect (still_call (λ y st. st) (λ b. still_call (λ y st. st) (λ bs. still_done))))))
    still_done
still_instruction (otherwise room) = still_test (not_here at_closing t.Else refl) tt (still_next (λ w. still_call (λ y st. st) (λ b. still_done))) still_done
