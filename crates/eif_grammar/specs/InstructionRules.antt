-- How assertions and instructions are read: one rule for each goal.
use Rattle.std.specs.Prelude.{ℕ, ◌-◌, nat_lt, Bool, Option, Some, None, codes}
use Rattle.std.specs.Str.{str_to_ascii_lowercase}
use Rattle.eif_base.specs.declared.Place.{Place}
use Rattle.eif_tree.specs.declared.NameAt.{NameAt}
use Rattle.eif_tree.specs.Tree.{TypeT, Ex, Exs, current_value, result_value, unqualified, no_exs, and_ex, Ins, Inss, assign, call as call_instruction, create, choose, loop, check, no_inss, and_ins, no_branches, and_branch, no_else, else_part}
use Rattle.eif_grammar.specs.declared.terminal.Terminal.{Terminal}
use Rattle.eif_grammar.specs.declared.terminal.Terminal.TheVariants as t
use Rattle.eif_grammar.specs.Tokens.{Token}
use Rattle.eif_grammar.specs.Forms.{begins_expression, begins_instruction}
use Rattle.eif_grammar.specs.Goals.{written, expression, climbing, dots, dotted, precursor_rest, creator, arguments, InstructionGoal, InstructionFound, semis, assertions, assertion, invariants, variant, compound, instruction, target, elseifs, otherwise, type_goal, expression_goal, instruction_goal, token}
use Rattle.eif_grammar.specs.Reader.{Reader, done, refuse, look, next, call, guard, fork, on, expect, name_of}

-- ---- assertions

-- an expression whose first name was taken
abbrev pub from_name : ℕ → Token → Reader Ex
from_name room n =
    call (expression_goal (arguments room)) (λ args.
    call (expression_goal (dots room (unqualified n.place (str_to_ascii_lowercase n.text) args))) (λ first.
    call (expression_goal (climbing room 1 first)) done))

abbrev pub assertion_by : ℕ → Reader Ex
assertion_by room =
    on t.Identifier (next (λ n. on t.Colon (next (λ _. call (expression_goal (expression room 1)) done)) (from_name room n)))
    (call (expression_goal (expression room 1)) done)

abbrev pub assertions_by : ℕ → Bool → Reader Exs
assertions_by room more =
    fork more (guard (nat_lt 0 room) (
    call (instruction_goal (assertion room)) (λ e.
    call (instruction_goal semis) (λ _.
    call (instruction_goal (assertions room)) (λ es. done (and_ex e es))))))
    (done no_exs)

-- ---- instructions

-- how an instruction begins
pub data InstructionStart : Type 0 where
  by_name : InstructionStart
  by_result : InstructionStart
  by_precursor : InstructionStart
  by_current : InstructionStart
  by_create : InstructionStart
  by_if : InstructionStart
  by_from : InstructionStart
  by_check : InstructionStart
  no_instruction : InstructionStart

abbrev pub instruction_start : Terminal → InstructionStart
instruction_start t.Identifier = by_name
instruction_start t.Result = by_result
instruction_start t.Precursor = by_precursor
instruction_start t.Current = by_current
instruction_start t.Create = by_create
instruction_start t.If = by_if
instruction_start t.From = by_from
instruction_start t.Check = by_check
instruction_start _ = no_instruction

-- the source behind the `:=` of that target
abbrev pub assigned : ℕ → NameAt → Reader Ins
assigned room n = next (λ _. call (expression_goal (expression (room - 1) 1)) (λ e. done (assign n e)))

-- the dots behind a call's start
abbrev pub called_on : ℕ → Ex → Reader Ins
called_on room e = call (expression_goal (dots (room - 1) e)) (λ whole. done (call_instruction whole))

-- a call with at least one dot
abbrev pub called_through : ℕ → Ex → Reader Ins
called_through room e = call (expression_goal (dotted (room - 1) e)) (λ whole. done (call_instruction whole))

-- the name `Result` as a target
abbrev pub result_of : Token → NameAt
result_of word = record { place = word.place; name = codes "result" }

-- the target of a creation, and what stands behind it
abbrev pub created : ℕ → Place → Option TypeT → Reader Ins
created room p ty =
    call (instruction_goal target) (λ n.
    call (expression_goal (creator room)) (λ c. done (create p ty n c.name c.arguments)))

-- what stands behind a branch's condition
abbrev pub branches : ℕ → Ex → Reader Ins
branches room e =
    expect t.Then (
    call (instruction_goal (compound (room - 1))) (λ b.
    call (instruction_goal (elseifs (room - 1))) (λ bs.
    call (instruction_goal (otherwise (room - 1))) (λ o.
    expect t.End (done (choose (and_branch e b bs) o))))))

-- what stands behind a loop's start and invariants
abbrev pub loop_rest : ℕ → Inss → Exs → Reader Ins
loop_rest room s cs =
    expect t.Until (
    call (expression_goal (expression (room - 1) 1)) (λ e.
    expect t.Loop (
    call (instruction_goal (compound (room - 1))) (λ b.
    call (instruction_goal (variant (room - 1))) (λ v.
    expect t.End (done (loop s cs e b v)))))))

abbrev pub instruction_by : ℕ → InstructionStart → Reader Ins
instruction_by room by_name =
    guard (nat_lt 1 room) (next (λ n.
    on t.Assign (assigned room (name_of n))
    (call (expression_goal (arguments (room - 1))) (λ args. called_on room (unqualified n.place (str_to_ascii_lowercase n.text) args)))))
instruction_by room by_result =
    guard (nat_lt 1 room) (next (λ word. on t.Assign (assigned room (result_of word)) (called_through room (result_value word.place))))
instruction_by room by_precursor =
    guard (nat_lt 1 room) (next (λ word. call (expression_goal (precursor_rest (room - 1) word.place)) (called_on room)))
instruction_by room by_current =
    guard (nat_lt 2 room) (next (λ word. called_through room (current_value word.place)))
instruction_by room by_create =
    next (λ word.
    on t.OpenBrace (guard (nat_lt 1 room) (next (λ _.
    call (type_goal (written (room - 1))) (λ ty.
    expect t.CloseBrace (created room word.place (Some ty))))))
    (created room word.place None))
instruction_by room by_if = guard (nat_lt 1 room) (next (λ _. call (expression_goal (expression (room - 1) 1)) (branches room)))
instruction_by room by_from =
    guard (nat_lt 1 room) (next (λ _.
    call (instruction_goal (compound (room - 1))) (λ s.
    call (instruction_goal (invariants (room - 1))) (loop_rest room s))))
instruction_by room by_check =
    next (λ _.
    call (instruction_goal (assertions (room - 1))) (λ cs.
    expect t.End (done (check cs))))
instruction_by room no_instruction = refuse

-- by whether a `;` stands there, and whether an instruction begins
abbrev pub compound_by : ℕ → Bool → Reader Inss
compound_by room begins =
    fork begins (guard (nat_lt 0 room) (
    call (instruction_goal (instruction room)) (λ i.
    call (instruction_goal (compound room)) (λ is. done (and_ins i is)))))
    (done no_inss)

abbrev pub instruction_rule : (g : InstructionGoal) → Reader (InstructionFound g)
instruction_rule semis = on t.Semicolon (next (λ _. call (instruction_goal semis) done)) (done tt)
instruction_rule (assertions room) = look (λ x. assertions_by room (begins_expression x))
instruction_rule (assertion room) = assertion_by room
instruction_rule (invariants room) = on t.Invariant (next (λ _. call (instruction_goal (assertions room)) done)) (done no_exs)
instruction_rule (variant room) =
    on t.Variant (next (λ _.
    call (instruction_goal (assertion room)) (λ e.
    call (instruction_goal semis) (λ _. done (Some e)))))
    (done None)
instruction_rule (compound room) =
    on t.Semicolon (next (λ _. call (instruction_goal (compound room)) done))
    (look (λ x. compound_by room (begins_instruction x)))
instruction_rule (instruction room) = look (λ x. instruction_by room (instruction_start x))
instruction_rule target =
    on t.Result (next (λ word. done (result_of word)))
    (call (token t.Identifier) (λ n. done (name_of n)))
instruction_rule (elseifs room) =
    on t.Elseif (next (λ _.
    call (expression_goal (expression room 1)) (λ e.
    expect t.Then (
    call (instruction_goal (compound room)) (λ b.
    call (instruction_goal (elseifs room)) (λ bs. done (and_branch e b bs)))))))
    (done no_branches)
instruction_rule (otherwise room) = on t.Else (next (λ _. call (instruction_goal (compound room)) (λ b. done (else_part b)))) (done no_else)
