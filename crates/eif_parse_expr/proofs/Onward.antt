-- What takes a token: an expression, an assertion, an instruction.
use Rattle.std.proofs.Common.{◌≡◌, ℕ, ◌≤◌, ◌<◌, nat_lt, Bool, true, false, List, [], ◌∷◌, drop, length, subst, arith}
use Rattle.std.proofs.lemmas.List.{length-drop}
use Rattle.eif_tree.specs.Tree.{Ex, Ins}
use Rattle.eif_grammar.specs.declared.terminal.Terminal.{Terminal}
use Rattle.eif_grammar.specs.declared.terminal.Terminal.TheVariants as t
use Rattle.eif_grammar.specs.Tokens.{Token}
use Rattle.eif_grammar.specs.Is.{is}
use Rattle.eif_grammar.specs.Spelling.{head}
use Rattle.eif_grammar.specs.Goals.{expression, operand, chain, primary, assertion, instruction, expression_goal, instruction_goal, token}
use Rattle.eif_grammar.specs.Reader.{Reader, next, guard, fork}
use Rattle.eif_grammar.specs.ExpressionRules.{OperandStart, braced, attached, prefixed, chained, operand_start, operand_by, PrimaryStart, by_name, by_precursor, by_integer, by_character, by_string, by_true, by_false, by_void, by_current, by_result, by_parenthesis, by_create, no_primary, primary_start, primary_by}
use Rattle.eif_grammar.specs.InstructionRules as instruction
use Rattle.eif_grammar.specs.Outcomes.{Outcome, got, run, reached, Runs, Calls}
use Rattle.eif_grammar_laws.proofs.Readers.{left, run_shrinks, reached_shrinks, rule_runs, called_parts}
use Rattle.eif_grammar_laws.proofs.StepsBack.{look_back, next_back, guard_back, tail_back}

run_left : {A : Type 0} (o : Outcome A) (a : A) (ts rest : List Token) → o ≡ got a rest → left o ≤ length ts → length rest ≤ length ts
run_left o a ts rest e le = subst (λ x. left x ≤ length ts) e le

-- nothing is given back
pub runs_shrink : {A : Type 0} {r : Reader A} {ts rest : List Token} {a : A} → Runs r ts (got a rest) → length rest ≤ length ts
runs_shrink {A} {r} {ts} {rest} {a} h = run_left (run (reached h.depth) r ts) a ts rest h.runs (run_shrinks (reached h.depth) (reached_shrinks h.depth) r ts)

pub next_takes : {A : Type 0} {k : Token → Reader A} {rest : List Token} {a : A} (ts : List Token) → Runs (next k) ts (got a rest) → length rest < length ts
next_takes [] h = let e = h.runs in cc
next_takes (w ∷ ts) h = omega (arith, runs_shrink (next_back h))

pub token_takes : {x : Terminal} {w : Token} {ts rest : List Token} → Calls (token x) ts (got w rest) → length rest < length ts
token_takes {x} {w} {ts} c = next_takes ts (guard_back (is x (head ts)) (look_back (rule_runs c))).1

pub guard_takes : {A : Type 0} {k : Token → Reader A} {rest : List Token} {a : A} (b : Bool) (ts : List Token) → Runs (guard b (next k)) ts (got a rest) → length rest < length ts
guard_takes b ts h = next_takes ts (guard_back b h).1

fork_takes : {A : Type 0} {k : Token → Reader A} {s : Reader A} {rest : List Token} {a : A} (b : Bool) (ts : List Token) → (Runs s ts (got a rest) → length rest < length ts)
    → Runs (fork b (next k) s) ts (got a rest) → length rest < length ts
fork_takes {k} true ts other h = next_takes {k = k} ts (record { depth = h.depth; runs = h.runs; ends = h.ends })
fork_takes false ts other h = other (record { depth = h.depth; runs = h.runs; ends = h.ends })

-- ---- expressions

primary_takes : {room : ℕ} {e : Ex} {ts rest : List Token} → Calls (expression_goal (primary room)) ts (got e rest) → length rest < length ts
primary_takes {room} {e} {ts} {rest} c = go (primary_start (head ts)) (look_back (rule_runs c))
  where
    go : (s : PrimaryStart) → Runs (primary_by room s) ts (got e rest) → length rest < length ts
    go by_parenthesis h = guard_takes (nat_lt 1 room) ts h
    go by_create h = guard_takes (nat_lt 1 room) ts h
    go no_primary h = let e = h.runs in cc
    go by_name h = next_takes ts h
    go by_precursor h = next_takes ts h
    go by_integer h = next_takes ts h
    go by_character h = next_takes ts h
    go by_string h = next_takes ts h
    go by_true h = next_takes ts h
    go by_false h = next_takes ts h
    go by_void h = next_takes ts h
    go by_current h = next_takes ts h
    go by_result h = next_takes ts h

chain_takes : {room : ℕ} {e : Ex} {ts rest : List Token} → Calls (expression_goal (chain room)) ts (got e rest) → length rest < length ts
chain_takes c = let p = called_parts (rule_runs c) in omega (arith, primary_takes p.first, runs_shrink p.second)

operand_takes : {room : ℕ} {e : Ex} {ts rest : List Token} → Calls (expression_goal (operand room)) ts (got e rest) → length rest < length ts
operand_takes {room} {e} {ts} {rest} c = go (operand_start (head ts)) (look_back (rule_runs c))
  where
    go : (s : OperandStart) → Runs (operand_by room s) ts (got e rest) → length rest < length ts
    go braced h = guard_takes (nat_lt 1 room) ts h
    go attached h = guard_takes (nat_lt 1 room) ts h
    go (prefixed o) h = guard_takes (nat_lt 1 room) ts h
    go chained h = chain_takes (tail_back h)

expression_takes : {room least : ℕ} {e : Ex} {ts rest : List Token} → Calls (expression_goal (expression room least)) ts (got e rest) → length rest < length ts
expression_takes c = let p = called_parts (rule_runs c) in omega (arith, operand_takes p.first, runs_shrink p.second)

-- ---- assertions

assertion_takes : {room : ℕ} {e : Ex} {ts rest : List Token} → Calls (instruction_goal (assertion room)) ts (got e rest) → length rest < length ts
assertion_takes {room} {e} {ts} c = fork_takes (is t.Identifier (head ts)) ts (λ h. expression_takes (tail_back h)) (look_back (rule_runs c))

-- ---- instructions

instruction_takes : {room : ℕ} {e : Ins} {ts rest : List Token} → Calls (instruction_goal (instruction room)) ts (got e rest) → length rest < length ts
instruction_takes {room} {e} {ts} {rest} c = go (instruction.instruction_start (head ts)) (look_back (rule_runs c))
  where
    go : (s : instruction.InstructionStart) → Runs (instruction.instruction_by room s) ts (got e rest) → length rest < length ts
    go instruction.by_name h = guard_takes (nat_lt 1 room) ts h
    go instruction.by_result h = guard_takes (nat_lt 1 room) ts h
    go instruction.by_precursor h = guard_takes (nat_lt 1 room) ts h
    go instruction.by_current h = guard_takes (nat_lt 2 room) ts h
    go instruction.by_create h = next_takes ts h
    go instruction.by_if h = guard_takes (nat_lt 1 room) ts h
    go instruction.by_from h = guard_takes (nat_lt 1 room) ts h
    go instruction.by_check h = next_takes ts h
    go instruction.no_instruction h = let e = h.runs in cc

-- ---- by the tokens' numbers

pub further : (ts : List Token) (at after : ℕ) → after ≤ length ts → length (drop after ts) < length (drop at ts) → at < after
further ts at after within lt = omega (arith, length-drop at ts, length-drop after ts)

pub assertion_onward : {room : ℕ} {e : Ex} (ts : List Token) (at after : ℕ) → Calls (instruction_goal (assertion room)) (drop at ts) (got e (drop after ts)) → after ≤ length ts → at < after
assertion_onward ts at after c within = further ts at after within (assertion_takes c)

pub instruction_onward : {room : ℕ} {e : Ins} (ts : List Token) (at after : ℕ) → Calls (instruction_goal (instruction room)) (drop at ts) (got e (drop after ts)) → after ≤ length ts → at < after
instruction_onward ts at after c within = further ts at after within (instruction_takes c)
