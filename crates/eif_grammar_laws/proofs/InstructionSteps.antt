-- One step of each form of an instruction, by what its parts find.
use Rattle.std.proofs.Common.{◌≡◌, ◌≢◌, ℕ, ◌+◌, ◌-◌, ◌≤◌, ◌<◌, true, Option, Some, None, List, [], ◌∷◌, refl, sym, ap, subst, arith, inl, inr, codes}
use Rattle.eif_base.specs.declared.Place.{Place}
use Rattle.eif_tree.specs.declared.NameAt.{NameAt}
use Rattle.eif_tree.specs.Tree.{TypeT, Ex, Exs, result_value, Ins, assign, call, create}
use Rattle.eif_tree.specs.Height.{height, heights, instr_height}
use Rattle.eif_grammar.specs.declared.terminal.Terminal.TheVariants as t
use Rattle.eif_grammar.specs.Tokens.{Token}
use Rattle.eif_grammar.specs.Forms.{target_level}
use Rattle.eif_grammar.specs.Spelling.{head, the}
use Rattle.eif_grammar.specs.SpelledExpressions.{undotted, spells, spells_arguments, spells_creator, spells_expression}
use Rattle.eif_grammar.specs.SpelledInstructions.{is_call, no_assignment, spells_target, spells_instruction}
use Rattle.eif_grammar.specs.Goals.{chain, instruction, target, expression_goal, instruction_goal}
use Rattle.eif_grammar.specs.Reader.{Reader, done, on}
use Rattle.eif_grammar.specs.InstructionRules.{assigned, called_through, created, InstructionStart, by_name, by_result, by_precursor, by_current, by_create, instruction_start, instruction_by}
use Rattle.eif_grammar.specs.Outcomes.{Outcome, got, Runs, Calls}
use Rattle.eif_grammar_laws.proofs.Readers.{by_rule, looked, called, taken, ended}
use Rattle.eif_grammar_laws.proofs.Terminals.{on_found, on_other}
use Rattle.eif_grammar_laws.proofs.Taken.{roomy, head_the, head_at, head_name, next_the, next_at, next_name, call_name, expect_the, on_the, on_before}
use Rattle.eif_grammar_laws.proofs.Levels.{height_some}
use Rattle.eif_grammar_laws.proofs.TypeMeaning.{type_height_some}
use Rattle.eif_grammar_laws.proofs.TypeComplete.{type_found}
use Rattle.eif_grammar_laws.proofs.ExpressionComplete.{expression_found, chain_found, creator_found}
use Rattle.eif_grammar_laws.proofs.CallStarts.{CallStart, with_name, with_precursor, with_current, with_result, call_starts, through_high, call_apart, apart_ends}
use Rattle.eif_grammar_laws.proofs.CallSteps.{name_parts, precursor_parts, current_dotted, result_dotted}

pub instruction_at : (room : ℕ) (ts : List Token) (u : Outcome Ins) (s : InstructionStart) → instruction_start (head ts) ≡ s → Runs (instruction_by room s) ts u
    → Calls (instruction_goal (instruction room)) ts u
instruction_at room ts u s e h = by_rule (looked (subst (λ x. Runs (instruction_by room x) ts u) (sym e) h))

pub instr_height_some : (i : Ins) → 1 ≤ instr_height i
instr_height_some (assign n e) = omega arith
instr_height_some _ = omega arith

-- ---- targets and assignments

-- the name that a target is
the_target : (n : NameAt) (p : Place) (l : List ℕ) → p ≡ n.place → l ≡ n.name → (record { place = p; name = l }) ≡ n
the_target n p l here text = rw (here, text) refl

pub target_found : (n : NameAt) (ts rest : List Token) → spells_target n ts rest → Calls (instruction_goal target) ts (got n rest)
target_found n ts rest (inl name) =
    let found = head_name n.place n.name ts rest name in
    let apart : head ts ≢ t.Result = λ same. cc in
    by_rule (on_other apart (call_name n.place n.name ts rest name (λ w here text. rw (here, text) ended)))
target_found n ts rest (inr (m, word, (named, eq))) =
    by_rule (on_found (head_at t.Result n.place ts m word) (next_at t.Result n.place ts m word (λ w here.
    subst (λ x. Runs (done x) m (got n rest)) (sym (the_target n w.place (codes "result") here (sym named))) (rw eq ended))))

-- behind a target
assign_step : (room : ℕ) (n : NameAt) (e : Ex) {r : Reader Ins} (ts m rest : List Token) → the t.Assign ts m → spells_expression e m rest → height e + 1 ≤ room
    → Runs (on t.Assign (assigned room n) r) ts (got (assign n e) rest)
assign_step room n e ts m rest sign s hgt = on_the t.Assign ts m sign (λ x. called (expression_found e (room - 1) m rest s (omega arith)) ended)

pub assign_found : (n : NameAt) (e : Ex) (room : ℕ) (ts rest : List Token) → spells_instruction (assign n e) ts rest → instr_height (assign n e) ≤ room
    → Calls (instruction_goal (instruction room)) ts (got (assign n e) rest)
assign_found n e room ts rest (m, inl name, (m1, sa, se)) hgt =
    let some = height_some e in
    let low : 1 < room = omega arith in
    instruction_at room ts (got (assign n e) rest) by_name (ap instruction_start (head_name n.place n.name ts m name))
    (roomy 1 room low (next_name n.place n.name ts m name (λ w here text. rw (here, text) (assign_step room n e m m1 rest sa se hgt))))
assign_found n e room ts rest (m, inr (m0, word, (named, eq)), (m1, sa, se)) hgt =
    let some = height_some e in
    let low : 1 < room = omega arith in
    instruction_at room ts (got (assign n e) rest) by_result (ap instruction_start (head_at t.Result n.place ts m0 word))
    (roomy 1 room low (next_at t.Result n.place ts m0 word (λ w here.
    subst (λ x. Runs (on t.Assign (assigned room x) (called_through room (result_value w.place))) m0 (got (assign n e) rest)) (sym (the_target n w.place (codes "result") here (sym named)))
    (rw eq (assign_step room n e m m1 rest sa se hgt)))))

-- ---- calls

call_step : (e : Ex) (room : ℕ) (w : Token) (more mid rest : List Token) → is_call e ≡ true → spells e target_level (w ∷ more) mid → no_assignment e mid rest → height e + 1 ≤ room
    → Calls (expression_goal (chain (room - 1))) (w ∷ more) (got e mid) → CallStart w.terminal → Calls (instruction_goal (instruction room)) (w ∷ more) (got (call e) mid)
call_step e room w more mid rest is s apart hgt c (with_name found) =
    let some = height_some e in
    let low : 1 < room = omega arith in
    let parts = name_parts (room - 1) e w more mid found c in
    let other = call_apart e w more mid rest is s (λ same. cc) apart in
    instruction_at room (w ∷ more) (got (call e) mid) by_name (ap instruction_start found) (roomy 1 room low (taken (on_other other (called parts.behind (called parts.goes_on ended)))))
call_step e room w more mid rest is s apart hgt c (with_precursor found) =
    let some = height_some e in
    let low : 1 < room = omega arith in
    let parts = precursor_parts (room - 1) e w more mid found c in
    instruction_at room (w ∷ more) (got (call e) mid) by_precursor (ap instruction_start found) (roomy 1 room low (taken (called parts.behind (called parts.goes_on ended))))
call_step e room w more mid rest is s apart hgt c (with_current found) =
    let high = through_high e (w ∷ more) mid is s (λ same. cc) (λ same. cc) in
    let dots_found = current_dotted (room - 1) e w more mid found (λ same. let no = ap is_call same in cc) c in
    instruction_at room (w ∷ more) (got (call e) mid) by_current (ap instruction_start found) (roomy 2 room (omega arith) (taken (called dots_found ended)))
call_step e room w more mid rest is s apart hgt c (with_result found) =
    let some = height_some e in
    let low : 1 < room = omega arith in
    let other = call_apart e w more mid rest is s (λ same. cc) apart in
    let dots_found = result_dotted (room - 1) e w more mid found (λ same. let no = ap is_call same in cc) c in
    instruction_at room (w ∷ more) (got (call e) mid) by_result (ap instruction_start found) (roomy 1 room low (taken (on_other other (called dots_found ended))))

-- no call begins behind the last token
no_start : CallStart t.EndOfText → ⊥
no_start (with_name e) = cc
no_start (with_precursor e) = cc
no_start (with_current e) = cc
no_start (with_result e) = cc

call_at : (e : Ex) (room : ℕ) (ts mid rest : List Token) → is_call e ≡ true → undotted (spells e target_level) ts mid → no_assignment e mid rest → height e + 1 ≤ room
    → Calls (instruction_goal (instruction room)) ts (got (call e) mid)
call_at e room [] mid rest is s apart hgt = absurd (no_start (call_starts e [] mid is s.0))
call_at e room (w ∷ more) mid rest is s apart hgt =
    call_step e room w more mid rest is s.0 apart hgt (chain_found e (room - 1) (w ∷ more) mid s (omega arith)) (call_starts e (w ∷ more) mid is s.0)

pub call_found : (e : Ex) (room : ℕ) (ts rest : List Token) → spells_instruction (call e) ts rest → instr_height (call e) ≤ room → Calls (instruction_goal (instruction room)) ts (got (call e) rest)
call_found e room ts rest (m0, (is, eq), (m, s, apart)) hgt =
    rw (eq, ← apart_ends e m rest apart) (call_at e room m0 m rest is s apart hgt)

-- ---- creations

-- the target and what stands behind it
created_found : (room : ℕ) (p : Place) (ty : Option TypeT) (n : NameAt) (c : Option NameAt) (args : Exs) (ts mid rest : List Token) → spells_target n ts mid
    → spells_creator c args (spells_arguments args) mid rest → heights args + 1 ≤ room → Runs (created room p ty) ts (got (create p ty n c args) rest)
created_found room p ty n c args ts mid rest sn sc hgt = called (target_found n ts mid sn) (called (creator_found c args room mid rest sc hgt) ended)

pub create_found : (p : Place) (ty : Option TypeT) (n : NameAt) (c : Option NameAt) (args : Exs) (room : ℕ) (ts rest : List Token) → spells_instruction (create p ty n c args) ts rest
    → instr_height (create p ty n c args) ≤ room → Calls (instruction_goal (instruction room)) ts (got (create p ty n c args) rest)
create_found p None n c args room ts rest (m, sw, (m1, st, (m2, sn, sc))) hgt =
    instruction_at room ts (got (create p None n c args) rest) by_create (ap instruction_start (head_at t.Create p ts m sw))
    (next_at t.Create p ts m sw (λ w here. rw here (on_before t.OpenBrace m m1 st (created_found room p None n c args m1 m2 rest sn sc (omega arith)))))
create_found p (Some ty) n c args room ts rest (m, sw, (m1, (m3, so, (m4, st, sb)), (m2, sn, sc))) hgt =
    let some = type_height_some ty in
    let low : 1 < room = omega arith in
    let found = type_found ty (room - 1) m3 m4 st (omega arith) in
    let behind = created_found room p (Some ty) n c args m1 m2 rest sn sc (omega arith) in
    instruction_at room ts (got (create p (Some ty) n c args) rest) by_create (ap instruction_start (head_at t.Create p ts m sw))
    (next_at t.Create p ts m sw (λ w here. rw here (on_found (head_the t.OpenBrace m m3 so) (roomy 1 room low (next_the t.OpenBrace m m3 so (λ b. called found (expect_the m4 m1 sb behind)))))))
