-- Every assertion and every instruction that the tokens spell within the room is found.
use Rattle.std.proofs.Common.{◌≡◌, ◌≢◌, ℕ, ◌-◌, ◌≤◌, ◌<◌, Bool, true, false, Option, Some, None, List, [], ◌∷◌, refl, sym, ap, arith, inl, inr}
use Rattle.eif_tree.specs.Tree.{Ex, Exs, no_exs, and_ex, Ins, Inss, Branches, Otherwise, assign, call, create, choose, loop, check, no_inss, and_ins, no_branches, and_branch, no_else, else_part}
use Rattle.eif_tree.specs.Height.{height, heights, maybe_height, instr_height, compound_height, branches_height, otherwise_height}
use Rattle.eif_grammar.specs.declared.terminal.Terminal.{Terminal}
use Rattle.eif_grammar.specs.declared.terminal.Terminal.TheVariants as t
use Rattle.eif_grammar.specs.Tokens.{Token}
use Rattle.eif_grammar.specs.Is.{is}
use Rattle.eif_grammar.specs.Forms.{begins_instruction}
use Rattle.eif_grammar.specs.Spelling.{head, ◌⨟◌, nothing, semicolons}
use Rattle.eif_grammar.specs.SpelledExpressions.{spells_expression}
use Rattle.eif_grammar.specs.SpelledInstructions.{begins_tag, tag, spells_assertions, assertions_behind, spells_variant, spells_instruction, spells_compound, spells_elseifs, spells_otherwise}
use Rattle.eif_grammar.specs.Goals.{expression, semis, assertions, assertion, invariants, variant, compound, instruction, elseifs, otherwise, expression_goal, instruction_goal}
use Rattle.eif_grammar.specs.Reader.{look}
use Rattle.eif_grammar.specs.InstructionRules.{by_if, by_from, by_check, instruction_start, compound_by}
use Rattle.eif_grammar.specs.Outcomes.{Outcome, got, Runs, Calls}
use Rattle.eif_grammar_laws.proofs.Readers.{by_rule, looked, called, forked, forked_not, taken, ended}
use Rattle.eif_grammar_laws.proofs.Terminals.{is_same, is_other, on_found, on_other}
use Rattle.eif_grammar_laws.proofs.Taken.{tail, roomy, head_the, head_at, head_name, next_the, expect_the, on_the, on_before}
use Rattle.eif_grammar_laws.proofs.Levels.{height_some}
use Rattle.eif_grammar_laws.proofs.ExpressionComplete.{expression_found}
use Rattle.eif_grammar_laws.proofs.ExpressionBegins.{assertion_begins}
use Rattle.eif_grammar_laws.proofs.CallStarts.{CallStart, with_name, with_precursor, with_current, with_result, call_starts}
use Rattle.eif_grammar_laws.proofs.CallSteps.{from_name_found}
pub use Rattle.eif_grammar_laws.proofs.InstructionSteps.{target_found}
use Rattle.eif_grammar_laws.proofs.InstructionSteps.{instruction_at, instr_height_some, assign_found, call_found, create_found}

-- ---- assertions

pub semis_found : (ts rest : List Token) → semicolons ts rest → Calls (instruction_goal semis) ts (got tt rest)
semis_found [] rest eq = let apart : t.EndOfText ≢ t.Semicolon = λ same. cc in by_rule (on_other apart (rw eq ended))
semis_found (w ∷ ts) rest (inl (semicolon, s)) = by_rule (on_found semicolon (taken (tail (got tt rest) (semis_found ts rest s))))
semis_found (w ∷ ts) rest (inr (apart, eq)) = by_rule (on_other apart (rw eq ended))

untagged_found : (e : Ex) (room : ℕ) (ts rest : List Token) → (begins_tag ts → ⊥) → Calls (expression_goal (expression room 1)) ts (got e rest) → Calls (instruction_goal (assertion room)) ts (got e rest)
untagged_found e room [] rest apart c = let other : t.EndOfText ≢ t.Identifier = λ same. cc in by_rule (on_other other (tail (got e rest) c))
untagged_found e room (w ∷ more) rest apart c = by_test (is t.Identifier w.terminal) refl
  where
    by_test : (b : Bool) → is t.Identifier w.terminal ≡ b → Calls (instruction_goal (assertion room)) (w ∷ more) (got e rest)
    by_test true same =
        let name = sym (is_same t.Identifier w.terminal same) in by_rule (on_found name (taken (on_other (λ colon. apart (name, colon)) (from_name_found room e w more rest name c))))
    by_test false other = by_rule (on_other (is_other t.Identifier w.terminal other) (tail (got e rest) c))

pub assertion_found : (e : Ex) (room : ℕ) (ts rest : List Token) → (tag ⨟ spells_expression e) ts rest → height e ≤ room → Calls (instruction_goal (assertion room)) ts (got e rest)
assertion_found e room ts rest (mid, inl (m, name, colon), se) hgt =
    by_rule (on_the t.Identifier ts m name (λ w. on_the t.Colon m mid colon (λ c. tail (got e rest) (expression_found e room mid rest se hgt))))
assertion_found e room ts rest (mid, inr (apart, eq), se) hgt = untagged_found e room ts rest apart (expression_found e room ts rest (rw eq se) hgt)

pub assertions_found : (es : Exs) (room : ℕ) (ts rest : List Token) → spells_assertions es ts rest → heights es ≤ room → Calls (instruction_goal (assertions room)) ts (got es rest)
assertions_found no_exs room ts rest (none, eq) hgt = by_rule (looked (forked_not none (rw eq ended)))
assertions_found (and_ex e es) room ts rest (m1, st, (m2, se, (m3, ss, sa))) hgt =
    let some = height_some e in
    let first = assertion_found e room ts m2 (m1, st, se) (omega arith) in
    let others = assertions_found es room m3 rest sa (omega arith) in
    by_rule (looked (forked (assertion_begins e ts m2 (m1, st, se)) (roomy 0 room (omega arith) (called first (called (semis_found m2 m3 ss) (called others ended))))))

pub invariants_found : (es : Exs) (room : ℕ) (ts rest : List Token) → assertions_behind t.Invariant nothing es ts rest → heights es ≤ room → Calls (instruction_goal (invariants room)) ts (got es rest)
invariants_found es room ts rest (inl (m, word, (m1, eq, s))) hgt =
    by_rule (on_the t.Invariant ts m word (λ w. tail (got es rest) (assertions_found es room m rest (rw eq s) hgt)))
invariants_found es room ts rest (inr (m, (none, eq), apart)) hgt = rw (none, eq) (by_rule (on_before t.Invariant m rest apart ended))

pub variant_found : (v : Option Ex) (room : ℕ) (ts rest : List Token) → spells_variant v ts rest → maybe_height v ≤ room → Calls (instruction_goal (variant room)) ts (got v rest)
variant_found None room ts rest s hgt = by_rule (on_before t.Variant ts rest s ended)
variant_found (Some e) room ts rest (m, word, (m1, st, (m2, se, ss))) hgt =
    by_rule (on_the t.Variant ts m word (λ w. called (assertion_found e room m m2 (m1, st, se) hgt) (called (semis_found m2 rest ss) ended)))

-- ---- how instructions begin

call_begins : {x : Terminal} → CallStart x → begins_instruction x ≡ true
call_begins (with_name e) = ap begins_instruction e
call_begins (with_precursor e) = ap begins_instruction e
call_begins (with_current e) = ap begins_instruction e
call_begins (with_result e) = ap begins_instruction e

instruction_begins : (i : Ins) (ts rest : List Token) → spells_instruction i ts rest → begins_instruction (head ts) ≡ true
instruction_begins (assign n e) ts rest (m, inl name, more) = ap begins_instruction (head_name n.place n.name ts m name)
instruction_begins (assign n e) ts rest (m, inr (m0, word, eq), more) = ap begins_instruction (head_at t.Result n.place ts m0 word)
instruction_begins (call e) ts rest (m0, (is, eq), (m, s, apart)) = rw eq (call_begins (call_starts e m0 m is s.0))
instruction_begins (create p ty n c args) ts rest (m, word, more) = ap begins_instruction (head_at t.Create p ts m word)
instruction_begins (choose no_branches o) ts rest (m, none, more) = absurd none
instruction_begins (choose (and_branch e b bs) o) ts rest (m, (m0, word, more'), more) = ap begins_instruction (head_the t.If ts m0 word)
instruction_begins (loop s cs e b v) ts rest (m, word, more) = ap begins_instruction (head_the t.From ts m word)
instruction_begins (check cs) ts rest (m, word, more) = ap begins_instruction (head_the t.Check ts m word)

-- ---- compounds

-- the `;` that stand before an instruction or behind the last
behind_semicolons : (room : ℕ) (ts mid : List Token) (u : Outcome Inss) → semicolons ts mid → Runs (look (λ x. compound_by room (begins_instruction x))) mid u → Calls (instruction_goal (compound room)) ts u
behind_semicolons room [] mid u eq r = let apart : t.EndOfText ≢ t.Semicolon = λ same. cc in by_rule (on_other apart (rw eq r))
behind_semicolons room (w ∷ ts) mid u (inl (semicolon, s)) r = by_rule (on_found semicolon (taken (tail u (behind_semicolons room ts mid u s r))))
behind_semicolons room (w ∷ ts) mid u (inr (apart, eq)) r = by_rule (on_other apart (rw eq r))

compound_end : (room : ℕ) (ts rest : List Token) → spells_compound no_inss ts rest → Calls (instruction_goal (compound room)) ts (got no_inss rest)
compound_end room ts rest (m, s, (none, eq)) = behind_semicolons room ts m (got no_inss rest) s (looked (forked_not none (rw eq ended)))

compound_step : (room : ℕ) (i : Ins) (is : Inss) (ts m1 m2 rest : List Token) → semicolons ts m1 → spells_instruction i m1 m2 → instr_height i ≤ room
    → Calls (instruction_goal (instruction room)) m1 (got i m2) → Calls (instruction_goal (compound room)) m2 (got is rest) → Calls (instruction_goal (compound room)) ts (got (and_ins i is) rest)
compound_step room i is ts m1 m2 rest s si hgt ci cs =
    let some = instr_height_some i in
    behind_semicolons room ts m1 (got (and_ins i is) rest) s (looked (forked (instruction_begins i m1 m2 si) (roomy 0 room (omega arith) (called ci (called cs ended)))))

-- ---- every tree

mutual
  pub instruction_found : (i : Ins) (room : ℕ) (ts rest : List Token) → spells_instruction i ts rest → instr_height i ≤ room → Calls (instruction_goal (instruction room)) ts (got i rest)
  instruction_found (assign n e) room ts rest s hgt = assign_found n e room ts rest s hgt
  instruction_found (call e) room ts rest s hgt = call_found e room ts rest s hgt
  instruction_found (create p ty n c args) room ts rest s hgt = create_found p ty n c args room ts rest s hgt
  instruction_found (choose no_branches o) room ts rest (m, none, more) hgt = absurd none
  instruction_found (choose (and_branch e b bs) o) room ts rest (m4, (m, word, (m1, se, (m2, sthen, (m3, sb, ss)))), (m5, so, send)) hgt =
      let some = height_some e in
      let low : 1 < room = omega arith in
      let condition = expression_found e (room - 1) m m1 se (omega arith) in
      let body = compound_found b (room - 1) m2 m3 sb (omega arith) in
      let others = elseifs_found bs (room - 1) m3 m4 ss (omega arith) in
      let last = otherwise_found o (room - 1) m4 m5 so (omega arith) in
      instruction_at room ts (got (choose (and_branch e b bs) o) rest) by_if (ap instruction_start (head_the t.If ts m word))
      (roomy 1 room low (next_the t.If ts m word (λ w. called condition (expect_the m1 m2 sthen (called body (called others (called last (expect_the m5 rest send ended))))))))
  instruction_found (loop s cs e b v) room ts rest (m, word, (m1, ss, (m2, sc, (m3, su, (m4, se, (m5, sl, (m6, sb, (m7, sv, send)))))))) hgt =
      let some = height_some e in
      let low : 1 < room = omega arith in
      let start = compound_found s (room - 1) m m1 ss (omega arith) in
      let checks = invariants_found cs (room - 1) m1 m2 sc (omega arith) in
      let exit = expression_found e (room - 1) m3 m4 se (omega arith) in
      let body = compound_found b (room - 1) m5 m6 sb (omega arith) in
      let last = variant_found v (room - 1) m6 m7 sv (omega arith) in
      instruction_at room ts (got (loop s cs e b v) rest) by_from (ap instruction_start (head_the t.From ts m word))
      (roomy 1 room low (next_the t.From ts m word (λ w.
      called start (called checks (expect_the m2 m3 su (called exit (expect_the m4 m5 sl (called body (called last (expect_the m7 rest send ended))))))))))
  instruction_found (check cs) room ts rest (m, word, (m1, sc, send)) hgt =
      instruction_at room ts (got (check cs) rest) by_check (ap instruction_start (head_the t.Check ts m word))
      (next_the t.Check ts m word (λ w. called (assertions_found cs (room - 1) m m1 sc (omega arith)) (expect_the m1 rest send ended)))

  pub compound_found : (is : Inss) (room : ℕ) (ts rest : List Token) → spells_compound is ts rest → compound_height is ≤ room → Calls (instruction_goal (compound room)) ts (got is rest)
  compound_found no_inss room ts rest s hgt = compound_end room ts rest s
  compound_found (and_ins i is) room ts rest (m1, s, (m2, si, ss)) hgt =
      compound_step room i is ts m1 m2 rest s si (omega arith) (instruction_found i room m1 m2 si (omega arith)) (compound_found is room m2 rest ss (omega arith))

  pub elseifs_found : (bs : Branches) (room : ℕ) (ts rest : List Token) → spells_elseifs bs ts rest → branches_height bs ≤ room → Calls (instruction_goal (elseifs room)) ts (got bs rest)
  elseifs_found no_branches room ts rest s hgt = by_rule (on_before t.Elseif ts rest s ended)
  elseifs_found (and_branch e b bs) room ts rest (m, word, (m1, se, (m2, sthen, (m3, sb, ss)))) hgt =
      let condition = expression_found e room m m1 se (omega arith) in
      let body = compound_found b room m2 m3 sb (omega arith) in
      let others = elseifs_found bs room m3 rest ss (omega arith) in
      by_rule (on_the t.Elseif ts m word (λ w. called condition (expect_the m1 m2 sthen (called body (called others ended)))))

  pub otherwise_found : (o : Otherwise) (room : ℕ) (ts rest : List Token) → spells_otherwise o ts rest → otherwise_height o ≤ room → Calls (instruction_goal (otherwise room)) ts (got o rest)
  otherwise_found no_else room ts rest s hgt = by_rule (on_before t.Else ts rest s ended)
  otherwise_found (else_part b) room ts rest (m, word, sb) hgt = by_rule (on_the t.Else ts m word (λ w. called (compound_found b room m rest sb hgt) ended))
