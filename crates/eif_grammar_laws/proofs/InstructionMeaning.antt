-- A rule for instructions finds no more than its goal means.
use Rattle.std.proofs.Common.{◌≡◌, ℕ, ◌+◌, ◌≤◌, Option, Some, None, List, refl, ap, arith, inl, inr}
use Rattle.eif_base.specs.declared.Place.{Place}
use Rattle.eif_tree.specs.declared.NameAt.{NameAt}
use Rattle.eif_tree.specs.Tree.{TypeT, Ins, Inss, Branches, Otherwise, no_inss, and_ins}
use Rattle.eif_tree.specs.Height.{written_height, instr_height}
use Rattle.eif_grammar.specs.declared.terminal.Terminal.TheVariants as t
use Rattle.eif_grammar.specs.Tokens.{Token}
use Rattle.eif_grammar.specs.Forms.{begins_expression}
use Rattle.eif_grammar.specs.Spelling.{head, the, the_at}
use Rattle.eif_grammar.specs.SpelledInstructions.{spells_created_type, spells_instruction, spells_compound}
use Rattle.eif_grammar.specs.Goals.{InstructionGoal, InstructionFound, semis, assertions, assertion, invariants, variant, compound, instruction, target, elseifs, otherwise}
use Rattle.eif_grammar.specs.InstructionRules.{created, InstructionStart, by_name, by_result, by_precursor, by_current, by_create, by_if, by_from, by_check, no_instruction, instruction_start, instruction_by, instruction_rule}
use Rattle.eif_grammar_laws.proofs.Readers.{Meanings, Means}
use Rattle.eif_grammar_laws.proofs.Meanings.{InstructionMeans}
use Rattle.eif_grammar_laws.proofs.Meant.{Meant, seen, the_here, the_at_here, name_here, tested_is, tested_other, took, room_below}
use Rattle.eif_grammar_laws.proofs.InstructionStarts.{InstructionToken, instruction_token}
use Rattle.eif_grammar_laws.proofs.AssertionMeaning.{one_semicolon, no_semicolon, form_semis, form_assertion, form_assertions, form_invariants, form_variant}
use Rattle.eif_grammar_laws.proofs.CallMeaning.{form_by_name, form_by_result, form_by_precursor, form_by_current}

-- a `;` before instructions
compound_more : (is : Inss) (ts mid rest : List Token) → the t.Semicolon ts mid → spells_compound is mid rest → spells_compound is ts rest
compound_more no_inss ts mid rest semicolon (m, s, end) = (m, one_semicolon ts mid m semicolon s, end)
compound_more (and_ins i is) ts mid rest semicolon (m, s, more) = (m, one_semicolon ts mid m semicolon s, more)

module _ (M : Meanings) (meant : Meant M) where
  form_target : (n : NameAt) (ts rest : List Token) → Means M (instruction_rule target) n ts rest → InstructionMeans target n ts rest
  form_target n ts rest (y, there, inl (same, (w, more, eq, (it, end)))) =
      rw (← it, ← end) (inr (more, the_at_here (seen (tested_is ts t.Result y there same) eq), (refl, refl)))
  form_target n ts rest (y, there, inr (other, (w, mid, mw, (it, end)))) = rw (← it, ← end) (inl (name_here (meant.tokens mw)))

  -- ---- creations

  -- behind the type
  form_created : (room : ℕ) (p : Place) (ty : Option TypeT) (i : Ins) (ts m mid rest : List Token) → 1 ≤ room → the_at t.Create p ts m → spells_created_type ty m mid
      → written_height ty + 1 ≤ room → Means M (created room p ty) i mid rest → spells_instruction i ts rest × (instr_height i ≤ room)
  form_created room p ty i ts m mid rest some word st hgt (n, m1, mn, (c, m2, mc, (it, end))) =
      let a = meant.expressions mc some in
      rw (← it, ← end) ((m, word, (mid, st, (m1, meant.instructions mn, a.0))), omega (arith, a.1))

  form_by_create : (room : ℕ) (i : Ins) (ts rest : List Token) → head ts ≡ t.Create → Means M (instruction_by room by_create) i ts rest → InstructionMeans (instruction room) i ts rest
  form_by_create room i ts rest found (w, more, eq, (y, there, inl (same, (lower, (b, m1, eq', (ty, m2, mt, (c, m3, mc, m))))))) some =
      let low = room_below 1 room lower in
      let a = meant.types mt (omega arith) in
      let opening = the_here (seen (tested_is more t.OpenBrace y there same) eq') in
      form_created room w.place (Some ty) i ts more m3 rest some (the_at_here (seen found eq)) (m1, opening, (m2, a.0, the_here (meant.tokens mc))) (omega (arith, a.1)) m
  form_by_create room i ts rest found (w, more, eq, (y, there, inr (other, m))) some =
      form_created room w.place None i ts more more rest some (the_at_here (seen found eq)) (tested_other more t.OpenBrace y there other) (omega arith) m

  -- ---- choices, loops and checks

  form_by_if : (room : ℕ) (i : Ins) (ts rest : List Token) → head ts ≡ t.If → Means M (instruction_by room by_if) i ts rest → InstructionMeans (instruction room) i ts rest
  form_by_if room i ts rest found (lower, (w, more, eq, (e, m1, me, (v, m2, mv, (b, m3, mb, (bs, m4, ms, (o, m5, mo, (d, m6, md, (it, end))))))))) some =
      let low = room_below 1 room lower in
      let a = meant.expressions me (omega arith) (omega arith) (omega arith) in
      let body = meant.instructions mb in
      let others = meant.instructions ms (omega arith) in
      let last = meant.instructions mo in
      rw (← it, ← end) (
        (m4, (more, the_here (seen found eq), (m1, a.0, (m2, the_here (meant.tokens mv), (m3, body.0, others.0)))), (m5, last.0, the_here (meant.tokens md))),
        omega (arith, a.1, body.1, others.1, last.1),
      )

  form_by_from : (room : ℕ) (i : Ins) (ts rest : List Token) → head ts ≡ t.From → Means M (instruction_by room by_from) i ts rest → InstructionMeans (instruction room) i ts rest
  form_by_from room i ts rest found
      (lower, (w, more, eq, (s, m1, ms, (cs, m2, mc, (u, m3, mu, (e, m4, me, (l, m5, ml, (b, m6, mb, (v, m7, mv, (d, m8, md, (it, end))))))))))) some =
      let low = room_below 1 room lower in
      let start = meant.instructions ms in
      let checks = meant.instructions mc in
      let exit = meant.expressions me (omega arith) (omega arith) (omega arith) in
      let body = meant.instructions mb in
      let last = meant.instructions mv (omega arith) in
      rw (← it, ← end) (
        (
          more,
          the_here (seen found eq),
          (m1, start.0, (m2, checks.0, (m3, the_here (meant.tokens mu), (m4, exit.0, (m5, the_here (meant.tokens ml), (m6, body.0, (m7, last.0, the_here (meant.tokens md)))))))),
        ),
        omega (arith, start.1, checks.1, exit.1, body.1, last.1),
      )

  form_by_check : (room : ℕ) (i : Ins) (ts rest : List Token) → head ts ≡ t.Check → Means M (instruction_by room by_check) i ts rest → InstructionMeans (instruction room) i ts rest
  form_by_check room i ts rest found (w, more, eq, (cs, m1, mc, (d, m2, md, (it, end)))) some =
      let a = meant.instructions mc in
      rw (← it, ← end) ((more, the_here (seen found eq), (m1, a.0, the_here (meant.tokens md))), omega (arith, a.1))

  form_instruction : (room : ℕ) (i : Ins) (ts rest : List Token) (s : InstructionStart) → InstructionToken (head ts) s → Means M (instruction_by room s) i ts rest
      → InstructionMeans (instruction room) i ts rest
  form_instruction room i ts rest by_name found m = form_by_name M meant room i ts rest found m
  form_instruction room i ts rest by_result found m = form_by_result M meant room i ts rest found m
  form_instruction room i ts rest by_precursor found m = form_by_precursor M meant room i ts rest found m
  form_instruction room i ts rest by_current found m = form_by_current M meant room i ts rest found m
  form_instruction room i ts rest by_create found m = form_by_create room i ts rest found m
  form_instruction room i ts rest by_if found m = form_by_if room i ts rest found m
  form_instruction room i ts rest by_from found m = form_by_from room i ts rest found m
  form_instruction room i ts rest by_check found m = form_by_check room i ts rest found m
  form_instruction room i ts rest no_instruction found m = absurd m

  -- ---- compounds

  form_compound : (room : ℕ) (is : Inss) (ts rest : List Token) → Means M (instruction_rule (compound room)) is ts rest → InstructionMeans (compound room) is ts rest
  form_compound room is ts rest (y, there, inl (same, (w, more, eq, (is', mid, m, (it, end))))) =
      let a = meant.instructions m in
      rw (← it, ← end) (compound_more is' ts more mid (took t.Semicolon there same eq) a.0, a.1)
  form_compound room is ts rest (y, there, inr (other, (x, begins, inl (found, (lower, (i, m1, mi, (is', m2, ms, (it, end)))))))) =
      let low = room_below 0 room lower in
      let a = meant.instructions mi (omega arith) in
      let b = meant.instructions ms in
      rw (← it, ← end) ((ts, no_semicolon ts (tested_other ts t.Semicolon y there other).0, (m1, a.0, b.0)), omega (arith, a.1, b.1))
  form_compound room is ts rest (y, there, inr (other, (x, begins, inr (none, (it, end))))) =
      rw (← it, ← end) ((ts, no_semicolon ts (tested_other ts t.Semicolon y there other).0, (cc, refl)), omega arith)

  form_elseifs : (room : ℕ) (bs : Branches) (ts rest : List Token) → Means M (instruction_rule (elseifs room)) bs ts rest → InstructionMeans (elseifs room) bs ts rest
  form_elseifs room bs ts rest (y, there, inl (same, (w, more, eq, (e, m1, me, (v, m2, mv, (b, m3, mb, (bs', m4, ms, (it, end)))))))) some =
      let a = meant.expressions me some (omega arith) (omega arith) in
      let body = meant.instructions mb in
      let others = meant.instructions ms some in
      rw (← it, ← end) (
        (more, the_here (seen (tested_is ts t.Elseif y there same) eq), (m1, a.0, (m2, the_here (meant.tokens mv), (m3, body.0, others.0)))),
        omega (arith, a.1, body.1, others.1),
      )
  form_elseifs room bs ts rest (y, there, inr (other, (it, end))) some = rw (← it, ← end) (tested_other ts t.Elseif y there other, omega arith)

  form_otherwise : (room : ℕ) (o : Otherwise) (ts rest : List Token) → Means M (instruction_rule (otherwise room)) o ts rest → InstructionMeans (otherwise room) o ts rest
  form_otherwise room o ts rest (y, there, inl (same, (w, more, eq, (b, mid, mb, (it, end))))) =
      let a = meant.instructions mb in
      rw (← it, ← end) ((more, the_here (seen (tested_is ts t.Else y there same) eq), a.0), a.1)
  form_otherwise room o ts rest (y, there, inr (other, (it, end))) = rw (← it, ← end) (tested_other ts t.Else y there other, omega arith)

  pub instruction_forms : (g : InstructionGoal) (a : InstructionFound g) (ts rest : List Token) → Means M (instruction_rule g) a ts rest → InstructionMeans g a ts rest
  instruction_forms semis u ts rest m = form_semis M meant u ts rest m
  instruction_forms (assertions room) es ts rest (x, there, m) = form_assertions M meant room es ts rest (begins_expression x) (ap begins_expression there) m
  instruction_forms (assertion room) e ts rest m = form_assertion M meant room e ts rest m
  instruction_forms (invariants room) es ts rest m = form_invariants M meant room es ts rest m
  instruction_forms (variant room) v ts rest m = form_variant M meant room v ts rest m
  instruction_forms (compound room) is ts rest m = form_compound room is ts rest m
  instruction_forms (instruction room) i ts rest (x, there, m) = form_instruction room i ts rest (instruction_start x) (rw there (instruction_token x)) m
  instruction_forms target n ts rest m = form_target n ts rest m
  instruction_forms (elseifs room) bs ts rest m = form_elseifs room bs ts rest m
  instruction_forms (otherwise room) o ts rest m = form_otherwise room o ts rest m
