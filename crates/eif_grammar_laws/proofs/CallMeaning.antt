-- A rule for instructions finds no more than calls and assignments mean.
use Rattle.std.proofs.Common.{◌≡◌, ◌≢◌, ℕ, ◌-◌, ◌≤◌, ◌<◌, true, List, refl, subst, arith, ◌⊎◌, inl, inr}
use Rattle.std.specs.Str.{str_to_ascii_lowercase}
use Rattle.eif_base.specs.declared.Place.{Place}
use Rattle.eif_tree.specs.declared.NameAt.{NameAt}
use Rattle.eif_tree.specs.Tree.{Ex, Exs, current_value, result_value, unqualified, precursor, qualified, no_exs, and_ex, Ins}
use Rattle.eif_tree.specs.Height.{height, instr_height}
use Rattle.eif_grammar.specs.declared.terminal.Terminal.TheVariants as t
use Rattle.eif_grammar.specs.Tokens.{Token}
use Rattle.eif_grammar.specs.Forms.{target_level}
use Rattle.eif_grammar.specs.Spelling.{head}
use Rattle.eif_grammar.specs.SpelledExpressions.{spells, spells_arguments}
use Rattle.eif_grammar.specs.SpelledInstructions.{spells_target, begins_calls, is_call, no_assignment, spells_instruction}
use Rattle.eif_grammar.specs.Goals.{instruction}
use Rattle.eif_grammar.specs.Reader.{name_of}
use Rattle.eif_grammar.specs.InstructionRules.{assigned, called_on, called_through, result_of, by_name, by_result, by_precursor, by_current, instruction_by}
use Rattle.eif_grammar_laws.proofs.Readers.{Meanings, Means}
use Rattle.eif_grammar_laws.proofs.Meanings.{InstructionMeans, IsQualified, GoesOn}
use Rattle.eif_grammar_laws.proofs.Meant.{Meant, seen, the_here, the_at_here, name_here, tested_is, tested_other, room_below}

-- a call on a target is no target of an assignment
qualified_apart : (e : Ex) (ts : List Token) → IsQualified e → no_assignment e ts ts
qualified_apart (qualified p t n args) ts is = refl
qualified_apart _ ts is = absurd is

-- a name with arguments is no target either
name_apart : (p : Place) (n : List ℕ) (args : Exs) (more ts : List Token) → head more ≢ t.Assign → spells_arguments args more ts → no_assignment (unqualified p n args) ts ts
name_apart p n no_exs more ts apart (closed, eq) = (subst (λ l. head l ≢ t.Assign) eq apart, refl)
name_apart p n (and_ex e es) more ts apart s = refl

-- the dots behind what is no target of an assignment
goes_apart : (left e : Ex) (ts rest : List Token) → no_assignment left ts ts → GoesOn left e ts rest → no_assignment e rest rest
goes_apart left e ts rest apart g = by_case g.same_or_qualified
  where
    by_case : ((e ≡ left) × (ts ≡ rest)) ⊎ IsQualified e → no_assignment e rest rest
    by_case (inl (same, eq)) = rw (same, ← eq) apart
    by_case (inr is) = qualified_apart e rest is

module _ (M : Meanings) (meant : Meant M) where
  -- behind a target
  form_assigned : (room : ℕ) (n : NameAt) (i : Ins) (ts more rest : List Token) → 1 < room → spells_target n ts more → head more ≡ t.Assign → Means M (assigned room n) i more rest
      → spells_instruction i ts rest × (instr_height i ≤ room)
  form_assigned room n i ts more rest low target sign (w, m1, eq, (e, m2, me, (it, end))) =
      let a = meant.expressions me (omega arith) (omega arith) (omega arith) in
      rw (← it, ← end) ((more, target, (m1, the_here (seen sign eq), a.0)), omega (arith, a.1))

  -- behind the start of a call
  form_called : (room : ℕ) (left : Ex) (i : Ins) (ts mid rest : List Token) → 1 < room → spells left target_level ts mid → height left ≤ room - 1 → is_call left ≡ true
      → no_assignment left mid mid → Means M (called_on room left) i mid rest → spells_instruction i ts rest × (instr_height i ≤ room)
  form_called room left i ts mid rest low s hgt is apart (e, m1, md, (it, end)) =
      let d = meant.expressions md (omega arith) ts s hgt in
      rw (← it, ← end) ((ts, (d.2.calls is, refl), (m1, d.0, goes_apart left e mid m1 apart d.2)), omega (arith, d.1))

  form_through : (room : ℕ) (left : Ex) (i : Ins) (ts mid rest : List Token) → 1 < room → spells left target_level ts mid → height left ≤ room - 1 → begins_calls left ≡ true
      → Means M (called_through room left) i mid rest → spells_instruction i ts rest × (instr_height i ≤ room)
  form_through room left i ts mid rest low s hgt is (e, m1, md, (it, end)) =
      let d = meant.expressions md (omega arith) ts s hgt in
      rw (← it, ← end) ((ts, (d.2 is, refl), (m1, d.0, qualified_apart e m1 d.3)), omega (arith, d.1))

  pub form_by_name : (room : ℕ) (i : Ins) (ts rest : List Token) → head ts ≡ t.Identifier → Means M (instruction_by room by_name) i ts rest → InstructionMeans (instruction room) i ts rest
  form_by_name room i ts rest found (lower, (w, more, eq, (y, there, inl (same, m)))) some =
      form_assigned room (name_of w) i ts more rest (room_below 1 room lower) (inl (name_here (seen found eq))) (tested_is more t.Assign y there same) m
  form_by_name room i ts rest found (lower, (w, more, eq, (y, there, inr (other, (args, mid, ma, m))))) some =
      let low = room_below 1 room lower in
      let a = meant.expressions ma (omega arith) in
      let apart = tested_other more t.Assign y there other in
      let name : List ℕ = str_to_ascii_lowercase w.text in
      form_called room (unqualified w.place name args) i ts mid rest low ((more, name_here (seen found eq), a.0), inl refl) a.1 refl
      (name_apart w.place name args more mid apart.0 a.0) m

  pub form_by_result : (room : ℕ) (i : Ins) (ts rest : List Token) → head ts ≡ t.Result → Means M (instruction_by room by_result) i ts rest → InstructionMeans (instruction room) i ts rest
  form_by_result room i ts rest found (lower, (w, more, eq, (y, there, inl (same, m)))) some =
      form_assigned room (result_of w) i ts more rest (room_below 1 room lower) (inr (more, the_at_here (seen found eq), (refl, refl))) (tested_is more t.Assign y there same) m
  form_by_result room i ts rest found (lower, (w, more, eq, (y, there, inr (other, m)))) some =
      let low = room_below 1 room lower in
      form_through room (result_value w.place) i ts more rest low (the_at_here (seen found eq), inl refl) (omega arith) refl m

  pub form_by_precursor : (room : ℕ) (i : Ins) (ts rest : List Token) → head ts ≡ t.Precursor → Means M (instruction_by room by_precursor) i ts rest → InstructionMeans (instruction room) i ts rest
  form_by_precursor room i ts rest found (lower, (w, more, eq, (e, mid, mp, m))) some =
      let low = room_below 1 room lower in
      let (n, args, same, (mid', parent, behind), hgt) = meant.expressions mp (omega arith) in
      form_called room (precursor w.place n args) i ts mid rest low ((more, the_at_here (seen found eq), (mid', parent, behind)), inl refl) hgt refl refl
      (subst (λ x. Means M (called_on room x) i mid rest) same m)

  pub form_by_current : (room : ℕ) (i : Ins) (ts rest : List Token) → head ts ≡ t.Current → Means M (instruction_by room by_current) i ts rest → InstructionMeans (instruction room) i ts rest
  form_by_current room i ts rest found (lower, (w, more, eq, m)) some =
      let low = room_below 2 room lower in
      form_through room (current_value w.place) i ts more rest (omega arith) (the_at_here (seen found eq), inl refl) (omega arith) refl m
