-- A rule for assertions finds no more than its goal means.
use Rattle.std.proofs.Common.{◌≡◌, ◌≢◌, ℕ, max, Bool, Option, List, [], ◌∷◌, refl, subst, arith, inl, inr}
use Rattle.eif_tree.specs.Tree.{Ex, Exs}
use Rattle.eif_grammar.specs.declared.terminal.Terminal.TheVariants as t
use Rattle.eif_grammar.specs.Tokens.{Token}
use Rattle.eif_grammar.specs.Forms.{binds, begins_expression}
use Rattle.eif_grammar.specs.Spelling.{head, the, semicolons}
use Rattle.eif_grammar.specs.SpelledInstructions.{begins_tag}
use Rattle.eif_grammar.specs.Goals.{semis, assertions, assertion, invariants, variant}
use Rattle.eif_grammar.specs.InstructionRules.{assertion_by, assertions_by, instruction_rule}
use Rattle.eif_grammar_laws.proofs.Readers.{Meanings, Means}
use Rattle.eif_grammar_laws.proofs.Meanings.{InstructionMeans, level_before}
use Rattle.eif_grammar_laws.proofs.Meant.{Meant, seen, the_here, name_here, tested_is, tested_other, took, room_below}
use Rattle.eif_grammar_laws.proofs.Levels.{spells_undotted}

-- ---- semicolons

-- a `;` and those behind it
pub one_semicolon : (ts mid rest : List Token) → the t.Semicolon ts mid → semicolons mid rest → semicolons ts rest
one_semicolon [] mid rest c s = absurd c
one_semicolon (w ∷ ts) mid rest (found, e) s = inl (found, rw e s)

pub no_semicolon : (ts : List Token) → head ts ≢ t.Semicolon → semicolons ts ts
no_semicolon [] apart = refl
no_semicolon (w ∷ ts) apart = inr (apart, refl)

-- ---- tags

-- a tag begins with a name
pub no_name : (ts : List Token) → head ts ≢ t.Identifier → begins_tag ts → ⊥
no_name [] apart b = b
no_name (w ∷ ts) apart b = apart b.0

-- and a `:` stands behind it
pub no_colon : (w : Token) (ts more : List Token) → ts ≡ w ∷ more → head more ≢ t.Colon → begins_tag ts → ⊥
no_colon w ts more eq apart b = apart (subst begins_tag eq b).1

module _ (M : Meanings) (meant : Meant M) where
  pub form_semis : (u : Unit {0}) (ts rest : List Token) → Means M (instruction_rule semis) u ts rest → InstructionMeans semis u ts rest
  form_semis u ts rest (y, there, inl (same, (w, more, eq, (u', mid, m, (it, end))))) =
      rw (← end) (one_semicolon ts more mid (took t.Semicolon there same eq) (meant.instructions m))
  form_semis u ts rest (y, there, inr (other, (it, end))) = rw (← end) (no_semicolon ts (tested_other ts t.Semicolon y there other).0)

  -- ---- one assertion

  pub form_assertion : (room : ℕ) (e : Ex) (ts rest : List Token) → Means M (assertion_by room) e ts rest → InstructionMeans (assertion room) e ts rest
  form_assertion room e ts rest (y, there, inl (same, (w, more, eq, (z, there', inl (same', (c, m1, eq', (e', m2, me, (it, end)))))))) some =
      let a = meant.expressions me some (omega arith) (omega arith) in
      let name = the_here (seen (tested_is ts t.Identifier y there same) eq) in
      let colon = the_here (seen (tested_is more t.Colon z there' same') eq') in
      rw (← it, ← end) ((m1, inl (more, name, colon), a.0), a.1)
  form_assertion room e ts rest (y, there, inl (same, (w, more, eq, (z, there', inr (other, (args, m1, ma, (first, m2, md, (e', m3, mc, (it, end))))))))) some =
      let a = meant.expressions ma some in
      let name = name_here (seen (tested_is ts t.Identifier y there same) eq) in
      let apart = tested_other more t.Colon z there' other in
      let d = meant.expressions md some ts ((more, name, a.0), inl refl) a.1 in
      let level = max 1 (level_before (binds (head m2))) in
      let whole = meant.expressions mc some (omega arith) (omega arith) ts (spells_undotted first level ts m2 d.0) d.1 in
      rw (← it, ← end) ((ts, inr (no_colon w ts more eq apart.0, refl), whole.0), whole.1)
  form_assertion room e ts rest (y, there, inr (other, (e', mid, me, (it, end)))) some =
      let a = meant.expressions me some (omega arith) (omega arith) in
      rw (← it, ← end) ((ts, inr (no_name ts (tested_other ts t.Identifier y there other).0, refl), a.0), a.1)

  -- ---- assertions

  pub form_assertions : (room : ℕ) (es : Exs) (ts rest : List Token) (more : Bool) → begins_expression (head ts) ≡ more → Means M (assertions_by room more) es ts rest
      → InstructionMeans (assertions room) es ts rest
  form_assertions room es ts rest more found (inl (begins, (lower, (e, m1, me, (u, m2, mu, (es', m3, ms, (it, end))))))) =
      let low = room_below 0 room lower in
      let a = meant.instructions me (omega arith) in
      let b = meant.instructions ms in
      rw (← it, ← end) ((a.0.0, a.0.1, (m1, a.0.2, (m2, meant.instructions mu, b.0))), omega (arith, a.1, b.1))
  form_assertions room es ts rest more found (inr (none, (it, end))) = rw (← it, ← end) ((cc, refl), omega arith)

  pub form_invariants : (room : ℕ) (es : Exs) (ts rest : List Token) → Means M (instruction_rule (invariants room)) es ts rest → InstructionMeans (invariants room) es ts rest
  form_invariants room es ts rest (y, there, inl (same, (w, more, eq, (es', mid, ms, (it, end))))) =
      let a = meant.instructions ms in
      rw (← it, ← end) (inl (more, the_here (seen (tested_is ts t.Invariant y there same) eq), (more, refl, a.0)), a.1)
  form_invariants room es ts rest (y, there, inr (other, (it, end))) =
      rw (← it, ← end) (inr (ts, (refl, refl), tested_other ts t.Invariant y there other), omega arith)

  pub form_variant : (room : ℕ) (v : Option Ex) (ts rest : List Token) → Means M (instruction_rule (variant room)) v ts rest → InstructionMeans (variant room) v ts rest
  form_variant room v ts rest (y, there, inl (same, (w, more, eq, (e, m1, me, (u, m2, mu, (it, end)))))) some =
      let a = meant.instructions me some in
      rw (← it, ← end) ((more, the_here (seen (tested_is ts t.Variant y there same) eq), (a.0.0, a.0.1, (m1, a.0.2, meant.instructions mu))), a.1)
  form_variant room v ts rest (y, there, inr (other, (it, end))) some = rw (← it, ← end) (tested_other ts t.Variant y there other, omega arith)
