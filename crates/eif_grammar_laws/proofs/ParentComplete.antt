-- Parents that are spelled are found.
use Rattle.std.proofs.Common.{◌≡◌, true, ◌≤◌, List, [], ◌∷◌, Some, refl, ap, sym, ◌∙◌, subst, arith}
use Rattle.std.proofs.lemmas.Bool.Decides.{nat_tests}
use Rattle.eif_tree.specs.declared.Mark.TheVariants.{Plain}
use Rattle.eif_tree.specs.Tree.{TypeT, type_at, ParentT}
use Rattle.eif_tree.specs.Height.{type_height, highest}
use Rattle.eif_grammar.specs.declared.terminal.Terminal.TheVariants as t
use Rattle.eif_grammar.specs.Tokens.{Token}
use Rattle.eif_grammar.specs.Spelling.{head, the, semicolons}
use Rattle.eif_grammar.specs.SpelledTypes.{spells_mark, spells_class_type}
use Rattle.eif_grammar.specs.SpelledClasses as spelled
use Rattle.eif_grammar.specs.SpelledClasses.{Clause, rename_clause, export_clause, undefine_clause, redefine_clause, select_clause, spells_clause, spells_clauses, IsOrderOf}
use Rattle.eif_grammar.specs.Forms.{begins_clause}
use Rattle.eif_grammar.specs.Goals
use Rattle.eif_grammar.specs.Goals.{class_goal}
use Rattle.eif_grammar.specs.ClassRules.{unchanged, clause_start, clauses_by, parents_from}
use Rattle.eif_grammar.specs.Parts.{most_height}
use Rattle.eif_grammar.specs.Outcomes.{got, Runs, Calls}
use Rattle.eif_grammar_laws.proofs.Readers.{by_rule, called, looked, looked_at, guarded, forked, forked_not, ended}
use Rattle.eif_grammar_laws.proofs.Terminals.{on_found, on_other}
use Rattle.eif_grammar_laws.proofs.ClassMeanings.{Fills, parent_height}
use Rattle.eif_grammar_laws.proofs.Clauses.{clause_terminal, clause_started, clause_begins, with_renames, with_exports, with_undefines, with_redefines, with_selects, filled_by_none, fills_rest, fills_whole, unchanged_empty}
use Rattle.eif_grammar_laws.proofs.Taken.{head_the, head_name, expect_the, on_the}
use Rattle.eif_grammar_laws.proofs.ClassSteps.{PartsFound, last, ended_as, ended_at, ended_both, takes}
use Rattle.eif_grammar_laws.proofs.NameComplete.{names_found, renames_found, exports_found}

-- ---- clauses

clause_head : (p : ParentT) (c : Clause) (ts rest : List Token) → spells_clause p c ts rest → head ts ≡ clause_terminal c
clause_head p rename_clause ts rest (mid, word, s) = head_the t.Rename ts mid word
clause_head p export_clause ts rest (mid, word, s) = head_the t.Export ts mid word
clause_head p undefine_clause ts rest (mid, word, s) = head_the t.Undefine ts mid word
clause_head p redefine_clause ts rest (mid, word, s) = head_the t.Redefine ts mid word
clause_head p select_clause ts rest (mid, word, s) = head_the t.Select ts mid word

class_type_head : (ty : TypeT) (ts rest : List Token) → spells_class_type ty ts rest → head ts ≡ t.Identifier
class_type_head (type_at p q m n us) ts rest (m0, (plain, e), (m1, mark, (m2, name, s))) =
    let unmarked : spells_mark Plain p q m0 m1 = subst (λ x. spells_mark x p q m0 m1) plain mark in
    ap head (e ∙ unmarked.1) ∙ head_name q n m1 m2 name

module _ (found : PartsFound) where
  -- the clause of that kind, where a parent is filled in
  says : (c : Clause) (p q : ParentT) (order : List Clause) (ts mid rest : List Token) → Fills p q (c ∷ order) → spells_clause q c ts mid
      → ((p' : ParentT) → Fills p' q order → Calls (class_goal (Goals.more_clauses p')) mid (got q rest)) → Runs (clauses_by p (Some c)) ts (got q rest)
  says rename_clause p q order ts mid rest f (m, word, s) then =
      let left = fills_rest p (record p { renames = q.renames }) q rename_clause order (with_renames p q.renames) refl f in
      guarded (grind (arith, nat_tests, left.0)) (takes _ ts m word (λ n e. called (renames_found q.renames m mid s) (last (then _ left.1))))
  says export_clause p q order ts mid rest f (m, word, s) then =
      let left = fills_rest p (record p { exports = q.exports }) q export_clause order (with_exports p q.exports) refl f in
      guarded (grind (arith, nat_tests, left.0)) (takes _ ts m word (λ n e. called (exports_found found q.exports m mid s) (last (then _ left.1))))
  says undefine_clause p q order ts mid rest f (m, word, s) then =
      let left = fills_rest p (record p { undefines = q.undefines }) q undefine_clause order (with_undefines p q.undefines) refl f in
      guarded (grind (arith, nat_tests, left.0)) (takes _ ts m word (λ n e. called (names_found q.undefines m mid s) (last (then _ left.1))))
  says redefine_clause p q order ts mid rest f (m, word, s) then =
      let left = fills_rest p (record p { redefines = q.redefines }) q redefine_clause order (with_redefines p q.redefines) refl f in
      guarded (grind (arith, nat_tests, left.0)) (takes _ ts m word (λ n e. called (names_found q.redefines m mid s) (last (then _ left.1))))
  says select_clause p q order ts mid rest f (m, word, s) then =
      let left = fills_rest p (record p { selects = q.selects }) q select_clause order (with_selects p q.selects) refl f in
      guarded (grind (arith, nat_tests, left.0)) (takes _ ts m word (λ n e. called (names_found q.selects m mid s) (last (then _ left.1))))

  clauses_step : (c : Clause) (p q : ParentT) (order : List Clause) (ts mid rest : List Token) → Fills p q (c ∷ order) → spells_clause q c ts mid
      → ((p' : ParentT) → Fills p' q order → Calls (class_goal (Goals.more_clauses p')) mid (got q rest)) → Calls (class_goal (Goals.clauses p)) ts (got q rest)
  clauses_step c p q order ts mid rest f s then =
      let starts : clause_start (head ts) ≡ Some c = ap clause_start (clause_head q c ts mid s) ∙ clause_started c in
      by_rule (looked (subst (λ x. Runs (clauses_by p x) ts (got q rest)) (sym starts) (says c p q order ts mid rest f s then)))

  clause_goes_on : (q : ParentT) (c : Clause) (ts rest : List Token) → spells_clause q c ts rest → begins_clause (head ts) ≡ true
  clause_goes_on q c ts rest s = ap begins_clause (clause_head q c ts rest s) ∙ clause_begins c

  more_clauses_found : (order : List Clause) (q : ParentT) (ts mid rest : List Token) → spells_clauses q order ts mid → the t.End mid rest
      → (p : ParentT) → Fills p q order → Calls (class_goal (Goals.more_clauses p)) ts (got q rest)
  more_clauses_found [] q ts mid rest e word p f =
      let here : the t.End ts rest = subst (λ l. the t.End l rest) (sym e) word in
      by_rule (looked_at (head_the t.End ts rest here) (forked_not refl (expect_the ts rest here (ended_as (filled_by_none p q f)))))
  more_clauses_found (c ∷ order) q ts mid rest (m, s, more) word p f =
      by_rule (looked (forked (clause_goes_on q c ts m s) (last (clauses_step c p q order ts m rest f s (more_clauses_found order q m mid rest more word)))))

  -- ---- parents

  adaptation_found : (p : ParentT) (order : List Clause) (ts m1 rest : List Token) → spells_class_type p.parent ts m1 → type_height p.parent ≤ most_height → IsOrderOf p order
      → spelled.spells_adaptation p order m1 rest → Calls (class_goal Goals.parent) ts (got p rest)
  adaptation_found p [] ts m1 rest s low is_order (none, e) =
      let same = filled_by_none (unchanged p.parent) p (fills_whole (unchanged p.parent) p [] (unchanged_empty p.parent) refl is_order) in
      by_rule (called (found.class_type_found p.parent most_height ts m1 s low) (looked (forked_not none (ended_both same e))))
  adaptation_found p (c ∷ order) ts m1 rest s low is_order (m3, (m2, first, others), word) =
      let fills = fills_whole (unchanged p.parent) p (c ∷ order) (unchanged_empty p.parent) refl is_order in
      by_rule (called (found.class_type_found p.parent most_height ts m1 s low) (looked (forked (clause_goes_on p c m1 m2 first)
      (last (clauses_step c (unchanged p.parent) p order m1 m2 rest fills first (more_clauses_found order p m2 m3 rest others word))))))

  pub parent_found : (p : ParentT) (ts rest : List Token) → spelled.spells_parent p ts rest → parent_height p ≤ most_height → Calls (class_goal Goals.parent) ts (got p rest)
  parent_found p ts rest (m1, s, (order, is_order, adapts)) low = adaptation_found p order ts m1 rest s low is_order adapts

  parents_run : (p : ParentT) (ps : List ParentT) (ts m1 m2 rest : List Token) → spelled.spells_parent p ts m1 → parent_height p ≤ most_height → semicolons m1 m2
      → Calls (class_goal Goals.more_parents) m2 (got ps rest) → Runs parents_from ts (got (p ∷ ps) rest)
  parents_run p ps ts m1 m2 rest s low semis c = called (parent_found p ts m1 s low) (called (found.semis_found m1 m2 semis) (called c ended))

  pub more_parents_found : (ps : List ParentT) (ts rest : List Token) → spelled.more_parents ps ts rest → highest parent_height ps ≤ most_height
      → Calls (class_goal Goals.more_parents) ts (got ps rest)
  more_parents_found [] ts rest (none, e) low = by_rule (on_other none (ended_at e))
  more_parents_found (p ∷ ps) ts rest (m1, s, (m2, semis, more)) low =
      by_rule (on_found (class_type_head p.parent ts s.0 s.1) (parents_run p ps ts m1 m2 rest s (omega arith) semis (more_parents_found ps m2 rest more (omega arith))))

  pub parents_found : (ps : List ParentT) (ts rest : List Token) → spelled.spells_parents ps ts rest → highest parent_height ps ≤ most_height
      → Calls (class_goal Goals.parents) ts (got ps rest)
  parents_found [] ts rest (none, e) low = by_rule (on_other none (ended_at e))
  parents_found (p ∷ ps) ts rest (m0, word, (m1, s, (m2, semis, more))) low =
      by_rule (on_the t.Inherit ts m0 word (λ n. parents_run p ps m0 m1 m2 rest s (omega arith) semis (more_parents_found ps m2 rest more (omega arith))))
