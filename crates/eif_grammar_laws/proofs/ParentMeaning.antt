-- What is read of a class's parents is spelled.
use Rattle.std.proofs.Common.{◌≡◌, ◌≢◌, ◌≤◌, List, [], ◌∷◌, length, Option, Some, None, refl, ap, ◌∙◌, subst, arith, inl, inr}
use Rattle.std.proofs.lemmas.Bool.Decides.{nat_tests}
use Rattle.eif_tree.specs.declared.NameAt.{NameAt}
use Rattle.eif_tree.specs.declared.RenamePair.{RenamePair}
use Rattle.eif_tree.specs.Tree.{ExportT, ParentT}
use Rattle.eif_tree.specs.Height.{type_height, highest}
use Rattle.eif_grammar.specs.declared.terminal.Terminal.TheVariants as t
use Rattle.eif_grammar.specs.Tokens.{Token}
use Rattle.eif_grammar.specs.Spelling
use Rattle.eif_grammar.specs.Spelling.{Spelling, head, ◌⨟◌, never, the, semicolons}
use Rattle.eif_grammar.specs.SpelledTypes.{spells_class_type}
use Rattle.eif_grammar.specs.SpelledClasses as spelled
use Rattle.eif_grammar.specs.SpelledClasses.{Clause, rename_clause, export_clause, undefine_clause, redefine_clause, select_clause, clause_length, spells_clause}
use Rattle.eif_grammar.specs.Forms.{begins_clause}
use Rattle.eif_grammar.specs.Goals
use Rattle.eif_grammar.specs.Goals.{class_goal}
use Rattle.eif_grammar.specs.ClassRules.{unchanged, clause_start, clause_by, clauses_by, parents_from, class_rule}
use Rattle.eif_grammar.specs.Parts.{most_height}
use Rattle.eif_grammar_laws.proofs.Readers.{Meanings, Means}
use Rattle.eif_grammar_laws.proofs.ClassMeanings.{SameClause, low, parent_height, ClassMeans}
use Rattle.eif_grammar_laws.proofs.Meant.{seen, the_here, not_there, took}
use Rattle.eif_grammar_laws.proofs.ClassLeads.{Leads, both_low, moved}
use Rattle.eif_grammar_laws.proofs.Clauses.{clause_terminal, starts_clause, Differs, with_renames, with_exports, with_undefines, with_redefines, with_selects, fills_none, fills_first, whole_fills, unchanged_empty}

-- ---- one clause

-- a clause that says the same is spelled by the same tokens
pub same_spelling : (p q : ParentT) (c : Clause) → SameClause p q c → (ts rest : List Token) → spells_clause p c ts rest → spells_clause q c ts rest
same_spelling p q rename_clause e ts rest s = rw (← e) s
same_spelling p q export_clause e ts rest s = rw (← e) s
same_spelling p q undefine_clause e ts rest s = rw (← e) s
same_spelling p q redefine_clause e ts rest s = rw (← e) s
same_spelling p q select_clause e ts rest s = rw (← e) s

-- what is spelled says something
pub renames_some : (rs : List RenamePair) (ts rest : List Token) → spelled.spells_renames rs ts rest → length rs ≢ 0
renames_some [] ts rest s = absurd s
renames_some (r ∷ rs) ts rest s = λ e. absurd (omega (arith, e))

pub exports_some : (xs : List ExportT) (ts rest : List Token) → spelled.spells_exports xs ts rest → length xs ≢ 0
exports_some [] ts rest s = absurd s
exports_some (x ∷ xs) ts rest s = λ e. absurd (omega (arith, e))

pub names_some : (ns : List NameAt) (ts rest : List Token) → Spelling.names ns ts rest → length ns ≢ 0
names_some [] ts rest s = absurd s
names_some (n ∷ ns) ts rest s = λ e. absurd (omega (arith, e))

-- ---- lists of parents

-- one parent or more
abbrev pub spells_parents_from : List ParentT → Spelling
spells_parents_from [] = never
spells_parents_from (p ∷ ps) = spelled.spells_parent p ⨟ semicolons ⨟ spelled.more_parents ps

pub parents_are_more : (ps : List ParentT) (ts rest : List Token) → spells_parents_from ps ts rest → spelled.more_parents ps ts rest
parents_are_more [] ts rest s = absurd s
parents_are_more (p ∷ ps) ts rest s = s

parents_behind : (ps : List ParentT) (ts mid rest : List Token) → the t.Inherit ts mid → spells_parents_from ps mid rest → spelled.spells_parents ps ts rest
parents_behind [] ts mid rest c s = absurd s
parents_behind (p ∷ ps) ts mid rest c s = (mid, c, s)

module _ (M : Meanings) (lead : Leads M) where
  -- one clause is read, and the others behind it
  clause_read : (c : Clause) (p p' q : ParentT) (ts mid rest : List Token) → Differs p p' c → clause_length p c ≡ 0 → clause_length p' c ≢ 0
      → spells_clause p' c ts mid → M (class_goal (Goals.more_clauses p')) q mid rest → ClassMeans (Goals.clauses p) q ts rest
  clause_read c p p' q ts mid rest differs empty some s m =
      let behind = lead.classes m in
      let stays = behind.1.kept c some in (
        c,
        behind.0,
        fills_first p p' q c behind.0 differs empty some behind.1,
        (behind.2.0, (mid, same_spelling p' q c stays.1 ts mid s, behind.2.1), behind.2.2),
      )

  clause_from : (c : Clause) (p q : ParentT) (ts more rest : List Token) → clause_length p c ≡ 0 → the (clause_terminal c) ts more
      → Means M (clause_by p c) q more rest → ClassMeans (Goals.clauses p) q ts rest
  clause_from rename_clause p q ts more rest empty word (xs, m1, mx, (q', m2, m, (it, end))) =
      let s = lead.classes mx in
      moved (Goals.clauses p) ts it end (clause_read rename_clause p (record p { renames = xs }) q' ts m1 m2 (with_renames p xs) empty (renames_some xs more m1 s) (more, word, s) m)
  clause_from export_clause p q ts more rest empty word (xs, m1, mx, (q', m2, m, (it, end))) =
      let s = lead.classes mx in
      moved (Goals.clauses p) ts it end (clause_read export_clause p (record p { exports = xs }) q' ts m1 m2 (with_exports p xs) empty (exports_some xs more m1 s) (more, word, s) m)
  clause_from undefine_clause p q ts more rest empty word (xs, m1, mx, (q', m2, m, (it, end))) =
      let s = lead.classes mx in
      moved (Goals.clauses p) ts it end (clause_read undefine_clause p (record p { undefines = xs }) q' ts m1 m2 (with_undefines p xs) empty (names_some xs more m1 s) (more, word, s) m)
  clause_from redefine_clause p q ts more rest empty word (xs, m1, mx, (q', m2, m, (it, end))) =
      let s = lead.classes mx in
      moved (Goals.clauses p) ts it end (clause_read redefine_clause p (record p { redefines = xs }) q' ts m1 m2 (with_redefines p xs) empty (names_some xs more m1 s) (more, word, s) m)
  clause_from select_clause p q ts more rest empty word (xs, m1, mx, (q', m2, m, (it, end))) =
      let s = lead.classes mx in
      moved (Goals.clauses p) ts it end (clause_read select_clause p (record p { selects = xs }) q' ts m1 m2 (with_selects p xs) empty (names_some xs more m1 s) (more, word, s) m)

  clauses_from : (p q : ParentT) (ts rest : List Token) (c : Option Clause) → clause_start (head ts) ≡ c → Means M (clauses_by p c) q ts rest → ClassMeans (Goals.clauses p) q ts rest
  clauses_from p q ts rest None e m = absurd m
  clauses_from p q ts rest (Some c) e (empty, (n, more, eq, m)) =
      clause_from c p q ts more rest (grind (arith, nat_tests, empty)) (the_here (seen (starts_clause (head ts) c e) eq)) m

  pub form_clauses : (p q : ParentT) (ts rest : List Token) → Means M (class_rule (Goals.clauses p)) q ts rest → ClassMeans (Goals.clauses p) q ts rest
  form_clauses p q ts rest (x, found, m) = clauses_from p q ts rest (clause_start x) (ap clause_start found) m

  pub form_more_clauses : (p q : ParentT) (ts rest : List Token) → Means M (class_rule (Goals.more_clauses p)) q ts rest → ClassMeans (Goals.more_clauses p) q ts rest
  form_more_clauses p q ts rest (x, found, inl (begins, (q', m1, m, (it, end)))) =
      let all = lead.classes m in
      rw (← it, ← end) (all.0 ∷ all.1, all.2, all.3)
  form_more_clauses p q ts rest (x, found, inr (other, (e, m1, me, (it, end)))) = rw (← it, ← end) ([], fills_none p, (ts, refl, the_here (lead.tokens me)))

  pub form_parent : (p : ParentT) (ts rest : List Token) → Means M (class_rule Goals.parent) p ts rest → ClassMeans Goals.parent p ts rest
  form_parent p ts rest (ty, m1, mt, (x, found, inl (begins, (q, m2, mq, (it, end))))) =
      let typed = lead.types mt (omega arith) in
      let all = lead.classes mq in
      let order = all.0 ∷ all.1 in
      let same : ty ≡ q.parent = all.2.same_type in
      rw (← it, ← end) (
        (m1, subst (λ y. spells_class_type y ts m1) same typed.0, (order, whole_fills (unchanged ty) q order (unchanged_empty ty) all.2, all.3)),
        subst (λ y. type_height y ≤ most_height) same typed.1,
      )
  form_parent p ts rest (ty, m1, mt, (x, found, inr (other, (it, end)))) =
      let typed = lead.types mt (omega arith) in
      rw (← it, ← end) ((m1, typed.0, ([], whole_fills (unchanged ty) (unchanged ty) [] (unchanged_empty ty) (fills_none (unchanged ty)), (ap begins_clause found ∙ other, refl))), typed.1)

  from_parents : (ps : List ParentT) (ts rest : List Token) → Means M parents_from ps ts rest → low (highest parent_height ps) (spells_parents_from ps) ts rest
  from_parents ps ts rest (p, m1, mp, (s, m2, ms, (more, m3, mm, (it, end)))) =
      let first = lead.classes mp in
      let others = lead.classes mm in
      rw (← it, ← end) ((m1, first.0, (m2, lead.instructions ms, others.0)), both_low first.1 others.1)

  pub form_parents : (ps : List ParentT) (ts rest : List Token) → Means M (class_rule Goals.parents) ps ts rest → ClassMeans Goals.parents ps ts rest
  form_parents ps ts rest (y, found, inl (same, (n, more, eq, m))) =
      let all = from_parents ps more rest m in
      (parents_behind ps ts more rest (took t.Inherit found same eq) all.0, all.1)
  form_parents ps ts rest (y, found, inr (other, (it, end))) = rw (← it, ← end) ((not_there t.Inherit found other, refl), omega arith)

  pub form_more_parents : (ps : List ParentT) (ts rest : List Token) → Means M (class_rule Goals.more_parents) ps ts rest → ClassMeans Goals.more_parents ps ts rest
  form_more_parents ps ts rest (y, found, inl (same, m)) =
      let all = from_parents ps ts rest m in
      (parents_are_more ps ts rest all.0, all.1)
  form_more_parents ps ts rest (y, found, inr (other, (it, end))) = rw (← it, ← end) ((not_there t.Identifier found other, refl), omega arith)
