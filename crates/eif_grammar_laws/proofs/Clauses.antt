-- The clauses of a parent's adaptation, one after the other.
use Rattle.std.proofs.Common.{◌≡◌, ◌≢◌, true, false, Bool, ℕ, zero, suc, ◌≤◌, ◌==◌, if◌then◌else◌, List, [], ◌∷◌, length, Some, refl, ap, sym, ◌∙◌, subst, arith}
use Rattle.std.proofs.lemmas.Bool.Decides.{nat_tests}
use Rattle.eif_tree.specs.declared.NameAt.{NameAt}
use Rattle.eif_tree.specs.declared.RenamePair.{RenamePair}
use Rattle.eif_tree.specs.Tree.{TypeT, ExportT, ParentT}
use Rattle.eif_grammar.specs.declared.terminal.Terminal.{Terminal}
use Rattle.eif_grammar.specs.declared.terminal.Terminal.TheVariants as t
use Rattle.eif_grammar.specs.SpelledClasses.{Clause, rename_clause, export_clause, undefine_clause, redefine_clause, select_clause, clause_length, same_clause, count_of, IsOrderOf}
use Rattle.eif_grammar.specs.Forms.{begins_clause}
use Rattle.eif_grammar.specs.ClassRules.{unchanged, clause_start}
use Rattle.eif_grammar_laws.proofs.ClassMeanings.{SameClause, Fills}

-- ---- which clause begins

abbrev pub clause_terminal : Clause → Terminal
clause_terminal rename_clause = t.Rename
clause_terminal export_clause = t.Export
clause_terminal undefine_clause = t.Undefine
clause_terminal redefine_clause = t.Redefine
clause_terminal select_clause = t.Select

pub starts_clause : (x : Terminal) (c : Clause) → clause_start x ≡ Some c → x ≡ clause_terminal c
starts_clause t.Rename c e = let same : rename_clause ≡ c = cc in ap clause_terminal same
starts_clause t.Export c e = let same : export_clause ≡ c = cc in ap clause_terminal same
starts_clause t.Undefine c e = let same : undefine_clause ≡ c = cc in ap clause_terminal same
starts_clause t.Redefine c e = let same : redefine_clause ≡ c = cc in ap clause_terminal same
starts_clause t.Select c e = let same : select_clause ≡ c = cc in ap clause_terminal same
starts_clause _ c e = cc

pub clause_started : (c : Clause) → clause_start (clause_terminal c) ≡ Some c
clause_started rename_clause = refl
clause_started export_clause = refl
clause_started undefine_clause = refl
clause_started redefine_clause = refl
clause_started select_clause = refl

pub clause_begins : (c : Clause) → begins_clause (clause_terminal c) ≡ true
clause_begins rename_clause = refl
clause_begins export_clause = refl
clause_begins undefine_clause = refl
clause_begins redefine_clause = refl
clause_begins select_clause = refl

-- ---- kinds of clauses

pub same_is : (c d : Clause) → same_clause c d ≡ true → c ≡ d
same_is rename_clause rename_clause e = refl
same_is export_clause export_clause e = refl
same_is undefine_clause undefine_clause e = refl
same_is redefine_clause redefine_clause e = refl
same_is select_clause select_clause e = refl
same_is _ _ e = cc

pub same_self : (c : Clause) → same_clause c c ≡ true
same_self rename_clause = refl
same_self export_clause = refl
same_self undefine_clause = refl
same_self redefine_clause = refl
same_self select_clause = refl

pub same_length : (p q : ParentT) (c : Clause) → SameClause p q c → clause_length p c ≡ clause_length q c
same_length p q rename_clause e = ap length e
same_length p q export_clause e = ap length e
same_length p q undefine_clause e = ap length e
same_length p q redefine_clause e = ap length e
same_length p q select_clause e = ap length e

pub same_back : (p q : ParentT) (c : Clause) → SameClause p q c → SameClause q p c
same_back p q rename_clause e = sym e
same_back p q export_clause e = sym e
same_back p q undefine_clause e = sym e
same_back p q redefine_clause e = sym e
same_back p q select_clause e = sym e

pub same_through : (p q r : ParentT) (c : Clause) → SameClause p q c → SameClause q r c → SameClause p r c
same_through p q r rename_clause e f = e ∙ f
same_through p q r export_clause e f = e ∙ f
same_through p q r undefine_clause e f = e ∙ f
same_through p q r redefine_clause e f = e ∙ f
same_through p q r select_clause e f = e ∙ f

both_empty : {A : Type 0} (xs ys : List A) → length xs ≡ 0 → length ys ≡ 0 → xs ≡ ys
both_empty [] [] e f = refl
both_empty (x ∷ xs) ys e f = cc
both_empty xs (y ∷ ys) e f = cc

pub empty_same : (p q : ParentT) (c : Clause) → clause_length p c ≡ 0 → clause_length q c ≡ 0 → SameClause p q c
empty_same p q rename_clause e f = both_empty p.renames q.renames e f
empty_same p q export_clause e f = both_empty p.exports q.exports e f
empty_same p q undefine_clause e f = both_empty p.undefines q.undefines e f
empty_same p q redefine_clause e f = both_empty p.redefines q.redefines e f
empty_same p q select_clause e f = both_empty p.selects q.selects e f

pub same_parents : (p q : ParentT) → p.parent ≡ q.parent → ((c : Clause) → SameClause p q c) → p ≡ q
same_parents p q e same = rw (same rename_clause, same export_clause, same undefine_clause, same redefine_clause, same select_clause, e) refl

-- ---- one parent differs from another in one clause at most

pub record Differs (p q : ParentT) (c : Clause) : Type 0 where
  pub same_type : p.parent ≡ q.parent
  pub others : (d : Clause) → same_clause d c ≡ false → SameClause p q d

pub with_renames : (p : ParentT) (xs : List RenamePair) → Differs p (record p { renames = xs }) rename_clause
with_renames p xs = record { same_type = refl; others = others }
  where
    others : (d : Clause) → same_clause d rename_clause ≡ false → SameClause p (record p { renames = xs }) d
    others rename_clause e = cc
    others export_clause e = refl
    others undefine_clause e = refl
    others redefine_clause e = refl
    others select_clause e = refl

pub with_exports : (p : ParentT) (xs : List ExportT) → Differs p (record p { exports = xs }) export_clause
with_exports p xs = record { same_type = refl; others = others }
  where
    others : (d : Clause) → same_clause d export_clause ≡ false → SameClause p (record p { exports = xs }) d
    others export_clause e = cc
    others rename_clause e = refl
    others undefine_clause e = refl
    others redefine_clause e = refl
    others select_clause e = refl

pub with_undefines : (p : ParentT) (xs : List NameAt) → Differs p (record p { undefines = xs }) undefine_clause
with_undefines p xs = record { same_type = refl; others = others }
  where
    others : (d : Clause) → same_clause d undefine_clause ≡ false → SameClause p (record p { undefines = xs }) d
    others undefine_clause e = cc
    others rename_clause e = refl
    others export_clause e = refl
    others redefine_clause e = refl
    others select_clause e = refl

pub with_redefines : (p : ParentT) (xs : List NameAt) → Differs p (record p { redefines = xs }) redefine_clause
with_redefines p xs = record { same_type = refl; others = others }
  where
    others : (d : Clause) → same_clause d redefine_clause ≡ false → SameClause p (record p { redefines = xs }) d
    others redefine_clause e = cc
    others rename_clause e = refl
    others export_clause e = refl
    others undefine_clause e = refl
    others select_clause e = refl

pub with_selects : (p : ParentT) (xs : List NameAt) → Differs p (record p { selects = xs }) select_clause
with_selects p xs = record { same_type = refl; others = others }
  where
    others : (d : Clause) → same_clause d select_clause ≡ false → SameClause p (record p { selects = xs }) d
    others select_clause e = cc
    others rename_clause e = refl
    others export_clause e = refl
    others undefine_clause e = refl
    others redefine_clause e = refl

-- ---- what an order fills in

-- how often a clause stands that says something, or nothing
abbrev pub times : ℕ → ℕ
times n = if n == 0 then 0 else 1

pub times_none : (n : ℕ) → times n ≡ 0 → n ≡ 0
times_none zero e = refl
times_none (suc n) e = grind (arith, nat_tests)

pub times_some : (n : ℕ) → n ≢ 0 → times n ≡ 1
times_some zero h = absurd (h refl)
times_some (suc n) h = grind (arith, nat_tests)

pub times_at_most : (n : ℕ) → times n ≤ 1
times_at_most zero = grind (arith, nat_tests)
times_at_most (suc n) = grind (arith, nat_tests)

pub once_only : (n m : ℕ) → suc n ≡ times m → (n ≡ 0) × (m ≢ 0)
once_only n zero e = cc
once_only n (suc m) e = (omega (arith, e ∙ times_some (suc m) (λ z. cc)), λ z. cc)

pub counted : (c d : Clause) (ds : List Clause) → same_clause c d ≡ true → count_of c (d ∷ ds) ≡ suc (count_of c ds)
counted c d ds e = rw e refl

pub not_counted : (c d : Clause) (ds : List Clause) → same_clause c d ≡ false → count_of c (d ∷ ds) ≡ count_of c ds
not_counted c d ds e = rw e refl

-- nothing is left to fill in
pub filled_by_none : (p q : ParentT) → Fills p q [] → p ≡ q
filled_by_none p q f = same_parents p q f.same_type (λ c. by_length c (clause_length p c) refl)
  where
    by_length : (c : Clause) (n : ℕ) → clause_length p c ≡ n → SameClause p q c
    by_length c zero e = empty_same p q c e (times_none (clause_length q c) (sym (f.once c e)))
    by_length c (suc n) e = (f.kept c (λ z. cc)).1

pub fills_none : (p : ParentT) → Fills p p []
fills_none p = record {
  same_type = refl;
  once = λ c e. rw e refl;
  kept = λ c some. (refl, same_back p p c (all_same c));
}
  where
    all_same : (c : Clause) → SameClause p p c
    all_same rename_clause = refl
    all_same export_clause = refl
    all_same undefine_clause = refl
    all_same redefine_clause = refl
    all_same select_clause = refl

-- one clause first, that said nothing and says something, and then the others
pub fills_first : (p p' q : ParentT) (c : Clause) (order : List Clause) → Differs p p' c → clause_length p c ≡ 0 → clause_length p' c ≢ 0
    → Fills p' q order → Fills p q (c ∷ order)
fills_first p p' q c order differs none some f = record {
  same_type = differs.same_type ∙ f.same_type;
  once = λ d e. once d e (same_clause d c) refl;
  kept = λ d h. kept d h (same_clause d c) refl;
}
  where
    once : (d : Clause) → clause_length p d ≡ 0 → (b : Bool) → same_clause d c ≡ b → count_of d (c ∷ order) ≡ times (clause_length q d)
    once d e true s =
        let is_c : d ≡ c = same_is d c s in
        let stays = f.kept d (subst (λ x. clause_length p' x ≢ 0) (sym is_c) some) in
        let long : clause_length q d ≢ 0 = λ z. some (ap (clause_length p') (sym is_c) ∙ same_length p' q d stays.1 ∙ z) in
        counted d c order s ∙ ap (λ n. suc n) stays.0 ∙ sym (times_some (clause_length q d) long)
    once d e false s = not_counted d c order s ∙ f.once d (sym (same_length p p' d (differs.others d s)) ∙ e)

    kept : (d : Clause) → clause_length p d ≢ 0 → (b : Bool) → same_clause d c ≡ b → (count_of d (c ∷ order) ≡ 0) × SameClause p q d
    kept d h true s = absurd (h (ap (clause_length p) (same_is d c s) ∙ none))
    kept d h false s =
        let same = differs.others d s in
        let stays = f.kept d (λ z. h (same_length p p' d same ∙ z)) in
        (not_counted d c order s ∙ stays.0, same_through p p' q d same stays.1)

-- The same the other way: with the first clause of the order filled in, the others are left.
pub fills_rest : (p p' q : ParentT) (c : Clause) (order : List Clause) → Differs p p' c → SameClause p' q c → Fills p q (c ∷ order)
    → (clause_length p c ≡ 0) × Fills p' q order
fills_rest p p' q c order differs says f = (
  none,
  record {
    same_type = sym differs.same_type ∙ f.same_type;
    once = λ d e. once d e (same_clause d c) refl;
    kept = λ d h. kept d h (same_clause d c) refl;
  },
)
  where
    empty : (n : ℕ) → clause_length p c ≡ n → clause_length p c ≡ 0
    empty zero e = e
    empty (suc n) e = let never = (f.kept c (λ z. cc)).0 in let one = counted c c order (same_self c) in cc

    none : clause_length p c ≡ 0
    none = empty (clause_length p c) refl

    here : (count_of c order ≡ 0) × (clause_length q c ≢ 0)
    here = once_only (count_of c order) (clause_length q c) (sym (counted c c order (same_self c)) ∙ f.once c none)

    once : (d : Clause) → clause_length p' d ≡ 0 → (b : Bool) → same_clause d c ≡ b → count_of d order ≡ times (clause_length q d)
    once d e true s = let is_c : c ≡ d = sym (same_is d c s) in absurd (here.1 (sym (same_length p' q c says) ∙ ap (clause_length p') is_c ∙ e))
    once d e false s = sym (not_counted d c order s) ∙ f.once d (same_length p p' d (differs.others d s) ∙ e)

    kept : (d : Clause) → clause_length p' d ≢ 0 → (b : Bool) → same_clause d c ≡ b → (count_of d order ≡ 0) × SameClause p' q d
    kept d h true s = let is_c : c ≡ d = sym (same_is d c s) in subst (λ x. (count_of x order ≡ 0) × SameClause p' q x) is_c (here.0, says)
    kept d h false s =
        let same = differs.others d s in
        let stays = f.kept d (λ z. h (sym (same_length p p' d same) ∙ z)) in
        (sym (not_counted d c order s) ∙ stays.0, same_through p' p q d (same_back p p' d same) stays.1)

-- an order of a whole parent
pub fills_whole : (p q : ParentT) (order : List Clause) → ((c : Clause) → clause_length p c ≡ 0) → p.parent ≡ q.parent → IsOrderOf q order → Fills p q order
fills_whole p q order empty same_type is_order = record { same_type = same_type; once = λ c e. is_order c; kept = λ c h. absurd (h (empty c)) }

pub whole_fills : (p q : ParentT) (order : List Clause) → ((c : Clause) → clause_length p c ≡ 0) → Fills p q order → IsOrderOf q order
whole_fills p q order empty f c = f.once c (empty c)

pub unchanged_empty : (ty : TypeT) (c : Clause) → clause_length (unchanged ty) c ≡ 0
unchanged_empty ty rename_clause = refl
unchanged_empty ty export_clause = refl
unchanged_empty ty undefine_clause = refl
unchanged_empty ty redefine_clause = refl
unchanged_empty ty select_clause = refl
