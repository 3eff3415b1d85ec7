-- Where a code is put into a list of codes.
use Rattle.std.proofs.Common.{◌≡◌, ◌≢◌, ℕ, zero, suc, ◌<◌, ◌≤◌, Bool, true, false, cond, nat_lt, List, [], ◌∷◌, ◌++◌, length, take, drop, get_or, Some, None, position, refl, sym, ap, ◌∙◌, arith, drop-cons}
use Rattle.std.specs.declared.cmp.Ordering.{Ordering}
use Rattle.std.specs.declared.cmp.Ordering.TheVariants.{Less, Equal, Greater}
use Rattle.std.specs.Ordering.{nat_cmp, is_le}
use Rattle.std.specs.Cmp.Lexicographic.{slice_cmp}
use Rattle.std.specs.List.{insert, position_or_len}
use Rattle.std.proofs.lemmas.Bool.Decides.{nat_tests}
use Rattle.std.proofs.lemmas.Cmp.{nat_list_cmp_total, tied_itself}
use Rattle.std.proofs.lemmas.List.{take-append-drop}
use Rattle.std.proofs.lemmas.List.Quantifiers.{position-Some}
use Rattle.std.proofs.lemmas.List.Sums.{fails_before_first}
use Rattle.std.proofs.Math.Seq.{take-length, drop-length}
use Rattle.eif_base.specs.declared.Code.{Code}
use Rattle.eif_base.specs.Codes.{code_text}
use Rattle.eif_report.specs.Report.{put_by, put_code}
use Rattle.eif_report.proofs.CodeTexts.{code_text-one}
use Rattle.eif_report.proofs.Total.{slice_cmp_equal}

put_by-behind : (o : Ordering) (c d : Code) (ds rest : List Code) → is_le o ≡ false → put_by o c d ds rest ≡ d ∷ rest
put_by-behind Less c d ds rest e = absurd (cc)
put_by-behind Equal c d ds rest e = absurd (cc)
put_by-behind Greater c d ds rest e = refl

put_by-before : (o : Ordering) (c d : Code) (ds rest : List Code) → is_le o ≡ true → o ≢ Equal →
    put_by o c d ds rest ≡ c ∷ d ∷ ds
put_by-before Less c d ds rest e n = refl
put_by-before Equal c d ds rest e n = absurd (n refl)
put_by-before Greater c d ds rest e n = absurd (cc)

none_past : (n m : ℕ) → cond (nat_lt n m) (Some n) None ≡ None → m ≤ n
none_past n m e = grind (arith, nat_tests)

drop-first : (d : Code) (ds : List Code) (i : ℕ) → i < length ds → d ≡ get_or ds i d → drop i ds ≡ d ∷ drop (suc i) ds
drop-first d ds i within is = drop-cons ds i d within ∙ ap (λ x. x ∷ drop (suc i) ds) (sym is)

module _ (c : Code) where
  abbrev code_cmp : Code → Ordering
  code_cmp d = slice_cmp nat_cmp (code_text c) (code_text d)

  abbrev is_no_greater : Code → Bool
  is_no_greater d = is_le (code_cmp d)

  -- a code is put behind those that it is greater than
  put_code-behind : (ds : List Code) (i : ℕ) → i ≤ length ds →
      ((k : ℕ) (d : Code) → k < i → is_no_greater (get_or ds k d) ≡ false) →
      put_code c ds ≡ take i ds ++ put_code c (drop i ds)
  put_code-behind ds zero low h = refl
  put_code-behind [] (suc i) low h = refl
  put_code-behind (d ∷ ds) (suc i) low h =
      put_by-behind (code_cmp d) c d ds (put_code c ds) (h 0 d (omega arith))
      ∙ ap (λ r. d ∷ r) (put_code-behind ds i (omega arith) (λ k e l. h (suc k) e (omega arith)))

  pub put_code-last : (ds : List Code) → position is_no_greater ds ≡ None → put_code c ds ≡ ds ++ c ∷ []
  put_code-last ds e =
      let past : length ds ≤ position_or_len is_no_greater ds = none_past _ _ e in
      put_code-behind ds (length ds) (omega arith) (λ k d l. fails_before_first is_no_greater ds k d (omega arith))
      ∙ rw (take-length ds, drop-length ds)

  -- d is the first that is no less
  module _ (d : Code) (ds : List Code) (i : ℕ)
      (first : position is_no_greater ds ≡ Some i) (is : d ≡ get_or ds i d) where
    within : i < length ds
    within = (position-Some is_no_greater ds i d first).0

    put_code-first : put_code c ds ≡ take i ds ++ put_code c (d ∷ drop (suc i) ds)
    put_code-first =
        put_code-behind ds i (omega (arith, within)) (λ k x l. (position-Some is_no_greater ds i x first).2 k l)
        ∙ ap (λ r. take i ds ++ put_code c r) (drop-first d ds i within is)

    pub put_code-held : c ≡ d → put_code c ds ≡ ds
    put_code-held same =
        let tied : code_cmp d ≡ Equal = rw same (tied_itself nat_list_cmp_total (code_text d)) in
        put_code-first
        ∙ rw tied (ap (λ r. take i ds ++ r) (sym (drop-first d ds i within is)))
        ∙ take-append-drop i ds

    pub put_code-insert : d ≢ c → put_code c ds ≡ insert ds i c
    put_code-insert other =
        let before : is_no_greater d ≡ true = ap is_no_greater is ∙ (position-Some is_no_greater ds i d first).1 in
        let apart : code_cmp d ≢ Equal =
        λ t. other (sym (code_text-one c d (slice_cmp_equal (code_text c) (code_text d) t))) in
        let rest = drop (suc i) ds in
        put_code-first
        ∙ ap (λ r. take i ds ++ r) (put_by-before (code_cmp d) c d rest (put_code c rest) before apart)
        ∙ ap (λ r. take i ds ++ c ∷ r) (sym (drop-first d ds i within is))
