-- Lists in order of the same faults are one list.
use Rattle.std.proofs.Common.{◌≡◌, ℕ, zero, suc, List, [], ◌∷◌, refl, sym, ap, ◌∙◌}
use Rattle.std.specs.declared.cmp.Ordering.TheVariants.{Less}
use Rattle.std.specs.Ordering.{ordering_reverse}
use Rattle.std.proofs.lemmas.Option.{same_Some}
use Rattle.eif_base.specs.Appends.{In}
use Rattle.eif_base.specs.declared.Fault.{Fault}
use Rattle.eif_report.specs.Order.{fault_cmp, IsInOrder, Lists}
use Rattle.eif_report.specs.OneReport.{OneReport}
use Rattle.eif_report.specs.Report.{faults_text}
use Rattle.eif_report.proofs.Total.{fault_cmp_total}

in_none : (f : Fault) → In [] f → ⊥
in_none f (i, e) = cc

module _ (names : List (List ℕ)) where
  in_order_rest : (x : Fault) (xs : List Fault) → IsInOrder names (x ∷ xs) → IsInOrder names xs
  in_order_rest x [] h = tt
  in_order_rest x (y ∷ ys) h = h.1

  -- the first fault of a list in order comes before the others
  before_rest : (x : Fault) (xs : List Fault) → IsInOrder names (x ∷ xs) → (f : Fault) → In xs f →
      fault_cmp names x f ≡ Less
  before_rest x [] h f p = absurd (in_none f p)
  before_rest x (y ∷ ys) h f (zero, e) = let s : y ≡ f = same_Some y f e in rw (← s) h.0
  before_rest x (y ∷ ys) h f (suc i, e) =
      (fault_cmp_total names).trans x y f h.0 (before_rest y ys h.1 f (i, e))

  not_both : (x y : Fault) → fault_cmp names x y ≡ Less → fault_cmp names y x ≡ Less → ⊥
  not_both x y a b =
      let t : Less ≡ ordering_reverse Less =
      sym a ∙ (fault_cmp_total names).antisymm x y ∙ ap ordering_reverse b in
      cc (t)

  -- two lists in order that have each other's first fault begin alike
  same_first : (x : Fault) (xs : List Fault) (y : Fault) (ys : List Fault) →
      IsInOrder names (x ∷ xs) → IsInOrder names (y ∷ ys) → In (y ∷ ys) x → In (x ∷ xs) y → x ≡ y
  same_first x xs y ys a b (zero, e) q = sym (same_Some y x e)
  same_first x xs y ys a b (suc i, e) (zero, d) = same_Some x y d
  same_first x xs y ys a b (suc i, e) (suc j, d) =
      absurd (not_both x y (before_rest x xs a y (j, d)) (before_rest y ys b x (i, e)))

  -- a later fault of a list in order is a later one of each list that has it and begins alike
  later : (x : Fault) (xs ys : List Fault) → IsInOrder names (x ∷ xs) → (f : Fault) → In xs f → In (x ∷ ys) f → In ys f
  later x xs ys a f p (suc i, e) = (i, e)
  later x xs ys a f p (zero, e) =
      let s : x ≡ f = same_Some x f e in
      let before : fault_cmp names x x ≡ Less = before_rest x xs a x (rw s p) in
      absurd (not_both x x before before)

  same_list : (a b : List Fault) → IsInOrder names a → IsInOrder names b →
      ((f : Fault) → In a f → In b f) → ((f : Fault) → In b f → In a f) → a ≡ b
  same_list [] [] a b ab ba = refl
  same_list [] (y ∷ ys) a b ab ba = absurd (in_none y (ba y (zero, refl)))
  same_list (x ∷ xs) [] a b ab ba = absurd (in_none x (ab x (zero, refl)))
  same_list (x ∷ xs) (y ∷ ys) a b ab ba =
      let first : x ≡ y = same_first x xs y ys a b (ab x (zero, refl)) (ba y (zero, refl)) in
      let rest = same_list xs ys (in_order_rest x xs a) (in_order_rest y ys b)
      (λ f p. later x xs ys a f p (rw first (ab f (suc p.0, p.1))))
      (λ f p. later y ys xs b f p (rw (← first) (ba f (suc p.0, p.1)))) in
      cc (first, rest)

  pub Lists-one : (broken : Fault → Type 0) (a b : List Fault) → Lists names a broken → Lists names b broken → a ≡ b
  Lists-one broken a b m n =
      same_list a b m.in_order n.in_order (λ f p. n.each f (m.only f p)) (λ f p. m.each f (n.only f p))

pub one_report : OneReport
one_report form names faults a b m n = ap (faults_text form names) (Lists-one names (In faults) a b m n)
