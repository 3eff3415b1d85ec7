-- A search for paths as long as there are bodies finds the paths of any length.
use Rattle.std.proofs.Common.{◌≡◌, ℕ, zero, suc, ◌<◌, ◌≤◌, Bool, true, ◌⊎◌, inl, inr, List, [], ◌∷◌, length, refl, ap, ◌∙◌, arith}
use Rattle.std.specs.Prelude.{◌||◌}
use Rattle.std.specs.List.{list_any}
use Rattle.std.proofs.lemmas.Bool.{or_cases, or_left, or_right}
use Rattle.eif_classes.specs.Entries.{Declaration}
use Rattle.eif_flow_rules.specs.CallPaths.{same_body, IsOneOf, Leads, call, further, leads_within, IsClosed}
use Rattle.eif_flow_rules.specs.FlowTrees.{Flow, callees}
use Rattle.eif_flow_rules.specs.SummaryLaws.{PathLaws}
use Rattle.eif_flow_rules_laws.proofs.Counting.{count, count_most, same_or_more}

any_more : (p q : Declaration → Bool) (xs : List Declaration) → ((x : Declaration) → p x ≡ true → q x ≡ true)
    → list_any p xs ≡ true → list_any q xs ≡ true
any_more p q [] h e = e
any_more p q (x ∷ xs) h e =
    elim (or_cases (p x) (list_any p xs) e) [
      | inl l ↦ or_left (q x) (list_any q xs) (h x l)
      | inr r ↦ or_right (q x) (list_any q xs) (any_more p q xs h r)
    ]

any_same : (p q : Declaration → Bool) (xs : List Declaration) → ((x : Declaration) → IsOneOf xs x → p x ≡ q x)
    → list_any p xs ≡ list_any q xs
any_same p q [] h = refl
any_same p q (x ∷ xs) h =
    ap (λ b. b || list_any p xs) (h x (inl refl)) ∙ ap (λ b. q x || b) (any_same p q xs (λ y m. h y (inr m)))

any_from : (p : Declaration → Bool) (xs : List Declaration) (x : Declaration) → IsOneOf xs x → p x ≡ true
    → list_any p xs ≡ true
any_from p [] x m e = absurd m
any_from p (y ∷ ys) x m e =
    elim m [
      | inl r ↦ or_left (p y) (list_any p ys) (ap p r ∙ e)
      | inr m ↦ or_right (p y) (list_any p ys) (any_from p ys x m e)
    ]

-- one of the list passes
any_one : (p : Declaration → Bool) (xs : List Declaration) → list_any p xs ≡ true
    → (x : Declaration) × IsOneOf xs x × (p x ≡ true)
any_one p [] e = cc
any_one p (x ∷ xs) e =
    elim (or_cases (p x) (list_any p xs) e) [
      | inl l ↦ (x, inl refl, l)
      | inr r ↦ (let s = any_one p xs r in (s.0, inr s.1, s.2))
    ]

module _ (flow : Declaration → Flow) where
  pub path_within : (n : ℕ) (x y : Declaration) → leads_within flow n x y ≡ true → Leads flow x y
  path_within zero x y h = cc
  path_within (suc n) x y h =
      let s = any_one (λ z. same_body z y || leads_within flow n z y) (callees (flow x)) h in
      elim (or_cases (same_body s.0 y) (leads_within flow n s.0 y) s.2) [
        | inl l ↦ call x s.0 y s.1 l
        | inr r ↦ further x s.0 y s.1 (path_within n s.0 y r)
      ]

  module _ (bodies : List Declaration) (closed : IsClosed flow bodies) where
    module _ (y : Declaration) where
      abbrev led : ℕ → Declaration → Bool
      led k x = leads_within flow k x y

      -- it is the body y, or leads to it
      abbrev reaches : ℕ → Declaration → Bool
      reaches k z = same_body z y || led k z

      -- one call more changes nothing
      abbrev IsSettled : ℕ → Type 0
      IsSettled k = (x : Declaration) → IsOneOf bodies x → led k x ≡ led (suc k) x

      grows : (k : ℕ) (x : Declaration) → led k x ≡ true → led (suc k) x ≡ true
      grows zero x h = cc
      grows (suc k) x h =
          any_more (reaches k) (reaches (suc k)) (callees (flow x)) (λ z e.
          elim (or_cases (same_body z y) (led k z) e) [
            | inl l ↦ or_left (same_body z y) (led (suc k) z) l
            | inr r ↦ or_right (same_body z y) (led (suc k) z) (grows k z r)
          ]) h

      stays : (k : ℕ) → IsSettled k → IsSettled (suc k)
      stays k h x m = any_same (reaches k) (reaches (suc k)) (callees (flow x)) same
        where
          same : (z : Declaration) → IsOneOf (callees (flow x)) z → reaches k z ≡ reaches (suc k) z
          same z c = ap (λ b. same_body z y || b) (h z (closed x z m c))

      more : (k : ℕ) → IsSettled k ⊎ (count bodies (led k) < count bodies (led (suc k)))
      more k = same_or_more bodies (led k) (led (suc k)) (grows k)

      progress : (k : ℕ) → IsSettled k ⊎ (k ≤ count bodies (led k))
      progress zero = inr (omega arith)
      progress (suc k) =
          elim (progress k) [
            | inl s ↦ inl (stays k s)
            | inr l ↦ elim (more k) [ inl s ↦ inl (stays k s) | inr m ↦ inr (omega arith) ]
          ]

      settled : IsSettled (length bodies)
      settled =
          elim (progress (length bodies)) [
            | inl s ↦ s
            | inr l ↦ elim (more (length bodies)) [
              | inl s ↦ s
              | inr m ↦ (let k = count_most bodies (led (suc (length bodies))) in absurd (omega arith))
            ]
          ]

    abbrev pub found : Declaration → Declaration → Bool
    found x y = leads_within flow (length bodies) x y

    pub leads_call : (x z y : Declaration) → IsOneOf bodies x → IsOneOf (callees (flow x)) z
        → (same_body z y || found z y) ≡ true → found x y ≡ true
    leads_call x z y m c e = settled y x m ∙ any_from (λ z. same_body z y || found z y) (callees (flow x)) z c e

    pub by_path : (x y : Declaration) → IsOneOf bodies x → Leads flow x y → found x y ≡ true
    by_path _ _ m (call x z y c e) = leads_call x z y m c (or_left (same_body z y) (found z y) e)
    by_path _ _ m (further x z y c p) =
        leads_call x z y m c (or_right (same_body z y) (found z y) (by_path z y (closed x z m c) p))

    pub path_laws : PathLaws flow bodies
    path_laws = record { by_path = by_path; has_path = path_within (length bodies) }
