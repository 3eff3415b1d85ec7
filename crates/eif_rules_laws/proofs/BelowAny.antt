-- The ancestors of a class d whose only parent is the class 0, ANY, which has none.
use Rattle.std.proofs.Common.{◌≡◌, ◌≢◌, ℕ, zero, suc, Bool, true, false, List, [], ◌∷◌, Some, refl, sym, ap, subst, ◌∙◌, inl, inr, ⊎_elim, arith}
use Rattle.std.specs.Prelude.{slice_get, length, ◌<◌, ◌||◌, ◌==◌, ◌⊎◌}
use Rattle.std.proofs.lemmas.Bool.{eqb-true}
use Rattle.eif_system.specs.Graph.{is_member, parents_of, Climbs, Reaches, IsProperAncestor, IsListOf}

one_member : (p : ℕ) → is_member p (0 ∷ []) ≡ true → 0 ≡ p
one_member p h = go (0 == p) refl h
  where
    go : (b : Bool) → (0 == p) ≡ b → (b || false) ≡ true → 0 ≡ p
    go true e h = eqb-true 0 p e
    go false e h = cc

one_item : (i a : ℕ) → slice_get (0 ∷ []) i ≡ Some a → (i ≡ 0) × (0 ≡ a)
one_item zero a h = (refl, cc)
one_item (suc i) a h = cc

module _ (g : List (List ℕ)) (d : ℕ) (row : parents_of g d ≡ 0 ∷ []) (top : parents_of g 0 ≡ []) where
  up_from_any : (steps : List ℕ) (a : ℕ) → Climbs g 0 steps a → 0 ≡ a
  up_from_any [] a h = h
  up_from_any (p ∷ ps) a h = absurd (let e = subst (λ xs. is_member p xs ≡ true) top h.0 in cc)

  -- the class and ANY are all that it reaches
  pub up_from : (a : ℕ) → Reaches g d a → (d ≡ a) ⊎ (0 ≡ a)
  up_from a ([], h) = inl h
  up_from a (p ∷ ps, h) =
      let e = one_member p (subst (λ xs. is_member p xs ≡ true) row h.0) in
      inr (up_from_any ps a (subst (λ p. Climbs g p ps a) (sym e) h.1))

  pub up_from_number : (k a : ℕ) → Some d ≡ Some k → Reaches g k a → (d ≡ a) ⊎ (0 ≡ a)
  up_from_number k a e h = let same : k ≡ d = cc in up_from a (subst (λ k. Reaches g k a) same h)

  pub one_ancestor : d ≢ 0 → IsListOf (IsProperAncestor g d) (0 ∷ [])
  one_ancestor other = record {
    once = λ i j a h k. let p = (one_item i a h).0 in let q = (one_item j a k).0 in p ∙ sym q;
    only = λ i a h. subst (λ a. IsProperAncestor g d a) (one_item i a h).1
        record { other = other; above = (0 ∷ [], (subst (λ xs. is_member 0 xs ≡ true) (sym row) refl, refl)) };
    each = λ a h. ⊎_elim (λ e. absurd (h.other e)) (λ e. (0, ap Some e)) (up_from a h.above);
  }

  -- each of its proper ancestors is ANY
  pub is_any : (a : ℕ) → IsProperAncestor g d a → 0 ≡ a
  is_any a h = ⊎_elim (λ e. absurd (h.other e)) (λ e. e) (up_from a h.above)

  two_alike : (xs : List ℕ) → IsListOf (IsProperAncestor g d) xs → 1 < length xs → ⊥
  two_alike [] list more = absurd (omega arith)
  two_alike (x ∷ []) list more = absurd (omega arith)
  two_alike (x ∷ y ∷ xs) list more =
      let same : x ≡ y = sym (is_any x (list.only 0 x refl)) ∙ is_any y (list.only 1 y refl) in
      let e : 0 ≡ 1 = list.once 0 1 x refl (ap Some (sym same)) in
      absurd (omega (arith, e))

  -- so it has no more than one
  pub one_alone : (xs : List ℕ) × IsListOf (IsProperAncestor g d) xs × (1 < length xs) → ⊥
  one_alone h = two_alike h.0 h.1 h.2
