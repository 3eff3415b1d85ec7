-- A graph without a cycle has an order: there is always a class left whose parents are in it already.
use Rattle.std.proofs.Common.{◌≡◌, ℕ, zero, suc, ◌+◌, ◌<◌, ◌≤◌, Bool, true, false, eqb, ◌⊎◌, inl, inr, List, [], ◌∷◌, ◌++◌, length, Some, refl, sym, ap, subst, ◌∙◌, ⊎_elim, arith}
use Rattle.std.proofs.lemmas.Bool.{eqb-true, eq-eqb, cases_lt}
use Rattle.std.proofs.lemmas.Cmp.{nat_eq_equiv}
use Rattle.std.proofs.lemmas.Map.Keys.{IsDistinct-push, IsDistinct-from_apart}
use Rattle.std.proofs.lemmas.Map.Steps.{length-le_from_distinct_below}
use Rattle.std.proofs.lemmas.Option.{slice_get_within}
use Rattle.std.specs.List.{IsDistinct}
use Rattle.std.specs.Prelude.{slice_get, ◌==◌}
use Rattle.eif_ancestry.proofs.Climbing.{climb_more}
use Rattle.eif_ancestry.proofs.Members.{or_cases, or_left, or_right, same_member, member_at, place_of, member_one_more, place_kept, place_before, one_place, is_false}
use Rattle.eif_ancestry.proofs.Rows.{length_push}
use Rattle.eif_system.specs.Graph.{is_member, parents_of, Reaches, IsClosed, HasNoCycle, IsOrder}

last_at : (xs : List ℕ) (x i a : ℕ) → length xs ≤ i → slice_get (xs ++ x ∷ []) i ≡ Some a → (i ≡ length xs) × (x ≡ a)
last_at [] x zero a h e = (refl, (let q : x ≡ a = cc in q))
last_at [] x (suc i) a h e = cc
last_at (y ∷ xs) x zero a h e = absurd (omega arith)
last_at (y ∷ xs) x (suc i) a h e = let r = last_at xs x i a (omega arith) e in (ap suc r.0, r.1)

abbrev AllIn : List ℕ → List ℕ → Type 0
AllIn ps xs = (p : ℕ) → is_member p ps ≡ true → is_member p xs ≡ true

abbrev SomeOutside : List ℕ → List ℕ → Type 0
SomeOutside ps xs = (p : ℕ) × (is_member p ps ≡ true) × (is_member p xs ≡ false)

outside : (ps xs : List ℕ) → SomeOutside ps xs ⊎ AllIn ps xs
outside [] xs = inr (λ p m. let z : false ≡ true = m in cc)
outside (q ∷ ps) xs = go (is_member q xs) refl (outside ps xs)
  where
    go : (b : Bool) → is_member q xs ≡ b → SomeOutside ps xs ⊎ AllIn ps xs →
        SomeOutside (q ∷ ps) xs ⊎ AllIn (q ∷ ps) xs
    go false e r = inl (q, or_left (q == q) (is_member q ps) (eq-eqb q q refl), e)
    go true e (inl r) = inl (r.0, or_right (q == r.0) (is_member r.0 ps) r.1, r.2)
    go true e (inr f) = inr (λ p m. or_cases _ (q == p) (is_member p ps) m
        (λ t. subst (λ p. is_member p xs ≡ true) (eqb-true q p t) e)
        (λ n. f p n))

-- a number below k that is not in xs, or none
missing : (xs : List ℕ) (k : ℕ) →
    ((d : ℕ) × (d < k) × (is_member d xs ≡ false)) ⊎ ((d : ℕ) → d < k → is_member d xs ≡ true)
missing xs zero = inr (λ d h. absurd (omega arith))
missing xs (suc k) = go (is_member k xs) refl (missing xs k)
  where
    go : (b : Bool) → is_member k xs ≡ b →
        ((d : ℕ) × (d < k) × (is_member d xs ≡ false)) ⊎ ((d : ℕ) → d < k → is_member d xs ≡ true) →
        ((d : ℕ) × (d < suc k) × (is_member d xs ≡ false)) ⊎ ((d : ℕ) → d < suc k → is_member d xs ≡ true)
    go false e r = inl (k, (let h : k < suc k = omega arith in h), e)
    go true e (inl r) = inl (r.0, (let l = r.1 in let h : r.0 < suc k = omega arith in h), r.2)
    go true e (inr f) = inr (λ d h. ⊎_elim
        (λ (l : d < k). f d l)
        (λ (g : k ≤ d). let q : k ≡ d = omega arith in subst (λ d. is_member d xs ≡ true) q e)
        (cases_lt d k))

-- different numbers below n
pub record AreBelow (n : ℕ) (xs : List ℕ) : Type 0 where
  pub distinct : IsDistinct eqb xs
  pub below : (a : ℕ) → is_member a xs ≡ true → a < n

below_short : (n : ℕ) (xs : List ℕ) → AreBelow n xs → length xs ≤ n
below_short n xs is =
    length-le_from_distinct_below xs n is.distinct (λ q h. is.below q (sym (same_member q xs) ∙ h))

below_more : (n : ℕ) (xs : List ℕ) (d : ℕ) → AreBelow n xs → d < n → is_member d xs ≡ false →
    AreBelow n (xs ++ d ∷ [])
below_more n xs d is lt out = record {
  distinct = IsDistinct-push nat_eq_equiv xs d is.distinct (same_member d xs ∙ out);
  below = λ a m. or_cases _ (is_member a xs) (d == a) (sym (member_one_more xs d a) ∙ m)
      (λ t. is.below a t)
      (λ t. subst (λ a. a < n) (eqb-true d a t) lt);
}

module _ (g : List (List ℕ)) (closed : IsClosed g) (no : HasNoCycle g) where
  -- classes, each after its parents
  record IsPart (xs : List ℕ) : Type 0 where
    pub classes : AreBelow (length g) xs
    pub after : (i d p : ℕ) → slice_get xs i ≡ Some d → is_member p (parents_of g d) ≡ true →
        (j : ℕ) × (j < i) × (slice_get xs j ≡ Some p)

  -- ---- one class more

  -- a class that is left, all of whose parents are there
  record IsNext (xs : List ℕ) : Type 0 where
    pub d : ℕ
    pub class : d < length g
    pub left : is_member d xs ≡ false
    pub ready : AllIn (parents_of g d) xs

  -- from a class that is left up to one whose parents are there; those seen on the way lead to where it stands
  climb : (xs : List ℕ) (b : ℕ) (seen : List ℕ) (d : ℕ) → AreBelow (length g) (seen ++ d ∷ []) →
      ((a : ℕ) → is_member a (seen ++ d ∷ []) ≡ true → Reaches g a d) →
      length g ≤ length seen + b → is_member d xs ≡ false → IsNext xs
  climb xs zero seen d are lead enough left =
      let most = below_short (length g) (seen ++ d ∷ []) are in
      let long = length_push seen d in
      absurd (omega arith)
  climb xs (suc b) seen d are lead enough left = go (outside (parents_of g d) xs) (λ p. climb xs b (seen ++ d ∷ []) p)
    where
      here : is_member d (seen ++ d ∷ []) ≡ true
      here = member_one_more seen d d ∙ or_right (is_member d seen) (d == d) (eq-eqb d d refl)

      go : SomeOutside (parents_of g d) xs ⊎ AllIn (parents_of g d) xs →
          ((p : ℕ) → AreBelow (length g) ((seen ++ d ∷ []) ++ p ∷ []) →
          ((a : ℕ) → is_member a ((seen ++ d ∷ []) ++ p ∷ []) ≡ true → Reaches g a p) →
          length g ≤ length (seen ++ d ∷ []) + b → is_member p xs ≡ false → IsNext xs) → IsNext xs
      go (inr all) further = record { d = d; class = are.below d here; left = left; ready = all }
      go (inl r) further =
          let fresh : is_member r.0 (seen ++ d ∷ []) ≡ false =
          is_false (is_member r.0 (seen ++ d ∷ [])) (λ m. no d r.0 r.1 (lead r.0 m)) in
          let long = length_push seen d in
          further r.0
          (below_more (length g) (seen ++ d ∷ []) r.0 are (closed d r.0 r.1) fresh)
          (λ a m. or_cases _ (is_member a (seen ++ d ∷ [])) (r.0 == a)
          (sym (member_one_more (seen ++ d ∷ []) r.0 a) ∙ m)
          (λ t. let w = lead a t in (w.0 ++ r.0 ∷ [], climb_more g w.0 a d r.0 w.1 r.1))
          (λ t. ([], sym (eqb-true r.0 a t))))
          (omega arith) r.2

  next : (xs : List ℕ) (d : ℕ) → d < length g → is_member d xs ≡ false → IsNext xs
  next xs d h left = climb xs (length g) [] d record {
    distinct = IsDistinct-from_apart eqb (d ∷ []) (λ i j x h k. absurd (omega arith));
    below = λ a m. or_cases _ (d == a) false m (λ t. subst (λ a. a < length g) (eqb-true d a t) h)
        (λ n. let z : false ≡ true = n in cc);
  } (λ a m. or_cases _ (d == a) false m (λ t. ([], sym (eqb-true d a t))) (λ n. let z : false ≡ true = n in cc))
      (omega arith) left

  more : (xs : List ℕ) → IsPart xs → (n : IsNext xs) → IsPart (xs ++ n.d ∷ [])
  more xs is n = record {
    classes = below_more (length g) xs n.d is.classes n.class n.left;
    after = λ i d p at m. ⊎_elim
        (λ (l : i < length xs).
        let j = is.after i d p (place_before xs (n.d ∷ []) i d l at) m in
        (j.0, j.1, place_kept xs (n.d ∷ []) j.0 p j.2))
        (λ (h : length xs ≤ i).
        let e = last_at xs n.d i d h at in
        let j = place_of xs p (n.ready p (subst (λ d. is_member p (parents_of g d) ≡ true) (sym e.1) m)) in
        let l = slice_get_within xs j.0 p j.1 in
        let q = e.0 in
        (j.0, (let z : j.0 < i = omega arith in z), place_kept xs (n.d ∷ []) j.0 p j.1))
        (cases_lt i (length xs));
  }

  -- ---- all classes

  whole : (xs : List ℕ) → IsPart xs → ((d : ℕ) → d < length g → is_member d xs ≡ true) → IsOrder g xs
  whole xs is all = record {
    classes = record {
      once = one_place xs is.classes.distinct;
      only = λ i a e. is.classes.below a (member_at xs i a e);
      each = λ a h. place_of xs a (all a h);
    };
    after = is.after;
  }

  build : (b : ℕ) (xs : List ℕ) → IsPart xs → length g ≤ length xs + b → (order : List ℕ) × IsOrder g order
  build zero xs is enough = go (missing xs (length g))
    where
      go : ((d : ℕ) × (d < length g) × (is_member d xs ≡ false)) ⊎ ((d : ℕ) → d < length g → is_member d xs ≡ true) →
          (order : List ℕ) × IsOrder g order
      go (inr all) = (xs, whole xs is all)
      go (inl r) =
          let n = next xs r.0 r.1 r.2 in
          let most = below_short (length g) (xs ++ n.d ∷ []) (more xs is n).classes in
          let long = length_push xs n.d in
          absurd (omega arith)
  build (suc b) xs is enough = go (missing xs (length g)) (λ n. build b (xs ++ n ∷ []))
    where
      go : ((d : ℕ) × (d < length g) × (is_member d xs ≡ false)) ⊎ ((d : ℕ) → d < length g → is_member d xs ≡ true) →
          ((n : ℕ) → IsPart (xs ++ n ∷ []) → length g ≤ length (xs ++ n ∷ []) + b →
          (order : List ℕ) × IsOrder g order) →
          (order : List ℕ) × IsOrder g order
      go (inr all) rest = (xs, whole xs is all)
      go (inl r) rest =
          let n = next xs r.0 r.1 r.2 in
          let long = length_push xs n.d in
          rest n.d (more xs is n) (omega arith)

  pub order_exists : (order : List ℕ) × IsOrder g order
  order_exists = build (length g) [] record {
    classes = record {
      distinct = IsDistinct-from_apart eqb [] (λ i j x h k. absurd (omega arith));
      below = λ a m. let z : false ≡ true = m in cc;
    };
    after = λ i d p at m. cc;
  } (omega arith)
