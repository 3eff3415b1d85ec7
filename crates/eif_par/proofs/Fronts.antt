-- What is true of more and more of a row: in a loop over items of a piece, and over the pieces.
use Rattle.std.proofs.Common.{◌≡◌, ℕ, zero, suc, ◌+◌, ◌-◌, ◌<◌, ◌≤◌, List, [], ◌∷◌, ◌++◌, length, take, drop, min, Some, refl, sym, ap, subst, ◌∙◌, ⊎_elim, add-one, arith}
use Rattle.std.proofs.Math.Nat.{zero-div}
use Rattle.std.proofs.lemmas.Bool.{cases_lt}
use Rattle.std.proofs.lemmas.List.{length-drop, length-take-le, take_all}
use Rattle.std.specs.Prelude.{slice_get, slice_range}
use Rattle.eif_par.specs.Pieces.{piece_start, ArePieces}
use Rattle.eif_par.proofs.Covers.{starts_rise, last_end}
use Rattle.eif_par.proofs.Joins.{take_next}

-- ---- the items from one number to before another

pub range_none : {X : Type 0} (xs : List X) (a : ℕ) → slice_range xs a a ≡ []
range_none xs a = let e : a - a ≡ 0 = omega arith in ap (λ n. take n (drop a xs)) e

dropped : {X : Type 0} (xs : List X) (a n : ℕ) (x : X) → slice_get xs (a + n) ≡ Some x → slice_get (drop a xs) n ≡ Some x
dropped xs zero n x e = let z : zero + n ≡ n = omega arith in subst (λ k. slice_get xs k ≡ Some x) z e
dropped [] (suc a) n x e = e
dropped (y ∷ ys) (suc a) n x e =
    let s : suc a + n ≡ suc (a + n) = omega arith in
    dropped ys a n x (subst (λ k. slice_get (y ∷ ys) k ≡ Some x) s e)

pub range_next : {X : Type 0} (xs : List X) (a b : ℕ) (x : X) → a ≤ b → slice_get xs b ≡ Some x →
    slice_range xs a (b + 1) ≡ slice_range xs a b ++ x ∷ []
range_next xs a b x le e =
    let n : b ≡ a + (b - a) = omega arith in
    let more : b + 1 - a ≡ suc (b - a) = omega arith in
    ap (λ k. take k (drop a xs)) more
    ∙ take_next (drop a xs) (b - a) x (dropped xs a (b - a) x (subst (λ k. slice_get xs k ≡ Some x) n e))

pub length-range : {X : Type 0} (xs : List X) (a b : ℕ) → b ≤ length xs → length (slice_range xs a b) ≡ b - a
length-range xs a b le =
    let d = length-drop a xs in
    length-take-le (b - a) (drop a xs) (omega arith)

-- ---- the pieces

module _ {X : Type 0} (gives : ℕ → ℕ → X → Type 0) (Q : ℕ → List X → Type 0) (count : ℕ) (outs : List X)
    (none : Q 0 [])
    (more : (first past : ℕ) (front : List X) (out : X) → first ≤ past → past ≤ count → Q first front →
    gives first past out → Q past (front ++ out ∷ [])) where
  front_is : (pieces n : ℕ) → 0 < pieces → n ≤ pieces → ArePieces gives count pieces outs →
      Q (piece_start count pieces n) (take n outs)
  front_is pieces zero some le all =
      let s : 0 ≡ piece_start count pieces 0 = omega (arith, zero-div pieces) in
      subst (λ k. Q k []) s none
  front_is pieces (suc n) some le all =
      let piece = all.each n (omega arith) in
      let rise = starts_rise count pieces n (n + 1) some (omega arith) in
      let within : piece_start count pieces (n + 1) ≤ count =
      subst (λ k. piece_start count pieces (n + 1) ≤ k) (last_end count pieces some)
      (starts_rise count pieces (n + 1) pieces some (omega arith)) in
      let next = more (piece_start count pieces n) (piece_start count pieces (n + 1)) (take n outs) piece.0 rise within
      (front_is pieces n some (omega arith) all) piece.2 in
      subst (λ front. Q (piece_start count pieces (suc n)) front) (sym (take_next outs n piece.0 piece.1))
      (subst (λ k. Q (piece_start count pieces k) (take n outs ++ piece.0 ∷ [])) (add-one n) next)

  -- what is true of no item, and stays true with each further piece, is true of all items
  pub all_pieces : (workers : ℕ) → 1 ≤ workers → ArePieces gives count (min workers count) outs → Q count outs
  all_pieces workers some all = ⊎_elim some_item no_item (cases_lt 0 (min workers count))
    where
      some_item : 0 < min workers count → Q count outs
      some_item n =
          subst (λ k. Q k outs) (last_end count (min workers count) n)
          (subst (λ front. Q (piece_start count (min workers count) (min workers count)) front)
          (take_all (min workers count) outs (omega (arith, all.count_is)))
          (front_is (min workers count) (min workers count) n (omega arith) all))

      empty : (xs : List X) → length xs ≡ 0 → [] ≡ xs
      empty [] e = refl
      empty (x ∷ xs) e = absurd (omega arith)

      no_item : min workers count ≤ 0 → Q count outs
      no_item n =
          let z : 0 ≡ count = omega arith in
          subst (λ k. Q k outs) z (subst (λ front. Q 0 front) (empty outs (omega (arith, all.count_is))) none)
