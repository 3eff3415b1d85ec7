-- The results of all pieces, one after another.
use Rattle.std.proofs.Common.{◌≡◌, ℕ, zero, suc, ◌+◌, ◌-◌, ◌<◌, ◌≤◌, List, [], ◌∷◌, ◌++◌, length, map}
use Rattle.std.proofs.Common.{take, drop, min, Some, refl, sym, ap, ap₂, subst, ◌∙◌, add-one, arith}
use Rattle.std.proofs.Math.Nat.{zero-div}
use Rattle.std.proofs.Math.Seq.{take-add}
use Rattle.std.proofs.lemmas.List.{append-nil, length-map, take_all, take-map, drop-map}
use Rattle.std.proofs.lemmas.List.Concat.{flat_map-append}
use Rattle.std.specs.Prelude.{slice_get, slice_range}
use Rattle.std.specs.List.{flat_map}
use Rattle.eif_par.specs.Pieces.{piece_start, ArePieces}
use Rattle.eif_par.proofs.Covers.{starts_rise, last_end}

pub take_next : {X : Type 0} (xs : List X) (n : ℕ) (x : X) → slice_get xs n ≡ Some x →
    take (suc n) xs ≡ take n xs ++ (x ∷ [])
take_next [] n x h = absurd (cc)
take_next (y ∷ ys) zero x h = cc
take_next (y ∷ ys) (suc n) x h = ap (λ l. y ∷ l) (take_next ys n x h)

pub take_range : {X : Type 0} (xs : List X) (a b : ℕ) → a ≤ b → take b xs ≡ take a xs ++ slice_range xs a b
take_range xs a b h = let e : b ≡ a + (b - a) = omega arith in ap (λ n. take n xs) e ∙ take-add a (b - a) xs

-- the first pieces together are the first items
joined_to : {X A : Type 0} (gives : ℕ → ℕ → X → Type 0) (view : X → List A) (xs : List A) →
    ((first past : ℕ) (out : X) → gives first past out → view out ≡ slice_range xs first past) →
    (pieces : ℕ) (outs : List X) → 0 < pieces → ArePieces gives (length xs) pieces outs → (n : ℕ) → n ≤ pieces →
    flat_map view (take n outs) ≡ take (piece_start (length xs) pieces n) xs
joined_to gives view xs part pieces outs some all zero le =
    let s : piece_start (length xs) pieces 0 ≡ 0 = omega (arith, zero-div pieces) in
    sym (ap (λ n. take n xs) s)
joined_to gives view xs part pieces outs some all (suc n) le =
    let w = all.each n (omega arith) in
    let here : view w.0 ≡ slice_range xs (start n) (start (suc n)) =
    subst (λ m. view w.0 ≡ slice_range xs (start n) (start m)) (add-one n) (part _ _ w.0 w.2) in
    let front = joined_to gives view xs part pieces outs some all n (omega arith) in
    ap (flat_map view) (take_next outs n w.0 w.1) ∙ flat_map-append view (take n outs) (w.0 ∷ [])
    ∙ ap₂ ◌++◌ front (append-nil (view w.0) ∙ here)
    ∙ sym (take_range xs (start n) (start (suc n)) (starts_rise (length xs) pieces n (suc n) some (omega arith)))
  where
    start : ℕ → ℕ
    start = piece_start (length xs) pieces

-- where there is a piece, the results of all pieces together are all items
some_joined : {X A : Type 0} (gives : ℕ → ℕ → X → Type 0) (view : X → List A) (xs : List A) →
    ((first past : ℕ) (out : X) → gives first past out → view out ≡ slice_range xs first past) →
    (pieces : ℕ) (outs : List X) → 0 < pieces → ArePieces gives (length xs) pieces outs → flat_map view outs ≡ xs
some_joined gives view xs part pieces outs some all =
    let whole = joined_to gives view xs part pieces outs some all pieces (omega arith) in
    ap (flat_map view) (sym (take_all pieces outs (omega (arith, all.count_is)))) ∙ whole
    ∙ ap (λ n. take n xs) (last_end (length xs) pieces some) ∙ take_all (length xs) xs (omega arith)

-- where each result is shown as the items of its piece, all of them one after another are the items
pub joined : {X A : Type 0} (gives : ℕ → ℕ → X → Type 0) (view : X → List A) (xs : List A) →
    ((first past : ℕ) (out : X) → gives first past out → view out ≡ slice_range xs first past) →
    (workers : ℕ) (outs : List X) → 1 ≤ workers → ArePieces gives (length xs) (min workers (length xs)) outs →
    flat_map view outs ≡ xs
joined gives view [] part workers [] some all = refl
joined gives view [] part workers (y ∷ ys) some all = absurd (omega (arith, all.count_is))
joined gives view (x ∷ xs) part workers outs some all =
    some_joined gives view (x ∷ xs) part (min workers (length (x ∷ xs))) outs (omega arith) all

range_of_map : {I A : Type 0} (f : I → A) (items : List I) (a b : ℕ) →
    slice_range (map f items) a b ≡ map f (slice_range items a b)
range_of_map f items a b = ap (take (b - a)) (drop-map f a items) ∙ take-map f (b - a) (drop a items)

-- the same where each result is shown as the values of its piece's items
pub joined_map : {X I A : Type 0} (gives : ℕ → ℕ → X → Type 0) (view : X → List A) (f : I → A) (items : List I) →
    ((first past : ℕ) (out : X) → gives first past out → view out ≡ map f (slice_range items first past)) →
    (workers : ℕ) (outs : List X) → 1 ≤ workers → ArePieces gives (length items) (min workers (length items)) outs →
    flat_map view outs ≡ map f items
joined_map gives view f items part workers outs some all =
    joined gives view (map f items) (λ first past out h. part first past out h ∙ sym (range_of_map f items first past))
    workers outs some
    (subst (λ n. ArePieces gives n (min workers n) outs) (sym (length-map items f)) all)
