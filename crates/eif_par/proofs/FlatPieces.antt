-- The results of all pieces, one after another, where each item gives a list.
use Rattle.std.proofs.Common.{◌≡◌, ℕ, ◌≤◌, List, [], ◌∷◌, ◌++◌, length, take, min, refl, sym, ap, ap₂, ◌∙◌, arith}
use Rattle.std.proofs.lemmas.List.{append-nil, take_all}
use Rattle.std.proofs.lemmas.List.Concat.{flat_map-append}
use Rattle.std.specs.Prelude.{slice_range}
use Rattle.std.specs.List.{flat_map}
use Rattle.eif_par.specs.Pieces.{ArePieces}
use Rattle.eif_par.proofs.Fronts.{all_pieces}
use Rattle.eif_par.proofs.Joins.{take_range}

module _ {X I A : Type 0} (gives : ℕ → ℕ → X → Type 0) (view : X → List A) (f : I → List A) (items : List I)
    (part : (first past : ℕ) (out : X) → gives first past out → view out ≡ flat_map f (slice_range items first past)) where
  -- these results are those of so many items
  abbrev IsFront : ℕ → List X → Type 0
  IsFront n outs = flat_map view outs ≡ flat_map f (take n items)

  one_more : (first past : ℕ) (front : List X) (out : X) → first ≤ past → past ≤ length items → IsFront first front →
      gives first past out → IsFront past (front ++ out ∷ [])
  one_more first past front out le within h g =
      flat_map-append view front (out ∷ [])
      ∙ (ap₂ ◌++◌ h (append-nil (view out) ∙ part first past out g)
      ∙ sym (ap (flat_map f) (take_range items first past le)
      ∙ flat_map-append f (take first items) (slice_range items first past)))

  pub joined_flat : (workers : ℕ) (outs : List X) → 1 ≤ workers →
      ArePieces gives (length items) (min workers (length items)) outs → flat_map view outs ≡ flat_map f items
  joined_flat workers outs some all =
      all_pieces gives IsFront (length items) outs refl one_more workers some all
      ∙ ap (flat_map f) (take_all (length items) items (omega arith))
