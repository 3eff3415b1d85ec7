-- The results of the pieces, taken out.
use Rattle.std.proofs.Common.{◌≡◌, ℕ, zero, suc, ◌<◌, List, [], ◌∷◌, length, map, Some, Result, Ok, arith}
use Rattle.std.proofs.Common.{refl, sym, ap, subst, ◌∙◌}
use Rattle.std.proofs.lemmas.List.{length-map}
use Rattle.std.specs.Prelude.{slice_get, IfSome, IfOk}
use Rattle.eif_par.specs.Pieces.{GivesPiece, ArePieces}

abbrev all_good : {A : Type 0} (E : Type 0) → List A → List (Result A E)
all_good E outs = map Ok outs

at_ok : {A E : Type 0} (outs : List A) (k : ℕ) → k < length outs →
    (out : A) × (slice_get outs k ≡ Some out) × (slice_get (all_good E outs) k ≡ Some (Ok out))
at_ok [] k h = absurd (omega arith)
at_ok (x ∷ xs) zero h = (x, refl, refl)
at_ok (x ∷ xs) (suc k) h = at_ok xs k (omega arith)

-- where each call gave a result, and it is one for the piece, the results without their `Ok` are one for each piece
pub assembled : {A E : Type 0} (gives : ℕ → ℕ → A → Type 0) (count called pieces : ℕ) →
    (results : List (Result A E)) (outs : List A) → map Ok outs ≡ results → length results ≡ called → called ≡ pieces →
    ((k : ℕ) → k < called → IfSome (slice_get results k) (λ r. IfOk r (GivesPiece gives count called k))) →
    ArePieces gives count pieces outs
assembled {A} {E} gives count called pieces results outs same n called_is each_gives =
    subst (λ m. ArePieces gives count m outs) called_is record {
      count_is = long;
      each = λ k h.
          let b : k < length outs = let l = long in omega arith in
          let a = at_ok {E = E} outs k b in
          let q : slice_get results k ≡ Some (Ok a.0) = ap (λ l. slice_get l k) (sym same) ∙ a.2 in
          (a.0, a.1, subst (λ o. IfSome o (λ r. IfOk r (GivesPiece gives count called k))) q (each_gives k h));
    }
  where
    long : length outs ≡ called
    long = sym (length-map {B = Result A E} outs Ok) ∙ ap length same ∙ n
