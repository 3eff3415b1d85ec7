-- Equal lists of types, pair by pair.
use Rattle.std.proofs.Common.{◌≡◌, List, [], ◌∷◌, length, refl, ap, arith}
use Rattle.std.specs.List.{list_all, zip}
use Rattle.std.specs.Prelude.{◌&&◌}
use Rattle.eif_classes.specs.Types.{TyT, same_actuals, same_type}
use Rattle.eif_type_forms.specs.View.{actuals_from}

pub same_pairs : (xs ys : List TyT) → length xs ≡ length ys →
    same_actuals (actuals_from xs) (actuals_from ys) ≡ list_all (λ x. same_type x.0 x.1) (zip xs ys)
same_pairs [] [] h = refl
same_pairs [] (y ∷ ys) h = absurd (omega arith)
same_pairs (x ∷ xs) [] h = absurd (omega arith)
same_pairs (x ∷ xs) (y ∷ ys) h = ap (λ b. same_type x y && b) (same_pairs xs ys (omega arith))
