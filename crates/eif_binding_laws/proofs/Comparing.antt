-- One signature beside another, as rules compare them.
use Rattle.std.proofs.Common.{◌≡◌, ℕ, true, List, [], ◌∷◌, length, Option, Some, None, refl, ap, ap₂, arith}
use Rattle.std.proofs.lemmas.Bool.{eqb-true}
use Rattle.std.specs.List.{list_all, zip}
use Rattle.std.specs.Prelude.{◌&&◌}
use Rattle.eif_classes.specs.Signatures.{Signature}
use Rattle.eif_classes.specs.Types.{TyT, no_actuals, and_actual, actual_at, same_type}
use Rattle.eif_feature_rules.specs.SignaturePairs.{have_equal_count, have_equal_arguments, are_of_one_form, has_conforming_result, have_equal_results, fits, are_equal}
use Rattle.eif_tree.specs.Tree.{ClassT}
use Rattle.eif_type_laws.proofs.SameTypes.{and_left, and_right, and_both, same_actuals_are}
use Rattle.eif_binding_laws.specs.KeptSignatures.{ResultConforms, StandsFor}
use Rattle.eif_binding_laws.proofs.Settings.{signature_of}

pub same_type_is : (a b : TyT) → same_type a b ≡ true → a ≡ b
same_type_is a b h =
    ap (λ ts. actual_at ts 0)
    (same_actuals_are (and_actual a no_actuals) (and_actual b no_actuals) (and_both (same_type a b) true h refl))

same_lists : (xs ys : List TyT) → length xs ≡ length ys → list_all (λ x. same_type x.0 x.1) (zip xs ys) ≡ true → xs ≡ ys
same_lists [] [] n h = refl
same_lists [] (y ∷ ys) n h = absurd (omega arith)
same_lists (x ∷ xs) [] n h = absurd (omega arith)
same_lists (x ∷ xs) (y ∷ ys) n h =
    ap₂ ◌∷◌ (same_type_is x y (and_left (same_type x y) _ h))
    (same_lists xs ys (omega arith) (and_right (same_type x y) _ h))

pub equal_arguments : (s t : Signature) → have_equal_count s t ≡ true → have_equal_arguments s t ≡ true →
    s.arguments ≡ t.arguments
equal_arguments s t n h =
    same_lists s.arguments t.arguments (eqb-true (length s.arguments) (length t.arguments) n) h

module _ (xs ys : List TyT) where
  result_conforms : (u : List ClassT) (d : ℕ) (a b : Option TyT) →
      are_of_one_form (signature_of xs a) (signature_of ys b) ≡ true →
      has_conforming_result u d (signature_of xs a) (signature_of ys b) ≡ true → ResultConforms u d a b
  result_conforms u d None None h g = tt
  result_conforms u d None (Some b) h g = cc
  result_conforms u d (Some a) None h g = cc
  result_conforms u d (Some a) (Some b) h g = g

  pub results_equal : (a b : Option TyT) → are_of_one_form (signature_of xs a) (signature_of ys b) ≡ true →
      have_equal_results (signature_of xs a) (signature_of ys b) ≡ true → a ≡ b
  results_equal None None h g = refl
  results_equal None (Some b) h g = cc
  results_equal (Some a) None h g = cc
  results_equal (Some a) (Some b) h g = ap Some (same_type_is a b g)

pub stands_by : (u : List ClassT) (d : ℕ) (s t : Signature) → have_equal_count s t ≡ true →
    have_equal_arguments s t ≡ true → are_of_one_form s t ≡ true → has_conforming_result u d s t ≡ true →
    StandsFor u d s t
stands_by u d s t count arguments form result = record {
  arguments = equal_arguments s t count arguments;
  result = result_conforms s.arguments t.arguments u d s.result t.result form result;
}

pub fit_stands : (u : List ClassT) (d : ℕ) (s t : Signature) → fits u d s t ≡ true → StandsFor u d s t
fit_stands u d s t h =
    let count = have_equal_count s t in
    let arguments = have_equal_arguments s t in
    let form = are_of_one_form s t in
    let result = has_conforming_result u d s t in
    let h3 = and_left (count && arguments && form) result h in
    let h2 = and_left (count && arguments) form h3 in
    stands_by u d s t (and_left count arguments h2) (and_right count arguments h2)
    (and_right (count && arguments) form h3) (and_right (count && arguments && form) result h)

pub equal_is : (s t : Signature) → are_equal s t ≡ true → s ≡ t
equal_is s t h =
    let count = have_equal_count s t in
    let arguments = have_equal_arguments s t in
    let form = are_of_one_form s t in
    let result = have_equal_results s t in
    let h3 = and_left (count && arguments && form) result h in
    let h2 = and_left (count && arguments) form h3 in
    ap₂ signature_of (equal_arguments s t (and_left count arguments h2) (and_right count arguments h2))
    (results_equal s.arguments t.arguments s.result t.result (and_right (count && arguments) form h3)
    (and_right (count && arguments && form) result h))
