-- Lists of actuals, and one more at their end.
use Rattle.std.proofs.Common.{◌≡◌, ℕ, zero, suc, List, [], ◌∷◌, ◌++◌, length, map, Some, Vec, Global, refl, sym, ap, subst, ◌∙◌}
use Rattle.std.specs.Prelude.{slice_get}
use Rattle.std.specs.Option.{option_map}
use Rattle.std.proofs.lemmas.Option.{slice_get-map}
use Rattle.eif_derivations.specs.ListNumbers.{Keeps}
use Rattle.eif_type_forms.specs.View.{actuals_view}
use Rattle.eif_type_forms.specs.declared.ty.Ty.{Ty}

module _ {A : Type 0} where
  kept : (xs more : List A) (i : ℕ) (x : A) → slice_get xs i ≡ Some x → slice_get (xs ++ more) i ≡ Some x
  kept [] more i x e = absurd (cc)
  kept (y ∷ xs) more zero x e = e
  kept (y ∷ xs) more (suc i) x e = kept xs more i x e

  last : (xs : List A) (x : A) → slice_get (xs ++ x ∷ []) (length xs) ≡ Some x
  last [] x = refl
  last (y ∷ xs) x = last xs x

  kept_in_map : {B : Type 0} (f : A → B) (xs more : List A) (i : ℕ) (y : B) → slice_get (map f xs) i ≡ Some y
      → slice_get (map f (xs ++ more)) i ≡ Some y
  kept_in_map f [] more i y e = absurd (cc)
  kept_in_map f (x ∷ xs) more zero y e = e
  kept_in_map f (x ∷ xs) more (suc i) y e = kept_in_map f xs more i y e

module _ (old new : List (Vec Ty Global)) (list : Vec Ty Global) (pushed : new ≡ old ++ list ∷ []) where
  -- the lists before keep their numbers
  pub all_kept : Keeps (map (λ v. actuals_view v.items) old) (map (λ v. actuals_view v.items) new)
  all_kept = λ i xs e.
      subst (λ (vs : List (Vec Ty Global)). slice_get (map (λ v. actuals_view v.items) vs) i ≡ Some xs) (sym pushed)
      (kept_in_map (λ v. actuals_view v.items) old (list ∷ []) i xs e)

  -- the new one has the next number
  pub added_last : (i : ℕ) → i ≡ length old
      → slice_get (map (λ v. actuals_view v.items) new) i ≡ Some (actuals_view list.items)
  added_last i next =
      slice_get-map (λ v. actuals_view v.items) new i
      ∙ (ap (λ (vs : List (Vec Ty Global)). option_map (λ v. actuals_view v.items) (slice_get vs i)) pushed
      ∙ ap (option_map (λ v. actuals_view v.items))
      (ap (slice_get (old ++ list ∷ [])) next ∙ last old list))
