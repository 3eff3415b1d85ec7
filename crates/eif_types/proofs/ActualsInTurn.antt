-- The actuals of a type beside the formals of its class, place by place.
use Rattle.std.proofs.Common.{◌≡◌, ℕ, zero, suc, ◌≤◌, List, [], ◌∷◌, ◌++◌, length, map, drop, Some, refl, sym, ap, ap₂, ◌∙◌, append_assoc, arith}
use Rattle.std.proofs.lemmas.List.{append-nil}
use Rattle.std.proofs.lemmas.Option.{same_Some}
use Rattle.std.specs.List.{flat_map, zip}
use Rattle.std.specs.Prelude.{slice_get}
use Rattle.eif_base.specs.declared.fault.Fault.{Fault}
use Rattle.eif_feature_rules.specs.DerivationRules.{wrong_actual}
use Rattle.eif_system.specs.WrittenTypes.{actuals}
use Rattle.eif_tree.proofs.Views.{type_view-opened}
use Rattle.eif_tree.specs.Tree.{TypeT, FormalT, ClassT}
use Rattle.eif_tree.specs.View.{type_view}
use Rattle.eif_tree.specs.declared.tree.TypeTree.{TypeTree, out-TypeTree}
use Rattle.eif_universe.proofs.TypeLists.{type_list-types_from}
use Rattle.eif_types.specs.Writers.{class_of, universe_of}
use Rattle.eif_types.specs.declared.actual_faults.Writer.{Writer}
use Rattle.eif_written.specs.LentTypes.{owner_name}
use Rattle.eif_written.specs.declared.written.Owner.{Owner}

-- ---- two lists from a place on

pub zip_here : {A B : Type 0} (xs : List A) (ys : List B) (i : ℕ) (x : A) (y : B) → slice_get xs i ≡ Some x →
    slice_get ys i ≡ Some y → zip (drop i xs) (drop i ys) ≡ (x, y) ∷ zip (drop (suc i) xs) (drop (suc i) ys)
zip_here [] ys i x y a b = cc
zip_here (z ∷ xs) [] i x y a b = cc
zip_here {A} {B} (z ∷ xs) (w ∷ ys) zero x y a b =
    ap₂ (λ (z : A) (w : B). (z, w) ∷ zip xs ys) (same_Some z x a) (same_Some w y b)
zip_here (z ∷ xs) (w ∷ ys) (suc i) x y a b = zip_here xs ys i x y a b

zip_nil : {A B : Type 0} (xs : List A) → zip {X = B} xs [] ≡ []
zip_nil [] = refl
zip_nil (x ∷ xs) = refl

pub zip_past : {A B : Type 0} (xs : List A) (ys : List B) (i : ℕ) → length ys ≤ i → zip (drop i xs) (drop i ys) ≡ []
zip_past xs [] zero h = zip_nil xs
zip_past xs [] (suc i) h = zip_nil (drop (suc i) xs)
zip_past xs (y ∷ ys) zero h = absurd (omega arith)
zip_past [] (y ∷ ys) (suc i) h = refl
zip_past (x ∷ xs) (y ∷ ys) (suc i) h = zip_past xs ys i (omega arith)

pub zip_done : {A B : Type 0} (xs : List A) (ys : List B) (i : ℕ) → length xs ≤ i → zip (drop i xs) (drop i ys) ≡ []
zip_done [] ys zero h = refl
zip_done [] ys (suc i) h = refl
zip_done (x ∷ xs) ys zero h = absurd (omega arith)
zip_done (x ∷ xs) [] (suc i) h = zip_nil (drop i xs)
zip_done (x ∷ xs) (y ∷ ys) (suc i) h = zip_done xs ys i (omega arith)

-- ---- the faults from a place on

-- of one actual
abbrev pub judged : Writer → Owner → ClassT → TypeT × FormalT → List Fault
judged w o a x = wrong_actual (universe_of w) w.class_id.0 (class_of w) (owner_name o) a x.0 x.1

abbrev pub faults_from : Writer → Owner → ClassT → List TypeT → ℕ → List Fault
faults_from w o a ts i = flat_map (judged w o a) (zip (drop i ts) (drop i a.formals))

module _ (w : Writer) (o : Owner) (a : ClassT) (ts : List TypeT) (old out : List Fault) (i : ℕ)
    (so_far : out ++ faults_from w o a ts i ≡ old ++ faults_from w o a ts 0) where
  -- an actual with a formal
  pub one_more : (x : TypeT) (y : FormalT) (new : List Fault) → slice_get ts i ≡ Some x →
      slice_get a.formals i ≡ Some y → new ≡ out ++ judged w o a (x, y) →
      new ++ faults_from w o a ts (suc i) ≡ old ++ faults_from w o a ts 0
  one_more x y new at formal is =
      ap (λ fs. fs ++ faults_from w o a ts (suc i)) is
      ∙ (append_assoc out (judged w o a (x, y)) (faults_from w o a ts (suc i))
      ∙ (ap (λ ps. out ++ flat_map (judged w o a) ps) (sym (zip_here ts a.formals i x y at formal)) ∙ so_far))

  -- one without a formal
  pub none_more : length a.formals ≤ i → out ++ faults_from w o a ts (suc i) ≡ old ++ faults_from w o a ts 0
  none_more past =
      ap (λ ps. out ++ flat_map (judged w o a) ps)
      (zip_past ts a.formals (suc i) (omega arith) ∙ sym (zip_past ts a.formals i past))
      ∙ so_far

  -- at the end
  pub all_judged : length ts ≤ i → out ≡ old ++ faults_from w o a ts 0
  all_judged past =
      sym (append-nil out)
      ∙ (ap (λ ps. out ++ flat_map (judged w o a) ps) (sym (zip_done ts a.formals i past)) ∙ so_far)

-- ---- the actuals of a tree

pub actuals_viewed : (t : TypeTree) → actuals (type_view t) ≡ map type_view (out-TypeTree t).actuals.items
actuals_viewed t =
    ap actuals (type_view-opened t) ∙ type_list-types_from (map type_view (out-TypeTree t).actuals.items)
