-- Types in memory and what they are as plain data.
use Rattle.std.proofs.Common.{◌≡◌, ◌≢◌, ℕ, zero, suc, ◌+◌, ◌<◌, ◌≤◌, List, [], ◌∷◌, ◌++◌, length, get_or, drop, map, Bool, true, false, refl, sym, ap, ◌∙◌, arith, rules}
use Rattle.std.specs.Prelude.{◌&&◌}
use Rattle.std.proofs.lemmas.List.{append-nil, at_drop_all, map-append}
use Rattle.eif_tree.specs.declared.tree.Mark.{Mark}
use Rattle.eif_tree.specs.declared.tree.Mark.TheVariants.{Plain}
use Rattle.eif_classes.specs.Types.{TyT, formal_type, none_type, Actuals, no_actuals, and_actual, actual_at, formals_from, put_in, put_in_all, same_type, same_actuals}
use Rattle.eif_type_forms.specs.declared.ty.Ty.{Ty, the_lemmas}
use Rattle.eif_type_forms.specs.declared.ty.Ty.TheVariants as v
use Rattle.eif_type_forms.specs.View.{ty_view, actuals_from, actuals_view}

-- a formal is viewed as a formal
pub view_formal : (t : Ty) (i : ℕ) (m : Mark) → t ≡ v.Formal i m → ty_view t ≡ formal_type i m
view_formal t i m h = ap ty_view h ∙ search (rules, the_lemmas)

-- NONE is viewed as NONE
pub view_nothing : ty_view v.Nothing ≡ none_type
view_nothing = search (rules, the_lemmas)

-- the actual in a place is the type there
pub actual_at_view : (ts : List Ty) (i : ℕ) (t : Ty) → i < length ts → t ≡ get_or ts i t
    → actual_at (actuals_view ts) i ≡ ty_view t
actual_at_view [] i t h e = absurd (omega arith)
actual_at_view (x ∷ xs) zero t h e = ap ty_view (sym e)
actual_at_view (x ∷ xs) (suc i) t h e = actual_at_view xs i t (omega arith) e

-- past the end there is NONE
pub actual_past : (ts : List Ty) (i : ℕ) → length ts ≤ i → actual_at (actuals_view ts) i ≡ none_type
actual_past [] i h = refl
actual_past (x ∷ xs) zero h = absurd (omega arith)
actual_past (x ∷ xs) (suc i) h = actual_past xs i (omega arith)

-- one more formal
pub formals_more : (ts : List TyT) (i n : ℕ) → actuals_from ts ≡ formals_from i n
    → actuals_from (ts ++ (formal_type (i + n) Plain ∷ [])) ≡ formals_from i (suc n)
formals_more [] i zero h = ap (λ k. and_actual (formal_type k Plain) no_actuals) (omega arith)
formals_more [] i (suc n) h = cc
formals_more (t ∷ ts) i zero h = cc
formals_more (t ∷ ts) i (suc n) h =
    let rest : actuals_from ts ≡ formals_from (suc i) n = cc in
    let first : t ≡ formal_type i Plain = cc in
    let more = formals_more ts (suc i) n rest in
    let place : i + suc n ≡ suc i + n = omega arith in
    ap (λ k. and_actual t (actuals_from (ts ++ (formal_type k Plain ∷ [])))) place
    ∙ (ap (and_actual t) more ∙ ap (λ x. and_actual x (formals_from (suc i) (suc n))) first)

-- one more formal that is pushed
pub formals_push : (ts more : List Ty) (t : Ty) (n : ℕ) → more ≡ ts ++ (t ∷ []) → t ≡ v.Formal n Plain
    → actuals_view ts ≡ formals_from 0 n → actuals_view more ≡ formals_from 0 (n + 1)
formals_push ts more t n push is h =
    let view = view_formal t n Plain is in
    let pushed : map ty_view more ≡ map ty_view ts ++ (ty_view t ∷ []) =
    ap (map ty_view) push ∙ map-append ty_view ts (t ∷ []) in
    let here : n ≡ 0 + n = omega arith in
    let next : suc n ≡ n + 1 = omega arith in
    ap actuals_from (pushed ∙ ap (λ x. map ty_view ts ++ (x ∷ [])) (view ∙ ap (λ k. formal_type k Plain) here))
    ∙ (formals_more (map ty_view ts) 0 n h ∙ ap (formals_from 0) next)

-- what is put in each is put in all
put_in_each : (xs : Actuals) (ts : List TyT) → put_in_all xs (actuals_from ts) ≡ actuals_from (map (put_in xs) ts)
put_in_each xs [] = refl
put_in_each xs (t ∷ ts) = ap (and_actual (put_in xs t)) (put_in_each xs ts)

-- views are all there once nothing is left to view
pub all_viewed : {A : Type 0} (F : List A → List TyT) → F [] ≡ [] → (xs : List A) (ts : List Ty) (i : ℕ) → length xs ≤ i
    → map ty_view ts ++ F (drop i xs) ≡ F xs → map ty_view ts ≡ F xs
all_viewed F none xs ts i h e =
    sym (append-nil (map ty_view ts))
    ∙ (ap (λ us. map ty_view ts ++ us) (sym (at_drop_all F xs i h ∙ none)) ∙ e)

-- actuals are put in all types once none is left
pub all_put : (xs : Actuals) (ts puts : List Ty) (i : ℕ) → length ts ≤ i
    → map ty_view puts ++ map (put_in xs) (map ty_view (drop i ts)) ≡ map (put_in xs) (map ty_view ts)
    → actuals_view puts ≡ put_in_all xs (actuals_view ts)
all_put xs ts puts i h e =
    ap actuals_from (all_viewed (λ us. map (put_in xs) (map ty_view us)) refl ts puts i h e)
    ∙ sym (put_in_each xs (map ty_view ts))

-- what is false makes a conjunction false
and_false : (a b : Bool) → b ≡ false → (a && b) ≡ false
and_false true b e = e
and_false false b e = refl

-- actuals of other lengths are not the same
pub same_length : (xs ys : List Ty) → length xs ≢ length ys → same_actuals (actuals_view xs) (actuals_view ys) ≡ false
same_length [] [] h = absurd (h refl)
same_length [] (y ∷ ys) h = refl
same_length (x ∷ xs) [] h = refl
same_length (x ∷ xs) (y ∷ ys) h =
    and_false (same_type (ty_view x) (ty_view y)) _ (same_length xs ys (λ e. h (ap suc e)))

-- nor are they with actuals put in
pub same_length_put : (zs : Actuals) (xs ys : List Ty) → length xs ≢ length ys
    → same_actuals (put_in_all zs (actuals_view xs)) (actuals_view ys) ≡ false
same_length_put zs [] [] h = absurd (h refl)
same_length_put zs [] (y ∷ ys) h = refl
same_length_put zs (x ∷ xs) [] h = refl
same_length_put zs (x ∷ xs) (y ∷ ys) h =
    and_false (same_type (put_in zs (ty_view x)) (ty_view y)) _ (same_length_put zs xs ys (λ e. h (ap suc e)))
