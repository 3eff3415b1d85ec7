-- The walk from a class over its ancestors.
use Rattle.std.proofs.Common.{◌≡◌, ◌≢◌, ℕ, suc, ◌+◌, ◌<◌, ◌≤◌, ◌-◌, Bool, true, eqb, List, [], ◌∷◌, ◌++◌, length, get_or, drop, Some, refl, sym, ap, subst, ◌∙◌, arith, ⊎_elim}
use Rattle.std.specs.Prelude.{slice_get, ◌||◌, ◌==◌, Vec}
use Rattle.std.specs.List.{IsDistinct}
use Rattle.std.specs.Option.{option_map}
use Rattle.std.proofs.lemmas.Option.{slice_get_within, get_or_from_slice_get, slice_get-get_or, slice_get-map}
use Rattle.std.proofs.lemmas.Bool.{cases_lt, eqb-true, eq-eqb}
use Rattle.std.proofs.lemmas.Map.Steps.{length-le_from_distinct_below}
use Rattle.eif_system.specs.Graph.{is_member, parents_of, Climbs, Reaches, IsProperAncestor, IsClosed}
use Rattle.eif_ancestry.specs.Ancestries.{number_graph, IsRisingListOf}
use Rattle.eif_ancestry.specs.Walks.{IsTidy, IsWholeWalk}
use Rattle.eif_ancestry.proofs.Members.{or_cases, or_left, or_right, same_member, member_at, place_of, place_kept, place_before, one_place}
use Rattle.eif_ancestry.proofs.Marks.{member_within}

-- the class d and what it reaches, the parents of the first i with them
pub record IsWalk (g : List (List ℕ)) (d i : ℕ) (met : List ℕ) : Type 0 where
  pub first : slice_get met 0 ≡ Some d
  pub only : (a : ℕ) → is_member a met ≡ true → Reaches g d a
  pub closed : (j a p : ℕ) → j < i → slice_get met j ≡ Some a → is_member p (parents_of g a) ≡ true
      → is_member p met ≡ true

pub climb_more : (g : List (List ℕ)) (steps : List ℕ) (d x p : ℕ) → Climbs g d steps x
    → is_member p (parents_of g x) ≡ true → Climbs g d (steps ++ p ∷ []) p
climb_more g [] d x p c h = (subst (λ d. is_member p (parents_of g d) ≡ true) (sym c) h, refl)
climb_more g (s ∷ steps) d x p c h = (c.0, climb_more g steps s x p c.1 h)

climb_on : (g : List (List ℕ)) (steps more : List ℕ) (d x a : ℕ) → Climbs g d steps x → Climbs g x more a
    → Climbs g d (steps ++ more) a
climb_on g [] more d x a c h = subst (λ d. Climbs g d more a) (sym c) h
climb_on g (s ∷ steps) more d x a c h = (c.0, climb_on g steps more s x a c.1 h)

pub reaches_on : (g : List (List ℕ)) (d x a : ℕ) → Reaches g d x → Reaches g x a → Reaches g d a
reaches_on g d x a h k = (h.0 ++ k.0, climb_on g h.0 k.0 d x a h.1 k.1)

pub reaches_parent : (g : List (List ℕ)) (d p : ℕ) → is_member p (parents_of g d) ≡ true → Reaches g d p
reaches_parent g d p h = (p ∷ [], (h, refl))

pub graph_length : {Z : Type 0} (vecs : List (Vec ℕ Z)) → length (number_graph vecs) ≡ length vecs
graph_length [] = refl
graph_length (v ∷ vecs) = ap suc (graph_length vecs)

-- the parents as memory has them
pub parents_at : {Z : Type 0} (vecs : List (Vec ℕ Z)) (x : ℕ) (v : Vec ℕ Z) → x < length vecs → v ≡ get_or vecs x v
    → parents_of (number_graph vecs) x ≡ v.items
parents_at vecs x v h e = get_or_from_slice_get (number_graph vecs) x v.items []
    (slice_get-map (λ w. w.items) vecs x
    ∙ ap (option_map (λ w. w.items)) (slice_get-get_or vecs x v h ∙ ap Some (sym e)))

module _ (g : List (List ℕ)) (d : ℕ) where
  -- the class alone
  pub walk_starts : (met : List ℕ) → length met ≡ 0 → (new : List ℕ)
      → ((a : ℕ) → is_member a new ≡ (is_member a met || (d == a))) → (more : List ℕ) → new ≡ met ++ more
      → IsWalk g d 0 new
  walk_starts (x ∷ met) empty new members more e = absurd (omega arith)
  walk_starts [] empty new members more e = record {
    first = head new (members d ∙ eq-eqb d d refl) members;
    only = λ a h. ([], eqb-true d a (sym (members a) ∙ h));
    closed = λ j a p lt q m. absurd (omega arith);
  }
    where
      head : (xs : List ℕ) → is_member d xs ≡ true → ((a : ℕ) → is_member a xs ≡ (d == a)) → slice_get xs 0 ≡ Some d
      head [] h f = cc
      head (x ∷ xs) h f = ap Some (sym (eqb-true d x (sym (f x) ∙ or_left (x == x) _ (eq-eqb x x refl))))

  -- the parents of one class more
  pub walk_goes_on : (i x : ℕ) (met new : List ℕ) → IsWalk g d i met → slice_get met i ≡ Some x
      → ((a : ℕ) → is_member a new ≡ (is_member a met || is_member a (parents_of g x))) → (more : List ℕ)
      → new ≡ met ++ more → IsWalk g d (i + 1) new
  walk_goes_on i x met new w at members more list = record {
    first = ap (λ xs. slice_get xs 0) list ∙ place_kept met more 0 d w.first;
    only = λ a h. or_cases _ (is_member a met) (is_member a (parents_of g x)) (sym (members a) ∙ h)
        (λ q. w.only a q)
        (λ q. let c = w.only x (member_at met i x at) in (c.0 ++ a ∷ [], climb_more g c.0 d x a c.1 q));
    closed = λ j a p lt e m. ⊎_elim
        (λ (below : j < i). members p ∙ or_left (is_member p met) _ (w.closed j a p below (old j a below e) m))
        (λ (above : i ≤ j).
        let same : j ≡ i = omega arith in
        let moved : slice_get (met ++ more) i ≡ Some a =
        subst (λ j. slice_get (met ++ more) j ≡ Some a) same (sym (ap (λ xs. slice_get xs j) list) ∙ e) in
        let here : slice_get met i ≡ Some a = place_before met more i a (slice_get_within met i x at) moved in
        let q : a ≡ x = let z = sym here ∙ at in cc in
        members p ∙ or_right (is_member p met) _ (subst (λ a. is_member p (parents_of g a) ≡ true) q m))
        (cases_lt j i);
  }
    where
      old : (j a : ℕ) → j < i → slice_get new j ≡ Some a → slice_get met j ≡ Some a
      old j a below e =
          let b = slice_get_within met i x at in
          place_before met more j a (omega arith) (sym (ap (λ xs. slice_get xs j) list) ∙ e)

  all_met : (i : ℕ) (met : List ℕ) → IsWalk g d i met → length met ≤ i → (steps : List ℕ) (x a : ℕ)
      → is_member x met ≡ true → Climbs g x steps a → is_member a met ≡ true
  all_met i met w end [] x a h c = subst (λ a. is_member a met ≡ true) c h
  all_met i met w end (p ∷ steps) x a h c =
      let at = place_of met x h in
      let b = slice_get_within met at.0 x at.1 in
      all_met i met w end steps p a (w.closed at.0 x p (omega arith) at.1 c.0) c.1

  -- no class is left
  pub walk_ends : (i : ℕ) (met : List ℕ) → IsWalk g d i met → length met ≤ i → IsWholeWalk g d met
  walk_ends i met w end = record {
    first = w.first;
    only = w.only;
    each = λ a h. all_met i met w end h.0 d a (member_at met 0 d w.first) h.1;
  }

-- the classes met are at most all classes
pub met_short : (n : ℕ) (met : List ℕ) (marks : List Bool) → IsTidy n met marks → length met ≤ n
met_short n met marks is =
    length-le_from_distinct_below met n is.distinct
    (λ q h. member_within n met marks is q (sym (same_member q met) ∙ h))

-- the classes met after the first are the proper ancestors
pub ancestors_are : (g : List (List ℕ)) (d : ℕ) (met xs : List ℕ) → IsDistinct eqb met → IsWholeWalk g d met
    → IsRisingListOf (λ a. is_member a (drop 1 met) ≡ true) xs → IsRisingListOf (IsProperAncestor g d) xs
ancestors_are g d [] xs distinct w is = let z = w.first in cc
ancestors_are g d (x ∷ met) xs distinct w is = record {
  rising = is.rising;
  list = record {
    once = is.list.once;
    only =
        λ i a e. let m = is.list.only i a e in record { other = other a m; above = w.only a (or_right (x == a) _ m) };
    each = λ a h. is.list.each a (or_cases _ (x == a) (is_member a met) (w.each a h.above)
        (λ t. absurd (h.other (sym first ∙ eqb-true x a t)))
        (λ m. m));
  };
}
  where
    first : x ≡ d
    first = let z = w.first in cc

    other : (a : ℕ) → is_member a met ≡ true → d ≢ a
    other a m q =
        let p = place_of met a m in
        let s : slice_get (x ∷ met) 0 ≡ Some a = ap Some (first ∙ q) in
        let z = one_place (x ∷ met) distinct 0 (suc p.0) a s p.1 in
        omega arith

-- the class where the walk stands, and its parents in memory
module _ {Z : Type 0} (vecs : List (Vec ℕ Z)) (d i : ℕ) (met : List ℕ) (marks : List Bool)
    (tidy : IsTidy (length vecs) met marks) (w : IsWalk (number_graph vecs) d i met)
    (x : ℕ) (more : i < length met) (at : x ≡ get_or met i x) where
  here : slice_get met i ≡ Some x
  here = slice_get-get_or met i x more ∙ ap Some (sym at)

  pub class_within : x < length vecs
  class_within = member_within (length vecs) met marks tidy x (member_at met i x here)

  pub falls : length vecs - (i + 1) < length vecs - i
  falls = let l = met_short (length vecs) met marks tidy in omega arith

  module _ (v : Vec ℕ Z) (ps : List ℕ) (is : v ≡ get_or vecs x v) (same : ps ≡ v.items) where
    parents_are : parents_of (number_graph vecs) x ≡ ps
    parents_are = parents_at vecs x v class_within is ∙ sym same

    pub parents_within : IsClosed (number_graph vecs) → (p : ℕ) → is_member p ps ≡ true → p < length marks
    parents_within closed p m =
        let h = closed x p (ap (is_member p) parents_are ∙ m) in
        let l = tidy.long in
        let k = graph_length vecs in
        omega arith

    pub step : (new : List ℕ) → ((a : ℕ) → is_member a new ≡ (is_member a met || is_member a ps))
        → (later : (more : List ℕ) × (new ≡ met ++ more)) → IsWalk (number_graph vecs) d (i + 1) new
    step new members later = walk_goes_on (number_graph vecs) d i x met new w here
        (λ a. members a ∙ ap (λ b. is_member a met || b) (ap (is_member a) (sym parents_are)))
        later.0 later.1
