-- An order of the classes, by how many ancestors they have.
use Rattle.std.proofs.Common.{◌≡◌, ◌≢◌, ℕ, ◌<◌, ◌≤◌, true, false, eqb, List, [], ◌∷◌, ◌++◌, length, get_or, Some, refl, sym, ap, subst, ◌∙◌, arith, ⊎_elim}
use Rattle.std.specs.Prelude.{slice_get, ◌==◌}
use Rattle.std.specs.List.{IsDistinct}
use Rattle.std.specs.List.Sorted.{IsPermutation, IsNonDecreasingBy}
use Rattle.std.proofs.lemmas.Option.{slice_get_within, get_or_from_slice_get, slice_get-get_or}
use Rattle.std.proofs.lemmas.Bool.{cases_lt, eqb-true}
use Rattle.std.proofs.lemmas.Bool.Decides.{nat_tests}
use Rattle.std.proofs.lemmas.Cmp.{nat_eq_equiv}
use Rattle.std.proofs.lemmas.List.Sorted.{list_any-IsPermutation}
use Rattle.std.proofs.lemmas.Map.Keys.{IsDistinct-push, IsDistinct-from_apart, IsDistinct-IsPermutation}
use Rattle.eif_system.specs.Graph.{is_member, parents_of, Climbs, Reaches, IsProperAncestor, IsClosed, HasNoCycle, IsOrder}
use Rattle.eif_ancestry.specs.Ancestries.{IsRisingListOf, AreAncestries}
use Rattle.eif_ancestry.proofs.Members.{or_cases, is_false, same_member, member_at, place_of, member_one_more, one_place, no_more}
use Rattle.eif_ancestry.proofs.Rising.{rising_distinct}
use Rattle.eif_ancestry.proofs.Rows.{length_push}
use Rattle.eif_ancestry.proofs.Climbing.{reaches_on, reaches_parent}

module _ (g rows : List (List ℕ)) (closed : IsClosed g) (no : HasNoCycle g) (are : AreAncestries g rows) where
  listed : (d : ℕ) → d < length g → IsRisingListOf (IsProperAncestor g d) (get_or rows d [])
  listed d h = are.each d (get_or rows d []) (slice_get-get_or rows d [] (let l = are.long in omega arith))

  -- a parent has fewer ancestors
  parent_fewer : (d p : ℕ) → d < length g → is_member p (parents_of g d) ≡ true
      → length (get_or rows p []) < length (get_or rows d [])
  parent_fewer d p h m =
      let of_p = listed p (closed d p m) in
      let of_d = listed d h in
      let own : is_member p (get_or rows p []) ≡ false =
      is_false _ (λ t. let k = place_of (get_or rows p []) p t in (of_p.list.only k.0 p k.1).other refl) in
      let l = no_more (get_or rows p [] ++ p ∷ []) (get_or rows d [])
      (IsDistinct-push nat_eq_equiv (get_or rows p []) p (rising_distinct (get_or rows p []) of_p.rising)
      (same_member p (get_or rows p []) ∙ own))
      (λ a t. or_cases _ (is_member a (get_or rows p [])) (p == a)
      (sym (member_one_more (get_or rows p []) p a) ∙ t)
      (λ q. let k = place_of (get_or rows p []) a q in above a (of_p.list.only k.0 a k.1).above)
      (λ q. above a ([], eqb-true p a q))) in
      let n = length_push (get_or rows p []) p in
      omega arith
    where
      above : (a : ℕ) → Reaches g p a → is_member a (get_or rows d []) ≡ true
      above a r =
          let k = (listed d h).list.each a record {
            other = λ e. no d p m (subst (λ a. Reaches g p a) (sym e) r);
            above = reaches_on g d p a (reaches_parent g d p m) r;
          } in
          member_at (get_or rows d []) k.0 a k.1

  -- the numbers below the count, sorted by how many ancestors each class has
  module _ (numbers order : List ℕ) (long : length numbers ≡ length g)
      (each : (k : ℕ) → k < length g → slice_get numbers k ≡ Some k) (moved : IsPermutation numbers order)
      (sorted : IsNonDecreasingBy (λ d. length (get_or rows d [])) order) where
    numbers_distinct : IsDistinct eqb numbers
    numbers_distinct = IsDistinct-from_apart eqb numbers (λ i j d h k.
        let p = get_or_from_slice_get numbers i i d (each i (omega arith)) in
        let q = get_or_from_slice_get numbers j j d (each j (omega arith)) in
        grind (arith, nat_tests))

    same_numbers : (a : ℕ) → is_member a order ≡ is_member a numbers
    same_numbers a =
        sym (same_member a order) ∙ (sym (list_any-IsPermutation (eqb a) numbers order moved) ∙ same_member a numbers)

    within : (i d : ℕ) → slice_get order i ≡ Some d → d < length g
    within i d at =
        let k = place_of numbers d (sym (same_numbers d) ∙ member_at order i d at) in
        let l = slice_get_within numbers k.0 d k.1 in
        let e : k.0 ≡ d = let z = sym (each k.0 (omega arith)) ∙ k.1 in cc in
        omega arith

    place : (d : ℕ) → d < length g → (i : ℕ) × (slice_get order i ≡ Some d)
    place d h = place_of order d (same_numbers d ∙ member_at numbers d d (each d h))

    pub sorted_is_order : IsOrder g order
    sorted_is_order = record {
      classes = record {
        once = one_place order (IsDistinct-IsPermutation eqb nat_eq_equiv.symm numbers order moved numbers_distinct);
        only = within;
        each = place;
      };
      after = λ i d p at m.
          let j = place p (closed d p m) in
          let fewer = parent_fewer d p (within i d at) m in (
            j.0,
            ⊎_elim (λ (l : j.0 < i). l) (λ (l : i ≤ j.0).
                let s = sorted i j.0 0 l (slice_get_within order j.0 p j.1) in
                let e = ap (λ x. length (get_or rows x [])) (get_or_from_slice_get order i d 0 at) in
                let f = ap (λ x. length (get_or rows x [])) (get_or_from_slice_get order j.0 p 0 j.1) in
                absurd (omega arith)) (cases_lt j.0 i),
            j.1,
          );
    }

-- an ancestor stands at the class's place or before
climbs_back : (g : List (List ℕ)) (order : List ℕ) → IsOrder g order → (steps : List ℕ) (i d a : ℕ)
    → slice_get order i ≡ Some d → Climbs g d steps a → (j : ℕ) × (j ≤ i) × (slice_get order j ≡ Some a)
climbs_back g order is [] i d a at c = (i, (let h : i ≤ i = omega arith in h), at ∙ ap Some c)
climbs_back g order is (p ∷ steps) i d a at c =
    let j = is.after i d p at c.0 in
    let r = climbs_back g order is steps j.0 p a j.2 c.1 in
    (r.0, (let x = j.1 in let y = r.1 in let h : r.0 ≤ i = omega arith in h), r.2)

pub ancestor_first : (g : List (List ℕ)) (order : List ℕ) (i d a : ℕ) → IsOrder g order → slice_get order i ≡ Some d
    → IsProperAncestor g d a → (j : ℕ) × (j < i) × (slice_get order j ≡ Some a)
ancestor_first g order i d a is at p =
    let r = climbs_back g order is p.above.0 i d a at p.above.1 in
    let ne : r.0 ≢ i = λ q.
    let z : Some d ≡ Some a = sym at ∙ (ap (slice_get order) (sym q) ∙ r.2) in
    p.other (let w : d ≡ a = cc in w) in
    (r.0, (let x = r.1 in let h : r.0 < i = omega arith in h), r.2)
