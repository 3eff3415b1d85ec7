-- Calls unfolded as deep as there are bodies: what a body needs and sets is what its text does with its callees.
use Rattle.std.proofs.Common.{◌≡◌, ℕ, zero, suc, ◌<◌, Bool, true, false, inl, inr, List, [], ◌∷◌, ◌++◌, length, refl, sym, ap, ◌∙◌, arith}
use Rattle.std.specs.Prelude.{◌==◌, if◌then◌else◌}
use Rattle.std.specs.Str.{bytes_eq}
use Rattle.std.proofs.lemmas.Bool.{cases_Bool, and_from, or_left, or_right, eq-eqb}
use Rattle.std.proofs.lemmas.Slice.Eq.{bytes_eq-Decides}
use Rattle.eif_classes.specs.Entries.{Declaration}
use Rattle.eif_flow_rules.specs.CallPaths.{same_body, IsOneOf, leads_within, IsClosed}
use Rattle.eif_flow_rules.specs.FieldSets.{FieldSet, no_fields, union, common, without}
use Rattle.eif_flow_rules.specs.FlowTrees.{Flow, idle, reads, shows, sets, calls, in_turn, aside, one_of, callees}
use Rattle.eif_flow_rules.specs.NeedsAndSets.{Summary, set_after, needed_in, summary_of, circular, unfolded, summary_by}
use Rattle.eif_flow_rules.specs.SummaryLaws.{SummaryLaws, FarEnough}
use Rattle.eif_flow_rules_laws.proofs.Counting.{count, count_lt, count_below}
use Rattle.eif_flow_rules_laws.proofs.Leading.{leads_call, by_path, path_within, path_laws}

in_left : (xs ys : List Declaration) (x : Declaration) → IsOneOf xs x → IsOneOf (xs ++ ys) x
in_left [] ys x m = absurd m
in_left (z ∷ zs) ys x m = elim m [ inl e ↦ inl e | inr m ↦ inr (in_left zs ys x m) ]

in_right : (xs ys : List Declaration) (x : Declaration) → IsOneOf ys x → IsOneOf (xs ++ ys) x
in_right [] ys x m = m
in_right (z ∷ zs) ys x m = inr (in_right zs ys x m)

-- only what the callees need and set counts
module _ (all : FieldSet) (of at : Declaration → Summary) where
  same_set : (t : Flow) → ((x : Declaration) → IsOneOf (callees t) x → of x ≡ at x) → (s : FieldSet)
      → set_after all of t s ≡ set_after all at t s
  same_set idle h s = refl
  same_set (reads p n) h s = refl
  same_set (shows p) h s = refl
  same_set (sets n) h s = refl
  same_set (calls p x) h s = ap (λ (y : Summary). union s (common all y.sets)) (h x (inl refl))
  same_set (in_turn a b) h s =
      same_set b (λ x m. h x (in_right (callees a) (callees b) x m)) (set_after all of a s)
      ∙ ap (set_after all at b) (same_set a (λ x m. h x (in_left (callees a) (callees b) x m)) s)
  same_set (aside a) h s = refl
  same_set (one_of a b) h s =
      ap (λ y. common y (set_after all of b s)) (same_set a (λ x m. h x (in_left (callees a) (callees b) x m)) s)
      ∙ ap (common (set_after all at a s)) (same_set b (λ x m. h x (in_right (callees a) (callees b) x m)) s)

  same_needed : (t : Flow) → ((x : Declaration) → IsOneOf (callees t) x → of x ≡ at x) → (s : FieldSet)
      → needed_in all of t s ≡ needed_in all at t s
  same_needed idle h s = refl
  same_needed (reads p n) h s = refl
  same_needed (shows p) h s = refl
  same_needed (sets n) h s = refl
  same_needed (calls p x) h s = ap (λ (y : Summary). without (common all y.needs) s) (h x (inl refl))
  same_needed (in_turn a b) h s =
      ap (λ y. union y (needed_in all of b (set_after all of a s)))
      (same_needed a (λ x m. h x (in_left (callees a) (callees b) x m)) s)
      ∙ ap (union (needed_in all at a s))
      (same_needed b (λ x m. h x (in_right (callees a) (callees b) x m)) (set_after all of a s)
      ∙ ap (needed_in all at b) (same_set a (λ x m. h x (in_left (callees a) (callees b) x m)) s))
  same_needed (aside a) h s = same_needed a h s
  same_needed (one_of a b) h s =
      ap (λ y. union y (needed_in all of b s)) (same_needed a (λ x m. h x (in_left (callees a) (callees b) x m)) s)
      ∙ ap (union (needed_in all at a s)) (same_needed b (λ x m. h x (in_right (callees a) (callees b) x m)) s)

  pub same_summary : (t : Flow) → ((x : Declaration) → IsOneOf (callees t) x → of x ≡ at x)
      → summary_of all of t ≡ summary_of all at t
  same_summary t h =
      ap (λ y. record { needs = y; sets = set_after all of t no_fields }) (same_needed t h no_fields)
      ∙ ap (λ y. record { needs = needed_in all at t no_fields; sets = y }) (same_set t h no_fields)

module _ (all : FieldSet) (flow : Declaration → Flow) (bodies : List Declaration) (closed : IsClosed flow bodies) where
  abbrev found : Declaration → Declaration → Bool
  found x y = leads_within flow (length bodies) x y

  abbrev at_depth : ℕ → Declaration → Summary
  at_depth n x = unfolded all flow (length bodies) n x

  itself : (x : Declaration) → same_body x x ≡ true
  itself x =
      and_from (x.class_number == x.class_number) (bytes_eq x.name x.name) (eq-eqb x.class_number x.class_number refl)
      ((bytes_eq-Decides x.name x.name).1 refl)

  -- a body leads to more bodies than one that it calls and that doesn't lead to itself
  closer : (x z : Declaration) → IsOneOf bodies x → IsOneOf (callees (flow x)) z → found z z ≡ false
      → count bodies (found z) < count bodies (found x)
  closer x z m c h =
      count_lt bodies (found z) (found x)
      (λ y e. leads_call flow bodies closed x z y m c (or_right (same_body z y) (found z y) e)) z (closed x z m c) h
      (leads_call flow bodies closed x z z m c (or_left (same_body z z) (found z z) (itself z)))

  circular_at : (n : ℕ) (x : Declaration) → found x x ≡ true → at_depth n x ≡ circular all
  circular_at zero x h = refl
  circular_at (suc n) x h = ap (λ b. if b then circular all else summary_of all (at_depth n) (flow x)) h

  straight_at : (n : ℕ) (x : Declaration) → found x x ≡ false
      → at_depth (suc n) x ≡ summary_of all (at_depth n) (flow x)
  straight_at n x h = ap (λ b. if b then circular all else summary_of all (at_depth n) (flow x)) h

  -- past the number of bodies that a body leads to, one call deeper changes nothing
  level : (n : ℕ) (x : Declaration) → IsOneOf bodies x → (found x x ≡ false → count bodies (found x) < n)
      → at_depth n x ≡ at_depth (suc n) x
  level zero x m h =
      elim (cases_Bool (found x x)) [
        | inl t ↦ sym (circular_at (suc zero) x t)
        | inr f ↦ (let k = h f in absurd (omega arith))
      ]
  level (suc n) x m h =
      elim (cases_Bool (found x x)) [
        | inl t ↦ circular_at (suc n) x t ∙ sym (circular_at (suc (suc n)) x t)
        | inr f ↦ straight_at n x f
            ∙ (same_summary all (at_depth n) (at_depth (suc n)) (flow x) (λ z c. level n z (closed x z m c)
            (λ g. let k = closer x z m c g in let j = h f in omega arith))
            ∙ sym (straight_at (suc n) x f))
      ]

  pub circular_as_found : (x : Declaration) → found x x ≡ true → summary_by all flow (length bodies) x ≡ circular all
  circular_as_found x h = circular_at (length bodies) x h

  pub straight_as_found : (x : Declaration) → IsOneOf bodies x → found x x ≡ false
      → summary_by all flow (length bodies) x ≡ summary_of all (summary_by all flow (length bodies)) (flow x)
  straight_as_found x m h =
      level (length bodies) x m (λ e. count_below bodies (found x) x m e) ∙ straight_at (length bodies) x h

  pub summary_laws : SummaryLaws all flow bodies
  summary_laws = record {
    of_circular = λ x m p. circular_as_found x (by_path flow bodies closed x x m p);
    of_straight = λ x m no.
        elim (cases_Bool (found x x)) [
          | inl t ↦ absurd (no (path_within flow (length bodies) x x t))
          | inr f ↦ straight_as_found x m f
        ];
  }

pub far_enough : FarEnough
far_enough all flow bodies closed = (path_laws flow bodies closed, summary_laws all flow bodies closed)
