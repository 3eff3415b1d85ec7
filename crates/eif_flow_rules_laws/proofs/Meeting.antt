-- What is asked of a body is enough for each of its nodes.
use Rattle.std.proofs.Common.{◌≡◌, ℕ, Bool, true, false, cond, inl, inr, List, [], ◌∷◌, ◌++◌, length, refl, sym, ap, subst, ◌∙◌}
use Rattle.std.specs.Prelude.{not, map}
use Rattle.std.specs.List.{filter}
use Rattle.std.specs.Str.{bytes_eq}
use Rattle.std.proofs.lemmas.Bool.{cases_Bool, or_cases, or_left, or_right, and_parts, and_from, not_from_false}
use Rattle.std.proofs.lemmas.Slice.Eq.{bytes_eq-Decides}
use Rattle.eif_base.specs.declared.place.Place.{Place}
use Rattle.eif_base.specs.Numbering.{is_among}
use Rattle.eif_tree.specs.declared.tree.NameAt.{NameAt}
use Rattle.eif_classes.specs.Entries.{Declaration}
use Rattle.eif_system.specs.TreeForms.{named}
use Rattle.eif_flow_rules.specs.CallPaths.{IsOneOf, leads_within, IsClosed}
use Rattle.eif_flow_rules.specs.CreationFaults.{each_at, unset_needs}
use Rattle.eif_flow_rules.specs.FieldSets.{FieldSet, no_fields, only, union, common, without}
use Rattle.eif_flow_rules.specs.FlowTrees.{Flow, idle, reads, shows, sets, calls, in_turn, aside, one_of}
use Rattle.eif_flow_rules.specs.MetNeeds.{Within, IsMet, BodyLaws, CreatorLaw, NeedsAreMet}
use Rattle.eif_flow_rules.specs.NeedsAndSets.{Summary, set_after, needed_in, summary_by}
use Rattle.eif_flow_rules_laws.proofs.Unfolding.{circular_as_found, straight_as_found}

-- what is wanted is set, or wanted and not set
take_over : (want s t : FieldSet) → Within s t → Within (without want s) t → Within want t
take_over want s t ws wb n h =
    elim (cases_Bool (s n)) [
      | inl e ↦ ws n e
      | inr e ↦ wb n (and_from (want n) (not (s n)) h (not_from_false (s n) e))
    ]

union_more : (a b c : FieldSet) → Within a b → Within (union a c) (union b c)
union_more a b c w n h =
    elim (or_cases (a n) (c n) h) [ inl l ↦ or_left (b n) (c n) (w n l) | inr r ↦ or_right (b n) (c n) r ]

common_more : (a b c d : FieldSet) → Within a c → Within b d → Within (common a b) (common c d)
common_more a b c d wa wb n h = let p = and_parts (a n) (b n) h in and_from (c n) (d n) (wa n p.0) (wb n p.1)

left_of : (a b t : FieldSet) → Within (union a b) t → Within a t
left_of a b t w n h = w n (or_left (a n) (b n) h)

right_of : (a b t : FieldSet) → Within (union a b) t → Within b t
right_of a b t w n h = w n (or_right (a n) (b n) h)

module _ (all : FieldSet) (of : Declaration → Summary) where
  set_more : (t : Flow) (r s : FieldSet) → Within r s → Within (set_after all of t r) (set_after all of t s)
  set_more idle r s w = w
  set_more (reads p n) r s w = w
  set_more (shows p) r s w = w
  set_more (sets n) r s w = union_more r s (common all (only n)) w
  set_more (calls p x) r s w = union_more r s (common all (of x).sets) w
  set_more (in_turn a b) r s w = set_more b (set_after all of a r) (set_after all of a s) (set_more a r s w)
  set_more (aside a) r s w = w
  set_more (one_of a b) r s w =
      common_more (set_after all of a r) (set_after all of b r) (set_after all of a s) (set_after all of b s)
      (set_more a r s w) (set_more b r s w)

  pub set_keeps : (t : Flow) (s : FieldSet) → Within s (set_after all of t s)
  set_keeps idle s n h = h
  set_keeps (reads p x) s n h = h
  set_keeps (shows p) s n h = h
  set_keeps (sets x) s n h = or_left (s n) (common all (only x) n) h
  set_keeps (calls p x) s n h = or_left (s n) (common all (of x).sets n) h
  set_keeps (in_turn a b) s n h = set_keeps b (set_after all of a s) n (set_keeps a s n h)
  set_keeps (aside a) s n h = h
  set_keeps (one_of a b) s n h =
      and_from (set_after all of a s n) (set_after all of b s n) (set_keeps a s n h) (set_keeps b s n h)

  asked_is_enough : (t : Flow) (r s : FieldSet) → Within r s → Within (needed_in all of t r) s → IsMet all of t s
  asked_is_enough idle r s w h = tt
  asked_is_enough (reads p n) r s w h = take_over (common all (only n)) r s w h
  asked_is_enough (shows p) r s w h = take_over all r s w h
  asked_is_enough (sets n) r s w h = tt
  asked_is_enough (calls p x) r s w h = take_over (common all (of x).needs) r s w h
  asked_is_enough (in_turn a b) r s w h = (
    asked_is_enough a r s w (left_of (needed_in all of a r) (needed_in all of b (set_after all of a r)) s h),
    asked_is_enough b (set_after all of a r) (set_after all of a s) (set_more a r s w)
        (λ n k. set_keeps a s n (right_of (needed_in all of a r) (needed_in all of b (set_after all of a r)) s h n k)),
  )
  asked_is_enough (aside a) r s w h = asked_is_enough a r s w h
  asked_is_enough (one_of a b) r s w h = (
    asked_is_enough a r s w (left_of (needed_in all of a r) (needed_in all of b r) s h),
    asked_is_enough b r s w (right_of (needed_in all of a r) (needed_in all of b r) s h),
  )

  -- what is asked are fields
  asks_fields : (t : Flow) (s : FieldSet) → Within (needed_in all of t s) all
  asks_fields idle s n h = cc
  asks_fields (reads p x) s n h = (and_parts (all n) (only x n) (and_parts (common all (only x) n) (not (s n)) h).0).0
  asks_fields (shows p) s n h = (and_parts (all n) (not (s n)) h).0
  asks_fields (sets x) s n h = cc
  asks_fields (calls p x) s n h =
      (and_parts (all n) ((of x).needs n) (and_parts (common all (of x).needs n) (not (s n)) h).0).0
  asks_fields (in_turn a b) s n h =
      elim (or_cases (needed_in all of a s n) (needed_in all of b (set_after all of a s) n) h) [
        | inl l ↦ asks_fields a s n l
        | inr r ↦ asks_fields b (set_after all of a s) n r
      ]
  asks_fields (aside a) s n h = asks_fields a s n h
  asks_fields (one_of a b) s n h =
      elim (or_cases (needed_in all of a s n) (needed_in all of b s n) h) [
        | inl l ↦ asks_fields a s n l
        | inr r ↦ asks_fields b s n r
      ]

-- ---- bodies

module _ (all : FieldSet) (flow : Declaration → Flow) (bodies : List Declaration) (closed : IsClosed flow bodies) where
  abbrev of : Declaration → Summary
  of x = summary_by all flow (length bodies) x

  none_within : (s : FieldSet) → Within no_fields s
  none_within s n h = cc

  needs_met : (x : Declaration) (s : FieldSet) → IsOneOf bodies x → Within (common all (of x).needs) s
      → IsMet all of (flow x) s
  needs_met x s m h =
      asked_is_enough all of (flow x) no_fields s (none_within s) (λ n k.
      let a = asks_fields all of (flow x) no_fields n k in
      h n (and_from (all n) ((of x).needs n) a
      (elim (cases_Bool (leads_within flow (length bodies) x x)) [
        | inl c ↦ ap (λ (y : Summary). y.needs n) (circular_as_found all flow bodies closed x c) ∙ a
        | inr c ↦ ap (λ (y : Summary). y.needs n) (straight_as_found all flow bodies closed x m c) ∙ k
      ])))

  sets_met : (x : Declaration) (s : FieldSet) → IsOneOf bodies x
      → Within (common all (of x).sets) (set_after all of (flow x) s)
  sets_met x s m n h =
      let k = (and_parts (all n) ((of x).sets n) h).1 in
      elim (cases_Bool (leads_within flow (length bodies) x x)) [
        | inl c ↦
            let e = ap (λ (y : Summary). y.sets n) (circular_as_found all flow bodies closed x c) in
            let z : false ≡ true = sym e ∙ k in
            cc
        | inr c ↦
            set_more all of (flow x) no_fields s (none_within s) n
            (sym (ap (λ (y : Summary). y.sets n) (straight_as_found all flow bodies closed x m c)) ∙ k)
      ]

  body_laws : BodyLaws all flow bodies
  body_laws = record { needs = needs_met; sets = sets_met }

-- ---- creators

append_left : (a b : List NameAt) → a ++ b ≡ [] → a ≡ []
append_left [] b h = refl
append_left (x ∷ xs) b h = cc

append_right : (a b : List NameAt) → a ++ b ≡ [] → b ≡ []
append_right [] b h = h
append_right (x ∷ xs) b h = cc

module _ (p : Place) (s : FieldSet) where
  step : (y : List ℕ) (ys : List (List ℕ))
      → (each_at ys p s ≡ [] → (n : List ℕ) → is_among ys n ≡ true → s n ≡ true → ⊥)
      → each_at (y ∷ ys) p s ≡ [] → (n : List ℕ) → is_among (y ∷ ys) n ≡ true → s n ≡ true → (b : Bool) → s y ≡ b → ⊥
  step y ys rest h n a k true e =
      let z : map (named p) (y ∷ filter s ys) ≡ [] =
      subst (λ b. map (named p) (cond b (y ∷ filter s ys) (filter s ys)) ≡ []) e h in
      cc
  step y ys rest h n a k false e =
      elim (or_cases (bytes_eq n y) (is_among ys n) a) [
        | inl l ↦
            let q = (bytes_eq-Decides n y).0 l in
            let z : true ≡ false = sym k ∙ (ap s q ∙ e) in
            cc
        | inr m ↦ rest (subst (λ b. map (named p) (cond b (y ∷ filter s ys) (filter s ys)) ≡ []) e h) n m k
      ]

  -- where no due field is told, none is in the set
  none_told : (due : List (List ℕ)) → each_at due p s ≡ [] → (n : List ℕ) → is_among due n ≡ true → s n ≡ true → ⊥
  none_told [] h n a k = cc
  none_told (y ∷ ys) h n a k = step y ys (none_told ys) h n a k (s y) refl

module _ (due : List (List ℕ)) (of : Declaration → Summary) where
  -- what is wanted at a node, of the due fields, is set where nothing is told
  here : (p : Place) (want s : FieldSet) → Within want (is_among due)
      → each_at due p (without want s) ≡ [] → Within want s
  here p want s w h =
      take_over want s s (λ n k. k)
      (λ n k. absurd (none_told p (without want s) due h n (w n (and_parts (want n) (not (s n)) k).0) k))

  clean : (t : Flow) (s : FieldSet) → unset_needs due of t s ≡ [] → IsMet (is_among due) of t s
  clean idle s h = tt
  clean (reads p x) s h =
      here p (common (is_among due) (only x)) s (λ n k. (and_parts (is_among due n) (only x n) k).0) h
  clean (shows p) s h = here p (is_among due) s (λ n k. k) h
  clean (sets n) s h = tt
  clean (calls p x) s h =
      here p (common (is_among due) (of x).needs) s (λ n k. (and_parts (is_among due n) ((of x).needs n) k).0) h
  clean (in_turn a b) s h = (
    clean a s (append_left (unset_needs due of a s) (unset_needs due of b (set_after (is_among due) of a s)) h),
    clean b (set_after (is_among due) of a s)
        (append_right (unset_needs due of a s) (unset_needs due of b (set_after (is_among due) of a s)) h),
  )
  clean (aside a) s h = clean a s h
  clean (one_of a b) s h = (
    clean a s (append_left (unset_needs due of a s) (unset_needs due of b s) h),
    clean b s (append_right (unset_needs due of a s) (unset_needs due of b s) h),
  )

creator_law : CreatorLaw
creator_law due of t h = clean due of t no_fields h

pub needs_are_met : NeedsAreMet
needs_are_met = (body_laws, creator_law)
