-- Object tests, and the names whose values an expression tells of.
use Rattle.std.proofs.Common.{◌≡◌, ℕ, Bool, true, false, List, [], ◌∷◌, Option, Some, None, refl, sym, ap, subst, ◌∙◌, inl, inr, ⊎_elim}
use Rattle.std.specs.Prelude.{◌||◌, if◌then◌else◌, is_some}
use Rattle.std.specs.Option.{option_map_or}
use Rattle.std.specs.Str.{bytes_eq}
use Rattle.std.proofs.lemmas.Slice.Eq.{bytes_eq-Decides}
use Rattle.eif_base.specs.declared.place.Place.{Place}
use Rattle.eif_base.specs.Numbering.{is_among}
use Rattle.eif_tree.specs.declared.tree.NameAt.{NameAt}
use Rattle.eif_tree.specs.Tree.{TypeT, Ex, test, ClassT}
use Rattle.eif_classes.specs.Types.{TyT, attached_form}
use Rattle.eif_body_rules.specs.Conditions.{name_in, if_testable, tested_name}
use Rattle.eif_body_rules.specs.ExpressionTypes.{facts, all_attached, told_by_test}
use Rattle.eif_body_rules.specs.Facts.{Fact, usable, Usable, usable_test}
use Rattle.eif_body_rules.specs.OperatorRules.{boolean}
use Rattle.eif_body_rules.specs.Settings.{Setting, is_testable, entity_of}
use Rattle.eif_body_rules.specs.TestRules.{local_names, bound_local}
use Rattle.eif_body_rules.specs.TestRules as rules
use Rattle.eif_flow_rules.specs.FieldSets.{FieldSet}
use Rattle.eif_meaning.specs.Values as values
use Rattle.eif_meaning.specs.Values.{Value, void, integer, character, reference, Object, Seen, State}
use Rattle.eif_meaning.specs.System.{System, system_over}
use Rattle.eif_meaning.specs.Objects.{set_at, type_of}
use Rattle.eif_meaning.specs.Frames.{Frame, written_type, entity}
use Rattle.eif_meaning.specs.Calls.{is_void}
use Rattle.eif_meaning.specs.KernelTypes.{boolean_type}
use Rattle.eif_meaning.specs.ObjectTests.{holds, local_type, bind_local, run_test}
use Rattle.eif_valid_bodies.specs.ValidNodes.{IsFree, ValidTest}
use Rattle.eif_run_laws.specs.Holders.{Fits}
use Rattle.eif_run_laws.specs.Steps.{Safe, heap_of}
use Rattle.eif_run_laws.proofs.Lists.{some_is}
use Rattle.eif_run_laws.proofs.Growing.{grow_same}
use Rattle.eif_run_laws.proofs.Fitting.{as_object, from_object, boolean_fits, fits_attached}
use Rattle.eif_run_sound.specs.Bodies.{Running, frame_of, setting_of, written, closed}
use Rattle.eif_run_sound.specs.ExpressionRuns.{IsEntity}
use Rattle.eif_run_sound.specs.Invariant.{Shows, Gives, held_in, DenotesNothing, Held, Good, Later}
use Rattle.eif_run_sound.specs.UniverseLaws.{UniverseLaws}
use Rattle.eif_run_sound.proofs.States.{later_same, held_later, good_later}
use Rattle.eif_run_sound.proofs.Known.{held_none, held_both, held_attached}
use Rattle.eif_run_sound.proofs.Names.{closed_attached, written_is, no_entity_of}
use Rattle.eif_run_sound.proofs.Entities.{entity_cases}

-- names that are told to be attached make no test usable
pub attached_apart : (xs : List (List ℕ)) (x : List ℕ) → usable_test (all_attached xs) x ≡ None
attached_apart [] x = refl
attached_apart (y ∷ ys) x = attached_apart ys x

pub same_name : (x y : List ℕ) → bytes_eq x y ≡ true → x ≡ y
same_name x y e = (bytes_eq-Decides x y).0 e

module _ (u : List ClassT) (laws : UniverseLaws u) (r : Running u) where
  abbrev system : System
  system = system_over u

  abbrev c : Frame
  c = frame_of u r

  abbrev S : Setting
  S = setting_of u r

  -- ---- the name that is tested

  entity_there : (x : List ℕ) → is_some (entity_of S x) ≡ true → IsEntity (entity r.declaration.tree x)
  entity_there x h =
      ⊎_elim (λ a. subst IsEntity (sym a.1) tt)
      (λ rest. ⊎_elim (λ a. subst IsEntity (sym a.1) tt)
      (λ a. let q : false ≡ true = sym (ap is_some a.1) ∙ h in cc) rest)
      (entity_cases u r.text r.declaration.tree x)

  testable_name : (o : Option (List ℕ)) (b : (y : List ℕ) → Bool) (x : List ℕ)
      → is_among (if_testable b o) x ≡ true → (o ≡ Some x) × (b x ≡ true)
  testable_name None b x h = cc
  testable_name (Some y) b x h = by (b y) refl h
    where
      by : (t : Bool) → b y ≡ t → is_among (if t then y ∷ [] else []) x ≡ true → (Some y ≡ Some x) × (b x ≡ true)
      by true e h =
          let same : x ≡ y = same_name x y (first (bytes_eq x y) h) in
          (ap Some (sym same), subst (λ z. b z ≡ true) (sym same) e)
        where
          first : (a : Bool) → (a || false) ≡ true → a ≡ true
          first true h = refl
          first false h = cc
      by false e h = cc

  pub tested_is : (e : Ex) (x : List ℕ) → is_among (tested_name (is_testable S) e) x ≡ true
      → (name_in e ≡ Some x) × IsEntity (entity r.declaration.tree x)
  unfolding tested_name is_testable
  tested_is e x h =
      let p = testable_name (name_in e) (is_testable S) x h in (p.0, entity_there x p.1)

  -- ---- the local

  holds_something : (h : List Object) (w : Option TypeT) (v : Value) → holds c h w v ≡ true → is_void v ≡ false
  holds_something h None void e = cc
  holds_something h (Some a) void e = cc
  holds_something h w (integer n) e = refl
  holds_something h w (values.boolean b) e = refl
  holds_something h w (character n) e = refl
  holds_something h w (reference n) e = refl

  -- what it is bound to fits the type with which the text sees it
  local_shown : (s : State) (t : TyT) (v : Seen) (w : Option TypeT) → Shows u r (heap_of s) t v
      → holds c (heap_of s) w v.value ≡ true
      → (a : TyT) × (rules.local_type S w (Some t) ≡ Some a)
      × Shows u r (heap_of s) a (record { value = v.value; type = local_type c w v.type })
      × Fits system (heap_of s) (closed r (local_type c w v.type)) v.value
  local_shown s t v None shows e =
      let something = holds_something (heap_of s) None v.value e in
      let fits = subst (λ a. Fits system (heap_of s) a v.value) (sym (closed_attached r.actuals t))
      (fits_attached system laws.types (heap_of s) (closed r t) v.value something shows.fits) in (
        attached_form t,
        refl,
        record { fits = fits; seen = ap attached_form shows.seen },
        subst (λ a. Fits system (heap_of s) (closed r a) v.value) (sym shows.seen) fits,
      )
  local_shown s t v (Some a) shows e =
      let o = as_object system (heap_of s) (closed r t) v.value (holds_something (heap_of s)
      (Some a) v.value e) shows.fits in
      let conforms : system.conforms (type_of o.object) (attached_form (closed r (written_type c a))) ≡ true =
      ap (λ p. option_map_or (λ o. system.conforms (type_of o) (attached_form (closed r (written_type c a)))) p false)
      (sym o.there) ∙ e in
      let fits : Fits system (heap_of s) (closed r (attached_form (written_type c a))) v.value =
      subst (λ a. Fits system (heap_of s) a v.value) (sym (closed_attached r.actuals (written_type c a)))
      (from_object system (heap_of s) (attached_form (closed r (written_type c a))) v.value record {
        object = o.object;
        there = o.there;
        conforms = conforms;
        complete = o.complete;
      }) in (
        attached_form (written u r a),
        refl,
        record {
          fits = subst (λ a. Fits system (heap_of s) (closed r (attached_form a)) v.value)
              (written_is u laws r a) fits;
          seen = ap (λ t. attached_form (attached_form t)) (written_is u laws r a);
        },
        fits,
      )

  -- ---- the test

  module _ (k : List Fact) (n set : List (List ℕ)) (f : FieldSet) (p : Place) (w : Option TypeT) (e : Ex) (t : TyT)
      (s : State) (g : Good u r k set f s) (v : Seen) (shows : Shows u r (heap_of s) t v)
      (told : (x : List ℕ) → name_in e ≡ Some x → IsEntity (entity r.declaration.tree x)
      → held_in u r s x ≡ Some v.value) where
    abbrev W : Seen
    W = record { value = v.value; type = local_type c w v.type }

    -- what is left, for a local of that name
    pub record Tested (y : Option NameAt) (b : State) (o : Option Seen) : Type 0 where
      pub later : Later (local_names y) s b
      pub good : Good u r k set f b
      pub gives : Gives u r (heap_of b) (Some boolean) o
      pub held : (z : Seen) (x : Bool) → o ≡ Some z → z.value ≡ values.boolean x
          → Held u r (facts S k n x (test p w y e)) b

    abbrev given : Bool → Option Seen
    given b = Some (record { value = values.boolean b; type = boolean_type })

    truth_shown : (b : Bool) → Gives u r (heap_of s) (Some boolean) (given b)
    truth_shown b = record { fits = boolean_fits system laws.types (heap_of s) b; seen = refl }

    -- the value tells which
    told_value : (b : Bool) (z : Seen) (x : Bool) → given b ≡ Some z → z.value ≡ values.boolean x → x ≡ b
    told_value b z x e q = same x b (sym (sym q ∙ ap (λ (z : Seen). z.value) (sym (some_is e))))
      where
        same : (x b : Bool) → values.boolean b ≡ values.boolean x → x ≡ b
        same true true e = refl
        same false false e = refl
        same true false e = cc
        same false true e = cc

    name_attached : holds c (heap_of s) w v.value ≡ true
        → Held u r (all_attached (tested_name (is_testable S) e)) s
    name_attached h =
        held_attached u r (tested_name (is_testable S) e) s
        (λ x among a is.
        let q = tested_is e x among in
        let same : v.value ≡ a = some_is (sym (told x q.0 q.1) ∙ is) in
        subst (λ a. is_void a ≡ false) same (holds_something (heap_of s) w v.value h))

    -- one that does not hold
    fails : (y : Option NameAt) → Tested y s (given false)
    fails y = record {
      later = later_same (local_names y) s;
      good = g;
      gives = truth_shown false;
      held = λ z x i q. subst (λ x. Held u r (facts S k n x (test p w y e)) s) (sym (told_value false z x i q))
          (held_none u r s);
    }

    -- one that holds, without a local
    holds_bare : holds c (heap_of s) w v.value ≡ true
        → (facts S k n true (test p w None e) ≡ told_by_test S e (bound_local p None (rules.local_type S w (Some t))))
        → Tested None s (given true)
    unfolding bound_local
    holds_bare h is = record {
      later = later_same [] s;
      good = g;
      gives = truth_shown true;
      held = λ z x i q. subst (λ x. Held u r (facts S k n x (test p w None e)) s) (sym (told_value true z x i q))
          (subst (λ l. Held u r l s) (sym is) (held_both u r _ [] s (name_attached h) (held_none u r s)
          (λ x. inr refl)));
    }

    -- one that holds binds its local
    module _ (y : NameAt) (free : IsFree S k y.name) (h : holds c (heap_of s) w v.value ≡ true) where
      abbrev after_binding : State
      after_binding = record s { test = set_at y.name (Some W) s.test }

      other : (x : List ℕ) → is_among (y.name ∷ []) x ≡ false → bytes_eq x y.name ≡ false
      other x e = by (bytes_eq x y.name) e
        where
          by : (b : Bool) → (b || false) ≡ false → b ≡ false
          by true e = cc
          by false e = refl

      bound_later : Later (y.name ∷ []) s after_binding
      bound_later = record {
        grown = grow_same (heap_of s);
        local = λ x. refl;
        result = refl;
        test = λ x e. ap (λ b. if b then Some W else s.test x) (other x e);
      }

      shown : (a : TyT) × (rules.local_type S w (Some t) ≡ Some a) × Shows u r (heap_of s) a W
          × Fits system (heap_of s) (closed r W.type) W.value
      shown = local_shown s t v w shows h

      -- each bound local fits
      bound_fits : (x : List ℕ) (z : Seen) → after_binding.test x ≡ Some z
          → Fits system (heap_of s) (closed r z.type) z.value × DenotesNothing u r x
      bound_fits x z e = by (bytes_eq x y.name) refl e
        where
          by : (b : Bool) → bytes_eq x y.name ≡ b → (if b then Some W else s.test x) ≡ Some z
              → Fits system (heap_of s) (closed r z.type) z.value × DenotesNothing u r x
          by true q e = (
            subst (λ z. Fits system (heap_of s) (closed r z.type) z.value) (some_is e) shown.3,
            subst (DenotesNothing u r) (sym (same_name x y.name q))
                (record {
                  entity_none = no_entity_of u laws r y.name free.no_entity;
                  feature_none = free.no_feature;
                }),
          )
          by false q e = g.tests x z e

      -- no usable test has its name
      not_usable : (x : List ℕ) (z : Usable) → usable_test k x ≡ Some z → is_among (y.name ∷ []) x ≡ false
      not_usable x z e = by (bytes_eq x y.name) refl
        where
          by : (b : Bool) → bytes_eq x y.name ≡ b → (b || false) ≡ false
          by true q =
              let none : None ≡ Some z = sym free.no_test ∙ (ap (usable_test k) (sym (same_name x y.name q)) ∙ e) in
              cc
          by false q = refl

      bound_good : Good u r k set f after_binding
      bound_good =
          good_later u r k k set f (y.name ∷ []) s after_binding g bound_later g.heap bound_fits
          (held_later u r k (y.name ∷ []) s after_binding g.known bound_later not_usable)

      -- the local may be used
      local_held : Held u r (usable y.name (record {
        place = p;
        type = rules.local_type S w
            (Some t);
      }) ∷ []) after_binding
      local_held = record {
        attached = λ x e a q. cc;
        usable = λ x z a e q. by x z a (bytes_eq y.name x) refl e q;
      }
        where
          by : (x : List ℕ) (z : Usable) (a : TyT) (b : Bool) → bytes_eq y.name x ≡ b
              → (if b then Some (record { place = p; type = rules.local_type S w (Some t) }) else None) ≡ Some z
              → z.type ≡ Some a
              → (v : Seen) × (after_binding.test x ≡ Some v) × Shows u r (heap_of s) a v
          by x z a true i e q =
              let type : rules.local_type S w (Some t) ≡ Some a = ap (λ (z : Usable). z.type) (some_is e) ∙ q in (
                W,
                ap (λ b. if b then Some W else s.test x)
                    ((bytes_eq-Decides x y.name).1 (sym (same_name y.name x i))),
                subst (λ a. Shows u r (heap_of s) a W) (some_is (sym shown.1 ∙ type)) shown.2,
              )
          by x z a false i e q = cc

      holds_bound :
          (facts S k n true (test p w (Some y) e) ≡ told_by_test S e (bound_local p (Some y) (rules.local_type S w
          (Some t))))
          → Tested (Some y) after_binding (given true)
      unfolding bound_local
      holds_bound is = record {
        later = bound_later;
        good = bound_good;
        gives = truth_shown true;
        held = λ z x i q. subst (λ x. Held u r (facts S k n x (test p w (Some y) e)) after_binding) (sym
            (told_value true z x i q))
            (subst (λ l. Held u r l after_binding) (sym is)
            (held_both u r (all_attached (tested_name (is_testable S) e)) _ after_binding
            (held_later u r _ (y.name ∷ []) s after_binding (name_attached h) bound_later
            (λ x z a. let none : None ≡ Some z = sym (attached_apart (tested_name (is_testable S) e) x) ∙ a in cc))
            local_held (λ x. inl (attached_apart (tested_name (is_testable S) e) x))));
      }

    pub test_ok : (y : Option NameAt) (a : TyT) → (valid_type : ValidTest S k n p w y e a)
        → valid_type.tested ≡ t → Safe (run_test c w y v s) (Tested y)
    test_ok None a valid_type type = by (holds c (heap_of s) w v.value) refl
      where
        by : (b : Bool) → holds c (heap_of s) w v.value ≡ b → Safe (bind_local None W b s) (Tested None)
        by true h =
            holds_bare h (valid_type.told ∙ ap (λ t. told_by_test S e (bound_local p None (rules.local_type S w
            (Some t)))) type)
        by false h = fails None
    test_ok (Some y) a valid_type type = by (holds c (heap_of s) w v.value) refl
      where
        by : (b : Bool) → holds c (heap_of s) w v.value ≡ b → Safe (bind_local (Some y) W b s) (Tested (Some y))
        by true h =
            holds_bound y valid_type.free.0 h
            (valid_type.told ∙ ap (λ t. told_by_test S e (bound_local p (Some y) (rules.local_type S w
            (Some t)))) type)
        by false h = fails (Some y)
