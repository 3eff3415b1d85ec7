-- Targets that are set.
use Rattle.std.proofs.Common.{◌≡◌, ℕ, Bool, true, false, not, List, [], ◌∷◌, ◌++◌, Option, Some, None, refl, sym, ap, subst, ◌∙◌, inr, ⊎_elim}
use Rattle.std.specs.Prelude.{◌||◌, ◌&&◌, if◌then◌else◌, slice_set}
use Rattle.std.specs.Option.{option_map, option_map_or}
use Rattle.std.specs.Str.{bytes_eq}
use Rattle.std.proofs.lemmas.Slice.Eq.{bytes_eq-Decides}
use Rattle.eif_base.specs.Numbering.{is_among}
use Rattle.eif_tree.specs.declared.tree.NameAt.{NameAt}
use Rattle.eif_tree.specs.Members.{result_name}
use Rattle.eif_tree.specs.Tree.{TypeT, ClassT}
use Rattle.eif_classes.specs.Binding.{bind}
use Rattle.eif_classes.specs.Entries.{Declaration, declared_as}
use Rattle.eif_classes.specs.Features.{is_attribute, is_field, origin}
use Rattle.eif_classes.specs.KernelNumbers.{integer_number, boolean_number, character_number}
use Rattle.eif_classes.specs.Resolution.{resolved}
use Rattle.eif_classes.specs.Signatures.{Signature, signature}
use Rattle.eif_classes.specs.Types.{TyT, put_in, is_self_initialising}
use Rattle.eif_system.specs.Lineage.{line_of}
use Rattle.eif_body_rules.specs.Facts.{Fact, attached, usable, Usable, earlier, is_known_attached, usable_test, forgotten}
use Rattle.eif_body_rules.specs.KnownFacts.{without, learned}
use Rattle.eif_body_rules.specs.Settings.{Setting, Entity, entity_of, is_local, or_feature, or_entity, or_test, meaning}
use Rattle.eif_body_rules.specs.Targets.{is_attribute_name}
use Rattle.eif_flow_rules.specs.FieldSets.{FieldSet}
use Rattle.eif_flow_rules.specs.FlowSteps.{target_flow}
use Rattle.eif_flow_rules.specs.FlowTrees.{Flow, idle, sets}
use Rattle.eif_flow_rules.specs.VersionFlows as flows
use Rattle.eif_meaning.specs.Values.{Value, void, integer, boolean, character, reference, ClassType, Object, State, Seen, no_feature, after, give, some_or}
use Rattle.eif_meaning.specs.System.{System, system_over}
use Rattle.eif_meaning.specs.Objects.{set_at, field_type, object_of, with_heap, replace_object}
use Rattle.eif_meaning.specs.Frames.{Frame, argument, local, entity}
use Rattle.eif_meaning.specs.Frames as frames
use Rattle.eif_meaning.specs.Calls.{is_void}
use Rattle.eif_meaning.specs.Assignments.{set_result, with_field, set_field, set_entity, unless_bound, set_target}
use Rattle.eif_valid_bodies.specs.KnownStays.{Fewer}
use Rattle.eif_valid_bodies.specs.SetReads as reads
use Rattle.eif_valid_bodies.specs.ValidInstructions.{IsVariable, IsTargetBy, IsTarget}
use Rattle.eif_run_laws.specs.Holders.{IsSet, Fits, Grow}
use Rattle.eif_run_laws.specs.Steps.{Safe, heap_of}
use Rattle.eif_run_laws.specs.SystemLaws.{is_final}
use Rattle.eif_run_laws.proofs.Lists.{some_is, get_written}
use Rattle.eif_run_laws.proofs.Growing.{grow_same, grow_field, fits_grown}
use Rattle.eif_run_laws.proofs.Heaps.{heap_field}
use Rattle.eif_run_sound.specs.Bodies.{IsWrittenRoutine, Running, frame_of, setting_of, meanings_of, written, closed}
use Rattle.eif_run_sound.specs.ExpressionRuns.{HidesNone, behind_on}
use Rattle.eif_run_sound.specs.Fields.{Ready, due}
use Rattle.eif_run_sound.specs.Invariant.{held_by, held_in, DenotesNothing, Held, Good, Later}
use Rattle.eif_run_sound.specs.UniverseLaws.{UniverseLaws}
use Rattle.eif_run_sound.proofs.States.{or_cases, or_left, or_right, held_later, good_later}
use Rattle.eif_run_sound.proofs.Flows.{and_right}
use Rattle.eif_run_sound.proofs.Known.{held_none, held_both, held_fewer, true_or_false}
use Rattle.eif_run_sound.proofs.Entities.{entity_cases}
use Rattle.eif_run_sound.proofs.Names.{no_entity_of}
use Rattle.eif_run_sound.proofs.Tests.{same_name}

-- ---- facts that are forgotten

kept_usable : (b : Bool) (y : List ℕ) (k : List Fact) (x : List ℕ)
    → usable_test (if b then attached y ∷ k else k) x ≡ usable_test k x
kept_usable true y k x = refl
kept_usable false y k x = refl

gone_or : (gone : List ℕ → Bool) (y : List ℕ) (k : List Fact) (x : List ℕ) → gone x ≡ true → (b c : Bool) → gone y ≡ b
    → bytes_eq y x ≡ c → is_known_attached (forgotten gone k) x ≡ false
    → is_known_attached (if not b then attached y ∷ forgotten gone k else forgotten gone k) x ≡ false
gone_or gone y k x e true c i q rest = rest
gone_or gone y k x e false true i q rest = let n : true ≡ false = sym e ∙ (ap gone (sym (same_name y x q)) ∙ i) in cc
gone_or gone y k x e false false i q rest = ap (λ c. c || is_known_attached (forgotten gone k) x) q ∙ rest

-- nothing is known of a name that is gone
forgotten_none : (gone : List ℕ → Bool) (k : List Fact) (x : List ℕ) → gone x ≡ true
    → is_known_attached (forgotten gone k) x ≡ false
forgotten_none gone [] x e = refl
forgotten_none gone (attached y ∷ k) x e =
    gone_or gone y k x e (gone y) (bytes_eq y x) refl refl (forgotten_none gone k x e)
forgotten_none gone (usable y t ∷ k) x e = forgotten_none gone k x e

less_or : (gone : List ℕ → Bool) (y : List ℕ) (k : List Fact) (x : List ℕ) (b : Bool)
    → is_known_attached (if not b then attached y ∷ forgotten gone k else forgotten gone k) x ≡ true
    → (is_known_attached (forgotten gone k) x ≡ true → is_known_attached k x ≡ true)
    → (bytes_eq y x || is_known_attached k x) ≡ true
less_or gone y k x true h rest = or_right (bytes_eq y x) (is_known_attached k x) (rest h)
less_or gone y k x false h rest =
    or_cases (bytes_eq y x) (is_known_attached (forgotten gone k) x) h
    (λ q. or_left (bytes_eq y x) (is_known_attached k x) q) (λ q. or_right (bytes_eq y x) (is_known_attached k x)
    (rest q))

-- and no more than before is known of others
forgotten_less : (gone : List ℕ → Bool) (k : List Fact) (x : List ℕ)
    → is_known_attached (forgotten gone k) x ≡ true → is_known_attached k x ≡ true
forgotten_less gone [] x h = h
forgotten_less gone (attached y ∷ k) x h = less_or gone y k x (gone y) h (forgotten_less gone k x)
forgotten_less gone (usable y t ∷ k) x h = forgotten_less gone k x h

forgotten_usable : (gone : List ℕ → Bool) (k : List Fact) (x : List ℕ)
    → usable_test (forgotten gone k) x ≡ usable_test k x
forgotten_usable gone [] x = refl
forgotten_usable gone (attached y ∷ k) x = kept_usable (not (gone y)) y
    (forgotten gone k) x ∙ forgotten_usable gone k x
forgotten_usable gone (usable y t ∷ k) x =
    ap (λ o. if bytes_eq y x then Some (earlier t o) else o) (forgotten_usable gone k x)

among_one : (x y : List ℕ) → x ≡ y → is_among (y ∷ []) x ≡ true
among_one x y e = or_left (bytes_eq x y) false ((bytes_eq-Decides x y).1 e)

-- another name than the one that is set is as much set as before
other_set : (set : List (List ℕ)) (x y : List ℕ) (t : TyT) → bytes_eq y x ≡ false → reads.IsSet (x ∷ set) y t
    → reads.IsSet set y t
other_set set x y t e h = ap (λ b. is_self_initialising t || (b || is_among set y)) (sym e) ∙ h

module _ (u : List ClassT) (laws : UniverseLaws u) (r : Running u) (lawful : IsWrittenRoutine u r) where
  abbrev system : System
  system = system_over u

  abbrev c : Frame
  c = frame_of u r

  abbrev S : Setting
  S = setting_of u r

  abbrev class_of_text : ℕ
  class_of_text = r.declaration.class_number

  -- the type that a local writes, or that one
  abbrev type_by : TyT → Option frames.Entity → TyT
  type_by t None = t
  type_by t (Some (argument a)) = t
  type_by t (Some (local a)) = written u r a

  -- ---- what stays known where x is set

  abbrev after_set : List Fact → List ℕ → Bool → List Fact
  after_set k x b = without S (x ∷ []) k ++ learned S x b

  less : (k : List Fact) (x : List ℕ) → Fewer (without S (x ∷ []) k) k
  unfolding without
  less k x = record {
    attached = λ y h. forgotten_less (λ z. is_local S z && is_among (x ∷ []) z) k y h;
    usable = λ y w h. sym (forgotten_usable (λ z. is_local S z && is_among (x ∷ []) z) k y) ∙ h;
  }

  gone : (k : List Fact) (x : List ℕ) → is_local S x ≡ true → is_known_attached (without S (x ∷ []) k) x ≡ false
  unfolding without
  gone k x e =
      forgotten_none (λ z. is_local S z && is_among (x ∷ []) z) k x
      (ap (λ b. b && is_among (x ∷ []) x) e ∙ among_one x x refl)

  -- the local is learned to be attached, where it is
  learned_held : (x : List ℕ) (b : Bool) (s : State)
      → (is_local S x ≡ true → b ≡ true → (v : Value) → held_in u r s x ≡ Some v → is_void v ≡ false)
      → Held u r (learned S x b) s × ((y : List ℕ) → usable_test (learned S x b) y ≡ None)
  unfolding learned
  learned_held x b s h = by (is_local S x) b refl refl
    where
      by : (a d : Bool) → is_local S x ≡ a → b ≡ d
          → Held u r (if a && d then attached x ∷ [] else []) s
          × ((y : List ℕ) → usable_test (if a && d then attached x ∷ [] else []) y ≡ None)
      by true true i j = (
        record {
          attached = λ y e v is. or_cases (bytes_eq x y) false e
              (λ q. h i j v (ap (held_in u r s) (same_name x y q) ∙ is)) (λ q. cc);
          usable = λ y w t e is. cc;
        },
        λ y. refl,
      )
      by true false i j = (held_none u r s, λ y. refl)
      by false d i j = (held_none u r s, λ y. refl)

  after_held : (k : List Fact) (x : List ℕ) (b : Bool) (s : State) → Held u r (without S (x ∷ []) k) s
      → (is_local S x ≡ true → b ≡ true → (v : Value) → held_in u r s x ≡ Some v → is_void v ≡ false)
      → Held u r (after_set k x b) s
  after_held k x b s held h =
      let l = learned_held x b s h in
      held_both u r (without S (x ∷ []) k) (learned S x b) s held l.0 (λ y. inr (l.1 y))

  -- ---- flows of targets

  idle_target : (hidden : List (List ℕ)) (x : NameAt) → signature u (line_of u class_of_text) x.name ≡ None
      → target_flow (meanings_of u r) hidden x ≡ idle
  idle_target hidden x none =
      by (is_among hidden x.name) (laws.features.unnamed r.type.class_number class_of_text x.name none)
    where
      by : (b : Bool) → bind (line_of u r.type.class_number) class_of_text x.name ≡ None
          → (if b then idle else (meanings_of u r).assigned x.name) ≡ idle
      by true e = refl
      by false e = ap (λ o. option_map_or (flows.setting_of (line_of u r.type.class_number)) o idle) e

  -- ---- the targets

  module _ (k : List Fact) (set hidden : List (List ℕ)) (f : FieldSet) (x : NameAt) (t : TyT) (v : Value)
      (known : Bool)
      (s : State) (g : Good u r k set f s) (hides : HidesNone u r hidden) (fits : Fits system (heap_of s)
      (closed r t) v)
      (something : known ≡ true → is_void v ≡ false) where
    abbrev flow : Flow
    flow = target_flow (meanings_of u r) hidden x

    -- the invariant holds with the target set
    abbrev IsSetIn : State → Type 0
    IsSetIn w = Grow (heap_of s) (heap_of w) × Good u r (after_set k x.name known) (x.name ∷ set)
        (behind_on u r flow f) w

    abbrev SetEnds : State → Unit {0} → Type 0
    SetEnds w o = IsSetIn w

    idle_fields : (w : State) → signature u (line_of u class_of_text) x.name ≡ None
        → Good u r (after_set k x.name known) (x.name ∷ set) f w
        → Good u r (after_set k x.name known) (x.name ∷ set) (behind_on u r flow f) w
    idle_fields w none good =
        subst (λ m. Good u r (after_set k x.name known) (x.name ∷ set) (behind_on u r m f) w) (sym
        (idle_target hidden x none)) good

    -- Result
    result_set : (a : TypeT) → r.declaration.tree.result_type ≡ Some a → written u r a ≡ t → x.name ≡ result_name
        → IsSetIn (record s { result = Some v })
    unfolding is_local
    result_set a is type name =
        let w = record s { result = Some v } in
        let none = subst (λ n. signature u (line_of u class_of_text) n ≡ None) (sym name)
        (laws.features.no_result class_of_text) in
        let no_local = is_local_none x.name (subst (λ n. entity r.declaration.tree n ≡ None)
        (sym name) lawful.no_result) in (
          grow_same (heap_of s),
          idle_fields w none record {
            heap = g.heap;
            object = g.object;
            there = g.there;
            made = g.made;
            ready = g.ready;
            arguments = g.arguments;
            locals = g.locals;
            locals_set = λ y b e sure. by_name y b e (bytes_eq y x.name) refl sure;
            result = λ b e z i. subst (Fits system (heap_of s) (closed r (written u r b))) (some_is i)
                (subst (λ t. Fits system (heap_of s) (closed r t) v) (sym type ∙ ap (written u r) (some_is
                (sym is ∙ e))) fits);
            result_set = λ b e sure. tt;
            tests = g.tests;
            known = after_held k x.name known w (held_fewer u r (without S (x.name ∷ []) k) k w (less k x.name)
                (record { attached = g.known.attached; usable = g.known.usable }))
                (λ i j z e. let q : true ≡ false = sym i ∙ no_local in cc);
          },
        )
      where
        is_local_none : (y : List ℕ) → entity r.declaration.tree y ≡ None → is_local S y ≡ false
        is_local_none y e =
            ⊎_elim (λ a. let q : Some (argument a.0) ≡ None = sym a.1 ∙ e in cc)
            (λ rest. ⊎_elim (λ a. let q : Some (local a.0) ≡ None = sym a.1 ∙ e in cc)
            (λ a. ap (λ o. option_map_or (λ (e : Entity). e.is_local) o false) a.1) rest)
            (entity_cases u r.text r.declaration.tree y)

        by_name : (y : List ℕ) (b : TypeT) → entity r.declaration.tree y ≡ Some (local b) → (i : Bool)
            → bytes_eq y x.name ≡ i
            → reads.IsSet (x.name ∷ set) y (written u r b) → IsSet (s.local y)
        by_name y b e true i sure =
            let q : None ≡ Some (local b) =
            sym lawful.no_result ∙ (ap (entity r.declaration.tree) (sym (same_name y x.name i ∙ name)) ∙ e) in cc
        by_name y b e false i sure = g.locals_set y b e (other_set set x.name y (written u r b) i sure)

    -- a local
    local_set : (a : TypeT) → entity r.declaration.tree x.name ≡ Some (local a) → written u r a ≡ t
        → signature u (line_of u class_of_text) x.name ≡ None → bytes_eq result_name x.name ≡ false
        → is_local S x.name ≡ true
        → IsSetIn (record s { local = set_at x.name (Some v) s.local })
    local_set a is type none no_result is_one =
        let w = record s { local = set_at x.name (Some v) s.local } in (
          grow_same (heap_of s),
          idle_fields w none record {
            heap = g.heap;
            object = g.object;
            there = g.there;
            made = g.made;
            ready = g.ready;
            arguments = g.arguments;
            locals = λ y b e z i. value_of y b e (bytes_eq y x.name) refl z i;
            locals_set = λ y b e sure. sure_of y b e (bytes_eq y x.name) refl sure;
            result = g.result;
            result_set = λ b e sure. g.result_set b e (other_set set x.name result_name
                (written u r b) no_result sure);
            tests = g.tests;
            known = after_held k x.name known w kept (λ i j z e. subst (λ z. is_void z ≡ false) (some_is (sym
                (own refl) ∙ e)) (something j));
          },
        )
      where
        -- what the local holds
        own : bytes_eq x.name x.name ≡ bytes_eq x.name x.name
            → held_in u r (record s { local = set_at x.name (Some v) s.local }) x.name ≡ Some v
        own i =
            subst (λ o. held_by u r (record s { local = set_at x.name (Some v) s.local }) x.name o ≡ Some v)
            (sym is) (ap (λ b. if b then Some v else s.local x.name) ((bytes_eq-Decides x.name x.name).1 refl))

        value_of : (y : List ℕ) (b : TypeT) → entity r.declaration.tree y ≡ Some (local b) → (i : Bool)
            → bytes_eq y x.name ≡ i
            → (z : Value) → (if bytes_eq y x.name then Some v else s.local y) ≡ Some z
            → Fits system (heap_of s) (closed r (written u r b)) z
        value_of y b e true i z at =
            let same : Some (local b) ≡ Some (local a) = sym e ∙ (ap (entity r.declaration.tree)
            (same_name y x.name i) ∙ is) in
            let of_b : written u r b ≡ t = ap (type_by t) same ∙ type in
            subst (Fits system (heap_of s) (closed r (written u r b)))
            (some_is (ap (λ b. if b then Some v else s.local y) (sym i) ∙ at))
            (subst (λ t. Fits system (heap_of s) (closed r t) v) (sym of_b) fits)
        value_of y b e false i z at = g.locals y b e z (ap (λ b. if b then Some v else s.local y) (sym i) ∙ at)

        sure_of : (y : List ℕ) (b : TypeT) → entity r.declaration.tree y ≡ Some (local b) → (i : Bool)
            → bytes_eq y x.name ≡ i
            → reads.IsSet (x.name ∷ set) y (written u r b) → IsSet (if bytes_eq y x.name then Some v else s.local y)
        sure_of y b e true i sure = subst (λ b. IsSet (if b then Some v else s.local y)) (sym i) tt
        sure_of y b e false i sure =
            subst (λ b. IsSet (if b then Some v else s.local y)) (sym i)
            (g.locals_set y b e (other_set set x.name y (written u r b) i sure))

        -- other names hold what they held
        held_other : (y : List ℕ) → bytes_eq y x.name ≡ false
            → held_in u r (record s { local = set_at x.name (Some v) s.local }) y ≡ held_in u r s y
        held_other y i = by (entity r.declaration.tree y)
          where
            by : (o : Option frames.Entity)
                → held_by u r (record s { local = set_at x.name (Some v) s.local }) y o
                ≡ held_by u r s y o
            by None = refl
            by (Some (argument b)) = refl
            by (Some (local b)) = ap (λ b. if b then Some v else s.local y) i

        kept : Held u r (without S (x.name ∷ []) k) (record s { local = set_at x.name (Some v) s.local })
        kept = record {
          attached = λ y h z e. by y (bytes_eq y x.name) refl h z e;
          usable = λ y w b h e. g.known.usable y w b ((less k x.name).usable y w h) e;
        }
          where
            by : (y : List ℕ) (i : Bool) → bytes_eq y x.name ≡ i
                → is_known_attached (without S (x.name ∷ []) k) y ≡ true
                → (z : Value) → held_in u r (record s { local = set_at x.name (Some v) s.local }) y ≡ Some z
                → is_void z ≡ false
            by y true i h z e =
                let q : false ≡ true = sym (gone k x.name is_one)
                ∙ (ap (is_known_attached (without S (x.name ∷ []) k)) (sym (same_name y x.name i)) ∙ h) in cc
            by y false i h z e = g.known.attached y ((less k x.name).attached y h) z (sym (held_other y i) ∙ e)

    -- an attribute of Current
    module _ (sg : Signature) (attribute_is : is_attribute_name S x.name ≡ true)
        (signed : signature u (line_of u class_of_text) x.name ≡ Some sg) (result : sg.result ≡ Some t)
        (none : entity r.declaration.tree x.name ≡ None) (no_result : bytes_eq result_name x.name ≡ false)
        (no_local : is_local S x.name ≡ false) where
      abbrev bound : (n : List ℕ) × (type : TyT) × (bind (line_of u r.type.class_number) class_of_text x.name ≡ Some
          n)
          × (version : Declaration)
          × (origin (line_of u r.type.class_number) n ≡ Some (declared_as version))
          × (is_attribute version.tree.kind ≡ true)
          × (field_type system r.type.class_number n ≡ Some type) × (put_in r.type.actuals type ≡ put_in r.actuals t)
      bound = laws.features.field r.type r.made class_of_text r.actuals r.over S refl refl refl x.name sg t
          attribute_is signed result

      abbrev n : List ℕ
      n = bound.0

      abbrev object : Object
      object = with_field n v g.object

      flow_is : flow ≡ sets n
      flow_is = by (is_among hidden x.name) (hides x.name)
        where
          by : (b : Bool) → (b ≡ true → signature u (line_of u class_of_text) x.name ≡ None)
              → (if b then idle else (meanings_of u r).assigned x.name) ≡ sets n
          by true h = let q : None ≡ Some sg = sym (h refl) ∙ signed in cc
          by false h =
              ap (λ o. option_map_or (flows.setting_of (line_of u r.type.class_number)) o idle) bound.2
              ∙ (ap (λ o. if option_map_or is_field o false then sets n else idle) bound.4
              ∙ ap (λ b. if b then sets n else idle) bound.5)

      field_is : field_type system g.object.made.class_number n ≡ Some bound.1
      field_is = ap (λ (t : ClassType). field_type system t.class_number n) g.made ∙ bound.6

      -- a basic value has no fields
      no_basic : (d : ℕ) → is_final d ≡ true → g.object.made.class_number ≡ d → ⊥
      no_basic d e is =
          let q : None ≡ Some bound.1 =
          sym (laws.types.kernel.fieldless d n e) ∙ (ap (λ d. field_type system d n) (sym is) ∙ field_is) in cc

      -- the field is set, and what was set stays set
      object_ready : Ready u (behind_on u r (sets n) f) object
      object_ready m ft e h = by (bytes_eq m n) refl
        where
          symmetric : bytes_eq m n ≡ false → bytes_eq n m ≡ true → f m ≡ true
          symmetric i j =
              let q : true ≡ false = sym ((bytes_eq-Decides m n).1 (sym ((bytes_eq-Decides n m).0 j))) ∙ i in cc

          by : (i : Bool) → bytes_eq m n ≡ i → IsSet (if bytes_eq m n then Some v else g.object.field m)
          by true i = subst (λ b. IsSet (if b then Some v else g.object.field m)) (sym i) tt
          by false i =
              subst (λ b. IsSet (if b then Some v else g.object.field m)) (sym i)
              (g.ready m ft e (or_cases (is_self_initialising ft) _ h (λ q. or_left (is_self_initialising ft) (f m) q)
              (λ q. or_right (is_self_initialising ft) (f m) (or_cases (f m) _ q (λ q. q)
              (λ q. symmetric i (and_right (due u r.type.class_number m) (bytes_eq n m) q))))))

      more_set : (w : State) → Good u r k set f w → Held u r (after_set k x.name known) w
          → (a : Good u r k set f w) → Ready u (behind_on u r (sets n) f) a.object
          → Good u r (after_set k x.name known) (x.name ∷ set) (behind_on u r flow f) w
      more_set w b held a ready = subst (λ m. Good u r (after_set k x.name known) (x.name ∷ set)
          (behind_on u r m f) w) (sym flow_is) record {
            heap = a.heap;
            object = a.object;
            there = a.there;
            made = a.made;
            ready = ready;
            arguments = a.arguments;
            locals = a.locals;
            locals_set = λ y b e sure. by y b e (bytes_eq y x.name) refl sure;
            result = a.result;
            result_set = λ b e sure. a.result_set b e (other_set set x.name result_name (written u r b) no_result sure);
            tests = a.tests;
            known = held;
          }
        where
          by : (y : List ℕ) (b : TypeT) → entity r.declaration.tree y ≡ Some (local b) → (i : Bool)
              → bytes_eq y x.name ≡ i
              → reads.IsSet (x.name ∷ set) y (written u r b) → IsSet (w.local y)
          by y b e true i sure =
              let q : None ≡ Some (local b) =
              sym none ∙ (ap (entity r.declaration.tree) (sym (same_name y x.name i)) ∙ e) in cc
          by y b e false i sure = a.locals_set y b e (other_set set x.name y (written u r b) i sure)

      replaced : (w : Value) → object_of (heap_of s) w ≡ Some g.object → r.current ≡ w
          → Safe (replace_object w object s) SetEnds
      replaced void at is = cc
      replaced (integer i) at is =
          absurd (no_basic integer_number refl (ap (λ (o : Object). o.made.class_number) (sym (some_is at))))
      replaced (boolean i) at is =
          absurd (no_basic boolean_number refl (ap (λ (o : Object). o.made.class_number) (sym (some_is at))))
      replaced (character i) at is =
          absurd (no_basic character_number refl (ap (λ (o : Object). o.made.class_number) (sym (some_is at))))
      replaced (reference q) at is =
          let h = slice_set (heap_of s) q object in
          let w = record s { store = with_heap h s.store } in
          let grown = grow_field (heap_of s) q g.object n v at in
          let later : Later [] s w = record { grown = grown; local = λ y. refl; result = refl; test = λ y e. refl } in
          let fit = subst (λ (t : ClassType). Fits system (heap_of s) (put_in t.actuals bound.1) v) (sym g.made)
          (subst (λ t. Fits system (heap_of s) t v) (sym bound.7) fits) in
          let heap = heap_field system (heap_of s) q g.object n bound.1 v g.heap at field_is fit in
          let good = good_later u r k k set f [] s w g later heap
          (λ y z e. let p = g.tests y z e in (
            fits_grown system (heap_of s) h
                (closed r z.type) z.value grown p.0,
            p.1,
          ))
          (held_later u r k [] s w g.known later (λ y z e. refl)) in
          let same : good.object ≡ object =
          some_is (sym good.there ∙ (ap (object_of h) is ∙ get_written (heap_of s) q g.object object at)) in (
            grown,
            more_set w good
                (after_held k x.name known w (held_fewer u r (without S (x.name ∷ []) k) k w
                (less k x.name) good.known)
                (λ i j z e. let b : true ≡ false = sym i ∙ no_local in cc))
                good (subst (Ready u (behind_on u r (sets n) f)) (sym same) object_ready),
          )

      field_set : Safe (set_field c x.name v s) SetEnds
      field_set =
          subst (λ p. Safe (after (some_or no_feature p give s) (λ t o.
          some_or no_feature (system.bind o.made.class_number class_of_text x.name)
          (λ n. some_or no_feature (field_type system o.made.class_number n)
          (λ _. replace_object r.current (with_field n v o))) t)) SetEnds) (sym g.there)
          (subst (λ p. Safe (some_or no_feature p
          (λ n. some_or no_feature (field_type system g.object.made.class_number n)
          (λ _. replace_object r.current (with_field n v g.object))) s) SetEnds)
          (sym (ap (λ (t : ClassType). bind (line_of u t.class_number) class_of_text x.name) g.made ∙ bound.2))
          (subst (λ p. Safe (some_or no_feature p (λ _. replace_object r.current object) s) SetEnds) (sym field_is)
          (replaced r.current g.there refl)))

    -- ---- which it is

    -- what is a feature or an entity is no bound test local
    unless_test : (DenotesNothing u r x.name → ⊥) → Safe (set_entity c
        (entity r.declaration.tree x.name) x.name v s) SetEnds
        → Safe (unless_bound (s.test x.name) (set_entity c (entity r.declaration.tree x.name) x.name v) s) SetEnds
    unless_test n h = by (s.test x.name) refl
      where
        by : (o : Option Seen) → s.test x.name ≡ o
            → Safe (unless_bound o (set_entity c (entity r.declaration.tree x.name) x.name v) s) SetEnds
        by None e = h
        by (Some w) e = absurd (n (g.tests x.name w e).1)

    no_local_of : entity_of S x.name ≡ None → is_local S x.name ≡ false
    unfolding is_local
    no_local_of e = ap (λ o. option_map_or (λ (e : Entity). e.is_local) o false) e

    is_local_of : (e : Entity) → entity_of S x.name ≡ Some e → e.is_local ≡ true → is_local S x.name ≡ true
    unfolding is_local
    is_local_of e at is = ap (λ o. option_map_or (λ (e : Entity). e.is_local) o false) at ∙ is

    -- by what its name denotes
    variable_ok : (none : (e : Entity) → entity_of S x.name ≡ Some e
        → signature u (line_of u class_of_text) x.name ≡ None)
        → bytes_eq result_name x.name ≡ false → (o : Option Usable) (e : Option Entity) (sg : Option Signature)
        → usable_test k x.name ≡ o → entity_of S x.name ≡ e → signature u (line_of u class_of_text) x.name ≡ sg
        → IsVariable S x.name t (or_test (or_entity (or_feature sg) e) o)
        → Safe (unless_bound (s.test x.name) (set_entity c (entity r.declaration.tree x.name) x.name v) s) SetEnds
    variable_ok none no_result (Some w) e sg i j l h = absurd h
    variable_ok none no_result None (Some e) sg i j l h =
        ⊎_elim
        (λ a. let q : true ≡ false =
        sym h.0 ∙ (ap (λ (e : Entity). e.is_local) (sym (some_is (sym a.2.1 ∙ j))) ∙ a.2.3) in cc)
        (λ rest. ⊎_elim
        (λ a. let type : written u r a.0 ≡ t =
        sym a.2.2 ∙ (ap (λ (e : Entity). e.type) (some_is (sym a.2.1 ∙ j)) ∙ h.1) in
        unless_test (λ n. let q : None ≡ Some (local a.0) = sym n.entity_none ∙ a.1 in cc)
        (subst (λ o. Safe (set_entity c o x.name v s) SetEnds) (sym a.1)
        (local_set a.0 a.1 type (none e j) no_result (is_local_of e j h.0))))
        (λ a. let q : None ≡ Some e = sym a.1 ∙ j in cc) rest)
        (entity_cases u r.text r.declaration.tree x.name)
    variable_ok none no_result None None (Some sg) i j l h =
        let no_entity = no_entity_of u laws r x.name j in
        unless_test (λ n. let q : None ≡ Some sg = sym n.feature_none ∙ l in cc)
        (subst (λ o. Safe (set_entity c o x.name v s) SetEnds) (sym no_entity)
        (field_set sg h.0 l h.1 no_entity no_result (no_local_of j)))
    variable_ok none no_result None None None i j l h = absurd h

    result_ok : (o : Option TypeT) → r.declaration.tree.result_type ≡ o → option_map (resolved u r.text) o ≡ Some t
        → x.name ≡ result_name → Safe (set_result o v s) SetEnds
    result_ok None is e name = cc
    result_ok (Some a) is e name = result_set a is (some_is e) name

    pub set_ok : ((e : Entity) → entity_of S x.name ≡ Some e → signature u (line_of u class_of_text) x.name ≡ None)
        → IsTarget S k x.name t → Safe (set_target c x.name v s) SetEnds
    unfolding meaning
    set_ok none target = by (bytes_eq x.name result_name) refl target
      where
        by : (i : Bool) → bytes_eq x.name result_name ≡ i → IsTargetBy i S k x.name t
            → Safe ((if i then set_result r.declaration.tree.result_type v
            else (λ s. unless_bound (s.test x.name) (set_entity c
            (entity r.declaration.tree x.name) x.name v) s)) s) SetEnds
        by true i target = result_ok r.declaration.tree.result_type refl target (same_name x.name result_name i)
        by false i target =
            variable_ok none (turned i) (usable_test k x.name) (entity_of S x.name)
            (signature u (line_of u class_of_text) x.name) refl refl refl target
          where
            turned : bytes_eq x.name result_name ≡ false → bytes_eq result_name x.name ≡ false
            turned i = ⊎_elim
                (λ h. let q : true ≡ false =
                sym ((bytes_eq-Decides x.name result_name).1 (sym ((bytes_eq-Decides result_name x.name).0 h))) ∙ i in
                cc)
                (λ h. h) (true_or_false (bytes_eq result_name x.name))
