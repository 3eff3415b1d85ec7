-- Bodies and fields on objects.
use Rattle.std.proofs.Common.{◌≡◌, ℕ, true, false, List, [], ◌∷◌, Option, Some, None, refl, sym, ap, subst, ◌∙◌, ⊎_elim}
use Rattle.std.specs.Prelude.{if◌then◌else◌}
use Rattle.std.specs.Option.{option_map_or, option_and_then}
use Rattle.std.proofs.lemmas.Slice.Eq.{bytes_eq-Decides}
use Rattle.eif_base.specs.declared.place.Place.{Place}
use Rattle.eif_tree.specs.Tree.{ClassT}
use Rattle.eif_classes.specs.Binding.{bind}
use Rattle.eif_classes.specs.Entries.{Declaration, declared_as}
use Rattle.eif_classes.specs.Features.{is_attribute, is_field, origin}
use Rattle.eif_classes.specs.Signatures.{Signature, signature}
use Rattle.eif_classes.specs.Types.{TyT, put_in, is_self_initialising}
use Rattle.eif_system.specs.Lineage.{line_of}
use Rattle.eif_body_rules.specs.Facts.{Fact}
use Rattle.eif_flow_rules.specs.FieldSets.{FieldSet}
use Rattle.eif_flow_rules.specs.FlowTrees.{idle, reads, calls}
use Rattle.eif_flow_rules.specs.Summaries.{summary}
use Rattle.eif_flow_rules.specs.VersionFlows.{call_of, use_of}
use Rattle.eif_meaning.specs.Values.{Value, void, integer, boolean, character, reference, ClassType, Object, State, unset, no_feature, done, after, give, some_or}
use Rattle.eif_meaning.specs.System.{System, declaration_in, system_over}
use Rattle.eif_meaning.specs.Objects.{field_type, object_of}
use Rattle.eif_meaning.specs.Frames.{Frame}
use Rattle.eif_meaning.specs.Calls.{run_declaration, enter, read_field, use_feature, feature_on}
use Rattle.eif_run_laws.specs.Holders.{IsSet, IsComplete, Fits, AllFit, Answers, IsHeap}
use Rattle.eif_run_laws.specs.Steps.{Safe, heap_of, Extends}
use Rattle.eif_run_laws.proofs.Lists.{some_is}
use Rattle.eif_run_laws.proofs.Growing.{object_stays}
use Rattle.eif_run_laws.proofs.Keeps.{safe_after, safe_more, extends_same}
use Rattle.eif_run_sound.specs.Bodies.{flow_on, Leaves, Running, frame_of, meanings_of}
use Rattle.eif_run_sound.specs.ExpressionRuns.{MetOn, behind_on}
use Rattle.eif_run_sound.specs.Fields.{Ready, due, Met, behind}
use Rattle.eif_run_sound.specs.Invariant.{Good}
use Rattle.eif_run_sound.specs.UniverseLaws.{IsServed, IsReadAs, IsAnswered, all_closed, maybe_closed, UniverseLaws}
use Rattle.eif_run_sound.proofs.States.{or_cases, or_left, or_right, ready_stays}
use Rattle.eif_run_sound.proofs.Flows.{and_both, all_met}
use Rattle.eif_run_sound.proofs.Known.{true_or_false}
use Rattle.eif_run_sound.proofs.Declarations.{declaration_ok}
use Rattle.eif_run_sound.proofs.Types.{answers_fit}

-- ---- objects

-- a value in a field
field_held : (system : System) (h : List Object) (v : Value) (o : Object) (n : List ℕ) (w : Value) → IsHeap system h
    → object_of h v ≡ Some o → o.field n ≡ Some w
    → (t : TyT) × (field_type system o.made.class_number n ≡ Some t) × Fits system h (put_in o.made.actuals t) w
field_held system h void o n w heap e at = cc
field_held system h (integer i) o n w heap e at =
    let q : None ≡ Some w = ap (λ (o : Object). o.field n) (some_is e) ∙ at in cc
field_held system h (boolean i) o n w heap e at =
    let q : None ≡ Some w = ap (λ (o : Object). o.field n) (some_is e) ∙ at in cc
field_held system h (character i) o n w heap e at =
    let q : None ≡ Some w = ap (λ (o : Object). o.field n) (some_is e) ∙ at in cc
field_held system h (reference i) o n w heap e at = (heap i o e).fields n w at

pub set_is : {A : Type 0} (o : Option A) → IsSet o → (a : A) × (o ≡ Some a)
set_is None h = absurd h
set_is (Some a) h = (a, refl)

-- every field
abbrev pub everything : FieldSet
everything n = true

module _ (u : List ClassT) (laws : UniverseLaws u) (r : Running u) where
  abbrev system : System
  system = system_over u

  abbrev c : Frame
  c = frame_of u r

  -- what a call leaves
  abbrev pub Called : Option TyT → State → State → Option Value → Type 0
  Called t s v a = Extends system s v × Answers system (heap_of v) t a

  -- and what it sets
  abbrev pub Sets : Value → (Object → FieldSet) → State → Type 0
  Sets v f s = (p : Object) → object_of (heap_of s) v ≡ Some p → Ready u (f p) p

  abbrev after_body : Declaration → FieldSet → Object → FieldSet
  after_body y f p = behind u p.made.class_number (flow_on u p.made.class_number y) f

  -- ---- bodies

  module _ (s : State) (heap : IsHeap system (heap_of s)) (v : Value) (o : Object)
      (there : object_of (heap_of s) v ≡ Some o) (ty : ClassType) (is : o.made ≡ ty) where
    pub enter_ok : (y : Declaration) (args : List TyT) (result : Option TyT) (vs : List Value) (f : FieldSet)
        → IsServed u ty y args result → AllFit system (heap_of s) args vs → Ready u f o
        → Met u ty.class_number (flow_on u ty.class_number y) f
        → Safe (enter c v y vs s) (λ t a. Called result s t a × Sets v (after_body y f) t)
    enter_ok y args result vs f w fit ready met =
        safe_after (run_declaration system r.again v y vs s.store) (λ t a. done (record s { store = t }) a)
        (Leaves u (heap_of s) v y w.actuals f w.routine.text) _
        (declaration_ok u r.again r.runs s.store heap v o there ty is y args result vs f w fit ready met)
        (λ t a l. (
          (
            record { rest = refl; grown = l.grown; heap = l.heap },
            answers_fit u laws t.heap _ result a w.result_fits l.answers,
          ),
          l.ready,
        ))

    -- ---- fields

    pub read_ok : (n : List ℕ) (y : Declaration) (args : List TyT) (result : Option TyT) (vs : List Value)
        → IsReadAs u ty n y args result → AllFit system (heap_of s) args vs → IsSet (o.field n)
        → Safe (read_field o n vs s) (Called result s)
    read_ok n y args result (v ∷ vs) w fit set =
        absurd (subst (λ args. AllFit system (heap_of s) args (v ∷ vs)) w.no_arguments fit)
    read_ok n y args result [] w fit set =
        let x = set_is (o.field n) set in
        let h = field_held system (heap_of s) v o n x.0 heap there x.1 in
        let t : h.0 ≡ w.type =
        some_is (sym h.1 ∙ (ap (λ (t : ClassType). field_type system t.class_number n) is ∙ w.field)) in
        subst (λ o. Safe (some_or unset o (λ v. give (Some v)) s) (Called result s)) (sym x.1) (
          extends_same system s heap,
          answers_fit u laws (heap_of s) (Some (put_in ty.actuals w.type)) result (Some x.0) w.result_fits
              (subst (λ (t : ClassType). Fits system (heap_of s) (put_in t.actuals w.type) x.0) is
              (subst (λ t. Fits system (heap_of s) (put_in o.made.actuals t) x.0) t h.2)),
        )

    -- ---- features

    -- what is bound on the object, by the type with which it was made
    module _ (b : ℕ) (x : List ℕ) (args : List TyT) (result : Option TyT) (w : IsAnswered u ty b x args result)
        (vs : List Value) where
      version_found : option_and_then declaration_in (origin (line_of u o.made.class_number) w.name) ≡ Some w.version
      version_found =
          ap (λ (t : ClassType). option_and_then declaration_in (origin (line_of u t.class_number) w.name)) is
          ∙ ap (option_and_then declaration_in) w.version_is

      pub feature_by : (Q : State → Option Value → Type 0) → Safe (use_feature c v o w.name vs w.version s) Q
          → Safe (feature_on c v b x vs s) Q
      feature_by Q h =
          subst (λ p. Safe (after (some_or no_feature p give s) (λ t o.
          some_or no_feature (system.bind o.made.class_number b x)
          (λ n. some_or no_feature (system.origin o.made.class_number n) (use_feature c v o n vs)) t)) Q) (sym there)
          (subst (λ n. Safe (some_or no_feature n
          (λ n. some_or no_feature (system.origin o.made.class_number n) (use_feature c v o n vs)) s) Q)
          (sym (ap (λ (t : ClassType). bind (line_of u t.class_number) b x) is ∙ w.bound))
          (subst (λ y. Safe (some_or no_feature y (use_feature c v o w.name vs) s) Q) (sym version_found) h))

      use_field : (Q : State → Option Value → Type 0) → is_attribute w.version.tree.kind ≡ true
          → Safe (read_field o w.name vs s) Q → Safe (use_feature c v o w.name vs w.version s) Q
      use_field Q e h =
          subst (λ t. Safe ((if t then read_field o w.name vs else enter c v w.version vs) s) Q) (sym e) h

      use_body : (Q : State → Option Value → Type 0) → is_attribute w.version.tree.kind ≡ false
          → Safe (enter c v w.version vs s) Q → Safe (use_feature c v o w.name vs w.version s) Q
      use_body Q e h =
          subst (λ t. Safe ((if t then read_field o w.name vs else enter c v w.version vs) s) Q) (sym e) h

      -- on an object without an unset field
      pub on_complete : AllFit system (heap_of s) args vs → IsComplete system o
          → Safe (feature_on c v b x vs s) (Called result s)
      on_complete fit complete = feature_by (Called result s) (⊎_elim
          (λ a. use_field (Called result s) a.is_field
          (read_ok w.name w.version args result vs a fit
          (complete w.name a.type (ap (λ (t : ClassType). field_type system t.class_number w.name) is ∙ a.field))))
          (λ a. use_body (Called result s) a.routine.no_field
          (safe_more (enter c v w.version vs s) _ (Called result s) (λ t y p. p.0)
          (enter_ok w.version args result vs everything a fit (λ n t e h. complete n t e)
          (all_met (due u ty.class_number) (summary u (line_of u ty.class_number))
          (flow_on u ty.class_number w.version) everything (λ n h. refl)))))
          w.serves)

  -- ---- on Current

  module _ (k : List Fact) (set : List (List ℕ)) (f : FieldSet) (s : State) (g : Good u r k set f s) where
    -- the object later
    ready_later : (t : State) (o : Object) → Extends system s t → object_of (heap_of t) r.current ≡ Some o
        → Ready u f o × (o.made ≡ r.type)
    ready_later t o e at =
        let p = object_stays (heap_of s) (heap_of t) e.grown r.current g.object g.there in
        subst (λ (o : Object). Ready u f o × (o.made ≡ r.type)) (some_is (sym p.1 ∙ at))
        (ready_stays u r f g.object p.0 p.2 g.ready, p.2.made ∙ g.made)

    -- a body that is called, on the same object
    module _ (y : Declaration) (p : Place) (args : List TyT) (result : Option TyT) (vs : List Value)
        (a : IsServed u r.type y args result) (fit : AllFit system (heap_of s) args vs)
        (met : MetOn u r (calls p y) f) where
      -- what was set, and what the body sets
      both_sets : (o : Object) → Ready u f o → o.made ≡ r.type
          → Ready u (after_body y f o) o → Ready u (behind_on u r (calls p y) f) o
      both_sets o old is new = λ n ft e h.
          or_cases (is_self_initialising ft) _ h (λ q. old n ft e (or_left (is_self_initialising ft) (f n) q))
          (λ q. or_cases (f n) _ q (λ q. old n ft e (or_right (is_self_initialising ft) (f n) q))
          (λ q. new n ft e (or_right (is_self_initialising ft) _
          (subst (λ (ty : ClassType). behind u ty.class_number (flow_on u ty.class_number y) f n ≡ true) (sym is)
          (laws.creation.sets r.type.class_number y a.routine a.over.derived a.over.gives f n q)))))

      pub own_body_ok : Safe (enter c r.current y vs s) (λ t b. Called result s t b
          × ((o : Object) → object_of (heap_of t) r.current ≡ Some o → Ready u (behind_on u r (calls p y) f) o))
      own_body_ok =
          safe_more (enter c r.current y vs s) _ _
          (λ t b h. (h.0, λ o at. both_sets o (ready_later t o h.0.0 at).0 (ready_later t o h.0.0 at).1 (h.1 o at)))
          (enter_ok s g.heap r.current g.object g.there r.type g.made y args result vs f a fit g.ready
          (laws.creation.needs r.type.class_number y a.routine a.over.derived a.over.gives f met))

  module _ (k : List Fact) (set : List (List ℕ)) (f : FieldSet) (s : State) (g : Good u r k set f s) (x : List ℕ)
      (sg : Signature) (vs : List Value)
      (known : signature u (line_of u r.declaration.class_number) x ≡ Some sg)
      (fit : AllFit system (heap_of s) (all_closed r.actuals sg.arguments) vs) where
    abbrev d : ℕ
    d = r.type.class_number

    abbrev args : List TyT
    args = all_closed r.actuals sg.arguments

    abbrev result : Option TyT
    result = maybe_closed r.actuals sg.result

    abbrev w : IsAnswered u r.type r.declaration.class_number x args result
    w = laws.features.answered r.type r.made r.declaration.class_number r.actuals r.over x sg known

    -- the flow of a name of the class
    used_is : (p : Place) → (meanings_of u r).used p x ≡ use_of (line_of u d) p w.name
    used_is p = ap (λ o. option_map_or (use_of (line_of u d) p) o idle) w.bound

    use_is : (p : Place) → use_of (line_of u d) p w.name
        ≡ (if is_attribute w.version.tree.kind then reads p w.name else call_of p (Some (declared_as w.version)))
    use_is p =
        ap (λ o. if option_map_or is_field o false then reads p w.name else call_of p o) w.version_is

    field_flow : (p : Place) → is_attribute w.version.tree.kind ≡ true → (meanings_of u r).used p x ≡ reads p w.name
    field_flow p e =
        used_is p ∙ (use_is p
        ∙ ap (λ t. if t then reads p w.name else call_of p (Some (declared_as w.version))) e)

    body_flow : (p : Place) → is_attribute w.version.tree.kind ≡ false
        → (meanings_of u r).used p x ≡ calls p w.version
    body_flow p e =
        used_is p ∙ (use_is p
        ∙ (ap (λ t. if t then reads p w.name else call_of p (Some (declared_as w.version))) e
        ∙ ap (λ t. option_map_or (calls p) (if t then None else Some w.version) idle) e))

    -- what the use of the name sets
    abbrev Used : Place → State → Option Value → Type 0
    Used p t a = Called result s t a
        × ((o : Object) → object_of (heap_of t) r.current ≡ Some o
        → Ready u (behind_on u r ((meanings_of u r).used p x) f) o)

    -- a field that is set
    field_is_set : (p : Place) (a : IsReadAs u r.type w.name w.version args result) → MetOn u r (reads p w.name) f
        → IsSet (g.object.field w.name)
    field_is_set p a met =
        g.ready w.name a.type (ap (λ (t : ClassType). field_type system t.class_number w.name) g.made ∙ a.field)
        (⊎_elim (λ e. or_left (is_self_initialising a.type) (f w.name) e)
        (λ e. or_right (is_self_initialising a.type) (f w.name)
        (met w.name (and_both (due u d w.name) _ (laws.creation.due_or_set d w.name a.type a.field e)
        ((bytes_eq-Decides w.name w.name).1 refl))))
        (true_or_false (is_self_initialising a.type)))

    used_field : (p : Place) (a : IsReadAs u r.type w.name w.version args result)
        → MetOn u r ((meanings_of u r).used p x) f
        → Safe (feature_on c r.current r.declaration.class_number x vs s) (Used p)
    used_field p a met =
        let flow = field_flow p a.is_field in
        feature_by s g.heap r.current g.object g.there r.type g.made r.declaration.class_number x args result w vs
        (Used p)
        (use_field s g.heap r.current g.object g.there r.type g.made r.declaration.class_number x args result w vs
        (Used p)
        a.is_field
        (safe_more (read_field g.object w.name vs s) (Called result s) (Used p)
        (λ t b h. (
          h,
          λ o at. subst (λ m. Ready u (behind_on u r m f) o) (sym flow)
              (ready_later k set f s g t o h.0 at).0,
        ))
        (read_ok s g.heap r.current g.object g.there r.type g.made w.name w.version args result vs a fit
        (field_is_set p a (subst (λ m. MetOn u r m f) flow met)))))

    used_body : (p : Place) (a : IsServed u r.type w.version args result)
        → MetOn u r ((meanings_of u r).used p x) f
        → Safe (feature_on c r.current r.declaration.class_number x vs s) (Used p)
    used_body p a met =
        let flow = body_flow p a.routine.no_field in
        feature_by s g.heap r.current g.object g.there r.type g.made r.declaration.class_number x args result w vs
        (Used p)
        (use_body s g.heap r.current g.object g.there r.type g.made r.declaration.class_number x args result w vs
        (Used p)
        a.routine.no_field
        (safe_more (enter c r.current w.version vs s) _ (Used p)
        (λ t b h. (h.0, λ o at. subst (λ m. Ready u (behind_on u r m f) o) (sym flow) (h.1 o at)))
        (own_body_ok k set f s g w.version p args result vs a fit (subst (λ m. MetOn u r m f) flow met))))

    pub used_ok : (p : Place) → MetOn u r ((meanings_of u r).used p x) f
        → Safe (feature_on c r.current r.declaration.class_number x vs s) (Used p)
    used_ok p met = ⊎_elim (λ a. used_field p a met) (λ a. used_body p a met) w.serves
