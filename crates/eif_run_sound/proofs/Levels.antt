-- Bodies at levels.
use Rattle.std.proofs.Common.{◌≡◌, ℕ, zero, suc, Bool, true, false, List, [], ◌∷◌, ◌++◌, map, flat_map, Option, Some, None, refl, sym, ap, subst, ◌∙◌, inl, inr, ⊎_elim}
use Rattle.std.specs.Prelude.{◌⊎◌, ◌||◌, cond, if◌then◌else◌, find}
use Rattle.std.specs.Option.{option_map, option_map_or, option_and_then}
use Rattle.std.specs.Str.{bytes_eq}
use Rattle.std.proofs.lemmas.Slice.Eq.{bytes_eq-Decides}
use Rattle.eif_base.specs.Numbering.{is_among}
use Rattle.eif_tree.specs.declared.tree.Literal.{Literal}
use Rattle.eif_tree.specs.declared.tree.Literal.TheVariants as lit
use Rattle.eif_tree.specs.declared.tree.Mark.TheVariants.{Attached}
use Rattle.eif_tree.specs.declared.tree.NameAt.{NameAt}
use Rattle.eif_tree.specs.Members.{has_name, result_name, body_of}
use Rattle.eif_tree.specs.Tree.{TypeT, Inss, no_inss, GroupT, KindT, attribute, constant, deferred_body, routine, ClassT}
use Rattle.eif_classes.specs.Entries.{Declaration}
use Rattle.eif_classes.specs.Features.{local_groups, is_attribute}
use Rattle.eif_classes.specs.KernelNumbers.{any_number}
use Rattle.eif_classes.specs.Resolution.{resolved}
use Rattle.eif_classes.specs.Signatures.{Signature, signature, with_actuals}
use Rattle.eif_classes.specs.Types.{TyT, none_type, Actuals, no_actuals, put_in, is_self_initialising}
use Rattle.eif_feature_rules.specs.DeclarationRules.{is_deferred_kind}
use Rattle.eif_system.specs.Lineage.{line_of}
use Rattle.eif_body_rules.specs.BodyRules.{in_body}
use Rattle.eif_body_rules.specs.KnownFacts.{known_after_all}
use Rattle.eif_body_rules.specs.LocalFlow.{set_after_all}
use Rattle.eif_body_rules.specs.OperatorRules as types
use Rattle.eif_flow_rules.specs.FieldSets.{FieldSet}
use Rattle.eif_flow_rules.specs.FlowSteps.{compound_flow}
use Rattle.eif_flow_rules.specs.FlowTrees.{Flow}
use Rattle.eif_flow_rules.specs.VersionFlows.{group_names, entity_names, meanings_in}
use Rattle.eif_meaning.specs.Values.{Value, ClassType, Object, Store, Seen, State, unset, no_feature, done, ◌>>=◌, give, some_or, need, after}
use Rattle.eif_meaning.specs.KernelBodies.{BuiltIn, built_in_body}
use Rattle.eif_meaning.specs.KernelTypes.{plain_type, string_type, out_name}
use Rattle.eif_meaning.specs.System.{System, system_over}
use Rattle.eif_meaning.specs.Objects.{start, start_value, object_of}
use Rattle.eif_meaning.specs.Frames.{Runner, Frame, type_in, entity_by, Entity, argument, local, entity, arguments_by, first_state}
use Rattle.eif_meaning.specs.Calls.{feature_on, seen_as}
use Rattle.eif_meaning.specs.Evaluation.{evaluate_literal}
use Rattle.eif_meaning.specs.Execution.{execute_all}
use Rattle.eif_meaning.specs.Run.{finish, run_written, run_code, frame, level}
use Rattle.eif_valid_bodies.specs.SetReads as reads
use Rattle.eif_valid_bodies.specs.ValidBodies.{ValidKind, ValidRoutine}
use Rattle.eif_run_laws.specs.ObjectTypes.{IsMade}
use Rattle.eif_run_laws.specs.Holders.{IsSet, Fits, AllFit, Answers}
use Rattle.eif_run_laws.specs.OperatorLaws.{EndsIn}
use Rattle.eif_run_laws.specs.OperatorLaws as laws_of
use Rattle.eif_run_laws.specs.BuiltInLaws.{OutGives, BodyEnds}
use Rattle.eif_run_laws.specs.Steps.{Safe, heap_of, Extends}
use Rattle.eif_run_laws.proofs.Lists.{some_is}
use Rattle.eif_run_laws.proofs.Growing.{object_stays}
use Rattle.eif_run_laws.proofs.Fitting.{fits_conforming, start_fits, object_made, as_object}
use Rattle.eif_run_laws.proofs.Keeps.{safe_more, safe_after}
use Rattle.eif_run_laws.proofs.Operands.{literal_given}
use Rattle.eif_run_laws.proofs.BuiltIns.{built_in_answers}
use Rattle.eif_run_sound.specs.Bodies.{IsRoutine, signature_on, flow_on, Enters, Leaves, RunsBodies, IsWrittenRoutine, Running, frame_of, setting_of, written, closed}
use Rattle.eif_run_sound.specs.Bodies as bodies
use Rattle.eif_run_sound.specs.ExpressionRuns.{HidesNone}
use Rattle.eif_run_sound.specs.Fields.{Ready, Met, behind}
use Rattle.eif_run_sound.specs.Invariant.{Good}
use Rattle.eif_run_sound.specs.InstructionRuns.{Done}
use Rattle.eif_run_sound.specs.UniverseLaws.{IsWrittenBody, UniverseLaws}
use Rattle.eif_run_sound.proofs.States.{or_cases, or_left, or_right, among_cases, chain, ready_stays}
use Rattle.eif_run_sound.proofs.Known.{held_none}
use Rattle.eif_run_sound.proofs.Entities.{entity_cases}
use Rattle.eif_run_sound.proofs.Calls.{Called, set_is, on_complete}
use Rattle.eif_run_sound.proofs.Instructions.{compounds_keep}

-- ---- arguments

module _ (u : List ClassT) (c : ClassT) (xs : Actuals) (h : List Object) (x : List ℕ) where
  abbrev Holds : TyT → Option Value → Type 0
  Holds t o = (v : Value) × (o ≡ Some v) × Fits (system_over u) h (put_in xs t) v

  -- a name of a group holds what fits its type, or is one behind
  abbrev InNames : List NameAt → TyT → List NameAt → List TyT → List Value → Type 0
  InNames ns t rest ts vs =
      ((has_name ns x ≡ true) × Holds t (arguments_by (ns ++ rest) vs x))
      ⊎ ((has_name ns x ≡ false) × (ws : List Value) × AllFit (system_over u) h (map (put_in xs) ts) ws
      × (arguments_by (ns ++ rest) vs x ≡ arguments_by rest ws x))

  turned : (a b : List ℕ) (i : Bool) → bytes_eq a b ≡ i → bytes_eq b a ≡ i
  turned a b true e = (bytes_eq-Decides b a).1 (sym ((bytes_eq-Decides a b).0 e))
  turned a b false e = by (bytes_eq b a) refl
    where
      by : (i : Bool) → bytes_eq b a ≡ i → bytes_eq b a ≡ false
      by true f = let q : true ≡ false = sym ((bytes_eq-Decides a b).1 (sym ((bytes_eq-Decides b a).0 f))) ∙ e in cc
      by false f = f

  name_or : (n : NameAt) (ns : List NameAt) (t : TyT) (rest : List NameAt) (ts : List TyT) (v : Value)
      (vs : List Value)
      (i : Bool) → bytes_eq n.name x ≡ i → Fits (system_over u) h (put_in xs t) v → InNames ns t rest ts vs
      → InNames (n ∷ ns) t rest ts (v ∷ vs)
  name_or n ns t rest ts v vs true e fit behind =
      inl (
        ap (λ i. i || has_name ns x) e,
        (v, ap (λ i. if i then Some v else arguments_by (ns ++ rest) vs x) (turned n.name x true e), fit),
      )
  name_or n ns t rest ts v vs false e fit behind =
      let there = ap (λ i. if i then Some v else arguments_by (ns ++ rest) vs x) (turned n.name x false e) in
      ⊎_elim
      (λ p. inl (ap (λ i. i || has_name ns x) e ∙ p.0, (p.1.0, there ∙ p.1.1, p.1.2)))
      (λ p. inr (ap (λ i. i || has_name ns x) e ∙ p.0, p.1, p.2, there ∙ p.3))
      behind

  in_names : (ns : List NameAt) (t : TyT) (rest : List NameAt) (ts : List TyT) (vs : List Value)
      → AllFit (system_over u) h (map (put_in xs) (map (λ n. t) ns ++ ts)) vs → InNames ns t rest ts vs
  in_names [] t rest ts vs fit = inr (refl, vs, fit, refl)
  in_names (n ∷ ns) t rest ts [] fit = absurd fit
  in_names (n ∷ ns) t rest ts (v ∷ vs) fit =
      name_or n ns t rest ts v vs (bytes_eq n.name x) refl fit.0 (in_names ns t rest ts vs fit.1)

  pub in_groups : (gs : List GroupT) (vs : List Value)
      → AllFit (system_over u) h (map (put_in xs) (flat_map (λ g. map (λ n. resolved u c g.type_tree) g.names) gs)) vs
      → (t : TypeT) → type_in gs x ≡ Some t → Holds (resolved u c t) (arguments_by (flat_map (λ g. g.names) gs) vs x)
  in_groups [] vs fit t e = cc
  in_groups (g ∷ gs) vs fit t e =
      let rest = flat_map (λ (g : GroupT). g.names) gs in
      let ts = flat_map (λ (g : GroupT). map (λ n. resolved u c g.type_tree) g.names) gs in
      let first = λ (i : Bool). option_map (λ (g : GroupT). g.type_tree) (cond i (Some g) (find
      (λ g. has_name g.names x) gs)) in
      ⊎_elim
      (λ p. let type : g.type_tree ≡ t = some_is (sym (ap first p.0) ∙ e) in
      subst (λ t. Holds (resolved u c t) (arguments_by (g.names ++ rest) vs x)) type p.1)
      (λ p. let q = in_groups gs p.1 p.2 t (sym (ap first p.0) ∙ e) in (q.0, p.3 ∙ q.1, q.2))
      (in_names g.names (resolved u c g.type_tree) rest ts vs fit)

-- ---- names of entities

in_group_names : (ns : List NameAt) (x : List ℕ) → is_among (map (λ n. n.name) ns) x ≡ true → has_name ns x ≡ true
in_group_names [] x h = h
in_group_names (n ∷ ns) x h =
    or_cases (bytes_eq x n.name) (is_among (map (λ n. n.name) ns) x) h
    (λ q. or_left (bytes_eq n.name x) (has_name ns x) ((bytes_eq-Decides n.name x).1 (sym
    ((bytes_eq-Decides x n.name).0 q))))
    (λ q. or_right (bytes_eq n.name x) (has_name ns x) (in_group_names ns x q))

named_or : (g : GroupT) (gs : List GroupT) (x : List ℕ) → is_among (group_names (g ∷ gs)) x ≡ true → (i : Bool)
    → has_name g.names x ≡ i → (is_among (group_names gs) x ≡ true → (t : TypeT) × (type_in gs x ≡ Some t))
    → (t : TypeT) × (type_in (g ∷ gs) x ≡ Some t)
named_or g gs x h true e rest = (
  g.type_tree,
  ap (λ i. option_map (λ (g : GroupT). g.type_tree) (cond i (Some g) (find
      (λ g. has_name g.names x) gs))) e,
)
named_or g gs x h false e rest =
    among_cases (map (λ n. n.name) g.names) (group_names gs) x h
    (λ q. let n : true ≡ false = sym (in_group_names g.names x q) ∙ e in cc)
    (λ q. let p = rest q in (
      p.0,
      ap (λ i. option_map (λ (g : GroupT). g.type_tree) (cond i (Some g) (find
          (λ g. has_name g.names x) gs))) e ∙ p.1,
    ))

-- a name of the groups has a type
named_type : (gs : List GroupT) (x : List ℕ) → is_among (group_names gs) x ≡ true
    → (t : TypeT) × (type_in gs x ≡ Some t)
named_type [] x h = cc
named_type (g ∷ gs) x h = named_or g gs x h (has_name g.names x) refl (named_type gs x)

-- ---- how a body begins

start_is_set : (t : TyT) (b : Bool) → is_self_initialising t ≡ b → (b || false) ≡ true
    → IsSet (if b then Some (start_value t) else None)
start_is_set t true e h = tt
start_is_set t false e h = cc

module _ (u : List ClassT) (laws : UniverseLaws u) (turns : ℕ) (again : Runner) (runs : RunsBodies u again)
    (v : Value) (y : Declaration) (xs : Actuals) (vs : List Value) (f : FieldSet) (s : Store)
    (e : Enters u s.heap v y xs vs f) where
  abbrev system : System
  system = system_over u

  abbrev text : ClassT
  text = e.routine.text

  abbrev d : ℕ
  d = e.object.made.class_number

  abbrev made : IsMade system e.object.made
  made = object_made system laws.types s.heap v e.object e.heap e.there

  -- the body that runs
  abbrev r : Running u
  r = record {
    turns = turns;
    again = again;
    runs = runs;
    current = v;
    declaration = y;
    text = text;
    at = e.routine.at;
    declares = e.routine.declares;
    actuals = xs;
    given = vs;
    type = e.object.made;
    made = made;
    over = e.over;
  }

  abbrev c : Frame
  c = frame system turns again v (bodies.body_of y xs) vs

  abbrev first : State
  first = first_state system (bodies.body_of y xs) s

  -- what a body leaves
  abbrev Left : State → Option Value → Type 0
  Left t a = Leaves u s.heap v y xs f text t.store a

  written_here : (t : TypeT) → system.resolve y.class_number t ≡ resolved u text t
  written_here t = ap (λ o. option_map_or (λ c. resolved u c t) o none_type) e.routine.at

  -- a body without a text leaves the fields as they are
  ready_unset : (t : State) → Extends system first t → body_of y.tree.kind ≡ no_inss
      → (o : Object) → object_of t.store.heap v ≡ Some o → Ready u (behind u o.made.class_number
      (flow_on u o.made.class_number y) f) o
  ready_unset t ends empty o at =
      let p = object_stays s.heap t.store.heap ends.grown v e.object e.there in
      subst (λ is. Ready u (behind u o.made.class_number
      (compound_flow (meanings_in u (line_of u o.made.class_number) y) (entity_names y.tree) is) f) o) (sym empty)
      (subst (Ready u f) (some_is (sym p.1 ∙ at)) (ready_stays u r f e.object p.0 p.2 e.ready))

  -- ---- built-in bodies

  -- a call of `out` through ANY
  out_gives : OutGives c
  out_gives w t heap something fits =
      let o = as_object system (heap_of t) (plain_type any_number) w something fits in
      let over = laws.types.down o.object any_number Attached no_actuals o.conforms in
      let answered = laws.features.answered o.object.made (object_made system laws.types
      (heap_of t) w o.object heap o.there)
      any_number no_actuals over out_name (record { arguments = []; result = Some string_type }) laws.features.out in
      subst (λ p. Safe (some_or no_feature p
      (λ g. feature_on c w any_number out_name [] >>= (λ a. give (seen_as (option_map
      (put_in no_actuals) g.result) a))) t)
      (EndsIn system string_type t)) (sym laws.features.out)
      (chain (feature_on c w any_number out_name []) (λ a. give (seen_as (Some string_type) a)) t
      (Called u laws r (Some string_type) t) (EndsIn system string_type t)
      (on_complete u laws r t heap w o.object o.there o.object.made refl any_number out_name []
      (Some string_type) answered []
      tt o.complete)
      go)
    where
      go : (x : State) (a : Option Value) → Called u laws r (Some string_type) t x a
          → Safe (give (seen_as (Some string_type) a) x) (EndsIn system string_type t)
      go x None h = absurd h.1
      go x (Some z) h = (h.0, (h.1, refl))

  built_in_ok : (b : BuiltIn) → built_in_body y.class_number y.name ≡ Some b
      → Safe (run_code c vs (Some b) first) Left
  built_in_ok b is =
      let k = laws.bodies.built_in y e.routine b is in
      let same = ap (with_actuals xs) k.signature_is in
      safe_more (run_code c vs (Some b) first) (BodyEnds c b first) Left
      (λ t a ends. record {
        heap = ends.0.heap;
        grown = ends.0.grown;
        answers = subst (λ (g : Signature). Answers system t.store.heap g.result a) (sym same) ends.1;
        ready = ready_unset t ends.0 k.empty;
      })
      (built_in_answers c laws.types out_gives first b vs k.class_is e.heap
      (record { object = e.object; there = e.there; over = e.over })
      (subst (λ (g : Signature). AllFit system s.heap g.arguments vs) same e.fit))

  -- ---- constants

  literal_types : (x : Literal) → laws_of.literal_type x ≡ put_in xs (types.literal_type x)
  literal_types (lit.Int n) = refl
  literal_types (lit.Char n) = refl
  literal_types (lit.Text n) = refl
  literal_types (lit.Bool n) = refl

  constant_ok : (x : Literal) → built_in_body y.class_number y.name ≡ None → y.tree.kind ≡ constant x
      → Safe (run_written c (constant x) first) Left
  constant_ok x none is =
      let k = laws.bodies.constant_of y e.routine x none is in
      let suit = laws.open_types.above e.object.made made y.class_number xs e.over in
      let type : Some (put_in xs (resolved u text k.0)) ≡ (signature_on u text y xs).result =
      ap (λ o. option_map (put_in xs) (option_map (resolved u text) o)) (sym k.1) in
      chain (evaluate_literal x >>= need) (λ z. give (Some z.value)) first
      (λ t z. Extends system first t × Fits system (heap_of t) (laws_of.literal_type x) z.value) Left
      (chain (evaluate_literal x) need first (EndsIn system (laws_of.literal_type x) first) _
      (literal_given system laws.types x first e.heap) go)
      (λ t z h. record {
        heap = h.0.heap;
        grown = h.0.grown;
        answers = subst (λ o. Answers system t.store.heap o (Some z.value)) type
            (fits_conforming system laws.types (heap_of t) (put_in xs (types.literal_type x)) (put_in xs
            (resolved u text k.0)) z.value
            (laws.open_types.closes y.class_number xs suit (types.literal_type x) (resolved u text k.0) k.2)
            (subst (λ a. Fits system (heap_of t) a z.value) (literal_types x) h.1));
        ready = ready_unset t h.0 (ap body_of is);
      })
    where
      go : (t : State) (o : Option Seen) → EndsIn system (laws_of.literal_type x) first t o
          → Safe (need o t) (λ t z. Extends system first t × Fits system (heap_of t) (laws_of.literal_type x) z.value)
      go t None h = absurd h.1
      go t (Some z) h = (h.0, h.1.0)

  -- ---- written bodies

  module _ (locals : List GroupT) (body : Inss) (is : y.tree.kind ≡ routine locals body)
      (k : IsWrittenBody u y text body) where
    abbrev lawful : IsWrittenRoutine u r
    lawful = record {
      no_field = e.routine.no_field;
      effective = e.routine.effective;
      entities = k.valid.entities;
      no_result = k.no_result;
      named = k.named;
    }

    -- what begins by a type that is written
    starts : (t : TypeT) (w : Value) → start (system.resolve y.class_number t) ≡ Some w
        → Fits system s.heap (put_in xs (resolved u text t)) w
    starts t w at = start_fits system laws.types s.heap xs (resolved u text t) w (sym (ap start
        (written_here t)) ∙ at)

    sure : (x : List ℕ) (t : TypeT) → reads.IsSet [] x (resolved u text t)
        → IsSet (start (system.resolve y.class_number t))
    sure x t h =
        subst (λ t. IsSet (start t)) (sym (written_here t))
        (start_is_set (resolved u text t) (is_self_initialising (resolved u text t)) refl h)

    from_start : (o : Option TypeT) (t : TypeT) (w : Value) → o ≡ Some t
        → option_and_then (λ t. start (system.resolve y.class_number t)) o ≡ Some w
        → start (system.resolve y.class_number t) ≡ Some w
    from_start o t w e at = sym (ap (option_and_then (λ t. start (system.resolve y.class_number t))) e) ∙ at

    local_type : (x : List ℕ) (t : TypeT) → entity y.tree x ≡ Some (local t)
        → type_in (local_groups y.tree.kind) x ≡ Some t
    local_type x t i = by (type_in y.tree.arguments x) (type_in (local_groups y.tree.kind) x) i
      where
        by : (a b : Option TypeT) → entity_by a b ≡ Some (local t) → b ≡ Some t
        by (Some a) b i = cc
        by None (Some b) i = let q : b ≡ t = cc in ap Some q
        by None None i = cc

    argument_type : (x : List ℕ) (t : TypeT) → entity y.tree x ≡ Some (argument t)
        → type_in y.tree.arguments x ≡ Some t
    argument_type x t i = by (type_in y.tree.arguments x) (type_in (local_groups y.tree.kind) x) i
      where
        by : (a b : Option TypeT) → entity_by a b ≡ Some (argument t) → a ≡ Some t
        by (Some a) b i = let q : a ≡ t = cc in ap Some q
        by None (Some b) i = cc
        by None None i = cc

    begins : Good u r [] [] f first
    begins = record {
      heap = e.heap;
      object = e.object;
      there = e.there;
      made = refl;
      ready = e.ready;
      arguments = λ x t i. in_groups u text xs s.heap x y.tree.arguments vs e.fit t (argument_type x t i);
      locals = λ x t i w at. starts t w (from_start (type_in (local_groups y.tree.kind) x) t w (local_type x t i) at);
      locals_set = λ x t i h.
          subst (λ o. IsSet (option_and_then (λ t. start (system.resolve y.class_number t)) o)) (sym
          (local_type x t i)) (sure x t h);
      result = λ t i w at. starts t w (from_start y.tree.result_type t w i at);
      result_set = λ t i h.
          subst (λ o. IsSet (option_and_then (λ t. start (system.resolve y.class_number t)) o)) (sym i)
          (sure result_name t h);
      tests = λ x w i. cc;
      known = held_none u r first;
    }

    -- arguments, locals and Result are no features
    entity_unknown : (x : List ℕ) → (o : Option Entity) → entity y.tree x ≡ o → (o ≡ None → ⊥)
        → signature u (line_of u y.class_number) x ≡ None
    entity_unknown x o i some =
        ⊎_elim (λ a. laws.features.unknown y.class_number x (k.valid.entities.no_feature x a.2.0 a.2.1))
        (λ rest. ⊎_elim (λ a. laws.features.unknown y.class_number x (k.valid.entities.no_feature x a.2.0 a.2.1))
        (λ a. absurd (some (sym i ∙ a.0))) rest)
        (entity_cases u text y.tree x)

    has_entity : (x : List ℕ) (a b : Option TypeT) → entity_by a b ≡ None → (a ≡ None) × (b ≡ None)
    has_entity x (Some a) b i = cc
    has_entity x None (Some b) i = cc
    has_entity x None None i = (refl, refl)

    hides : HidesNone u r (entity_names y.tree)
    hides x h =
        or_cases (bytes_eq x result_name) _ h
        (λ q. subst (λ n. signature u (line_of u y.class_number) n ≡ None) (sym
        ((bytes_eq-Decides x result_name).0 q))
        (laws.features.no_result y.class_number))
        (λ q. among_cases (group_names y.tree.arguments) (group_names (local_groups y.tree.kind)) x q
        (λ i. let t = named_type y.tree.arguments x i in
        entity_unknown x (entity y.tree x) refl
        (λ n. let q : Some t.0 ≡ None = sym t.1 ∙ (has_entity x (type_in y.tree.arguments x) _ n).0 in cc))
        (λ i. let t = named_type (local_groups y.tree.kind) x i in
        entity_unknown x (entity y.tree x) refl
        (λ n. let q : Some t.0 ≡ None = sym t.1 ∙ (has_entity x (type_in y.tree.arguments x) _ n).1 in cc)))

    abbrev flow : Flow
    flow = compound_flow (meanings_in u (line_of u d) y) (entity_names y.tree) body

    flow_is : flow_on u d y ≡ flow
    flow_is = ap (λ kind. compound_flow (meanings_in u (line_of u d) y) (entity_names y.tree) (body_of kind)) is

    valid_routine : ValidRoutine (in_body u y.class_number text y.tree) body
    valid_routine = subst (ValidKind (in_body u y.class_number text y.tree)) is k.valid.body

    -- what was set is told of the flow
    leaves : (t : State) (a : Option Value)
        → Done u r (known_after_all (setting_of u r) [] body) (set_after_all [] body)
        (behind u d flow f) first t tt → Answers system t.store.heap (signature_on u text y xs).result a → Left t a
    leaves t a ended answers = record {
      heap = ended.good.heap;
      grown = ended.grown;
      answers = answers;
      ready = λ o at.
          subst (λ (o : Object). Ready u (behind u o.made.class_number (flow_on u o.made.class_number y) f) o)
          (some_is (sym ended.good.there ∙ at))
          (subst (λ (ty : ClassType). Ready u (behind u ty.class_number
          (flow_on u ty.class_number y) f) ended.good.object)
          (sym ended.good.made)
          (subst (λ m. Ready u (behind u d m f) ended.good.object) (sym flow_is) ended.good.ready));
    }

    finish_ok : (t : State) (o : Option TypeT) → y.tree.result_type ≡ o
        → Done u r (known_after_all (setting_of u r) [] body) (set_after_all [] body)
        (behind u d flow f) first t tt
        → reads.ResultIsSet (set_after_all [] body) (option_map (resolved u text) o) → Safe (finish o t) Left
    finish_ok t None i ended set =
        leaves t None ended (subst (λ o. Answers system t.store.heap (option_map (put_in xs) (option_map
        (resolved u text) o)) None) (sym i) tt)
    finish_ok t (Some a) i ended set =
        let w = set_is t.result (ended.good.result_set a i set) in
        subst (λ o. Safe (some_or unset o (λ v. give (Some v)) t) Left) (sym w.1)
        (leaves t (Some w.0) ended
        (subst (λ o. Answers system t.store.heap (option_map (put_in xs) (option_map (resolved u text) o))
        (Some w.0)) (sym i)
        (ended.good.result a i w.0 w.1)))

    written_ok : Safe (run_written c (routine locals body) first) Left
    written_ok =
        chain (execute_all c body) (λ _. finish y.tree.result_type) first _ Left
        (compounds_keep u laws r lawful [] [] (entity_names y.tree) f body valid_routine.body_valid k.written hides
        (subst (λ m. Met u d m f) flow_is e.met) first begins)
        (λ t o ended. finish_ok t y.tree.result_type refl (unit_done t o ended) valid_routine.result_set)
      where
        unit_done : (t : State) (o : Unit {0})
            → Done u r (known_after_all (setting_of u r) [] body) (set_after_all [] body)
            (behind u d flow f) first t o
            → Done u r (known_after_all (setting_of u r) [] body) (set_after_all [] body)
            (behind u d flow f) first t tt
        unit_done t o ended = record { grown = ended.grown; good = ended.good }

  -- ---- a body

  by_kind : (kind : KindT) → y.tree.kind ≡ kind → built_in_body y.class_number y.name ≡ None
      → Safe (run_written c kind first) Left
  by_kind attribute is none = let q : true ≡ false = sym (ap is_attribute is) ∙ e.routine.no_field in cc
  by_kind (constant x) is none = constant_ok x none is
  by_kind deferred_body is none = let q : true ≡ false = sym (ap is_deferred_kind is) ∙ e.routine.effective in cc
  by_kind (routine locals body) is none = written_ok locals body is
      (laws.bodies.routine_of y e.routine locals body none is)

  by_body : (o : Option BuiltIn) → built_in_body y.class_number y.name ≡ o → Safe (run_code c vs o first) Left
  by_body (Some b) is = built_in_ok b is
  by_body None is = by_kind y.tree.kind refl is

  pub body_ok : Safe (after (run_code c vs (system.built_in y.class_number y.name) first) (λ t a. done t.store a))
      (Leaves u s.heap v y xs f text)
  body_ok =
      safe_after (run_code c vs (built_in_body y.class_number y.name) first) (λ (t : State) a. done t.store a) Left _
      (by_body (built_in_body y.class_number y.name) refl) (λ t a h. h)

-- ---- levels

module _ (u : List ClassT) (laws : UniverseLaws u) (turns : ℕ) where
  pub level_ok : (n : ℕ) → RunsBodies u (level (system_over u) turns n)
  level_ok zero v y xs vs f s e = tt
  level_ok (suc n) v y xs vs f s e =
      body_ok u laws turns (level (system_over u) turns n) (level_ok n) v y xs vs f s e
