-- Instructions without faults.
use Rattle.std.proofs.Common.{◌≡◌, ℕ, zero, suc, Bool, true, false, List, [], ◌∷◌, ◌++◌, map, Option, Some, None, refl, sym, ap, subst, ◌∙◌, inl, inr, ⊎_elim}
use Rattle.std.specs.Prelude.{◌||◌, if◌then◌else◌}
use Rattle.std.specs.Option.{option_map, option_and_then}
use Rattle.std.specs.Str.{bytes_eq}
use Rattle.std.proofs.lemmas.Slice.Eq.{bytes_eq-Decides}
use Rattle.eif_base.specs.declared.code.Code.TheVariants as code
use Rattle.eif_base.specs.declared.place.Place.{Place}
use Rattle.eif_base.specs.Numbering.{is_among}
use Rattle.eif_tree.specs.declared.tree.NameAt.{NameAt}
use Rattle.eif_tree.specs.Members.{result_name}
use Rattle.eif_tree.specs.Tree.{TypeT, Ex, unqualified, precursor, qualified, Exs, no_exs, and_ex, Ins, assign, call, create, choose, loop, check, Inss, no_inss, and_ins, Branches, no_branches, and_branch, Otherwise, no_else, else_part, ClassT}
use Rattle.eif_classes.specs.Constraints.{class_in}
use Rattle.eif_classes.specs.Resolution.{resolved}
use Rattle.eif_classes.specs.Signatures.{Signature, signature}
use Rattle.eif_classes.specs.Types.{TyT, class_type, formal_type, none_type, attached_form, put_in_all, is_self_initialising}
use Rattle.eif_system.specs.Lineage.{line_of}
use Rattle.eif_body_rules.specs.CallRules.{Argument}
use Rattle.eif_body_rules.specs.CreationRules.{of_written}
use Rattle.eif_body_rules.specs.ExpressionTypes.{judge, facts}
use Rattle.eif_body_rules.specs.Facts.{Fact, Usable, usable_test}
use Rattle.eif_body_rules.specs.InstructionFaults.{judge_each, of_target}
use Rattle.eif_body_rules.specs.KnownFacts.{known_after, known_after_all, known_in_loop, known_where, known_otherwise, has_attached_type}
use Rattle.eif_body_rules.specs.LocalFlow.{common_names, set_after, set_after_all, set_by_branches, set_otherwise}
use Rattle.eif_body_rules.specs.Settings as rules
use Rattle.eif_body_rules.specs.Settings.{Setting, fits, Entity, entity_of, or_feature, or_entity, or_test, meaning}
use Rattle.eif_body_rules.specs.TestRules.{test_names, test_names_in}
use Rattle.eif_flow_rules.specs.FieldSets.{FieldSet}
use Rattle.eif_flow_rules.specs.FlowSteps.{instruction_flow, compound_flow, branches_flow, otherwise_flow}
use Rattle.eif_flow_rules.specs.TestLocals.{usable_if_true, usable_if_false}
use Rattle.eif_meaning.specs.Values.{Value, Object, Seen, State, no_feature, cut_off, Does, ◌>>=◌, give, some_or, need}
use Rattle.eif_meaning.specs.System.{System, system_over}
use Rattle.eif_meaning.specs.Frames.{Frame, written_type, local, entity}
use Rattle.eif_meaning.specs.Calls.{is_void, call_name, call_on, call_version}
use Rattle.eif_meaning.specs.Creations.{create_object}
use Rattle.eif_meaning.specs.Assignments.{set_target, bound_type, entity_type, target_type, created_type}
use Rattle.eif_meaning.specs.Evaluation.{written_name, version, evaluate, evaluate_all, value_of}
use Rattle.eif_meaning.specs.Execution.{condition, run_loop, run_creation, execute, execute_all, execute_branches, execute_otherwise}
use Rattle.eif_valid_bodies.specs.KnownStays.{Fewer}
use Rattle.eif_valid_bodies.specs.SetReads as reads
use Rattle.eif_valid_bodies.specs.SetReads.{SetReads, SetReadsEach}
use Rattle.eif_valid_bodies.specs.Valid.{Valid}
use Rattle.eif_valid_bodies.specs.ValidCalls as valid_calls
use Rattle.eif_valid_bodies.specs.ValidInstructions.{ValidExpression, ValidCondition, IsVariable, IsTargetBy, IsTarget, ValidStatement, IsCreatedFor, ValidInstruction, ValidCompound, ValidBranches, ValidOtherwise}
use Rattle.eif_valid_bodies.proofs.Calls.{none_whole_given, more_whole_given}
use Rattle.eif_valid_bodies.proofs.Staying.{fewer_where, fewer_branch, fewer_later, fewer_else, fewer_none, fewer_first, fewer_next, fewer_last}
use Rattle.eif_run_laws.specs.Holders.{Fits, AllFit, Grow}
use Rattle.eif_run_laws.specs.Steps.{Safe, heap_of, Extends}
use Rattle.eif_run_laws.proofs.Lists.{some_is}
use Rattle.eif_run_laws.proofs.Growing.{grow_same, grow_on, fits_grown}
use Rattle.eif_run_laws.proofs.Fitting.{as_object, from_object, object_fits}
use Rattle.eif_run_laws.proofs.Keeps.{safe_more}
use Rattle.eif_run_sound.specs.Bodies.{IsWrittenRoutine, Running, frame_of, setting_of, meanings_of, written, closed}
use Rattle.eif_run_sound.specs.ExpressionRuns.{flow_of, flow_of_all, MetOn, behind_on, HidesNone, IsTypeOfText, Evaluated, AllEvaluated, types_of}
use Rattle.eif_run_sound.specs.InstructionRuns.{Done, CompoundsKeep}
use Rattle.eif_run_sound.specs.Invariant.{Gives, DenotesNothing, Good}
use Rattle.eif_run_sound.specs.UniverseLaws.{IsTypeIn, UniverseLaws}
use Rattle.eif_spelled_trees.specs.WrittenTexts.{OfType, IsWritten, AreWritten, InstructionIsWritten, CompoundIsWritten, BranchesAreWritten, OtherwiseIsWritten}
use Rattle.eif_run_sound.proofs.States.{or_cases, or_left, or_right, chain, later_same, later_on, shows_grown, good_extends, good_known, good_ready}
use Rattle.eif_run_sound.proofs.Flows.{and_left, and_right}
use Rattle.eif_run_sound.proofs.Known.{held_both, held_fewer, told_apart}
use Rattle.eif_run_sound.proofs.Types.{suit, has_base, fits_in}
use Rattle.eif_run_sound.proofs.Entities.{entity_cases}
use Rattle.eif_run_sound.proofs.Names.{attached_twice, written_is, no_entity_of, name_ok}
use Rattle.eif_run_sound.proofs.Targets.{not_void, target_ok}
use Rattle.eif_run_sound.proofs.Creations.{created_ok}
use Rattle.eif_run_sound.proofs.Operands.{hides_more, true_is_test, false_is_test}
use Rattle.eif_run_sound.proofs.Expressions.{stays_set, valued, truth_of, entity_none, routine, version_ok, evaluate_ok, arguments_ok}
use Rattle.eif_run_sound.proofs.Assigned.{set_ok}

-- ---- names that are surely set

kept_or : (ys xs : List (List ℕ)) (z x : List ℕ) (b : Bool) → is_among ys z ≡ b
    → (bytes_eq x z || is_among xs x) ≡ true
    → is_among ys x ≡ true → (is_among xs x ≡ true → is_among (common_names xs ys) x ≡ true)
    → is_among (if b then z ∷ common_names xs ys else common_names xs ys) x ≡ true
kept_or ys xs z x true e h i rest =
    or_cases (bytes_eq x z) (is_among xs x) h (λ q. or_left (bytes_eq x z) (is_among (common_names xs ys) x) q)
    (λ q. or_right (bytes_eq x z) (is_among (common_names xs ys) x) (rest q))
kept_or ys xs z x false e h i rest =
    or_cases (bytes_eq x z) (is_among xs x) h
    (λ q. let n : true ≡ false = sym i ∙ (ap (is_among ys) ((bytes_eq-Decides x z).0 q) ∙ e) in cc) rest

among_kept : (ys xs : List (List ℕ)) (x : List ℕ) → is_among xs x ≡ true → is_among ys x ≡ true
    → is_among (common_names xs ys) x ≡ true
among_kept ys [] x h i = h
among_kept ys (z ∷ xs) x h i = kept_or ys xs z x (is_among ys z) refl h i (λ q. among_kept ys xs x q i)

abbrev InBoth : List (List ℕ) → List (List ℕ) → List ℕ → Type 0
InBoth ys xs x = (is_among xs x ≡ true) × (is_among ys x ≡ true)

both_or : (ys xs : List (List ℕ)) (z x : List ℕ) (b : Bool) → is_among ys z ≡ b
    → is_among (if b then z ∷ common_names xs ys else common_names xs ys) x ≡ true
    → (is_among (common_names xs ys) x ≡ true → InBoth ys xs x) → InBoth ys (z ∷ xs) x
both_or ys xs z x true e h rest =
    or_cases (bytes_eq x z) (is_among (common_names xs ys) x) h
    (λ q. (or_left (bytes_eq x z) (is_among xs x) q, ap (is_among ys) ((bytes_eq-Decides x z).0 q) ∙ e))
    (λ q. let p = rest q in (or_right (bytes_eq x z) (is_among xs x) p.0, p.1))
both_or ys xs z x false e h rest = let p = rest h in (or_right (bytes_eq x z) (is_among xs x) p.0, p.1)

among_both : (ys xs : List (List ℕ)) (x : List ℕ) → is_among (common_names xs ys) x ≡ true
    → (is_among xs x ≡ true) × (is_among ys x ≡ true)
among_both ys [] x h = cc
among_both ys (z ∷ xs) x h = both_or ys xs z x (is_among ys z) refl h (among_both ys xs x)

mutual
  set_stays : (i : Ins) (set : List (List ℕ)) (x : List ℕ) → is_among set x ≡ true
      → is_among (set_after set i) x ≡ true
  set_stays (assign y e) set x h = or_right (bytes_eq x y.name) _ h
  set_stays (call e) set x h = h
  set_stays (create p t y f args) set x h = or_right (bytes_eq x y.name) _ h
  set_stays (choose bs o) set x h = branches_stay bs set (set_otherwise set o) x h (otherwise_stays o set x h)
  set_stays (loop start claims exit body variant) set x h = all_set_stays start set x h
  set_stays (check claims) set x h = h

  all_set_stays : (is : Inss) (set : List (List ℕ)) (x : List ℕ) → is_among set x ≡ true
      → is_among (set_after_all set is) x ≡ true
  all_set_stays no_inss set x h = h
  all_set_stays (and_ins i is) set x h = all_set_stays is (set_after set i) x (set_stays i set x h)

  branches_stay : (bs : Branches) (set other : List (List ℕ)) (x : List ℕ) → is_among set x ≡ true
      → is_among other x ≡ true → is_among (set_by_branches set bs other) x ≡ true
  branches_stay no_branches set other x h i = i
  branches_stay (and_branch e is bs) set other x h i =
      among_kept (set_by_branches set bs other) (set_after_all set is) x (all_set_stays is set x h)
      (branches_stay bs set other x h i)

  otherwise_stays : (o : Otherwise) (set : List (List ℕ)) (x : List ℕ) → is_among set x ≡ true
      → is_among (set_otherwise set o) x ≡ true
  otherwise_stays no_else set x h = h
  otherwise_stays (else_part is) set x h = all_set_stays is set x h

module _ (u : List ClassT) (laws : UniverseLaws u) (r : Running u) (lawful : IsWrittenRoutine u r) where
  abbrev system : System
  system = system_over u

  abbrev c : Frame
  c = frame_of u r

  abbrev S : Setting
  S = setting_of u r

  abbrev class_of_text : ℕ
  class_of_text = r.declaration.class_number

  -- ---- less is said

  good_set : (k : List Fact) (less more : List (List ℕ)) (f : FieldSet) (s : State)
      → ((x : List ℕ) → is_among less x ≡ true → is_among more x ≡ true) → Good u r k more f s → Good u r k less f s
  good_set k less more f s within g = record {
    heap = g.heap;
    object = g.object;
    there = g.there;
    made = g.made;
    ready = g.ready;
    arguments = g.arguments;
    locals = g.locals;
    locals_set = λ x t e sure. g.locals_set x t e (weaker x (written u r t) sure);
    result = g.result;
    result_set = λ t e sure. g.result_set t e (weaker result_name (written u r t) sure);
    tests = g.tests;
    known = g.known;
  }
    where
      weaker : (x : List ℕ) (t : TyT) → reads.IsSet less x t → reads.IsSet more x t
      weaker x t h =
          or_cases (is_self_initialising t) _ h (λ q. or_left (is_self_initialising t) _ q)
          (λ q. or_right (is_self_initialising t) _ (within x q))

  good_less : (k : List Fact) (set : List (List ℕ)) (less more : FieldSet) (s : State)
      → ((x : List ℕ) → less x ≡ true → more x ≡ true) → Good u r k set more s → Good u r k set less s
  good_less k set less more s within g =
      good_ready u r k set more less s g (λ n t e h. g.ready n t e
      (or_cases (is_self_initialising t) _ h (λ q. or_left (is_self_initialising t) _ q)
      (λ q. or_right (is_self_initialising t) _ (within n q))))

  good_fewer : (k l : List Fact) (set : List (List ℕ)) (f : FieldSet) (s : State)
      → Fewer k l → Good u r l set f s → Good u r k set f s
  good_fewer k l set f s fewer g = good_known u r l k set f s g (held_fewer u r k l s fewer g.known)

  done_on : (k : List Fact) (set : List (List ℕ)) (f : FieldSet) (s t v : State) (o : Unit {0})
      → Grow (heap_of s) (heap_of t)
      → Done u r k set f t v o → Done u r k set f s v o
  done_on k set f s t v o g d = record {
    grown = grow_on (heap_of s) (heap_of t)
        (heap_of v) g d.grown;
    good = d.good;
  }

  -- ---- conditions

  -- the text goes on with the BOOLEAN, and what it tells is known
  condition_ok : (k : List Fact) (set hidden : List (List ℕ)) (f : FieldSet) (e : Ex) → ValidCondition S k set e
      → IsWritten (IsTypeOfText u r) e → HidesNone u r hidden → MetOn u r (flow_of u r hidden e) f
      → (s : State) → Good u r k set f s → (m : Bool → Does (Unit {0})) (Q : State → Unit {0} → Type 0)
      → ((b : Bool) (v : State) → Grow (heap_of s) (heap_of v)
      → Good u r (known_where S k b e) set (behind_on u r (flow_of u r hidden e) f) v → Safe (m b v) Q)
      → Safe ((value_of c e >>= (λ w. condition w.value m)) s) Q
  condition_ok k set hidden f e valid written hides met s g m Q h =
      let f1 = behind_on u r (flow_of u r hidden e) f in
      chain (value_of c e) (λ w. condition w.value m) s _ Q
      (valued u laws r lawful k [] set f1 e valid.type s
      (evaluate_ok u laws r lawful e k [] set hidden f valid.type valid.valid valid.reads written hides met s g))
      (λ v w ev.
      let b = truth_of u laws r lawful (heap_of v) valid.type w ev.good.heap ev.gives valid.truth in
      subst (λ z. Safe (condition z m v) Q) (sym b.1)
      (h b.0 v ev.later.grown
      (good_known u r k (known_where S k b.0 e) set f1 v ev.good
      (held_both u r k (facts S k [] b.0 e) v ev.good.known (ev.told.held w b.0 refl b.1)
      (told_apart S k [] b.0 e valid.type valid.valid)))))

  -- ---- calls as instructions

  abbrev Dropped : List Fact → List (List ℕ) → FieldSet → State → State → Option Seen → Type 0
  Dropped k set f s v o = Grow (heap_of s) (heap_of v) × Good u r k set f v

  -- what is no call has a value, which is dropped
  dropped_ok : (e : Ex) (k : List Fact) (set hidden : List (List ℕ)) (f : FieldSet) → ValidExpression S k set e
      → IsWritten (IsTypeOfText u r) e → HidesNone u r hidden → MetOn u r (flow_of u r hidden e) f
      → (s : State) → Good u r k set f s
      → Safe (evaluate c e s) (Dropped k set (behind_on u r (flow_of u r hidden e) f) s)
  dropped_ok e k set hidden f valid spelled hides met s g =
      safe_more (evaluate c e s)
      (Evaluated u r k [] set (behind_on u r (flow_of u r hidden e) f) e valid.type s)
      (Dropped k set (behind_on u r (flow_of u r hidden e) f) s)
      (λ v o ev. (ev.later.grown, ev.good))
      (evaluate_ok u laws r lawful e k [] set hidden f valid.type valid.valid valid.reads spelled hides met s g)

  statement_ok : (e : Ex) (k : List Fact) (set hidden : List (List ℕ)) (f : FieldSet) → ValidStatement S k set e
      → IsWritten (IsTypeOfText u r) e → HidesNone u r hidden → MetOn u r (flow_of u r hidden e) f
      → (s : State) → Good u r k set f s
      → Safe (evaluate c e s) (Dropped k set (behind_on u r (flow_of u r hidden e) f) s)
  statement_ok (unqualified p x args) k set hidden f valid written hides met s g =
      let w = valid.0 in
      let f1 = behind_on u r (flow_of_all u r hidden args) f in
      chain (evaluate_all c args) (call_name c x) s _ _
      (arguments_ok u laws r lawful args k [] set hidden f w.given w.args_valid valid.1 written.1 hides met.0 s g)
      (λ v vs a. safe_more (call_name c x vs v) _ _
      (λ y o h. (grow_on (heap_of s) (heap_of v) (heap_of y) a.later.grown h.later.grown, h.good))
      (name_ok u laws r k set hidden f1 p x w.given None vs v a.good hides a.fit
      (entity_none u laws r lawful x) w.gives
      (λ e. no_read w.gives e) met.1))
    where
      no_read : valid_calls.Gives S k x valid.0.given None (meaning S k x) → valid.0.given ≡ []
          → reads.LocalIsSet set x (meaning S k x)
      no_read gives e = no_read_by (meaning S k x) gives
        where
          no_read_by : (m : rules.Meaning)
              → valid_calls.Gives S k x valid.0.given None m → reads.LocalIsSet set x m
          no_read_by (rules.test_local t) h = tt
          no_read_by (rules.entity y) h = let q = h.1 in cc
          no_read_by (rules.feature y) h = tt
          no_read_by rules.unknown h = tt
  statement_ok (precursor p parent args) k set hidden f valid written hides met s g =
      let w = valid.0 in
      let f1 = behind_on u r (flow_of_all u r hidden args) f in
      chain (evaluate_all c args) (call_version c (version c (written_name parent))) s _ _
      (arguments_ok u laws r lawful args k [] set hidden f w.given w.args_valid valid.1 written hides met.0 s g)
      (λ v vs a. safe_more (call_version c (version c (written_name parent)) vs v) _ _
      (λ y o h. (grow_on (heap_of s) (heap_of v) (heap_of y) a.later.grown h.0.grown, h.1))
      (version_ok u laws r lawful k [] set f1 p parent args None w vs v a.good a.fit met.1))
  statement_ok (qualified p e x args) k set hidden f valid written hides met s g =
      let w = valid.0 in
      let f1 = behind_on u r (flow_of u r hidden e) f in
      let f2 = behind_on u r (flow_of_all u r hidden args) f1 in
      chain (evaluate c e >>= need) (λ z. evaluate_all c args >>= call_on c z x.name) s _ _
      (valued u laws r lawful k [] set f1 e w.target s
      (evaluate_ok u laws r lawful e k [] set hidden f w.target w.target_valid valid.1.0 written.0 hides met.0 s g))
      (λ v z ev. chain (evaluate_all c args) (call_on c z x.name) v _ _
      (arguments_ok u laws r lawful args k (test_names e) set hidden f1 w.given w.args_valid valid.1.1 written.1 hides
      met.1 v ev.good)
      (λ y vs a. safe_more (call_on c z x.name vs y) _ _
      (λ l o h. (
        grow_on (heap_of s) (heap_of v) (heap_of l) ev.later.grown (grow_on (heap_of v) (heap_of y)
            (heap_of l) a.later.grown h.0.grown),
        good_extends u r k set f2 y l a.good h.0,
      ))
      (target_ok u laws r y a.good.heap w.target z x.name w.given None w.signed vs w.target_attached w.found w.called
      w.result_is (shows_grown u r (heap_of v) (heap_of y) w.target z a.later.grown ev.gives) a.fit)))
  statement_ok e k set hidden f valid written hides met s g = dropped_ok e k set hidden f valid written hides met s g

  -- ---- creations

  -- each argument is a whole expression
  each_ok : (es : Exs) (k : List Fact) (set hidden : List (List ℕ)) (f : FieldSet) (given : List Argument)
      → Valid (judge_each S k es) given → SetReadsEach S k set es → AreWritten (IsTypeOfText u r) es
      → HidesNone u r hidden → MetOn u r (flow_of_all u r hidden es) f → (s : State) → Good u r k set f s
      → Safe (evaluate_all c es s) (AllEvaluated u r k set (behind_on u r (flow_of_all u r hidden es) f) es given s)
  each_ok no_exs k set hidden f given valid sets written hides met s g = record {
    later = later_same [] s;
    good = g;
    fit = subst (λ a. AllFit system (heap_of s) (map (closed r) (types_of a)) []) (sym
        (none_whole_given S k given valid)) tt;
  }
  each_ok (and_ex e es) k set hidden f given valid sets written hides met s g =
      let w = more_whole_given S k e es given valid in
      let f1 = behind_on u r (flow_of u r hidden e) f in
      chain (evaluate c e >>= need) (λ z. evaluate_all c es >>= (λ vs. give (z.value ∷ vs))) s _ _
      (valued u laws r lawful k [] set f1 e w.type s
      (evaluate_ok u laws r lawful e k [] set hidden f w.type w.first_valid sets.0 written.0 hides met.0 s g))
      (λ v z ev. chain (evaluate_all c es) (λ vs. give (z.value ∷ vs)) v _ _
      (each_ok es k set hidden f1 w.rest w.rest_valid sets.1 written.1 hides met.1 v ev.good)
      (λ y vs a. record {
        later = later_on (test_names e) (test_names_in es) s v y ev.later a.later;
        good = a.good;
        fit = subst (λ a. AllFit system (heap_of y) (map (closed r) (types_of a)) (z.value ∷ vs)) (sym w.is)
            (fits_grown system (heap_of v) (heap_of y) (closed r w.type) z.value a.later.grown ev.gives.fits, a.fit);
      }))

  -- the type of a target, as rules and runs see it
  abbrev TargetTyped : List ℕ → TyT → State → Type 0
  TargetTyped x t s = (target_type c x s ≡ Some t) × IsTypeIn u class_of_text t

  module _ (k : List Fact) (set : List (List ℕ)) (f : FieldSet) (s : State) (g : Good u r k set f s) (x : List ℕ)
      (t : TyT) where
    result_typed : (o : Option TypeT) → r.declaration.tree.result_type ≡ o → option_map (resolved u r.text) o ≡ Some t
        → (option_map (written_type c) o ≡ Some t) × IsTypeIn u class_of_text t
    result_typed None is e = cc
    result_typed (Some a) is e = (
      ap Some (written_is u laws r a) ∙ e,
      subst (IsTypeIn u class_of_text) (some_is e)
          (laws.bodies.locals_typed r.declaration (routine u laws r lawful) a (inr is)),
    )

    not_bound : (DenotesNothing u r x → ⊥) → s.test x ≡ None
    not_bound n = by (s.test x) refl
      where
        by : (o : Option Seen) → s.test x ≡ o → s.test x ≡ None
        by None e = e
        by (Some w) e = absurd (n (g.tests x w e).1)

    -- of a local or an attribute
    abbrev Typed : Type 0
    Typed = (bound_type (s.test x) (entity_type c (entity r.declaration.tree x) x) ≡ Some t)
        × IsTypeIn u class_of_text t

    variable_typed : (o : Option Usable) (e : Option Entity) (sg : Option Signature) → entity_of S x ≡ e
        → signature u (line_of u class_of_text) x ≡ sg → IsVariable S x t (or_test (or_entity (or_feature sg) e) o)
        → Typed
    variable_typed (Some w) e sg j l h = absurd h
    variable_typed None (Some e) sg j l h =
        ⊎_elim
        (λ a. let q : true ≡ false =
        sym h.0 ∙ (ap (λ (e : Entity). e.is_local) (sym (some_is (sym a.2.1 ∙ j))) ∙ a.2.3) in cc)
        (λ rest. ⊎_elim
        (λ a. let type : written u r a.0 ≡ t =
        sym a.2.2 ∙ (ap (λ (e : Entity). e.type) (some_is (sym a.2.1 ∙ j)) ∙ h.1) in (
          ap (λ o. bound_type o (entity_type c (entity r.declaration.tree x) x))
              (not_bound (λ n. let q : None ≡ Some (local a.0) = sym n.entity_none ∙ a.1 in cc))
              ∙ (ap (λ o. entity_type c o x) a.1 ∙ ap Some (written_is u laws r a.0 ∙ type)),
          subst (IsTypeIn u class_of_text) type
              (laws.bodies.locals_typed r.declaration (routine u laws r lawful) a.0 (inl (x, a.1))),
        ))
        (λ a. let q : None ≡ Some e = sym a.1 ∙ j in cc) rest)
        (entity_cases u r.text r.declaration.tree x)
    variable_typed None None (Some sg) j l h = (
      ap (λ o. bound_type o (entity_type c (entity r.declaration.tree x) x))
          (not_bound (λ n. let q : None ≡ Some sg = sym n.feature_none ∙ l in cc))
          ∙ (ap (λ o. entity_type c o x) (no_entity_of u laws r x j)
          ∙ (ap (option_and_then (λ (g : Signature). g.result)) l ∙ h.1)),
      laws.features.typed class_of_text x sg t l h.1,
    )
    variable_typed None None None j l h = absurd h

    target_typed : IsTarget S k x t → TargetTyped x t s
    unfolding meaning
    target_typed target = by (bytes_eq x result_name) target
      where
        by : (i : Bool) → IsTargetBy i S k x t
            → ((if i then option_map (written_type c) r.declaration.tree.result_type
            else bound_type (s.test x) (entity_type c (entity r.declaration.tree x) x)) ≡ Some t)
            × IsTypeIn u class_of_text t
        by true target = result_typed r.declaration.tree.result_type refl target
        by false target =
            variable_typed (usable_test k x) (entity_of S x) (signature u
            (line_of u class_of_text) x) refl refl target

  -- what fits the attached form of a class type fits the type
  unmarked_fits : (h : List Object) (t : TyT) (d : ℕ) (v : Value) → class_in t ≡ Some d
      → Fits system h (closed r (attached_form t)) v → Fits system h (closed r t) v × (is_void v ≡ false)
  unmarked_fits h (class_type d m ys) e v i fits =
      let zs = put_in_all r.actuals ys in
      let something = not_void system h (closed r (attached_form (class_type d m ys))) v refl fits in (
        from_object system h (class_type d m zs) v
            (object_fits system h (attached_form (class_type d m zs)) (class_type d m zs) v
            (λ o. laws.types.marks o d m zs)
            (as_object system h (attached_form (class_type d m zs)) v something fits)),
        something,
      )
  unmarked_fits h (formal_type i m) e v j fits = cc
  unmarked_fits h none_type e v j fits = cc

  -- a class type makes what its attached form makes
  same_creation : (t : TyT) (d : ℕ) (f : Option (List ℕ)) (vs : List Value) → class_in (attached_form t) ≡ Some d
      → create_object c f vs (attached_form t) ≡ create_object c f vs t
  same_creation (class_type d m ys) e f vs i = refl
  same_creation (formal_type i m) e f vs j = cc
  same_creation none_type e f vs j = cc

  class_of_attached : (t : TyT) (d : ℕ) → class_in (attached_form t) ≡ Some d → class_in t ≡ Some d
  class_of_attached (class_type d m ys) e i = i
  class_of_attached (formal_type i m) e j = cc
  class_of_attached none_type e j = cc

  attached_typed : (t : TyT) → IsTypeIn u class_of_text t → IsTypeIn u class_of_text (attached_form t)
  attached_typed (class_type d m ys) h = h
  attached_typed (formal_type i m) h = h
  attached_typed none_type h = h

  -- an object that fits the target
  abbrev ForTarget : TyT → State → State → Seen → Type 0
  ForTarget t s v w = Extends system s v × Fits system (heap_of v) (closed r t) w.value × (is_void w.value ≡ false)

  shown_for : (t a : TyT) (d : ℕ) (s v : State) (o : Option Seen) → class_in a ≡ Some d
      → ((z : Value) → Fits system (heap_of v) (closed r a) z → Fits system (heap_of v) (closed r t) z)
      → Extends system s v → Gives u r (heap_of v) (Some (attached_form a)) o → Safe (need o v) (ForTarget t s)
  shown_for t a d s v None e more ends gives = absurd gives
  shown_for t a d s v (Some w) e more ends gives =
      let p = unmarked_fits (heap_of v) a d w.value e gives.fits in (ends, more w.value p.0, p.1)

  created_for : (k : List Fact) (set : List (List ℕ)) (f : FieldSet) (p : Place) (w : Option TypeT) (x : NameAt)
      (y : Option NameAt) (t : TyT) (given : List Argument) (vs : List Value) (s : State) → Good u r k set f s
      → IsCreatedFor S p w y given t → OfType (IsTypeOfText u r) w → IsTarget S k x.name t
      → AllFit system (heap_of s) (map (closed r) (types_of given)) vs
      → Safe (((λ s. some_or no_feature (created_type c w x.name s) (create_object c
      (written_name y) vs) s) >>= need) s)
      (ForTarget t s)
  created_for k set f p None x y t given vs s g i typed target fit =
      let at = target_typed k set f s g x.name t target in
      let makes = same_creation t i.class (written_name y) vs i.class_is in
      chain (λ s. some_or no_feature (target_type c x.name s) (create_object c (written_name y) vs) s) need s
      (λ v o. Extends system s v × Gives u r (heap_of v) (Some (attached_form t)) o) (ForTarget t s)
      (subst (λ o. Safe (some_or no_feature o (create_object c (written_name y) vs) s)
      (λ v o. Extends system s v × Gives u r (heap_of v) (Some (attached_form t)) o)) (sym at.0)
      (subst (λ m. Safe (m s) (λ v o. Extends system s v × Gives u r (heap_of v) (Some (attached_form t)) o)) makes
      (safe_more (create_object c (written_name y) vs (attached_form t) s) _ _
      (λ v o h. (h.0, subst (λ z. Gives u r (heap_of v) (Some z) o) (attached_twice t) h.1))
      (created_ok u laws r s g.heap (of_target p t y) given vs i (attached_typed t at.1) fit))))
      (λ v o h. shown_for t t i.class s v o (class_of_attached t i.class i.class_is) (λ z fits. fits) h.0 h.1)
  created_for k set f p (Some w) x y t given vs s g i typed target fit =
      let a = written u r w in
      chain (λ s. some_or no_feature (created_type c (Some w) x.name s) (create_object c
      (written_name y) vs) s) need s
      (λ v o. Extends system s v × Gives u r (heap_of v) (Some (attached_form a)) o) (ForTarget t s)
      (subst (λ z. Safe (create_object c (written_name y) vs z s)
      (λ v o. Extends system s v × Gives u r (heap_of v) (Some (attached_form a)) o)) (sym (written_is u laws r w))
      (created_ok u laws r s g.heap (of_written S code.Vgci p w y) given vs i.0 typed fit))
      (λ v o h. shown_for t a i.0.class s v o i.0.class_is (λ z fits. fits_in u laws r
      (heap_of v) a t z i.1 fits) h.0 h.1)

  -- ---- the induction

  abbrev InstructionKeeps : Ins → Type 0
  InstructionKeeps i =
      (k : List Fact) (set hidden : List (List ℕ)) (f : FieldSet) → ValidInstruction S k set i
      → InstructionIsWritten (IsTypeOfText u r) i → HidesNone u r hidden
      → MetOn u r (instruction_flow (meanings_of u r) hidden i) f → (s : State) → Good u r k set f s
      → Safe (execute c i s)
      (Done u r (known_after S k i) (set_after set i) (behind_on u r (instruction_flow
      (meanings_of u r) hidden i) f) s)

  abbrev CompoundKeeps : Inss → Type 0
  CompoundKeeps is =
      (k : List Fact) (set hidden : List (List ℕ)) (f : FieldSet) → ValidCompound S k set is
      → CompoundIsWritten (IsTypeOfText u r) is → HidesNone u r hidden
      → MetOn u r (compound_flow (meanings_of u r) hidden is) f → (s : State) → Good u r k set f s
      → Safe (execute_all c is s)
      (Done u r (known_after_all S k is) (set_after_all set is) (behind_on u r (compound_flow
      (meanings_of u r) hidden is) f) s)

  abbrev BranchesKeep : Branches → Otherwise → Type 0
  BranchesKeep bs o =
      (k : List Fact) (set hidden : List (List ℕ)) (f : FieldSet) → ValidBranches S k set bs
      → ValidOtherwise S (known_otherwise S k bs) set o → BranchesAreWritten (IsTypeOfText u r) bs
      → OtherwiseIsWritten (IsTypeOfText u r) o → HidesNone u r hidden
      → MetOn u r (branches_flow (meanings_of u r) hidden bs (λ ns. otherwise_flow (meanings_of u r) ns o)) f
      → (s : State) → Good u r k set f s
      → Safe (execute_branches c bs (execute_otherwise c o) s)
      (Done u r (known_after S k (choose bs o)) (set_by_branches set bs (set_otherwise set o))
      (behind_on u r (branches_flow (meanings_of u r) hidden bs (λ ns. otherwise_flow (meanings_of u r) ns o)) f) s)

  -- the source of an assignment is attached, where its type is
  attached_source : (k : List Fact) (h : List Object) (t a : TyT) (o : Option TyT) (v : Value) → o ≡ Some t
      → fits S t a ≡ true → Fits system h (closed r t) v → has_attached_type S o ≡ true → is_void v ≡ false
  attached_source k h t a o v e fit held is =
      let attached = sym (ap (has_attached_type S) e) ∙ is in
      not_void system h (closed r t) v
      (laws.open_types.attached class_of_text r.actuals (suit u laws r) t attached
      (has_base u class_of_text t a fit attached)) held

  -- behind an exit: the loop ends, or what comes next runs
  exit_ok : (k : List Fact) (set hidden : List (List ℕ)) (f : FieldSet) (exit : Ex) → ValidCondition S k set exit
      → IsWritten (IsTypeOfText u r) exit → HidesNone u r hidden → MetOn u r (flow_of u r hidden exit) f
      → (next : Does (Unit {0}))
      → ((s : State) → Good u r (known_where S k false exit) set f s → Safe (next s) (Done u r k set f s))
      → (s : State) → Good u r k set f s
      → Safe ((value_of c exit >>= (λ w. condition w.value (λ b. if b then give tt else next))) s)
      (Done u r k set f s)
  exit_ok k set hidden f exit valid written hides met next later s g =
      condition_ok k set hidden f exit valid written hides met s g (λ b. if b then give tt else next)
      (Done u r k set f s) go
    where
      fewer : (b : Bool) (v : State) → Good u r (known_where S k b exit) set (behind_on u r
          (flow_of u r hidden exit) f) v
          → Good u r (known_where S k b exit) set f v
      fewer b v good =
          good_less (known_where S k b exit) set f (behind_on u r (flow_of u r hidden exit) f) v
          (stays_set u laws r lawful (flow_of u r hidden exit) f) good

      go : (b : Bool) (v : State) → Grow (heap_of s) (heap_of v)
          → Good u r (known_where S k b exit) set (behind_on u r (flow_of u r hidden exit) f) v
          → Safe ((if b then give tt else next) v) (Done u r k set f s)
      go true v grown good = record {
        grown = grown;
        good = good_fewer k (known_where S k true exit) set f v (fewer_where S k true exit valid.type valid.valid)
            (fewer true v good);
      }
      go false v grown good =
          safe_more (next v) (Done u r k set f v) (Done u r k set f s) (λ y o d. done_on k set f s v y o grown d)
          (later v (fewer false v good))

  -- so many turns of a loop
  turns_ok : (n : ℕ) (k : List Fact) (set hidden : List (List ℕ)) (f : FieldSet) (exit : Ex) (body : Inss)
      → ValidCondition S k set exit → IsWritten (IsTypeOfText u r) exit → HidesNone u r hidden
      → MetOn u r (flow_of u r hidden exit) f
      → ((s : State) → Good u r (known_where S k false exit) set f s
      → Safe (execute_all c body s) (Done u r k set f s))
      → (s : State) → Good u r k set f s
      → Safe (run_loop n (value_of c exit) (execute_all c body) s) (Done u r k set f s)
  turns_ok zero k set hidden f exit body valid written hides met turn s g =
      exit_ok k set hidden f exit valid written hides met (λ s. cut_off s.store.printed) (λ v h. tt) s g
  turns_ok (suc n) k set hidden f exit body valid written hides met turn s g =
      exit_ok k set hidden f exit valid written hides met
      (execute_all c body >>= (λ _. run_loop n (value_of c exit) (execute_all c body)))
      (λ v h. chain (execute_all c body) (λ _. run_loop n (value_of c exit) (execute_all c body)) v
      (Done u r k set f v)
      (Done u r k set f v) (turn v h)
      (λ x o d. safe_more (run_loop n (value_of c exit) (execute_all c body) x) (Done u r k set f x)
      (Done u r k set f v)
      (λ y p e. done_on k set f v x y p d.grown e)
      (turns_ok n k set hidden f exit body valid written hides met turn x d.good)))
      s g

  -- a branch that is taken, or those behind it
  abbrev OtherwiseKeeps : Otherwise → Type 0
  OtherwiseKeeps o =
      (k : List Fact) (set hidden : List (List ℕ)) (f : FieldSet) → ValidOtherwise S k set o
      → OtherwiseIsWritten (IsTypeOfText u r) o → HidesNone u r hidden
      → MetOn u r (otherwise_flow (meanings_of u r) hidden o) f → (s : State) → Good u r k set f s
      → Safe (execute_otherwise c o s)
      (Done u r (known_after S k (choose no_branches o)) (set_otherwise set o)
      (behind_on u r (otherwise_flow (meanings_of u r) hidden o) f) s)

  abbrev BranchEnds : Ex → Inss → Branches → Otherwise → List Fact → List (List ℕ) → List (List ℕ) → FieldSet
      → State → State
      → Unit {0} → Type 0
  BranchEnds e is bs o k set hidden f s =
      Done u r (known_after S k (choose (and_branch e is bs) o))
      (set_by_branches set (and_branch e is bs) (set_otherwise set o))
      (behind_on u r (branches_flow (meanings_of u r) hidden (and_branch e is bs) (λ ns. otherwise_flow
      (meanings_of u r) ns o)) f)
      s

  branch_by : (e : Ex) (is : Inss) (bs : Branches) (o : Otherwise) → CompoundKeeps is → BranchesKeep bs o
      → BranchesKeep (and_branch e is bs) o
  branch_by e is bs o first rest k set hidden f valid other written last hides met s g =
      condition_ok k set hidden f e valid.0 written.0 hides met.0 s g
      (λ b. if b then execute_all c is else execute_branches c bs (execute_otherwise c o))
      (BranchEnds e is bs o k set hidden f s) go
    where
      go : (b : Bool) (v : State) → Grow (heap_of s) (heap_of v)
          → Good u r (known_where S k b e) set (behind_on u r (flow_of u r hidden e) f) v
          → Safe ((if b then execute_all c is else execute_branches c bs (execute_otherwise c o)) v)
          (BranchEnds e is bs o k set hidden f s)
      go true v grown good =
          safe_more (execute_all c is v) _ _
          (λ y p d. record {
            grown = grow_on (heap_of s) (heap_of v) (heap_of y) grown d.grown;
            good =
                good_fewer _ (known_after_all S (known_where S k true e) is) _ _ y
                (fewer_branch S k e is bs o valid.0.type valid.0.valid)
                (good_set _ _ (set_after_all set is) _ y
                (λ z q. (among_both (set_by_branches set bs (set_otherwise set o)) (set_after_all set is) z q).0)
                (good_less _ (set_after_all set is) _ _ y (λ m q. and_left _ _ q) d.good));
          })
          (first (known_where S k true e) set (usable_if_true e ++ hidden) (behind_on u r
          (flow_of u r hidden e) f) valid.1
          written.1 (hides_more u laws r k [] hidden e valid.0.type (usable_if_true e) valid.0.valid hides
          (true_is_test e))
          met.1.0 v good)
      go false v grown good =
          safe_more (execute_branches c bs (execute_otherwise c o) v) _ _
          (λ y p d. record {
            grown = grow_on (heap_of s) (heap_of v) (heap_of y) grown d.grown;
            good =
                good_fewer _ (known_after S (known_where S k false e) (choose bs o)) _ _ y
                (fewer_later S k e is bs o valid.0.type valid.0.valid)
                (good_set _ _ (set_by_branches set bs (set_otherwise set o)) _ y
                (λ z q. (among_both (set_by_branches set bs (set_otherwise set o)) (set_after_all set is) z q).1)
                (good_less _ (set_by_branches set bs (set_otherwise set o)) _ _ y (λ m q. and_right _ _ q) d.good));
          })
          (rest (known_where S k false e) set (usable_if_false e ++ hidden) (behind_on u r
          (flow_of u r hidden e) f) valid.2 other
          written.2 last (hides_more u laws r k [] hidden e valid.0.type (usable_if_false e) valid.0.valid hides
          (false_is_test e))
          met.1.1 v good)

  mutual
    execute_ok : (i : Ins) → InstructionKeeps i
    execute_ok (assign x e) k set hidden f valid written hides met s g =
        let f1 = behind_on u r (flow_of u r hidden e) f in
        chain (value_of c e) (λ v. set_target c x.name v.value) s _ _
        (valued u laws r lawful k [] set f1 e valid.source s
        (evaluate_ok u laws r lawful e k [] set hidden f valid.source valid.source_valid valid.reads written hides
        met.0 s g))
        (λ v w ev. safe_more (set_target c x.name w.value v) _ _
        (λ y o d. record { grown = grow_on (heap_of s) (heap_of v) (heap_of y) ev.later.grown d.0; good = d.1 })
        (set_ok u laws r lawful k set hidden f1 x valid.target w.value (has_attached_type S
        (judge S k [] e).value) v ev.good hides
        (fits_in u laws r (heap_of v) valid.source valid.target w.value valid.fit ev.gives.fits)
        (attached_source k (heap_of v) valid.source valid.target
        (judge S k [] e).value w.value valid.source_valid.value valid.fit
        ev.gives.fits)
        (entity_none u laws r lawful x.name) valid.is_target))
    execute_ok (call e) k set hidden f valid written hides met s g =
        chain (evaluate c e) (λ _. give tt) s _ _ (statement_ok e k set hidden f valid written hides met s g)
        (λ v o d. record { grown = d.0; good = d.1 })
    execute_ok (create p w x y args) k set hidden f valid written hides met s g =
        let f1 = behind_on u r (flow_of_all u r hidden args) f in
        chain (evaluate_all c args) (run_creation c w x y) s _ _
        (each_ok args k set hidden f valid.given valid.args_valid valid.reads written.1 hides met.0 s g)
        (λ v vs a. chain ((λ s. some_or no_feature (created_type c w x.name s) (create_object c
        (written_name y) vs) s) >>= need)
        (λ z. set_target c x.name z.value) v _ _
        (created_for k set f1 p w x y valid.target valid.given vs v a.good valid.created written.0 valid.is_target
        a.fit)
        (λ l z h. let good = good_extends u r k set f1 v l a.good h.0 in
        safe_more (set_target c x.name z.value l) _ _
        (λ m o d. record {
          grown = grow_on (heap_of s) (heap_of v) (heap_of m) a.later.grown (grow_on (heap_of v) (heap_of l)
              (heap_of m) h.0.grown d.0);
          good = d.1;
        })
        (set_ok u laws r lawful k set hidden f1 x valid.target z.value true l good hides h.1 (λ q. h.2)
        (entity_none u laws r lawful x.name) valid.is_target)))
    execute_ok (choose bs o) k set hidden f valid written hides met s g =
        branches_ok bs o (otherwise_ok o) k set hidden f valid.0 valid.1 written.0 written.1 hides met s g
    execute_ok (loop start claims exit body variant) k set hidden f valid written hides met s g =
        let f1 = behind_on u r (compound_flow (meanings_of u r) hidden start) f in
        let at = known_in_loop S k start body in
        let set1 = set_after_all set start in
        let hides_exit = hides_more u laws r at [] hidden exit valid.1.type
        (usable_if_false exit) valid.1.valid hides (false_is_test exit) in
        chain (execute_all c start) (λ _. run_loop c.turns (value_of c exit) (execute_all c body)) s _ _
        (execute_all_ok start k set hidden f valid.0 written.0 hides met.0 s g)
        (λ v o d. safe_more (run_loop c.turns (value_of c exit) (execute_all c body) v) _ _
        (λ y p e. record {
          grown = grow_on (heap_of s) (heap_of v) (heap_of y) d.grown e.grown;
          good = good_fewer (known_after S k (loop start claims exit body variant)) at set1 f1 y
              (fewer_last S k start claims exit body variant) e.good;
        })
        (turns_ok r.turns at set1 hidden f1 exit body valid.1 written.1 hides met.1.0
        (λ t h. safe_more (execute_all c body t) _ _
        (λ y p e. record {
          grown = e.grown;
          good =
              good_fewer at (known_after_all S (known_where S at false exit) body) set1 f1 y
              (fewer_next S k start exit body valid.1.type valid.1.valid)
              (good_set (known_after_all S (known_where S at false exit) body) set1 (set_after_all set1 body) f1 y
              (all_set_stays body set1)
              (good_less (known_after_all S (known_where S at false exit) body) (set_after_all set1 body) f1
              (behind_on u r (compound_flow (meanings_of u r) (usable_if_false exit ++ hidden) body) f1) y
              (stays_set u laws r lawful (compound_flow (meanings_of u r)
              (usable_if_false exit ++ hidden) body) f1) e.good));
        })
        (execute_all_ok body (known_where S at false exit) set1
        (usable_if_false exit ++ hidden) f1 valid.2 written.2 hides_exit
        met.1.1 t h))
        v (good_fewer at (known_after_all S k start) set1 f1 v (fewer_first S k start body) d.good)))
    execute_ok (check claims) k set hidden f valid written hides met s g =
        record { grown = grow_same (heap_of s); good = g }

    execute_all_ok : (is : Inss) → CompoundKeeps is
    execute_all_ok no_inss k set hidden f valid written hides met s g = record {
      grown = grow_same
          (heap_of s);
      good = g;
    }
    execute_all_ok (and_ins i is) k set hidden f valid written hides met s g =
        chain (execute c i) (λ _. execute_all c is) s _ _
        (execute_ok i k set hidden f valid.0 written.0 hides met.0 s g)
        (λ v o d. safe_more (execute_all c is v) _ _
        (λ y p e. record { grown = grow_on (heap_of s) (heap_of v) (heap_of y) d.grown e.grown; good = e.good })
        (execute_all_ok is (known_after S k i) (set_after set i) hidden
        (behind_on u r (instruction_flow (meanings_of u r) hidden i) f) valid.1 written.1 hides met.1 v d.good))

    branches_ok : (bs : Branches) (o : Otherwise) → OtherwiseKeeps o → BranchesKeep bs o
    branches_ok no_branches o otherwise =
        λ k set hidden f valid other written last hides met s g. otherwise k set hidden f other last hides met s g
    branches_ok (and_branch e is bs) o otherwise = branch_by e is bs o (execute_all_ok is)
        (branches_ok bs o otherwise)

    otherwise_ok : (o : Otherwise) → OtherwiseKeeps o
    otherwise_ok no_else k set hidden f valid written hides met s g =
        record { grown = grow_same (heap_of s); good = good_fewer _ k set f s (fewer_none S k) g }
    otherwise_ok (else_part is) k set hidden f valid written hides met s g =
        safe_more (execute_all c is s) _ _
        (λ v p d. record {
          grown = d.grown;
          good = good_fewer _ (known_after_all S k is) _ _ v
              (fewer_else S k is) d.good;
        })
        (execute_all_ok is k set hidden f valid written hides met s g)

  pub compounds_keep : CompoundsKeep u r
  compounds_keep k set hidden f is valid written hides met s g = execute_all_ok is k set hidden f valid written hides
      met s g
