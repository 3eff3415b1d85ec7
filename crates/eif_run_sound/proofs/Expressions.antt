-- Expressions without faults.
use Rattle.std.proofs.Common.{◌≡◌, ℕ, Bool, true, false, not, List, [], ◌∷◌, ◌++◌, map, Option, Some, None, refl, sym, ap, subst, ◌∙◌, inl, inr}
use Rattle.std.specs.Prelude.{◌⊎◌, ◌||◌, if◌then◌else◌}
use Rattle.std.specs.Option.{option_map, option_map_or, option_and_then}
use Rattle.eif_base.specs.declared.place.Place.{Place}
use Rattle.eif_base.specs.Numbering.{is_among}
use Rattle.eif_base.specs.declared.code.Code.TheVariants as code
use Rattle.eif_tree.specs.declared.tree.Literal.{Literal}
use Rattle.eif_tree.specs.declared.tree.Literal.TheVariants as lit
use Rattle.eif_tree.specs.declared.tree.NameAt.{NameAt}
use Rattle.eif_tree.specs.declared.tree.Op.{Op}
use Rattle.eif_tree.specs.declared.tree.Op.TheVariants as op
use Rattle.eif_tree.specs.Tree.{Ex, literal, void_value, current_value, result_value, unqualified, precursor, qualified, creation, test, paren, unary, binary, Exs, no_exs, and_ex, ClassT}
use Rattle.eif_classes.specs.Entries.{Declaration}
use Rattle.eif_classes.specs.Precursors as versions
use Rattle.eif_classes.specs.Signatures.{SignedEntry, signature, signed_entries_in}
use Rattle.eif_classes.specs.Types.{TyT, none_type, attached_form, is_self_initialising}
use Rattle.eif_system.specs.Lineage.{line_of}
use Rattle.eif_body_rules.specs.CallRules.{Argument}
use Rattle.eif_body_rules.specs.Conditions as conditions
use Rattle.eif_body_rules.specs.Conditions.{name_in, compared_name}
use Rattle.eif_body_rules.specs.CreationRules.{of_written}
use Rattle.eif_body_rules.specs.ExpressionTypes.{judge, judge_all, facts, all_attached}
use Rattle.eif_body_rules.specs.Facts.{Fact}
use Rattle.eif_body_rules.specs.OperatorRules as types
use Rattle.eif_body_rules.specs.Settings.{Setting, fits, Entity, entity_of, is_testable, meaning}
use Rattle.eif_body_rules.specs.TestRules.{local_names, test_names, test_names_in}
use Rattle.eif_flow_rules.specs.FieldSets.{FieldSet}
use Rattle.eif_flow_rules.specs.FlowTrees.{Flow, idle, calls}
use Rattle.eif_flow_rules.specs.Summaries.{summary}
use Rattle.eif_flow_rules.specs.TestLocals.{usable_by_left}
use Rattle.eif_flow_rules.specs.VersionFlows.{call_of}
use Rattle.eif_meaning.specs.Values as values
use Rattle.eif_meaning.specs.Values.{Value, void, Object, Seen, State, no_feature, Does, ◌>>=◌, give, some_or, need}
use Rattle.eif_meaning.specs.System.{System, declaration_in, version_in, system_over}
use Rattle.eif_meaning.specs.KernelTypes.{integer_type, boolean_type, character_type, string_type}
use Rattle.eif_meaning.specs.Frames.{Frame, written_type, entity}
use Rattle.eif_meaning.specs.Operands.{as_boolean, give_boolean}
use Rattle.eif_meaning.specs.Operators.{same_value, operate, operate_one, operate_with, asks_right}
use Rattle.eif_meaning.specs.Calls.{enter, seen_as, call_on, call_name, call_version}
use Rattle.eif_meaning.specs.Creations.{create_object}
use Rattle.eif_meaning.specs.ObjectTests.{run_test}
use Rattle.eif_meaning.specs.Evaluation.{evaluate_literal, current_type, written_name, version, evaluate, evaluate_all}
use Rattle.eif_valid_bodies.specs.SetReads as reads
use Rattle.eif_valid_bodies.specs.SetReads.{SetReads, SetReadsIn}
use Rattle.eif_valid_bodies.specs.Valid.{Valid}
use Rattle.eif_valid_bodies.specs.ValidCalls.{ValidPrecursor}
use Rattle.eif_valid_bodies.specs.ValidNodes.{AreBoth, Operand, Operands}
use Rattle.eif_valid_bodies.proofs.Calls.{none_given, more_given, used_name, used_precursor, used_call}
use Rattle.eif_valid_bodies.proofs.Nodes.{literal_is, void_is, current_is, result_is, paren_is, valid_unary, valid_binary, valid_test, valid_creation}
use Rattle.eif_run_laws.specs.Holders as holders
use Rattle.eif_run_laws.specs.Holders.{Fits, AllFit, IsHeap}
use Rattle.eif_run_laws.specs.OperatorLaws as laws_of
use Rattle.eif_run_laws.specs.OperatorLaws.{EndsIn, OperandFits, OperandsFit}
use Rattle.eif_run_laws.specs.Steps.{Safe, heap_of, Extends}
use Rattle.eif_run_laws.proofs.Lists.{some_is}
use Rattle.eif_run_laws.proofs.Growing.{fits_grown}
use Rattle.eif_run_laws.proofs.Fitting.{boolean_fits}
use Rattle.eif_run_laws.proofs.Keeps.{safe_more}
use Rattle.eif_run_laws.proofs.Operands.{boolean_is, literal_given, one_ok, two_ok}
use Rattle.eif_run_sound.specs.Bodies.{IsRoutine, IsWrittenRoutine, Running, frame_of, setting_of, meanings_of, written, closed}
use Rattle.eif_run_sound.specs.ExpressionRuns.{IsEntity, Told, flow_of, flow_of_all, MetOn, behind_on, HidesNone, IsTypeOfText, Evaluated, AllEvaluated, types_of, ExpressionsKeep}
use Rattle.eif_run_sound.specs.Fields.{due}
use Rattle.eif_run_sound.specs.Invariant.{Shows, Gives, held_in, Held, Good, Later}
use Rattle.eif_run_sound.specs.UniverseLaws.{all_closed, maybe_closed, UniverseLaws}
use Rattle.eif_spelled_trees.specs.WrittenTexts.{IsUnary, IsBinary, IsWritten, AreWritten}
use Rattle.eif_run_sound.proofs.States.{chain, among_false, among_neither, later_same, later_on, later_within, later_extends, later_then, held_in_later, held_later, shows_grown, good_extends, good_known, good_ready}
use Rattle.eif_run_sound.proofs.Flows.{flow_keeps}
use Rattle.eif_run_sound.proofs.Known.{Apart, held_none, held_fewer, held_both, told_apart}
use Rattle.eif_run_sound.proofs.Types.{fits_in, all_fit, answers_seen}
use Rattle.eif_run_sound.proofs.Entities.{append_none}
use Rattle.eif_run_sound.proofs.Calls.{own_body_ok}
use Rattle.eif_run_sound.proofs.Names.{written_is, name_ok, current_shown, result_ok}
use Rattle.eif_run_sound.proofs.Targets.{target_ok}
use Rattle.eif_run_sound.proofs.Creations.{created_ok}
use Rattle.eif_run_sound.proofs.Tests.{test_ok}
use Rattle.eif_run_sound.proofs.Operands.{hides_left, compared, fewer_append, fewer_right, operands_apart, left_kept}

-- nothing but the store changes after names were bound
later_quiet : (names : List (List ℕ)) (s t v : State) → Later names s t → Later [] t v → Later names s v
later_quiet names s t v f g =
    later_within (names ++ []) names s v (λ x h. ap (λ ns. is_among ns x) (append_none names) ∙ h)
    (later_on names [] s t v f g)

-- values tell their booleans
same_boolean : (a b : Bool) → values.boolean a ≡ values.boolean b → b ≡ a
same_boolean true true e = refl
same_boolean false false e = refl
same_boolean true false e = cc
same_boolean false true e = cc

module _ (u : List ClassT) (laws : UniverseLaws u) (r : Running u) (lawful : IsWrittenRoutine u r) where
  abbrev system : System
  system = system_over u

  abbrev c : Frame
  c = frame_of u r

  abbrev S : Setting
  S = setting_of u r

  abbrev class_of_text : ℕ
  class_of_text = r.declaration.class_number

  -- what is set before a text is set behind it
  pub stays_set : (t : Flow) (f : FieldSet) (m : List ℕ) → f m ≡ true → behind_on u r t f m ≡ true
  stays_set t f m h =
      flow_keeps (due u r.type.class_number) (summary u (line_of u r.type.class_number)) t f m h

  -- ---- what is given

  -- a value is wanted, and there is one
  pub valued : (k : List Fact) (n set : List (List ℕ)) (f : FieldSet) (e : Ex) (t : TyT) (s : State)
      → Safe (evaluate c e s) (Evaluated u r k n set f e t s)
      → Safe ((evaluate c e >>= need) s) (λ v w. Evaluated u r k n set f e t s v (Some w))
  valued k n set f e t s h =
      chain (evaluate c e) need s (Evaluated u r k n set f e t s) (λ v w. Evaluated u r k n set f e t s v
      (Some w)) h go
    where
      go : (v : State) (o : Option Seen) → Evaluated u r k n set f e t s v o
          → Safe (need o v) (λ v w. Evaluated u r k n set f e t s v (Some w))
      go v None ev = absurd ev.gives
      go v (Some w) ev = ev

  -- an expression that tells nothing
  told_nothing : (k : List Fact) (n : List (List ℕ)) (e : Ex) (o : Option Seen) (s : State)
      → ((b : Bool) → facts S k n b e ≡ []) → name_in e ≡ None → conditions.is_void e ≡ false → Told u r k n e o s
  told_nothing k n e o s none name no_void = record {
    held = λ w b i j. subst (λ l. Held u r l s) (sym (none b)) (held_none u r s);
    read = λ w x i j h. let q : None ≡ Some x = sym name ∙ j in cc;
    void = λ w i j. let q : false ≡ true = sym no_void ∙ j in cc;
  }

  -- a value of a type of the kernel
  kernel_gives : (h : List Object) (a : TyT) (o : Option Seen) → closed r a ≡ a → holders.Gives system h a o
      → Gives u r h (Some a) o
  kernel_gives h a None e g = g
  kernel_gives h a (Some w) e g =
      record { fits = subst (λ t. Fits system h t w.value) (sym e) g.0; seen = ap attached_form g.1 }

  -- a step that changes the store alone gives it, after names were bound
  plainly : (k : List Fact) (n set : List (List ℕ)) (f : FieldSet) (e : Ex) (t a : TyT) (s v w : State)
      (o : Option Seen)
      → Later (test_names e) s v → Good u r k set f v → EndsIn system a v w o → t ≡ a → closed r a ≡ a
      → ((b : Bool) → facts S k n b e ≡ []) → name_in e ≡ None → conditions.is_void e ≡ false
      → Evaluated u r k n set f e t s w o
  plainly k n set f e t a s v w o later good ends is kernel none name no_void = record {
    later = later_then system (test_names e) s v w later ends.0;
    good = good_extends u r k set f v w good ends.0;
    gives = subst (λ t. Gives u r (heap_of w) (Some t) o) (sym is) (kernel_gives (heap_of w) a o kernel ends.1);
    told = told_nothing k n e o w none name no_void;
  }

  literal_types : (x : Literal) → (types.literal_type x ≡ laws_of.literal_type x)
      × (closed r (laws_of.literal_type x) ≡ laws_of.literal_type x)
  literal_types (lit.Int n) = (refl, refl)
  literal_types (lit.Char n) = (refl, refl)
  literal_types (lit.Text bytes) = (refl, refl)
  literal_types (lit.Bool b) = (refl, refl)

  -- ---- names

  -- a name without arguments is a read
  pub name_set : (k : List Fact) (n set : List (List ℕ)) (x : List ℕ) (args : Exs) (given : List Argument)
      → Valid (judge_all S k n args) given → reads.NameIsSet S k set x args → given ≡ []
      → reads.LocalIsSet set x (meaning S k x)
  name_set k n set x no_exs given valid is none = is
  name_set k n set x (and_ex e es) given valid is none =
      let i = (more_given S k n e es given valid).is in cc

  -- the entities of the body are no features
  pub entity_none : (x : List ℕ) (e : Entity) → entity_of S x ≡ Some e
      → signature u (line_of u class_of_text) x ≡ None
  entity_none x e is = laws.features.unknown class_of_text x (lawful.entities.no_feature x e is)

  told_name : (k : List Fact) (n : List (List ℕ)) (p : Place) (x : List ℕ) (args : Exs) (o : Option Seen) (s : State)
      → ((w : Seen) → o ≡ Some w → IsEntity (entity r.declaration.tree x) → held_in u r s x ≡ Some w.value)
      → Told u r k n (unqualified p x args) o s
  told_name k n p x no_exs o s read = record {
    held = λ w b i j. held_none u r s;
    read = λ w y i j h. subst (λ y. held_in u r s y ≡ Some w.value) (some_is j)
        (read w i (subst (λ y. IsEntity (entity r.declaration.tree y)) (sym (some_is j)) h));
    void = λ w i j. cc;
  }
  told_name k n p x (and_ex e es) o s read = told_nothing k n (unqualified p x (and_ex e es)) o s
      (λ b. refl) refl refl

  -- ---- the version of a parent

  abbrev pub routine : IsRoutine u r.declaration
  routine = record {
    text = r.text;
    at = r.at;
    declares = r.declares;
    no_field = lawful.no_field;
    effective =
        lawful.effective;
  }

  as_it_is : (o : Option TyT) → option_map (λ t. t) o ≡ o
  as_it_is None = refl
  as_it_is (Some t) = refl

  pub version_ok : (k : List Fact) (n set : List (List ℕ)) (f : FieldSet) (p : Place) (parent : Option NameAt)
      (args : Exs)
      (result : Option TyT) (w : ValidPrecursor S k n parent args result) (vs : List Value) (s : State)
      → Good u r k set f s → AllFit system (heap_of s) (map (closed r) (types_of w.given)) vs
      → MetOn u r ((meanings_of u r).version p (option_map (λ x. x.name) parent)) f
      → Safe (call_version c (version c (written_name parent)) vs s)
      (λ v o. Later [] s v
      × Good u r k set (behind_on u r ((meanings_of u r).version p (option_map (λ x. x.name) parent)) f) v
      × Gives u r (heap_of v) result o)
  version_ok k n set f p parent args result w vs s g fit met =
      let name = option_map (λ (x : NameAt). x.name) parent in
      let e = w.version in
      let entries = λ (o : Option (List ℕ)).
      versions.precursor (λ (e : SignedEntry). e.entry) name
      (option_map_or (signed_entries_in u (line_of u class_of_text)) o []) in
      let found = ap entries (sym lawful.named) ∙ w.found in
      let a = laws.features.version r.declaration routine r.type r.made r.actuals r.over name e found in
      let flow : (meanings_of u r).version p name ≡ calls p a.version =
      ap (call_of p) a.followed
      ∙ ap (λ t. option_map_or (calls p) (if t then None else Some a.version) idle) a.serves.routine.no_field in
      let runs : version c (written_name parent) ≡ Some (record { declaration = a.version; signature = e.signature })
      =
      ap (option_and_then version_in) found
      ∙ ap (option_map (λ (x : Declaration). record { declaration = x; signature = e.signature }))
      (ap declaration_in a.version_is) in
      let args_fit = all_fit u laws r (heap_of s) w.given e.signature.arguments vs w.called.fit fit in
      let Q = λ (v : State) (o : Option Seen). Later [] s v
      × Good u r k set (behind_on u r ((meanings_of u r).version p name) f) v × Gives u r (heap_of v) result o in
      subst (λ o. Safe (call_version c o vs s) Q) (sym runs)
      (chain (enter c r.current a.version vs) (λ b. give (seen_as e.signature.result b)) s _ Q
      (own_body_ok u laws r k set f s g a.version p (all_closed r.actuals e.signature.arguments)
      (maybe_closed r.actuals e.signature.result) vs a.serves args_fit (subst (λ m. MetOn u r m f) flow met))
      (λ v b h.
      let good = good_extends u r k set f s v g h.0.0 in (
        later_extends system [] s v h.0.0,
        subst (λ m. Good u r k set (behind_on u r m f) v) (sym flow)
            (good_ready u r k set f (behind_on u r (calls p a.version) f) v good (h.1 good.object good.there)),
        subst (λ t. Gives u r (heap_of v) t (seen_as e.signature.result b)) (w.result_is)
            (subst (λ t. Gives u r (heap_of v) t (seen_as t b)) (as_it_is e.signature.result)
            (answers_seen u laws r (heap_of v) r.actuals (λ t. t) (λ t. refl) e.signature.result b h.0.1)),
      )))

  -- ---- operators

  -- BOOLEANs by the type of an operand
  pub truth_of : (h : List Object) (a : TyT) (w : Seen) → IsHeap system h → Shows u r h a w
      → fits S a types.boolean ≡ true → (b : Bool) × (w.value ≡ values.boolean b)
  truth_of h a w heap shows fit =
      boolean_is system laws.types h w.value heap (fits_in u laws r h a types.boolean w.value fit shows.fits)

  abbrev answer : Bool → Option Seen
  answer b = Some (record { value = values.boolean b; type = boolean_type })

  -- a BOOLEAN is given in the same state
  truth_given : (k : List Fact) (n set : List (List ℕ)) (f : FieldSet) (e : Ex) (t : TyT) (s v : State) (b : Bool)
      → Later (test_names e) s v → Good u r k set f v → t ≡ boolean_type → Held u r (facts S k n b e) v
      → name_in e ≡ None → conditions.is_void e ≡ false → Evaluated u r k n set f e t s v (answer b)
  truth_given k n set f e t s v b later good is held name no_void = record {
    later = later;
    good = good;
    gives = subst (λ t. Gives u r (heap_of v) (Some t) (answer b)) (sym is)
        (record { fits = boolean_fits system laws.types (heap_of v) b; seen = refl });
    told = record {
      held = λ w x i j.
          subst (λ x. Held u r (facts S k n x e) v)
          (sym (same_boolean b x (ap (λ (w : Seen). w.value) (some_is i) ∙ j))) held;
      read = λ w x i j h. let q : None ≡ Some x = sym name ∙ j in cc;
      void = λ w i j. let q : false ≡ true = sym no_void ∙ j in cc;
    };
  }

  -- what is known of the value of an operand
  abbrev Tells : List Fact → List (List ℕ) → Ex → Value → State → Type 0
  Tells k n e v s = (b : Bool) → v ≡ values.boolean b → Held u r (facts S k n b e) s

  unary_ok : (k : List Fact) (n set : List (List ℕ)) (f : FieldSet) (p : Place) (o : Op) (e : Ex) (t a : TyT)
      (s v : State)
      (w : Seen) → IsUnary o → Operand S o a t → Later (test_names e) s v → Good u r k set f v
      → Shows u r (heap_of v) a w → Tells k n e w.value v
      → Safe (operate_one o w.value v) (Evaluated u r k n set f (unary p o e) t s)
  unary_ok k n set f p op.Not e t a s v w written types later good shows tells =
      let b = truth_of (heap_of v) a w good.heap shows types.0 in
      subst (λ x. Safe (operate_one op.Not x v) (Evaluated u r k n set f (unary p op.Not e) t s)) (sym b.1)
      (truth_given k n set f (unary p op.Not e) t s v (not b.0) later good types.1 (tells (not (not b.0))
      (b.1 ∙ ap values.boolean (sym (twice b.0)))) refl refl)
    where
      twice : (b : Bool) → not (not b) ≡ b
      twice true = refl
      twice false = refl
  unary_ok k n set f p op.Plus e t a s v w written types later good shows tells =
      safe_more (operate_one op.Plus w.value v) (EndsIn system integer_type v) _
      (λ x o ends. plainly k n set f (unary p op.Plus e) t integer_type s v x o later good ends types.1 refl
      (λ b. refl) refl refl)
      (one_ok system laws.types op.Plus w.value integer_type v good.heap
      (fits_in u laws r (heap_of v) a integer_type w.value types.0 shows.fits, refl))
  unary_ok k n set f p op.Minus e t a s v w written types later good shows tells =
      safe_more (operate_one op.Minus w.value v) (EndsIn system integer_type v) _
      (λ x o ends. plainly k n set f (unary p op.Minus e) t integer_type s v x o later good ends types.1 refl
      (λ b. refl) refl refl)
      (one_ok system laws.types op.Minus w.value integer_type v good.heap
      (fits_in u laws r (heap_of v) a integer_type w.value types.0 shows.fits, refl))
  unary_ok k n set f p _ e t a s v w written types later good shows tells = absurd written

  -- both operands in a state behind them
  pub record Both (k : List Fact) (n set : List (List ℕ)) (f : FieldSet) (left right : Ex) (a b : TyT) (s v : State)
      (x y : Seen) : Type 0 where
    pub later : Later (test_names left ++ test_names right) s v
    pub good : Good u r k set f v
    pub first : Shows u r (heap_of v) a x
    pub second : Shows u r (heap_of v) b y
    pub left_tells : Tells k n left x.value v
    pub right_tells : Tells k (n ++ test_names left) right y.value v
    pub apart : (i j : Bool)
        → Apart (facts S k n i left) (facts S k (n ++ test_names left) j right)
    pub reads_left : (z : List ℕ) → name_in left ≡ Some z → IsEntity (entity r.declaration.tree z)
        → held_in u r v z ≡ Some x.value
    pub reads_right : (z : List ℕ) → name_in right ≡ Some z → IsEntity (entity r.declaration.tree z)
        → held_in u r v z ≡ Some y.value
    pub void_left : conditions.is_void left ≡ true → x.value ≡ void
    pub void_right : conditions.is_void right ≡ true → y.value ≡ void

  module _ (k : List Fact) (n set : List (List ℕ)) (f : FieldSet) (left right : Ex) (a b : TyT) (p q : Place)
      (s v : State)
      (x y : Seen) (both : Both k n set f left right a b s v x y) where
    abbrev Ops : Op → TyT → Type 0
    Ops o t = Safe (operate o x.value y.value v) (Evaluated u r k n set f (binary p o q left right) t s)

    fit_both : (z : TyT) → closed r z ≡ z → AreBoth S z a b
        → laws_of.BothFit system (heap_of v) z x.value y.value
    fit_both z e h = (
      subst (λ t. Fits system (heap_of v) t x.value) e (fits_in u laws r (heap_of v) a z x.value h.0 both.first.fits),
      subst (λ t. Fits system (heap_of v) t y.value) e (fits_in u laws r
          (heap_of v) b z y.value h.1 both.second.fits),
    )

    -- an operator that tells nothing
    op_plain : (o : Op) (t z : TyT) → t ≡ z → closed r z ≡ z → ((i : Bool)
        → facts S k n i (binary p o q left right) ≡ [])
        → OperandsFit system (heap_of v) o x.value y.value z → Ops o t
    op_plain o t z is kernel none fit =
        safe_more (operate o x.value y.value v) (EndsIn system z v) _
        (λ w i ends. plainly k n set f (binary p o q left right) t z s v w i both.later both.good ends is kernel none
        refl refl)
        (two_ok system laws.types o x.value y.value z v both.good.heap fit)

    integers : (o : Op) (t : TyT) → t ≡ integer_type → ((i : Bool) → facts S k n i (binary p o q left right) ≡ [])
        → OperandsFit system (heap_of v) o x.value y.value integer_type → Ops o t
    integers o t is none fit = op_plain o t integer_type is refl none fit

    ordered : (o : Op) (t : TyT) → t ≡ boolean_type → ((i : Bool) → facts S k n i (binary p o q left right) ≡ [])
        → OperandsFit system (heap_of v) o x.value y.value boolean_type → Ops o t
    ordered o t is none fit = op_plain o t boolean_type is refl none fit

    two_kinds : AreBoth S types.integer a b
        ⊎ AreBoth S types.character a b
        → laws_of.BothFit system (heap_of v) integer_type x.value y.value
        ⊎ laws_of.BothFit system (heap_of v) character_type x.value y.value
    two_kinds (inl h) = inl (fit_both integer_type refl h)
    two_kinds (inr h) = inr (fit_both character_type refl h)

    -- two BOOLEANs
    truths : AreBoth S types.boolean a b
        → (Q : Value → Value → Type 0) → ((i j : Bool) → x.value ≡ values.boolean i → y.value ≡ values.boolean j
        → Q (values.boolean i) (values.boolean j)) → Q x.value y.value
    truths h Q w =
        let i = truth_of (heap_of v) a x both.good.heap both.first h.0 in
        let j = truth_of (heap_of v) b y both.good.heap both.second h.1 in
        subst (λ z. Q z y.value) (sym i.1) (subst (λ z. Q (values.boolean i.0) z) (sym j.1) (w i.0 j.0 i.1 j.1))

    both_told : (i j : Bool) → x.value ≡ values.boolean i → y.value ≡ values.boolean j
        → Held u r (facts S k n i left ++ facts S k (n ++ test_names left) j right) v
    both_told i j d e = held_both u r _ _ v (both.left_tells i d) (both.right_tells j e) (both.apart i j)

    and_ok : (t : TyT) → t ≡ boolean_type → AreBoth S types.boolean a b → Ops op.And t
    and_ok t is h = truths h (λ z w. Safe (operate op.And z w v) (Evaluated u r k n set f
        (binary p op.And q left right) t s)) go
      where
        go : (i j : Bool) → x.value ≡ values.boolean i → y.value ≡ values.boolean j
            → Safe (operate op.And (values.boolean i) (values.boolean j) v)
            (Evaluated u r k n set f (binary p op.And q left right) t s)
        go true true d e =
            truth_given k n set f (binary p op.And q left right) t s v true both.later both.good is
            (both_told true true d e) refl refl
        go true false d e =
            truth_given k n set f (binary p op.And q left right) t s v false both.later both.good is
            (held_none u r v) refl refl
        go false j d e =
            truth_given k n set f (binary p op.And q left right) t s v false both.later both.good is
            (held_none u r v) refl refl

    or_ok : (t : TyT) → t ≡ boolean_type → AreBoth S types.boolean a b → Ops op.Or t
    or_ok t is h = truths h (λ z w. Safe (operate op.Or z w v) (Evaluated u r k n set f
        (binary p op.Or q left right) t s)) go
      where
        go : (i j : Bool) → x.value ≡ values.boolean i → y.value ≡ values.boolean j
            → Safe (operate op.Or (values.boolean i) (values.boolean j) v)
            (Evaluated u r k n set f (binary p op.Or q left right) t s)
        go false false d e =
            truth_given k n set f (binary p op.Or q left right) t s v false both.later both.good is
            (both_told false false d e) refl refl
        go false true d e =
            truth_given k n set f (binary p op.Or q left right) t s v true both.later both.good is
            (held_none u r v) refl refl
        go true j d e =
            truth_given k n set f (binary p op.Or q left right) t s v true both.later both.good is
            (held_none u r v) refl refl

    -- where the operands differ, the one that is compared with Void is something else
    differ_told : same_value x.value y.value ≡ false
        → Held u r (all_attached (compared_name (is_testable S) left right) ++ []) v
    differ_told e =
        subst (λ l. Held u r l v) (sym (append_none (all_attached (compared_name (is_testable S) left right))))
        (compared u laws r left right x.value y.value v both.reads_left both.reads_right both.void_left
        both.void_right e)

    equal_ok : (t : TyT) → t ≡ boolean_type → Ops op.Equal t
    equal_ok t is = go (same_value x.value y.value) refl
      where
        go : (i : Bool) → same_value x.value y.value ≡ i
            → Safe (give_boolean i v) (Evaluated u r k n set f (binary p op.Equal q left right) t s)
        go true e = truth_given k n set f (binary p op.Equal q left right) t s v true both.later both.good is
            (held_none u r v) refl refl
        go false e =
            truth_given k n set f (binary p op.Equal q left right) t s v false both.later both.good is
            (differ_told e) refl refl

    unequal_ok : (t : TyT) → t ≡ boolean_type → Ops op.NotEqual t
    unequal_ok t is = go (same_value x.value y.value) refl
      where
        go : (i : Bool) → same_value x.value y.value ≡ i
            → Safe (give_boolean (not i) v) (Evaluated u r k n set f (binary p op.NotEqual q left right) t s)
        go true e = truth_given k n set f (binary p op.NotEqual q left right) t s v false both.later both.good is
            (held_none u r v) refl refl
        go false e =
            truth_given k n set f (binary p op.NotEqual q left right) t s v true both.later both.good is
            (differ_told e) refl refl

    -- where both operands are evaluated
    strict_ok : (o : Op) (t : TyT) → asks_right o ≡ None → IsBinary o → Operands S o a b t → Ops o t
    strict_ok op.Plus t e w (inl h) = op_plain op.Plus t string_type h.1 refl (λ i. refl) (inl
        (fit_both string_type refl h.0, refl))
    strict_ok op.Plus t e w (inr h) = integers op.Plus t h.1 (λ i. refl) (inr (fit_both integer_type refl h.0, refl))
    strict_ok op.Minus t e w h = integers op.Minus t h.1 (λ i. refl) (fit_both integer_type refl h.0, refl)
    strict_ok op.Times t e w h = integers op.Times t h.1 (λ i. refl) (fit_both integer_type refl h.0, refl)
    strict_ok op.Divide t e w h = integers op.Divide t h.1 (λ i. refl) (fit_both integer_type refl h.0, refl)
    strict_ok op.Modulo t e w h = integers op.Modulo t h.1 (λ i. refl) (fit_both integer_type refl h.0, refl)
    strict_ok op.Power t e w h = integers op.Power t h.1 (λ i. refl) (fit_both integer_type refl h.0, refl)
    strict_ok op.Equal t e w h = equal_ok t h
    strict_ok op.NotEqual t e w h = unequal_ok t h
    strict_ok op.Less t e w h = ordered op.Less t h.1 (λ i. refl) (two_kinds h.0, refl)
    strict_ok op.Greater t e w h = ordered op.Greater t h.1 (λ i. refl) (two_kinds h.0, refl)
    strict_ok op.LessEqual t e w h = ordered op.LessEqual t h.1 (λ i. refl) (two_kinds h.0, refl)
    strict_ok op.GreaterEqual t e w h = ordered op.GreaterEqual t h.1 (λ i. refl) (two_kinds h.0, refl)
    strict_ok op.And t e w h = and_ok t h.1 h.0
    strict_ok op.Or t e w h = or_ok t h.1 h.0
    strict_ok op.Xor t e w h = ordered op.Xor t h.1 (λ i. refl) (fit_both boolean_type refl h.0, refl)
    strict_ok op.Not t e w h = absurd w
    strict_ok op.AndThen t e w h = cc
    strict_ok op.OrElse t e w h = cc
    strict_ok op.Implies t e w h = cc

  -- ---- the right operand

  -- both are evaluated, one after the other
  both_evaluated : (k : List Fact) (n set : List (List ℕ)) (f g : FieldSet) (left right : Ex) (a b : TyT)
      (s v w : State)
      (x y : Seen) → Valid (judge S k n left) a → Valid (judge S k (n ++ test_names left) right) b
      → Evaluated u r k n set f left a s v (Some x)
      → Evaluated u r k (n ++ test_names left) set g right b v w (Some y)
      → Both k n set g left right a b s w x y
  both_evaluated k n set f g left right a b s v w x y of_left of_right first second = record {
    later = later_on (test_names left) (test_names right) s v w first.later second.later;
    good = second.good;
    first = shows_grown u r (heap_of v) (heap_of w) a x second.later.grown first.gives;
    second = second.gives;
    left_tells = λ i e. held_later u r (facts S k n i left) (test_names right) v w
        (first.told.held x i refl e) second.later
        (left_kept S k n i left right k b of_right);
    right_tells = λ i e. second.told.held y i refl e;
    apart = λ i j. operands_apart S k n i j left right k b of_right;
    reads_left = λ z e h. held_in_later u r (test_names right) v w z second.later ∙ first.told.read x z refl e h;
    reads_right = λ z e h. second.told.read y z refl e h;
    void_left = λ e. first.told.void x refl e;
    void_right = λ e. second.told.void y refl e;
  }

  -- a right operand that may be left out
  module _ (k : List Fact) (n set : List (List ℕ)) (f g : FieldSet) (left right : Ex) (a b : TyT) (p q : Place)
      (s v : State)
      (x : Seen) (of_left : Valid (judge S k n left) a) (first : Evaluated u r k n set f left a s v (Some x))
      (keeps : (m : List ℕ) → f m ≡ true → g m ≡ true) where
    -- the facts with which it is evaluated
    abbrev with_left : Bool → List Fact
    with_left i = k ++ facts S k n i left

    known_right : (i : Bool) → x.value ≡ values.boolean i → Good u r (with_left i) set f v
    known_right i e =
        good_known u r k (with_left i) set f v first.good
        (held_both u r k (facts S k n i left) v first.good.known (first.told.held x i refl e)
        (told_apart S k n i left a of_left))

    fewer_fields : (t : FieldSet) (w : State) (z : Good u r k set t w) → ((m : List ℕ) → f m ≡ true → t m ≡ true)
        → Good u r k set f w
    fewer_fields t w z h =
        good_ready u r k set t f w z (λ m ft e d. z.ready m ft e (or_more (is_self_initialising ft) _ _ d (h m)))
      where
        or_more : (a c d : Bool) → (a || c) ≡ true → (c ≡ true → d ≡ true) → (a || d) ≡ true
        or_more true c d e h = refl
        or_more false c d e h = h e

    -- behind it nothing more is known to be set, and the facts of the left operand still hold
    right_done : (i : Bool) (w : State) (y : Seen)
        → Evaluated u r (with_left i) (n ++ test_names left) set g right b v w (Some y)
        → Good u r k set f w × Held u r (facts S k n i left) w
    right_done i w y second =
        let apart = told_apart S k n i left a of_left in (
          fewer_fields g w
              (good_known u r (with_left i) k set g w second.good
              (held_fewer u r k (with_left i) w (fewer_append k (facts S k n i left) apart) second.good.known)) keeps,
          held_fewer u r (facts S k n i left) (with_left i) w (fewer_right k
              (facts S k n i left) apart) second.good.known,
        )

    abbrev Ends : Op → TyT → State → Option Seen → Type 0
    Ends o t = Evaluated u r k n set f (binary p o q left right) t s

    -- it is evaluated, and gives what the operator gives
    right_ok : (o : Op) (t : TyT) (i : Bool) → x.value ≡ values.boolean i → t ≡ boolean_type
        → fits S b types.boolean ≡ true
        → ((j : Bool) (w : State) → Held u r (facts S k n i left) w
        → Held u r (facts S (with_left i) (n ++ test_names left) j right) w
        → Apart (facts S k n i left) (facts S (with_left i) (n ++ test_names left) j right)
        → Held u r (facts S k n j (binary p o q left right)) w)
        → Valid (judge S (with_left i) (n ++ test_names left) right) b
        → Safe ((evaluate c right >>= need) v) (λ w y. Evaluated u r (with_left i)
        (n ++ test_names left) set g right b v w (Some y))
        → Safe (((evaluate c right >>= need) >>= (λ y. as_boolean y.value give_boolean)) v) (Ends o t)
    right_ok o t i e is fit tells of_right h =
        chain (evaluate c right >>= need) (λ y. as_boolean y.value give_boolean) v _ (Ends o t) h
        (λ w y second.
        let done = right_done i w y second in
        let j = truth_of (heap_of w) b y second.good.heap second.gives fit in
        subst (λ z. Safe (as_boolean z give_boolean w) (Ends o t)) (sym j.1)
        (truth_given k n set f (binary p o q left right) t s w j.0
        (later_on (test_names left) (test_names right) s v w first.later second.later) done.0 is
        (tells j.0 w done.1 (second.told.held y j.0 refl j.1) (operands_apart S k n i j.0 left right
        (with_left i) b of_right))
        refl refl))

    -- it is left out
    left_alone : (o : Op) (t : TyT) (i : Bool) → t ≡ boolean_type
        → Held u r (facts S k n i (binary p o q left right)) v
        → Ends o t v (answer i)
    left_alone o t i is held =
        truth_given k n set f (binary p o q left right) t s v i
        (later_within (test_names left) (test_names left ++ test_names right) s v
        (λ z h. (among_false (test_names left) (test_names right) z h).0) first.later) first.good is held refl refl

    abbrev Right : Bool → Type 0
    Right i = Valid (judge S (with_left i) (n ++ test_names left) right) b
        × Safe ((evaluate c right >>= need) v) (λ w y. Evaluated u r (with_left i)
        (n ++ test_names left) set g right b v w (Some y))

    pub and_then_ok : (t : TyT) → AreBoth S types.boolean a b → t ≡ boolean_type
        → (x.value ≡ values.boolean true → Right true)
        → Safe (operate_with (Some true) op.AndThen x.value (evaluate c right >>= need) v) (Ends op.AndThen t)
    and_then_ok t h is right_of =
        let i = truth_of (heap_of v) a x first.good.heap first.gives h.0 in
        subst (λ z. Safe (operate_with (Some true) op.AndThen z (evaluate c right >>= need) v) (Ends op.AndThen t))
        (sym i.1) (go i.0 i.1)
      where
        go : (i : Bool) → x.value ≡ values.boolean i
            → Safe (operate_with (Some true) op.AndThen (values.boolean i) (evaluate c right >>= need) v)
            (Ends op.AndThen t)
        go true e = right_ok op.AndThen t true e is h.1 tells (right_of e).0 (right_of e).1
          where
            tells : (j : Bool) (w : State) → Held u r (facts S k n true left) w
                → Held u r (facts S (with_left true) (n ++ test_names left) j right) w
                → Apart (facts S k n true left) (facts S (with_left true) (n ++ test_names left) j right)
                → Held u r (facts S k n j (binary p op.AndThen q left right)) w
            tells true w l m d = held_both u r _ _ w l m d
            tells false w l m d = held_none u r w
        go false e = left_alone op.AndThen t false is (held_none u r v)

    pub or_else_ok : (t : TyT) → AreBoth S types.boolean a b → t ≡ boolean_type
        → (x.value ≡ values.boolean false → Right false)
        → Safe (operate_with (Some false) op.OrElse x.value (evaluate c right >>= need) v) (Ends op.OrElse t)
    or_else_ok t h is right_of =
        let i = truth_of (heap_of v) a x first.good.heap first.gives h.0 in
        subst (λ z. Safe (operate_with (Some false) op.OrElse z (evaluate c right >>= need) v) (Ends op.OrElse t))
        (sym i.1) (go i.0 i.1)
      where
        go : (i : Bool) → x.value ≡ values.boolean i
            → Safe (operate_with (Some false) op.OrElse (values.boolean i) (evaluate c right >>= need) v)
            (Ends op.OrElse t)
        go false e = right_ok op.OrElse t false e is h.1 tells (right_of e).0 (right_of e).1
          where
            tells : (j : Bool) (w : State) → Held u r (facts S k n false left) w
                → Held u r (facts S (with_left false) (n ++ test_names left) j right) w
                → Apart (facts S k n false left) (facts S (with_left false) (n ++ test_names left) j right)
                → Held u r (facts S k n j (binary p op.OrElse q left right)) w
            tells false w l m d = held_both u r _ _ w l m d
            tells true w l m d = held_none u r w
        go true e = left_alone op.OrElse t true is (held_none u r v)

    pub implies_ok : (t : TyT) → AreBoth S types.boolean a b → t ≡ boolean_type
        → (x.value ≡ values.boolean true → Right true)
        → Safe (operate_with (Some true) op.Implies x.value (evaluate c right >>= need) v) (Ends op.Implies t)
    implies_ok t h is right_of =
        let i = truth_of (heap_of v) a x first.good.heap first.gives h.0 in
        subst (λ z. Safe (operate_with (Some true) op.Implies z (evaluate c right >>= need) v) (Ends op.Implies t))
        (sym i.1) (go i.0 i.1)
      where
        go : (i : Bool) → x.value ≡ values.boolean i
            → Safe (operate_with (Some true) op.Implies (values.boolean i) (evaluate c right >>= need) v)
            (Ends op.Implies t)
        go true e = right_ok op.Implies t true e is h.1 tells (right_of e).0 (right_of e).1
          where
            tells : (j : Bool) (w : State) → Held u r (facts S k n true left) w
                → Held u r (facts S (with_left true) (n ++ test_names left) j right) w
                → Apart (facts S k n true left) (facts S (with_left true) (n ++ test_names left) j right)
                → Held u r (facts S k n j (binary p op.Implies q left right)) w
            tells false w l m d = held_both u r _ _ w l m d
            tells true w l m d = held_none u r w
        go false e = left_alone op.Implies t true is (held_none u r v)

  -- ---- the induction

  -- what is asked of an expression, and what then holds of its run
  abbrev ExpressionKeeps : Ex → Type 0
  ExpressionKeeps e =
      (k : List Fact) (n set hidden : List (List ℕ)) (f : FieldSet) (t : TyT)
      → Valid (judge S k n e) t → SetReads S k n set e → IsWritten (IsTypeOfText u r) e → HidesNone u r hidden
      → MetOn u r (flow_of u r hidden e) f → (s : State) → Good u r k set f s
      → Safe (evaluate c e s) (Evaluated u r k n set (behind_on u r (flow_of u r hidden e) f) e t s)

  abbrev ArgumentsKeep : Exs → Type 0
  ArgumentsKeep es =
      (k : List Fact) (n set hidden : List (List ℕ)) (f : FieldSet) (given : List Argument)
      → Valid (judge_all S k n es) given → SetReadsIn S k n set es → AreWritten (IsTypeOfText u r) es
      → HidesNone u r hidden → MetOn u r (flow_of_all u r hidden es) f → (s : State) → Good u r k set f s
      → Safe (evaluate_all c es s) (AllEvaluated u r k set (behind_on u r (flow_of_all u r hidden es) f) es given s)

  -- two operands that are both evaluated
  both_ok : (o : Op) (p q : Place) (left right : Ex) (k : List Fact) (n set : List (List ℕ)) (f g h : FieldSet)
      (t a b : TyT)
      (s : State) → asks_right o ≡ None → IsBinary o → Operands S o a b t
      → Valid (judge S k n left) a → Valid (judge S k (n ++ test_names left) right) b
      → Safe (evaluate c left s) (Evaluated u r k n set g left a s)
      → ((v : State) → Good u r k set g v → Safe (evaluate c right v) (Evaluated u r k
      (n ++ test_names left) set h right b v))
      → Safe (evaluate c (binary p o q left right) s) (Evaluated u r k n set h (binary p o q left right) t s)
  both_ok o p q left right k n set f g h t a b s asks written types of_left of_right first second =
      let Q = Evaluated u r k n set h (binary p o q left right) t s in
      subst (λ z. Safe (((evaluate c left >>= need) >>= (λ x. operate_with z o x.value
      (evaluate c right >>= need))) s) Q) (sym asks)
      (chain (evaluate c left >>= need) (λ x. (evaluate c right >>= need) >>= (λ y. operate o x.value y.value)) s _ Q
      (valued k n set g left a s first)
      (λ v x ev. chain (evaluate c right >>= need) (λ y. operate o x.value y.value) v _ Q
      (valued k (n ++ test_names left) set h right b v (second v ev.good))
      (λ w y ew. strict_ok k n set h left right a b p q s w x y
      (both_evaluated k n set g h left right a b s v w x y of_left of_right ev ew) o t asks written types)))

  mutual
    pub evaluate_ok : (e : Ex) → ExpressionKeeps e
    evaluate_ok (literal p x) k n set hidden f t valid sets spelled hides met s g =
        safe_more (evaluate_literal x s) (EndsIn system (laws_of.literal_type x) s) _
        (λ v o ends. plainly k n set f (literal p x) t (laws_of.literal_type x) s s v o (later_same [] s) g ends
        (literal_is S k n p x t valid ∙ (literal_types x).0) (literal_types x).1 (λ b. refl) refl refl)
        (literal_given system laws.types x s g.heap)
    evaluate_ok (void_value p) k n set hidden f t valid sets spelled hides met s g = record {
      later = later_same [] s;
      good = g;
      gives = subst (λ t. Gives u r (heap_of s) (Some t) (Some (record { value = void; type = none_type })))
          (sym (void_is S k n p t valid)) (record { fits = refl; seen = refl });
      told = record {
        held = λ w b i j. held_none u r s;
        read = λ w x i j h. cc;
        void = λ w i j. ap (λ (w : Seen). w.value) (sym (some_is i));
      };
    }
    evaluate_ok (current_value p) k n set hidden f t valid sets spelled hides met s g = record {
      later = later_same [] s;
      good = g;
      gives = subst (λ t. Gives u r (heap_of s) (Some t) (Some (record { value = r.current; type = current_type c })))
          (sym (current_is S k n p t valid)) (current_shown u laws r k set f s g met);
      told = told_nothing k n (current_value p) _ s (λ b. refl) refl refl;
    }
    evaluate_ok (result_value p) k n set hidden f t valid sets spelled hides met s g =
        safe_more (evaluate c (result_value p) s) _ _
        (λ v o h. record {
          later = h.0;
          good = h.1;
          gives = h.2;
          told = told_nothing k n (result_value p) o v (λ b. refl) refl refl;
        })
        (result_ok u laws r k set f s g t (result_is S k n p t valid) sets)
    evaluate_ok (unqualified p x args) k n set hidden f t valid sets spelled hides met s g =
        let name = used_name S k n p x args t valid in
        let f' = behind_on u r (flow_of_all u r hidden args) f in
        chain (evaluate_all c args) (call_name c x) s _ _
        (arguments_ok args k n set hidden f name.given name.args_valid sets.0 spelled.1 hides met.0 s g)
        (λ v vs a. safe_more (call_name c x vs v) _ _
        (λ w o h. record {
          later = later_quiet (test_names_in args) s v w a.later h.later;
          good = h.good;
          gives = h.gives;
          told = told_name k n p x args o w h.read;
        })
        (name_ok u laws r k set hidden f' p x name.given (Some t) vs v a.good hides a.fit (entity_none x) name.gives
        (name_set k n set x args name.given name.args_valid sets.1) met.1))
    evaluate_ok (precursor p parent args) k n set hidden f t valid sets spelled hides met s g =
        let w = used_precursor S k n p parent args t valid in
        let f' = behind_on u r (flow_of_all u r hidden args) f in
        chain (evaluate_all c args) (call_version c (version c (written_name parent))) s _ _
        (arguments_ok args k n set hidden f w.given w.args_valid sets spelled hides met.0 s g)
        (λ v vs a. safe_more (call_version c (version c (written_name parent)) vs v) _ _
        (λ x o h. record {
          later = later_quiet (test_names_in args) s v x a.later h.0;
          good = h.1;
          gives = h.2;
          told = told_nothing k n (precursor p parent args) o x (λ b. refl) refl refl;
        })
        (version_ok k n set f' p parent args (Some t) w vs v a.good a.fit met.1))
    evaluate_ok (qualified p e x args) k n set hidden f t valid sets spelled hides met s g =
        let w = used_call S k n p e x args t valid in
        let f1 = behind_on u r (flow_of u r hidden e) f in
        let f2 = behind_on u r (flow_of_all u r hidden args) f1 in
        chain (evaluate c e >>= need) (λ z. evaluate_all c args >>= call_on c z x.name) s _ _
        (valued k n set f1 e w.target s (evaluate_ok e k n set hidden f w.target w.target_valid sets.0 spelled.0 hides
        met.0 s g))
        (λ v z ev. chain (evaluate_all c args) (call_on c z x.name) v _ _
        (arguments_ok args k (n ++ test_names e) set hidden f1 w.given w.args_valid sets.1 spelled.1 hides met.1 v
        ev.good)
        (λ y vs a. safe_more (call_on c z x.name vs y) _ _
        (λ l o h. record {
          later = later_then system (test_names e ++ test_names_in args) s y l
              (later_on (test_names e) (test_names_in args) s v y ev.later a.later) h.0;
          good = good_extends u r k set f2 y l a.good h.0;
          gives = h.1;
          told = told_nothing k n (qualified p e x args) o l (λ b. refl) refl refl;
        })
        (target_ok u laws r y a.good.heap w.target z x.name w.given
        (Some t) w.signed vs w.target_attached w.found w.called
        w.result_is (shows_grown u r (heap_of v) (heap_of y) w.target z a.later.grown ev.gives) a.fit)))
    evaluate_ok (creation p y x args) k n set hidden f t valid sets spelled hides met s g =
        let w = valid_creation S k n p y x args t valid in
        let f1 = behind_on u r (flow_of_all u r hidden args) f in
        chain (evaluate_all c args) (λ vs. create_object c (written_name x) vs (written_type c y)) s _ _
        (arguments_ok args k n set hidden f w.given w.args_valid sets spelled.1 hides met s g)
        (λ v vs a. safe_more (create_object c (written_name x) vs (written_type c y) v) _ _
        (λ l o h. record {
          later = later_then system (test_names_in args) s v l a.later h.0;
          good = good_extends u r k set f1 v l a.good h.0;
          gives = subst (λ t. Gives u r (heap_of l) (Some t) o) (sym w.is) h.1;
          told = told_nothing k n (creation p y x args) o l (λ b. refl) refl refl;
        })
        (subst (λ z. Safe (create_object c (written_name x) vs z v)
        (λ l o. Extends system v l × Gives u r (heap_of l) (Some (attached_form (written u r y))) o)) (sym
        (written_is u laws r y))
        (created_ok u laws r v a.good.heap (of_written S code.Vgce p y x) w.given vs w.created spelled.0 a.fit)))
    evaluate_ok (test p y l e) k n set hidden f t valid sets spelled hides met s g =
        let w = valid_test S k n p y l e t valid in
        let f1 = behind_on u r (flow_of u r hidden e) f in
        chain (evaluate c e >>= need) (run_test c y l) s _ _
        (valued k (n ++ local_names l) set f1 e w.tested s
        (evaluate_ok e k (n ++ local_names l) set hidden f w.tested w.tested_valid sets spelled.1 hides met s g))
        (λ v z ev. safe_more (run_test c y l z v) _ _
        (λ x o h. record {
          later = later_within (test_names e ++ local_names l) (local_names l ++ test_names e) s x
              (λ m i. let q = among_false (local_names l) (test_names e) m i in
              among_neither (test_names e) (local_names l) m q.1 q.0)
              (later_on (test_names e) (local_names l) s v x ev.later h.later);
          good = h.good;
          gives = subst (λ t. Gives u r (heap_of x) (Some t) o) (sym w.is) h.gives;
          told = record {
            held = λ m b i j. h.held m b i j;
            read = λ m x i j q. cc;
            void = λ m i j. cc;
          };
        })
        (test_ok u laws r k n set f1 p y e w.tested v ev.good z ev.gives
        (λ m i j. ev.told.read z m refl i j) l t w refl))
    evaluate_ok (paren p e) k n set hidden f t valid sets spelled hides met s g =
        safe_more (evaluate c e s) _ _
        (λ v o h. record {
          later = h.later;
          good = h.good;
          gives = h.gives;
          told = record { held = h.told.held; read = h.told.read; void = h.told.void };
        })
        (evaluate_ok e k n set hidden f t (paren_is S k n p e t valid) sets spelled hides met s g)
    evaluate_ok (unary p o e) k n set hidden f t valid sets spelled hides met s g =
        let w = valid_unary S k n p o e t valid in
        let f1 = behind_on u r (flow_of u r hidden e) f in
        chain (evaluate c e >>= need) (λ z. operate_one o z.value) s _ _
        (valued k n set f1 e w.operand s (evaluate_ok e k n set hidden f w.operand w.operand_valid sets spelled.1
        hides met s g))
        (λ v z ev. unary_ok k n set f1 p o e t w.operand s v z spelled.0 w.types ev.later ev.good ev.gives
        (λ b i. ev.told.held z b refl i))
    evaluate_ok (binary p op.AndThen q l m) k n set hidden f t valid sets spelled hides met s g =
        let w = valid_binary S k n p op.AndThen q l m t valid in
        let f1 = behind_on u r (flow_of u r hidden l) f in
        let more = hides_left u laws r k n hidden op.AndThen l w.first w.left_valid hides in
        let f2 = behind_on u r (flow_of u r (usable_by_left op.AndThen l ++ hidden) m) f1 in
        chain (evaluate c l >>= need) (λ z. operate_with (Some true) op.AndThen z.value (evaluate c m >>= need)) s _ _
        (valued k n set f1 l w.first s (evaluate_ok l k n set hidden f w.first w.left_valid sets.0 spelled.1 hides
        met.0 s g))
        (λ v z ev. and_then_ok k n set f1 f2 l m w.first w.second p q s v z w.left_valid ev
        (λ a i. stays_set (flow_of u r (usable_by_left op.AndThen l ++ hidden) m) f1 a i) t w.types.0 w.types.1
        (λ i. (
          w.right_valid,
          valued (k ++ facts S k n true l) (n ++ test_names l) set f2 m w.second v
              (evaluate_ok m (k ++ facts S k n true l) (n ++ test_names l) set
              (usable_by_left op.AndThen l ++ hidden) f1 w.second
              w.right_valid sets.1 spelled.2 more met.1 v
              (known_right k n set f1 f2 l m w.first w.second p q s v z w.left_valid ev
              (λ a i. stays_set (flow_of u r (usable_by_left op.AndThen l ++ hidden) m) f1 a i) true i)),
        )))
    evaluate_ok (binary p op.OrElse q l m) k n set hidden f t valid sets spelled hides met s g =
        let w = valid_binary S k n p op.OrElse q l m t valid in
        let f1 = behind_on u r (flow_of u r hidden l) f in
        let more = hides_left u laws r k n hidden op.OrElse l w.first w.left_valid hides in
        let f2 = behind_on u r (flow_of u r (usable_by_left op.OrElse l ++ hidden) m) f1 in
        chain (evaluate c l >>= need) (λ z. operate_with (Some false) op.OrElse z.value (evaluate c m >>= need)) s _ _
        (valued k n set f1 l w.first s (evaluate_ok l k n set hidden f w.first w.left_valid sets.0 spelled.1 hides
        met.0 s g))
        (λ v z ev. or_else_ok k n set f1 f2 l m w.first w.second p q s v z w.left_valid ev
        (λ a i. stays_set (flow_of u r (usable_by_left op.OrElse l ++ hidden) m) f1 a i) t w.types.0 w.types.1
        (λ i. (
          w.right_valid,
          valued (k ++ facts S k n false l) (n ++ test_names l) set f2 m w.second v
              (evaluate_ok m (k ++ facts S k n false l) (n ++ test_names l) set
              (usable_by_left op.OrElse l ++ hidden) f1 w.second
              w.right_valid sets.1 spelled.2 more met.1 v
              (known_right k n set f1 f2 l m w.first w.second p q s v z w.left_valid ev
              (λ a i. stays_set (flow_of u r (usable_by_left op.OrElse l ++ hidden) m) f1 a i) false i)),
        )))
    evaluate_ok (binary p op.Implies q l m) k n set hidden f t valid sets spelled hides met s g =
        let w = valid_binary S k n p op.Implies q l m t valid in
        let f1 = behind_on u r (flow_of u r hidden l) f in
        let more = hides_left u laws r k n hidden op.Implies l w.first w.left_valid hides in
        let f2 = behind_on u r (flow_of u r (usable_by_left op.Implies l ++ hidden) m) f1 in
        chain (evaluate c l >>= need) (λ z. operate_with (Some true) op.Implies z.value (evaluate c m >>= need)) s _ _
        (valued k n set f1 l w.first s (evaluate_ok l k n set hidden f w.first w.left_valid sets.0 spelled.1 hides
        met.0 s g))
        (λ v z ev. implies_ok k n set f1 f2 l m w.first w.second p q s v z w.left_valid ev
        (λ a i. stays_set (flow_of u r (usable_by_left op.Implies l ++ hidden) m) f1 a i) t w.types.0 w.types.1
        (λ i. (
          w.right_valid,
          valued (k ++ facts S k n true l) (n ++ test_names l) set f2 m w.second v
              (evaluate_ok m (k ++ facts S k n true l) (n ++ test_names l) set
              (usable_by_left op.Implies l ++ hidden) f1 w.second
              w.right_valid sets.1 spelled.2 more met.1 v
              (known_right k n set f1 f2 l m w.first w.second p q s v z w.left_valid ev
              (λ a i. stays_set (flow_of u r (usable_by_left op.Implies l ++ hidden) m) f1 a i) true i)),
        )))
    evaluate_ok (binary p op.Not q l m) k n set hidden f t valid sets spelled hides met s g = absurd spelled.0
    evaluate_ok (binary p op.Plus q l m) k n set hidden f t valid sets spelled hides met s g =
        let w = valid_binary S k n p op.Plus q l m t valid in
        let f1 = behind_on u r (flow_of u r hidden l) f in
        both_ok op.Plus p q l m k n set f f1 (behind_on u r (flow_of u r hidden m) f1) t w.first w.second s refl
        spelled.0 w.types
        w.left_valid w.right_valid
        (evaluate_ok l k n set hidden f w.first w.left_valid sets.0 spelled.1 hides met.0 s g)
        (λ v h. evaluate_ok m k (n ++ test_names l) set hidden f1 w.second w.right_valid sets.1 spelled.2 hides met.1
        v h)
    evaluate_ok (binary p op.Minus q l m) k n set hidden f t valid sets spelled hides met s g =
        let w = valid_binary S k n p op.Minus q l m t valid in
        let f1 = behind_on u r (flow_of u r hidden l) f in
        both_ok op.Minus p q l m k n set f f1 (behind_on u r
        (flow_of u r hidden m) f1) t w.first w.second s refl spelled.0 w.types
        w.left_valid w.right_valid
        (evaluate_ok l k n set hidden f w.first w.left_valid sets.0 spelled.1 hides met.0 s g)
        (λ v h. evaluate_ok m k (n ++ test_names l) set hidden f1 w.second w.right_valid sets.1 spelled.2 hides met.1
        v h)
    evaluate_ok (binary p op.Times q l m) k n set hidden f t valid sets spelled hides met s g =
        let w = valid_binary S k n p op.Times q l m t valid in
        let f1 = behind_on u r (flow_of u r hidden l) f in
        both_ok op.Times p q l m k n set f f1 (behind_on u r
        (flow_of u r hidden m) f1) t w.first w.second s refl spelled.0 w.types
        w.left_valid w.right_valid
        (evaluate_ok l k n set hidden f w.first w.left_valid sets.0 spelled.1 hides met.0 s g)
        (λ v h. evaluate_ok m k (n ++ test_names l) set hidden f1 w.second w.right_valid sets.1 spelled.2 hides met.1
        v h)
    evaluate_ok (binary p op.Divide q l m) k n set hidden f t valid sets spelled hides met s g =
        let w = valid_binary S k n p op.Divide q l m t valid in
        let f1 = behind_on u r (flow_of u r hidden l) f in
        both_ok op.Divide p q l m k n set f f1 (behind_on u r
        (flow_of u r hidden m) f1) t w.first w.second s refl spelled.0 w.types
        w.left_valid w.right_valid
        (evaluate_ok l k n set hidden f w.first w.left_valid sets.0 spelled.1 hides met.0 s g)
        (λ v h. evaluate_ok m k (n ++ test_names l) set hidden f1 w.second w.right_valid sets.1 spelled.2 hides met.1
        v h)
    evaluate_ok (binary p op.Modulo q l m) k n set hidden f t valid sets spelled hides met s g =
        let w = valid_binary S k n p op.Modulo q l m t valid in
        let f1 = behind_on u r (flow_of u r hidden l) f in
        both_ok op.Modulo p q l m k n set f f1 (behind_on u r
        (flow_of u r hidden m) f1) t w.first w.second s refl spelled.0 w.types
        w.left_valid w.right_valid
        (evaluate_ok l k n set hidden f w.first w.left_valid sets.0 spelled.1 hides met.0 s g)
        (λ v h. evaluate_ok m k (n ++ test_names l) set hidden f1 w.second w.right_valid sets.1 spelled.2 hides met.1
        v h)
    evaluate_ok (binary p op.Power q l m) k n set hidden f t valid sets spelled hides met s g =
        let w = valid_binary S k n p op.Power q l m t valid in
        let f1 = behind_on u r (flow_of u r hidden l) f in
        both_ok op.Power p q l m k n set f f1 (behind_on u r
        (flow_of u r hidden m) f1) t w.first w.second s refl spelled.0 w.types
        w.left_valid w.right_valid
        (evaluate_ok l k n set hidden f w.first w.left_valid sets.0 spelled.1 hides met.0 s g)
        (λ v h. evaluate_ok m k (n ++ test_names l) set hidden f1 w.second w.right_valid sets.1 spelled.2 hides met.1
        v h)
    evaluate_ok (binary p op.Equal q l m) k n set hidden f t valid sets spelled hides met s g =
        let w = valid_binary S k n p op.Equal q l m t valid in
        let f1 = behind_on u r (flow_of u r hidden l) f in
        both_ok op.Equal p q l m k n set f f1 (behind_on u r
        (flow_of u r hidden m) f1) t w.first w.second s refl spelled.0 w.types
        w.left_valid w.right_valid
        (evaluate_ok l k n set hidden f w.first w.left_valid sets.0 spelled.1 hides met.0 s g)
        (λ v h. evaluate_ok m k (n ++ test_names l) set hidden f1 w.second w.right_valid sets.1 spelled.2 hides met.1
        v h)
    evaluate_ok (binary p op.NotEqual q l m) k n set hidden f t valid sets spelled hides met s g =
        let w = valid_binary S k n p op.NotEqual q l m t valid in
        let f1 = behind_on u r (flow_of u r hidden l) f in
        both_ok op.NotEqual p q l m k n set f f1 (behind_on u r
        (flow_of u r hidden m) f1) t w.first w.second s refl spelled.0 w.types
        w.left_valid w.right_valid
        (evaluate_ok l k n set hidden f w.first w.left_valid sets.0 spelled.1 hides met.0 s g)
        (λ v h. evaluate_ok m k (n ++ test_names l) set hidden f1 w.second w.right_valid sets.1 spelled.2 hides met.1
        v h)
    evaluate_ok (binary p op.Less q l m) k n set hidden f t valid sets spelled hides met s g =
        let w = valid_binary S k n p op.Less q l m t valid in
        let f1 = behind_on u r (flow_of u r hidden l) f in
        both_ok op.Less p q l m k n set f f1 (behind_on u r (flow_of u r hidden m) f1) t w.first w.second s refl
        spelled.0 w.types
        w.left_valid w.right_valid
        (evaluate_ok l k n set hidden f w.first w.left_valid sets.0 spelled.1 hides met.0 s g)
        (λ v h. evaluate_ok m k (n ++ test_names l) set hidden f1 w.second w.right_valid sets.1 spelled.2 hides met.1
        v h)
    evaluate_ok (binary p op.Greater q l m) k n set hidden f t valid sets spelled hides met s g =
        let w = valid_binary S k n p op.Greater q l m t valid in
        let f1 = behind_on u r (flow_of u r hidden l) f in
        both_ok op.Greater p q l m k n set f f1 (behind_on u r
        (flow_of u r hidden m) f1) t w.first w.second s refl spelled.0 w.types
        w.left_valid w.right_valid
        (evaluate_ok l k n set hidden f w.first w.left_valid sets.0 spelled.1 hides met.0 s g)
        (λ v h. evaluate_ok m k (n ++ test_names l) set hidden f1 w.second w.right_valid sets.1 spelled.2 hides met.1
        v h)
    evaluate_ok (binary p op.LessEqual q l m) k n set hidden f t valid sets spelled hides met s g =
        let w = valid_binary S k n p op.LessEqual q l m t valid in
        let f1 = behind_on u r (flow_of u r hidden l) f in
        both_ok op.LessEqual p q l m k n set f f1 (behind_on u r
        (flow_of u r hidden m) f1) t w.first w.second s refl spelled.0 w.types
        w.left_valid w.right_valid
        (evaluate_ok l k n set hidden f w.first w.left_valid sets.0 spelled.1 hides met.0 s g)
        (λ v h. evaluate_ok m k (n ++ test_names l) set hidden f1 w.second w.right_valid sets.1 spelled.2 hides met.1
        v h)
    evaluate_ok (binary p op.GreaterEqual q l m) k n set hidden f t valid sets spelled hides met s g =
        let w = valid_binary S k n p op.GreaterEqual q l m t valid in
        let f1 = behind_on u r (flow_of u r hidden l) f in
        both_ok op.GreaterEqual p q l m k n set f f1 (behind_on u r
        (flow_of u r hidden m) f1) t w.first w.second s refl spelled.0 w.types
        w.left_valid w.right_valid
        (evaluate_ok l k n set hidden f w.first w.left_valid sets.0 spelled.1 hides met.0 s g)
        (λ v h. evaluate_ok m k (n ++ test_names l) set hidden f1 w.second w.right_valid sets.1 spelled.2 hides met.1
        v h)
    evaluate_ok (binary p op.And q l m) k n set hidden f t valid sets spelled hides met s g =
        let w = valid_binary S k n p op.And q l m t valid in
        let f1 = behind_on u r (flow_of u r hidden l) f in
        both_ok op.And p q l m k n set f f1 (behind_on u r (flow_of u r hidden m) f1) t w.first w.second s refl
        spelled.0 w.types
        w.left_valid w.right_valid
        (evaluate_ok l k n set hidden f w.first w.left_valid sets.0 spelled.1 hides met.0 s g)
        (λ v h. evaluate_ok m k (n ++ test_names l) set hidden f1 w.second w.right_valid sets.1 spelled.2 hides met.1
        v h)
    evaluate_ok (binary p op.Or q l m) k n set hidden f t valid sets spelled hides met s g =
        let w = valid_binary S k n p op.Or q l m t valid in
        let f1 = behind_on u r (flow_of u r hidden l) f in
        both_ok op.Or p q l m k n set f f1 (behind_on u r (flow_of u r hidden m) f1) t w.first w.second s refl
        spelled.0 w.types
        w.left_valid w.right_valid
        (evaluate_ok l k n set hidden f w.first w.left_valid sets.0 spelled.1 hides met.0 s g)
        (λ v h. evaluate_ok m k (n ++ test_names l) set hidden f1 w.second w.right_valid sets.1 spelled.2 hides met.1
        v h)
    evaluate_ok (binary p op.Xor q l m) k n set hidden f t valid sets spelled hides met s g =
        let w = valid_binary S k n p op.Xor q l m t valid in
        let f1 = behind_on u r (flow_of u r hidden l) f in
        both_ok op.Xor p q l m k n set f f1 (behind_on u r (flow_of u r hidden m) f1) t w.first w.second s refl
        spelled.0 w.types
        w.left_valid w.right_valid
        (evaluate_ok l k n set hidden f w.first w.left_valid sets.0 spelled.1 hides met.0 s g)
        (λ v h. evaluate_ok m k (n ++ test_names l) set hidden f1 w.second w.right_valid sets.1 spelled.2 hides met.1
        v h)

    pub arguments_ok : (es : Exs) → ArgumentsKeep es
    arguments_ok no_exs k n set hidden f given valid sets spelled hides met s g = record {
      later = later_same [] s;
      good = g;
      fit = subst (λ a. AllFit system (heap_of s) (map (closed r) (types_of a)) []) (sym
          (none_given S k n given valid)) tt;
    }
    arguments_ok (and_ex e es) k n set hidden f given valid sets spelled hides met s g =
        let w = more_given S k n e es given valid in
        let f1 = behind_on u r (flow_of u r hidden e) f in
        let f2 = behind_on u r (flow_of_all u r hidden es) f1 in
        chain (evaluate c e >>= need) (λ z. evaluate_all c es >>= (λ vs. give (z.value ∷ vs))) s _ _
        (valued k n set f1 e w.type s (evaluate_ok e k n set hidden f w.type w.first_valid sets.0 spelled.0 hides
        met.0 s g))
        (λ v z ev. chain (evaluate_all c es) (λ vs. give (z.value ∷ vs)) v _ _
        (arguments_ok es k (n ++ test_names e) set hidden f1 w.rest w.rest_valid sets.1 spelled.1 hides met.1 v
        ev.good)
        (λ y vs a. record {
          later = later_on (test_names e) (test_names_in es) s v y ev.later a.later;
          good = a.good;
          fit = subst (λ a. AllFit system (heap_of y) (map (closed r) (types_of a)) (z.value ∷ vs)) (sym w.is) (
            fits_grown system (heap_of v) (heap_of y) (closed r w.type) z.value a.later.grown ev.gives.fits,
            a.fit,
          );
        }))

  pub expressions_keep : ExpressionsKeep u r
  expressions_keep = record {
    expression = λ k n set hidden f e t. evaluate_ok e k n set hidden f t;
    arguments = λ k n set hidden f es given. arguments_ok es k n set hidden f given;
  }
