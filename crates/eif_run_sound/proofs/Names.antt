-- Names: test locals, arguments, locals and features of Current.
use Rattle.std.proofs.Common.{◌≡◌, ℕ, Bool, true, false, List, [], ◌∷◌, map, Option, Some, None, refl, sym, ap, subst, ◌∙◌, inl, inr, ⊎_elim}
use Rattle.std.specs.Prelude.{◌⊎◌, if◌then◌else◌}
use Rattle.std.specs.Option.{option_map, option_map_or}
use Rattle.eif_base.specs.declared.place.Place.{Place}
use Rattle.eif_base.specs.Numbering.{is_among}
use Rattle.eif_tree.specs.declared.tree.Mark.TheVariants.{Attached}
use Rattle.eif_tree.specs.Tree.{TypeT, ClassT}
use Rattle.eif_classes.specs.Binding.{bind}
use Rattle.eif_classes.specs.Resolution.{resolved, own_type, own_formals}
use Rattle.eif_classes.specs.Signatures.{Signature, signature}
use Rattle.eif_classes.specs.Types.{TyT, class_type, formal_type, none_type, Actuals, no_actuals, attached_form, actual_at, put_in, is_self_initialising}
use Rattle.eif_system.specs.Lineage.{line_of}
use Rattle.eif_type_laws.proofs.Substitution.{attached_last}
use Rattle.eif_body_rules.specs.CallRules.{Argument}
use Rattle.eif_body_rules.specs.Facts.{Fact, Usable, is_known_attached, usable_test}
use Rattle.eif_body_rules.specs.Settings.{Setting, Meaning, test_local, feature, unknown, or_feature, or_entity, or_test, meaning, entity_of, seen_type}
use Rattle.eif_body_rules.specs.Settings as rules
use Rattle.eif_flow_rules.specs.FieldSets.{FieldSet}
use Rattle.eif_flow_rules.specs.FlowSteps.{unless_hidden}
use Rattle.eif_flow_rules.specs.FlowTrees.{Flow, idle}
use Rattle.eif_flow_rules.specs.VersionFlows.{use_of}
use Rattle.eif_meaning.specs.Values.{Value, ClassType, Object, Seen, State, unset, no_feature, ◌>>=◌, give, some_or}
use Rattle.eif_meaning.specs.System.{System, system_over}
use Rattle.eif_meaning.specs.Objects.{type_of, field_type}
use Rattle.eif_meaning.specs.Frames.{Frame, written_type, argument, local, Entity, entity}
use Rattle.eif_meaning.specs.Operands.{give_seen}
use Rattle.eif_meaning.specs.Calls.{is_void, read_entity, entity_or_feature, bound_or, call_name, feature_on, seen_as}
use Rattle.eif_meaning.specs.Evaluation.{current_type, read_result}
use Rattle.eif_valid_bodies.specs.SetReads as reads
use Rattle.eif_valid_bodies.specs.Valid.{HasType}
use Rattle.eif_valid_bodies.specs.ValidCalls.{IsCalled}
use Rattle.eif_valid_bodies.specs.ValidCalls as valid
use Rattle.eif_run_laws.specs.Holders.{IsComplete, Fits, AllFit}
use Rattle.eif_run_laws.specs.ObjectTypes.{IsMade, Over}
use Rattle.eif_run_laws.specs.Steps.{Safe, heap_of}
use Rattle.eif_run_laws.proofs.Lists.{some_is}
use Rattle.eif_run_laws.proofs.Fitting.{from_object, fits_attached}
use Rattle.eif_run_sound.specs.Bodies.{Running, frame_of, setting_of, meanings_of, written, closed}
use Rattle.eif_run_sound.specs.ExpressionRuns.{IsEntity, MetOn, behind_on, HidesNone, types_of}
use Rattle.eif_run_sound.specs.Fields.{due}
use Rattle.eif_run_sound.specs.Invariant.{Shows, Gives, held_by, held_in, DenotesNothing, Good, Later}
use Rattle.eif_run_sound.specs.UniverseLaws.{UniverseLaws}
use Rattle.eif_run_sound.proofs.States.{or_left, or_right, chain, later_same, later_extends, good_extends, good_ready}
use Rattle.eif_run_sound.proofs.Known.{true_or_false}
use Rattle.eif_run_sound.proofs.Types.{suit, all_fit, answers_seen}
use Rattle.eif_run_sound.proofs.Entities.{entity_cases}
use Rattle.eif_run_sound.proofs.Calls.{set_is, used_ok}

-- ---- types

-- an attached form closes to the attached form of what the type closes to
pub closed_attached : (xs : Actuals) (t : TyT) → put_in xs (attached_form t) ≡ attached_form (put_in xs t)
closed_attached xs (class_type k m ts) = refl
closed_attached xs (formal_type i m) = sym (attached_last m (actual_at xs i))
closed_attached xs none_type = refl

pub attached_twice : (t : TyT) → attached_form (attached_form t) ≡ attached_form t
attached_twice t = attached_last Attached t

-- ---- what a name denotes

-- by the test, the entity and the feature that there are
abbrev pub DenotesTest : Setting → List Fact → List ℕ → List Argument → Option TyT → Type 0
DenotesTest s k x args result =
    (w : Usable) × (usable_test k x ≡ Some w) × (args ≡ []) × HasType result × (w.type ≡ result)

abbrev pub DenotesEntity : Setting → List Fact → List ℕ → List Argument → Option TyT → Type 0
DenotesEntity s k x args result =
    (usable_test k x ≡ None) × (e : rules.Entity) × (entity_of s x ≡ Some e) × (args ≡ [])
    × (Some (seen_type (is_known_attached k x) e.type) ≡ result)

abbrev pub DenotesFeature : Setting → List Fact → List ℕ → List Argument → Option TyT → Type 0
DenotesFeature s k x args result =
    (entity_of s x ≡ None) × (g : Signature) × (signature s.universe s.line x ≡ Some g) × IsCalled s args g
    × (g.result ≡ result)

denoted_by : (s : Setting) (k : List Fact) (x : List ℕ) (args : List Argument) (result : Option TyT)
    (o : Option Usable) (e : Option rules.Entity) (g : Option Signature)
    → valid.Gives s k x args result (or_test (or_entity (or_feature g) e) o)
    → usable_test k x ≡ o → entity_of s x ≡ e → signature s.universe s.line x ≡ g
    → DenotesTest s k x args result ⊎ (DenotesEntity s k x args result ⊎ DenotesFeature s k x args result)
denoted_by s k x args result (Some w) e g h i j l = inl (w, i, h.0, h.1, h.2)
denoted_by s k x args result None (Some e) g h i j l = inr (inl (i, e, j, h.0, h.1))
denoted_by s k x args result None None (Some g) h i j l = inr (inr (j, g, l, h.0, h.1))
denoted_by s k x args result None None None h i j l = absurd h

pub denoted : (s : Setting) (k : List Fact) (x : List ℕ) (args : List Argument) (result : Option TyT)
    → valid.Gives s k x args result (meaning s k x)
    → DenotesTest s k x args result ⊎ (DenotesEntity s k x args result ⊎ DenotesFeature s k x args result)
unfolding meaning
denoted s k x args result h =
    denoted_by s k x args result (usable_test k x) (entity_of s x) (signature s.universe s.line x) h refl refl refl

-- a local that is read is set
pub local_set : (s : Setting) (k : List Fact) (set : List (List ℕ)) (x : List ℕ) (e : rules.Entity)
    → reads.LocalIsSet set x (meaning s k x) → usable_test k x ≡ None → entity_of s x ≡ Some e → e.is_local ≡ true
    → reads.IsSet set x e.type
unfolding meaning
local_set s k set x e h none some is =
    subst (λ o. reads.LocalIsSet set x (or_test (or_entity (or_feature (signature s.universe s.line x)) o) None)) some
    (subst (λ o. reads.LocalIsSet set x (or_test (or_entity (or_feature (signature s.universe s.line x))
    (entity_of s x)) o))
    none h) is

no_values : (system : System) (h : List Object) (ts : List Argument) (xs : Actuals) (vs : List Value) → ts ≡ []
    → AllFit system h (map (put_in xs) (types_of ts)) vs → vs ≡ []
no_values system h ts xs vs e f = go vs (subst (λ ts. AllFit system h (map (put_in xs) (types_of ts)) vs) e f)
  where
    go : (vs : List Value) → AllFit system h [] vs → vs ≡ []
    go [] f = refl
    go (v ∷ vs) f = absurd f

module _ (u : List ClassT) (laws : UniverseLaws u) (r : Running u) where
  abbrev system : System
  system = system_over u

  abbrev c : Frame
  c = frame_of u r

  abbrev S : Setting
  S = setting_of u r

  abbrev class_of_text : ℕ
  class_of_text = r.declaration.class_number

  pub written_is : (t : TypeT) → written_type c t ≡ written u r t
  written_is t = ap (λ o. option_map_or (λ c. resolved u c t) o none_type) r.at

  pub no_entity_of : (x : List ℕ) → entity_of S x ≡ None → entity r.declaration.tree x ≡ None
  no_entity_of x e =
      ⊎_elim (λ a. let q : Some a.2.0 ≡ None = sym a.2.1 ∙ e in cc)
      (λ rest. ⊎_elim (λ a. let q : Some a.2.0 ≡ None = sym a.2.1 ∙ e in cc) (λ a. a.0) rest)
      (entity_cases u r.text r.declaration.tree x)

  -- what is no feature does nothing to fields
  pub used_none : (p : Place) (hidden : List (List ℕ)) (x : List ℕ) → signature u (line_of u class_of_text) x ≡ None
      → unless_hidden hidden x ((meanings_of u r).used p x) ≡ idle
  used_none p hidden x none = by (is_among hidden x) (laws.features.unnamed r.type.class_number class_of_text x none)
    where
      by : (b : Bool) → bind (line_of u r.type.class_number) class_of_text x ≡ None
          → (if b then idle else (meanings_of u r).used p x) ≡ idle
      by true e = refl
      by false e = ap (λ o. option_map_or (use_of (line_of u r.type.class_number) p) o idle) e

  -- what is a feature is not hidden
  pub used_some : (p : Place) (hidden : List (List ℕ)) (x : List ℕ) (g : Signature) → HidesNone u r hidden
      → signature u (line_of u class_of_text) x ≡ Some g
      → unless_hidden hidden x ((meanings_of u r).used p x) ≡ (meanings_of u r).used p x
  used_some p hidden x g hides some = by (is_among hidden x) (hides x)
    where
      by : (b : Bool) → (b ≡ true → signature u (line_of u class_of_text) x ≡ None)
          → (if b then idle else (meanings_of u r).used p x) ≡ (meanings_of u r).used p x
      by true h = let q : None ≡ Some g = sym (h refl) ∙ some in cc
      by false h = refl

  -- what is a feature or an entity is no bound test local
  unbound : (k : List Fact) (set : List (List ℕ)) (f : FieldSet) (s : State) (x : List ℕ) → Good u r k set f s
      → (DenotesNothing u r x → ⊥) → s.test x ≡ None
  unbound k set f s x g h = by (s.test x) refl
    where
      by : (o : Option Seen) → s.test x ≡ o → s.test x ≡ None
      by None e = e
      by (Some w) e = absurd (h (g.tests x w e).1)

  -- ---- what a name gives

  -- nothing but the store has changed; a name of an argument or a local has given what that holds
  pub record Named (k : List Fact) (set : List (List ℕ)) (f : FieldSet) (x : List ℕ) (result : Option TyT)
      (s t : State)
      (o : Option Seen) : Type 0 where
    pub later : Later [] s t
    pub good : Good u r k set f t
    pub gives : Gives u r (heap_of t) result o
    pub read : (w : Seen) → o ≡ Some w → IsEntity (entity r.declaration.tree x) → held_in u r t x ≡ Some w.value

  module _ (k : List Fact) (set hidden : List (List ℕ)) (f : FieldSet) (p : Place) (x : List ℕ)
      (given : List Argument)
      (result : Option TyT) (vs : List Value) (s : State) (g : Good u r k set f s) (hides : HidesNone u r hidden)
      (fit : AllFit system (heap_of s) (map (closed r) (types_of given)) vs) where
    abbrev flow : Flow
    flow = unless_hidden hidden x ((meanings_of u r).used p x)

    abbrev NameEnds : State → Option Seen → Type 0
    NameEnds = Named k set (behind_on u r flow f) x result s

    -- the same state, and a value of a type
    shown : (t : TyT) (w : Seen) → signature u (line_of u class_of_text) x ≡ None → Some t ≡ result
        → Shows u r (heap_of s) t w → (IsEntity (entity r.declaration.tree x) → held_in u r s x ≡ Some w.value)
        → NameEnds s (Some w)
    shown t w none is here read =
        let idles = used_none p hidden x none in
        record {
          later = later_same [] s;
          good = subst (λ m. Good u r k set (behind_on u r m f) s) (sym idles) g;
          gives = subst (λ o. Gives u r (heap_of s) o (Some w)) is here;
          read = λ v e h. read h ∙ ap (λ (w : Seen). Some w.value) (some_is e);
        }

    name_test : DenotesTest S k x given result → Safe (call_name c x vs s) NameEnds
    name_test d =
        let t = d.3 in
        let b = g.known.usable x d.0 t.type d.1 (d.4 ∙ t.is) in
        let free = (g.tests x b.0 b.1).1 in
        subst (λ o. Safe (bound_or o vs (entity_or_feature c x vs (entity c.tree x)) s) NameEnds) (sym b.1)
        (subst (λ vs. Safe (bound_or (Some b.0) vs (entity_or_feature c x vs (entity c.tree x)) s) NameEnds)
        (sym (no_values system (heap_of s) given r.actuals vs d.2 fit))
        (shown t.type b.0 free.feature_none (sym t.is) b.2
        (λ h. absurd (subst IsEntity free.entity_none h))))

    -- not bound: an entity or a feature
    not_bound : s.test x ≡ None → Safe (entity_or_feature c x vs (entity c.tree x) s) NameEnds
        → Safe (call_name c x vs s) NameEnds
    not_bound e h =
        subst (λ o. Safe (bound_or o vs (entity_or_feature c x vs (entity c.tree x)) s) NameEnds) (sym e) h

    -- a value of a declared type, which is seen as attached where that is known
    seen_as_known : (t : TyT) (v : Value) → Fits system (heap_of s) (closed r t) v
        → (is_known_attached k x ≡ true → is_void v ≡ false)
        → Shows u r (heap_of s) (seen_type (is_known_attached k x) t) (record { value = v; type = t })
    seen_as_known t v fits h = by (is_known_attached k x) h
      where
        by : (b : Bool) → (b ≡ true → is_void v ≡ false)
            → Shows u r (heap_of s) (seen_type b t) (record { value = v; type = t })
        by false h = record { fits = fits; seen = refl }
        by true h = record {
          fits = subst (λ a. Fits system (heap_of s) a v) (sym (closed_attached r.actuals t))
              (fits_attached system laws.types (heap_of s) (closed r t) v (h refl) fits);
          seen = sym (attached_twice t);
        }

    -- an entity with the value v of the type a
    entity_read : (a : TypeT) (e : rules.Entity) (v : Value) (en : Entity) → entity c.tree x ≡ Some en
        → e.type ≡ resolved u r.text a → Some (seen_type (is_known_attached k x) e.type) ≡ result
        → signature u (line_of u class_of_text) x ≡ None
        → held_in u r s x ≡ Some v → Fits system (heap_of s) (closed r (written u r a)) v
        → NameEnds s (Some (record { value = v; type = written_type c a }))
    entity_read a e v en is type seen none held fits =
        subst (λ t. NameEnds s (Some (record { value = v; type = t }))) (sym (written_is a))
        (shown (seen_type (is_known_attached k x) (written u r a)) (record { value = v; type = written u r a }) none
        (subst (λ t. Some (seen_type (is_known_attached k x) t) ≡ result) type seen)
        (seen_as_known (written u r a) v fits (λ h. g.known.attached x h v held)) (λ h. held))

    read_argument : (a : TypeT) (e : rules.Entity) → entity c.tree x ≡ Some (argument a)
        → e.type ≡ resolved u r.text a
        → Some (seen_type (is_known_attached k x) e.type) ≡ result → signature u (line_of u class_of_text) x ≡ None
        → Safe (read_entity c x (argument a) s) NameEnds
    read_argument a e is type seen none =
        let v = g.arguments x a is in
        subst (λ o. Safe (some_or unset o (λ v. give_seen v (written_type c a)) s) NameEnds) (sym v.1)
        (entity_read a e v.0 (argument a) is type seen none (ap (held_by u r s x) is ∙ v.1) v.2)

    read_local : (a : TypeT) (e : rules.Entity) → entity c.tree x ≡ Some (local a) → e.type ≡ resolved u r.text a
        → Some (seen_type (is_known_attached k x) e.type) ≡ result → signature u (line_of u class_of_text) x ≡ None
        → reads.IsSet set x e.type → Safe (read_entity c x (local a) s) NameEnds
    read_local a e is type seen none sure =
        let v = set_is (s.local x) (g.locals_set x a is (subst (reads.IsSet set x) type sure)) in
        subst (λ o. Safe (some_or unset o (λ v. give_seen v (written_type c a)) s) NameEnds) (sym v.1)
        (entity_read a e v.0 (local a) is type seen none (ap (held_by u r s x) is ∙ v.1) (g.locals x a is v.0 v.1))

    -- the entity is read, since there are no arguments
    entity_first : (en : Entity) → entity c.tree x ≡ Some en → given ≡ []
        → Safe (read_entity c x en s) NameEnds → Safe (call_name c x vs s) NameEnds
    entity_first en is none h =
        not_bound (unbound k set f s x g (λ n. let q : None ≡ Some en = sym n.entity_none ∙ is in cc))
        (subst (λ o. Safe (entity_or_feature c x vs o s) NameEnds) (sym is)
        (subst (λ vs. Safe (entity_or_feature c x vs (Some en) s) NameEnds)
        (sym (no_values system (heap_of s) given r.actuals vs none fit)) h))

    name_entity : (signature_none : (e : rules.Entity) → entity_of S x ≡ Some e
        → signature u (line_of u class_of_text) x ≡ None)
        → DenotesEntity S k x given result → reads.LocalIsSet set x (meaning S k x)
        → Safe (call_name c x vs s) NameEnds
    name_entity none d set_reads =
        let e = d.1 in
        ⊎_elim
        (λ a. let same = some_is (sym a.2.1 ∙ d.2) in
        entity_first (argument a.0) a.1 d.3
        (read_argument a.0 e a.1 (sym (ap (λ (e : rules.Entity). e.type) same) ∙ a.2.2) d.4 (none e d.2)))
        (λ rest. ⊎_elim
        (λ a. let same = some_is (sym a.2.1 ∙ d.2) in
        entity_first (local a.0) a.1 d.3
        (read_local a.0 e a.1 (sym (ap (λ (e : rules.Entity). e.type) same) ∙ a.2.2) d.4 (none e d.2)
        (local_set S k set x e set_reads d.0 d.2 (sym (ap (λ (e : rules.Entity). e.is_local) same) ∙ a.2.3))))
        (λ a. let q : None ≡ Some e = sym a.1 ∙ d.2 in cc)
        rest)
        (entity_cases u r.text r.declaration.tree x)

    -- as it is
    same_result : (o : Option TyT) → option_map (λ t. t) o ≡ o
    same_result None = refl
    same_result (Some t) = refl

    name_feature : DenotesFeature S k x given result → MetOn u r flow f → Safe (call_name c x vs s) NameEnds
    name_feature d met =
        let sg = d.1 in
        let flows = used_some p hidden x sg hides d.2 in
        let none = no_entity_of x d.0 in
        not_bound (unbound k set f s x g (λ n. let q : None ≡ Some sg = sym n.feature_none ∙ d.2 in cc))
        (subst (λ o. Safe (entity_or_feature c x vs o s) NameEnds) (sym none)
        (subst (λ o. Safe (some_or no_feature o
        (λ g. feature_on c r.current class_of_text x vs >>= (λ a. give (seen_as (option_map (λ t. t) g.result) a))) s)
        NameEnds) (sym d.2)
        (chain (feature_on c r.current class_of_text x vs) (λ a. give (seen_as (option_map
        (λ t. t) sg.result) a)) s _ NameEnds
        (used_ok u laws r k set f s g x sg vs d.2 (all_fit u laws r (heap_of s) given sg.arguments vs d.3.fit fit) p
        (subst (λ m. MetOn u r m f) flows met))
        (λ t a h.
        let good = good_extends u r k set f s t g h.0.0 in
        record {
          later = later_extends system [] s t h.0.0;
          good = subst (λ m. Good u r k set (behind_on u r m f) t) (sym flows)
              (good_ready u r k set f (behind_on u r ((meanings_of u r).used p x) f) t good
              (h.1 good.object good.there));
          gives = subst (λ o. Gives u r (heap_of t) o (seen_as (option_map (λ t. t) sg.result) a))
              (same_result sg.result ∙ d.4)
              (answers_seen u laws r (heap_of t) r.actuals (λ t. t) (λ t. refl) sg.result a h.0.1);
          read = λ w e i. absurd (subst IsEntity none i);
        }))))

    pub name_ok : ((e : rules.Entity) → entity_of S x ≡ Some e → signature u (line_of u class_of_text) x ≡ None)
        → valid.Gives S k x given result (meaning S k x)
        → (given ≡ [] → reads.LocalIsSet set x (meaning S k x)) → MetOn u r flow f
        → Safe (call_name c x vs s) NameEnds
    name_ok none gives set_reads met =
        ⊎_elim name_test (λ rest. ⊎_elim (λ d. name_entity none d (set_reads d.3)) (λ d. name_feature d met) rest)
        (denoted S k x given result gives)

  -- ---- Current and Result

  -- the object has no unset field where all that are due are set
  pub complete_current : (k : List Fact) (set : List (List ℕ)) (f : FieldSet) (s : State) (g : Good u r k set f s)
      → ((n : List ℕ) → due u r.type.class_number n ≡ true → f n ≡ true) → IsComplete system g.object
  complete_current k set f s g within = λ n t e.
      let at = ap (λ (d : ClassType). field_type system d.class_number n) (sym g.made) ∙ e in
      g.ready n t e (⊎_elim (λ q. or_left (is_self_initialising t) (f n) q)
      (λ q. or_right (is_self_initialising t) (f n)
      (within n (laws.creation.due_or_set r.type.class_number n t at q)))
      (true_or_false (is_self_initialising t)))

  -- Current is seen as the class of the text
  pub current_shown : (k : List Fact) (set : List (List ℕ)) (f : FieldSet) (s : State) (g : Good u r k set f s)
      → ((n : List ℕ) → due u r.type.class_number n ≡ true → f n ≡ true)
      → Shows u r (heap_of s) (own_type class_of_text r.text) (record { value = r.current; type = current_type c })
  current_shown k set f s g within =
      let own = laws.open_types.own class_of_text r.text r.at r.actuals (suit u laws r) in
      record {
        fits = from_object system (heap_of s) (closed r (own_type class_of_text r.text)) r.current record {
          object = g.object;
          there = g.there;
          conforms =
              subst (λ xs. system.conforms (type_of g.object) (class_type class_of_text Attached xs) ≡ true) (sym own)
              (laws.open_types.up g.object (subst (IsMade system) (sym g.made) r.made) class_of_text r.actuals
              (subst (λ t. Over system t class_of_text r.actuals) (sym g.made) r.over));
          complete = complete_current k set f s g within;
        };
        seen = ap (λ o. class_type class_of_text Attached (option_map_or own_formals o no_actuals)) r.at;
      }

  result_by : (k : List Fact) (set : List (List ℕ)) (f : FieldSet) (s : State) → Good u r k set f s → (t : TyT)
      → (o : Option TypeT) → r.declaration.tree.result_type ≡ o → option_map (resolved u r.text) o ≡ Some t
      → reads.ResultIsSet set (option_map (resolved u r.text) o)
      → Safe (read_result c o s) (λ v w. Later [] s v × Good u r k set f v × Gives u r (heap_of v) (Some t) w)
  result_by k set f s g t None is e sure = cc
  result_by k set f s g t (Some a) is e sure =
      let v = set_is s.result (g.result_set a is sure) in
      let type : written_type c a ≡ t = written_is a ∙ some_is e in
      subst (λ o. Safe (some_or unset o (λ v. give_seen v (written_type c a)) s)
      (λ v w. Later [] s v × Good u r k set f v × Gives u r (heap_of v) (Some t) w)) (sym v.1) (
        later_same [] s,
        g,
        record {
          fits = subst (λ t. Fits system (heap_of s) (closed r t) v.0) (some_is e) (g.result a is v.0 v.1);
          seen = ap attached_form type;
        },
      )

  pub result_ok : (k : List Fact) (set : List (List ℕ)) (f : FieldSet) (s : State) → Good u r k set f s → (t : TyT)
      → S.result ≡ Some t → reads.ResultIsSet set S.result
      → Safe (read_result c r.declaration.tree.result_type s)
      (λ v w. Later [] s v × Good u r k set f v × Gives u r (heap_of v) (Some t) w)
  result_ok k set f s g t e sure = result_by k set f s g t r.declaration.tree.result_type refl e sure
