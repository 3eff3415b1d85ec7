-- Creations: a new object, and its creator on it.
use Rattle.std.proofs.Common.{◌≡◌, ℕ, zero, suc, ◌<◌, Bool, true, false, not, List, [], ◌∷◌, ◌++◌, map, length, Option, Some, None, refl, sym, ap, ap₂, subst, ◌∙◌, inl, inr, arith}
use Rattle.std.specs.Prelude.{◌⊎◌, ◌||◌, ◌&&◌, if◌then◌else◌, slice_get}
use Rattle.std.specs.Option.{option_map, option_map_or, option_and_then, option_or}
use Rattle.eif_tree.specs.declared.tree.Mark.{Mark}
use Rattle.eif_tree.specs.declared.tree.Mark.TheVariants.{Attached}
use Rattle.eif_tree.specs.declared.tree.NameAt.{NameAt}
use Rattle.eif_tree.specs.Tree.{ClassT}
use Rattle.eif_classes.specs.Constraints.{class_in}
use Rattle.eif_classes.specs.Creators.{default_creator, is_creator_for}
use Rattle.eif_classes.specs.KernelNumbers.{is_basic}
use Rattle.eif_classes.specs.Resolution.{actuals_in}
use Rattle.eif_classes.specs.Signatures.{Signature, signature, with_actuals}
use Rattle.eif_classes.specs.Types.{TyT, class_type, formal_type, none_type, Actuals, attached_form, put_in, put_in_all, is_self_initialising}
use Rattle.eif_system.specs.Lineage.{line_by, line_of}
use Rattle.eif_type_laws.proofs.Substitution.{put_put}
use Rattle.eif_body_rules.specs.CallRules.{Argument}
use Rattle.eif_body_rules.specs.CreationRules.{Creation, is_deferred}
use Rattle.eif_body_rules.specs.Settings.{Setting}
use Rattle.eif_flow_rules.specs.FieldSets.{no_fields}
use Rattle.eif_meaning.specs.Values.{Value, reference, ClassType, Object, Seen, State, no_feature, give, some_or, fail}
use Rattle.eif_meaning.specs.System.{System, declaration_in, system_over}
use Rattle.eif_meaning.specs.Objects.{start, start_value, field_type, type_of, new_object, object_of, with_heap}
use Rattle.eif_meaning.specs.Frames.{Frame}
use Rattle.eif_meaning.specs.Operands.{give_seen}
use Rattle.eif_meaning.specs.Calls.{enter}
use Rattle.eif_meaning.specs.Creations.{creator_name, make_by, make_of, create_object}
use Rattle.eif_meaning.specs.Evaluation.{written_name}
use Rattle.eif_valid_bodies.specs.ValidNodes.{IsCreated}
use Rattle.eif_run_laws.specs.ObjectTypes.{IsMade}
use Rattle.eif_run_laws.specs.Holders.{IsSet, IsComplete, AllFit, IsHeap}
use Rattle.eif_run_laws.specs.Steps.{Safe, heap_of, Extends}
use Rattle.eif_run_laws.proofs.Lists.{some_is, get_new}
use Rattle.eif_run_laws.proofs.Growing.{grow_added, grow_on, object_stays, all_grown}
use Rattle.eif_run_laws.proofs.Fitting.{from_object, object_made}
use Rattle.eif_run_laws.proofs.Heaps.{heap_created}
use Rattle.eif_run_sound.specs.Bodies.{Running, frame_of, setting_of, flow_on, closed}
use Rattle.eif_run_sound.specs.ExpressionRuns.{types_of}
use Rattle.eif_run_sound.specs.Fields.{Ready, behind}
use Rattle.eif_run_sound.specs.Invariant.{Shows, Gives}
use Rattle.eif_run_sound.specs.UniverseLaws.{IsTypeIn, IsCreator, all_closed, UniverseLaws}
use Rattle.eif_run_sound.proofs.States.{or_left, or_right, chain}
use Rattle.eif_run_sound.proofs.Known.{true_or_false}
use Rattle.eif_run_sound.proofs.Types.{suit, all_fit, closed_list}
use Rattle.eif_run_sound.proofs.Calls.{enter_ok}

get_within : {A : Type 0} (xs : List A) (i : ℕ) → i < length xs → (x : A) × (slice_get xs i ≡ Some x)
get_within [] i h = absurd (omega arith)
get_within (x ∷ xs) zero h = (x, refl)
get_within (x ∷ xs) (suc i) h = let g : i < length xs = omega arith in get_within xs i g

class_type_is : (t : TyT) (d : ℕ) → class_in t ≡ Some d → (m : Mark) × (ys : Actuals) × (t ≡ class_type d m ys)
class_type_is (class_type k m ys) d e = (m, ys, ap (λ k. class_type k m ys) (some_is e))
class_type_is (formal_type i m) d e = cc
class_type_is none_type d e = cc

-- what needs no setting begins with a value
start_set : (t : TyT) (b : Bool) → is_self_initialising t ≡ b → (b || false) ≡ true
    → IsSet (if b then Some (start_value t) else None)
start_set t true e h = tt
start_set t false e h = cc

pub new_ready : (system : System) (t : ClassType) (n : List ℕ) (a : TyT) → field_type system t.class_number n ≡ Some a
    → (is_self_initialising a || false) ≡ true → IsSet ((new_object system t).field n)
new_ready system t n a e h =
    subst (λ o. IsSet (option_and_then start o)) (sym e) (start_set a (is_self_initialising a) refl h)

module _ (u : List ClassT) (laws : UniverseLaws u) (r : Running u) where
  abbrev system : System
  system = system_over u

  abbrev c : Frame
  c = frame_of u r

  abbrev S : Setting
  S = setting_of u r

  abbrev class_of_text : ℕ
  class_of_text = r.declaration.class_number

  module _ (s : State) (heap : IsHeap system (heap_of s)) where
    -- the object is made, and its creator sets all its fields
    module _ (t : ClassType) (made : IsMade system t) (real : is_basic t.class_number ≡ false) (n : List ℕ)
        (args : List TyT) (w : IsCreator u t n args) (vs : List Value) (fit : AllFit system (heap_of s) args vs) where
      abbrev new : Object
      new = new_object system t

      abbrev new_heap : List Object
      new_heap = heap_of s ++ new ∷ []

      abbrev first : State
      first = record s { store = with_heap new_heap s.store }

      abbrev place : Value
      place = reference (length (heap_of s))

      -- a later state, in which the object has no unset field
      abbrev Made : State → Value → Type 0
      Made v a = Extends system s v × (o : Object) × (object_of (heap_of v) a ≡ Some o) × (o.made ≡ t)
          × IsComplete system o

      begun : Extends system s first
      begun = record {
        rest = refl;
        grown = grow_added (heap_of s) new;
        heap = heap_created system laws.types
            (heap_of s) t heap made real;
      }

      complete : (o : Object) → o.made ≡ t
          → Ready u (behind u o.made.class_number (flow_on u o.made.class_number w.version) no_fields) o
          → IsComplete system o
      complete o is ready m a e = ready m a e (set_by (true_or_false (is_self_initialising a)))
        where
          set_by : (is_self_initialising a ≡ true) ⊎ (is_self_initialising a ≡ false)
              → (is_self_initialising a || behind u o.made.class_number
              (flow_on u o.made.class_number w.version) no_fields m) ≡ true
          set_by (inl q) = or_left (is_self_initialising a) _ q
          set_by (inr q) =
              or_right (is_self_initialising a) _
              (subst (λ (t : ClassType). behind u t.class_number
              (flow_on u t.class_number w.version) no_fields m ≡ true) (sym is)
              (w.sets_all m (laws.creation.due_or_set t.class_number m a
              (ap (λ (t : ClassType). field_type system t.class_number m) (sym is) ∙ e) q)))

      pub made_by : Safe (make_by c t vs w.version s) Made
      made_by =
          chain (enter c place w.version vs) (λ _. give place) first _ Made
          (enter_ok u laws r first begun.heap place new (get_new
          (heap_of s) new) t refl w.version args None vs no_fields
          w.serves (all_grown system (heap_of s) new_heap args vs begun.grown fit)
          (λ m a e h. new_ready system t m a e h) w.met)
          (λ v a h.
          let later = extends_later v h.0.0 in
          let p = object_stays new_heap (heap_of v) h.0.0.grown place new (get_new (heap_of s) new) in
          (later, p.0, p.1, p.2.made, complete p.0 p.2.made (h.1 p.0 p.1)))
        where
          extends_later : (v : State) → Extends system first v → Extends system s v
          extends_later v e = record {
            rest = e.rest;
            grown = grow_on (heap_of s) new_heap (heap_of v) begun.grown e.grown;
            heap = e.heap;
          }

      pub made_of : (f : Option (List ℕ)) → system.is_creatable t.class_number ≡ true
          → creator_name c t.class_number f ≡ Some n → Safe (make_of c f vs t s) Made
      made_of f creatable named =
          subst (λ b. Safe ((if b then some_or no_feature (creator_name c t.class_number f)
          (λ n. some_or no_feature (system.origin t.class_number n) (make_by c t vs)) else fail no_feature) s) Made)
          (sym creatable)
          (subst (λ o. Safe (some_or no_feature o
          (λ n. some_or no_feature (system.origin t.class_number n) (make_by c t vs)) s) Made) (sym named)
          (subst (λ o. Safe (some_or no_feature o (make_by c t vs) s) Made)
          (sym (ap (option_and_then declaration_in) w.version_is)) made_by))

    -- ---- of a class type that the text sees

    abbrev CreatedAs : TyT → State → Option Seen → Type 0
    CreatedAs t v o = Extends system s v × Gives u r (heap_of v) (Some (attached_form t)) o

    -- seen as its attached form
    created_shown : (d : ℕ) (m : Mark) (ys : Actuals) (v : State) (a : Value) (o : Object) → IsHeap system (heap_of v)
        → object_of (heap_of v) a ≡ Some o → o.made ≡ record { class_number = d; actuals = put_in_all r.actuals ys }
        → IsComplete system o
        → Shows u r (heap_of v) (attached_form (class_type d m ys)) (record {
          value = a;
          type = attached_form
              (class_type d m ys);
        })
    created_shown d m ys v a o heap there is complete = record {
      fits = from_object system (heap_of v) (class_type d Attached (put_in_all r.actuals ys)) a record {
        object = o;
        there = there;
        conforms =
            subst (λ (t : ClassType). system.conforms (type_of o)
            (class_type t.class_number Attached t.actuals) ≡ true) is
            (laws.types.same o (object_made system laws.types (heap_of v) a o heap there));
        complete = complete;
      };
      seen = refl;
    }

    name_is : (d : ℕ) (n : List ℕ) (o : Option NameAt)
        → option_or (option_map (λ n. n.name) o) (default_creator (line_of u d)) ≡ Some n
        → creator_name c d (written_name o) ≡ Some n
    name_is d n None e = e
    name_is d n (Some x) e = e

    module _ (d : ℕ) (m : Mark) (ys : Actuals) (typed : IsTypeIn u class_of_text (class_type d m ys))
        (deferred : is_deferred S d ≡ false) (real : is_basic d ≡ false) (n : List ℕ) (g : Signature)
        (one : is_creator_for u (line_of u d) n class_of_text ≡ true) (found : signature u (line_of u d) n ≡ Some g)
        (vs : List Value) (fit : AllFit system (heap_of s) (all_closed
        (put_in_all r.actuals ys) g.arguments) vs) where
      text : (x : ClassT) × (slice_get u d ≡ Some x)
      text = get_within u d typed.0.0

      effective : text.0.is_deferred ≡ false
      effective = ap (λ o. option_map_or (λ (x : ClassT). x.is_deferred) o false) (sym text.1) ∙ deferred

      creatable : system.is_creatable d ≡ true
      creatable =
          ap (λ o. option_map_or (λ (x : ClassT). not x.is_deferred && not (is_basic d)) o false) text.1
          ∙ ap₂ (λ a b. not a && not b) effective real

      abbrev type_made : ClassType
      type_made = record { class_number = d; actuals = put_in_all r.actuals ys }

      made : IsMade system type_made
      made = laws.open_types.made class_of_text r.actuals (suit u laws r) d m ys typed text.0 text.1 effective

      pub class_created : (o : Option NameAt)
          → option_or (option_map (λ n. n.name) o) (default_creator (line_of u d)) ≡ Some n
          → Safe (create_object c (written_name o) vs (class_type d m ys) s) (CreatedAs (class_type d m ys))
      class_created o named =
          let w = laws.creation.creators type_made made real class_of_text n g one found in
          chain (make_of c (written_name o) vs type_made) (λ v. give_seen v (attached_form (class_type d m ys))) s
          (Made type_made made real n (all_closed type_made.actuals g.arguments) w vs fit) (CreatedAs
          (class_type d m ys))
          (made_of type_made made real n (all_closed type_made.actuals g.arguments) w vs fit
          (written_name o) creatable
          (name_is d n o named))
          (λ v a h. (h.0, created_shown d m ys v a h.1 h.0.heap h.2 h.3 h.4))

    pub created_ok : (k : Creation) (args : List Argument) (vs : List Value) → IsCreated S k args
        → IsTypeIn u class_of_text k.type → AllFit system (heap_of s) (map (closed r) (types_of args)) vs
        → Safe (create_object c (written_name k.creator) vs k.type s) (CreatedAs k.type)
    created_ok k args vs i typed fit =
        let t = class_type_is k.type i.class i.class_is in
        let m = t.0 in let ys = t.1 in
        let found = ap (λ o. signature u (line_by (line_of u) o) i.creator) (sym i.class_is) ∙ i.found in
        let one = ap (λ o. is_creator_for u (line_by (line_of u) o) i.creator class_of_text)
        (sym i.class_is) ∙ i.is_one in
        let named = ap (λ o. option_or (option_map (λ n. n.name) k.creator) (default_creator (line_by (line_of u) o)))
        (sym i.class_is) ∙ i.named in
        let args_fit : AllFit system (heap_of s) (all_closed (put_in_all r.actuals ys) i.signed.arguments) vs =
        subst (λ ts. AllFit system (heap_of s) ts vs)
        (ap (λ t. map (closed r) (map (put_in (actuals_in t)) i.signed.arguments)) t.2
        ∙ closed_list u laws r (put_in_all r.actuals ys) (put_in ys) (put_put ys r.actuals) i.signed.arguments)
        (all_fit u laws r (heap_of s) args (with_actuals (actuals_in k.type) i.signed).arguments vs i.called.fit fit)
        in
        subst (λ t. Safe (create_object c (written_name k.creator) vs t s) (CreatedAs t)) (sym t.2)
        (class_created i.class m ys (subst (IsTypeIn u class_of_text) t.2 typed) i.effective i.reference i.creator
        i.signed
        one found vs args_fit k.creator named)
