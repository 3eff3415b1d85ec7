-- Calls on targets, and of versions of parents.
use Rattle.std.proofs.Common.{◌≡◌, ℕ, true, false, List, map, Option, Some, None, refl, sym, ap, subst, ◌∙◌}
use Rattle.std.specs.Prelude.{if◌then◌else◌, is_some}
use Rattle.std.specs.Option.{option_map, option_map_or, option_and_then}
use Rattle.eif_tree.specs.declared.tree.Mark.{Mark}
use Rattle.eif_tree.specs.Tree.{ClassT}
use Rattle.eif_classes.specs.Constraints.{base_type, class_in, is_attached}
use Rattle.eif_classes.specs.Resolution.{actuals_in}
use Rattle.eif_classes.specs.Signatures.{Signature, signature, with_actuals}
use Rattle.eif_classes.specs.Types.{TyT, class_type, formal_type, none_type, Actuals, no_actuals, attached_form, put_in, put_in_all}
use Rattle.eif_system.specs.Lineage.{line_by, line_of}
use Rattle.eif_type_laws.proofs.Substitution.{put_put}
use Rattle.eif_body_rules.specs.CallRules.{Argument, base_line, base_actuals}
use Rattle.eif_body_rules.specs.Settings.{Setting}
use Rattle.eif_meaning.specs.Values.{Value, void, integer, boolean, character, reference, ClassType, Object, Seen, State, void_target, no_feature, fail, ◌>>=◌, give, some_or}
use Rattle.eif_meaning.specs.System.{System, system_over}
use Rattle.eif_meaning.specs.Objects.{object_of}
use Rattle.eif_meaning.specs.Frames.{Frame}
use Rattle.eif_meaning.specs.Calls.{is_void, unmarked, seen_class, through, call_on, feature_on, seen_as}
use Rattle.eif_valid_bodies.specs.ValidCalls.{IsCalled}
use Rattle.eif_run_laws.specs.ObjectTypes.{takes_void, Over}
use Rattle.eif_run_laws.specs.Holders.{IsComplete, Fits, AllFit, IsHeap}
use Rattle.eif_run_laws.specs.Steps.{Safe, heap_of, Extends}
use Rattle.eif_run_laws.proofs.Fitting.{as_object, object_made}
use Rattle.eif_run_sound.specs.Bodies.{Running, frame_of, setting_of, closed}
use Rattle.eif_run_sound.specs.ExpressionRuns.{types_of}
use Rattle.eif_run_sound.specs.Invariant.{Shows, Gives}
use Rattle.eif_run_sound.specs.UniverseLaws.{all_closed, maybe_closed, UniverseLaws}
use Rattle.eif_run_sound.proofs.States.{chain}
use Rattle.eif_run_sound.proofs.Types.{suit, all_fit, answers_seen, closed_list}
use Rattle.eif_run_sound.proofs.Calls.{Called, on_complete}

-- a type that takes no Void holds something else
pub not_void : (system : System) (h : List Object) (t : TyT) (v : Value) → takes_void t ≡ false → Fits system h t v
    → is_void v ≡ false
not_void system h t void e f = let q : true ≡ false = sym f ∙ e in cc
not_void system h t (integer n) e f = refl
not_void system h t (boolean b) e f = refl
not_void system h t (character n) e f = refl
not_void system h t (reference n) e f = refl

-- ---- the class of a target

same_class : (system : System) (k : ℕ) (t : TyT) → seen_class system k (attached_form t) ≡ seen_class system k t
same_class system k (class_type d m ts) = refl
same_class system k (formal_type i m) = refl
same_class system k none_type = refl

abbrev Through : ℕ → Actuals → Option ClassType
Through b ys = Some (record { class_number = b; actuals = ys })

seen_base : (u : List ClassT) (k : ℕ) (t : TyT) (b : ℕ) (m : Mark) (ys : Actuals)
    → base_type u k t ≡ Some (class_type b m ys) → seen_class (system_over u) k t ≡ Through b ys
seen_base u k (class_type d n ts) b m ys e = ap (option_and_then unmarked) e
seen_base u k (formal_type i n) b m ys e = ap (option_and_then unmarked) e
seen_base u k none_type b m ys e = cc

base_is : (u : List ClassT) (x : List ℕ) (g : Signature) (o : Option TyT)
    → signature u (line_by (line_of u) (option_and_then class_in o)) x ≡ Some g
    → (b : ℕ) × (m : Mark) × (ys : Actuals) × (o ≡ Some (class_type b m ys))
base_is u x g None e = cc
base_is u x g (Some (class_type b m ys)) e = (b, m, ys, refl)
base_is u x g (Some (formal_type i m)) e = cc
base_is u x g (Some none_type) e = cc

module _ (u : List ClassT) (laws : UniverseLaws u) (r : Running u) where
  abbrev system : System
  system = system_over u

  abbrev c : Frame
  c = frame_of u r

  abbrev S : Setting
  S = setting_of u r

  abbrev class_of_text : ℕ
  class_of_text = r.declaration.class_number

  module _ (s : State) (heap : IsHeap system (heap_of s)) where
    -- through a class, on an object without an unset field
    pub through_ok : (v : Value) (o : Object) → object_of (heap_of s) v ≡ Some o → IsComplete system o
        → (b : ℕ) (ys zs : Actuals) → Over system o.made b zs → ((t : TyT) → closed r (put_in ys t) ≡ put_in zs t)
        → (x : List ℕ) (g : Signature) → signature u (line_of u b) x ≡ Some g
        → (vs : List Value) → AllFit system (heap_of s) (all_closed zs g.arguments) vs
        → Safe (through c (Through b ys) v x vs s)
        (λ t a. Extends system s t × Gives u r (heap_of t) (option_map (put_in ys) g.result) a)
    through_ok v o there complete b ys zs over see x g found vs fit =
        let Q = λ (t : State) (a : Option Seen). Extends system s t
        × Gives u r (heap_of t) (option_map (put_in ys) g.result) a in
        let w = laws.features.answered o.made (object_made system laws.types
        (heap_of s) v o heap there) b zs over x g found in
        subst (λ p. Safe (some_or no_feature p (λ g. feature_on c v b x vs
        >>= (λ a. give (seen_as (option_map (put_in ys) g.result) a))) s) Q) (sym found)
        (chain (feature_on c v b x vs) (λ a. give (seen_as (option_map (put_in ys) g.result) a)) s
        (Called u laws r (maybe_closed zs g.result) s) Q
        (on_complete u laws r s heap v o there o.made refl b x (all_closed zs g.arguments)
        (maybe_closed zs g.result) w vs
        fit complete)
        (λ t a h. (h.0, answers_seen u laws r (heap_of t) zs (put_in ys) see g.result a h.1)))

    -- on a target of an attached type
    pub target_ok : (t : TyT) (w : Seen) (x : List ℕ) (args : List Argument) (result : Option TyT) (g : Signature)
        (vs : List Value) → is_attached u class_of_text t ≡ true → signature u (base_line S t) x ≡ Some g
        → IsCalled S args (with_actuals (base_actuals S t) g) → (with_actuals (base_actuals S t) g).result ≡ result
        → Shows u r (heap_of s) t w → AllFit system (heap_of s) (map (closed r) (types_of args)) vs
        → Safe (call_on c w x vs s) (λ v o. Extends system s v × Gives u r (heap_of v) result o)
    target_ok t w x args result g vs attached found called is shows fit =
        let Q = λ (v : State) (o : Option Seen). Extends system s v × Gives u r (heap_of v) result o in
        let base = base_is u x g (base_type u class_of_text t) found in
        let b = base.0 in
        let ys = base.2 in
        let zs = put_in_all r.actuals ys in
        let actuals : base_actuals S t ≡ ys = ap (λ o. option_map_or actuals_in o no_actuals) base.3 in
        let there = ap (λ o. signature u (line_by (line_of u) (option_and_then class_in o)) x) (sym base.3) ∙ found in
        let something = not_void system (heap_of s) (closed r t) w.value
        (laws.open_types.attached class_of_text r.actuals (suit u laws r) t attached
        (ap is_some base.3)) shows.fits in
        let o = as_object system (heap_of s) (closed r t) w.value something shows.fits in
        let over = laws.open_types.base class_of_text r.actuals
        (suit u laws r) o.object t o.conforms b base.1 ys base.3 in
        let through_class : seen_class system class_of_text w.type ≡ Through b ys =
        sym (same_class system class_of_text w.type)
        ∙ (ap (seen_class system class_of_text) shows.seen
        ∙ (same_class system class_of_text t ∙ seen_base u class_of_text t b base.1 ys base.3)) in
        let args_fit : AllFit system (heap_of s) (all_closed zs g.arguments) vs =
        subst (λ ts. AllFit system (heap_of s) ts vs)
        (ap (λ ys. map (closed r) (map (put_in ys) g.arguments)) actuals
        ∙ closed_list u laws r zs (put_in ys) (put_put ys r.actuals) g.arguments)
        (all_fit u laws r (heap_of s) args (with_actuals (base_actuals S t) g).arguments vs called.fit fit) in
        let type : option_map (put_in ys) g.result ≡ result =
        ap (λ ys. option_map (put_in ys) g.result) (sym actuals) ∙ is in
        subst (λ e. Safe ((if e then fail void_target else through c
        (seen_class system class_of_text w.type) w.value x vs) s) Q)
        (sym something)
        (subst (λ p. Safe (through c p w.value x vs s) Q) (sym through_class)
        (subst (λ y. Safe (through c (Through b ys) w.value x vs s)
        (λ v o. Extends system s v × Gives u r (heap_of v) y o)) type
        (through_ok w.value o.object o.there o.complete b ys zs over (put_put ys r.actuals) x g there vs args_fit)))
