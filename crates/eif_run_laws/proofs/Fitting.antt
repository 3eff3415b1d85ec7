-- What fits a type fits other types, and what a holder begins with fits it.
use Rattle.std.proofs.Common.{◌≡◌, ℕ, ℤ, Bool, true, false, List, Some, None, refl, sym, ap, subst, ◌∙◌}
use Rattle.std.specs.Prelude.{if◌then◌else◌, pos, ◌||◌, ◌==◌}
use Rattle.std.proofs.lemmas.Bool.{eqb-true}
use Rattle.eif_tree.specs.declared.tree.Mark.{Mark}
use Rattle.eif_tree.specs.declared.tree.Mark.TheVariants.{Plain, Attached, Detachable}
use Rattle.eif_classes.specs.KernelNumbers.{integer_number, boolean_number, character_number, is_basic}
use Rattle.eif_classes.specs.Types.{TyT, class_type, formal_type, none_type, Actuals, no_actuals, and_actual, attached_form, marked, put_in, actual_at}
use Rattle.eif_meaning.specs.Values.{Value, void, integer, boolean, character, reference, ClassType, Object}
use Rattle.eif_meaning.specs.System.{System}
use Rattle.eif_meaning.specs.Objects.{basic_start, start, field_type, no_content, plain_object, type_of, object_of}
use Rattle.eif_meaning.specs.Calls.{is_void}
use Rattle.eif_meaning.specs.KernelTypes.{plain_type}
use Rattle.eif_run_laws.specs.ObjectTypes.{takes_void, IsMade}
use Rattle.eif_run_laws.specs.Holders.{IsObject, Fits, IsHeap}
use Rattle.eif_run_laws.specs.SystemLaws.{is_plain_kernel, is_final, TypeLaws}
use Rattle.eif_run_laws.proofs.Lists.{some_is}

-- what is not Void is an object
pub as_object : (system : System) (h : List Object) (t : TyT) (v : Value) → is_void v ≡ false
    → Fits system h t v → IsObject system h t v
as_object system h t void n f = cc
as_object system h t (integer i) n f = f
as_object system h t (boolean b) n f = f
as_object system h t (character i) n f = f
as_object system h t (reference r) n f = f

pub from_object : (system : System) (h : List Object) (t : TyT) (v : Value) → IsObject system h t v
    → Fits system h t v
from_object system h t void f = let e : None ≡ Some f.object = f.there in cc
from_object system h t (integer i) f = f
from_object system h t (boolean b) f = f
from_object system h t (character i) f = f
from_object system h t (reference r) f = f

-- an object that fits one type fits another to which its own conforms
pub object_fits : (system : System) (h : List Object) (t u : TyT) (v : Value)
    → ((o : Object) → system.conforms (type_of o) t ≡ true → system.conforms (type_of o) u ≡ true)
    → IsObject system h t v → IsObject system h u v
object_fits system h t u v k f =
    record { object = f.object; there = f.there; conforms = k f.object f.conforms; complete = f.complete }

module _ (system : System) (laws : TypeLaws system) where
  pub fits_conforming : (h : List Object) (t u : TyT) (v : Value) → system.conforms t u ≡ true
      → Fits system h t v → Fits system h u v
  fits_conforming h t u void c f = laws.void t u c f
  fits_conforming h t u (integer n) c f = object_fits system h t u (integer n) (λ o k. laws.transitive _ t u k c) f
  fits_conforming h t u (boolean b) c f = object_fits system h t u (boolean b) (λ o k. laws.transitive _ t u k c) f
  fits_conforming h t u (character n) c f = object_fits system h t u (character n)
      (λ o k. laws.transitive _ t u k c) f
  fits_conforming h t u (reference r) c f = object_fits system h t u (reference r)
      (λ o k. laws.transitive _ t u k c) f

  pub fits_attached : (h : List Object) (t : TyT) (v : Value) → is_void v ≡ false
      → Fits system h t v → Fits system h (attached_form t) v
  fits_attached h t v n f =
      from_object system h (attached_form t) v
      (object_fits system h t (attached_form t) v (λ o. laws.attached o t) (as_object system h t v n f))

  -- ---- the kernel

  -- a value whose object is of a kernel class without formals fits that class
  pub plain_fits : (h : List Object) (v : Value) (o : Object) (d : ℕ) → is_plain_kernel d ≡ true → is_final d ≡ true
      → object_of h v ≡ Some o → o.made ≡ record { class_number = d; actuals = no_actuals }
      → IsObject system h (plain_type d) v
  plain_fits h v o d e f at is =
      let made = laws.kernel.plain d e in
      record {
        object = o;
        there = at;
        conforms =
            subst (λ (c : ClassType). system.conforms (class_type c.class_number Attached c.actuals)
            (plain_type d) ≡ true)
            (sym is) (laws.same (plain_object d no_content) made);
        complete = λ n t has.
            let none : None ≡ Some t =
            sym (laws.kernel.fieldless d n f)
            ∙ (ap (λ (c : ClassType). field_type system c.class_number n) (sym is) ∙ has) in cc;
      }

  pub integer_fits : (h : List Object) (n : ℤ) → Fits system h (plain_type integer_number) (integer n)
  integer_fits h n = plain_fits h (integer n) (plain_object integer_number no_content) integer_number refl refl refl
      refl

  pub boolean_fits : (h : List Object) (b : Bool) → Fits system h (plain_type boolean_number) (boolean b)
  boolean_fits h b = plain_fits h (boolean b) (plain_object boolean_number no_content) boolean_number refl refl refl
      refl

  pub character_fits : (h : List Object) (n : ℕ) → Fits system h (plain_type character_number) (character n)
  character_fits h n =
      plain_fits h (character n) (plain_object character_number no_content) character_number refl refl refl refl

  -- the class of an object that fits one
  pub final_class : (o : Object) (d : ℕ) (xs : Actuals) → is_final d ≡ true
      → system.conforms (type_of o) (class_type d Attached xs) ≡ true → o.made.class_number ≡ d
  final_class o d xs e c =
      let over = laws.down o d Attached xs c in
      laws.kernel.final o.made.class_number d over.derived e over.gives

  -- ---- how holders begin

  -- with any mark
  marked_fits : (h : List Object) (k : ℕ) (m : Mark) (v : Value) → IsObject system h (plain_type k) v
      → IsObject system h (class_type k m no_actuals) v
  marked_fits h k m v f =
      object_fits system h (plain_type k) (class_type k m no_actuals) v (λ o. laws.marks o k m no_actuals) f

  basic_starts : (h : List Object) (k : ℕ) (a b c : Bool)
      → (k == integer_number) ≡ a → (k == boolean_number) ≡ b → (k == character_number) ≡ c → (a || b || c) ≡ true
      → IsObject system h (plain_type k) (if a then integer (pos 0) else if b then boolean false else character 0)
  basic_starts h k true b c i j l e =
      subst (λ k. IsObject system h (plain_type k) (integer (pos 0))) (sym (eqb-true k integer_number i))
      (integer_fits h (pos 0))
  basic_starts h k false true c i j l e =
      subst (λ k. IsObject system h (plain_type k) (boolean false)) (sym (eqb-true k boolean_number j))
      (boolean_fits h false)
  basic_starts h k false false true i j l e =
      subst (λ k. IsObject system h (plain_type k) (character 0)) (sym (eqb-true k character_number l))
      (character_fits h 0)
  basic_starts h k false false false i j l e = cc

  if_basic : (h : List Object) (k : ℕ) (m : Mark) (v : Value) (b : Bool) → is_basic k ≡ b
      → (if b then Some (basic_start k) else None) ≡ Some v → Fits system h (class_type k m no_actuals) v
  if_basic h k m v true i e =
      subst (Fits system h (class_type k m no_actuals)) (some_is e)
      (from_object system h (class_type k m no_actuals) (basic_start k) (marked_fits h k m (basic_start k)
      (basic_starts h k (k == integer_number) (k == boolean_number) (k == character_number) refl refl refl i)))
  if_basic h k m v false i e = cc

  detachable_takes : (t : TyT) → takes_void (marked Detachable t) ≡ true
  detachable_takes (class_type k m ts) = refl
  detachable_takes (formal_type i m) = refl
  detachable_takes none_type = refl

  void_starts : (h : List Object) (t : TyT) (v : Value) → takes_void t ≡ true → Some void ≡ Some v → Fits system h t v
  void_starts h t v e is = subst (Fits system h t) (some_is is) e

  pub start_fits : (h : List Object) (xs : Actuals) (t : TyT) (v : Value) → start t ≡ Some v
      → Fits system h (put_in xs t) v
  start_fits h xs (class_type k Detachable ts) v e = void_starts h (put_in xs (class_type k Detachable ts)) v refl e
  start_fits h xs (class_type k Plain no_actuals) v e = if_basic h k Plain v (is_basic k) refl e
  start_fits h xs (class_type k Attached no_actuals) v e = if_basic h k Attached v (is_basic k) refl e
  start_fits h xs (class_type k Plain (and_actual t ts)) v e = cc
  start_fits h xs (class_type k Attached (and_actual t ts)) v e = cc
  start_fits h xs (formal_type i Plain) v e = cc
  start_fits h xs (formal_type i Attached) v e = cc
  start_fits h xs (formal_type i Detachable) v e =
      void_starts h (put_in xs (formal_type i Detachable)) v (detachable_takes (actual_at xs i)) e
  start_fits h xs none_type v e = cc

  -- each value but Void is an instance of a class
  pub object_made : (h : List Object) (v : Value) (o : Object) → IsHeap system h → object_of h v ≡ Some o
      → IsMade system o.made
  object_made h void o heap e = cc
  object_made h (integer n) o heap e =
      subst (λ (o : Object). IsMade system o.made) (some_is e) (laws.kernel.plain integer_number refl)
  object_made h (boolean b) o heap e =
      subst (λ (o : Object). IsMade system o.made) (some_is e) (laws.kernel.plain boolean_number refl)
  object_made h (character n) o heap e =
      subst (λ (o : Object). IsMade system o.made) (some_is e) (laws.kernel.plain character_number refl)
  object_made h (reference r) o heap e = (heap r o e).made
