-- Objects stay, and what fits goes on to fit.
use Rattle.std.proofs.Common.{◌≡◌, ℕ, Bool, true, false, List, [], ◌∷◌, ◌++◌, Option, Some, refl, sym, ap, subst, ◌∙◌}
use Rattle.std.specs.Prelude.{if◌then◌else◌, slice_get, slice_set}
use Rattle.std.specs.Str.{bytes_eq}
use Rattle.eif_classes.specs.Types.{TyT}
use Rattle.eif_meaning.specs.Values.{Value, void, integer, boolean, character, reference, ClassType, Content, Object}
use Rattle.eif_meaning.specs.Assignments.{with_field}
use Rattle.eif_meaning.specs.System.{System}
use Rattle.eif_meaning.specs.Objects.{field_type, type_of, object_of}
use Rattle.eif_run_laws.specs.Holders.{IsSet, IsComplete, IsObject, Fits, AllFit, Stays, Grow}
use Rattle.eif_run_laws.specs.HolderLaws.{with_content, ObjectsStay}
use Rattle.eif_run_laws.proofs.Lists.{get_append, get_kept}

-- ---- objects

pub stays_same : (o : Object) → Stays o o
stays_same o = record { made = refl; set = λ n h. h }

stays_on : (o p q : Object) → Stays o p → Stays p q → Stays o q
stays_on o p q f g = record { made = g.made ∙ f.made; set = λ n h. g.set n (f.set n h) }

pub grow_same : (h : List Object) → Grow h h
grow_same h = λ r o e. (o, e, stays_same o)

pub grow_on : (h k l : List Object) → Grow h k → Grow k l → Grow h l
grow_on h k l f g = λ r o e.
    let p = f r o e in let q = g r p.0 p.1 in (q.0, q.1, stays_on o p.0 q.0 p.2 q.2)

pub grow_added : (h : List Object) (o : Object) → Grow h (h ++ o ∷ [])
grow_added h o = λ r p e. (p, get_append h (o ∷ []) r p e, stays_same p)

-- one object is replaced by what it has become
grow_replaced : (h : List Object) (r : ℕ) (o p : Object) → slice_get h r ≡ Some o → Stays o p
    → Grow h (slice_set h r p)
grow_replaced h r o p e s = λ q x d.
    get_kept (Stays x) h r o p q x e d (stays_same x) (λ i. subst (λ y. Stays y p) i s)

set_if : {A : Type 0} (b : Bool) (v : A) (o : Option A) → IsSet o → IsSet (if b then Some v else o)
set_if true v o h = tt
set_if false v o h = h

pub grow_field : (h : List Object) (r : ℕ) (o : Object) (n : List ℕ) (v : Value) → slice_get h r ≡ Some o
    → Grow h (slice_set h r (with_field n v o))
grow_field h r o n v e =
    grow_replaced h r o (with_field n v o) e (record {
      made = refl;
      set = λ m s. set_if (bytes_eq m n) v
          (o.field m) s;
    })

pub grow_content : (h : List Object) (r : ℕ) (o : Object) (k : Content) → slice_get h r ≡ Some o
    → Grow h (slice_set h r (with_content k o))
grow_content h r o k e = grow_replaced h r o (with_content k o) e (record { made = refl; set = λ m s. s })

pub objects_stay : ObjectsStay
objects_stay = record {
  same = grow_same;
  on = grow_on;
  added = grow_added;
  field = grow_field;
  content = grow_content;
}

-- the object of each value stays
pub object_stays : (h k : List Object) → Grow h k → (v : Value) (o : Object) → object_of h v ≡ Some o
    → (p : Object) × (object_of k v ≡ Some p) × Stays o p
object_stays h k g void o e = cc
object_stays h k g (integer n) o e = (o, e, stays_same o)
object_stays h k g (boolean b) o e = (o, e, stays_same o)
object_stays h k g (character n) o e = (o, e, stays_same o)
object_stays h k g (reference r) o e = g r o e

-- ---- what fits

complete_stays : (system : System) (o p : Object) → Stays o p → IsComplete system o → IsComplete system p
complete_stays system o p s c = λ n t e.
    s.set n (c n t (ap (λ (d : ClassType). field_type system d.class_number n) (sym s.made) ∙ e))

object_grown : (system : System) (h k : List Object) (t : TyT) (v : Value) → Grow h k
    → IsObject system h t v → IsObject system k t v
object_grown system h k t v g f =
    let p = object_stays h k g v f.object f.there in
    record {
      object = p.0;
      there = p.1;
      conforms = subst (λ (d : ClassType). system.conforms (type_of (record f.object { made = d })) t ≡ true)
          (sym p.2.made) f.conforms;
      complete = complete_stays system f.object p.0 p.2 f.complete;
    }

pub fits_grown : (system : System) (h k : List Object) (t : TyT) (v : Value) → Grow h k
    → Fits system h t v → Fits system k t v
fits_grown system h k t void g f = f
fits_grown system h k t (integer n) g f = object_grown system h k t (integer n) g f
fits_grown system h k t (boolean b) g f = object_grown system h k t (boolean b) g f
fits_grown system h k t (character n) g f = object_grown system h k t (character n) g f
fits_grown system h k t (reference r) g f = object_grown system h k t (reference r) g f

pub all_grown : (system : System) (h k : List Object) (ts : List TyT) (vs : List Value) → Grow h k
    → AllFit system h ts vs → AllFit system k ts vs
all_grown system h k [] [] g f = tt
all_grown system h k [] (v ∷ vs) g f = f
all_grown system h k (t ∷ ts) [] g f = f
all_grown system h k (t ∷ ts) (v ∷ vs) g f = (fits_grown system h k t v g f.0, all_grown system h k ts vs g f.1)
