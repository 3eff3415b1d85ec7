-- Heaps stay sound.
use Rattle.std.proofs.Common.{◌≡◌, ℕ, Bool, true, false, List, [], ◌∷◌, ◌++◌, Option, Some, None, refl, ap, subst, ◌∙◌}
use Rattle.std.specs.Prelude.{if◌then◌else◌, slice_get, slice_set}
use Rattle.std.specs.Option.{option_and_then}
use Rattle.std.specs.Str.{bytes_eq}
use Rattle.std.proofs.lemmas.Slice.Eq.{bytes_eq-Decides}
use Rattle.eif_classes.specs.KernelNumbers.{is_basic, string_number}
use Rattle.eif_classes.specs.Types.{TyT, Actuals, put_in, actual_at}
use Rattle.eif_meaning.specs.Values.{Value, ClassType, Content, Object}
use Rattle.eif_meaning.specs.Assignments.{with_field}
use Rattle.eif_meaning.specs.System.{System}
use Rattle.eif_meaning.specs.Objects.{start, field_type, new_object, string_object}
use Rattle.eif_run_laws.specs.ObjectTypes.{IsMade}
use Rattle.eif_run_laws.specs.Holders.{Fits, IsSound, IsHeap, Grow}
use Rattle.eif_run_laws.specs.HolderLaws.{with_content, ContentFits, HeapStays}
use Rattle.eif_run_laws.specs.SystemLaws.{TypeLaws}
use Rattle.eif_run_laws.proofs.Lists.{some_is, get_either, get_set}
use Rattle.eif_run_laws.proofs.Growing.{fits_grown, grow_added, grow_field, grow_content}
use Rattle.eif_run_laws.proofs.Fitting.{start_fits}

-- the values of an object go on to fit
pub sound_grown : (system : System) (h k : List Object) (o : Object) → Grow h k
    → IsSound system h o → IsSound system k o
sound_grown system h k o g s = record {
  made = s.made;
  by_reference = s.by_reference;
  fields = λ n v e. let a = s.fields n v e in (a.0, a.1, fits_grown system h k _ v g a.2);
  values = λ xs over i v e. fits_grown system h k _ v g (s.values xs over i v e);
}

heap_added : (system : System) (h : List Object) (o : Object) → IsHeap system h → IsSound system (h ++ o ∷ []) o
    → IsHeap system (h ++ o ∷ [])
heap_added system h o heap s r p e =
    get_either (IsSound system (h ++ o ∷ [])) h o r p e
    (λ j there. sound_grown system h (h ++ o ∷ []) p (grow_added h o) (heap j p there)) s

heap_replaced : (system : System) (h : List Object) (r : ℕ) (o : Object) → IsHeap system h
    → Grow h (slice_set h r o) → IsSound system (slice_set h r o) o → IsHeap system (slice_set h r o)
heap_replaced system h r o heap g s q p e =
    get_set (IsSound system (slice_set h r o)) h r o q p e
    (λ there. sound_grown system h (slice_set h r o) p g (heap q p there)) s

-- what a field begins with fits it
field_starts : (system : System) (laws : TypeLaws system) (h : List Object) (xs : Actuals) (o : Option TyT)
    (v : Value)
    → option_and_then start o ≡ Some v → (t : TyT) × (o ≡ Some t) × Fits system h (put_in xs t) v
field_starts system laws h xs None v e = cc
field_starts system laws h xs (Some t) v e = (t, refl, start_fits system laws h xs t v e)

pub heap_created : (system : System) → TypeLaws system → (h : List Object) (t : ClassType) → IsHeap system h
    → IsMade system t → is_basic t.class_number ≡ false → IsHeap system (h ++ new_object system t ∷ [])
heap_created system laws h t heap made real =
    heap_added system h (new_object system t) heap record {
      made = made;
      by_reference = real;
      fields = λ n v e. field_starts system laws _ t.actuals (field_type system t.class_number n) v e;
      values = λ xs over i v e. cc;
    }

pub heap_string : (system : System) → TypeLaws system → (h : List Object) (bytes : List ℕ) → IsHeap system h
    → IsHeap system (h ++ string_object bytes ∷ [])
heap_string system laws h bytes heap =
    heap_added system h (string_object bytes) heap record {
      made = laws.kernel.plain string_number refl;
      by_reference = refl;
      fields = λ n v e. cc;
      values = λ xs over i v e. cc;
    }

-- a value that was written, or the one that stood there
written_or : (P : Value → Type 0) (b : Bool) (v : Value) (o : Option Value) (w : Value)
    → (if b then Some v else o) ≡ Some w → (b ≡ true → P v) → (o ≡ Some w → P w) → P w
written_or P true v o w e new old = subst P (some_is e) (new refl)
written_or P false v o w e new old = old e

pub heap_field : (system : System) (h : List Object) (r : ℕ) (o : Object) (n : List ℕ) (t : TyT) (v : Value)
    → IsHeap system h → slice_get h r ≡ Some o → field_type system o.made.class_number n ≡ Some t
    → Fits system h (put_in o.made.actuals t) v → IsHeap system (slice_set h r (with_field n v o))
heap_field system h r o n t v heap at has fit =
    let p = with_field n v o in
    let g = grow_field h r o n v at in
    let s = sound_grown system h (slice_set h r p) o g (heap r o at) in
    heap_replaced system h r p heap g record {
      made = s.made;
      by_reference = s.by_reference;
      fields = λ m w e. written_or
          (λ w. (u : TyT) × (field_type system o.made.class_number m ≡ Some u)
          × Fits system (slice_set h r p) (put_in o.made.actuals u) w)
          (bytes_eq m n) v (o.field m) w e
          (λ q. (
            t,
            ap (field_type system o.made.class_number) ((bytes_eq-Decides m n).0 q) ∙ has,
            fits_grown system h (slice_set h r p) (put_in o.made.actuals t) v g fit,
          ))
          (s.fields m w);
      values = s.values;
    }

pub heap_content : (system : System) (h : List Object) (r : ℕ) (o : Object) (k : Content) → IsHeap system h
    → slice_get h r ≡ Some o → ContentFits system h o.made k → IsHeap system (slice_set h r (with_content k o))
heap_content system h r o k heap at fit =
    let p = with_content k o in
    let g = grow_content h r o k at in
    let s = sound_grown system h (slice_set h r p) o g (heap r o at) in
    heap_replaced system h r p heap g record {
      made = s.made;
      by_reference = s.by_reference;
      fields = s.fields;
      values = λ xs over i v e. fits_grown system h (slice_set h r p) (actual_at xs 0) v g (fit xs over i v e);
    }

pub heap_stays : HeapStays
heap_stays = record {
  created = heap_created;
  string = heap_string;
  field = heap_field;
  content = heap_content;
}
