-- Built-in bodies.
use Rattle.std.proofs.Common.{◌≡◌, ℕ, ℤ, Bool, true, false, List, [], ◌∷◌, ◌++◌, length, Option, Some, None, refl, sym, ap, subst, ◌∙◌}
use Rattle.std.specs.Prelude.{◌==◌, ◌-ℤ◌, ◌+ℤ◌, pos, if◌then◌else◌, nat_lt, nat_le, slice_get, slice_set, codes}
use Rattle.std.specs.Option.{option_and_then}
use Rattle.eif_classes.specs.KernelNumbers.{any_number, integer_number, boolean_number, character_number, string_number, array_number, is_basic}
use Rattle.eif_classes.specs.Signatures.{with_actuals}
use Rattle.eif_tree.specs.declared.tree.Mark.TheVariants.{Detachable}
use Rattle.eif_classes.specs.Types.{TyT, class_type, Actuals, no_actuals, actual_at, put_in_all}
use Rattle.eif_meaning.specs.Values.{Value, void, integer, boolean, character, reference, ClassType, Content, Object, Seen, State, Does, ◌>>=◌, give, need}
use Rattle.eif_meaning.specs.System.{System}
use Rattle.eif_meaning.specs.KernelBodies.{BuiltIn, do_nothing, out, print, code, make_empty, string_count, is_empty, string_item, append, make_filled, array_item, put, array_count, lower, upper}
use Rattle.eif_meaning.specs.KernelTypes.{plain_type, integer_type, boolean_type, character_type, string_type, out_name}
use Rattle.eif_meaning.specs.Objects.{object_of, object_at, string_object, allocate, replace_object, with_heap}
use Rattle.eif_meaning.specs.Frames.{Frame}
use Rattle.eif_meaning.specs.Calls.{is_void, through}
use Rattle.eif_meaning.specs.Operands.{most_items, as_integer, as_character}
use Rattle.eif_meaning.specs.BuiltIns.{give_value, own_content, set_content, set_bytes, write, as_count, offset_of, item_at, text_of, run_out, any_class, run_print, fill, fill_between, put_at, give_byte, give_item, append_bytes, highest, run_built_in}
use Rattle.eif_run_laws.specs.ObjectTypes.{Over}
use Rattle.eif_run_laws.specs.Holders.{Fits, AllFit, Answers, IsHeap, Grow, Gives}
use Rattle.eif_run_laws.specs.HolderLaws.{with_content, ContentFits}
use Rattle.eif_run_laws.specs.KernelSignatures.{class_with, signature_of}
use Rattle.eif_run_laws.specs.BuiltInLaws.{IsCurrent, OutGives, BodyEnds}
use Rattle.eif_run_laws.specs.SystemLaws.{is_final, TypeLaws}
use Rattle.eif_run_laws.specs.Steps.{Safe, heap_of, Extends}
use Rattle.eif_run_laws.proofs.Lists.{some_is, get_new, get_set, get_copy}
use Rattle.eif_run_laws.proofs.Growing.{grow_same, grow_content, object_stays, fits_grown, all_grown}
use Rattle.eif_run_laws.proofs.Fitting.{from_object, plain_fits, integer_fits, boolean_fits, character_fits, fits_attached}
use Rattle.eif_run_laws.proofs.Heaps.{heap_string, heap_content}
use Rattle.eif_run_laws.proofs.Keeps.{safe_more, Ends, Keeps, keeps_give, keeps_stop, keeps_bind, keeps_pre, keeps_post, keeps_if, keeps_never, keeps_choice, keeps_or_stop, keeps_object, Lasts, lasts_with, extends_lasts, extends_same, by_extending, keeps_allocate}
use Rattle.eif_run_laws.proofs.Operands.{by_integer, by_bytes}

-- a class has one list of actuals on an object
pub over_one : (system : System) (t : ClassType) (k : ℕ) (xs ys : Actuals) → Over system t k xs → Over system t k ys
    → xs ≡ ys
over_one system t k xs ys a b = sym a.is ∙ (ap (put_in_all t.actuals) (some_is (sym a.gives ∙ b.gives)) ∙ b.is)

pub current_grown : (c : Frame) (h k : List Object) → Grow h k → IsCurrent c h → IsCurrent c k
current_grown c h k g i =
    let p = object_stays h k g c.current i.object i.there in
    record {
      object = p.0;
      there = p.1;
      over = subst (λ t. Over c.system t c.class_number c.actuals) (sym p.2.made) i.over;
    }

-- the content of each value fits
content_fits : (system : System) (h : List Object) (v : Value) (o : Object) → IsHeap system h
    → object_of h v ≡ Some o → ContentFits system h o.made o.content
content_fits system h void o heap e xs over i w at = cc
content_fits system h (integer n) o heap e xs over i w at =
    let q : slice_get [] i ≡ Some w = ap (λ (p : Object). slice_get p.content.values i) (some_is e) ∙ at in cc
content_fits system h (boolean b) o heap e xs over i w at =
    let q : slice_get [] i ≡ Some w = ap (λ (p : Object). slice_get p.content.values i) (some_is e) ∙ at in cc
content_fits system h (character n) o heap e xs over i w at =
    let q : slice_get [] i ≡ Some w = ap (λ (p : Object). slice_get p.content.values i) (some_is e) ∙ at in cc
content_fits system h (reference r) o heap e xs over i w at = (heap r o e).values xs over i w at

character_of : (system : System) (h : List Object) (v : Value) (o : Object) → IsHeap system h → object_of h v ≡ Some o
    → o.made.class_number ≡ character_number → (n : ℕ) × (v ≡ character n)
character_of system h void o heap e k = cc
character_of system h (integer n) o heap e k =
    let q : integer_number ≡ character_number = ap (λ (o : Object). o.made.class_number) (some_is e) ∙ k in cc
character_of system h (boolean b) o heap e k =
    let q : boolean_number ≡ character_number = ap (λ (o : Object). o.made.class_number) (some_is e) ∙ k in cc
character_of system h (character n) o heap e k = (n, refl)
character_of system h (reference r) o heap e k =
    let q : true ≡ false = sym (ap is_basic k) ∙ (heap r o e).by_reference in cc

item_from : {A : Type 0} (xs : List A) (b : Bool) (n : ℕ) (a : A)
    → option_and_then (slice_get xs) (if b then Some n else None) ≡ Some a → slice_get xs n ≡ Some a
item_from xs true n a e = e
item_from xs false n a e = cc

-- an item stands at some place
item_stands : {A : Type 0} (xs : List A) (o : Option ℕ) (a : A)
    → option_and_then (slice_get xs) (option_and_then (λ n. if nat_lt n (length xs) then Some n else None) o) ≡ Some a
    → (i : ℕ) × (slice_get xs i ≡ Some a)
item_stands xs None a e = cc
item_stands xs (Some n) a e = (n, item_from xs (nat_lt n (length xs)) n a e)

module _ (c : Frame) (laws : TypeLaws c.system) (outs : OutGives c) (s : State) where
  abbrev system : System
  system = c.system

  -- a later state with the same Current
  abbrev Begun : State → Type 0
  Begun u = Extends system s u × IsCurrent c (heap_of u)

  begun_lasts : Lasts system Begun
  begun_lasts = lasts_with system (Extends system s) (IsCurrent c) (extends_lasts system s) (current_grown c)

  -- the body ends in a later state, and answers
  abbrev Answered : Option TyT → Option Value → State → Type 0
  Answered t a u = Extends system s u × Answers system (heap_of u) t a

  answered_none : (I : State → Type 0) → ((u : State) → I u → Begun u) → Keeps I (give None) (Answered None)
  answered_none I f = keeps_give I None (Answered None) (λ u i. ((f u i).0, tt))

  answered : (I : State → Type 0) (v : Value) (t : TyT)
      → ((u : State) → I u → Begun u × Fits system (heap_of u) t v) → Keeps I (give_value v) (Answered (Some t))
  answered I v t f = keeps_give I (Some v) (Answered (Some t)) (λ u i. let p = f u i in (p.0.0, p.1))

  answered_integer : (I : State → Type 0) (n : ℤ) → ((u : State) → I u → Begun u)
      → Keeps I (give_value (integer n)) (Answered (Some integer_type))
  answered_integer I n f = answered I (integer n) integer_type (λ u i. (
    f u i,
    integer_fits system laws
        (heap_of u) n,
  ))

  -- ---- Current

  -- the object that Current is
  abbrev AtObject : (State → Type 0) → Object → State → Type 0
  AtObject I o u = I u × (object_of (heap_of u) c.current ≡ Some o)

  own_ok : {A : Type 0} (I : State → Type 0) (J : A → State → Type 0) (f : Content → Does A)
      → ((u : State) → I u → Begun u) → ((o : Object) → Keeps (AtObject I o) (f o.content) J)
      → Keeps I (own_content c f) J
  own_ok I J f begun h =
      keeps_bind (object_at c.current) (AtObject I) (λ o. f o.content) J
      (keeps_object c.current I (λ u i. let p = (begun u i).1 in (p.object, p.there))) h

  -- its class, where that has no heirs
  class_of_object : (o : Object) (u : State) → is_final c.class_number ≡ true → Begun u
      → object_of (heap_of u) c.current ≡ Some o → o.made.class_number ≡ c.class_number
  class_of_object o u final i e =
      let p = subst (λ (p : Object). Over system p.made c.class_number c.actuals) (some_is
      (sym i.1.there ∙ e)) i.1.over in
      laws.kernel.final o.made.class_number c.class_number p.derived final p.gives

  -- and the actuals of ARRAY on it
  array_actuals : (o : Object) (u : State) (xs : Actuals) → c.class_number ≡ array_number → Begun u
      → object_of (heap_of u) c.current ≡ Some o → Over system o.made array_number xs → xs ≡ c.actuals
  array_actuals o u xs e i at over =
      over_one system o.made array_number xs c.actuals over
      (subst (λ k. Over system o.made k c.actuals) e
      (subst (λ (p : Object). Over system p.made c.class_number c.actuals) (some_is (sym i.1.there ∙ at)) i.1.over))

  -- ---- content

  replaced : (v : Value) (o : Object) (k : Content) (u : State) → Extends system s u
      → object_of (heap_of u) v ≡ Some o
      → is_basic o.made.class_number ≡ false → ContentFits system (heap_of u) o.made k
      → Safe (replace_object v (with_content k o) u) (Ends (λ _ t. Extends system s t) u)
  replaced void o k u e at real fit = cc
  replaced (integer n) o k u e at real fit =
      let q : true ≡ false = ap (λ (o : Object). is_basic o.made.class_number) (some_is at) ∙ real in cc
  replaced (boolean b) o k u e at real fit =
      let q : true ≡ false = ap (λ (o : Object). is_basic o.made.class_number) (some_is at) ∙ real in cc
  replaced (character n) o k u e at real fit =
      let q : true ≡ false = ap (λ (o : Object). is_basic o.made.class_number) (some_is at) ∙ real in cc
  replaced (reference r) o k u e at real fit =
      let g = grow_content (heap_of u) r o k at in (
        g,
        (extends_lasts system s).stays u (with_heap (slice_set (heap_of u) r (with_content k o)) u.store) e g
            (heap_content system (heap_of u) r o k e.heap at fit),
      )

  -- a class of the kernel without heirs, whose objects are references
  abbrev IsHolder : Type 0
  IsHolder = (is_final c.class_number ≡ true) × (is_basic c.class_number ≡ false)

  set_ok : (I : State → Type 0) (k : Content) → IsHolder
      → ((u : State) → I u → Begun u
      × ((o : Object) → object_of (heap_of u) c.current ≡ Some o → ContentFits system (heap_of u) o.made k))
      → Keeps I (set_content c k) (Answered None)
  set_ok I k holder f =
      keeps_bind (object_at c.current) (AtObject I) _ (Answered None)
      (keeps_object c.current I (λ u i. let p = (f u i).0.1 in (p.object, p.there)))
      (λ o. keeps_bind (replace_object c.current (with_content k o)) (λ _ u. Extends system s u) _ (Answered None)
      record {
        by = λ u i. let p = f u i.0 in
            replaced c.current o k u p.0.0 i.1
            (ap is_basic (class_of_object o u holder.0 p.0 i.1) ∙ holder.1) (p.1 o i.1);
      }
      (λ _. keeps_give (λ u. Extends system s u) None (Answered None) (λ u i. (i, tt))))

  -- the values stay
  set_bytes_ok : (I : State → Type 0) (bytes : List ℕ) → IsHolder → ((u : State) → I u → Begun u)
      → Keeps I (set_bytes c bytes) (Answered None)
  set_bytes_ok I bytes holder begun =
      own_ok I (Answered None) _ begun (λ o. set_ok (AtObject I o) (record o.content { bytes = bytes }) holder
      (λ u i. (
        begun u i.0,
        λ p at.
            subst (λ (p : Object). ContentFits system (heap_of u) p.made (record o.content { bytes = bytes }))
            (some_is (sym i.1 ∙ at)) (content_fits system (heap_of u) c.current o (begun u i.0).0.heap i.1),
      )))

  -- each of the values fits the actual
  set_values_ok : (I : State → Type 0) (o : Object) (k : Content) → c.class_number ≡ array_number
      → ((u : State) → AtObject I o u → Begun u
      × ((i : ℕ) (v : Value) → slice_get k.values i ≡ Some v → Fits system (heap_of u) (actual_at c.actuals 0) v))
      → Keeps (AtObject I o) (set_content c k) (Answered None)
  set_values_ok I o k e f =
      set_ok (AtObject I o) k (ap is_final e, ap is_basic e)
      (λ u i. let p = f u i in (
        p.0,
        λ q at xs over j v there.
            subst (λ xs. Fits system (heap_of u) (actual_at xs 0) v) (sym (array_actuals q u xs e p.0 at over))
            (p.1 j v there),
      ))

  -- a value that stands in Current
  item_fits : (I : State → Type 0) (o : Object) (u : State) → c.class_number ≡ array_number
      → ((u : State) → I u → Begun u) → AtObject I o u → (i : ℕ) (v : Value) → slice_get o.content.values i ≡ Some v
      → Fits system (heap_of u) (actual_at c.actuals 0) v
  item_fits I o u e begun i j v at =
      content_fits system (heap_of u) c.current o (begun u i.0).0.heap i.1 c.actuals
      (subst (λ k. Over system o.made k c.actuals) e
      (subst (λ (p : Object). Over system p.made c.class_number c.actuals) (some_is (sym (begun u i.0).1.there ∙ i.1))
      (begun u i.0).1.over)) j v at

  -- ---- texts

  write_ok : (I : State → Type 0) (bytes : List ℕ) → ((u : State) → I u → Extends system s u)
      → Keeps I (write bytes) (Answered None)
  write_ok I bytes f = record {
    by = λ u i.
        let e = f u i in
        let g = grow_same (heap_of u) in (
          g,
          (
            (extends_lasts system s).stays u (record u.store { printed = u.store.printed ++ bytes }) e g e.heap,
            tt,
          ),
        );
  }

  out_ok : (I : State → Type 0) → ((u : State) → I u → Begun u) → Keeps I (run_out c) (Answered (Some string_type))
  out_ok I begun =
      keeps_bind (object_at c.current) (AtObject I) _ (Answered (Some string_type))
      (keeps_object c.current I (λ u i. let p = (begun u i).1 in (p.object, p.there)))
      (λ o. let text = string_object (text_of c.system c.current o) in
      keeps_pre (AtObject I o) Begun _ (Answered (Some string_type))
      (keeps_bind (allocate text) (λ v u. Begun u × (object_of (heap_of u) v ≡ Some text)) give_value
      (Answered (Some string_type))
      (keeps_allocate system Begun text begun_lasts
      (λ u i. heap_string system laws (heap_of u) text.content.bytes i.0.heap) (λ h. get_new h text))
      (λ v. answered (λ u. Begun u × (object_of (heap_of u) v ≡ Some text)) v string_type
      (λ u i. (
        i.0,
        from_object system (heap_of u) string_type v
            (plain_fits system laws (heap_of u) v text string_number refl refl i.1 refl),
      ))))
      (λ u i. begun u i.0))

  -- a STRING was given
  abbrev Printed : Seen → State → Type 0
  Printed w u = Extends system s u × Fits system (heap_of u) string_type w.value

  need_ok : (r : Option Seen) → Keeps (λ u. Extends system s u
      × Gives system (heap_of u) string_type r) (need r) Printed
  need_ok None = keeps_never _ _ _ (λ u i. i.1)
  need_ok (Some w) =
      keeps_give (λ u. Extends system s u × Gives system (heap_of u) string_type (Some w)) w Printed (λ u i.
      (i.0, i.1.0))

  -- a later state, in which the printed value fits
  abbrev Prints : Value → State → Type 0
  Prints v u = Extends system s u × Fits system (heap_of u) (plain_type any_number) v

  prints_lasts : (v : Value) → Lasts system (Prints v)
  prints_lasts v =
      lasts_with system (Extends system s) (λ h. Fits system h (plain_type any_number) v) (extends_lasts system s)
      (λ h k g f. fits_grown system h k (plain_type any_number) v g f)

  called_out : (v : Value) → is_void v ≡ false
      → Keeps (Prints v) (through c (Some any_class) v out_name [])
      (λ r u. Extends system s u × Gives system (heap_of u) string_type r)
  called_out v e =
      keeps_post (through c (Some any_class) v out_name [])
      (λ r u. Prints v u × Gives system (heap_of u) string_type r) _
      (by_extending system (Prints v) (through c (Some any_class) v out_name [])
      (λ r u. Gives system (heap_of u) string_type r) (prints_lasts v) (λ u i. outs v u i.0.heap e i.1))
      (λ r u i. (i.0.0, i.1))

  print_ok : (v : Value)
      → Keeps (λ u. Begun u × Fits system (heap_of u) (class_type any_number Detachable no_actuals) v) (run_print c v)
      (Answered None)
  print_ok v =
      keeps_choice (is_void v) _ _ _ (Answered None) (λ e. write_ok _ (codes "Void") (λ u i. i.0.0))
      (λ e. keeps_bind (through c (Some any_class) v out_name [] >>= need) Printed _ (Answered None)
      (keeps_pre _ (Prints v) _ Printed
      (keeps_bind (through c (Some any_class) v out_name []) _ need Printed (called_out v e) need_ok)
      (λ u i. (i.0.0, fits_attached system laws (heap_of u) (class_type any_number Detachable no_actuals) v e i.1)))
      (λ w. by_bytes system laws (Printed w) (Answered None) (printed_lasts w) w.value write (λ u i. i.1)
      (λ bytes. write_ok (Printed w) bytes (λ u i. i.0))))
    where
      printed_lasts : (w : Seen) → Lasts system (Printed w)
      printed_lasts w =
          lasts_with system (Extends system s) (λ h. Fits system h string_type w.value) (extends_lasts system s)
          (λ h k g f. fits_grown system h k string_type w.value g f)

  -- ---- bodies

  -- arguments of these types
  abbrev Given : List TyT → List Value → State → Type 0
  Given ts vs u = Begun u × AllFit system (heap_of u) ts vs

  given_lasts : (ts : List TyT) (vs : List Value) → Lasts system (Given ts vs)
  given_lasts ts vs =
      lasts_with system Begun (λ h. AllFit system h ts vs) begun_lasts (λ h k g f. all_grown system h k ts vs g f)

  abbrev Begins : BuiltIn → List Value → State → Type 0
  Begins b vs = Given (with_actuals c.actuals (signature_of b)).arguments vs

  abbrev Is : BuiltIn → List Value → Type 0
  Is b vs = Keeps (Begins b vs) (run_built_in c b vs) (Answered (with_actuals c.actuals (signature_of b)).result)

  misfit : (b : BuiltIn) (vs : List Value) → ((u : State) → Begins b vs u → ⊥) → Is b vs
  misfit b vs f = keeps_never (Begins b vs) _ _ f

  -- a query of a number of Current
  counted : (b : BuiltIn) (f : Content → ℤ) → Keeps (Begins b []) (own_content c (λ k. give_value (integer (f k))))
      (Answered (Some integer_type))
  counted b f =
      own_ok (Begins b []) (Answered (Some integer_type)) _ (λ u i. i.0)
      (λ o. answered_integer (AtObject (Begins b []) o) (f o.content) (λ u i. i.0.0))

  abbrev Indexed : BuiltIn → List Value → Value → (ℤ → Does (Option Value)) → Type 0
  Indexed b vs v f = Keeps (Begins b vs) (as_integer v f) (Answered (with_actuals c.actuals (signature_of b)).result)

  indexed : (b : BuiltIn) (vs : List Value) (v : Value) (f : ℤ → Does (Option Value))
      → ((u : State) → Begins b vs u → Fits system (heap_of u) integer_type v)
      → ((n : ℤ) → Keeps (Begins b vs) (f n) (Answered (with_actuals c.actuals (signature_of b)).result))
      → Indexed b vs v f
  indexed b vs v f fit h =
      by_integer system laws (Begins b vs) _ (given_lasts (with_actuals c.actuals
      (signature_of b)).arguments vs) v f fit h

  string_holder : c.class_number ≡ string_number → IsHolder
  string_holder e = (ap is_final e, ap is_basic e)

  byte_ok : (v : Value) (i : ℤ) → Keeps (Begins string_item (v ∷ [])) (own_content c (give_byte i)) (Answered
      (Some character_type))
  byte_ok v i =
      own_ok (Begins string_item (v ∷ [])) (Answered (Some character_type)) (give_byte i) (λ u h. h.0)
      (λ o. keeps_or_stop (item_at (pos 1) o.content.bytes i) _ (AtObject (Begins string_item (v ∷ [])) o)
      (Answered (Some character_type))
      (λ n e. answered _ (character n) character_type (λ u h. (h.0.0, character_fits system laws (heap_of u) n))))

  append_ok : (v : Value) → c.class_number ≡ string_number → Is append (v ∷ [])
  append_ok v e =
      by_bytes system laws (Begins append (v ∷ [])) (Answered None) (given_lasts (string_type ∷ []) (v ∷ [])) v
      (append_bytes c)
      (λ u i. i.1.0)
      (λ bytes. own_ok (Begins append (v ∷ [])) (Answered None) _ (λ u i. i.0)
      (λ o. keeps_choice (nat_le (length (o.content.bytes ++ bytes)) most_items) _ _
      (AtObject (Begins append (v ∷ [])) o) (Answered None)
      (λ q. set_bytes_ok (AtObject (Begins append (v ∷ [])) o) (o.content.bytes ++ bytes) (string_holder e)
      (λ u i. i.0.0))
      (λ q. keeps_stop _ (Answered None))))

  fill_ok : (v lo up : Value) (m : ℤ) (n : ℕ) → c.class_number ≡ array_number
      → Keeps (Begins make_filled (v ∷ lo ∷ up ∷ [])) (fill c v m n) (Answered None)
  fill_ok v lo up m n e =
      own_ok (Begins make_filled (v ∷ lo ∷ up ∷ [])) (Answered None) _ (λ u i. i.0)
      (λ o. set_values_ok (Begins make_filled (v ∷ lo ∷ up ∷ [])) o _ e
      (λ u i. (
        i.0.0,
        λ j w at. subst (Fits system (heap_of u) (actual_at c.actuals 0))
            (get_copy n v j w at) i.0.1.0,
      )))

  filled_ok : (v lo up : Value) (m n : ℤ) → c.class_number ≡ array_number
      → Keeps (Begins make_filled (v ∷ lo ∷ up ∷ [])) (fill_between c v m n) (Answered None)
  filled_ok v lo up m n e =
      keeps_or_stop (as_count ((n -ℤ m) +ℤ pos 1)) _ (Begins make_filled (v ∷ lo ∷ up ∷ [])) (Answered None)
      (λ k q. keeps_choice (nat_le k most_items) _ _ (Begins make_filled (v ∷ lo ∷ up ∷ [])) (Answered None)
      (λ r. fill_ok v lo up m k e) (λ r. keeps_stop _ (Answered None)))

  item_ok : (v : Value) (i : ℤ) → c.class_number ≡ array_number
      → Keeps (Begins array_item (v ∷ [])) (own_content c (give_item i)) (Answered (Some (actual_at c.actuals 0)))
  item_ok v i e =
      own_ok (Begins array_item (v ∷ [])) (Answered (Some (actual_at c.actuals 0))) (give_item i) (λ u h. h.0)
      (λ o. keeps_or_stop (item_at o.content.lowest o.content.values i) give_value (AtObject (Begins array_item
      (v ∷ [])) o)
      (Answered (Some (actual_at c.actuals 0)))
      (λ w at. let place = item_stands o.content.values (as_count (i -ℤ o.content.lowest)) w at in
      answered (AtObject (Begins array_item (v ∷ [])) o) w (actual_at c.actuals 0)
      (λ u h. (h.0.0, item_fits (Begins array_item (v ∷ [])) o u e (λ u h. h.0) h place.0 w place.1))))

  put_ok : (v w : Value) (i : ℤ) → c.class_number ≡ array_number
      → Keeps (Begins put (v ∷ w ∷ [])) (own_content c (put_at c v i)) (Answered None)
  put_ok v w i e =
      own_ok (Begins put (v ∷ w ∷ [])) (Answered None) (put_at c v i) (λ u h. h.0)
      (λ o. keeps_or_stop (offset_of o.content.lowest o.content.values i) _ (AtObject (Begins put (v ∷ w ∷ [])) o)
      (Answered None)
      (λ n at. set_values_ok (Begins put (v ∷ w ∷ [])) o _ e
      (λ u h. (
        h.0.0,
        λ j x there.
            get_set (Fits system (heap_of u) (actual_at c.actuals 0)) o.content.values n v j x there
            (item_fits (Begins put (v ∷ w ∷ [])) o u e (λ u h. h.0) h j x) h.0.1.0,
      ))))

  code_ok : c.class_number ≡ character_number → Is code []
  code_ok e =
      keeps_if ((n : ℕ) × (c.current ≡ character n)) (Begins code []) _ (Answered (Some integer_type))
      (λ u i. character_of system (heap_of u) c.current i.0.1.object i.0.0.heap i.0.1.there
      (class_of_object i.0.1.object u (ap is_final e) i.0 i.0.1.there ∙ e))
      (λ n. subst (λ v. Keeps (Begins code []) (as_character v (λ n. give_value (integer (pos n)))) (Answered
      (Some integer_type)))
      (sym n.1) (answered_integer (Begins code []) (pos n.0) (λ u i. i.0)))

  empty_ok : Is is_empty []
  empty_ok =
      own_ok (Begins is_empty []) (Answered (Some boolean_type)) _ (λ u i. i.0)
      (λ o. answered (AtObject (Begins is_empty []) o) (boolean (length o.content.bytes == 0)) boolean_type
      (λ u i. (i.0.0, boolean_fits system laws (heap_of u) (length o.content.bytes == 0))))

  built_in_ok : (b : BuiltIn) (vs : List Value) → c.class_number ≡ class_with b → Is b vs
  built_in_ok do_nothing [] e = answered_none (Begins do_nothing []) (λ u i. i.0)
  built_in_ok out [] e = out_ok (Begins out []) (λ u i. i.0)
  built_in_ok print (v ∷ []) e = keeps_pre (Begins print (v ∷ [])) _ _ (Answered None) (print_ok v) (λ u i.
      (i.0, i.1.0))
  built_in_ok code [] e = code_ok e
  built_in_ok make_empty [] e = set_bytes_ok (Begins make_empty []) [] (string_holder e) (λ u i. i.0)
  built_in_ok string_count [] e = counted string_count (λ k. pos (length k.bytes))
  built_in_ok is_empty [] e = empty_ok
  built_in_ok string_item (v ∷ []) e = indexed string_item (v ∷ []) v _ (λ u i. i.1.0) (byte_ok v)
  built_in_ok append (v ∷ []) e = append_ok v e
  built_in_ok make_filled (v ∷ lo ∷ up ∷ []) e =
      indexed make_filled (v ∷ lo ∷ up ∷ []) lo _ (λ u i. i.1.1.0)
      (λ m. indexed make_filled (v ∷ lo ∷ up ∷ []) up _ (λ u i. i.1.1.1.0) (λ n. filled_ok v lo up m n e))
  built_in_ok array_item (v ∷ []) e = indexed array_item (v ∷ []) v _ (λ u i. i.1.0) (λ i. item_ok v i e)
  built_in_ok put (v ∷ w ∷ []) e = indexed put (v ∷ w ∷ []) w _ (λ u i. i.1.1.0) (λ i. put_ok v w i e)
  built_in_ok array_count [] e = counted array_count (λ k. pos (length k.values))
  built_in_ok lower [] e = counted lower (λ k. k.lowest)
  built_in_ok upper [] e = counted upper highest
  built_in_ok do_nothing (v ∷ vs) e = misfit do_nothing (v ∷ vs) (λ u i. i.1)
  built_in_ok out (v ∷ vs) e = misfit out (v ∷ vs) (λ u i. i.1)
  built_in_ok print [] e = misfit print [] (λ u i. i.1)
  built_in_ok print (v ∷ w ∷ vs) e = misfit print (v ∷ w ∷ vs) (λ u i. i.1.1)
  built_in_ok code (v ∷ vs) e = misfit code (v ∷ vs) (λ u i. i.1)
  built_in_ok make_empty (v ∷ vs) e = misfit make_empty (v ∷ vs) (λ u i. i.1)
  built_in_ok string_count (v ∷ vs) e = misfit string_count (v ∷ vs) (λ u i. i.1)
  built_in_ok is_empty (v ∷ vs) e = misfit is_empty (v ∷ vs) (λ u i. i.1)
  built_in_ok string_item [] e = misfit string_item [] (λ u i. i.1)
  built_in_ok string_item (v ∷ w ∷ vs) e = misfit string_item (v ∷ w ∷ vs) (λ u i. i.1.1)
  built_in_ok append [] e = misfit append [] (λ u i. i.1)
  built_in_ok append (v ∷ w ∷ vs) e = misfit append (v ∷ w ∷ vs) (λ u i. i.1.1)
  built_in_ok make_filled [] e = misfit make_filled [] (λ u i. i.1)
  built_in_ok make_filled (v ∷ []) e = misfit make_filled (v ∷ []) (λ u i. i.1.1)
  built_in_ok make_filled (v ∷ w ∷ []) e = misfit make_filled (v ∷ w ∷ []) (λ u i. i.1.1.1)
  built_in_ok make_filled (v ∷ w ∷ x ∷ y ∷ vs) e = misfit make_filled (v ∷ w ∷ x ∷ y ∷ vs) (λ u i. i.1.1.1.1)
  built_in_ok array_item [] e = misfit array_item [] (λ u i. i.1)
  built_in_ok array_item (v ∷ w ∷ vs) e = misfit array_item (v ∷ w ∷ vs) (λ u i. i.1.1)
  built_in_ok put [] e = misfit put [] (λ u i. i.1)
  built_in_ok put (v ∷ []) e = misfit put (v ∷ []) (λ u i. i.1.1)
  built_in_ok put (v ∷ w ∷ x ∷ vs) e = misfit put (v ∷ w ∷ x ∷ vs) (λ u i. i.1.1.1)
  built_in_ok array_count (v ∷ vs) e = misfit array_count (v ∷ vs) (λ u i. i.1)
  built_in_ok lower (v ∷ vs) e = misfit lower (v ∷ vs) (λ u i. i.1)
  built_in_ok upper (v ∷ vs) e = misfit upper (v ∷ vs) (λ u i. i.1)

  pub built_in_answers : (b : BuiltIn) (vs : List Value) → c.class_number ≡ class_with b → IsHeap system (heap_of s)
      → IsCurrent c (heap_of s) → AllFit system (heap_of s) (with_actuals c.actuals (signature_of b)).arguments vs
      → Safe (run_built_in c b vs s) (BodyEnds c b s)
  built_in_answers b vs e heap current fit =
      safe_more (run_built_in c b vs s) _ (BodyEnds c b s) (λ u a p. p.1)
      ((built_in_ok b vs e).by s ((extends_same system s heap, current), fit))
