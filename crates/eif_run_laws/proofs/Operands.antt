-- Literals and operators.
use Rattle.std.proofs.Common.{◌≡◌, ℕ, ℤ, Bool, true, false, List, Option, Some, refl, sym, ap, subst, ◌∙◌, inl, inr}
use Rattle.std.specs.Prelude.{◌==◌, ◌&&◌, ◌||◌, pos, negsuc, if◌then◌else◌, nat_le, ◌++◌, length, not, int_lt, int_le, int_rem, ◌⊎◌}
use Rattle.std.specs.Bool.{beq}
use Rattle.std.specs.Int.{w64, int_wrapping_add, int_wrapping_div, int_wrapping_neg}
use Rattle.std.specs.Ordering.{int_eq}
use Rattle.eif_tree.specs.declared.tree.Literal.{Literal}
use Rattle.eif_tree.specs.declared.tree.Literal.TheVariants as lit
use Rattle.eif_tree.specs.declared.tree.Op.{Op}
use Rattle.eif_tree.specs.declared.tree.Op.TheVariants as op
use Rattle.eif_classes.specs.KernelNumbers.{integer_number, boolean_number, character_number, string_number, is_basic}
use Rattle.eif_classes.specs.Types.{TyT, no_actuals}
use Rattle.eif_meaning.specs.Values.{Value, void, integer, boolean, character, reference, Object, Seen, State, Does, fail, no_feature}
use Rattle.eif_meaning.specs.System.{System}
use Rattle.eif_meaning.specs.KernelTypes.{plain_type, integer_type, boolean_type, character_type, string_type}
use Rattle.eif_meaning.specs.Objects.{type_of, object_of, string_object}
use Rattle.eif_meaning.specs.Operands.{give_seen, give_integer, give_boolean, give_string, most_items, bytes_or_stop, as_integer, as_boolean, as_character, as_bytes}
use Rattle.eif_meaning.specs.Operators.{same_value, divide_by, power, with_integers, with_booleans, compare, add, operate, operate_one}
use Rattle.eif_meaning.specs.Evaluation.{evaluate_literal}
use Rattle.eif_run_laws.specs.Holders.{IsObject, Fits, IsHeap, Gives}
use Rattle.eif_run_laws.specs.OperatorLaws.{literal_type, EndsIn, BothFit, OperandsFit, OperandFits}
use Rattle.eif_run_laws.specs.SystemLaws.{is_final, TypeLaws}
use Rattle.eif_run_laws.specs.Steps.{Safe, heap_of, Extends}
use Rattle.eif_run_laws.proofs.Lists.{some_is, get_new}
use Rattle.eif_run_laws.proofs.Growing.{fits_grown}
use Rattle.eif_run_laws.proofs.Fitting.{plain_fits, integer_fits, boolean_fits, character_fits, from_object, final_class}
use Rattle.eif_run_laws.proofs.Heaps.{heap_string}
use Rattle.eif_run_laws.proofs.Keeps.{safe_more, Keeps, keeps_give, keeps_stop, keeps_bind, keeps_pre, keeps_if, keeps_never, keeps_choice, keeps_object, Lasts, lasts_with, extends_lasts, extends_same, extends_by, keeps_allocate}

module _ (system : System) (laws : TypeLaws system) where
  -- ---- basic values

  -- the object of a value that fits a class of the kernel
  class_is : (h : List Object) (d : ℕ) (v : Value) (o : Object) → is_final d ≡ true → object_of h v ≡ Some o
      → IsObject system h (plain_type d) v → o.made.class_number ≡ d
  class_is h d v o e at f =
      final_class system laws o d no_actuals e
      (subst (λ (p : Object). system.conforms (type_of p) (plain_type d) ≡ true) (some_is
      (sym f.there ∙ at)) f.conforms)

  no_reference : (h : List Object) (d r : ℕ) → is_final d ≡ true → is_basic d ≡ true → IsHeap system h
      → IsObject system h (plain_type d) (reference r) → ⊥
  no_reference h d r e b heap f =
      let q : true ≡ false =
      sym b ∙ (ap is_basic (sym (class_is h d (reference r) f.object e f.there f)) ∙
      (heap r f.object f.there).by_reference) in
      cc

  pub integer_is : (h : List Object) (v : Value) → IsHeap system h → Fits system h integer_type v
      → (n : ℤ) × (v ≡ integer n)
  integer_is h void heap f = cc
  integer_is h (integer n) heap f = (n, refl)
  integer_is h (boolean b) heap f =
      let e : boolean_number ≡ integer_number = class_is h integer_number (boolean b) _ refl refl f in cc
  integer_is h (character n) heap f =
      let e : character_number ≡ integer_number = class_is h integer_number (character n) _ refl refl f in cc
  integer_is h (reference r) heap f = absurd (no_reference h integer_number r refl refl heap f)

  pub boolean_is : (h : List Object) (v : Value) → IsHeap system h → Fits system h boolean_type v
      → (b : Bool) × (v ≡ boolean b)
  boolean_is h void heap f = cc
  boolean_is h (boolean b) heap f = (b, refl)
  boolean_is h (integer n) heap f =
      let e : integer_number ≡ boolean_number = class_is h boolean_number (integer n) _ refl refl f in cc
  boolean_is h (character n) heap f =
      let e : character_number ≡ boolean_number = class_is h boolean_number (character n) _ refl refl f in cc
  boolean_is h (reference r) heap f = absurd (no_reference h boolean_number r refl refl heap f)

  pub character_is : (h : List Object) (v : Value) → IsHeap system h → Fits system h character_type v
      → (n : ℕ) × (v ≡ character n)
  character_is h void heap f = cc
  character_is h (character n) heap f = (n, refl)
  character_is h (integer n) heap f =
      let e : integer_number ≡ character_number = class_is h character_number (integer n) _ refl refl f in cc
  character_is h (boolean b) heap f =
      let e : boolean_number ≡ character_number = class_is h character_number (boolean b) _ refl refl f in cc
  character_is h (reference r) heap f = absurd (no_reference h character_number r refl refl heap f)

  string_object_is : (h : List Object) (v : Value) → IsObject system h string_type v
      → (o : Object) × (object_of h v ≡ Some o) × (o.made.class_number ≡ string_number)
  string_object_is h v f = (f.object, f.there, class_is h string_number v f.object refl f.there f)

  pub string_is : (h : List Object) (v : Value) → Fits system h string_type v
      → (o : Object) × (object_of h v ≡ Some o) × (o.made.class_number ≡ string_number)
  string_is h void f = cc
  string_is h (integer n) f = string_object_is h (integer n) f
  string_is h (boolean b) f = string_object_is h (boolean b) f
  string_is h (character n) f = string_object_is h (character n) f
  string_is h (reference r) f = string_object_is h (reference r) f

  -- ---- what is taken

  module _ {A : Type 0} (I : State → Type 0) (J : A → State → Type 0) (lasts : Lasts system I) where
    pub by_integer : (v : Value) (f : ℤ → Does A) → ((s : State) → I s → Fits system (heap_of s) integer_type v)
        → ((n : ℤ) → Keeps I (f n) J) → Keeps I (as_integer v f) J
    by_integer v f fit h =
        keeps_if ((n : ℤ) × (v ≡ integer n)) I _ J (λ s i. integer_is (heap_of s) v (lasts.heap s i) (fit s i))
        (λ n. subst (λ v. Keeps I (as_integer v f) J) (sym n.1) (h n.0))

    pub by_boolean : (v : Value) (f : Bool → Does A) → ((s : State) → I s → Fits system (heap_of s) boolean_type v)
        → ((b : Bool) → Keeps I (f b) J) → Keeps I (as_boolean v f) J
    by_boolean v f fit h =
        keeps_if ((b : Bool) × (v ≡ boolean b)) I _ J (λ s i. boolean_is (heap_of s) v (lasts.heap s i) (fit s i))
        (λ b. subst (λ v. Keeps I (as_boolean v f) J) (sym b.1) (h b.0))

    pub by_character : (v : Value) (f : ℕ → Does A)
        → ((s : State) → I s → Fits system (heap_of s) character_type v)
        → ((n : ℕ) → Keeps I (f n) J) → Keeps I (as_character v f) J
    by_character v f fit h =
        keeps_if ((n : ℕ) × (v ≡ character n)) I _ J (λ s i. character_is (heap_of s) v (lasts.heap s i) (fit s i))
        (λ n. subst (λ v. Keeps I (as_character v f) J) (sym n.1) (h n.0))

    pub by_bytes : (v : Value) (f : List ℕ → Does A) → ((s : State) → I s → Fits system (heap_of s) string_type v)
        → ((bytes : List ℕ) → Keeps I (f bytes) J) → Keeps I (as_bytes v f) J
    by_bytes v f fit h =
        keeps_bind _ (λ o s. I s × (object_of (heap_of s) v ≡ Some o)) _ J
        (keeps_object v I (λ s i. let o = string_is (heap_of s) v (fit s i) in (o.0, o.1)))
        (λ o. keeps_if (o.made.class_number ≡ string_number) (λ s. I s × (object_of (heap_of s) v ≡ Some o)) _ J
        (λ s i. let p = string_is (heap_of s) v (fit s i.0) in
        subst (λ (p : Object). p.made.class_number ≡ string_number) (some_is (sym p.1 ∙ i.1)) p.2)
        (λ e. subst (λ k. Keeps (λ s. I s × (object_of (heap_of s) v ≡ Some o))
        (if k == string_number then f o.content.bytes else fail no_feature) J) (sym e)
        (keeps_pre _ I _ J (h o.content.bytes) (λ s i. i.0))))

  -- ---- what is given

  -- a value of the type is given, and I holds
  abbrev pub GivesOne : (State → Type 0) → TyT → Option Seen → State → Type 0
  GivesOne I t r s = I s × Gives system (heap_of s) t r

  module _ (I : State → Type 0) (lasts : Lasts system I) where
    pub gives_integer : (n : ℤ) → Keeps I (give_integer n) (GivesOne I integer_type)
    gives_integer n = keeps_give I _ _ (λ s i. (i, (integer_fits system laws (heap_of s) n, refl)))

    pub gives_boolean : (b : Bool) → Keeps I (give_boolean b) (GivesOne I boolean_type)
    gives_boolean b = keeps_give I _ _ (λ s i. (i, (boolean_fits system laws (heap_of s) b, refl)))

    gives_character : (n : ℕ) → Keeps I (give_seen (character n) character_type) (GivesOne I character_type)
    gives_character n = keeps_give I _ _ (λ s i. (i, (character_fits system laws (heap_of s) n, refl)))

    pub gives_string : (bytes : List ℕ) → Keeps I (give_string bytes) (GivesOne I string_type)
    gives_string bytes =
        keeps_bind _ (λ v s. I s × (object_of (heap_of s) v ≡ Some (string_object bytes))) _ _
        (keeps_allocate system I (string_object bytes) lasts
        (λ s i. heap_string system laws (heap_of s) bytes (lasts.heap s i)) (λ h. get_new h (string_object bytes)))
        (λ v. keeps_give (λ s. I s × (object_of (heap_of s) v ≡ Some (string_object bytes)))
        (Some (record { value = v; type = string_type })) (GivesOne I string_type)
        (λ s i. (
          i.0,
          (
            from_object system (heap_of s) string_type v
                (plain_fits system laws (heap_of s) v (string_object bytes) string_number refl refl i.1 refl),
            refl,
          ),
        )))

    literal_ok : (x : Literal) → Keeps I (evaluate_literal x) (GivesOne I (literal_type x))
    literal_ok (lit.Int n) = gives_integer n
    literal_ok (lit.Char n) = gives_character n
    literal_ok (lit.Text bytes) = gives_string bytes
    literal_ok (lit.Bool b) = gives_boolean b

  -- ---- two operands

  module _ (s : State) (v w : Value) where
    -- a later state, in which both operands fit
    abbrev With : TyT → State → Type 0
    With t u = Extends system s u × BothFit system (heap_of u) t v w

    with_lasts : (t : TyT) → Lasts system (With t)
    with_lasts t =
        lasts_with system (Extends system s) (λ h. BothFit system h t v w) (extends_lasts system s)
        (λ h k g f. (fits_grown system h k t v g f.0, fits_grown system h k t w g f.1))

    -- a value of type u is given in a later state
    abbrev GivesLater : TyT → Option Seen → State → Type 0
    GivesLater u r x = Extends system s x × Gives system (heap_of x) u r

    -- from operands of type t
    abbrev Combines : TyT → Does (Option Seen) → TyT → Type 0
    Combines t m u = Keeps (With t) m (GivesLater u)

    drop : (t u : TyT) (m : Does (Option Seen)) → Keeps (Extends system s) m (GivesLater u) → Combines t m u
    drop t u m h = keeps_pre (With t) (Extends system s) m (GivesLater u) h (λ x i. i.0)

    given_integer : (t : TyT) (n : ℤ) → Combines t (give_integer n) integer_type
    given_integer t n = drop t integer_type (give_integer n) (gives_integer (Extends system s)
        (extends_lasts system s) n)

    given_boolean : (t : TyT) (b : Bool) → Combines t (give_boolean b) boolean_type
    given_boolean t b = drop t boolean_type (give_boolean b) (gives_boolean (Extends system s)
        (extends_lasts system s) b)

    of_integers : (u : TyT) (f : ℤ → ℤ → Does (Option Seen)) → ((m n : ℤ) → Combines integer_type (f m n) u)
        → Combines integer_type (with_integers v w f) u
    of_integers u f h =
        by_integer (With integer_type) (GivesLater u) (with_lasts integer_type) v _ (λ x i. i.1.0)
        (λ m. by_integer (With integer_type) (GivesLater u) (with_lasts integer_type) w _ (λ x i. i.1.1) (λ n. h m n))

    of_booleans : (f : Bool → Bool → Bool) → Combines boolean_type (with_booleans v w f) boolean_type
    of_booleans f =
        by_boolean (With boolean_type) (GivesLater boolean_type) (with_lasts boolean_type) v _ (λ x i. i.1.0)
        (λ a. by_boolean (With boolean_type) (GivesLater boolean_type) (with_lasts boolean_type) w _ (λ x i. i.1.1)
        (λ b. given_boolean boolean_type (f a b)))

    divides : (f : ℤ → ℤ → ℤ) (m n : ℤ) → Combines integer_type (divide_by f m n) integer_type
    divides f m n =
        keeps_choice (int_eq n (pos 0)) _ _ (With integer_type) (GivesLater integer_type)
        (λ e. keeps_stop (With integer_type) (GivesLater integer_type)) (λ e. given_integer integer_type (f m n))

    powers : (m n : ℤ) → Combines integer_type (power m n) integer_type
    powers m (pos n) = given_integer integer_type _
    powers m (negsuc n) = keeps_stop (With integer_type) (GivesLater integer_type)

    -- the value of an integer or of a character
    compare_integers : (f : ℤ → ℤ → Bool) → Combines integer_type (compare v w f) boolean_type
    compare_integers f =
        keeps_if ((m : ℤ) × (v ≡ integer m)) (With integer_type) _ (GivesLater boolean_type)
        (λ x i. integer_is (heap_of x) v i.0.heap i.1.0)
        (λ m. subst (λ y. Keeps (With integer_type) (compare y w f) (GivesLater boolean_type)) (sym m.1)
        (by_integer (With integer_type) (GivesLater boolean_type) (with_lasts integer_type) w _ (λ x i. i.1.1)
        (λ n. given_boolean integer_type (f m.0 n))))

    compare_characters : (f : ℤ → ℤ → Bool) → Combines character_type (compare v w f) boolean_type
    compare_characters f =
        keeps_if ((m : ℕ) × (v ≡ character m)) (With character_type) _ (GivesLater boolean_type)
        (λ x i. character_is (heap_of x) v i.0.heap i.1.0)
        (λ m. subst (λ y. Keeps (With character_type) (compare y w f) (GivesLater boolean_type)) (sym m.1)
        (by_character (With character_type) (GivesLater boolean_type) (with_lasts character_type) w _ (λ x i. i.1.1)
        (λ n. given_boolean character_type (f (pos m.0) (pos n)))))

    add_integers : Combines integer_type (add v w) integer_type
    add_integers =
        keeps_if ((m : ℤ) × (v ≡ integer m)) (With integer_type) _ (GivesLater integer_type)
        (λ x i. integer_is (heap_of x) v i.0.heap i.1.0)
        (λ m. subst (λ y. Keeps (With integer_type) (add y w) (GivesLater integer_type)) (sym m.1)
        (by_integer (With integer_type) (GivesLater integer_type) (with_lasts integer_type) w _ (λ x i. i.1.1)
        (λ n. given_integer integer_type (int_wrapping_add w64 m.0 n))))

    join_bytes : (a b : List ℕ) → Combines string_type (bytes_or_stop (a ++ b) give_string) string_type
    join_bytes a b =
        keeps_choice (nat_le (length (a ++ b)) most_items) _ _ (With string_type) (GivesLater string_type)
        (λ e. drop string_type string_type (give_string (a ++ b))
        (gives_string (Extends system s) (extends_lasts system s) (a ++ b)))
        (λ e. keeps_stop (With string_type) (GivesLater string_type))

    abbrev WithSame : Value → State → Type 0
    WithSame y x = With string_type x × (y ≡ v)

    same_lasts : (y : Value) → Lasts system (WithSame y)
    same_lasts y = lasts_with system (With string_type) (λ h. y ≡ v) (with_lasts string_type) (λ h k g e. e)

    bytes_added : (y : Value)
        → Keeps (WithSame y) (as_bytes y (λ a. as_bytes w (λ b. bytes_or_stop (a ++ b) give_string)))
        (GivesLater string_type)
    bytes_added y =
        by_bytes (WithSame y) (GivesLater string_type) (same_lasts y) y _
        (λ x i. subst (Fits system (heap_of x) string_type) (sym i.1) i.0.1.0)
        (λ a. by_bytes (WithSame y) (GivesLater string_type) (same_lasts y) w _ (λ x i. i.0.1.1)
        (λ b. keeps_pre (WithSame y) (With string_type) _ (GivesLater string_type) (join_bytes a b) (λ x i. i.0)))

    not_string : (x : State) (n : ℤ) → Fits system (heap_of x) string_type (integer n) → ⊥
    not_string x n f =
        let e : integer_number ≡ string_number = class_is (heap_of x) string_number (integer n) _ refl refl f in cc

    -- a STRING is no integer
    add_bytes : (y : Value) → Keeps (WithSame y) (add y w) (GivesLater string_type)
    add_bytes (integer n) =
        keeps_never (WithSame (integer n)) _ (GivesLater string_type)
        (λ x i. not_string x n (subst (Fits system (heap_of x) string_type) (sym i.1) i.0.1.0))
    add_bytes void = bytes_added void
    add_bytes (boolean b) = bytes_added (boolean b)
    add_bytes (character n) = bytes_added (character n)
    add_bytes (reference r) = bytes_added (reference r)

    add_strings : Combines string_type (add v w) string_type
    add_strings = keeps_pre (With string_type) (WithSame v) (add v w) (GivesLater string_type) (add_bytes v) (λ x i.
        (i, refl))

    -- from the first state
    begin : (t u : TyT) (m : Does (Option Seen)) → IsHeap system (heap_of s) → BothFit system (heap_of s) t v w
        → Combines t m u → Safe (m s) (EndsIn system u s)
    begin t u m heap fit h = safe_more (m s) _ _ (λ x r p. p.1) (h.by s (extends_same system s heap, fit))

    abbrev Outcome : Op → TyT → Type 0
    Outcome o t = Safe (operate o v w s) (EndsIn system t s)

    module _ (heap : IsHeap system (heap_of s)) where
      of_type : (o : Op) (t u : TyT) → u ≡ t → Outcome o t → Outcome o u
      of_type o t u e h = subst (Outcome o) (sym e) h

      truth : (o : Op) (b : Bool) → Safe (give_boolean b s) (EndsIn system boolean_type s)
      truth o b = (extends_same system s heap, (boolean_fits system laws (heap_of s) b, refl))

      compared : (f : ℤ → ℤ → Bool)
          → BothFit system (heap_of s) integer_type v w ⊎ BothFit system (heap_of s) character_type v w
          → Safe (compare v w f s) (EndsIn system boolean_type s)
      compared f (inl fit) = begin integer_type boolean_type (compare v w f) heap fit (compare_integers f)
      compared f (inr fit) = begin character_type boolean_type (compare v w f) heap fit (compare_characters f)

      numbers : (f : ℤ → ℤ → Does (Option Seen)) → BothFit system (heap_of s) integer_type v w
          → ((m n : ℤ) → Combines integer_type (f m n) integer_type)
          → Safe (with_integers v w f s) (EndsIn system integer_type s)
      numbers f fit h = begin integer_type integer_type (with_integers v w f) heap fit (of_integers integer_type f h)

      truths : (f : Bool → Bool → Bool) → BothFit system (heap_of s) boolean_type v w
          → Safe (with_booleans v w f s) (EndsIn system boolean_type s)
      truths f fit = begin boolean_type boolean_type (with_booleans v w f) heap fit (of_booleans f)

      added : (u : TyT)
          → (BothFit system (heap_of s) string_type v w × (u ≡ string_type))
          ⊎ (BothFit system (heap_of s) integer_type v w × (u ≡ integer_type))
          → Safe (add v w s) (EndsIn system u s)
      added u (inl f) = of_type op.Plus string_type u f.1 (begin string_type string_type
          (add v w) heap f.0 add_strings)
      added u (inr f) = of_type op.Plus integer_type u f.1 (begin integer_type integer_type
          (add v w) heap f.0 add_integers)

      operate_ok : (o : Op) (t : TyT) → OperandsFit system (heap_of s) o v w t → Outcome o t
      operate_ok op.Plus t f = added t f
      operate_ok op.Minus t f = of_type op.Minus integer_type t f.1 (numbers _ f.0
          (λ m n. given_integer integer_type _))
      operate_ok op.Times t f = of_type op.Times integer_type t f.1 (numbers _ f.0
          (λ m n. given_integer integer_type _))
      operate_ok op.Divide t f = of_type op.Divide integer_type t f.1 (numbers _ f.0 (divides (int_wrapping_div w64)))
      operate_ok op.Modulo t f = of_type op.Modulo integer_type t f.1 (numbers _ f.0 (divides int_rem))
      operate_ok op.Power t f = of_type op.Power integer_type t f.1 (numbers _ f.0 powers)
      operate_ok op.Equal t f = of_type op.Equal boolean_type t f (truth op.Equal (same_value v w))
      operate_ok op.NotEqual t f = of_type op.NotEqual boolean_type t f (truth op.NotEqual (not (same_value v w)))
      operate_ok op.Less t f = of_type op.Less boolean_type t f.1 (compared int_lt f.0)
      operate_ok op.Greater t f = of_type op.Greater boolean_type t f.1 (compared (λ m n. int_lt n m) f.0)
      operate_ok op.LessEqual t f = of_type op.LessEqual boolean_type t f.1 (compared int_le f.0)
      operate_ok op.GreaterEqual t f = of_type op.GreaterEqual boolean_type t f.1 (compared (λ m n. int_le n m) f.0)
      operate_ok op.And t f = of_type op.And boolean_type t f.1 (truths ◌&&◌ f.0)
      operate_ok op.Or t f = of_type op.Or boolean_type t f.1 (truths ◌||◌ f.0)
      operate_ok op.Xor t f = of_type op.Xor boolean_type t f.1 (truths (λ a b. not (beq a b)) f.0)
      operate_ok _ t f = absurd f

  pub two_ok : (o : Op) (v w : Value) (t : TyT) (s : State) → IsHeap system (heap_of s)
      → OperandsFit system (heap_of s) o v w t → Safe (operate o v w s) (EndsIn system t s)
  two_ok o v w t s heap f = operate_ok s v w heap o t f

  -- ---- one operand

  module _ (s : State) (v : Value) (heap : IsHeap system (heap_of s)) where
    abbrev Later : State → Type 0
    Later = Extends system s

    abbrev OneOutcome : Op → TyT → Type 0
    OneOutcome o t = Safe (operate_one o v s) (EndsIn system t s)

    signed : (f : ℤ → ℤ) → Fits system (heap_of s) integer_type v
        → Safe (as_integer v (λ n. give_integer (f n)) s) (EndsIn system integer_type s)
    signed f fit =
        let n = integer_is (heap_of s) v heap fit in
        subst (λ v. Safe (as_integer v (λ n. give_integer (f n)) s) (EndsIn system integer_type s)) (sym n.1)
        (extends_same system s heap, (integer_fits system laws (heap_of s) (f n.0), refl))

    one_by : (o : Op) (t : TyT) → OperandFits system (heap_of s) o v t → OneOutcome o t
    one_by op.Not t f =
        let b = boolean_is (heap_of s) v heap f.0 in
        subst (OneOutcome op.Not) (sym f.1)
        (subst (λ v. Safe (operate_one op.Not v s) (EndsIn system boolean_type s)) (sym b.1)
        (extends_same system s heap, (boolean_fits system laws (heap_of s) (not b.0), refl)))
    one_by op.Plus t f = subst (OneOutcome op.Plus) (sym f.1) (signed (λ n. n) f.0)
    one_by op.Minus t f = subst (OneOutcome op.Minus) (sym f.1) (signed (int_wrapping_neg w64) f.0)
    one_by _ t f = absurd f

  pub one_ok : (o : Op) (v : Value) (t : TyT) (s : State) → IsHeap system (heap_of s)
      → OperandFits system (heap_of s) o v t → Safe (operate_one o v s) (EndsIn system t s)
  one_ok o v t s heap f = one_by s v heap o t f

  pub literal_given : (x : Literal) (s : State) → IsHeap system (heap_of s)
      → Safe (evaluate_literal x s) (EndsIn system (literal_type x) s)
  literal_given x s heap =
      extends_by system (evaluate_literal x) (λ r u. Gives system (heap_of u) (literal_type x) r) s heap
      (literal_ok (Extends system s) (extends_lasts system s) x)
