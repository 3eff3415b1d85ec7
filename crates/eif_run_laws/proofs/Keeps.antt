-- Steps that do not go wrong, and how they are put together.
use Rattle.std.proofs.Common.{◌≡◌, Bool, true, false, List, [], ◌∷◌, ◌++◌, length, Option, Some, None, refl, sym, subst}
use Rattle.std.specs.Prelude.{if◌then◌else◌}
use Rattle.eif_meaning.specs.Values.{Value, reference, Object, Store, State, Wrong, no_feature, Outcome, done, stopped, cut_off, wrong, Does, after, ◌>>=◌, give, stop, some_or, some_or_stop}
use Rattle.eif_meaning.specs.System.{System}
use Rattle.eif_meaning.specs.Objects.{object_of, object_at, with_heap, allocate}
use Rattle.eif_run_laws.specs.Holders.{IsHeap, Grow}
use Rattle.eif_run_laws.specs.Steps.{Safe, heap_of, with_store, Extends}
use Rattle.eif_run_laws.proofs.Growing.{grow_same, grow_on, grow_added}

-- ---- outcomes

pub safe_more : {S A : Type 0} (o : Outcome S A) (p q : S → A → Type 0)
    → ((s : S) (a : A) → p s a → q s a) → Safe o p → Safe o q
safe_more (done s a) p q f h = f s a h
safe_more (stopped w) p q f h = tt
safe_more (cut_off w) p q f h = tt
safe_more (wrong k w) p q f h = h

pub safe_after : {S T A B : Type 0} (o : Outcome S A) (f : S → A → Outcome T B)
    (p : S → A → Type 0) (q : T → B → Type 0)
    → Safe o p → ((s : S) (a : A) → p s a → Safe (f s a) q) → Safe (after o f) q
safe_after (done s a) f p q h k = k s a h
safe_after (stopped w) f p q h k = tt
safe_after (cut_off w) f p q h k = tt
safe_after (wrong b w) f p q h k = h

-- ---- steps

-- the heap has grown since the first state, and J holds of what a step gives and the state at its end
abbrev pub Ends : {A : Type 0} → (A → State → Type 0) → State → State → A → Type 0
Ends J s t a = Grow (heap_of s) (heap_of t) × J a t

-- from a state with I the step does not go wrong, and ends with J
pub record Keeps {A : Type 0} (I : State → Type 0) (m : Does A) (J : A → State → Type 0) : Type 0 where
  pub by : (s : State) → I s → Safe (m s) (Ends J s)

pub keeps_give : {A : Type 0} (I : State → Type 0) (a : A) (J : A → State → Type 0)
    → ((s : State) → I s → J a s) → Keeps I (give a) J
keeps_give I a J f = record { by = λ s i. (grow_same (heap_of s), f s i) }

pub keeps_stop : {A : Type 0} (I : State → Type 0) (J : A → State → Type 0) → Keeps I stop J
keeps_stop I J = record { by = λ s i. tt }

ends_on : {A : Type 0} (J : A → State → Type 0) (s t u : State) (a : A)
    → Grow (heap_of s) (heap_of t) → Ends J t u a → Ends J s u a
ends_on J s t u a g h = (grow_on (heap_of s) (heap_of t) (heap_of u) g h.0, h.1)

pub keeps_bind : {A B : Type 0} {I : State → Type 0} (m : Does A) (J : A → State → Type 0)
    (f : A → Does B) (K : B → State → Type 0)
    → Keeps I m J → ((a : A) → Keeps (J a) (f a) K) → Keeps I (m >>= f) K
keeps_bind m J f K h k = record {
  by = λ s i. safe_after (m s) (λ t a. f a t) (Ends J s) (Ends K s) (h.by s i)
      (λ t a j. safe_more (f a t) (Ends K t) (Ends K s) (λ u b. ends_on K s t u b j.0) ((k a).by t j.1));
}

pub keeps_pre : {A : Type 0} (I K : State → Type 0) (m : Does A) (J : A → State → Type 0)
    → Keeps K m J → ((s : State) → I s → K s) → Keeps I m J
keeps_pre I K m J h f = record { by = λ s i. h.by s (f s i) }

pub keeps_post : {A : Type 0} {I : State → Type 0} (m : Does A) (J K : A → State → Type 0)
    → Keeps I m J → ((a : A) (s : State) → J a s → K a s) → Keeps I m K
keeps_post m J K h f = record { by = λ s i. safe_more (m s) _ _ (λ t a p. (p.0, f a t p.1)) (h.by s i) }

-- a fact that I tells may be used
pub keeps_if : {A : Type 0} (P : Type 0) (I : State → Type 0) (m : Does A) (J : A → State → Type 0)
    → ((s : State) → I s → P) → (P → Keeps I m J) → Keeps I m J
keeps_if P I m J f h = record { by = λ s i. (h (f s i)).by s i }

-- what can't be
pub keeps_never : {A : Type 0} (I : State → Type 0) (m : Does A) (J : A → State → Type 0)
    → ((s : State) → I s → ⊥) → Keeps I m J
keeps_never I m J f = record { by = λ s i. absurd (f s i) }

-- by a test
pub keeps_choice : {A : Type 0} (b : Bool) (m n : Does A) (I : State → Type 0) (J : A → State → Type 0)
    → (b ≡ true → Keeps I m J) → (b ≡ false → Keeps I n J) → Keeps I (if b then m else n) J
keeps_choice true m n I J f g = f refl
keeps_choice false m n I J f g = g refl

pub keeps_some : {A B : Type 0} (k : Wrong) (o : Option A) (a : A) (f : A → Does B)
    (I : State → Type 0) (J : B → State → Type 0)
    → o ≡ Some a → Keeps I (f a) J → Keeps I (some_or k o f) J
keeps_some k o a f I J e h = subst (λ o. Keeps I (some_or k o f) J) (sym e) h

pub keeps_or_stop : {A B : Type 0} (o : Option A) (f : A → Does B) (I : State → Type 0) (J : B → State → Type 0)
    → ((a : A) → o ≡ Some a → Keeps I (f a) J) → Keeps I (some_or_stop o f) J
keeps_or_stop None f I J h = record { by = λ s i. tt }
keeps_or_stop (Some a) f I J h = h a refl

-- the object of a value
pub keeps_object : (v : Value) (I : State → Type 0)
    → ((s : State) → I s → (o : Object) × (object_of (heap_of s) v ≡ Some o))
    → Keeps I (object_at v) (λ o s. I s × (object_of (heap_of s) v ≡ Some o))
keeps_object v I f = record {
  by = λ s i. let at = f s i in
      subst (λ o. Safe (some_or no_feature o give s) (Ends (λ o s. I s × (object_of (heap_of s) v ≡ Some o)) s))
      (sym at.1) (grow_same (heap_of s), (i, at.1));
}

-- ---- steps that change nothing but the store

-- I holds with a sound heap, and goes on to hold where nothing but the store changes, objects stay, the heap is sound
pub record Lasts (system : System) (I : State → Type 0) : Type 0 where
  pub heap : (s : State) → I s → IsHeap system (heap_of s)
  pub stays : (s : State) (t : Store) → I s → Grow (heap_of s) t.heap → IsHeap system t.heap → I (with_store t s)

-- together with what stays while the heap grows
pub lasts_with : (system : System) (I : State → Type 0) (X : List Object → Type 0) → Lasts system I
    → ((h k : List Object) → Grow h k → X h → X k) → Lasts system (λ s. I s × X (heap_of s))
lasts_with system I X l f = record {
  heap = λ s i. l.heap s i.0;
  stays = λ s t i g h. (l.stays s t i.0 g h, f (heap_of s) t.heap g i.1);
}

-- to extend a state lasts
pub extends_lasts : (system : System) (s : State) → Lasts system (Extends system s)
extends_lasts system s = record {
  heap = λ t e. e.heap;
  stays = λ t u e g h.
      let rest : with_store u t ≡ with_store u s = subst (λ x. with_store u x ≡ with_store u s) (sym e.rest) refl in
      record { rest = rest; grown = grow_on (heap_of s) (heap_of t) u.heap e.grown g; heap = h };
}

pub extends_same : (system : System) (s : State) → IsHeap system (heap_of s) → Extends system s s
extends_same system s h = record { rest = refl; grown = grow_same (heap_of s); heap = h }

-- what lasts holds behind a step that extends the state
pub by_extending : {A : Type 0} (system : System) (I : State → Type 0) (m : Does A) (J : A → State → Type 0)
    → Lasts system I → ((s : State) → I s → Safe (m s) (λ t a. Extends system s t × J a t))
    → Keeps I m (λ a t. I t × J a t)
by_extending {A = A} system I m J l h = record {
  by = λ s i. safe_more (m s) _ _ (λ t a p. kept s t a i p.0 p.1)
      (h s i);
}
  where
    kept : (s t : State) (a : A) → I s → Extends system s t → J a t → Ends (λ a t. I t × J a t) s t a
    kept s t a i e j = (e.grown, (subst I (sym e.rest) (l.stays s t.store i e.grown e.heap), j))

-- and the other way round
pub extends_by : {A : Type 0} (system : System) (m : Does A) (J : A → State → Type 0) (s : State)
    → IsHeap system (heap_of s) → Keeps (Extends system s) m (λ a t. Extends system s t × J a t)
    → Safe (m s) (λ t a. Extends system s t × J a t)
extends_by system m J s heap h = safe_more (m s) _ _ (λ t a p. p.1) (h.by s (extends_same system s heap))

-- a new object
pub keeps_allocate : (system : System) (I : State → Type 0) (o : Object) → Lasts system I
    → ((s : State) → I s → IsHeap system (heap_of s ++ o ∷ []))
    → ((h : List Object) → object_of (h ++ o ∷ []) (reference (length h)) ≡ Some o)
    → Keeps I (allocate o) (λ v s. I s × (object_of (heap_of s) v ≡ Some o))
keeps_allocate system I o l heap at = record {
  by = λ s i.
      let t = with_heap (heap_of s ++ o ∷ []) s.store in
      let g = grow_added (heap_of s) o in
      (g, (l.stays s t i g (heap s i), at (heap_of s)));
}
