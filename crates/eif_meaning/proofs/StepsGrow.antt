-- What grows, and one lemma for each way to put steps together.
use Rattle.std.proofs.Common.{◌≡◌, ℕ, zero, suc, ◌≤◌, Bool, true, false, List, [], ◌∷◌, Option, Some, None, refl, sym, ap, subst, arith}
use Rattle.std.specs.Prelude.{if◌then◌else◌}
use Rattle.std.specs.Bool.{beq}
use Rattle.eif_tree.specs.declared.tree.Op.{Op}
use Rattle.eif_meaning.specs.Values.{Value, void, integer, boolean, character, reference, Store, Seen, State, Wrong, no_feature, Outcome, done, stopped, cut_off, wrong, Does, after, ◌>>=◌, give, fail, some_or}
use Rattle.eif_meaning.specs.Frames.{Body, Runner}
use Rattle.eif_meaning.specs.Operands.{give_boolean, as_boolean}
use Rattle.eif_meaning.specs.Operators.{without_right, operate_with}
use Rattle.eif_meaning.specs.Calls.{bound_or}
use Rattle.eif_meaning.specs.Execution.{condition, run_loop}

-- p is o, unless o was cut off
abbrev pub Grows : {S A : Type 0} → Outcome S A → Outcome S A → Type 0
Grows (done s a) p = p ≡ done s a
Grows (stopped w) p = p ≡ stopped w
Grows (cut_off w) p = Unit {0}
Grows (wrong k w) p = p ≡ wrong k w

abbrev pub StepGrows : {A : Type 0} → Does A → Does A → Type 0
StepGrows m n = (s : State) → Grows (m s) (n s)

abbrev pub RunnerGrows : Runner → Runner → Type 0
RunnerGrows r q = (v : Value) (b : Body) (vs : List Value) (s : Store) → Grows (r v b vs s) (q v b vs s)

-- ---- outcomes

pub grows_same : {S A : Type 0} (o : Outcome S A) → Grows o o
grows_same (done s a) = refl
grows_same (stopped w) = refl
grows_same (cut_off w) = tt
grows_same (wrong k w) = refl

pub grows_after : {S T A B : Type 0} (o p : Outcome S A) (f g : S → A → Outcome T B)
    → Grows o p → ((s : S) (a : A) → Grows (f s a) (g s a)) → Grows (after o f) (after p g)
grows_after (done s a) p f g e h = subst (λ q. Grows (f s a) (after q g)) (sym e) (h s a)
grows_after (stopped w) p f g e h = ap (λ q. after q g) e
grows_after (cut_off w) p f g e h = tt
grows_after (wrong k w) p f g e h = ap (λ q. after q g) e

-- ---- steps

pub step_same : {A : Type 0} (m : Does A) → StepGrows m m
step_same m s = grows_same (m s)

pub step_bind : {A B : Type 0} (m n : Does A) (f g : A → Does B)
    → StepGrows m n → ((a : A) → StepGrows (f a) (g a)) → StepGrows (m >>= f) (n >>= g)
step_bind m n f g h k s = grows_after (m s) (n s) (λ s a. f a s) (λ s a. g a s) (h s) (λ s a. k a s)

-- the same goes on after a step that grows
pub step_then : {A B : Type 0} (m n : Does A) (f : A → Does B) → StepGrows m n → StepGrows (m >>= f) (n >>= f)
step_then m n f h = step_bind m n f f h (λ a. step_same (f a))

-- what goes on grows after the same step
pub step_next : {A B : Type 0} (m : Does A) (f g : A → Does B)
    → ((a : A) → StepGrows (f a) (g a)) → StepGrows (m >>= f) (m >>= g)
step_next m f g h = step_bind m m f g (step_same m) h

pub step_some : {A B : Type 0} (k : Wrong) (o : Option A) (f g : A → Does B)
    → ((a : A) → StepGrows (f a) (g a)) → StepGrows (some_or k o f) (some_or k o g)
step_some k None f g h = step_same (fail k)
step_some k (Some a) f g h = h a

pub step_if : {A : Type 0} (b : Bool) (m n p q : Does A)
    → StepGrows m p → StepGrows n q → StepGrows (if b then m else n) (if b then p else q)
step_if true m n p q h k = h
step_if false m n p q h k = k

-- the same otherwise
pub step_when : {A : Type 0} (b : Bool) (m n p : Does A)
    → StepGrows m n → StepGrows (if b then m else p) (if b then n else p)
step_when b m n p h = step_if b m p n p h (step_same p)

-- the same where it holds
pub step_unless : {A : Type 0} (b : Bool) (m n p : Does A)
    → StepGrows m n → StepGrows (if b then p else m) (if b then p else n)
step_unless b m n p h = step_if b p m p n (step_same p) h

pub step_condition : {A : Type 0} (v : Value) (f g : Bool → Does A)
    → ((b : Bool) → StepGrows (f b) (g b)) → StepGrows (condition v f) (condition v g)
step_condition void f g h = λ s. refl
step_condition (integer n) f g h = λ s. refl
step_condition (boolean b) f g h = h b
step_condition (character n) f g h = λ s. refl
step_condition (reference r) f g h = λ s. refl

pub step_boolean : {A : Type 0} (v : Value) (f g : Bool → Does A)
    → ((b : Bool) → StepGrows (f b) (g b)) → StepGrows (as_boolean v f) (as_boolean v g)
step_boolean void f g h = λ s. refl
step_boolean (integer n) f g h = λ s. refl
step_boolean (boolean b) f g h = h b
step_boolean (character n) f g h = λ s. refl
step_boolean (reference r) f g h = λ s. refl

-- the right operand grows
pub step_operator : (t : Option Bool) (o : Op) (v : Value) (m n : Does Seen)
    → StepGrows m n → StepGrows (operate_with t o v m) (operate_with t o v n)
step_operator None o v m n h = step_then m n _ h
step_operator (Some t) o v m n h =
    step_boolean v _ _ (λ b. step_when (beq b t) _ _ (give_boolean (without_right o)) (step_then m n _ h))

-- a bound test local hides what grows
pub step_bound : (o : Option Seen) (vs : List Value) (m n : Does (Option Seen))
    → StepGrows m n → StepGrows (bound_or o vs m) (bound_or o vs n)
step_bound None vs m n h = h
step_bound (Some w) [] m n h = step_same (give (Some w))
step_bound (Some w) (v ∷ vs) m n h = step_same (fail no_feature)

-- with more turns
pub step_loop : (m n : ℕ) → m ≤ n → (e f : Does Seen) (b c : Does (Unit {0}))
    → StepGrows e f → StepGrows b c → StepGrows (run_loop m e b) (run_loop n f c)
step_loop zero zero le e f b c h k = step_then e f _ h
step_loop zero (suc n) le e f b c h k =
    step_bind e f _ _ h (λ v. step_condition v.value _ _ (λ t. step_if t _ _ _ _ (step_same (give tt)) (λ s. tt)))
step_loop (suc m) zero le e f b c h k = absurd (omega arith)
step_loop (suc m) (suc n) le e f b c h k =
    let next = step_loop m n (omega arith) e f b c h k in
    step_bind e f _ _ h
    (λ v. step_condition v.value _ _ (λ t. step_unless t _ _ (give tt) (step_bind b c _ _ k (λ u. next))))
