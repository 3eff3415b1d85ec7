-- What ends before one token ends so before each token at which its goal may end: for all rules.
use Rattle.std.proofs.Common.{◌≡◌, true, false, ℕ, zero, suc, ◌≤◌, ◌<◌, List, [], ◌∷◌, ◌++◌, length, refl, ap, sym, ◌∙◌, subst, arith, ◌⊎◌, inl, inr, length-append, append_assoc}
use Rattle.std.proofs.lemmas.List.{append_cancel_right}
use Rattle.eif_grammar.specs.declared.terminal.Terminal.{Terminal}
use Rattle.eif_grammar.specs.Tokens.{Token}
use Rattle.eif_grammar.specs.Spelling.{head}
use Rattle.eif_grammar.specs.Goals.{Goal, Found}
use Rattle.eif_grammar.specs.Reader.{Reader, done, refuse, look, next, call, guard, fork}
use Rattle.eif_grammar.specs.Outcomes.{rule, Outcome, got, refused, stuck, after, run, reached, Runs, Calls}
use Rattle.eif_grammar_laws.proofs.Readers.{Below, ended, looked, taken, called, guarded, forked, forked_not, by_rule, left, Shrinks, run_shrinks, reached_shrinks, same_reading}
use Rattle.eif_grammar_laws.proofs.Endings.{stops, taking}

-- ---- what a reader must be

-- it ends only behind a token that it took
abbrev pub Takes : {A : Type 0} → Reader A → Type 0
Takes (done a) = ⊥
Takes refuse = Unit {0}
Takes (look k) = (x : Terminal) → Takes (k x)
Takes (next k) = Unit {0}
Takes (guard t r) = Takes r
Takes (fork t r s) = (t ≡ true → Takes r) × (t ≡ false → Takes s)
Takes (call g k) = (taking g ≡ true) ⊎ ((a : Found g) → Takes (k a))

abbrev pub AllTake : Type 0
AllTake = (g : Goal) → taking g ≡ true → Takes (rule g)

-- where the one may end, the other may
abbrev pub Inside : Goal → Goal → Type 0
Inside G g = (y : Terminal) → stops G y ≡ true → stops g y ≡ true

-- where it ends before a token, it ends so before one at which its goal may end
abbrev pub Steady : Goal → {A : Type 0} → Reader A → Type 0
Steady G (done a) = Unit {0}
Steady G refuse = Unit {0}
Steady G {A} (look k) = (x : Terminal) → Steady G (k x)
    × (Takes (k x) ⊎ ((y : Terminal) → stops G y ≡ true → (ts : List Token) (o : Outcome A) → Runs (k x) ts o → Runs (k y) ts o))
Steady G (next k) = (n : Token) → Steady G (k n)
Steady G (guard t r) = Steady G r
Steady G (fork t r s) = Steady G r × Steady G s
Steady G (call g k) = (Inside G g ⊎ ((a : Found g) → Takes (k a))) × ((a : Found g) → Steady G (k a))

-- ---- what is left is an end of what there was

abbrev Suffix : List Token → List Token → Type 0
Suffix ts rest = (b : List Token) × (ts ≡ b ++ rest)

pub suffix_of : {A : Type 0} → List Token → Outcome A → Type 0
suffix_of ts (got a rest) = Suffix ts rest
suffix_of ts (refused rest) = Suffix ts rest
suffix_of ts stuck = Unit {0}

suffix_more : {A : Type 0} (ts mid b : List Token) (o : Outcome A) → ts ≡ b ++ mid → suffix_of mid o → suffix_of ts o
unfolding suffix_of
suffix_more ts mid b (got a rest) e (b', e') = (b ++ b', e ∙ ap (λ l. b ++ l) e' ∙ sym (append_assoc b b' rest))
suffix_more ts mid b (refused rest) e (b', e') = (b ++ b', e ∙ ap (λ l. b ++ l) e' ∙ sym (append_assoc b b' rest))
suffix_more ts mid b stuck e s = tt

suffix_after : {A B : Type 0} (ts : List Token) (o : Outcome A) (k : A → List Token → Outcome B) → suffix_of ts o
    → ((a : A) (mid : List Token) → suffix_of mid (k a mid)) → suffix_of ts (after o k)
unfolding suffix_of
suffix_after ts (got a mid) k (b, e) h = suffix_more ts mid b (k a mid) e (h a mid)
suffix_after ts (refused rest) k s h = s
suffix_after ts stuck k s h = tt

abbrev Suffixes : Below → Type 0
Suffixes f = (g : Goal) (ts : List Token) → suffix_of ts (f g ts)

run_suffix : (f : Below) → Suffixes f → {A : Type 0} (r : Reader A) (ts : List Token) → suffix_of ts (run f r ts)
unfolding suffix_of
run_suffix f s (done a) ts = ([], refl)
run_suffix f s refuse ts = ([], refl)
run_suffix f s (look k) ts = run_suffix f s (k (head ts)) ts
run_suffix f s (next k) [] = ([], refl)
run_suffix f s (next k) (x ∷ ts) = suffix_more (x ∷ ts) ts (x ∷ []) (run f (k x) ts) refl (run_suffix f s (k x) ts)
run_suffix f s (guard true r) ts = run_suffix f s r ts
run_suffix f s (guard false r) ts = ([], refl)
run_suffix f s (fork true r r') ts = run_suffix f s r ts
run_suffix f s (fork false r r') ts = run_suffix f s r' ts
run_suffix f s (call g k) ts = suffix_after ts (f g ts) (λ a rest. run f (k a) rest) (s g ts) (λ a rest. run_suffix f s (k a) rest)

pub reached_suffix : (n : ℕ) → Suffixes (reached n)
unfolding reached suffix_of
reached_suffix zero g ts = tt
reached_suffix (suc n) g ts = run_suffix (reached n) (reached_suffix n) (rule g) ts

pub got_suffix : {A : Type 0} (ts rest : List Token) (a : A) (o : Outcome A) → o ≡ got a rest → suffix_of ts o → (b : List Token) × (ts ≡ b ++ rest)
unfolding suffix_of
got_suffix ts rest a o e s = subst (suffix_of ts) e s

-- ---- what takes a token has fewer left

module _ (all_take : AllTake) where
  abbrev TakesBelow : Below → Type 0
  TakesBelow f = (g : Goal) → taking g ≡ true → (ts : List Token) (a : Found g) (rest : List Token) → f g ts ≡ got a rest → length rest < length ts

  taken_behind : (f : Below) → Shrinks f → {A B : Type 0} (k : A → Reader B) (b : B) (rest : List Token) (o : Outcome A) (size : ℕ) → left o ≤ size
      → ((a : A) (mid : List Token) → run f (k a) mid ≡ got b rest → length rest < length mid) → after o (λ a mid. run f (k a) mid) ≡ got b rest → length rest < size
  taken_behind f s k b rest (got a mid) size le h e = omega (arith, h a mid e)
  taken_behind f s k b rest (refused mid) size le h e = cc
  taken_behind f s k b rest stuck size le h e = cc

  taken_first : (f : Below) → Shrinks f → {A B : Type 0} (k : A → Reader B) (b : B) (rest : List Token) (o : Outcome A) (size : ℕ)
      → ((a : A) (mid : List Token) → o ≡ got a mid → length mid < size) → after o (λ a mid. run f (k a) mid) ≡ got b rest → length rest < size
  taken_first f s k b rest (got a mid) size h e = omega (arith, h a mid refl, run_shrinks f s (k a) mid, ap left e)
  taken_first f s k b rest (refused mid) size h e = cc
  taken_first f s k b rest stuck size h e = cc

  run_takes : (f : Below) → Shrinks f → TakesBelow f → {A : Type 0} (r : Reader A) → Takes r → (ts : List Token) (a : A) (rest : List Token) → run f r ts ≡ got a rest → length rest < length ts
  run_takes f s h (done x) p ts a rest e = absurd p
  run_takes f s h refuse p ts a rest e = cc
  run_takes f s h (look k) p ts a rest e = run_takes f s h (k (head ts)) (p (head ts)) ts a rest e
  run_takes f s h (next k) p [] a rest e = cc
  run_takes f s h (next k) p (x ∷ ts) a rest e = omega (arith, run_shrinks f s (k x) ts, ap left e)
  run_takes f s h (guard true r) p ts a rest e = run_takes f s h r p ts a rest e
  run_takes f s h (guard false r) p ts a rest e = cc
  run_takes f s h (fork true r r') p ts a rest e = run_takes f s h r (p.0 refl) ts a rest e
  run_takes f s h (fork false r r') p ts a rest e = run_takes f s h r' (p.1 refl) ts a rest e
  run_takes f s h (call g k) (inl p) ts a rest e = taken_first f s k a rest (f g ts) (length ts) (λ x mid e'. h g p ts x mid e') e
  run_takes f s h (call g k) (inr p) ts a rest e = taken_behind f s k a rest (f g ts) (length ts) (s g ts) (λ x mid e'. run_takes f s h (k x) (p x) mid a rest e') e

  reached_takes : (n : ℕ) → TakesBelow (reached n)
  unfolding reached
  reached_takes zero g p ts a rest e = cc
  reached_takes (suc n) g p ts a rest e = run_takes (reached n) (reached_shrinks n) (reached_takes n) (rule g) (all_take g p) ts a rest e

-- ---- what ends before one token ends so before one at which the goal may end

own_front : (x : Token) (b mid : List Token) → mid ≡ x ∷ b ++ mid → ⊥
own_front x b mid e = omega (arith, ap length e, length-append b mid)

no_front : (b mid : List Token) → b ++ mid ≡ mid → b ≡ []
no_front [] mid e = refl
no_front (x ∷ b) mid e = absurd (own_front x b mid (sym e))

module _ (all_steady : (g : Goal) → Steady g (rule g)) (all_take : AllTake) where
  abbrev Stable : Below → Type 0
  Stable f = (g : Goal) (b mid : List Token) (a : Found g) → f g (b ++ mid) ≡ got a mid → (rest : List Token) → stops g (head rest) ≡ true → Calls g (b ++ rest) (got a rest)

  -- the callee's outcome before the new end, by what its caller went on to take
  callee_moved : (n : ℕ) → Stable (reached n) → {A : Type 0} (G g : Goal) (k : Found g → Reader A) → Inside G g ⊎ ((a : Found g) → Takes (k a))
      → (b1 b2 mid : List Token) (a : Found g) (c : A) → reached n g (b1 ++ (b2 ++ mid)) ≡ got a (b2 ++ mid) → run (reached n) (k a) (b2 ++ mid) ≡ got c mid
      → (rest : List Token) → stops G (head rest) ≡ true → Calls g (b1 ++ (b2 ++ rest)) (got a (b2 ++ rest))
  callee_moved n h G g k (inl i) b1 [] mid a c e e' rest st = h g b1 mid a e rest (i (head rest) st)
  callee_moved n h G g k (inr p) b1 [] mid a c e e' rest st =
      absurd (omega (arith, run_takes all_take (reached n) (reached_shrinks n) (reached_takes all_take n) (k a) (p a) mid c mid e'))
  callee_moved n h G g k w b1 (x ∷ b2) mid a c e e' rest st =
      let there : Calls g (b1 ++ x ∷ (b2 ++ mid)) (got a (x ∷ (b2 ++ mid))) = record { depth = n; runs = e; ends = λ y. cc } in
      same_reading x (b2 ++ mid) (b2 ++ rest) a b1 there

  call_stable : (n : ℕ) → Stable (reached n) → {A : Type 0} (G g : Goal) (k : Found g → Reader A) → Inside G g ⊎ ((a : Found g) → Takes (k a))
      → (b mid : List Token) (a : A) (rest : List Token) → stops G (head rest) ≡ true
      → ((x : Found g) (b' : List Token) → run (reached n) (k x) (b' ++ mid) ≡ got a mid → Runs (k x) (b' ++ rest) (got a rest))
      → (o : Outcome (Found g)) → reached n g (b ++ mid) ≡ o → after o (λ x m. run (reached n) (k x) m) ≡ got a mid → Runs (call g k) (b ++ rest) (got a rest)
  call_stable n h G g k w b mid a rest st deeper (got x m1) eo e' =
      let one = got_suffix (b ++ mid) m1 x (reached n g (b ++ mid)) eo (reached_suffix n g (b ++ mid)) in
      let two = got_suffix m1 mid a (run (reached n) (k x) m1) e' (run_suffix (reached n) (reached_suffix n) (k x) m1) in
      let parts : b ++ mid ≡ (one.0 ++ two.0) ++ mid = one.1 ∙ ap (λ l. one.0 ++ l) two.1 ∙ sym (append_assoc one.0 two.0 mid) in
      let b_is : b ≡ one.0 ++ two.0 = append_cancel_right b (one.0 ++ two.0) mid parts in
      let list : b ++ mid ≡ one.0 ++ (two.0 ++ mid) = one.1 ∙ ap (λ l. one.0 ++ l) two.1 in
      let behind : run (reached n) (k x) (two.0 ++ mid) ≡ got a mid = ap (λ l. run (reached n) (k x) l) (sym two.1) ∙ e' in
      let first = callee_moved n h G g k w one.0 two.0 mid x a (ap (λ l. reached n g l) (sym list) ∙ eo ∙ ap (got x) two.1) behind rest st in
      let second = deeper x two.0 behind in
      let whole : b ++ rest ≡ one.0 ++ (two.0 ++ rest) = ap (λ l. l ++ rest) b_is ∙ append_assoc one.0 two.0 rest in
      rw whole (called first second)
  call_stable n h G g k w b mid a rest st deeper (refused m) eo e' = cc
  call_stable n h G g k w b mid a rest st deeper stuck eo e' = cc

  look_stable : (n : ℕ) {A : Type 0} (G : Goal) (k : Terminal → Reader A) (mid : List Token) (a : A) (rest : List Token) → stops G (head rest) ≡ true
      → Takes (k (head mid)) ⊎ ((y : Terminal) → stops G y ≡ true → (ts : List Token) (o : Outcome A) → Runs (k (head mid)) ts o → Runs (k y) ts o)
      → run (reached n) (k (head mid)) mid ≡ got a mid → Runs (k (head mid)) rest (got a rest) → Runs (look k) rest (got a rest)
  look_stable n G k mid a rest st (inl p) e r =
      absurd (omega (arith, run_takes all_take (reached n) (reached_shrinks n) (reached_takes all_take n) (k (head mid)) p mid a mid e))
  look_stable n G k mid a rest st (inr same) e r = looked (same (head rest) st rest (got a rest) r)

  run_stable : (n : ℕ) → Stable (reached n) → {A : Type 0} (G : Goal) (r : Reader A) → Steady G r → (b mid : List Token) (a : A) → run (reached n) r (b ++ mid) ≡ got a mid
      → (rest : List Token) → stops G (head rest) ≡ true → Runs r (b ++ rest) (got a rest)
  run_stable n h G (done x) s b mid a e rest st =
      let none : b ≡ [] = no_front b mid (cc) in let same : x ≡ a = cc in rw (none, same) ended
  run_stable n h G refuse s b mid a e rest st = cc
  run_stable n h G (look k) s [] mid a e rest st = look_stable n G k mid a rest st (s (head mid)).1 e (run_stable n h G (k (head mid)) (s (head mid)).0 [] mid a e rest st)
  run_stable n h G (look k) s (x ∷ b) mid a e rest st = looked (run_stable n h G (k x.terminal) (s x.terminal).0 (x ∷ b) mid a e rest st)
  run_stable n h G (next k) s [] [] a e rest st = cc
  run_stable n h G (next k) s [] (x ∷ mid) a e rest st = absurd (omega (arith, run_shrinks (reached n) (reached_shrinks n) (k x) mid, ap left e))
  run_stable n h G (next k) s (x ∷ b) mid a e rest st = taken (run_stable n h G (k x) (s x) b mid a e rest st)
  run_stable n h G (guard true r) s b mid a e rest st = guarded refl (run_stable n h G r s b mid a e rest st)
  run_stable n h G (guard false r) s b mid a e rest st = cc
  run_stable n h G (fork true r r') s b mid a e rest st = forked refl (run_stable n h G r s.0 b mid a e rest st)
  run_stable n h G (fork false r r') s b mid a e rest st = forked_not refl (run_stable n h G r' s.1 b mid a e rest st)
  run_stable n h G (call g k) s b mid a e rest st =
      call_stable n h G g k s.0 b mid a rest st (λ x b' e'. run_stable n h G (k x) (s.1 x) b' mid a e' rest st) (reached n g (b ++ mid)) refl e

  reached_stable : (n : ℕ) → Stable (reached n)
  unfolding reached
  reached_stable zero g b mid a e rest st = cc
  reached_stable (suc n) g b mid a e rest st = by_rule (run_stable n (reached_stable n) g (rule g) (all_steady g) b mid a e rest st)

  pub stable : {g : Goal} (b mid rest : List Token) (a : Found g) → Calls g (b ++ mid) (got a mid) → stops g (head rest) ≡ true → Calls g (b ++ rest) (got a rest)
  stable {g} b mid rest a c st = reached_stable c.depth g b mid a c.runs rest st

-- what a goal took stands before what it left
pub calls_suffix : {g : Goal} (ts rest : List Token) (a : Found g) → Calls g ts (got a rest) → (b : List Token) × (ts ≡ b ++ rest)
calls_suffix {g} ts rest a c = got_suffix ts rest a (reached c.depth g ts) c.runs (reached_suffix c.depth g ts)
