-- What holds of all readers, whatever they read.
use Rattle.std.proofs.Common.{◌≡◌, ◌≢◌, true, false, Bool, ℕ, zero, suc, ◌+◌, ◌-◌, ◌≤◌, ◌<◌, max, List, [], ◌∷◌, ◌++◌, length, refl, ap, sym, ◌∙◌, subst, arith, ◌⊎◌, inl, inr, length-append}
use Rattle.eif_grammar.specs.Tokens.{Token}
use Rattle.eif_grammar.specs.declared.terminal.Terminal.{Terminal}
use Rattle.eif_grammar.specs.Spelling.{head}
use Rattle.eif_grammar.specs.Goals.{Goal, Found}
use Rattle.eif_grammar.specs.Reader.{Reader, done, refuse, look, next, call, guard, fork}
use Rattle.eif_grammar.specs.Outcomes.{rule, Outcome, got, refused, stuck, after, run, reached, Runs, Calls}

abbrev pub Below : Type 0
Below = (g : Goal) → List Token → Outcome (Found g)

-- ---- more depth changes no outcome

abbrev Extends : Below → Below → Type 0
Extends f f' = (g : Goal) (ts : List Token) → f g ts ≢ stuck → f' g ts ≡ f g ts

not_stuck : {A B : Type 0} (o : Outcome A) (k : A → List Token → Outcome B) → after o k ≢ stuck → o ≢ stuck
not_stuck o k h e = h (ap (λ x. after x k) e)

after_more : {A B : Type 0} (o : Outcome A) (k k' : A → List Token → Outcome B)
    → ((a : A) (ts : List Token) → k a ts ≢ stuck → k' a ts ≡ k a ts) → after o k ≢ stuck → after o k' ≡ after o k
after_more (got a ts) k k' same h = same a ts h
after_more (refused ts) k k' same h = refl
after_more stuck k k' same h = refl

run_more : (f f' : Below) → Extends f f' → {A : Type 0} (r : Reader A) (ts : List Token) → run f r ts ≢ stuck → run f' r ts ≡ run f r ts
run_more f f' more (done a) ts h = refl
run_more f f' more refuse ts h = refl
run_more f f' more (look k) ts h = run_more f f' more (k (head ts)) ts h
run_more f f' more (next k) [] h = refl
run_more f f' more (next k) (t ∷ ts) h = run_more f f' more (k t) ts h
run_more f f' more (guard true r) ts h = run_more f f' more r ts h
run_more f f' more (guard false r) ts h = refl
run_more f f' more (fork true r s) ts h = run_more f f' more r ts h
run_more f f' more (fork false r s) ts h = run_more f f' more s ts h
run_more f f' more (call g k) ts h =
    ap (λ x. after x (λ a rest. run f' (k a) rest)) (more g ts (not_stuck (f g ts) _ h))
    ∙ after_more (f g ts) _ _ (λ a rest still. run_more f f' more (k a) rest still) h

reached_one_more : (n : ℕ) → Extends (reached n) (reached (suc n))
unfolding reached
reached_one_more zero g ts h = absurd (h refl)
reached_one_more (suc n) g ts h = run_more (reached n) (reached (suc n)) (reached_one_more n) (rule g) ts h

reached_more : (n m : ℕ) → Extends (reached n) (reached (n + m))
unfolding reached
reached_more n zero g ts h = ap (λ k. reached k g ts) (omega arith)
reached_more n (suc m) g ts h =
    let e = reached_more n m g ts h in
    let step : reached (suc (n + m)) g ts ≡ reached (n + m) g ts = reached_one_more (n + m) g ts (subst (λ x. x ≢ stuck) (sym e) h) in
    let turn : n + suc m ≡ suc (n + m) = omega arith in
    ap (λ k. reached k g ts) turn ∙ step ∙ e

reached_at : (n m : ℕ) → n ≤ m → Extends (reached n) (reached m)
reached_at n m le g ts h = let turn : m ≡ n + (m - n) = omega arith in ap (λ k. reached k g ts) turn ∙ reached_more n (m - n) g ts h

run_at : (n m : ℕ) → n ≤ m → {A : Type 0} (r : Reader A) (ts : List Token) → run (reached n) r ts ≢ stuck → run (reached m) r ts ≡ run (reached n) r ts
run_at n m le r ts h = run_more (reached n) (reached m) (reached_at n m le) r ts h

-- ---- the steps of a reader

pub ended : {A : Type 0} {a : A} {ts : List Token} → Runs (done a) ts (got a ts)
ended = record { depth = 0; runs = refl; ends = λ e. cc }

pub refuses : {A : Type 0} {ts : List Token} → Runs {A = A} refuse ts (refused ts)
refuses = record { depth = 0; runs = refl; ends = λ e. cc }

pub looked : {A : Type 0} {k : Terminal → Reader A} {ts : List Token} {o : Outcome A} → Runs (k (head ts)) ts o → Runs (look k) ts o
looked r = record { depth = r.depth; runs = r.runs; ends = r.ends }

pub looked_at : {A : Type 0} {k : Terminal → Reader A} {ts : List Token} {o : Outcome A} {h : Terminal} → head ts ≡ h → Runs (k h) ts o → Runs (look k) ts o
looked_at {k} {ts} {o} e r = looked (subst (λ x. Runs (k x) ts o) (sym e) r)

pub taken : {A : Type 0} {k : Token → Reader A} {t : Token} {ts : List Token} {o : Outcome A} → Runs (k t) ts o → Runs (next k) (t ∷ ts) o
taken r = record { depth = r.depth; runs = r.runs; ends = r.ends }

pub called : {A : Type 0} {g : Goal} {k : Found g → Reader A} {ts mid : List Token} {a : Found g} {o : Outcome A}
    → Calls g ts (got a mid) → Runs (k a) mid o → Runs (call g k) ts o
called {A} {g} {k} {ts} {mid} {a} {o} c r =
    let first : reached (max c.depth r.depth) g ts ≡ got a mid =
    reached_at c.depth (max c.depth r.depth) (omega arith) g ts (subst (λ x. x ≢ stuck) (sym c.runs) c.ends) ∙ c.runs in
    let second : run (reached (max c.depth r.depth)) (k a) mid ≡ o =
    run_at r.depth (max c.depth r.depth) (omega arith) (k a) mid (subst (λ x. x ≢ stuck) (sym r.runs) r.ends) ∙ r.runs in
    record {
      depth = max c.depth r.depth;
      runs = ap (λ x. after x (λ a rest. run (reached (max c.depth r.depth)) (k a) rest)) first ∙ second;
      ends = r.ends;
    }

pub guarded : {A : Type 0} {b : Bool} {r : Reader A} {ts : List Token} {o : Outcome A} → b ≡ true → Runs r ts o → Runs (guard b r) ts o
guarded {b} {r} {ts} {o} e x = let yes : Runs (guard true r) ts o = record { depth = x.depth; runs = x.runs; ends = x.ends } in subst (λ c. Runs (guard c r) ts o) (sym e) yes

pub guard_refused : {A : Type 0} {b : Bool} {r : Reader A} {ts : List Token} → b ≡ false → Runs (guard b r) ts (refused ts)
guard_refused {A} {b} {r} {ts} e =
    let no : Runs (guard false r) ts (refused ts) = record { depth = 0; runs = refl; ends = λ x. cc } in subst (λ c. Runs (guard c r) ts (refused ts)) (sym e) no

pub forked : {A : Type 0} {b : Bool} {r s : Reader A} {ts : List Token} {o : Outcome A} → b ≡ true → Runs r ts o → Runs (fork b r s) ts o
forked {b} {r} {s} {ts} {o} e x = let yes : Runs (fork true r s) ts o = record { depth = x.depth; runs = x.runs; ends = x.ends } in subst (λ c. Runs (fork c r s) ts o) (sym e) yes

pub forked_not : {A : Type 0} {b : Bool} {r s : Reader A} {ts : List Token} {o : Outcome A} → b ≡ false → Runs s ts o → Runs (fork b r s) ts o
forked_not {b} {r} {s} {ts} {o} e x = let yes : Runs (fork false r s) ts o = record { depth = x.depth; runs = x.runs; ends = x.ends } in subst (λ c. Runs (fork c r s) ts o) (sym e) yes

pub call_refused : {A : Type 0} {g : Goal} {k : Found g → Reader A} {ts e : List Token} → Calls g ts (refused e) → Runs (call g k) ts (refused e)
call_refused {A} {g} {k} c = record { depth = c.depth; runs = ap (λ x. after x (λ a rest. run (reached c.depth) (k a) rest)) c.runs; ends = λ e. cc }

pub by_rule : {g : Goal} {ts : List Token} {o : Outcome (Found g)} → Runs (rule g) ts o → Calls g ts o
unfolding reached
by_rule r = record { depth = suc r.depth; runs = r.runs; ends = r.ends }

pub ruleset steps = (by_rule, called, call_refused, guarded, guard_refused, forked, forked_not, taken, looked, ended, refuses)

-- ---- a goal has one outcome

pub one_outcome : {g : Goal} {ts : List Token} {o o' : Outcome (Found g)} → Calls g ts o → Calls g ts o' → o ≡ o'
one_outcome {g} {ts} {o} {o'} c d =
    let n : ℕ = max c.depth d.depth in
    let first : reached n g ts ≡ o = reached_at c.depth n (omega arith) g ts (subst (λ x. x ≢ stuck) (sym c.runs) c.ends) ∙ c.runs in
    let second : reached n g ts ≡ o' = reached_at d.depth n (omega arith) g ts (subst (λ x. x ≢ stuck) (sym d.runs) d.ends) ∙ d.runs in
    sym first ∙ second

-- ---- nothing is given back

abbrev pub left : {A : Type 0} → Outcome A → ℕ
left (got a ts) = length ts
left (refused ts) = length ts
left stuck = 0

abbrev pub Shrinks : Below → Type 0
Shrinks f = (g : Goal) (ts : List Token) → left (f g ts) ≤ length ts

after_shrinks : {A B : Type 0} (o : Outcome A) (k : A → List Token → Outcome B)
    → ((a : A) (ts : List Token) → left (k a ts) ≤ length ts) → left (after o k) ≤ left o
after_shrinks (got a ts) k h = h a ts
after_shrinks (refused ts) k h = omega arith
after_shrinks stuck k h = omega arith

pub run_shrinks : (f : Below) → Shrinks f → {A : Type 0} (r : Reader A) (ts : List Token) → left (run f r ts) ≤ length ts
run_shrinks f s (done a) ts = omega arith
run_shrinks f s refuse ts = omega arith
run_shrinks f s (look k) ts = run_shrinks f s (k (head ts)) ts
run_shrinks f s (next k) [] = omega arith
run_shrinks f s (next k) (t ∷ ts) = omega (arith, run_shrinks f s (k t) ts)
run_shrinks f s (guard true r) ts = run_shrinks f s r ts
run_shrinks f s (guard false r) ts = omega arith
run_shrinks f s (fork true r r') ts = run_shrinks f s r ts
run_shrinks f s (fork false r r') ts = run_shrinks f s r' ts
run_shrinks f s (call g k) ts =
    omega (arith, after_shrinks (f g ts) (λ a rest. run f (k a) rest) (λ a rest. run_shrinks f s (k a) rest), s g ts)

pub reached_shrinks : (n : ℕ) → Shrinks (reached n)
unfolding reached
reached_shrinks zero g ts = omega arith
reached_shrinks (suc n) g ts = run_shrinks (reached n) (reached_shrinks n) (rule g) ts

-- ---- what stands behind the last token that was looked at changes nothing

module _ (x : Token) (rest rest' : List Token) where
  data SameUpTo {A : Type 0} : Outcome A → Outcome A → Type 0 where
    both_got : (a : A) (b : List Token) → SameUpTo (got a (b ++ x ∷ rest)) (got a (b ++ x ∷ rest'))
    both_refused : (b : List Token) → SameUpTo (refused (b ++ x ∷ rest)) (refused (b ++ x ∷ rest'))

  abbrev Local : Below → Type 0
  Local f = (g : Goal) (b : List Token) → length rest < left (f g (b ++ x ∷ rest)) → SameUpTo (f g (b ++ x ∷ rest)) (f g (b ++ x ∷ rest'))

  same_after : {A B : Type 0} {o o' : Outcome A} (k : A → List Token → Outcome B) → SameUpTo o o'
      → ((a : A) (b : List Token) → length rest < left (k a (b ++ x ∷ rest)) → SameUpTo (k a (b ++ x ∷ rest)) (k a (b ++ x ∷ rest')))
      → length rest < left (after o k) → SameUpTo (after o k) (after o' k)
  same_after k (both_got a b) h le = h a b le
  same_after k (both_refused b) h le = both_refused b

  run_local : (f : Below) → Shrinks f → Local f → {A : Type 0} (r : Reader A) (b : List Token)
      → length rest < left (run f r (b ++ x ∷ rest)) → SameUpTo (run f r (b ++ x ∷ rest)) (run f r (b ++ x ∷ rest'))
  run_local f s h (done a) b le = both_got a b
  run_local f s h refuse b le = both_refused b
  run_local f s h (look k) [] le = run_local f s h (k x.terminal) [] le
  run_local f s h (look k) (t ∷ b) le = run_local f s h (k t.terminal) (t ∷ b) le
  run_local f s h (next k) [] le = absurd (omega (arith, run_shrinks f s (k x) rest))
  run_local f s h (next k) (t ∷ b) le = run_local f s h (k t) b le
  run_local f s h (guard true r) b le = run_local f s h r b le
  run_local f s h (guard false r) b le = both_refused b
  run_local f s h (fork true r r') b le = run_local f s h r b le
  run_local f s h (fork false r r') b le = run_local f s h r' b le
  run_local f s h (call g k) b le =
      same_after (λ a ts. run f (k a) ts)
      (h g b (omega (arith, after_shrinks (f g (b ++ x ∷ rest)) (λ a ts. run f (k a) ts) (λ a ts. run_shrinks f s (k a) ts))))
      (λ a b'. run_local f s h (k a) b') le

  reached_local : (n : ℕ) → Local (reached n)
  unfolding reached
  reached_local zero g b le = absurd (omega arith)
  reached_local (suc n) g b le = run_local (reached n) (reached_shrinks n) (reached_local n) (rule g) b le

  front_empty : (b : List Token) → b ++ x ∷ rest ≡ x ∷ rest → b ≡ []
  front_empty [] e = refl
  front_empty (t ∷ b) e = absurd (omega (arith, ap length e, length-append b (x ∷ rest)))

  got_same : {A : Type 0} {o o' : Outcome A} (a : A) → SameUpTo o o' → o ≡ got a (x ∷ rest) → o' ≡ got a (x ∷ rest')
  got_same a (both_got a' b) e =
      let none : b ≡ [] = front_empty b (cc) in
      let same : a' ≡ a = cc in
      ap (λ c. got c (b ++ x ∷ rest')) same ∙ ap (λ c. got a (c ++ x ∷ rest')) none
  got_same a (both_refused b) e = cc

  refused_same : {A : Type 0} {o o' : Outcome A} → SameUpTo o o' → o ≡ refused (x ∷ rest) → o' ≡ refused (x ∷ rest')
  refused_same (both_got a b) e = cc
  refused_same (both_refused b) e =
      let none : b ≡ [] = front_empty b (cc) in ap (λ c. refused (c ++ x ∷ rest')) none

  pub same_reading : {g : Goal} (a : Found g) (b : List Token) → Calls g (b ++ x ∷ rest) (got a (x ∷ rest)) → Calls g (b ++ x ∷ rest') (got a (x ∷ rest'))
  same_reading {g} a b c =
      let some : length rest < left (reached c.depth g (b ++ x ∷ rest)) = rw c.runs (omega arith) in
      record { depth = c.depth; runs = got_same a (reached_local c.depth g b some) c.runs; ends = λ e. cc }

  pub same_refusal : {g : Goal} (b : List Token) → Calls g (b ++ x ∷ rest) (refused (x ∷ rest)) → Calls g (b ++ x ∷ rest') (refused (x ∷ rest'))
  same_refusal {g} b c =
      let some : length rest < left (reached c.depth g (b ++ x ∷ rest)) = rw c.runs (omega arith) in
      record { depth = c.depth; runs = refused_same (reached_local c.depth g b some) c.runs; ends = λ e. cc }

-- ---- what a reader means, by what its goals mean

abbrev pub Meanings : Type 1
Meanings = (g : Goal) → Found g → List Token → List Token → Type 0

abbrev pub Means : Meanings → {A : Type 0} → Reader A → A → List Token → List Token → Type 0
Means m (done a) b ts rest = (a ≡ b) × (ts ≡ rest)
Means m refuse b ts rest = ⊥
Means m (look k) b ts rest = (x : Terminal) × (head ts ≡ x) × Means m (k x) b ts rest
Means m (next k) b ts rest = (t : Token) × (more : List Token) × (ts ≡ t ∷ more) × Means m (k t) b more rest
Means m (guard test r) b ts rest = (test ≡ true) × Means m r b ts rest
Means m (fork test r s) b ts rest = ((test ≡ true) × Means m r b ts rest) ⊎ ((test ≡ false) × Means m s b ts rest)
Means m (call g k) b ts rest = (a : Found g) × (mid : List Token) × m g a ts mid × Means m (k a) b mid rest

module _ (m : Meanings) where
  means_after : {A B : Type 0} (o : Outcome A) (k : A → List Token → Outcome B) (b : B) (rest : List Token) (P : A → List Token → Type 0) (Q : Type 0)
      → ((a : A) (mid : List Token) → o ≡ got a mid → k a mid ≡ got b rest → Q) → after o k ≡ got b rest → Q
  means_after (got a mid) k b rest P Q h e = h a mid refl e
  means_after (refused ts) k b rest P Q h e = cc
  means_after stuck k b rest P Q h e = cc

  run_sound : (f : Below) → ((g : Goal) (ts : List Token) (a : Found g) (rest : List Token) → f g ts ≡ got a rest → m g a ts rest)
      → {A : Type 0} (r : Reader A) (ts : List Token) (b : A) (rest : List Token) → run f r ts ≡ got b rest → Means m r b ts rest
  run_sound f h (done a) ts b rest e = (cc, cc)
  run_sound f h refuse ts b rest e = cc
  run_sound f h (look k) ts b rest e = (head ts, refl, run_sound f h (k (head ts)) ts b rest e)
  run_sound f h (next k) [] b rest e = cc
  run_sound f h (next k) (t ∷ ts) b rest e = (t, ts, refl, run_sound f h (k t) ts b rest e)
  run_sound f h (guard true r) ts b rest e = (refl, run_sound f h r ts b rest e)
  run_sound f h (guard false r) ts b rest e = cc
  run_sound f h (fork true r s) ts b rest e = inl (refl, run_sound f h r ts b rest e)
  run_sound f h (fork false r s) ts b rest e = inr (refl, run_sound f h s ts b rest e)
  run_sound f h (call g k) ts b rest e =
      means_after (f g ts) (λ a mid. run f (k a) mid) b rest (λ a mid. Unit {0}) (Means m (call g k) b ts rest)
      (λ a mid first second. (a, mid, h g ts a mid first, run_sound f h (k a) mid b rest second)) e

  reached_sound : ((g : Goal) (a : Found g) (ts rest : List Token) → Means m (rule g) a ts rest → m g a ts rest)
      → (n : ℕ) (g : Goal) (ts : List Token) (a : Found g) (rest : List Token) → reached n g ts ≡ got a rest → m g a ts rest
  unfolding reached
  reached_sound forms zero g ts a rest e = cc
  reached_sound forms (suc n) g ts a rest e = forms g a ts rest (run_sound (reached n) (reached_sound forms n) (rule g) ts a rest e)

  pub sound : ((g : Goal) (a : Found g) (ts rest : List Token) → Means m (rule g) a ts rest → m g a ts rest)
      → (g : Goal) (ts : List Token) (a : Found g) (rest : List Token) → Calls g ts (got a rest) → m g a ts rest
  sound forms g ts a rest c = reached_sound forms c.depth g ts a rest c.runs

-- ---- back from an outcome to the rule

rule_runs_at : (n : ℕ) (g : Goal) (ts : List Token) (o : Outcome (Found g)) → reached n g ts ≡ o → o ≢ stuck → Runs (rule g) ts o
unfolding reached
rule_runs_at zero g ts o e ends = absurd (ends (sym e))
rule_runs_at (suc n) g ts o e ends = record { depth = n; runs = e; ends = ends }

-- a goal's outcome is its rule's
pub rule_runs : {g : Goal} {ts : List Token} {o : Outcome (Found g)} → Calls g ts o → Runs (rule g) ts o
rule_runs {g} {ts} {o} c = rule_runs_at c.depth g ts o c.runs c.ends

-- what a call found, and what followed
pub record CalledParts {A : Type 0} (g : Goal) (k : Found g → Reader A) (ts : List Token) (b : A) (rest : List Token) : Type 0 where
  pub found : Found g
  pub mid : List Token
  pub first : Calls g ts (got found mid)
  pub second : Runs (k found) mid (got b rest)

called_parts_at : {A : Type 0} (n : ℕ) (g : Goal) (k : Found g → Reader A) (ts : List Token) (b : A) (rest : List Token) (o : Outcome (Found g))
    → reached n g ts ≡ o → after o (λ a mid. run (reached n) (k a) mid) ≡ got b rest → CalledParts g k ts b rest
called_parts_at n g k ts b rest (got a mid) e e' = record {
  found = a;
  mid = mid;
  first = record { depth = n; runs = e; ends = λ x. cc };
  second = record { depth = n; runs = e'; ends = λ x. cc };
}
called_parts_at n g k ts b rest (refused m) e e' = cc
called_parts_at n g k ts b rest stuck e e' = cc

pub called_parts : {A : Type 0} {g : Goal} {k : Found g → Reader A} {ts : List Token} {b : A} {rest : List Token} → Runs (call g k) ts (got b rest) → CalledParts g k ts b rest
called_parts {A} {g} {k} {ts} {b} {rest} r = called_parts_at r.depth g k ts b rest (reached r.depth g ts) refl r.runs

-- where a call refused: in the goal, or behind it
pub record RefusedBehind {A : Type 0} (g : Goal) (k : Found g → Reader A) (ts e : List Token) : Type 0 where
  pub found : Found g
  pub mid : List Token
  pub first : Calls g ts (got found mid)
  pub second : Runs (k found) mid (refused e)

refused_parts_at : {A : Type 0} (n : ℕ) (g : Goal) (k : Found g → Reader A) (ts rest : List Token) (o : Outcome (Found g))
    → reached n g ts ≡ o → after o (λ a mid. run (reached n) (k a) mid) ≡ refused rest → Calls g ts (refused rest) ⊎ RefusedBehind g k ts rest
refused_parts_at n g k ts rest (got a mid) e e' = inr (record {
  found = a;
  mid = mid;
  first = record { depth = n; runs = e; ends = λ x. cc };
  second = record { depth = n; runs = e'; ends = λ x. cc };
})
refused_parts_at {A} n g k ts rest (refused m) e e' =
    let same : m ≡ rest = cc in
    inl (record { depth = n; runs = e ∙ ap refused same; ends = λ x. cc })
refused_parts_at n g k ts rest stuck e e' = cc

pub refused_parts : {A : Type 0} {g : Goal} {k : Found g → Reader A} {ts rest : List Token} → Runs (call g k) ts (refused rest) → Calls g ts (refused rest) ⊎ RefusedBehind g k ts rest
refused_parts {A} {g} {k} {ts} {rest} r = refused_parts_at r.depth g k ts rest (reached r.depth g ts) refl r.runs
