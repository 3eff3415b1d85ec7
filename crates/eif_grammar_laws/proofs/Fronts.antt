-- What was taken before a refusal begins what would have been read: for all rules.
use Rattle.std.proofs.Common.{◌≡◌, true, false, ℕ, zero, suc, ◌<◌, Option, Some, None, List, [], ◌∷◌, ◌++◌, length, refl, ap, sym, ◌∙◌, arith, ◌⊎◌, inl, inr, length-append, append_assoc}
use Rattle.eif_grammar.specs.declared.terminal.Terminal.{Terminal}
use Rattle.eif_grammar.specs.Tokens.{Token}
use Rattle.eif_grammar.specs.Spelling.{head}
use Rattle.eif_grammar.specs.Goals.{Goal, Found}
use Rattle.eif_grammar.specs.Reader.{Reader, done, refuse, look, next, call, guard, fork}
use Rattle.eif_grammar.specs.Outcomes.{rule, Outcome, got, refused, stuck, after, run, reached, Runs, Calls}
use Rattle.eif_grammar_laws.proofs.Readers.{Below, looked_at, taken, called, guarded, forked, forked_not, by_rule, same_reading}
use Rattle.eif_grammar_laws.proofs.Endings.{stops, HasRoom}
use Rattle.eif_grammar_laws.proofs.Stable.{Steady, AllTake, stable, reached_suffix, got_suffix}

-- how a completing word begins: with nothing, or with that terminal
abbrev pub first : Option Terminal → Terminal → Terminal
first None y = y
first (Some x) y = x

-- a word that ends the reader of that goal's rule, whatever may stand behind the goal
pub record Ends (G : Goal) (b : Option Terminal) {A : Type 0} (r : Reader A) : Type 0 where
  pub value : A
  pub word : List Token
  pub begins : (rest : List Token) → head (word ++ rest) ≡ first b (head rest)
  pub runs : (rest : List Token) → stops G (head rest) ≡ true → Runs r (word ++ rest) (got value rest)

-- the callee may end before such a word
abbrev pub Soft : Goal → Goal → Option Terminal → Type 0
Soft G g b = (y : Terminal) → stops G y ≡ true → stops g (first b y) ≡ true

-- wherever the reader may refuse, what was taken can be completed
abbrev pub Alive : Goal → {A : Type 0} → Reader A → Type 0
Alive G (done a) = Unit {0}
Alive G refuse = Unit {0}
Alive G (look k) = (x : Terminal) → Alive G (k x)
Alive G (next k) = (n : Token) → (b : Option Terminal) × Ends G b (k n) × Alive G (k n)
Alive G (guard t r) = t ≡ true → Alive G r
Alive G (fork t r s) = (t ≡ true → Alive G r) × (t ≡ false → Alive G s)
Alive G (call g k) = HasRoom g × ((a : Found g) → (b : Option Terminal) × Soft G g b × Ends G b (k a) × Alive G (k a))

-- the tokens before the refusal, and what completes them
record Completed (G : Goal) {A : Type 0} (r : Reader A) (ts e : List Token) : Type 0 where
  front : List Token
  some : 0 < length front
  begins : ts ≡ front ++ e
  value : A
  word : List Token
  runs : (rest : List Token) → stops G (head rest) ≡ true → Runs r (front ++ (word ++ rest)) (got value rest)

pub record Completes (g : Goal) (ts e : List Token) : Type 0 where
  pub front : List Token
  pub some : 0 < length front
  pub begins : ts ≡ front ++ e
  pub value : Found g
  pub word : List Token
  pub calls : (rest : List Token) → stops g (head rest) ≡ true → Calls g (front ++ (word ++ rest)) (got value rest)

head_front : (front a b : List Token) → 0 < length front → head (front ++ a) ≡ head (front ++ b)
head_front [] a b some = absurd (omega arith)
head_front (n ∷ front) a b some = refl

retold : (A B : Type 0) (m e : List Token) → ◌≡◌ {A = Outcome A} (refused m) (refused e) → ◌≡◌ {A = Outcome B} (refused m) (refused e)
retold A B m e q = let same : m ≡ e = cc in ap refused same

module _ (G : Goal) where
  after_look : {A : Type 0} (k : Terminal → Reader A) (ts e : List Token) → (e ≡ ts) ⊎ Completed G (k (head ts)) ts e → (e ≡ ts) ⊎ Completed G (look k) ts e
  after_look k ts e (inl same) = inl same
  after_look k ts e (inr c) = inr (record {
    front = c.front;
    some = c.some;
    begins = c.begins;
    value = c.value;
    word = c.word;
    runs = λ rest st. looked_at (head_front c.front (c.word ++ rest) e c.some ∙ ap head (sym c.begins)) (c.runs rest st);
  })

  after_next : {A : Type 0} (k : Token → Reader A) (n : Token) (ts e : List Token) (b : Option Terminal) → Ends G b (k n) → (e ≡ ts) ⊎ Completed G (k n) ts e
      → (e ≡ n ∷ ts) ⊎ Completed G (next k) (n ∷ ts) e
  after_next k n ts e b s (inl same) = inr (record {
    front = n ∷ [];
    some = omega arith;
    begins = ap (λ l. n ∷ l) (sym same);
    value = s.value;
    word = s.word;
    runs = λ rest st. taken (s.runs rest st);
  })
  after_next k n ts e b s (inr c) = inr (record {
    front = n ∷ c.front;
    some = omega arith;
    begins = ap (λ l. n ∷ l) c.begins;
    value = c.value;
    word = c.word;
    runs = λ rest st. taken (c.runs rest st);
  })

  alike : {A : Type 0} (r r' : Reader A) (ts e : List Token) → ((us : List Token) (o : Outcome A) → Runs r us o → Runs r' us o) → (e ≡ ts) ⊎ Completed G r ts e
      → (e ≡ ts) ⊎ Completed G r' ts e
  alike r r' ts e f (inl same) = inl same
  alike r r' ts e f (inr c) = inr (record { front = c.front; some = c.some; begins = c.begins; value = c.value; word = c.word; runs = λ rest st. f _ _ (c.runs rest st) })

  -- where a caller goes on, the callee may end
  soft_here : (g : Goal) (b : Option Terminal) {A : Type 0} (r : Reader A) → Soft G g b → (f : Ends G b r) → (rest : List Token) → stops G (head rest) ≡ true
      → stops g (head (f.word ++ rest)) ≡ true
  soft_here g b r s f rest st = ap (stops g) (f.begins rest) ∙ s (head rest) st

  in_callee : {A : Type 0} (g : Goal) (k : Found g → Reader A) (ts e : List Token) → ((a : Found g) → (b : Option Terminal) × Soft G g b × Ends G b (k a) × Alive G (k a))
      → (e ≡ ts) ⊎ Completes g ts e → (e ≡ ts) ⊎ Completed G (call g k) ts e
  in_callee g k ts e s (inl same) = inl same
  in_callee g k ts e s (inr c) =
      let b : Option Terminal = (s c.value).0 in
      let f : Ends G b (k c.value) = (s c.value).2 in
      inr (record {
        front = c.front;
        some = c.some;
        begins = c.begins;
        value = f.value;
        word = c.word ++ f.word;
        runs = λ rest st. rw (append_assoc c.word f.word rest) (called (c.calls (f.word ++ rest) (soft_here g b (k c.value) (s c.value).1 f rest st)) (f.runs rest st));
      })

module _ (all_steady : (g : Goal) → Steady g (rule g)) (all_take : AllTake) (all_alive : (g : Goal) → HasRoom g → Alive g (rule g)) where
  abbrev Fronts : Below → Type 0
  Fronts f = (g : Goal) (ts e : List Token) → HasRoom g → f g ts ≡ refused e → (e ≡ ts) ⊎ Completes g ts e

  -- the callee took some tokens, and its caller refuses behind them
  behind_callee : {A : Type 0} (G g : Goal) (k : Found g → Reader A) (a : Found g) (ts front mid e : List Token) (b : Option Terminal) → Calls g ts (got a mid) → ts ≡ front ++ mid
      → Soft G g b → Ends G b (k a) → (e ≡ mid) ⊎ Completed G (k a) mid e → (e ≡ ts) ⊎ Completed G (call g k) ts e
  behind_callee G g k a ts [] mid e b c eq s f (inl same) = inl (same ∙ sym eq)
  behind_callee G g k a ts (n ∷ front) mid e b c eq s f (inl same) = inr (record {
    front = n ∷ front;
    some = omega arith;
    begins = eq ∙ ap (λ l. n ∷ front ++ l) (sym same);
    value = f.value;
    word = f.word;
    runs = λ rest st. called (stable all_steady all_take (n ∷ front) mid (f.word ++ rest) a (rw eq at c) (soft_here G g b (k a) s f rest st)) (f.runs rest st);
  })
  behind_callee G g k a ts front mid e b c eq s f (inr d) = go d.front d.some d.begins d.runs
    where
      go : (more : List Token) → 0 < length more → mid ≡ more ++ e
          → ((rest : List Token) → stops G (head rest) ≡ true → Runs (k a) (more ++ (d.word ++ rest)) (got d.value rest)) → (e ≡ ts) ⊎ Completed G (call g k) ts e
      go [] some begins runs = absurd (omega arith)
      go (x ∷ more) some begins runs =
          let there : Calls g (front ++ x ∷ (more ++ e)) (got a (x ∷ (more ++ e))) = rw begins at (rw eq at c) in
          inr (record {
            front = front ++ x ∷ more;
            some = omega (arith, length-append front (x ∷ more));
            begins = eq ∙ ap (λ l. front ++ l) begins ∙ sym (append_assoc front (x ∷ more) e);
            value = d.value;
            word = d.word;
            runs = λ rest st. rw (append_assoc front (x ∷ more) (d.word ++ rest)) (called (same_reading x (more ++ e) (more ++ (d.word ++ rest)) a front there) (runs rest st));
          })

  call_fronts : (n : ℕ) → Fronts (reached n) → {A : Type 0} (G g : Goal) (k : Found g → Reader A) → Alive G (call g k) → (ts e : List Token)
      → ((x : Found g) (m : List Token) → run (reached n) (k x) m ≡ refused e → (e ≡ m) ⊎ Completed G (k x) m e)
      → (o : Outcome (Found g)) → reached n g ts ≡ o → after o (λ x m. run (reached n) (k x) m) ≡ refused e → (e ≡ ts) ⊎ Completed G (call g k) ts e
  call_fronts n h G g k s ts e deeper (got x mid) eo eq =
      let one = got_suffix ts mid x (reached n g ts) eo (reached_suffix n g ts) in
      behind_callee G g k x ts one.0 mid e (s.1 x).0 (record { depth = n; runs = eo; ends = λ z. cc }) one.1 (s.1 x).1 (s.1 x).2 (deeper x mid eq)
  call_fronts n h {A} G g k s ts e deeper (refused m) eo eq = in_callee G g k ts e s.1 (h g ts e s.0 (eo ∙ retold A (Found g) m e eq))
  call_fronts n h G g k s ts e deeper stuck eo eq = cc

  front_run : (n : ℕ) → Fronts (reached n) → {A : Type 0} (G : Goal) (r : Reader A) → Alive G r → (ts e : List Token) → run (reached n) r ts ≡ refused e
      → (e ≡ ts) ⊎ Completed G r ts e
  front_run n h G (done a) s ts e q = cc
  front_run n h G refuse s ts e q = inl (cc)
  front_run n h G (look k) s ts e q = after_look G k ts e (front_run n h G (k (head ts)) (s (head ts)) ts e q)
  front_run n h G (next k) s [] e q = inl (cc)
  front_run n h G (next k) s (x ∷ ts) e q = after_next G k x ts e (s x).0 (s x).1 (front_run n h G (k x) (s x).2 ts e q)
  front_run n h G (guard true r) s ts e q = alike G r (guard true r) ts e (λ us o. guarded refl) (front_run n h G r (s refl) ts e q)
  front_run n h G (guard false r) s ts e q = inl (cc)
  front_run n h G (fork true r r') s ts e q = alike G r (fork true r r') ts e (λ us o. forked refl) (front_run n h G r (s.0 refl) ts e q)
  front_run n h G (fork false r r') s ts e q = alike G r' (fork false r r') ts e (λ us o. forked_not refl) (front_run n h G r' (s.1 refl) ts e q)
  front_run n h G (call g k) s ts e q =
      call_fronts n h G g k s ts e (λ x m e'. front_run n h G (k x) (s.1 x).3 m e e') (reached n g ts) refl q

  reached_fronts : (n : ℕ) → Fronts (reached n)
  unfolding reached
  reached_fronts zero g ts e ok q = cc
  reached_fronts (suc n) g ts e ok q = to_goal (front_run n (reached_fronts n) g (rule g) (all_alive g ok) ts e q)
    where
      to_goal : (e ≡ ts) ⊎ Completed g (rule g) ts e → (e ≡ ts) ⊎ Completes g ts e
      to_goal (inl same) = inl same
      to_goal (inr c) = inr (record { front = c.front; some = c.some; begins = c.begins; value = c.value; word = c.word; calls = λ rest st. by_rule (c.runs rest st) })

  -- a goal that is refused has taken nothing, or what it has taken can be completed
  pub fronts : (g : Goal) (ts e : List Token) → HasRoom g → Calls g ts (refused e) → (e ≡ ts) ⊎ Completes g ts e
  fronts g ts e ok c = reached_fronts c.depth g ts e ok c.runs
