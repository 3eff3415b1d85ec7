-- How it is seen, part by part, that a rule ends so wherever its goal may end.
use Rattle.std.proofs.Common.{◌≡◌, true, false, Bool, List, ◌⊎◌, inl, inr, refl}
use Rattle.eif_grammar.specs.declared.terminal.Terminal.{Terminal}
use Rattle.eif_grammar.specs.Tokens.{Token}
use Rattle.eif_grammar.specs.Goals.{Goal, Found, token}
use Rattle.eif_grammar.specs.Reader.{Reader, done, refuse, look, next, call, guard, fork, expect}
use Rattle.eif_grammar.specs.Outcomes.{Outcome, Runs}
use Rattle.eif_grammar_laws.proofs.Endings.{stops}
use Rattle.eif_grammar_laws.proofs.Stable.{Takes, Inside, Steady}

pub record Still (G : Goal) {A : Type 0} (r : Reader A) : Type 0 where
  pub steady : Steady G r

pub still_done : {G : Goal} {A : Type 0} {a : A} → Still G (done a)
still_done = record { steady = tt }

pub still_refuse : {G : Goal} {A : Type 0} → Still G {A = A} refuse
still_refuse = record { steady = tt }

pub still_next : {G : Goal} {A : Type 0} {k : Token → Reader A} → ((n : Token) → Still G (k n)) → Still G (next k)
still_next s = record { steady = λ n. (s n).steady }

pub still_guard : {G : Goal} {A : Type 0} {r : Reader A} {test : Bool} → Still G r → Still G (guard test r)
still_guard s = record { steady = s.steady }

pub still_fork : {G : Goal} {A : Type 0} {r s : Reader A} {test : Bool} → Still G r → Still G s → Still G (fork test r s)
still_fork f o = record { steady = (f.steady, o.steady) }

-- a goal behind which the reader may end
pub still_call : {G g : Goal} {A : Type 0} {k : Found g → Reader A} → Inside G g → ((a : Found g) → Still G (k a)) → Still G (call g k)
still_call i s = record { steady = (inl i, λ a. (s a).steady) }

-- a goal behind which the reader takes more
pub still_before : {G g : Goal} {A : Type 0} {k : Found g → Reader A} → ((a : Found g) → Takes (k a)) → ((a : Found g) → Still G (k a)) → Still G (call g k)
still_before p s = record { steady = (inr p, λ a. (s a).steady) }

pub still_token : {G : Goal} {A : Type 0} {x : Terminal} {k : Token → Reader A} → ((n : Token) → Still G (k n)) → Still G (call (token x) k)
still_token s = still_call (λ y st. refl) s

pub still_expect : {G : Goal} {A : Type 0} {x : Terminal} {r : Reader A} → Still G r → Still G (expect x r)
still_expect s = still_call (λ y st. refl) (λ n. s)

-- whatever stands there, some token is taken
pub still_taking : {G : Goal} {A : Type 0} {k : Terminal → Reader A} → ((x : Terminal) → Still G (k x)) → ((x : Terminal) → Takes (k x)) → Still G (look k)
still_taking s p = record { steady = λ x. ((s x).steady, inl (p x)) }

-- what goes on is not at a token where the goal may end
pub still_test : {G : Goal} {A : Type 0} {found other : Reader A} {test : Terminal → Bool} → ((y : Terminal) → stops G y ≡ true → test y ≡ false) → Takes found → Still G found → Still G other
    → Still G (look (λ y. fork (test y) found other))
still_test {G} {A} {found} {other} {test} out takes f o = record { steady = λ x. ((f.steady, o.steady), by_test (test x)) }
  where
    by_test : (c : Bool) → Takes (fork c found other)
        ⊎ ((y : Terminal) → stops G y ≡ true → (ts : List Token) (u : Outcome A) → Runs (fork c found other) ts u → Runs (fork (test y) found other) ts u)
    by_test true = inl (λ e. takes, λ e. cc)
    by_test false = inr (λ y st ts u r. rw (out y st) r)
