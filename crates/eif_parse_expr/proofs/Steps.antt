-- Steps of functions that read tokens, by the tokens' numbers.
use Rattle.std.proofs.Common.{◌≡◌, ◌≢◌, ℕ, zero, suc, ◌+◌, ◌≤◌, ◌<◌, nat_lt, Result, Ok, Err, IsErrAnd, List, [], ◌∷◌, drop, length, refl, sym, subst, arith}
use Rattle.std.proofs.lemmas.Result.{err_from_is_err_and}
use Rattle.std.proofs.lemmas.Bool.Decides.{nat_tests}
use Rattle.eif_grammar.specs.declared.terminal.Terminal.{Terminal}
use Rattle.eif_grammar.specs.declared.terminal.Terminal.TheVariants as t
use Rattle.eif_grammar.specs.Tokens.{Token}
use Rattle.eif_grammar.specs.Spelling.{head}
use Rattle.eif_grammar.specs.Goals.{token}
use Rattle.eif_grammar.specs.Reader.{Reader, next, call, guard, on, expect}
use Rattle.eif_grammar.specs.Outcomes.{Outcome, got, refused, Runs, Calls}
use Rattle.eif_grammar_laws.proofs.Readers.{called, call_refused, taken, guard_refused}
use Rattle.eif_grammar_laws.proofs.Terminals.{token_found, token_refused, on_found}
use Rattle.eif_parse_expr.specs.declared.parsed.PartError.{PartError}
use Rattle.eif_parse_expr.specs.declared.parsed.PartError.TheVariants.{At, Memory}
use Rattle.eif_parse_expr.specs.declared.parsed.Parsed.{Parsed}
use Rattle.eif_parse_expr.specs.Readings.{first, Taken, Takes, Reads}
use Rattle.eif_parse_expr.specs.Subrules.{Names}

-- ---- what is passed on

-- a function's last call
pub carry : {X A : Type 0} (P : Outcome A → Type 0) (Q : Outcome A → Type 0) (view : X → A) (ts : List Token) (a a' : ℕ) (r : Result (Parsed X) PartError)
    → a' ≤ a → ((o : Outcome A) → P o → Q o) → Reads P view ts a r → Reads Q view ts a' r
carry P Q view ts a a' (Ok x) le f l = record { outcome = f _ l.outcome; forward = omega arith; within = l.within }
carry P Q view ts a a' (Err (At p)) le f l = record { outcome = f _ l.outcome; forward = omega arith; within = l.within }
carry P Q view ts a a' (Err Memory) le f l = tt

same_error : {X X' A B : Type 0} (P : Outcome A → Type 0) (Q : Outcome B → Type 0) (view : X → A) (view' : X' → B) (ts : List Token) (a a' : ℕ) (e : PartError)
    → a' ≤ a → ((rest : List Token) → P (refused rest) → Q (refused rest)) → Reads P view ts a (Err e) → Reads Q view' ts a' (Err e)
same_error P Q view view' ts a a' (At p) le f l = record { outcome = f _ l.outcome; forward = omega arith; within = l.within }
same_error P Q view view' ts a a' Memory le f l = tt

-- the error of a call at its `?`
pub relay : {X X' A B : Type 0} (P : Outcome A → Type 0) (Q : Outcome B → Type 0) (view : X → A) (view' : X' → B) (ts : List Token) (a a' : ℕ)
    (r : Result (Parsed X') PartError) (e : PartError) → IsErrAnd r (λ y. y ≡ e) → Reads P view ts a (Err e)
    → a' ≤ a → ((rest : List Token) → P (refused rest) → Q (refused rest)) → Reads Q view' ts a' r
relay P Q view view' ts a a' r e is l le f =
    let p = err_from_is_err_and r is in rw (p.1, p.2) (same_error P Q view view' ts a a' e le f l)

other_token : {B X' : Type 0} (Q : Outcome B → Type 0) (view' : X' → B) (x : Terminal) (ts : List Token) (at a' : ℕ) (e : PartError)
    → a' ≤ at → at ≤ length ts → (head (drop at ts) ≢ x → Q (refused (drop at ts))) → Takes x ts at (Err e) → Reads Q view' ts a' (Err e)
other_token Q view' x ts at a' (At p) le within f (is, other) = rw is (record { outcome = f other; forward = le; within = within })
other_token Q view' x ts at a' Memory le within f l = absurd l

-- the error of `expect` at its `?`
pub relay_token : {B X' : Type 0} (Q : Outcome B → Type 0) (view' : X' → B) (x : Terminal) (ts : List Token) (at a' : ℕ)
    (r : Result (Parsed X') PartError) (e : PartError) → IsErrAnd r (λ y. y ≡ e) → Takes x ts at (Err e)
    → a' ≤ at → at ≤ length ts → (head (drop at ts) ≢ x → Q (refused (drop at ts))) → Reads Q view' ts a' r
relay_token Q view' x ts at a' r e is l le within f =
    let p = err_from_is_err_and r is in rw (p.1, p.2) (other_token Q view' x ts at a' e le within f l)

no_name : {B X' : Type 0} (Q : Outcome B → Type 0) (view' : X' → B) (ts : List Token) (at a' : ℕ) (e : PartError)
    → a' ≤ at → at ≤ length ts → (head (drop at ts) ≢ t.Identifier → Q (refused (drop at ts))) → Names ts at (Err e) → Reads Q view' ts a' (Err e)
no_name Q view' ts at a' (At p) le within f (is, other) = rw is (record { outcome = f other; forward = le; within = within })
no_name Q view' ts at a' Memory le within f l = tt

-- the error of `name_behind` at its `?`
pub relay_name : {B X' : Type 0} (Q : Outcome B → Type 0) (view' : X' → B) (ts : List Token) (at a' : ℕ)
    (r : Result (Parsed X') PartError) (e : PartError) → IsErrAnd r (λ y. y ≡ e) → Names ts at (Err e)
    → a' ≤ at → at ≤ length ts → (head (drop at ts) ≢ t.Identifier → Q (refused (drop at ts))) → Reads Q view' ts a' r
relay_name Q view' ts at a' r e is l le within f =
    let p = err_from_is_err_and r is in rw (p.1, p.2) (no_name Q view' ts at a' e le within f l)

-- ---- one token

cut : (ts : List Token) (at : ℕ) → at < length ts → drop at ts ≡ first (drop at ts) ∷ drop (at + 1) ts
cut [] at lt = absurd (omega arith)
cut (w ∷ ts) zero lt = refl
cut (w ∷ ts) (suc at) lt =
    let turn : suc at + 1 ≡ suc (at + 1) = omega arith in
    rw turn (cut ts at (omega arith))

pub cut_taken : (x : Terminal) (ts : List Token) (at after : ℕ) → Taken x ts at after → drop at ts ≡ first (drop at ts) ∷ drop after ts
cut_taken x ts at after s = rw s.behind (cut ts at (omega (arith, s.behind, s.within)))

first_is : (x : Terminal) (ts more : List Token) → head ts ≡ x → ts ≡ first ts ∷ more → (first ts).terminal ≡ x
first_is x [] more e whole = cc
first_is x (w ∷ ts) more e whole = e

-- it is taken
pub next_here : {A : Type 0} {k : Token → Reader A} {o : Outcome A} {x : Terminal} {ts : List Token} {at after : ℕ} → Taken x ts at after
    → Runs (k (first (drop at ts))) (drop after ts) o → Runs (next k) (drop at ts) o
next_here {A} {k} {o} {x} {ts} {at} {after} s r = subst (λ l. Runs (next k) l o) (sym (cut_taken x ts at after s)) (taken r)

-- it is found
pub token_here : {x : Terminal} {ts : List Token} {at after : ℕ} → Taken x ts at after → Calls (token x) (drop at ts) (got (first (drop at ts)) (drop after ts))
token_here {x} {ts} {at} {after} s =
    let whole = cut_taken x ts at after s in
    subst (λ l. Calls (token x) l (got (first (drop at ts)) (drop after ts))) (sym whole) (token_found (first_is x (drop at ts) (drop after ts) s.is whole))

-- what a rule expects
pub expect_here : {A : Type 0} {r : Reader A} {o : Outcome A} {x : Terminal} {ts : List Token} {at after : ℕ} → Taken x ts at after
    → Runs r (drop after ts) o → Runs (expect x r) (drop at ts) o
expect_here s r = called (token_here s) r

-- what a rule goes by
pub on_here : {A : Type 0} {k : Token → Reader A} {r : Reader A} {o : Outcome A} {x : Terminal} {ts : List Token} {at after : ℕ} → Taken x ts at after
    → Runs (k (first (drop at ts))) (drop after ts) o → Runs (on x (next k) r) (drop at ts) o
on_here s r = on_found s.is (next_here s r)

-- another is refused
pub other_here : {A : Type 0} {x : Terminal} {k : Token → Reader A} {ts : List Token} → head ts ≢ x → Runs (call (token x) k) ts (refused ts)
other_here other = call_refused (token_refused other)

-- there is no room
pub no_room : {A : Type 0} (a room : ℕ) {r : Reader A} {ts : List Token} → room ≤ a → Runs (guard (nat_lt a room) r) ts (refused ts)
no_room a room high = guard_refused (grind (arith, nat_tests))
