-- The steps of a reader, by the tokens that are spelled.
use Rattle.std.proofs.Common.{◌≡◌, ◌≢◌, ℕ, ◌<◌, nat_lt, List, [], ◌∷◌, refl, sym, subst, arith}
use Rattle.std.proofs.lemmas.Bool.Decides.{nat_tests}
use Rattle.std.specs.Str.{str_to_ascii_lowercase}
use Rattle.eif_base.specs.declared.Place.{Place}
use Rattle.eif_grammar.specs.declared.terminal.Terminal.{Terminal}
use Rattle.eif_grammar.specs.declared.terminal.Terminal.TheVariants as t
use Rattle.eif_grammar.specs.Tokens.{Token}
use Rattle.eif_grammar.specs.Spelling.{head, before, the, the_at, name_at}
use Rattle.eif_grammar.specs.Goals.{Goal, Found, token}
use Rattle.eif_grammar.specs.Reader.{Reader, done, next, call, guard, on, expect}
use Rattle.eif_grammar.specs.Outcomes.{Outcome, got, refused, stuck, Runs, Calls}
use Rattle.eif_grammar_laws.proofs.Readers.{called, call_refused, taken, guarded, ended}
use Rattle.eif_grammar_laws.proofs.Terminals.{on_found, on_other, token_found}

-- a goal at the end of a rule
pub tail : {g : Goal} {ts : List Token} (o : Outcome (Found g)) → Calls g ts o → Runs (call g done) ts o
tail (got a rest) c = called c ended
tail (refused e) c = call_refused c
tail stuck c = absurd (c.ends refl)

-- a guard that there is room
pub roomy : {A : Type 0} (a room : ℕ) {r : Reader A} {ts : List Token} {o : Outcome A} → a < room → Runs r ts o → Runs (guard (nat_lt a room) r) ts o
roomy a room lower h = guarded (grind (arith, nat_tests)) h

-- ---- which token is next

pub head_the : (x : Terminal) (ts mid : List Token) → the x ts mid → head ts ≡ x
head_the x [] mid s = absurd s
head_the x (w ∷ ts) mid s = s.0

pub head_at : (x : Terminal) (p : Place) (ts mid : List Token) → the_at x p ts mid → head ts ≡ x
head_at x p [] mid s = absurd s
head_at x p (w ∷ ts) mid s = s.0.0

pub head_name : (p : Place) (n : List ℕ) (ts mid : List Token) → name_at p n ts mid → head ts ≡ t.Identifier
head_name p n [] mid s = absurd s
head_name p n (w ∷ ts) mid s = s.0.0

-- ---- it is taken

pub next_the : {A : Type 0} {k : Token → Reader A} {o : Outcome A} (x : Terminal) (ts mid : List Token) → the x ts mid → ((w : Token) → Runs (k w) mid o) → Runs (next k) ts o
next_the x [] mid s h = absurd s
next_the {k} {o} x (w ∷ ts) mid s h = taken (subst (λ l. Runs (k w) l o) (sym s.1) (h w))

pub next_at : {A : Type 0} {k : Token → Reader A} {o : Outcome A} (x : Terminal) (p : Place) (ts mid : List Token) → the_at x p ts mid
    → ((w : Token) → w.place ≡ p → Runs (k w) mid o) → Runs (next k) ts o
next_at x p [] mid s h = absurd s
next_at {k} {o} x p (w ∷ ts) mid s h = taken (subst (λ l. Runs (k w) l o) (sym s.1) (h w s.0.1))

pub next_name : {A : Type 0} {k : Token → Reader A} {o : Outcome A} (p : Place) (n : List ℕ) (ts mid : List Token) → name_at p n ts mid
    → ((w : Token) → w.place ≡ p → str_to_ascii_lowercase w.text ≡ n → Runs (k w) mid o) → Runs (next k) ts o
next_name p n [] mid s h = absurd s
next_name {k} {o} p n (w ∷ ts) mid s h = taken (subst (λ l. Runs (k w) l o) (sym s.1) (h w s.0.1 s.0.2))

pub call_name : {A : Type 0} {k : Token → Reader A} {o : Outcome A} (p : Place) (n : List ℕ) (ts mid : List Token) → name_at p n ts mid
    → ((w : Token) → w.place ≡ p → str_to_ascii_lowercase w.text ≡ n → Runs (k w) mid o) → Runs (call (token t.Identifier) k) ts o
call_name p n [] mid s h = absurd s
call_name {k} {o} p n (w ∷ ts) mid s h = called (token_found s.0.0) (subst (λ l. Runs (k w) l o) (sym s.1) (h w s.0.1 s.0.2))

pub expect_the : {A : Type 0} {r : Reader A} {o : Outcome A} {x : Terminal} (ts mid : List Token) → the x ts mid → Runs r mid o → Runs (expect x r) ts o
expect_the [] mid s h = absurd s
expect_the {r} {o} (w ∷ ts) mid s h = called (token_found s.0) (subst (λ l. Runs r l o) (sym s.1) h)

-- the word or symbol that a rule goes by
pub on_the : {A : Type 0} {k : Token → Reader A} {r : Reader A} {o : Outcome A} (x : Terminal) (ts mid : List Token) → the x ts mid
    → ((w : Token) → Runs (k w) mid o) → Runs (on x (next k) r) ts o
on_the x ts mid s h = on_found (head_the x ts mid s) (next_the x ts mid s h)

-- it isn't there
pub on_before : {A : Type 0} {r s : Reader A} {o : Outcome A} (x : Terminal) (ts mid : List Token) → before (λ y. y ≢ x) ts mid → Runs s mid o → Runs (on x r s) ts o
on_before {s} {o} x ts mid apart h = on_other apart.0 (subst (λ l. Runs s l o) (sym apart.1) h)
