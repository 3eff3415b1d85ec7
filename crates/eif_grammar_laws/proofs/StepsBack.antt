-- Back from an outcome to the steps of its reader.
use Rattle.std.proofs.Common.{◌≡◌, true, false, Bool, List, ◌∷◌, refl, ◌⊎◌, inl, inr}
use Rattle.eif_grammar.specs.declared.terminal.Terminal.{Terminal}
use Rattle.eif_grammar.specs.Tokens.{Token}
use Rattle.eif_grammar.specs.Spelling.{head}
use Rattle.eif_grammar.specs.Goals.{Goal, Found}
use Rattle.eif_grammar.specs.Reader.{Reader, done, look, next, call, guard, fork}
use Rattle.eif_grammar.specs.Outcomes.{Outcome, got, Runs, Calls}
use Rattle.eif_grammar_laws.proofs.Readers.{called_parts}

pub done_back : {A : Type 0} {a b : A} {ts rest : List Token} → Runs (done a) ts (got b rest) → (a ≡ b) × (ts ≡ rest)
done_back r = let same = r.runs in (cc, cc)

pub look_back : {A : Type 0} {k : Terminal → Reader A} {ts : List Token} {o : Outcome A} → Runs (look k) ts o → Runs (k (head ts)) ts o
look_back r = record { depth = r.depth; runs = r.runs; ends = r.ends }

pub next_back : {A : Type 0} {k : Token → Reader A} {w : Token} {ts : List Token} {o : Outcome A} → Runs (next k) (w ∷ ts) o → Runs (k w) ts o
next_back r = record { depth = r.depth; runs = r.runs; ends = r.ends }

pub guard_back : {A : Type 0} (b : Bool) {r : Reader A} {ts : List Token} {a : A} {rest : List Token} → Runs (guard b r) ts (got a rest) → (b ≡ true) × Runs r ts (got a rest)
guard_back true h = (refl, record { depth = h.depth; runs = h.runs; ends = h.ends })
guard_back false h = let same = h.runs in cc

pub fork_back : {A : Type 0} (b : Bool) {r s : Reader A} {ts : List Token} {o : Outcome A} → Runs (fork b r s) ts o → ((b ≡ true) × Runs r ts o) ⊎ ((b ≡ false) × Runs s ts o)
fork_back true h = inl (refl, record { depth = h.depth; runs = h.runs; ends = h.ends })
fork_back false h = inr (refl, record { depth = h.depth; runs = h.runs; ends = h.ends })

-- an outcome by what it equals
pub moved : {g : Goal} {a b : Found g} {ts mid rest : List Token} → (a ≡ b) × (mid ≡ rest) → Calls g ts (got a mid) → Calls g ts (got b rest)
moved {g} {a} {b} {ts} {mid} {rest} (it, end) c = rw (← it, ← end) c

-- a goal at the end of a rule
pub tail_back : {g : Goal} {b : Found g} {ts rest : List Token} → Runs (call g done) ts (got b rest) → Calls g ts (got b rest)
tail_back r = let a = called_parts r in moved (done_back a.second) a.first
