-- Lists whose parts are read one by one.
use Rattle.std.proofs.Common.{◌≡◌, List, [], ◌∷◌, ◌++◌, refl, ap, sym}
use Rattle.std.proofs.lemmas.List.{append_assoc}
use Rattle.eif_grammar.specs.Tokens.{Token}
use Rattle.eif_grammar.specs.Goals.{Goal, Found, semis, instruction_goal}
use Rattle.eif_grammar.specs.Reader.{Reader, done, call}
use Rattle.eif_grammar.specs.Outcomes.{Outcome, got, refused, stuck, Runs, Calls}
use Rattle.eif_grammar_laws.proofs.Readers.{called, ended}
use Rattle.eif_parse_expr.specs.Subrules.{bind}
use Rattle.eif_parse_expr.proofs.Bind.{bound, bound_refused}

-- the outcome with these in front
abbrev pub behind : {A : Type 0} → List A → Outcome (List A) → Outcome (List A)
behind xs (got ys rest) = got (xs ++ ys) rest
behind xs (refused rest) = refused rest
behind xs stuck = stuck

pub behind-more : {A : Type 0} (xs : List A) (x : A) (u : Outcome (List A)) → behind xs (behind (x ∷ []) u) ≡ behind (xs ++ x ∷ []) u
behind-more xs x (got ys rest) = ap (λ zs. got zs rest) (sym (append_assoc xs (x ∷ []) ys))
behind-more xs x (refused rest) = refl
behind-more xs x stuck = refl

-- a part, and what the reader finds behind it
pub part_first : {A : Type 0} {g : Goal} (f : Found g → A) (more : Reader (List A)) {ts mid : List Token} {x : Found g} (u : Outcome (List A))
    → Calls g ts (got x mid) → Runs more mid u → Runs (call g (λ y. bind more (λ ys. done (f y ∷ ys)))) ts (behind (f x ∷ []) u)
part_first {A} {g} f more {ts} {mid} {x} (got ys rest) c r = called c (bound (λ ys. done (f x ∷ ys)) more mid rest ys (got (f x ∷ ys) rest) r ended)
part_first {A} {g} f more {ts} {mid} {x} (refused rest) c r = called c (bound_refused (λ ys. done (f x ∷ ys)) more mid rest r)
part_first f more stuck c r = absurd (r.ends refl)

-- the same with `;` between
pub part_and_semis_first : {A : Type 0} {g : Goal} (f : Found g → A) (more : Reader (List A)) {ts mid next : List Token} {x : Found g} (u : Outcome (List A))
    → Calls g ts (got x mid) → Calls (instruction_goal semis) mid (got tt next) → Runs more next u
    → Runs (call g (λ y. call (instruction_goal semis) (λ _. bind more (λ ys. done (f y ∷ ys))))) ts (behind (f x ∷ []) u)
part_and_semis_first {A} {g} f more {ts} {mid} {next} {x} (got ys rest) c s r =
    called c (called s (bound (λ ys. done (f x ∷ ys)) more next rest ys (got (f x ∷ ys) rest) r ended))
part_and_semis_first {A} {g} f more {ts} {mid} {next} {x} (refused rest) c s r = called c (called s (bound_refused (λ ys. done (f x ∷ ys)) more next rest r))
part_and_semis_first f more stuck c s r = absurd (r.ends refl)
