-- Steps of readers, by what the tokens spell.
use Rattle.std.proofs.Common.{◌≡◌, ℕ, ◌≤◌, List, [], ◌∷◌, refl, sym, subst}
use Rattle.eif_tree.specs.declared.NameAt.{NameAt}
use Rattle.eif_tree.specs.Tree.{TypeT, Exs, Inss}
use Rattle.eif_tree.specs.Height.{type_height, heights, compound_height}
use Rattle.eif_grammar.specs.declared.terminal.Terminal.{Terminal}
use Rattle.eif_grammar.specs.declared.terminal.Terminal.TheVariants as t
use Rattle.eif_grammar.specs.Tokens.{Token}
use Rattle.eif_grammar.specs.Spelling
use Rattle.eif_grammar.specs.Spelling.{head, nothing, one, the_name, semicolons}
use Rattle.eif_grammar.specs.SpelledTypes.{spells_type, spells_class_type}
use Rattle.eif_grammar.specs.SpelledInstructions.{spells_assertions, assertions_behind, spells_compound}
use Rattle.eif_grammar.specs.Goals
use Rattle.eif_grammar.specs.Goals.{Goal, Found, type_goal, instruction_goal, token}
use Rattle.eif_grammar.specs.Reader.{Reader, done, next, call, name_of}
use Rattle.eif_grammar.specs.Outcomes.{Outcome, got, Runs, Calls}
use Rattle.eif_grammar_laws.proofs.Readers.{called, taken, ended}
use Rattle.eif_grammar_laws.proofs.Terminals.{token_found, one_is}
use Rattle.eif_grammar_laws.proofs.Taken.{head_name}

-- what is spelled of the other kinds is found
pub record PartsFound : Type 0 where
  pub type_found : (ty : TypeT) (room : ℕ) (ts rest : List Token) → spells_type ty ts rest → type_height ty ≤ room → Calls (type_goal (Goals.written room)) ts (got ty rest)
  pub class_type_found : (ty : TypeT) (room : ℕ) (ts rest : List Token) → spells_class_type ty ts rest → type_height ty ≤ room
      → Calls (type_goal (Goals.unmarked room)) ts (got ty rest)
  pub assertions_found : (es : Exs) (room : ℕ) (ts rest : List Token) → spells_assertions es ts rest → heights es ≤ room
      → Calls (instruction_goal (Goals.assertions room)) ts (got es rest)
  pub invariants_found : (es : Exs) (room : ℕ) (ts rest : List Token) → assertions_behind t.Invariant nothing es ts rest → heights es ≤ room
      → Calls (instruction_goal (Goals.invariants room)) ts (got es rest)
  pub compound_found : (is : Inss) (room : ℕ) (ts rest : List Token) → spells_compound is ts rest → compound_height is ≤ room
      → Calls (instruction_goal (Goals.compound room)) ts (got is rest)
  pub semis_found : (ts rest : List Token) → semicolons ts rest → Calls (instruction_goal Goals.semis) ts (got tt rest)

-- ---- how a spelling begins

pub names_head : (ns : List NameAt) (ts rest : List Token) → Spelling.names ns ts rest → head ts ≡ t.Identifier
names_head [] ts rest s = absurd s
names_head (n ∷ ns) ts rest (mid, name, s) = head_name n.place n.name ts mid name

-- ---- ends of rules

pub last : {g : Goal} {a : Found g} {ts rest : List Token} → Calls g ts (got a rest) → Runs (call g done) ts (got a rest)
last c = called c ended

pub ended_as : {A : Type 0} {a b : A} {ts : List Token} → a ≡ b → Runs (done a) ts (got b ts)
ended_as {A} {a} {b} {ts} e = subst (λ x. Runs (done a) ts (got x ts)) e ended

pub ended_at : {A : Type 0} {a : A} {ts rest : List Token} → ts ≡ rest → Runs (done a) ts (got a rest)
ended_at {A} {a} {ts} {rest} e = subst (λ x. Runs (done a) ts (got a x)) e ended

pub ended_both : {A : Type 0} {a b : A} {ts rest : List Token} → a ≡ b → ts ≡ rest → Runs (done a) ts (got b rest)
ended_both {A} {a} {b} {ts} {rest} e e' = subst (λ x. Runs (done a) ts (got x rest)) e (ended_at e')

-- ---- single tokens

pub takes : {A : Type 0} (P : Token → Type 0) {k : Token → Reader A} (ts mid : List Token) {o : Outcome A} → one P ts mid
    → ((n : Token) → P n → Runs (k n) mid o) → Runs (next k) ts o
takes P {k} ts mid {o} s h = let n = one_is P ts mid s in subst (λ x. Runs (next k) x o) (sym n.1) (taken (h n.0 n.2))

pub calls_one : {A : Type 0} (x : Terminal) (P : Token → Type 0) {k : Token → Reader A} (ts mid : List Token) {o : Outcome A} → ((n : Token) → P n → n.terminal ≡ x)
    → one P ts mid → ((n : Token) → P n → Runs (k n) mid o) → Runs (call (token x) k) ts o
calls_one x P {k} ts mid {o} is s h =
    let n = one_is P ts mid s in
    subst (λ l. Runs (call (token x) k) l o) (sym n.1) (called (token_found (is n.0 n.2)) (h n.0 n.2))

pub named : {A : Type 0} (n : NameAt) {k : Token → Reader A} (ts mid : List Token) {o : Outcome A} → the_name n ts mid
    → ((word : Token) → name_of word ≡ n → Runs (k word) mid o) → Runs (call (token t.Identifier) k) ts o
named n ts mid s h = calls_one t.Identifier _ ts mid (λ word p. p.0) s (λ word p. h word (rw (p.1, p.2) refl))
