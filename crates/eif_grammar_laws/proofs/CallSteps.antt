-- What a chain of calls is found to begin with, and what then goes on: led back from the whole.
use Rattle.std.proofs.Common.{◌≡◌, ◌≢◌, ℕ, nat_lt, true, false, List, [], ◌∷◌, refl, sym, ap, subst, ◌⊎◌, inl, inr}
use Rattle.std.specs.Str.{str_to_ascii_lowercase}
use Rattle.eif_tree.specs.Tree.{Ex, Exs, current_value, result_value, unqualified}
use Rattle.eif_tree.specs.Height.{height}
use Rattle.eif_grammar.specs.declared.terminal.Terminal.TheVariants as t
use Rattle.eif_grammar.specs.Tokens.{Token}
use Rattle.eif_grammar.specs.Is.{is}
use Rattle.eif_grammar.specs.Spelling.{head}
use Rattle.eif_grammar.specs.Goals.{expression, chain, dots, dotted, precursor_rest, arguments, expression_goal}
use Rattle.eif_grammar.specs.Reader.{done, next, guard}
use Rattle.eif_grammar.specs.ExpressionRules.{qualify, operand_start, operand_by, PrimaryStart, by_name, by_precursor, by_current, by_result, primary_start, primary_by}
use Rattle.eif_grammar.specs.InstructionRules.{from_name}
use Rattle.eif_grammar.specs.Outcomes.{got, Runs, Calls}
use Rattle.eif_grammar_laws.proofs.Readers.{by_rule, called, guarded, rule_runs, called_parts}
use Rattle.eif_grammar_laws.proofs.StepsBack.{done_back, look_back, next_back, guard_back, fork_back, moved, tail_back}
use Rattle.eif_grammar_laws.proofs.Terminals.{is_same, expected}

-- the first part of a chain, and the dots behind it
record ChainParts (room : ℕ) (s : PrimaryStart) (e : Ex) (ts rest : List Token) : Type 0 where
  first : Ex
  mid : List Token
  begins : Runs (primary_by room s) ts (got first mid)
  goes_on : Calls (expression_goal (dots room first)) mid (got e rest)

chain_parts : (room : ℕ) (s : PrimaryStart) (e : Ex) (ts rest : List Token) → primary_start (head ts) ≡ s → Calls (expression_goal (chain room)) ts (got e rest) → ChainParts room s e ts rest
chain_parts room s e ts rest starts c =
    let a = called_parts (rule_runs c) in
    record {
      first = a.found;
      mid = a.mid;
      begins = subst (λ x. Runs (primary_by room x) ts (got a.found a.mid)) starts (look_back (rule_runs a.first));
      goes_on = tail_back a.second;
    }

-- the same dots, by what their target and place equal
from_mid : {room : ℕ} {left left' e : Ex} {ts ts' rest : List Token} → left ≡ left' → ts ≡ ts' → Calls (expression_goal (dots room left)) ts (got e rest)
    → Calls (expression_goal (dots room left')) ts' (got e rest)
from_mid {room} {left} {left'} {e} {ts} {ts'} {rest} it end c = rw (← it, ← end) c

-- ---- a name

-- the name's arguments, and the dots behind it
pub record NameParts (room : ℕ) (e : Ex) (w : Token) (more rest : List Token) : Type 0 where
  pub args : Exs
  pub mid : List Token
  pub behind : Calls (expression_goal (arguments room)) more (got args mid)
  pub goes_on : Calls (expression_goal (dots room (unqualified w.place (str_to_ascii_lowercase w.text) args))) mid (got e rest)

pub name_parts : (room : ℕ) (e : Ex) (w : Token) (more rest : List Token) → w.terminal ≡ t.Identifier → Calls (expression_goal (chain room)) (w ∷ more) (got e rest) → NameParts room e w more rest
name_parts room e w more rest found c =
    let p = chain_parts room by_name e (w ∷ more) rest (ap primary_start found) c in
    let a = called_parts (next_back p.begins) in
    let (it, end) = done_back a.second in
    record { args = a.found; mid = p.mid; behind = moved (refl, end) a.first; goes_on = from_mid (sym it) refl p.goes_on }

-- ---- a `Precursor`

pub record PrecursorParts (room : ℕ) (e : Ex) (w : Token) (more rest : List Token) : Type 0 where
  pub first : Ex
  pub mid : List Token
  pub behind : Calls (expression_goal (precursor_rest room w.place)) more (got first mid)
  pub goes_on : Calls (expression_goal (dots room first)) mid (got e rest)

pub precursor_parts : (room : ℕ) (e : Ex) (w : Token) (more rest : List Token) → w.terminal ≡ t.Precursor → Calls (expression_goal (chain room)) (w ∷ more) (got e rest)
    → PrecursorParts room e w more rest
precursor_parts room e w more rest found c =
    let p = chain_parts room by_precursor e (w ∷ more) rest (ap primary_start found) c in
    record { first = p.first; mid = p.mid; behind = tail_back (next_back p.begins); goes_on = p.goes_on }

-- ---- `Current` and `Result`

-- dots that lead on begin with one
dots_lead : (room : ℕ) (left e : Ex) (ts rest : List Token) → left ≢ e → Calls (expression_goal (dots room left)) ts (got e rest) → Calls (expression_goal (dotted room left)) ts (got e rest)
dots_lead room left e [] rest apart c =
    let r = look_back (rule_runs c) in
    let same : got left [] ≡ got e rest = r.runs in
    absurd (apart cc)
dots_lead room left e (w ∷ ts) rest apart c = by_case (fork_back (is t.Dot w.terminal) (look_back (rule_runs c)))
  where
    by_case : ((is t.Dot w.terminal ≡ true) × Runs (guard (nat_lt (height left) room) (next (λ x. qualify room left))) (w ∷ ts) (got e rest))
        ⊎ ((is t.Dot w.terminal ≡ false) × Runs (done left) (w ∷ ts) (got e rest)) → Calls (expression_goal (dotted room left)) (w ∷ ts) (got e rest)
    by_case (inl (dot, r)) =
        let (lower, behind) = guard_back (nat_lt (height left) room) r in
        by_rule (guarded lower (expected (sym (is_same t.Dot w.terminal dot)) (next_back behind)))
    by_case (inr (other, r)) = absurd (apart (done_back r).0)

pub current_dotted : (room : ℕ) (e : Ex) (w : Token) (more rest : List Token) → w.terminal ≡ t.Current → current_value w.place ≢ e → Calls (expression_goal (chain room)) (w ∷ more) (got e rest)
    → Calls (expression_goal (dotted room (current_value w.place))) more (got e rest)
current_dotted room e w more rest found apart c =
    let p = chain_parts room by_current e (w ∷ more) rest (ap primary_start found) c in
    let (it, end) = done_back (next_back p.begins) in
    dots_lead room (current_value w.place) e more rest apart (from_mid (sym it) (sym end) p.goes_on)

pub result_dotted : (room : ℕ) (e : Ex) (w : Token) (more rest : List Token) → w.terminal ≡ t.Result → result_value w.place ≢ e → Calls (expression_goal (chain room)) (w ∷ more) (got e rest)
    → Calls (expression_goal (dotted room (result_value w.place))) more (got e rest)
result_dotted room e w more rest found apart c =
    let p = chain_parts room by_result e (w ∷ more) rest (ap primary_start found) c in
    let (it, end) = done_back (next_back p.begins) in
    dots_lead room (result_value w.place) e more rest apart (from_mid (sym it) (sym end) p.goes_on)

-- ---- an expression that begins with a name

pub from_name_found : (room : ℕ) (e : Ex) (w : Token) (more rest : List Token) → w.terminal ≡ t.Identifier → Calls (expression_goal (expression room 1)) (w ∷ more) (got e rest)
    → Runs (from_name room w) more (got e rest)
from_name_found room e w more rest found c =
    let a = called_parts (rule_runs c) in
    let o = subst (λ s. Runs (operand_by room s) (w ∷ more) (got a.found a.mid)) (ap operand_start found) (look_back (rule_runs a.first)) in
    let n = name_parts room a.found w more a.mid found (tail_back o) in
    called n.behind (called n.goes_on a.second)
