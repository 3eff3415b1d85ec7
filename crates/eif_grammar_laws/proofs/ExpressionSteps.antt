-- One step of each form of an expression, by what its parts find.
use Rattle.std.proofs.Common.{◌≡◌, ◌≢◌, ℕ, ◌-◌, ◌≤◌, ◌<◌, true, false, Option, Some, None, List, [], ◌∷◌, refl, ap, sym, subst, arith}
use Rattle.std.proofs.lemmas.Bool.Decides.{nat_tests}
use Rattle.eif_base.specs.declared.Place.{Place}
use Rattle.eif_tree.specs.declared.NameAt.{NameAt}
use Rattle.eif_tree.specs.declared.Op.{Op}
use Rattle.eif_tree.specs.declared.Op.TheVariants as op
use Rattle.eif_tree.specs.declared.Literal.{Literal}
use Rattle.eif_tree.specs.declared.Literal.TheVariants as lit
use Rattle.eif_tree.specs.Tree.{TypeT, Ex, literal, test, binary}
use Rattle.eif_tree.specs.Height.{height}
use Rattle.eif_tree.specs.ExpressionPlaces.{place_of}
use Rattle.eif_grammar.specs.declared.terminal.Terminal.TheVariants as t
use Rattle.eif_grammar.specs.Tokens.{Token}
use Rattle.eif_grammar.specs.Forms.{level, right_level, operator, binds}
use Rattle.eif_grammar.specs.Spelling.{head}
use Rattle.eif_grammar.specs.SpelledExpressions.{spells_literal_at, spells_operator, spells_test_local}
use Rattle.eif_grammar.specs.Goals.{expression, climbing, operand, test_local, chain, dots, primary, expression_goal}
use Rattle.eif_grammar.specs.ExpressionRules.{second_token, right_of, behind_operator, climb, OperandStart, chained, operand_start, tested, operand_by, PrimaryStart, by_integer, by_character, by_string, by_true, by_false, primary_start, primary_by}
use Rattle.eif_grammar.specs.Outcomes.{Outcome, got, Runs, Calls}
use Rattle.eif_grammar_laws.proofs.Readers.{by_rule, looked, called, forked, forked_not, taken, ended}
use Rattle.eif_grammar_laws.proofs.Terminals.{on_other}
use Rattle.eif_grammar_laws.proofs.Levels.{binds_operator}
use Rattle.eif_grammar_laws.proofs.Taken.{tail, roomy, head_at, next_at, call_name, on_the, on_before}

-- ---- where an expression ends

pub climb_stop : (room k : ℕ) (e : Ex) (ts : List Token) → binds (head ts) < k → Calls (expression_goal (climbing room k e)) ts (got e ts)
climb_stop room k e ts low = by_rule (looked (go (operator (head ts)) refl))
  where
    go : (x : Option Op) → operator (head ts) ≡ x → Runs (climb room k e x) ts (got e ts)
    go None found = ended
    go (Some o) found = forked_not (grind (arith, nat_tests, binds_operator (head ts) o found)) ended

pub dots_stop : (room : ℕ) (e : Ex) (ts : List Token) → head ts ≢ t.Dot → Calls (expression_goal (dots room e)) ts (got e ts)
dots_stop room e ts apart = by_rule (on_other apart ended)

-- ---- operators

-- how an operator is read: its first token, and what may stand behind it
pub record Sign (o : Op) (p : Place) (ts mid : List Token) : Type 0 where
  pub first : Op
  pub token : Token
  pub more : List Token
  pub begins : ts ≡ token ∷ more
  pub here : token.place ≡ p
  pub is : operator token.terminal ≡ Some first
  pub same : level first ≡ level o
  pub goes_on : (room least : ℕ) (left : Ex) (u : Outcome Ex) → Runs (right_of room least left p o) mid u → Runs (behind_operator room least left p first (second_token first)) more u

pub sign_of : (o : Op) (p : Place) (ts mid : List Token) → spells_operator o p ts mid → Sign o p ts mid
sign_of op.AndThen p [] mid (m, s, more) = absurd s
sign_of op.AndThen p (w ∷ ts) mid (m, ((found, here), eq), second) = record {
  first = op.And;
  token = w;
  more = ts;
  begins = refl;
  here = here;
  is = ap operator found;
  same = refl;
  goes_on = λ room least left u r. rw eq (on_the t.Then m mid second (λ x. r));
}
sign_of op.And p [] mid (m, s, more) = absurd s
sign_of op.And p (w ∷ ts) mid (m, ((found, here), eq), apart) = record {
  first = op.And;
  token = w;
  more = ts;
  begins = refl;
  here = here;
  is = ap operator found;
  same = refl;
  goes_on = λ room least left u r. rw eq (on_before t.Then m mid apart r);
}
sign_of op.OrElse p [] mid (m, s, more) = absurd s
sign_of op.OrElse p (w ∷ ts) mid (m, ((found, here), eq), second) = record {
  first = op.Or;
  token = w;
  more = ts;
  begins = refl;
  here = here;
  is = ap operator found;
  same = refl;
  goes_on = λ room least left u r. rw eq (on_the t.Else m mid second (λ x. r));
}
sign_of op.Or p [] mid (m, s, more) = absurd s
sign_of op.Or p (w ∷ ts) mid (m, ((found, here), eq), apart) = record {
  first = op.Or;
  token = w;
  more = ts;
  begins = refl;
  here = here;
  is = ap operator found;
  same = refl;
  goes_on = λ room least left u r. rw eq (on_before t.Else m mid apart r);
}
sign_of _ p [] mid s = absurd s
sign_of o p (w ∷ ts) mid s = record {
  first = o;
  token = w;
  more = ts;
  begins = refl;
  here = s.0.1;
  is = s.0.0;
  same = refl;
  goes_on = λ room least left u r. rw s.1 r;
}

pub climb_step : (room k : ℕ) (l r : Ex) (o : Op) (p : Place) (ts m mid : List Token) (u : Outcome Ex) → Sign o p ts m → k ≤ level o → height l < room
    → Calls (expression_goal (expression (room - 1) (right_level o))) m (got r mid) → Calls (expression_goal (climbing room k (binary (place_of l) o p l r))) mid u
    → Calls (expression_goal (climbing room k l)) ts u
climb_step room k l r o p ts m mid u s above lower cr cu =
    let level_is = s.same in
    let behind : Runs (behind_operator room k l s.token.place s.first (second_token s.first)) s.more u = rw s.here (s.goes_on room k l u (called cr (tail u cu))) in
    rw s.begins (by_rule (looked (subst (λ x. Runs (climb room k l x) (s.token ∷ s.more) u) (sym s.is) (forked (grind (arith, nat_tests)) (roomy (height l) room lower (taken behind))))))

-- ---- operands

pub operand_at : (room : ℕ) (ts : List Token) (u : Outcome Ex) (s : OperandStart) → operand_start (head ts) ≡ s → Runs (operand_by room s) ts u → Calls (expression_goal (operand room)) ts u
operand_at room ts u s e h = by_rule (looked (subst (λ x. Runs (operand_by room x) ts u) (sym e) h))

pub chained_step : (room : ℕ) (e : Ex) (ts mid : List Token) → operand_start (head ts) ≡ chained → Calls (expression_goal (chain room)) ts (got e mid)
    → Calls (expression_goal (operand room)) ts (got e mid)
chained_step room e ts mid starts c = operand_at room ts (got e mid) chained starts (called c ended)

pub test_local_found : (l : Option NameAt) (ts rest : List Token) → spells_test_local l ts rest → Calls (expression_goal test_local) ts (got l rest)
test_local_found None ts rest s = by_rule (on_before t.As ts rest s ended)
test_local_found (Some n) ts rest (mid, word, name) =
    by_rule (on_the t.As ts mid word (λ x. call_name n.place n.name mid rest name (λ w here text. rw (here, text) ended)))

-- behind `attached` and the type
pub tested_step : (room : ℕ) (p : Place) (ty : Option TypeT) (l : Option NameAt) (e : Ex) (ts mid rest : List Token) → Calls (expression_goal (chain (room - 1))) ts (got e mid)
    → spells_test_local l mid rest → Runs (tested room p ty) ts (got (test p ty l e) rest)
tested_step room p ty l e ts mid rest c s = called c (called (test_local_found l mid rest s) ended)

-- ---- primaries

pub primary_at : (room : ℕ) (ts : List Token) (u : Outcome Ex) (s : PrimaryStart) → primary_start (head ts) ≡ s → Runs (primary_by room s) ts u → Calls (expression_goal (primary room)) ts u
primary_at room ts u s e h = by_rule (looked (subst (λ x. Runs (primary_by room x) ts u) (sym e) h))

pub literal_starts : (p : Place) (x : Literal) (ts mid : List Token) → spells_literal_at p x ts mid → operand_start (head ts) ≡ chained
literal_starts p (lit.Int z) [] mid s = absurd s
literal_starts p (lit.Int z) (w ∷ ts) mid s = ap operand_start s.0.0
literal_starts p (lit.Char b) [] mid s = absurd s
literal_starts p (lit.Char b) (w ∷ ts) mid s = ap operand_start s.0.0
literal_starts p (lit.Text bytes) [] mid s = absurd s
literal_starts p (lit.Text bytes) (w ∷ ts) mid s = ap operand_start s.0.0
literal_starts p (lit.Bool true) ts mid s = ap operand_start (head_at t.True p ts mid s)
literal_starts p (lit.Bool false) ts mid s = ap operand_start (head_at t.False p ts mid s)

pub literal_found : (p : Place) (x : Literal) (room : ℕ) (ts mid : List Token) → spells_literal_at p x ts mid → Calls (expression_goal (primary room)) ts (got (literal p x) mid)
literal_found p (lit.Int z) room [] mid s = absurd s
literal_found p (lit.Int z) room (w ∷ ts) mid ((found, here, value), eq) =
    rw (← here, ← value, ← eq) (primary_at room (w ∷ ts) _ by_integer (ap primary_start found) (taken ended))
literal_found p (lit.Char b) room [] mid s = absurd s
literal_found p (lit.Char b) room (w ∷ ts) mid ((found, here, value), eq) =
    rw (← here, ← value, ← eq) (primary_at room (w ∷ ts) _ by_character (ap primary_start found) (taken ended))
literal_found p (lit.Text bytes) room [] mid s = absurd s
literal_found p (lit.Text bytes) room (w ∷ ts) mid ((found, here, value), eq) =
    rw (← here, ← value, ← eq) (primary_at room (w ∷ ts) _ by_string (ap primary_start found) (taken ended))
literal_found p (lit.Bool true) room ts mid s =
    primary_at room ts (got (literal p (lit.Bool true)) mid) by_true (ap primary_start (head_at t.True p ts mid s)) (next_at t.True p ts mid s (λ w here. rw here ended))
literal_found p (lit.Bool false) room ts mid s =
    primary_at room ts (got (literal p (lit.Bool false)) mid) by_false (ap primary_start (head_at t.False p ts mid s)) (next_at t.False p ts mid s (λ w here. rw here ended))
