-- An operator behind an expression that is as high as it may be is refused.
use Rattle.std.proofs.Common.{◌≡◌, ◌≤◌, ◌<◌, ◌+◌, ◌-◌, ℕ, zero, suc, List, Option, Some, None, refl, ap, ◌∙◌, inr, arith, ◌∷◌}
use Rattle.std.proofs.lemmas.Bool.Decides.{nat_tests}
use Rattle.eif_tree.specs.declared.Op.{Op}
use Rattle.eif_tree.specs.declared.Op.TheVariants as op
use Rattle.eif_tree.specs.declared.Literal.TheVariants as lit
use Rattle.eif_tree.specs.Tree.{Ex, literal, binary}
use Rattle.eif_tree.specs.Height.{height}
use Rattle.eif_tree.specs.ExpressionPlaces.{place_of}
use Rattle.eif_grammar.specs.declared.terminal.Terminal.TheVariants as t
use Rattle.eif_grammar.specs.Tokens.{Token}
use Rattle.eif_grammar.specs.Literals.{integer_value}
use Rattle.eif_grammar.specs.Forms.{operator, binds}
use Rattle.eif_grammar.specs.Spelling.{head}
use Rattle.eif_grammar.specs.SpelledExpressions.{spells}
use Rattle.eif_grammar.specs.Goals.{expression, climbing, expression_goal}
use Rattle.eif_grammar.specs.ExpressionRules.{climb}
use Rattle.eif_grammar.specs.Outcomes.{got, refused, Runs, Calls}
use Rattle.eif_grammar_laws.specs.BrokenForms.{HighOperand, pluses, LongSum}
use Rattle.eif_grammar_laws.proofs.Readers.{by_rule, looked, forked, guard_refused}
use Rattle.eif_grammar_laws.proofs.Terminals.{one_is, one_here}
use Rattle.eif_grammar_laws.proofs.Levels.{binds_operator, no_operator}
use Rattle.eif_grammar_laws.proofs.Taken.{head_the}
use Rattle.eif_grammar_laws.proofs.ExpressionSteps.{climb_stop, climb_step, sign_of}
use Rattle.eif_grammar_laws.proofs.ExpressionComplete.{expression_goes_on}

no_room : (room : ℕ) (e : Ex) (left : List Token) (x : Option Op) → operator (head left) ≡ x → room ≤ height e → 1 ≤ binds (head left) → Runs (climb room 1 e x) left (refused left)
no_room room e left None found high some = let none = no_operator (head left) found in absurd (omega arith)
no_room room e left (Some o) found high some = forked (grind (arith, nat_tests, binds_operator (head left) o found)) (guard_refused (grind (arith, nat_tests)))

climb_refused : (room : ℕ) (e : Ex) (left : List Token) → room ≤ height e → 1 ≤ binds (head left) → Calls (expression_goal (climbing room 1 e)) left (refused left)
climb_refused room e left high some = by_rule (looked (no_room room e left (operator (head left)) refl high some))

pub high_operand : HighOperand
high_operand room e tokens left s high some = expression_goes_on e room 1 tokens left (refused left) (omega arith) s (omega arith) (climb_refused room e left (omega arith) some)

-- the integer that a token is
abbrev integer_at : Token → Ex
integer_at n = literal n.place (lit.Int (integer_value n.text))

-- it is read before a `+`
integer_spelled : (k : ℕ) (n : Token) (ts mid : List Token) → n.terminal ≡ t.Integer → ts ≡ n ∷ mid → head mid ≡ t.Plus → spells (integer_at n) k ts mid
integer_spelled k n ts mid is_one eq plus = (one_here _ eq (is_one, refl, refl), inr (λ e. cc))

integer_read : (room : ℕ) (n : Token) (ts mid : List Token) → n.terminal ≡ t.Integer → ts ≡ n ∷ mid → head mid ≡ t.Plus → 1 ≤ room
    → Calls (expression_goal (expression room 6)) ts (got (integer_at n) mid)
integer_read room n ts mid is_one eq plus some =
    let low : binds (head mid) < 6 = rw plus (omega arith) in
    expression_goes_on (integer_at n) room 6 ts mid (got (integer_at n) mid) (omega arith) (integer_spelled 6 n ts mid is_one eq plus) some (climb_stop room 6 (integer_at n) mid low)

pluses_head : (more : ℕ) (ts left : List Token) → pluses more ts left → head left ≡ t.Plus → head ts ≡ t.Plus
pluses_head zero ts left same plus = ap head same ∙ plus
pluses_head (suc more) ts left (mid, here, rest) plus = head_the t.Plus ts mid here

sum_climbs : (more room : ℕ) (l : Ex) (ts left : List Token) → pluses more ts left → head left ≡ t.Plus → height l + more ≡ room → 1 ≤ height l
    → Calls (expression_goal (climbing room 1 l)) ts (refused left)
sum_climbs zero room l ts left same plus high some = rw same (climb_refused room l left (omega arith) (rw plus (omega arith)))
sum_climbs (suc more) room l ts left (m1, sign, (m2, one, rest)) plus high some =
    let s = one_is (λ y. y.terminal ≡ t.Plus) ts m1 sign in
    let n = one_is (λ y. y.terminal ≡ t.Integer) m1 m2 one in
    let r = integer_at n.0 in
    climb_step room 1 l r op.Plus s.0.place ts m1 m2 (refused left) (sign_of op.Plus s.0.place ts m1 (one_here _ s.1 (ap operator s.2, refl))) (omega arith) (omega arith)
    (integer_read (room - 1) n.0 m1 m2 n.2 n.1 (pluses_head more m2 left rest plus) (omega arith))
    (sum_climbs more room (binary (place_of l) op.Plus s.0.place l r) m2 left rest plus (omega arith) (omega arith))

pub long_sum : LongSum
long_sum more tokens left (mid, one, rest) plus =
    let n = one_is (λ y. y.terminal ≡ t.Integer) tokens mid one in
    let here = pluses_head more mid left rest plus in
    expression_goes_on (integer_at n.0) (more + 1) 1 tokens mid (refused left) (omega arith) (integer_spelled 1 n.0 tokens mid n.2 n.1 here) (omega arith)
    (sum_climbs more (more + 1) (integer_at n.0) mid left rest plus (omega arith) (omega arith))
