-- Every expression that the tokens spell within the room is found.
use Rattle.std.proofs.Common.{◌≡◌, ◌≢◌, ℕ, ◌+◌, ◌-◌, ◌≤◌, ◌<◌, Option, Some, None, List, [], ◌∷◌, refl, ap, arith, ◌⊎◌, inl, inr}
use Rattle.eif_base.specs.declared.Place.{Place}
use Rattle.eif_tree.specs.declared.NameAt.{NameAt}
use Rattle.eif_tree.specs.declared.Op.{Op}
use Rattle.eif_tree.specs.Tree.{TypeT, Ex, Exs, literal, void_value, current_value, result_value, unqualified, precursor, qualified, creation, test, paren, unary, binary, no_exs, and_ex}
use Rattle.eif_tree.specs.Height.{height, heights}
use Rattle.eif_tree.specs.ExpressionPlaces.{place_of}
use Rattle.eif_grammar.specs.declared.terminal.Terminal.TheVariants as t
use Rattle.eif_grammar.specs.Tokens.{Token}
use Rattle.eif_grammar.specs.Forms.{left_level, right_level, prefix_operator, target_level}
use Rattle.eif_grammar.specs.Spelling.{head, ◌⨟◌, one}
use Rattle.eif_grammar.specs.SpelledExpressions.{full, undotted, spells, spells_arguments, spells_more, spells_expression, spells_parent_name, attached_test, braced_test, spells_test, spells_creator}
use Rattle.eif_grammar.specs.Goals.{expression, climbing, operand, chain, dots, primary, precursor_rest, creator, arguments, listed, others, expression_goal}
use Rattle.eif_grammar.specs.ExpressionRules.{braced, attached, prefixed, chained, operand_start, by_name, by_precursor, by_void, by_current, by_result, by_parenthesis, by_create, primary_start}
use Rattle.eif_grammar.specs.Outcomes.{Outcome, got, Calls}
use Rattle.eif_grammar_laws.proofs.Readers.{by_rule, called, taken, ended}
use Rattle.eif_grammar_laws.proofs.Terminals.{on_found}
use Rattle.eif_grammar_laws.proofs.Levels.{height_some, levels, level_most, binds_operator, spells_lower}
use Rattle.eif_grammar_laws.proofs.Starts.{prefix_starts}
use Rattle.eif_grammar_laws.proofs.TypeMeaning.{type_height_some}
use Rattle.eif_grammar_laws.proofs.TypeComplete.{type_found}
use Rattle.eif_grammar_laws.proofs.Taken.{tail, roomy, head_the, head_at, head_name, next_the, next_at, next_name, call_name, expect_the, on_the, on_before}
use Rattle.eif_grammar_laws.proofs.ExpressionSteps.{climb_stop, dots_stop, sign_of, climb_step, operand_at, chained_step, tested_step, primary_at, literal_starts, literal_found}

-- ---- what is found of an expression

record Complete (e : Ex) : Type 0 where
  -- a target begins a chain
  starts : (ts mid : List Token) → spells e target_level ts mid → operand_start (head ts) ≡ chained
  -- the dots behind it go on with it
  chains : (room : ℕ) (ts mid : List Token) (u : Outcome Ex) → spells e target_level ts mid → height e ≤ room
      → Calls (expression_goal (dots room e)) mid u → Calls (expression_goal (chain room)) ts u
  operands : (room : ℕ) (ts mid : List Token) → spells e 8 ts mid → height e ≤ room → Calls (expression_goal (operand room)) ts (got e mid)
  -- the operators behind it go on with it
  climbs : (room k : ℕ) (ts mid : List Token) (u : Outcome Ex) → k ≤ 8 → spells e k ts mid → height e ≤ room
      → Calls (expression_goal (climbing room k e)) mid u → Calls (expression_goal (expression room k)) ts u

-- arguments, and those after the first
record CompleteAll (es : Exs) : Type 0 where
  whole : (room : ℕ) (ts mid : List Token) → spells_arguments es ts mid → heights es + 1 ≤ room → Calls (expression_goal (arguments room)) ts (got es mid)
  rest : (room : ℕ) (ts mid : List Token) → spells_more es ts mid → heights es ≤ room → Calls (expression_goal (others room)) ts (got es mid)

fully : (e : Ex) → Complete e → (room k : ℕ) (ts mid : List Token) → k ≤ 8 → full k (spells e k) ts mid → height e ≤ room
    → Calls (expression_goal (expression room k)) ts (got e mid)
fully e c room k ts mid most s hgt = c.climbs room k ts mid (got e mid) most s.0 hgt (climb_stop room k e mid s.1)

chain_whole : (e : Ex) → Complete e → (room : ℕ) (ts mid : List Token) → undotted (spells e target_level) ts mid → height e ≤ room → Calls (expression_goal (chain room)) ts (got e mid)
chain_whole e c room ts mid s hgt = c.chains room ts mid (got e mid) s.0 hgt (dots_stop room e mid s.1)

-- ---- by the form of the whole

-- a chain at the level of an operand is a target behind which no dot stands
chain_top : (k : ℕ) {A : Type 0} (rest : List Token) → k ≤ 8 → A × ((k ≡ target_level) ⊎ (head rest ≢ t.Dot)) → (A × ((target_level ≡ target_level) ⊎ (head rest ≢ t.Dot))) × (head rest ≢ t.Dot)
chain_top k rest most (s, inl top) = absurd (omega arith)
chain_top k rest most (s, inr apart) = ((s, inl refl), apart)

from_operand : (e : Ex) → ((ts mid : List Token) → spells e target_level ts mid → ⊥) → ((k : ℕ) (ts mid : List Token) → k ≤ 8 → spells e k ts mid → spells e 8 ts mid)
    → ((room : ℕ) (ts mid : List Token) → spells e 8 ts mid → height e ≤ room → Calls (expression_goal (operand room)) ts (got e mid)) → Complete e
from_operand e never up operands = record {
  starts = λ ts mid s. absurd (never ts mid s);
  chains = λ room ts mid u s hgt c. absurd (never ts mid s);
  operands = operands;
  climbs = λ room k ts mid u most s hgt c. by_rule (called (operands room ts mid (up k ts mid most s) hgt) (tail u c));
}

from_chain : (e : Ex) → ((k : ℕ) (ts mid : List Token) → k ≤ 8 → spells e k ts mid → undotted (spells e target_level) ts mid)
    → ((ts mid : List Token) → spells e target_level ts mid → operand_start (head ts) ≡ chained)
    → ((room : ℕ) (ts mid : List Token) (u : Outcome Ex) → spells e target_level ts mid → height e ≤ room → Calls (expression_goal (dots room e)) mid u → Calls (expression_goal (chain room)) ts u)
    → Complete e
from_chain e top starts chains = record {
  starts = starts;
  chains = chains;
  operands = λ room ts mid s hgt. whole room 8 ts mid (omega arith) s hgt;
  climbs = λ room k ts mid u most s hgt c. by_rule (called (whole room k ts mid most s hgt) (tail u c));
}
  where
    whole : (room k : ℕ) (ts mid : List Token) → k ≤ 8 → spells e k ts mid → height e ≤ room → Calls (expression_goal (operand room)) ts (got e mid)
    whole room k ts mid most s hgt =
        let a = top k ts mid most s in
        chained_step room e ts mid (starts ts mid a.0) (chains room ts mid (got e mid) a.0 hgt (dots_stop room e mid a.1))

from_primary : (e : Ex) → ((k : ℕ) (ts mid : List Token) → k ≤ 8 → spells e k ts mid → undotted (spells e target_level) ts mid)
    → ((ts mid : List Token) → spells e target_level ts mid → operand_start (head ts) ≡ chained)
    → ((room : ℕ) (ts mid : List Token) → spells e target_level ts mid → height e ≤ room → Calls (expression_goal (primary room)) ts (got e mid))
    → Complete e
from_primary e top starts primaries = from_chain e top starts (λ room ts mid u s hgt c. by_rule (called (primaries room ts mid s hgt) (tail u c)))

-- ---- primaries

name_found : (p : Place) (n : List ℕ) (args : Exs) → CompleteAll args → (room : ℕ) (ts mid : List Token) → spells (unqualified p n args) target_level ts mid
    → height (unqualified p n args) ≤ room → Calls (expression_goal (primary room)) ts (got (unqualified p n args) mid)
name_found p n args ca room ts mid ((m, sn, sa), end) hgt =
    primary_at room ts (got (unqualified p n args) mid) by_name (ap primary_start (head_name p n ts m sn))
    (next_name p n ts m sn (λ w here text. rw (here, text) (called (ca.whole room m mid sa hgt) ended)))

precursor_rest_from : (n : Option NameAt) (args : Exs) → CompleteAll args → (room : ℕ) (p : Place) (ts m rest : List Token) → spells_parent_name n ts m → spells_arguments args m rest
    → heights args + 1 ≤ room → Calls (expression_goal (precursor_rest room p)) ts (got (precursor p n args) rest)
precursor_rest_from None args ca room p ts m rest sn sa hgt =
    by_rule (on_before t.OpenBrace ts m sn (called (ca.whole room m rest sa hgt) ended))
precursor_rest_from (Some n) args ca room p ts m rest (m1, so, (m2, sn, sc)) sa hgt =
    by_rule (on_the t.OpenBrace ts m1 so (λ x. call_name n.place n.name m1 m2 sn (λ w here text.
    rw (here, text) (expect_the m2 m sc (called (ca.whole room m rest sa hgt) ended)))))

precursor_found : (p : Place) (n : Option NameAt) (args : Exs) → CompleteAll args → (room : ℕ) (ts mid : List Token) → spells (precursor p n args) target_level ts mid
    → height (precursor p n args) ≤ room → Calls (expression_goal (primary room)) ts (got (precursor p n args) mid)
precursor_found p n args ca room ts mid ((m, sw, (m', sn, sa)), end) hgt =
    primary_at room ts (got (precursor p n args) mid) by_precursor (ap primary_start (head_at t.Precursor p ts m sw))
    (next_at t.Precursor p ts m sw (λ w here. rw here (called (precursor_rest_from n args ca room p m m' mid sn sa hgt) ended)))

creator_from : (n : Option NameAt) (args : Exs) → CompleteAll args → (room : ℕ) (ts rest : List Token) → spells_creator n args (spells_arguments args) ts rest
    → heights args + 1 ≤ room → Calls (expression_goal (creator room)) ts (got (record { name = n; arguments = args }) rest)
creator_from None args ca room ts rest (m, (none, eq), apart) hgt = rw (none, eq) (by_rule (on_before t.Dot m rest apart ended))
creator_from (Some n) args ca room ts rest (m, sd, (m', sn, sa)) hgt =
    by_rule (on_the t.Dot ts m sd (λ x. call_name n.place n.name m m' sn (λ w here text. rw (here, text) (called (ca.whole room m' rest sa hgt) ended))))

creation_found : (p : Place) (ty : TypeT) (n : Option NameAt) (args : Exs) → CompleteAll args → (room : ℕ) (ts mid : List Token) → spells (creation p ty n args) target_level ts mid
    → height (creation p ty n args) ≤ room → Calls (expression_goal (primary room)) ts (got (creation p ty n args) mid)
creation_found p ty n args ca room ts mid ((m, sw, (m1, (m2, so, (m3, st, sc)), sn)), end) hgt =
    let some = type_height_some ty in
    let low : 1 < room = omega arith in
    let found = type_found ty (room - 1) m2 m3 st (omega arith) in
    let behind = creator_from n args ca room m1 mid sn (omega arith) in
    primary_at room ts (got (creation p ty n args) mid) by_create (ap primary_start (head_at t.Create p ts m sw))
    (roomy 1 room low (next_at t.Create p ts m sw (λ w here. rw here (expect_the m m2 so (called found (expect_the m3 m1 sc (called behind ended)))))))

paren_found : (p : Place) (e : Ex) → Complete e → (room : ℕ) (ts mid : List Token) → spells (paren p e) target_level ts mid
    → height (paren p e) ≤ room → Calls (expression_goal (primary room)) ts (got (paren p e) mid)
paren_found p e c room ts mid ((m, so, (m1, se, sc)), end) hgt =
    let some = height_some e in
    let low : 1 < room = omega arith in
    let inner = fully e c (room - 1) 1 m m1 (omega arith) se (omega arith) in
    primary_at room ts (got (paren p e) mid) by_parenthesis (ap primary_start (head_at t.OpenParenthesis p ts m so))
    (roomy 1 room low (next_at t.OpenParenthesis p ts m so (λ w here. rw here (called inner (expect_the m1 mid sc ended)))))

-- ---- dots

dots_found : (p : Place) (e : Ex) (n : NameAt) (args : Exs) → Complete e → CompleteAll args → (room : ℕ) (ts mid : List Token) (u : Outcome Ex)
    → spells (qualified p e n args) target_level ts mid → height (qualified p e n args) ≤ room → Calls (expression_goal (dots room (qualified p e n args))) mid u
    → Calls (expression_goal (chain room)) ts u
dots_found p e n args ce ca room ts mid u ((m0, (pl, e0), (m1, se, (m2, sd, (m3, sn, sa)))), end) hgt c =
    let then : Calls (expression_goal (dots room (qualified (place_of e) e n args))) mid u = rw (← pl) c in
    let step : Calls (expression_goal (dots room e)) m1 u =
    by_rule (on_found (head_the t.Dot m1 m2 sd) (roomy (height e) room (omega arith) (next_the t.Dot m1 m2 sd (λ x.
    call_name n.place n.name m2 m3 sn (λ w here text. rw (here, text) (called (ca.whole room m3 mid sa (omega arith)) (tail u then))))))) in
    ce.chains room ts m1 u (rw e0 se) (omega arith) step

dots_start : (p : Place) (e : Ex) (n : NameAt) (args : Exs) → Complete e → (ts mid : List Token) → spells (qualified p e n args) target_level ts mid → operand_start (head ts) ≡ chained
dots_start p e n args ce ts mid ((m0, (pl, e0), (m1, se, more)), end) = ce.starts ts m1 (rw e0 se)

-- ---- operands

attached_found : (p : Place) (ty : Option TypeT) (l : Option NameAt) (e : Ex) → Complete e → (room : ℕ) (ts mid : List Token) → attached_test p ty l (undotted (spells e target_level)) ts mid
    → height (test p ty l e) ≤ room → Calls (expression_goal (operand room)) ts (got (test p ty l e) mid)
attached_found p None l e c room ts mid (m, sw, (m1, st, (m2, se, sl))) hgt =
    let some = height_some e in
    let low : 1 < room = omega arith in
    let inner = chain_whole e c (room - 1) m1 m2 se (omega arith) in
    operand_at room ts (got (test p None l e) mid) attached (ap operand_start (head_at t.Attached p ts m sw))
    (roomy 1 room low (next_at t.Attached p ts m sw (λ w here. rw here (on_before t.OpenBrace m m1 st (tested_step room p None l e m1 m2 mid inner sl)))))
attached_found p (Some ty) l e c room ts mid (m, sw, (m1, (m3, so, (m4, st, sc)), (m2, se, sl))) hgt =
    let some = height_some e in
    let low : 1 < room = omega arith in
    let found = type_found ty (room - 1) m3 m4 st (omega arith) in
    let inner = chain_whole e c (room - 1) m1 m2 se (omega arith) in
    operand_at room ts (got (test p (Some ty) l e) mid) attached (ap operand_start (head_at t.Attached p ts m sw))
    (roomy 1 room low (next_at t.Attached p ts m sw (λ w here.
    rw here (on_the t.OpenBrace m m3 so (λ x. called found (expect_the m4 m1 sc (tested_step room p (Some ty) l e m1 m2 mid inner sl)))))))

braced_found : (p : Place) (ty : TypeT) (l : NameAt) (e : Ex) → Complete e → (room : ℕ) (ts mid : List Token) → braced_test p ty l (undotted (spells e target_level)) ts mid
    → height (test p (Some ty) (Some l) e) ≤ room → Calls (expression_goal (operand room)) ts (got (test p (Some ty) (Some l) e) mid)
braced_found p ty l e c room ts mid (m, so, (m1, sn, (m2, sc, (m3, st, (m4, sb, se))))) hgt =
    let some = height_some e in
    let low : 1 < room = omega arith in
    let found = type_found ty (room - 1) m2 m3 st (omega arith) in
    let inner = chain_whole e c (room - 1) m4 mid se (omega arith) in
    operand_at room ts (got (test p (Some ty) (Some l) e) mid) braced (ap operand_start (head_at t.OpenBrace p ts m so))
    (roomy 1 room low (next_at t.OpenBrace p ts m so (λ b at. rw at (call_name l.place l.name m m1 sn (λ w here text.
    rw (here, text) (expect_the m1 m2 sc (called found (expect_the m3 m4 sb (called inner ended)))))))))

test_found : (p : Place) (ty : Option TypeT) (l : Option NameAt) (e : Ex) → Complete e → (room : ℕ) (ts mid : List Token) → spells_test p ty l (undotted (spells e target_level)) ts mid
    → height (test p ty l e) ≤ room → Calls (expression_goal (operand room)) ts (got (test p ty l e) mid)
test_found p (Some ty) (Some l) e c room ts mid (inl s) hgt = attached_found p (Some ty) (Some l) e c room ts mid s hgt
test_found p (Some ty) (Some l) e c room ts mid (inr s) hgt = braced_found p ty l e c room ts mid s hgt
test_found p (Some ty) None e c room ts mid s hgt = attached_found p (Some ty) None e c room ts mid s hgt
test_found p None l e c room ts mid s hgt = attached_found p None l e c room ts mid s hgt

unary_found : (p : Place) (o : Op) (e : Ex) → Complete e → (room : ℕ) (ts m mid : List Token) → one (λ token. (prefix_operator token.terminal ≡ Some o) × (token.place ≡ p)) ts m → spells e 8 m mid
    → height (unary p o e) ≤ room → Calls (expression_goal (operand room)) ts (got (unary p o e) mid)
unary_found p o e c room [] m mid so se hgt = absurd so
unary_found p o e c room (w ∷ ts) m mid ((sign, here), eq) se hgt =
    let some = height_some e in
    let low : 1 < room = omega arith in
    let inner = c.operands (room - 1) ts mid (rw eq se) (omega arith) in
    operand_at room (w ∷ ts) (got (unary p o e) mid) (prefixed o) (prefix_starts w.terminal o sign) (roomy 1 room low (taken (rw here (called inner ended))))

-- ---- operators

climb_found : (p : Place) (o : Op) (q : Place) (l r : Ex) → Complete l → Complete r → (room k : ℕ) (ts mid : List Token) (u : Outcome Ex) → k ≤ 8
    → spells (binary p o q l r) k ts mid → height (binary p o q l r) ≤ room → Calls (expression_goal (climbing room k (binary p o q l r))) mid u
    → Calls (expression_goal (expression room k)) ts u
climb_found p o q l r cl cr room k ts mid u most (m0, ((above, pl), e0), (m1, sl, (m2, so, sr))) hgt c =
    let sign = sign_of o q m1 m2 so in
    let bound = binds_operator sign.token.terminal sign.first sign.is in
    let same = sign.same in
    let v = levels o (omega arith) in
    let right = fully r cr (room - 1) (right_level o) m2 mid (omega (arith, v.right_most)) sr (omega arith) in
    let then : Calls (expression_goal (climbing room k (binary (place_of l) o q l r))) mid u = rw (← pl) c in
    let step = climb_step room k l r o q m1 m2 mid u sign above (omega arith) right then in
    cl.climbs room k ts m1 u most (spells_lower l (left_level o) k ts m1 (omega (arith, v.left_least)) v.left_most (rw e0 sl)) (omega arith) step

-- ---- arguments

all_none : CompleteAll no_exs
all_none = record {
  whole = λ room ts mid s hgt. by_rule (on_before t.OpenParenthesis ts mid s ended);
  rest = λ room ts mid s hgt. by_rule (on_before t.Comma ts mid s ended);
}

listed_step : (e : Ex) (es : Exs) → Complete e → CompleteAll es → (room : ℕ) (ts m mid : List Token) → full 1 (spells e 1) ts m → spells_more es m mid → heights (and_ex e es) ≤ room
    → Calls (expression_goal (listed room)) ts (got (and_ex e es) mid)
listed_step e es c cs room ts m mid se ss hgt = by_rule (called (fully e c room 1 ts m (omega arith) se (omega arith)) (called (cs.rest room m mid ss (omega arith)) ended))

whole_found : (e : Ex) (es : Exs) → Complete e → CompleteAll es → (room : ℕ) (ts mid : List Token) → spells_arguments (and_ex e es) ts mid
    → heights (and_ex e es) + 1 ≤ room → Calls (expression_goal (arguments room)) ts (got (and_ex e es) mid)
whole_found e es c cs room ts mid (m, so, (m1, se, (m2, ss, sc))) hgt =
    let some = height_some e in
    let low : 1 < room = omega arith in
    let inner = listed_step e es c cs (room - 1) m m1 m2 se ss (omega arith) in
    by_rule (on_found (head_the t.OpenParenthesis ts m so) (roomy 1 room low (next_the t.OpenParenthesis ts m so (λ x. called inner (expect_the m2 mid sc ended)))))

rest_found : (e : Ex) (es : Exs) → Complete e → CompleteAll es → (room : ℕ) (ts mid : List Token) → spells_more (and_ex e es) ts mid
    → heights (and_ex e es) ≤ room → Calls (expression_goal (others room)) ts (got (and_ex e es) mid)
rest_found e es c cs room ts mid (m, so, (m1, se, ss)) hgt = by_rule (on_the t.Comma ts m so (λ x. tail (got (and_ex e es) mid) (listed_step e es c cs room m m1 mid se ss hgt)))

-- ---- every tree

mutual
  complete : (e : Ex) → Complete e
  complete (literal p x) = from_primary (literal p x) (λ k ts mid most s. chain_top k mid most s) (λ ts mid s. literal_starts p x ts mid s.0) (λ room ts mid s hgt. literal_found p x room ts mid s.0)
  complete (void_value p) = from_primary (void_value p) (λ k ts mid most s. chain_top k mid most s) (λ ts mid s. ap operand_start (head_at t.Void p ts mid s.0))
      (λ room ts mid s hgt. primary_at room ts (got (void_value p) mid) by_void (ap primary_start (head_at t.Void p ts mid s.0)) (next_at t.Void p ts mid s.0 (λ w here. rw here ended)))
  complete (current_value p) = from_primary (current_value p) (λ k ts mid most s. chain_top k mid most s) (λ ts mid s. ap operand_start (head_at t.Current p ts mid s.0))
      (λ room ts mid s hgt. primary_at room ts (got (current_value p) mid) by_current (ap primary_start (head_at t.Current p ts mid s.0)) (next_at t.Current p ts mid s.0 (λ w here. rw here ended)))
  complete (result_value p) = from_primary (result_value p) (λ k ts mid most s. chain_top k mid most s) (λ ts mid s. ap operand_start (head_at t.Result p ts mid s.0))
      (λ room ts mid s hgt. primary_at room ts (got (result_value p) mid) by_result (ap primary_start (head_at t.Result p ts mid s.0)) (next_at t.Result p ts mid s.0 (λ w here. rw here ended)))
  complete (unqualified p n args) = from_primary (unqualified p n args) (λ k ts mid most s. chain_top k mid most s)
      (λ ts mid s. ap operand_start (head_name p n ts s.0.0 s.0.1)) (name_found p n args (complete_all args))
  complete (precursor p n args) = from_primary (precursor p n args) (λ k ts mid most s. chain_top k mid most s)
      (λ ts mid s. ap operand_start (head_at t.Precursor p ts s.0.0 s.0.1)) (precursor_found p n args (complete_all args))
  complete (qualified p e n args) = from_chain (qualified p e n args) (λ k ts mid most s. chain_top k mid most s)
      (dots_start p e n args (complete e)) (dots_found p e n args (complete e) (complete_all args))
  complete (creation p ty n args) = from_primary (creation p ty n args) (λ k ts mid most s. chain_top k mid most s)
      (λ ts mid s. ap operand_start (head_at t.Create p ts s.0.0 s.0.1)) (creation_found p ty n args (complete_all args))
  complete (test p ty l e) = from_operand (test p ty l e) (λ ts mid s. omega (arith, s.1.0)) (λ k ts mid most s. (s.0, (omega arith, s.1.1), s.2))
      (λ room ts mid s hgt. rw s.1.1 (test_found p ty l e (complete e) room s.0 mid s.2 hgt))
  complete (paren p e) = from_primary (paren p e) (λ k ts mid most s. chain_top k mid most s)
      (λ ts mid s. ap operand_start (head_at t.OpenParenthesis p ts s.0.0 s.0.1)) (paren_found p e (complete e))
  complete (unary p o e) = from_operand (unary p o e) (λ ts mid s. omega (arith, s.1.0)) (λ k ts mid most s. (s.0, (omega arith, s.1.1), s.2))
      (λ room ts mid s hgt. rw s.1.1 (unary_found p o e (complete e) room s.0 s.2.0 mid s.2.1 s.2.2 hgt))
  complete (binary p o q l r) = record {
    starts = λ ts mid s. absurd (omega (arith, s.1.0.0, level_most o));
    chains = λ room ts mid u s hgt c. absurd (omega (arith, s.1.0.0, level_most o));
    operands = λ room ts mid s hgt. absurd (omega (arith, s.1.0.0, level_most o));
    climbs = climb_found p o q l r (complete l) (complete r);
  }

  complete_all : (es : Exs) → CompleteAll es
  complete_all no_exs = all_none
  complete_all (and_ex e es) = record {
    whole = whole_found e es (complete e) (complete_all es);
    rest = rest_found e es (complete e) (complete_all es);
  }

-- ---- what others cite

-- a whole expression
pub expression_found : (e : Ex) (room : ℕ) (ts rest : List Token) → spells_expression e ts rest → height e ≤ room → Calls (expression_goal (expression room 1)) ts (got e rest)
expression_found e room ts rest s hgt = fully e (complete e) room 1 ts rest (omega arith) s hgt

-- a chain of calls
pub chain_found : (e : Ex) (room : ℕ) (ts rest : List Token) → undotted (spells e target_level) ts rest → height e ≤ room → Calls (expression_goal (chain room)) ts (got e rest)
chain_found e room ts rest s hgt = chain_whole e (complete e) room ts rest s hgt

-- The dots behind a target go on with it.
pub chain_goes_on : (e : Ex) (room : ℕ) (ts mid : List Token) (u : Outcome Ex) → spells e target_level ts mid → height e ≤ room
    → Calls (expression_goal (dots room e)) mid u → Calls (expression_goal (chain room)) ts u
chain_goes_on e room ts mid u s hgt c = let k = complete e in k.chains room ts mid u s hgt c

-- The operators behind an expression go on with it.
pub expression_goes_on : (e : Ex) (room k : ℕ) (ts mid : List Token) (u : Outcome Ex) → k ≤ 8 → spells e k ts mid → height e ≤ room
    → Calls (expression_goal (climbing room k e)) mid u → Calls (expression_goal (expression room k)) ts u
expression_goes_on e room k ts mid u most s hgt c = let h = complete e in h.climbs room k ts mid u most s hgt c

pub arguments_found : (es : Exs) (room : ℕ) (ts rest : List Token) → spells_arguments es ts rest → heights es + 1 ≤ room → Calls (expression_goal (arguments room)) ts (got es rest)
arguments_found es room ts rest s hgt = let h = complete_all es in h.whole room ts rest s hgt

pub creator_found : (n : Option NameAt) (args : Exs) (room : ℕ) (ts rest : List Token) → spells_creator n args (spells_arguments args) ts rest → heights args + 1 ≤ room
    → Calls (expression_goal (creator room)) ts (got (record { name = n; arguments = args }) rest)
creator_found n args room ts rest s hgt = creator_from n args (complete_all args) room ts rest s hgt

pub precursor_rest_found : (n : Option NameAt) (args : Exs) (room : ℕ) (p : Place) (ts rest : List Token) → (spells_parent_name n ⨟ spells_arguments args) ts rest → heights args + 1 ≤ room
    → Calls (expression_goal (precursor_rest room p)) ts (got (precursor p n args) rest)
precursor_rest_found n args room p ts rest (m, sn, sa) hgt = precursor_rest_from n args (complete_all args) room p ts m rest sn sa hgt
