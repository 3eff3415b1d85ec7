-- A rule for expressions finds no more than its goal means.
use Rattle.std.proofs.Common.{◌≡◌, ℕ, ◌-◌, ◌≤◌, ◌<◌, max, true, Option, Some, None, List, ◌∷◌, refl, ap, sym, ◌∙◌, subst, arith, ◌⊎◌, inl, inr}
use Rattle.std.proofs.lemmas.Bool.Decides.{nat_tests}
use Rattle.eif_base.specs.declared.Place.{Place}
use Rattle.eif_tree.specs.declared.NameAt.{NameAt}
use Rattle.eif_tree.specs.declared.Op.{Op}
use Rattle.eif_tree.specs.Tree.{TypeT, Ex, Exs, unqualified, precursor, qualified, no_exs, and_ex}
use Rattle.eif_tree.specs.Height.{written_height, height}
use Rattle.eif_grammar.specs.declared.terminal.Terminal.{Terminal}
use Rattle.eif_grammar.specs.declared.terminal.Terminal.TheVariants as t
use Rattle.eif_grammar.specs.Tokens.{Token}
use Rattle.eif_grammar.specs.Forms.{level, left_level, operator, prefix_operator, binds, target_level}
use Rattle.eif_grammar.specs.Literals.{integer_value, character_value, string_value}
use Rattle.eif_grammar.specs.Spelling.{Spelling, head, the, the_at}
use Rattle.eif_grammar.specs.SpelledExpressions.{undotted, spells, spells_operator, spells_arguments, spells_more, spells_tested_type, attached_test, spells_test}
use Rattle.eif_grammar.specs.SpelledInstructions.{begins_calls, is_call}
use Rattle.eif_grammar.specs.Goals.{ExpressionGoal, ExpressionFound, Creator, expression, climbing, operand, test_local, chain, dots, dotted, primary, precursor_rest, creator, arguments, listed, others}
use Rattle.eif_grammar.specs.Reader.{name_of}
use Rattle.eif_grammar.specs.ExpressionRules.{second_token, right_of, behind_operator, climb, OperandStart, braced, attached, prefixed, chained, operand_start, tested, operand_by, qualify, PrimaryStart, by_name, by_precursor, by_integer, by_character, by_string, by_true, by_false, by_void, by_current, by_result, by_parenthesis, by_create, no_primary, primary_start, primary_by, expression_rule}
use Rattle.eif_grammar_laws.proofs.Readers.{Meanings, Means}
use Rattle.eif_grammar_laws.proofs.Terminals.{one_here}
use Rattle.eif_grammar_laws.proofs.Meanings.{ExpressionMeans, IsQualified, GoesOn, level_before, spells_listed}
use Rattle.eif_grammar_laws.proofs.Meant.{ExpressionsMeant, seen, the_here, the_at_here, name_here, tested_is, tested_other, room_below}
use Rattle.eif_grammar_laws.proofs.Levels.{height_some, levels, next_operator, no_operator, binds_operator, before_most, spells_lower, spells_undotted}
use Rattle.eif_grammar_laws.proofs.Starts.{OperandToken, operand_token, PrimaryToken, primary_token, two_tokens, two_level, both_spelled, first_spelled, single_spelled}

test_spelled : (p : Place) (ty : Option TypeT) (l : Option NameAt) (value : Spelling) (ts rest : List Token) → attached_test p ty l value ts rest → spells_test p ty l value ts rest
test_spelled p (Some ty) (Some l) value ts rest s = inl s
test_spelled p (Some ty) None value ts rest s = s
test_spelled p None l value ts rest s = s

-- a call begins calls
pub call_begins : (e : Ex) → is_call e ≡ true → begins_calls e ≡ true
call_begins (unqualified p n args) e = refl
call_begins (precursor p n args) e = refl
call_begins (qualified p t n args) e = e
call_begins _ e = cc

in_parentheses : (es : Exs) (ts m n rest : List Token) → the t.OpenParenthesis ts m → spells_listed es m n → the t.CloseParenthesis n rest → spells_arguments es ts rest
in_parentheses no_exs ts m n rest so s sc = absurd s
in_parentheses (and_ex e es) ts m n rest so (mid, se, ss) sc = (m, so, (mid, se, (n, ss, sc)))

after_comma : (es : Exs) (ts m rest : List Token) → the t.Comma ts m → spells_listed es m rest → spells_more es ts rest
after_comma no_exs ts m rest so s = absurd s
after_comma (and_ex e es) ts m rest so (mid, se, ss) = (m, so, (mid, se, ss))

-- the chain that goes on behind a call through a dot
qualified_still : {q e : Ex} {ts rest : List Token} → IsQualified q → GoesOn q e ts rest → IsQualified e
qualified_still {q} {e} {ts} {rest} is g = by_case g.same_or_qualified
  where
    by_case : ((e ≡ q) × (ts ≡ rest)) ⊎ IsQualified e → IsQualified e
    by_case (inl (same, eq)) = subst IsQualified (sym same) is
    by_case (inr h) = h

module _ (M : Meanings) (meant : ExpressionsMeant M) where
  -- ---- operators

  form_expression : (room k : ℕ) (e : Ex) (ts rest : List Token) → Means M (expression_rule (expression room k)) e ts rest → ExpressionMeans (expression room k) e ts rest
  form_expression room k e ts rest (first, mid, m1, (e', mid', m2, (it, end))) some least most =
      let a = meant.expressions m1 some in
      let top = before_most (head mid) in
      rw (← it, ← end) (meant.expressions m2 some least most ts (spells_lower first 8 (max k (level_before (binds (head mid)))) ts mid (omega arith) (omega arith) a.0) a.1)

  -- no operator of this level follows
  climb_end : (room k : ℕ) (left e : Ex) (ts rest : List Token) → binds (head ts) < k → left ≡ e → ts ≡ rest → ExpressionMeans (climbing room k left) e ts rest
  climb_end room k left e ts rest low it end some least most front s hgt =
      let top = before_most (head ts) in
      rw (← it, ← end) ((spells_lower left (max k (level_before (binds (head ts)))) k front ts (omega arith) (omega arith) s, low), hgt)

  -- an operator follows, of one token or of two
  climb_on : (room k : ℕ) (left e : Ex) (o o' : Op) (p : Place) (ts mid rest : List Token) → operator (head ts) ≡ Some o → level o' ≡ level o → k ≤ level o → height left < room
      → spells_operator o' p ts mid → Means M (right_of room k left p o') e mid rest → ExpressionMeans (climbing room k left) e ts rest
  climb_on room k left e o o' p ts mid rest found same above lower sign (right, mid', mr, (e', mid'', mc, (it, end))) some least most front s hgt =
      let bound = binds_operator (head ts) o found in
      let l = levels o' (omega arith) in
      let tall = height_some left in
      let r = meant.expressions mr (omega arith) l.right_some (omega (arith, l.right_most)) in
      let lefts : level_before (binds (head ts)) ≡ left_level o' = ap level_before (bound.0 ∙ sym same) ∙ l.left in
      let follows = next_operator o' (binds (head mid')) l r.0.1 in
      let top = before_most (head ts) in
      let sl : spells left (left_level o') front ts = spells_lower left (max k (level_before (binds (head ts)))) (left_level o') front ts (omega arith) (omega arith) s in
      rw (← it, ← end) (meant.expressions mc some least most front (front, ((omega arith, refl), refl), (ts, sl, (mid, sign, r.0))) (omega (arith, r.1)))

  climb_sign : (room k : ℕ) (left e : Ex) (o : Op) (n : Token) (ts more rest : List Token) (second : Option (Terminal × Op)) → second_token o ≡ second
      → operator (head ts) ≡ Some o → ts ≡ n ∷ more → k ≤ level o → height left < room → Means M (behind_operator room k left n.place o second) e more rest
      → ExpressionMeans (climbing room k left) e ts rest
  climb_sign room k left e o n ts more rest None is found eq above lower m =
      climb_on room k left e o o n.place ts more rest found refl above lower (single_spelled o n ts more is (ap operator (seen refl eq).0 ∙ found) eq) m
  climb_sign room k left e o n ts more rest (Some s) is found eq above lower (y, there, inl (same, (w, mid, eq', m))) =
      let two = two_tokens o s.0 s.1 is in
      let sign = both_spelled ts more mid two (ap operator (seen refl eq).0 ∙ found) eq (the_here (seen (tested_is more s.0 y there same) eq')) in
      climb_on room k left e o s.1 n.place ts mid rest found (two_level two) above lower sign m
  climb_sign room k left e o n ts more rest (Some s) is found eq above lower (y, there, inr (other, m)) =
      let two = two_tokens o s.0 s.1 is in
      let sign = first_spelled ts more two (ap operator (seen refl eq).0 ∙ found) eq (tested_other more s.0 y there other) in
      climb_on room k left e o o n.place ts more rest found refl above lower sign m

  form_climbing : (room k : ℕ) (left e : Ex) (ts rest : List Token) (x : Option Op) → operator (head ts) ≡ x
      → Means M (climb room k left x) e ts rest → ExpressionMeans (climbing room k left) e ts rest
  form_climbing room k left e ts rest None found (it, end) = λ some least.
      climb_end room k left e ts rest (omega (arith, no_operator (head ts) found)) it end some least
  form_climbing room k left e ts rest (Some o) found (inl (above, (lower, (n, more, eq, m)))) =
      climb_sign room k left e o n ts more rest (second_token o) refl found eq (grind (arith, nat_tests, above)) (room_below (height left) room lower) m
  form_climbing room k left e ts rest (Some o) found (inr (below, (it, end))) =
      climb_end room k left e ts rest (grind (arith, nat_tests, below, binds_operator (head ts) o found)) it end

  -- ---- operands

  form_tested : (room : ℕ) (p : Place) (ty : Option TypeT) (e : Ex) (ts m m' rest : List Token) → 1 < room → the_at t.Attached p ts m → spells_tested_type ty m m'
      → written_height ty ≤ room - 1 → Means M (tested room p ty) e m' rest → spells e 8 ts rest × (height e ≤ room)
  form_tested room p ty e ts m m' rest lower word st hgt (v, m1, mv, (l, m2, ml, (it, end))) =
      let a = meant.expressions mv (omega arith) in
      rw (← it, ← end) ((ts, (omega arith, refl), test_spelled p ty l (undotted (spells v target_level)) ts m2 (m, word, (m', st, (m1, a.0, meant.expressions ml)))), omega (arith, a.1))

  form_operand : (room : ℕ) (e : Ex) (ts rest : List Token) (s : OperandStart) → OperandToken (head ts) s → Means M (operand_by room s) e ts rest
      → ExpressionMeans (operand room) e ts rest
  form_operand room e ts rest braced found (lower, (b, more, eq, (n, m1, mn, (c, m2, mc, (ty, m3, mt, (d, m4, md, (v, m5, mv, (it, end)))))))) some =
      let low = room_below 1 room lower in
      let a = meant.types mt (omega arith) in
      let w = meant.expressions mv (omega arith) in
      rw (← it, ← end) (
        (
          ts,
          (omega arith, refl),
          inr (more, the_at_here (seen found eq), (m1, name_here (meant.tokens mn), (m2, the_here (meant.tokens mc), (m3, a.0, (m4, the_here (meant.tokens md), w.0))))),
        ),
        omega (arith, a.1, w.1),
      )
  form_operand room e ts rest attached found (lower, (w, more, eq, (y, there, inl (same, (b, m1, eq', (ty, m2, mt, (c, m3, mc, m))))))) some =
      let low = room_below 1 room lower in
      let a = meant.types mt (omega arith) in
      form_tested room w.place (Some ty) e ts more m3 rest low (the_at_here (seen found eq))
      (m1, the_here (seen (tested_is more t.OpenBrace y there same) eq'), (m2, a.0, the_here (meant.tokens mc))) a.1 m
  form_operand room e ts rest attached found (lower, (w, more, eq, (y, there, inr (other, m)))) some =
      form_tested room w.place None e ts more more rest (room_below 1 room lower) (the_at_here (seen found eq)) (tested_other more t.OpenBrace y there other) (omega arith) m
  form_operand room e ts rest (prefixed o) found (lower, (n, more, eq, (v, mid, mv, (it, end)))) some =
      let low = room_below 1 room lower in
      let a = meant.expressions mv (omega arith) in
      let sign = one_here (λ y. (prefix_operator y.terminal ≡ Some o) × (y.place ≡ n.place)) eq (ap prefix_operator (seen refl eq).0 ∙ found, refl) in
      rw (← it, ← end) ((ts, (omega arith, refl), (more, sign, a.0)), omega (arith, a.1))
  form_operand room e ts rest chained found (v, mid, mv, (it, end)) some =
      let a = meant.expressions mv some in rw (← it, ← end) (spells_undotted v 8 ts mid a.0, a.1)

  form_local : (l : Option NameAt) (ts rest : List Token) → Means M (expression_rule test_local) l ts rest → ExpressionMeans test_local l ts rest
  form_local l ts rest (y, there, inl (same, (w, more, eq, (n, mid, mn, (it, end))))) =
      rw (← it, ← end) (more, the_here (seen (tested_is ts t.As y there same) eq), name_here (meant.tokens mn))
  form_local l ts rest (y, there, inr (other, (it, end))) = rw (← it, ← end) (tested_other ts t.As y there other)

  -- ---- chains

  form_chain : (room : ℕ) (e : Ex) (ts rest : List Token) → Means M (expression_rule (chain room)) e ts rest → ExpressionMeans (chain room) e ts rest
  form_chain room e ts rest (first, mid, m1, (e', mid', m2, (it, end))) some =
      let a = meant.expressions m1 some in
      let b = meant.expressions m2 some ts a.0 a.1 in
      rw (← it, ← end) (b.0, b.1)

  -- behind a dot
  form_qualify : (room : ℕ) (left e : Ex) (front ts m rest : List Token) → spells left target_level front ts → height left < room → the t.Dot ts m → Means M (qualify room left) e m rest
      → undotted (spells e target_level) front rest × (height e ≤ room) × (begins_calls left ≡ true → begins_calls e ≡ true) × (begins_calls left ≡ true → is_call e ≡ true) × IsQualified e
  form_qualify room left e front ts m rest s lower dot (n, m1, mn, (args, m2, ma, (e', m3, md, (it, end)))) =
      let a = meant.expressions ma (omega arith) in
      let d = meant.expressions md (omega arith) front ((front, (refl, refl), (ts, s, (m, dot, (m1, name_here (meant.tokens mn), a.0)))), inl refl) (omega (arith, a.1)) in
      rw (← it, ← end) (d.0, d.1, d.2.begins, d.2.calls, qualified_still tt d.2)

  form_dots : (room : ℕ) (left e : Ex) (ts rest : List Token) → Means M (expression_rule (dots room left)) e ts rest → ExpressionMeans (dots room left) e ts rest
  form_dots room left e ts rest (y, there, inl (same, (lower, (w, more, eq, m)))) some front s hgt =
      let q = form_qualify room left e front ts more rest s (room_below (height left) room lower) (the_here (seen (tested_is ts t.Dot y there same) eq)) m in
      (q.0, q.1, record { begins = q.2; calls = λ h. q.3 (call_begins left h); same_or_qualified = inr q.4 })
  form_dots room left e ts rest (y, there, inr (other, (it, end))) some front s hgt =
      rw (← it, ← end) ((s, (tested_other ts t.Dot y there other).0), hgt, record { begins = λ h. h; calls = λ h. h; same_or_qualified = inl (refl, refl) })

  form_dotted : (room : ℕ) (left e : Ex) (ts rest : List Token) → Means M (expression_rule (dotted room left)) e ts rest → ExpressionMeans (dotted room left) e ts rest
  form_dotted room left e ts rest (lower, (w, more, mw, m)) some front s hgt =
      let q = form_qualify room left e front ts more rest s (room_below (height left) room lower) (the_here (meant.tokens mw)) m in
      (q.0, q.1, q.3, q.4)

  -- ---- primaries

  form_primary : (room : ℕ) (e : Ex) (ts rest : List Token) (s : PrimaryStart) → PrimaryToken (head ts) s → Means M (primary_by room s) e ts rest
      → ExpressionMeans (primary room) e ts rest
  form_primary room e ts rest by_name found (n, more, eq, (args, mid, ma, (it, end))) some =
      let a = meant.expressions ma some in rw (← it, ← end) (((more, name_here (seen found eq), a.0), inl refl), a.1)
  form_primary room e ts rest by_precursor found (w, more, eq, (e', mid, mp, (it, end))) some =
      let (n, args, same, (mid', parent, behind), hgt) = meant.expressions mp some in
      rw (← it, ← end, same) (((more, the_at_here (seen found eq), (mid', parent, behind)), inl refl), hgt)
  form_primary room e ts rest by_integer found (n, more, eq, (it, end)) some =
      let token = one_here (λ y. (y.terminal ≡ t.Integer) × (y.place ≡ n.place) × (integer_value y.text ≡ integer_value n.text)) eq ((seen found eq).0, refl, refl) in
      rw (← it, ← end) ((token, inl refl), some)
  form_primary room e ts rest by_character found (n, more, eq, (it, end)) some =
      let token = one_here (λ y. (y.terminal ≡ t.Character) × (y.place ≡ n.place) × (character_value y.text ≡ character_value n.text)) eq ((seen found eq).0, refl, refl) in
      rw (← it, ← end) ((token, inl refl), some)
  form_primary room e ts rest by_string found (n, more, eq, (it, end)) some =
      let token = one_here (λ y. (y.terminal ≡ t.StringText) × (y.place ≡ n.place) × (string_value y.text ≡ string_value n.text)) eq ((seen found eq).0, refl, refl) in
      rw (← it, ← end) ((token, inl refl), some)
  form_primary room e ts rest by_true found (n, more, eq, (it, end)) some = rw (← it, ← end) ((the_at_here (seen found eq), inl refl), some)
  form_primary room e ts rest by_false found (n, more, eq, (it, end)) some = rw (← it, ← end) ((the_at_here (seen found eq), inl refl), some)
  form_primary room e ts rest by_void found (n, more, eq, (it, end)) some = rw (← it, ← end) ((the_at_here (seen found eq), inl refl), some)
  form_primary room e ts rest by_current found (n, more, eq, (it, end)) some = rw (← it, ← end) ((the_at_here (seen found eq), inl refl), some)
  form_primary room e ts rest by_result found (n, more, eq, (it, end)) some = rw (← it, ← end) ((the_at_here (seen found eq), inl refl), some)
  form_primary room e ts rest by_parenthesis found (lower, (n, more, eq, (v, mid, mv, (c, mid', mc, (it, end))))) some =
      let low = room_below 1 room lower in
      let a = meant.expressions mv (omega arith) (omega arith) (omega arith) in
      rw (← it, ← end) (((more, the_at_here (seen found eq), (mid, a.0, the_here (meant.tokens mc))), inl refl), omega (arith, a.1))
  form_primary room e ts rest by_create found (lower, (w, more, eq, (b, m1, mb, (ty, m2, mt, (c, m3, mc, (k, m4, mk, (it, end))))))) some =
      let low = room_below 1 room lower in
      let a = meant.types mt (omega arith) in
      let behind = meant.expressions mk some in
      rw (← it, ← end) (((more, the_at_here (seen found eq), (m3, (m1, the_here (meant.tokens mb), (m2, a.0, the_here (meant.tokens mc))), behind.0)), inl refl), omega (arith, a.1, behind.1))
  form_primary room e ts rest no_primary found m some = absurd m

  form_precursor : (room : ℕ) (p : Place) (e : Ex) (ts rest : List Token) → Means M (expression_rule (precursor_rest room p)) e ts rest → ExpressionMeans (precursor_rest room p) e ts rest
  form_precursor room p e ts rest (y, there, inl (same, (b, more, eq, (n, m1, mn, (c, m2, mc, (args, m3, ma, (it, end))))))) some =
      let a = meant.expressions ma some in
      rw (← end) (Some (name_of n), args, sym it, (m2, (more, the_here (seen (tested_is ts t.OpenBrace y there same) eq), (m1, name_here (meant.tokens mn), the_here (meant.tokens mc))), a.0), a.1)
  form_precursor room p e ts rest (y, there, inr (other, (args, mid, ma, (it, end)))) some =
      let a = meant.expressions ma some in
      rw (← end) (None, args, sym it, (ts, tested_other ts t.OpenBrace y there other, a.0), a.1)

  form_creator : (room : ℕ) (c : Creator) (ts rest : List Token) → Means M (expression_rule (creator room)) c ts rest → ExpressionMeans (creator room) c ts rest
  form_creator room c ts rest (y, there, inl (same, (w, more, eq, (n, m1, mn, (args, m2, ma, (it, end)))))) some =
      let a = meant.expressions ma some in
      rw (← it, ← end) ((more, the_here (seen (tested_is ts t.Dot y there same) eq), (m1, name_here (meant.tokens mn), a.0)), a.1)
  form_creator room c ts rest (y, there, inr (other, (it, end))) some = rw (← it, ← end) ((ts, (refl, refl), tested_other ts t.Dot y there other), some)

  -- ---- arguments

  form_arguments : (room : ℕ) (es : Exs) (ts rest : List Token) → Means M (expression_rule (arguments room)) es ts rest → ExpressionMeans (arguments room) es ts rest
  form_arguments room es ts rest (y, there, inl (same, (lower, (n, more, eq, (all, mid, ma, (c, mid', mc, (it, end))))))) some =
      let low = room_below 1 room lower in
      let a = meant.expressions ma (omega arith) in
      rw (← it, ← end) (in_parentheses all ts more mid mid' (the_here (seen (tested_is ts t.OpenParenthesis y there same) eq)) a.0 (the_here (meant.tokens mc)), omega (arith, a.1))
  form_arguments room es ts rest (y, there, inr (other, (it, end))) some = rw (← it, ← end) (tested_other ts t.OpenParenthesis y there other, some)

  form_listed : (room : ℕ) (es : Exs) (ts rest : List Token) → Means M (expression_rule (listed room)) es ts rest → ExpressionMeans (listed room) es ts rest
  form_listed room es ts rest (first, mid, mf, (more, mid', mo, (it, end))) some =
      let a = meant.expressions mf some (omega arith) (omega arith) in
      let b = meant.expressions mo some in
      rw (← it, ← end) ((mid, a.0, b.0), omega (arith, a.1, b.1))

  form_others : (room : ℕ) (es : Exs) (ts rest : List Token) → Means M (expression_rule (others room)) es ts rest → ExpressionMeans (others room) es ts rest
  form_others room es ts rest (y, there, inl (same, (n, more, eq, (all, mid, ma, (it, end))))) some =
      let a = meant.expressions ma some in
      rw (← it, ← end) (after_comma all ts more mid (the_here (seen (tested_is ts t.Comma y there same) eq)) a.0, a.1)
  form_others room es ts rest (y, there, inr (other, (it, end))) some = rw (← it, ← end) (tested_other ts t.Comma y there other, omega arith)

  pub expression_forms : (g : ExpressionGoal) (a : ExpressionFound g) (ts rest : List Token) → Means M (expression_rule g) a ts rest → ExpressionMeans g a ts rest
  expression_forms (expression room k) e ts rest m = form_expression room k e ts rest m
  expression_forms (climbing room k left) e ts rest m = form_climbing room k left e ts rest (operator m.0) (ap operator m.1) m.2
  expression_forms (operand room) e ts rest (x, there, m) = form_operand room e ts rest (operand_start x) (rw there (operand_token x)) m
  expression_forms test_local l ts rest m = form_local l ts rest m
  expression_forms (chain room) e ts rest m = form_chain room e ts rest m
  expression_forms (dots room left) e ts rest m = form_dots room left e ts rest m
  expression_forms (dotted room left) e ts rest m = form_dotted room left e ts rest m
  expression_forms (primary room) e ts rest (x, there, m) = form_primary room e ts rest (primary_start x) (rw there (primary_token x)) m
  expression_forms (precursor_rest room p) e ts rest m = form_precursor room p e ts rest m
  expression_forms (creator room) c ts rest m = form_creator room c ts rest m
  expression_forms (arguments room) es ts rest m = form_arguments room es ts rest m
  expression_forms (listed room) es ts rest m = form_listed room es ts rest m
  expression_forms (others room) es ts rest m = form_others room es ts rest m
