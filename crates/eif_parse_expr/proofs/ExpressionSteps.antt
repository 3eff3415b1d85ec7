-- How expressions begin, and their parts together.
use Rattle.std.proofs.Common.{◌≡◌, ◌≢◌, ℕ, ◌-◌, ◌≤◌, ◌<◌, Bool, true, false, nat_le, nat_lt, if◌then◌else◌, Option, Some, None, List, ◌∷◌, drop, refl, ap, sym, subst}
use Rattle.std.specs.Str.{str_to_ascii_lowercase}
use Rattle.eif_base.specs.declared.Place.{Place}
use Rattle.eif_tree.specs.declared.NameAt.{NameAt}
use Rattle.eif_tree.specs.declared.Op.{Op}
use Rattle.eif_tree.specs.Tree.{TypeT, Ex, Exs, unqualified, precursor, creation, test, paren, unary, no_exs, and_ex}
use Rattle.eif_tree.specs.Height.{height}
use Rattle.eif_grammar.specs.declared.terminal.Terminal.{Terminal}
use Rattle.eif_grammar.specs.declared.terminal.Terminal.TheVariants as t
use Rattle.eif_grammar.specs.Tokens.{Token}
use Rattle.eif_grammar.specs.Forms.{level, operator, prefix_operator}
use Rattle.eif_grammar.specs.Spelling.{head}
use Rattle.eif_grammar.specs.Goals.{expression, climbing, operand, test_local, dots, dotted, primary, precursor_rest, creator, arguments, listed, others, expression_goal}
use Rattle.eif_grammar.specs.Reader.{Reader, done, next, call, guard, expect}
use Rattle.eif_grammar.specs.ExpressionRules.{second_token, right_of, behind_operator, climb, OperandStart, braced, attached, prefixed, chained, operand_start, operand_by, by_name, by_precursor, by_parenthesis, by_create, no_primary, primary_start, primary_by}
use Rattle.eif_grammar.specs.Outcomes.{Outcome, got, refused, stuck, Runs, Calls}
use Rattle.eif_grammar_laws.proofs.Readers.{by_rule, looked, called, call_refused, taken, ended, forked, forked_not}
use Rattle.eif_grammar_laws.proofs.Terminals.{on_found, on_other}
use Rattle.eif_grammar_laws.proofs.Taken.{tail, roomy}
use Rattle.eif_grammar_laws.proofs.Starts.{prefix_starts}
use Rattle.eif_grammar_laws.proofs.ExpressionSteps.{operand_at, primary_at}
use Rattle.eif_parse_expr.specs.declared.operators.Sign.{Sign}
use Rattle.eif_parse_expr.specs.Readings.{first, Taken}
use Rattle.eif_parse_expr.specs.Subrules.{bind, of_level, sign, sign_behind, begins_test, TestHeadT, test_head, test_rest, local_behind, closed_type, link, parent_name, leaf_value}
use Rattle.eif_parse_expr.proofs.Lists.{and_ex_first}
use Rattle.eif_parse_expr.proofs.Steps.{next_here, on_here, expect_here, other_here, no_room, cut_taken}

-- ---- operators

pub sign_alone : {x : Terminal} {ts : List Token} {at after : ℕ} (o : Op) → second_token o ≡ None → Taken x ts at after
    → Runs (sign o) (drop at ts) (got (record { op = o; place = (first (drop at ts)).place }) (drop after ts))
sign_alone {x} {ts} {at} {after} o none taken' =
    next_here taken' (subst (λ s. Runs (sign_behind (first (drop at ts)).place o s) (drop after ts) (got (record { op = o; place = (first (drop at ts)).place }) (drop after ts)))
    (sym none) ended)

pub sign_both : {x : Terminal} {ts : List Token} {at mid after : ℕ} (o o' : Op) (y : Terminal) → second_token o ≡ Some (y, o') → Taken x ts at mid → Taken y ts mid after
    → Runs (sign o) (drop at ts) (got (record { op = o'; place = (first (drop at ts)).place }) (drop after ts))
sign_both {x} {ts} {at} {mid} {after} o o' y some taken' second =
    next_here taken' (subst (λ s. Runs (sign_behind (first (drop at ts)).place o s) (drop mid ts) (got (record { op = o'; place = (first (drop at ts)).place }) (drop after ts)))
    (sym some) (on_here second ended))

pub sign_first : {x : Terminal} {ts : List Token} {at mid : ℕ} (o o' : Op) (y : Terminal) → second_token o ≡ Some (y, o') → Taken x ts at mid → head (drop mid ts) ≢ y
    → Runs (sign o) (drop at ts) (got (record { op = o; place = (first (drop at ts)).place }) (drop mid ts))
sign_first {x} {ts} {at} {mid} o o' y some taken' other =
    next_here taken' (subst (λ s. Runs (sign_behind (first (drop at ts)).place o s) (drop mid ts) (got (record { op = o; place = (first (drop at ts)).place }) (drop mid ts)))
    (sym some) (on_other other ended))

-- ---- leaves

some_same : {a b : Ex} → Some a ≡ Some b → a ≡ b
some_same e = cc

-- a value that is one token
pub leaf_found : (room : ℕ) (x : Terminal) (w : Token) (ts : List Token) (e : Ex) → leaf_value x w ≡ Some e → Runs (primary_by room (primary_start x)) (w ∷ ts) (got e ts)
leaf_found room t.Integer w ts e found = rw (← some_same found) (taken ended)
leaf_found room t.Character w ts e found = rw (← some_same found) (taken ended)
leaf_found room t.StringText w ts e found = rw (← some_same found) (taken ended)
leaf_found room t.True w ts e found = rw (← some_same found) (taken ended)
leaf_found room t.False w ts e found = rw (← some_same found) (taken ended)
leaf_found room t.Void w ts e found = rw (← some_same found) (taken ended)
leaf_found room t.Current w ts e found = rw (← some_same found) (taken ended)
leaf_found room t.Result w ts e found = rw (← some_same found) (taken ended)
leaf_found room _ w ts e found = cc

-- no value, and nothing else that begins a primary
pub no_leaf : (x : Terminal) (w : Token) → leaf_value x w ≡ None → x ≢ t.Identifier → x ≢ t.Precursor → x ≢ t.OpenParenthesis → x ≢ t.Create → primary_start x ≡ no_primary
no_leaf t.Integer w none a b c d = cc
no_leaf t.Character w none a b c d = cc
no_leaf t.StringText w none a b c d = cc
no_leaf t.True w none a b c d = cc
no_leaf t.False w none a b c d = cc
no_leaf t.Void w none a b c d = cc
no_leaf t.Current w none a b c d = cc
no_leaf t.Result w none a b c d = cc
no_leaf t.Identifier w none a b c d = absurd (a refl)
no_leaf t.Precursor w none a b c d = absurd (b refl)
no_leaf t.OpenParenthesis w none a b c d = absurd (c refl)
no_leaf t.Create w none a b c d = absurd (d refl)
no_leaf _ w none a b c d = refl

pub leaf_here : (room : ℕ) {x : Terminal} {ts : List Token} {at after : ℕ} (e : Ex) → leaf_value x (first (drop at ts)) ≡ Some e → Taken x ts at after
    → Calls (expression_goal (primary room)) (drop at ts) (got e (drop after ts))
leaf_here room {x} {ts} {at} {after} e found taken' =
    primary_at room (drop at ts) (got e (drop after ts)) (primary_start x) (ap primary_start taken'.is)
    (subst (λ l. Runs (primary_by room (primary_start x)) l (got e (drop after ts))) (sym (cut_taken x ts at after taken')) (leaf_found room x (first (drop at ts)) (drop after ts) e found))

-- ---- operands and tests

pub is_chained : (x : Terminal) → begins_test x ≡ false → prefix_operator x ≡ None → operand_start x ≡ chained
is_chained t.OpenBrace e none = cc
is_chained t.Attached e none = cc
is_chained t.Not e none = cc
is_chained t.Plus e none = cc
is_chained t.Minus e none = cc
is_chained _ e none = refl

abbrev IsTest : OperandStart → Type 0
IsTest braced = Unit {0}
IsTest attached = Unit {0}
IsTest _ = ⊥

is_test : (x : Terminal) → begins_test x ≡ true → IsTest (operand_start x)
is_test t.OpenBrace e = tt
is_test t.Attached e = tt
is_test _ e = cc

pub test_whole : {room : ℕ} {ts : List Token} {u : Outcome Ex} → begins_test (head ts) ≡ true → 1 < room
    → Runs (bind (test_head (room - 1) (operand_start (head ts))) (test_rest room)) ts u → Calls (expression_goal (operand room)) ts u
test_whole {room} {ts} {u} begins lower r = by_rule (looked (go (operand_start (head ts)) (is_test (head ts) begins) r))
  where
    go : (s : OperandStart) → IsTest s → Runs (bind (test_head (room - 1) s) (test_rest room)) ts u → Runs (operand_by room s) ts u
    go braced is h = roomy 1 room lower h
    go attached is h = roomy 1 room lower h
    go (prefixed o) is h = absurd is
    go chained is h = absurd is

pub test_high : {room : ℕ} {ts : List Token} → begins_test (head ts) ≡ true → room ≤ 1 → Calls (expression_goal (operand room)) ts (refused ts)
test_high {room} {ts} begins high = by_rule (looked (go (operand_start (head ts)) (is_test (head ts) begins)))
  where
    go : (s : OperandStart) → IsTest s → Runs (operand_by room s) ts (refused ts)
    go braced is = no_room 1 room high
    go attached is = no_room 1 room high
    go (prefixed o) is = absurd is
    go chained is = absurd is

-- the type of a test
abbrev pub attached_type : Place → TypeT → Reader TestHeadT
attached_type p ty = done (record { place = p; type_tree = Some ty; local = None })

abbrev pub braced_test_type : Place → NameAt → TypeT → Reader TestHeadT
braced_test_type p n ty = done (record { place = p; type_tree = Some ty; local = Some n })

pub local_found : {ts : List Token} (u : Outcome (Option NameAt)) → Calls (expression_goal test_local) ts u → Runs (local_behind None) ts u
local_found u c = tail {g = expression_goal test_local} u c

-- what is tested and the local are known
abbrev pub test_done : TestHeadT → Ex → Option NameAt → Reader Ex
test_done h e l = done (test h.place h.type_tree l e)

pub prefix_high : {room : ℕ} {ts : List Token} (o : Op) → prefix_operator (head ts) ≡ Some o → room ≤ 1 → Calls (expression_goal (operand room)) ts (refused ts)
prefix_high {room} {ts} o found high = operand_at room ts (refused ts) (prefixed o) (prefix_starts (head ts) o found) (no_room 1 room high)

pub prefix_refused : {room : ℕ} {x : Terminal} {ts rest : List Token} {at after : ℕ} (o : Op) → prefix_operator (head (drop at ts)) ≡ Some o → 1 < room → Taken x ts at after
    → Calls (expression_goal (operand (room - 1))) (drop after ts) (refused rest) → Calls (expression_goal (operand room)) (drop at ts) (refused rest)
prefix_refused {room} {x} {ts} {rest} {at} o found lower sign' r =
    operand_at room (drop at ts) (refused rest) (prefixed o) (prefix_starts (head (drop at ts)) o found) (roomy 1 room lower (next_here sign' (call_refused r)))

pub prefix_whole : {room : ℕ} {x : Terminal} {ts rest : List Token} {at after : ℕ} {e : Ex} (o : Op) → prefix_operator (head (drop at ts)) ≡ Some o → 1 < room → Taken x ts at after
    → Calls (expression_goal (operand (room - 1))) (drop after ts) (got e rest) → Calls (expression_goal (operand room)) (drop at ts) (got (unary (first (drop at ts)).place o e) rest)
prefix_whole {room} {x} {ts} {rest} {at} {after} {e} o found lower sign' r =
    operand_at room (drop at ts) (got (unary (first (drop at ts)).place o e) rest) (prefixed o) (prefix_starts (head (drop at ts)) o found) (roomy 1 room lower (next_here sign' (called r ended)))

-- ---- operators and their operands

none_by : (b : Bool) (o : Op) → (if b then Some o else None) ≡ None → b ≡ false
none_by true o e = cc
none_by false o e = refl

some_by : (b : Bool) (o o' : Op) → (if b then Some o else None) ≡ Some o' → (o ≡ o') × (b ≡ true)
some_by true o o' e = (cc, refl)
some_by false o o' e = cc

-- the operator is there, and its level is no lower
pub of_level_some : (least : ℕ) (x : Option Op) (o : Op) → of_level least x ≡ Some o → (x ≡ Some o) × (nat_le least (level o) ≡ true)
of_level_some least None o e = cc
of_level_some least (Some o') o e =
    let both = some_by (nat_le least (level o')) o' o e in
    (ap Some both.0, subst (λ y. nat_le least (level y) ≡ true) both.0 both.1)

pub climb_end : {room least : ℕ} {e : Ex} {ts : List Token} → of_level least (operator (head ts)) ≡ None → Calls (expression_goal (climbing room least e)) ts (got e ts)
climb_end {room} {least} {e} {ts} none = by_rule (looked (go (operator (head ts)) none))
  where
    go : (x : Option Op) → of_level least x ≡ None → Runs (climb room least e x) ts (got e ts)
    go None none = ended
    go (Some o) none = forked_not (none_by (nat_le least (level o)) o none) ended

climb_at : {room least : ℕ} {e : Ex} {ts : List Token} {u : Outcome Ex} (o : Op) → of_level least (operator (head ts)) ≡ Some o
    → Runs (guard (nat_lt (height e) room) (next (λ w. behind_operator room least e w.place o (second_token o)))) ts u → Calls (expression_goal (climbing room least e)) ts u
climb_at {room} {least} {e} {ts} {u} o found h =
    let both = of_level_some least (operator (head ts)) o found in
    by_rule (looked (subst (λ x. Runs (climb room least e x) ts u) (sym both.0) (forked both.1 h)))

pub climb_high : {room least : ℕ} {e : Ex} {ts : List Token} (o : Op) → of_level least (operator (head ts)) ≡ Some o → room ≤ height e
    → Calls (expression_goal (climbing room least e)) ts (refused ts)
climb_high {room} {least} {e} {ts} o found high = climb_at o found (no_room (height e) room high)

-- behind the operator
abbrev pub sign_rest : ℕ → ℕ → Ex → Sign → Reader Ex
sign_rest room least e s = right_of room least e s.place s.op

pub climb_whole : {room least : ℕ} {e : Ex} {ts : List Token} {u : Outcome Ex} (o : Op) → of_level least (operator (head ts)) ≡ Some o → height e < room
    → Runs (bind (sign o) (sign_rest room least e)) ts u → Calls (expression_goal (climbing room least e)) ts u
climb_whole {room} {least} {e} {ts} {u} o found lower h = climb_at o found (roomy (height e) room lower (go (second_token o) h))
  where
    go : (s : Option (Terminal × Op)) → Runs (next (λ w. bind (sign_behind w.place o s) (sign_rest room least e))) ts u → Runs (next (λ w. behind_operator room least e w.place o s)) ts u
    go None h = h
    go (Some second) h = h

-- ---- chains

-- behind a call on a target
abbrev pub dots_rest : ℕ → Ex → Reader Ex
dots_rest room e = call (expression_goal (dots room e)) done

pub dots_end : {room : ℕ} {e : Ex} {ts : List Token} → head ts ≢ t.Dot → Calls (expression_goal (dots room e)) ts (got e ts)
dots_end other = by_rule (on_other other ended)

pub dots_high : {room : ℕ} {e : Ex} {ts : List Token} → head ts ≡ t.Dot → room ≤ height e → Calls (expression_goal (dots room e)) ts (refused ts)
dots_high {room} {e} found high = by_rule (on_found found (no_room (height e) room high))

pub dots_whole : {room : ℕ} {e : Ex} {ts : List Token} {at after : ℕ} {u : Outcome Ex} → height e < room → Taken t.Dot ts at after
    → Runs (bind (link room e) (dots_rest room)) (drop after ts) u → Calls (expression_goal (dots room e)) (drop at ts) u
dots_whole {room} {e} lower dot h = by_rule (on_found dot.is (roomy (height e) room lower (next_here dot h)))

pub dotted_high : {room : ℕ} {e : Ex} {ts : List Token} → room ≤ height e → Calls (expression_goal (dotted room e)) ts (refused ts)
dotted_high {room} {e} high = by_rule (no_room (height e) room high)

pub dotted_other : {room : ℕ} {e : Ex} {ts : List Token} → height e < room → head ts ≢ t.Dot → Calls (expression_goal (dotted room e)) ts (refused ts)
dotted_other {room} {e} lower other = by_rule (roomy (height e) room lower (other_here other))

pub dotted_whole : {room : ℕ} {e : Ex} {ts : List Token} {at after : ℕ} {u : Outcome Ex} → height e < room → Taken t.Dot ts at after
    → Runs (bind (link room e) (dots_rest room)) (drop after ts) u → Calls (expression_goal (dotted room e)) (drop at ts) u
dotted_whole {room} {e} lower dot h = by_rule (roomy (height e) room lower (expect_here dot h))

-- behind the parent of a `Precursor`
abbrev pub precursor_args : ℕ → Place → Option NameAt → Reader Ex
precursor_args room p n = call (expression_goal (arguments room)) (λ args. done (precursor p n args))

pub precursor_whole : {room : ℕ} {p : Place} {ts : List Token} {u : Outcome Ex} → Runs (bind parent_name (precursor_args room p)) ts u → Calls (expression_goal (precursor_rest room p)) ts u
precursor_whole h = by_rule h

-- behind a created type
abbrev pub created_rest : ℕ → Place → TypeT → Reader Ex
created_rest room p ty = call (expression_goal (creator room)) (λ c. done (creation p ty c.name c.arguments))

pub created_high : {room : ℕ} {ts : List Token} → head ts ≡ t.Create → room ≤ 1 → Calls (expression_goal (primary room)) ts (refused ts)
created_high {room} {ts} found high = primary_at room ts (refused ts) by_create (ap primary_start found) (no_room 1 room high)

pub created_whole : {room : ℕ} {x : Terminal} {ts : List Token} {at after : ℕ} {u : Outcome Ex} → head (drop at ts) ≡ t.Create → 1 < room → Taken x ts at after
    → Runs (expect t.OpenBrace (bind (closed_type (room - 1)) (created_rest room (first (drop at ts)).place))) (drop after ts) u → Calls (expression_goal (primary room)) (drop at ts) u
created_whole {room} {x} {ts} {at} {after} {u} found lower word h = primary_at room (drop at ts) u by_create (ap primary_start found) (roomy 1 room lower (next_here word h))

-- behind an opening parenthesis
abbrev pub paren_rest : Place → Ex → Reader Ex
paren_rest p e = expect t.CloseParenthesis (done (paren p e))

pub paren_high : {room : ℕ} {ts : List Token} → head ts ≡ t.OpenParenthesis → room ≤ 1 → Calls (expression_goal (primary room)) ts (refused ts)
paren_high {room} {ts} found high = primary_at room ts (refused ts) by_parenthesis (ap primary_start found) (no_room 1 room high)

pub paren_whole : {room : ℕ} {x : Terminal} {ts : List Token} {at after : ℕ} {u : Outcome Ex} → head (drop at ts) ≡ t.OpenParenthesis → 1 < room → Taken x ts at after
    → Runs (call (expression_goal (expression (room - 1) 1)) (paren_rest (first (drop at ts)).place)) (drop after ts) u → Calls (expression_goal (primary room)) (drop at ts) u
paren_whole {room} {x} {ts} {at} {after} {u} found lower open' h = primary_at room (drop at ts) u by_parenthesis (ap primary_start found) (roomy 1 room lower (next_here open' h))

-- behind a name
abbrev pub name_args : ℕ → Token → Reader Ex
name_args room n = call (expression_goal (arguments room)) (λ args. done (unqualified n.place (str_to_ascii_lowercase n.text) args))

pub name_whole : {room : ℕ} {x : Terminal} {ts : List Token} {at after : ℕ} {u : Outcome Ex} → head (drop at ts) ≡ t.Identifier → Taken x ts at after
    → Runs (name_args room (first (drop at ts))) (drop after ts) u → Calls (expression_goal (primary room)) (drop at ts) u
name_whole {room} {x} {ts} {at} {after} {u} found name h = primary_at room (drop at ts) u by_name (ap primary_start found) (next_here name h)

pub precursor_here : {room : ℕ} {x : Terminal} {ts : List Token} {at after : ℕ} (u : Outcome Ex) → head (drop at ts) ≡ t.Precursor → Taken x ts at after
    → Calls (expression_goal (precursor_rest room (first (drop at ts)).place)) (drop after ts) u → Calls (expression_goal (primary room)) (drop at ts) u
precursor_here {room} {x} {ts} {at} {after} u found word c = primary_at room (drop at ts) u by_precursor (ap primary_start found) (next_here word (tail u c))

-- ---- arguments

pub no_arguments : {room : ℕ} {ts : List Token} → head ts ≢ t.OpenParenthesis → Calls (expression_goal (arguments room)) ts (got no_exs ts)
no_arguments other = by_rule (on_other other ended)

pub arguments_high : {room : ℕ} {ts : List Token} → head ts ≡ t.OpenParenthesis → room ≤ 1 → Calls (expression_goal (arguments room)) ts (refused ts)
arguments_high {room} found high = by_rule (on_found found (no_room 1 room high))

abbrev pub arguments_rest : Exs → Reader Exs
arguments_rest es = expect t.CloseParenthesis (done es)

pub arguments_whole : {room : ℕ} {ts : List Token} {at after : ℕ} {u : Outcome Exs} → 1 < room → Taken t.OpenParenthesis ts at after
    → Runs (call (expression_goal (listed (room - 1))) arguments_rest) (drop after ts) u → Calls (expression_goal (arguments room)) (drop at ts) u
arguments_whole {room} lower open' h = by_rule (on_found open'.is (roomy 1 room lower (next_here open' h)))

pub listed_last : {room : ℕ} {e : Ex} {ts mid : List Token} → Calls (expression_goal (expression room 1)) ts (got e mid) → head mid ≢ t.Comma
    → Calls (expression_goal (listed room)) ts (got (and_ex e no_exs) mid)
listed_last c other = by_rule (called c (called (by_rule (on_other other ended)) ended))

others_found : {room : ℕ} {ts : List Token} {at after : ℕ} (u : Outcome Exs) → Taken t.Comma ts at after → Calls (expression_goal (listed room)) (drop after ts) u
    → Calls (expression_goal (others room)) (drop at ts) u
others_found u comma c = by_rule (on_here comma (tail u c))

-- one more argument, and those behind it
pub listed_more : {room : ℕ} {e : Ex} {ts all : List Token} {at after : ℕ} (u : Outcome Exs) → Calls (expression_goal (expression room 1)) ts (got e (drop at all)) → Taken t.Comma all at after
    → Calls (expression_goal (listed room)) (drop after all) u → Calls (expression_goal (listed room)) ts (and_ex_first e u)
listed_more (got es rest) c comma d = by_rule (called c (called (others_found (got es rest) comma d) ended))
listed_more (refused rest) c comma d = by_rule (called c (call_refused (others_found (refused rest) comma d)))
listed_more stuck c comma d = absurd (d.ends refl)

pub no_creator : {room : ℕ} {ts : List Token} → head ts ≢ t.Dot → Calls (expression_goal (creator room)) ts (got (record { name = None; arguments = no_exs }) ts)
no_creator other = by_rule (on_other other ended)
