-- Literals and notes.
use Rattle.std.proofs.Common.{◌≡◌, ◌≢◌, ℕ, true, false, Some, None, List, ◌∷◌, drop, refl, ap, sym, subst}
use Rattle.eif_tree.specs.declared.Literal.{Literal}
use Rattle.eif_tree.specs.declared.Literal.TheVariants as lit
use Rattle.eif_grammar.specs.declared.terminal.Terminal.{Terminal}
use Rattle.eif_grammar.specs.declared.terminal.Terminal.TheVariants as t
use Rattle.eif_grammar.specs.ClassRules.{LiteralStart, no_literal, literal_start, literal_by}
use Rattle.eif_grammar.specs.Goals.{literal, note_item, more_note_items, note_entries, semis, instruction_goal, class_goal}
use Rattle.eif_grammar.specs.Literals.{integer_value, character_value, string_value}
use Rattle.eif_grammar.specs.Outcomes.{Outcome, got, Runs, Calls}
use Rattle.eif_grammar.specs.Reader.{Reader, done, call}
use Rattle.eif_grammar.specs.Spelling.{head}
use Rattle.eif_grammar.specs.Tokens.{Token}
use Rattle.eif_grammar_laws.proofs.Readers.{by_rule, looked, called, taken, ended}
use Rattle.eif_grammar_laws.proofs.Taken.{tail}
use Rattle.eif_grammar_laws.proofs.Terminals.{on_other}
use Rattle.eif_parse_expr.specs.Readings.{first, Taken}
use Rattle.eif_parse_expr.proofs.Bind.{bound}
use Rattle.eif_parse_expr.proofs.Steps.{cut_taken, on_here, expect_here}
use Rattle.eif_parse.specs.ClassSubrules.{literal_value, note_items}

-- ---- literals

pub literal_begun : {ts : List Token} {u : Outcome Literal} (s : LiteralStart) → literal_start (head ts) ≡ s → Runs (literal_by s) ts u → Calls (class_goal literal) ts u
literal_begun {ts} {u} s e h = by_rule (looked (subst (λ x. Runs (literal_by x) ts u) (sym e) h))

literal_taken : (x : Terminal) (w : Token) (rest : List Token) (v : Literal) → literal_value x w ≡ Some v → Runs (literal_by (literal_start x)) (w ∷ rest) (got v rest)
literal_taken t.Integer w rest v e = let same : lit.Int (integer_value w.text) ≡ v = cc in rw (← same) (taken ended)
literal_taken t.Character w rest v e = let same : lit.Char (character_value w.text) ≡ v = cc in rw (← same) (taken ended)
literal_taken t.StringText w rest v e = let same : lit.Text (string_value w.text) ≡ v = cc in rw (← same) (taken ended)
literal_taken t.True w rest v e = let same : lit.Bool true ≡ v = cc in rw (← same) (taken ended)
literal_taken t.False w rest v e = let same : lit.Bool false ≡ v = cc in rw (← same) (taken ended)
literal_taken _ w rest v e = cc

pub literal_here : {x : Terminal} {ts : List Token} {at after : ℕ} (v : Literal) → literal_value x (first (drop at ts)) ≡ Some v → Taken x ts at after
    → Calls (class_goal literal) (drop at ts) (got v (drop after ts))
literal_here {x} {ts} {at} {after} v found taken' =
    literal_begun (literal_start x) (ap literal_start taken'.is)
    (subst (λ l. Runs (literal_by (literal_start x)) l (got v (drop after ts))) (sym (cut_taken x ts at after taken')) (literal_taken x (first (drop at ts)) (drop after ts) v found))

pub not_literal : (x : Terminal) (w : Token) → literal_value x w ≡ None → x ≢ t.Plus → x ≢ t.Minus → literal_start x ≡ no_literal
not_literal t.Integer w none a b = cc
not_literal t.Character w none a b = cc
not_literal t.StringText w none a b = cc
not_literal t.True w none a b = cc
not_literal t.False w none a b = cc
not_literal t.Plus w none a b = absurd (a refl)
not_literal t.Minus w none a b = absurd (b refl)
not_literal _ w none a b = refl

-- ---- notes

-- the last item
pub last_note_item : {x : Unit {0}} {ts mid : List Token} → Calls (class_goal note_item) ts (got x mid) → head mid ≢ t.Comma → Runs note_items ts (got tt mid)
last_note_item c other = called c (called (by_rule (on_other other ended)) ended)

-- an item, a comma and what stands behind
pub one_more_note_item : {x : Unit {0}} {ts all : List Token} {at after : ℕ} (u : Outcome (Unit {0})) → Calls (class_goal note_item) ts (got x (drop at all)) → Taken t.Comma all at after
    → Runs note_items (drop after all) u → Runs note_items ts u
one_more_note_item u c comma r = called {k = λ _. call (class_goal more_note_items) done} c (tail {g = class_goal more_note_items} u (by_rule (on_here comma r)))

-- behind the items of a note
abbrev pub items_rest : Unit {0} → Reader (Unit {0})
items_rest _ = call (instruction_goal semis) (λ _. call (class_goal note_entries) done)

-- a note and what stands behind
pub one_more_note : {x : Unit {0}} {ts mid next : List Token} {at colon start : ℕ} (u : Outcome (Unit {0})) → Taken t.Identifier ts at colon → Taken t.Colon ts colon start
    → Runs note_items (drop start ts) (got x mid) → Calls (instruction_goal semis) mid (got tt next) → Calls (class_goal note_entries) next u → Calls (class_goal note_entries) (drop at ts) u
one_more_note {x} {ts} {mid} {start} u name colon r s c =
    by_rule (on_here name (expect_here colon (bound items_rest note_items (drop start ts) mid x u r (called s (tail {g = class_goal note_entries} u c)))))
