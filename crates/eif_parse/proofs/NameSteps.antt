-- Names with commas between.
use Rattle.std.proofs.Common.{◌≢◌, ℕ, List, [], ◌∷◌, drop}
use Rattle.eif_tree.specs.declared.NameAt.{NameAt}
use Rattle.eif_grammar.specs.declared.terminal.Terminal.TheVariants as t
use Rattle.eif_grammar.specs.Tokens.{Token}
use Rattle.eif_grammar.specs.Spelling.{head}
use Rattle.eif_grammar.specs.Goals.{names, more_names, colon_names, class_goal}
use Rattle.eif_grammar.specs.Reader.{done, call, name_of}
use Rattle.eif_grammar.specs.Outcomes.{Outcome, got, refused, Calls}
use Rattle.eif_grammar_laws.proofs.Readers.{by_rule, called, ended}
use Rattle.eif_grammar_laws.proofs.Taken.{tail}
use Rattle.eif_grammar_laws.proofs.Terminals.{on_other}
use Rattle.eif_parse_expr.specs.Readings.{first, Taken}
use Rattle.eif_parse_expr.proofs.Steps.{on_here, token_here, expect_here, other_here}
use Rattle.eif_parse.proofs.Lists.{behind, part_first}

pub no_names : {ts : List Token} → head ts ≢ t.Identifier → Calls (class_goal names) ts (refused ts)
no_names other = by_rule (other_here other)

-- the last name
pub last_name : {ts : List Token} {at after : ℕ} → Taken t.Identifier ts at after → head (drop after ts) ≢ t.Comma
    → Calls (class_goal names) (drop at ts) (got (name_of (first (drop at ts)) ∷ []) (drop after ts))
last_name name other = by_rule (called (token_here name) (called (by_rule (on_other other ended)) ended))

-- a name, a comma and what stands behind
pub one_more_name : {ts : List Token} {at mid after : ℕ} (u : Outcome (List NameAt)) → Taken t.Identifier ts at mid → Taken t.Comma ts mid after
    → Calls (class_goal names) (drop after ts) u → Calls (class_goal names) (drop at ts) (behind (name_of (first (drop at ts)) ∷ []) u)
one_more_name u name comma c =
    by_rule (part_first name_of (call (class_goal more_names) done) u (token_here name)
    (tail {g = class_goal more_names} u (by_rule (on_here comma (tail {g = class_goal names} u c)))))

-- ---- names with a colon behind

pub no_colon : {ts : List Token} → head ts ≢ t.Comma → head ts ≢ t.Colon → Calls (class_goal colon_names) ts (refused ts)
no_colon comma other = by_rule (on_other comma (other_here other))

pub colon_found : {ts : List Token} {at after : ℕ} → head (drop at ts) ≢ t.Comma → Taken t.Colon ts at after → Calls (class_goal colon_names) (drop at ts) (got [] (drop after ts))
colon_found comma colon = by_rule (on_other comma (expect_here colon ended))

pub no_name_behind : {ts : List Token} {at mid : ℕ} → Taken t.Comma ts at mid → head (drop mid ts) ≢ t.Identifier → Calls (class_goal colon_names) (drop at ts) (refused (drop mid ts))
no_name_behind comma other = by_rule (on_here comma (other_here other))

-- a comma, a name and what stands behind
pub one_more_behind : {ts : List Token} {at mid after : ℕ} (u : Outcome (List NameAt)) → Taken t.Comma ts at mid → Taken t.Identifier ts mid after
    → Calls (class_goal colon_names) (drop after ts) u → Calls (class_goal colon_names) (drop at ts) (behind (name_of (first (drop mid ts)) ∷ []) u)
one_more_behind u comma name c =
    by_rule (on_here comma (part_first name_of (call (class_goal colon_names) done) u (token_here name) (tail {g = class_goal colon_names} u c)))
