-- How types begin, and their parts together.
use Rattle.std.proofs.Common.{◌≡◌, ◌≢◌, ℕ, ◌-◌, ◌<◌, Some, None, List, drop, refl, ap, sym, subst}
use Rattle.eif_tree.specs.declared.Mark.{Mark}
use Rattle.eif_tree.specs.declared.Mark.TheVariants.{Attached, Detachable}
use Rattle.eif_tree.specs.Tree.{TypeT, Types, no_types, and_type}
use Rattle.eif_grammar.specs.declared.terminal.Terminal.{Terminal}
use Rattle.eif_grammar.specs.declared.terminal.Terminal.TheVariants as t
use Rattle.eif_grammar.specs.Tokens.{Token}
use Rattle.eif_grammar.specs.Spelling.{head}
use Rattle.eif_grammar.specs.Goals.{written, actuals, more_types, type_goal}
use Rattle.eif_grammar.specs.Reader.{Reader, done, expect}
use Rattle.eif_grammar.specs.TypeRules.{TypeStart, with_mark, with_name, no_type, type_start, written_by}
use Rattle.eif_grammar.specs.Outcomes.{Outcome, got, refused, stuck, Runs, Calls}
use Rattle.eif_grammar_laws.proofs.Readers.{by_rule, looked, called, call_refused, ended}
use Rattle.eif_grammar_laws.proofs.Terminals.{on_found, on_other}
use Rattle.eif_grammar_laws.proofs.Taken.{roomy}
use Rattle.eif_grammar_laws.proofs.StepsBack.{look_back}
use Rattle.eif_parse_expr.specs.declared.types.TypeHead.{TypeHead}
use Rattle.eif_parse_expr.specs.Readings.{Taken}
use Rattle.eif_parse_expr.specs.Subrules.{bind, mark_of, type_head, type_head_by, headed, type_list}
use Rattle.eif_parse_expr.proofs.Lists.{and_type_first}
use Rattle.eif_parse_expr.proofs.Steps.{next_here, on_here}

pub mark_starts : (x : Terminal) (m : Mark) → mark_of x ≡ Some m → type_start x ≡ with_mark m
mark_starts t.Question m e = let same : Detachable ≡ m = cc in ap with_mark same
mark_starts t.Detachable m e = let same : Detachable ≡ m = cc in ap with_mark same
mark_starts t.Exclamation m e = let same : Attached ≡ m = cc in ap with_mark same
mark_starts t.Attached m e = let same : Attached ≡ m = cc in ap with_mark same
mark_starts _ m e = cc

pub mark_some : (x : Terminal) (m : Mark) → mark_of x ≡ Some m → x ≢ t.EndOfText
mark_some t.EndOfText m e = cc
mark_some x m e = λ end. cc

pub nothing_starts : (x : Terminal) → mark_of x ≡ None → x ≢ t.Identifier → type_start x ≡ no_type
nothing_starts t.Identifier e other = absurd (other refl)
nothing_starts t.Question e other = cc
nothing_starts t.Detachable e other = cc
nothing_starts t.Exclamation e other = cc
nothing_starts t.Attached e other = cc
nothing_starts _ e other = refl

pub type_head_at : {ts : List Token} {u : Outcome TypeHead} (s : TypeStart) → type_start (head ts) ≡ s → Runs (type_head_by s) ts u → Runs type_head ts u
type_head_at {ts} {u} s e h = looked (subst (λ x. Runs (type_head_by x) ts u) (sym e) h)

pub written_whole : {room : ℕ} {ts : List Token} {u : Outcome TypeT} → Runs (bind type_head (headed room)) ts u → Calls (type_goal (written room)) ts u
written_whole {room} {ts} {u} r = by_rule (looked (go (type_start (head ts)) (look_back r)))
  where
    go : (s : TypeStart) → Runs (bind (type_head_by s) (headed room)) ts u → Runs (written_by room s) ts u
    go (with_mark m) h = h
    go with_name h = h
    go no_type h = h

pub no_actuals : {room : ℕ} {ts : List Token} → head ts ≢ t.OpenBracket → Calls (type_goal (actuals room)) ts (got no_types ts)
no_actuals other = by_rule (on_other other ended)

-- behind the actuals
abbrev pub actuals_rest : Types → Reader Types
actuals_rest ts = expect t.CloseBracket (done ts)

-- the actuals behind their bracket
pub actuals_whole : {room : ℕ} {ts : List Token} {at after : ℕ} {u : Outcome Types} → 1 < room → Taken t.OpenBracket ts at after
    → Runs (bind (type_list (room - 1)) actuals_rest) (drop after ts) u → Calls (type_goal (actuals room)) (drop at ts) u
actuals_whole {room} lower open' h = by_rule (on_found open'.is (roomy 1 room lower (next_here open' h)))

pub type_list_last : {room : ℕ} {ty : TypeT} {ts mid : List Token} → Calls (type_goal (written room)) ts (got ty mid) → head mid ≢ t.Comma
    → Runs (type_list room) ts (got (and_type ty no_types) mid)
type_list_last c other = called c (called (by_rule (on_other other ended)) ended)

more_of : {room : ℕ} {ts : List Token} {at after : ℕ} (u : Outcome Types) → Taken t.Comma ts at after → Runs (type_list room) (drop after ts) u → Calls (type_goal (more_types room)) (drop at ts) u
more_of u comma h = by_rule (on_here comma h)

-- one more type, and those behind it
pub type_list_more : {room : ℕ} {ty : TypeT} {ts all : List Token} {at after : ℕ} (u : Outcome Types) → Calls (type_goal (written room)) ts (got ty (drop at all)) → Taken t.Comma all at after
    → Runs (type_list room) (drop after all) u → Runs (type_list room) ts (and_type_first ty u)
type_list_more (got us rest) c comma h = called c (called (more_of (got us rest) comma h) ended)
type_list_more (refused rest) c comma h = called c (call_refused (more_of (refused rest) comma h))
type_list_more stuck c comma h = absurd (h.ends refl)
