-- Formals, clients and creators parts.
use Rattle.std.proofs.Common.{◌≢◌, ℕ, Option, Some, None, List, [], ◌∷◌, drop}
use Rattle.eif_tree.specs.declared.NameAt.{NameAt}
use Rattle.eif_tree.specs.Tree.{TypeT, FormalT, ClientsT, CreatorsT}
use Rattle.eif_grammar.specs.declared.terminal.Terminal.TheVariants as t
use Rattle.eif_grammar.specs.Tokens.{Token}
use Rattle.eif_grammar.specs.Spelling.{head}
use Rattle.eif_grammar.specs.Goals.{written, formal, formals, more_formals, names, clients, creators, type_goal, class_goal}
use Rattle.eif_grammar.specs.Parts.{most_height}
use Rattle.eif_grammar.specs.Reader.{Reader, done, call, expect, name_of}
use Rattle.eif_grammar.specs.ClassRules.{these_clients, creators_of}
use Rattle.eif_grammar.specs.Outcomes.{Outcome, got, refused, Runs, Calls}
use Rattle.eif_grammar_laws.proofs.Readers.{by_rule, called, call_refused, ended}
use Rattle.eif_grammar_laws.proofs.Taken.{tail}
use Rattle.eif_grammar_laws.proofs.Terminals.{on_other}
use Rattle.eif_parse_expr.specs.Readings.{first, Taken}
use Rattle.eif_parse_expr.proofs.Bind.{bound, bound_refused}
use Rattle.eif_parse_expr.proofs.Steps.{on_here, token_here, expect_here, other_here}
use Rattle.eif_parse.specs.ClassSubrules.{formal_list, maybe_clients}
use Rattle.eif_parse.proofs.Lists.{behind, part_first}

-- ---- formals

abbrev pub formal_of : NameAt → Option TypeT → FormalT
formal_of n c = record { place = n.place; name = n.name; constraint = c }

pub no_formal : {ts : List Token} → head ts ≢ t.Identifier → Calls (class_goal formal) ts (refused ts)
no_formal other = by_rule (other_here other)

pub formal_alone : {ts : List Token} {at after : ℕ} → Taken t.Identifier ts at after → head (drop after ts) ≢ t.Arrow
    → Calls (class_goal formal) (drop at ts) (got (formal_of (name_of (first (drop at ts))) None) (drop after ts))
formal_alone name other = by_rule (called (token_here name) (on_other other ended))

pub formal_refused : {ts rest : List Token} {at mid after : ℕ} → Taken t.Identifier ts at mid → Taken t.Arrow ts mid after
    → Calls (type_goal (written most_height)) (drop after ts) (refused rest) → Calls (class_goal formal) (drop at ts) (refused rest)
formal_refused name arrow c = by_rule (called (token_here name) (on_here arrow (call_refused c)))

pub formal_bound : {ts rest : List Token} {at mid after : ℕ} {ty : TypeT} → Taken t.Identifier ts at mid → Taken t.Arrow ts mid after
    → Calls (type_goal (written most_height)) (drop after ts) (got ty rest) → Calls (class_goal formal) (drop at ts) (got (formal_of (name_of (first (drop at ts))) (Some ty)) rest)
formal_bound name arrow c = by_rule (called (token_here name) (on_here arrow (called c ended)))

pub last_formal : {f : FormalT} {ts mid : List Token} → Calls (class_goal formal) ts (got f mid) → head mid ≢ t.Comma → Runs formal_list ts (got (f ∷ []) mid)
last_formal c other = called c (called (by_rule (on_other other ended)) ended)

-- a formal, a comma and what stands behind
pub one_more_formal : {f : FormalT} {ts all : List Token} {at after : ℕ} (u : Outcome (List FormalT)) → Calls (class_goal formal) ts (got f (drop at all)) → Taken t.Comma all at after
    → Runs formal_list (drop after all) u → Runs formal_list ts (behind (f ∷ []) u)
one_more_formal u c comma h = part_first {g = class_goal formal} (λ f. f) (call (class_goal more_formals) done) u c (tail {g = class_goal more_formals} u (by_rule (on_here comma h)))

pub no_formals : {ts : List Token} → head ts ≢ t.OpenBracket → Calls (class_goal formals) ts (got [] ts)
no_formals other = by_rule (on_other other ended)

-- behind the formals
abbrev closed : List FormalT → Reader (List FormalT)
closed fs = expect t.CloseBracket (done fs)

pub formals_refused : {ts rest : List Token} {at after : ℕ} → Taken t.OpenBracket ts at after → Runs formal_list (drop after ts) (refused rest) → Calls (class_goal formals) (drop at ts) (refused rest)
formals_refused {ts} {rest} {at} {after} open' h = by_rule (on_here open' (bound_refused closed formal_list (drop after ts) rest h))

pub formals_unclosed : {fs : List FormalT} {ts mid : List Token} {at after : ℕ} → Taken t.OpenBracket ts at after → Runs formal_list (drop after ts) (got fs mid) → head mid ≢ t.CloseBracket
    → Calls (class_goal formals) (drop at ts) (refused mid)
formals_unclosed {fs} {ts} {mid} {at} {after} open' h other = by_rule (on_here open' (bound closed formal_list (drop after ts) mid fs (refused mid) h (other_here other)))

pub formals_whole : {fs : List FormalT} {ts : List Token} {at after last end : ℕ} → Taken t.OpenBracket ts at after → Runs formal_list (drop after ts) (got fs (drop last ts)) → Taken t.CloseBracket ts last end
    → Calls (class_goal formals) (drop at ts) (got fs (drop end ts))
formals_whole {fs} {ts} {at} {after} {last} {end} open' h close =
    by_rule (on_here open' (bound closed formal_list (drop after ts) (drop last ts) fs (got fs (drop end ts)) h (expect_here close ended)))

-- ---- clients

pub no_brace : {ts : List Token} → head ts ≢ t.OpenBrace → Calls (class_goal clients) ts (refused ts)
no_brace other = by_rule (other_here other)

pub empty_braces : {ts : List Token} {at mid after : ℕ} → Taken t.OpenBrace ts at mid → Taken t.CloseBrace ts mid after → Calls (class_goal clients) (drop at ts) (got (these_clients []) (drop after ts))
empty_braces brace close = by_rule (expect_here brace (on_here close ended))

pub clients_refused : {ts rest : List Token} {at mid : ℕ} → Taken t.OpenBrace ts at mid → head (drop mid ts) ≢ t.CloseBrace → Calls (class_goal names) (drop mid ts) (refused rest)
    → Calls (class_goal clients) (drop at ts) (refused rest)
clients_refused brace other c = by_rule (expect_here brace (on_other other (call_refused c)))

pub clients_unclosed : {ns : List NameAt} {ts rest : List Token} {at mid : ℕ} → Taken t.OpenBrace ts at mid → head (drop mid ts) ≢ t.CloseBrace → Calls (class_goal names) (drop mid ts) (got ns rest)
    → head rest ≢ t.CloseBrace → Calls (class_goal clients) (drop at ts) (refused rest)
clients_unclosed brace other c unclosed = by_rule (expect_here brace (on_other other (called c (other_here unclosed))))

pub clients_whole : {ns : List NameAt} {ts : List Token} {at mid last after : ℕ} → Taken t.OpenBrace ts at mid → head (drop mid ts) ≢ t.CloseBrace → Calls (class_goal names) (drop mid ts) (got ns (drop last ts))
    → Taken t.CloseBrace ts last after → Calls (class_goal clients) (drop at ts) (got (these_clients ns) (drop after ts))
clients_whole brace other c close = by_rule (expect_here brace (on_other other (called c (expect_here close ended))))

-- ---- creators parts

pub no_creators : {ts : List Token} → head ts ≢ t.Create → Calls (class_goal creators) ts (got [] ts)
no_creators other = by_rule (on_other other ended)

pub creators_unnamed : {ts rest : List Token} {at after : ℕ} → Taken t.Create ts at after → Runs maybe_clients (drop after ts) (refused rest) → Calls (class_goal creators) (drop at ts) (refused rest)
creators_unnamed {ts} {rest} {at} {after} word h = by_rule (on_here word (bound_refused creators_of maybe_clients (drop after ts) rest h))

pub creators_refused : {c : ClientsT} {ts mid rest : List Token} {at after : ℕ} → Taken t.Create ts at after → Runs maybe_clients (drop after ts) (got c mid) → Calls (class_goal names) mid (refused rest)
    → Calls (class_goal creators) (drop at ts) (refused rest)
creators_refused {c} {ts} {mid} {rest} {at} {after} word h n = by_rule (on_here word (bound creators_of maybe_clients (drop after ts) mid c (refused rest) h (call_refused n)))

abbrev pub creators_part : ClientsT → List NameAt → CreatorsT
creators_part c ns = record { clients = c; names = ns }

-- a part, and those behind it
pub creators_more : {c : ClientsT} {ns : List NameAt} {ts mid rest : List Token} {at after : ℕ} (u : Outcome (List CreatorsT)) → Taken t.Create ts at after → Runs maybe_clients (drop after ts) (got c mid)
    → Calls (class_goal names) mid (got ns rest) → Calls (class_goal creators) rest u → Calls (class_goal creators) (drop at ts) (behind (creators_part c ns ∷ []) u)
creators_more {c} {ns} {ts} {mid} {rest} {at} {after} u word h n d =
    by_rule (on_here word (bound creators_of maybe_clients (drop after ts) mid c (behind (creators_part c ns ∷ []) u) h
    (part_first {g = class_goal names} (creators_part c) (call (class_goal creators) done) u n (tail {g = class_goal creators} u d))))
