-- Features, part by part.
use Rattle.std.proofs.Common.{◌≡◌, ◌≢◌, ℕ, ◌≤◌, ◌<◌, List, [], ◌∷◌, drop, length, Some, true, false, subst, arith}
use Rattle.eif_tree.specs.declared.NameAt.{NameAt}
use Rattle.eif_tree.specs.Tree.{TypeT, ClientsT, DeclT, FeaturesT}
use Rattle.eif_grammar.specs.declared.terminal.Terminal.TheVariants as t
use Rattle.eif_grammar.specs.Tokens.{Token}
use Rattle.eif_grammar.specs.Is.{is}
use Rattle.eif_grammar.specs.Spelling.{head}
use Rattle.eif_grammar.specs.Forms.{begins_routine}
use Rattle.eif_grammar.specs.Goals.{written, semis, routine_rest, declaration, declarations, features, type_goal, instruction_goal, class_goal}
use Rattle.eif_grammar.specs.Parts.{most_height}
use Rattle.eif_grammar.specs.Reader.{Reader, done, call, name_of}
use Rattle.eif_grammar.specs.ClassRules.{value_of, several, typed, features_of}
use Rattle.eif_grammar.specs.Outcomes.{Outcome, got, refused, Runs, Calls}
use Rattle.eif_grammar_laws.proofs.Readers.{rule_runs, called_parts, by_rule, called, call_refused, looked, forked, forked_not, ended}
use Rattle.eif_grammar_laws.proofs.Taken.{tail}
use Rattle.eif_grammar_laws.proofs.Terminals.{on_found, on_other}
use Rattle.eif_parse.specs.ClassSubrules.{names_behind, maybe_clients}
use Rattle.eif_parse_expr.specs.Readings.{first, Taken}
use Rattle.eif_parse_expr.specs.Subrules.{bind}
use Rattle.eif_parse_expr.proofs.Onward.{runs_shrink, token_takes, further}
use Rattle.eif_parse_expr.proofs.Steps.{on_here, token_here}
use Rattle.eif_parse.proofs.Lists.{behind, part_first, part_and_semis_first}

-- ---- one declaration

-- the type of these names, and what stands behind it
abbrev pub typed_names : List NameAt → Reader DeclT
typed_names ns = call (type_goal (written most_height)) (λ ty. value_of ns ty)

-- two names, and those behind them
pub several_from : {n : NameAt} {both : List NameAt} {ts : List Token} {at mid : ℕ} {o : Outcome DeclT} → Taken t.Identifier ts at mid → both ≡ n ∷ name_of (first (drop at ts)) ∷ []
    → Runs (bind (names_behind both) typed_names) (drop mid ts) o → Runs (several n) (drop at ts) o
several_from {ts} {mid} {o} name two r = called (token_here name) (subst (λ ns. Runs (bind (names_behind ns) typed_names) (drop mid ts) o) two r)

-- a routine behind its type
pub typed_routine : {n : NameAt} {ty : TypeT} {ts mid : List Token} (o : Outcome DeclT) → begins_routine (head mid) ≡ true → Calls (type_goal (written most_height)) ts (got ty mid)
    → Calls (class_goal (routine_rest n [] (Some ty))) mid o → Runs (typed n) ts o
typed_routine {n} {ty} o begins c r = called c (looked (forked begins (tail {g = class_goal (routine_rest n [] (Some ty))} o r)))

-- an attribute or a constant
pub typed_value : {n : NameAt} {ty : TypeT} {ts mid : List Token} {o : Outcome DeclT} → begins_routine (head mid) ≡ false → Calls (type_goal (written most_height)) ts (got ty mid)
    → Runs (value_of (n ∷ []) ty) mid o → Runs (typed n) ts o
typed_value none c r = called c (looked (forked_not none r))

-- ---- a declaration takes a token

pub declaration_onward : {d : DeclT} (ts : List Token) (at after : ℕ) → Calls (class_goal declaration) (drop at ts) (got d (drop after ts)) → after ≤ length ts → at < after
declaration_onward ts at after c within =
    let p = called_parts (rule_runs c) in further ts at after within (omega (arith, token_takes p.first, runs_shrink p.second))

-- ---- all that stand there

pub no_declarations : {ts : List Token} → head ts ≢ t.Identifier → Calls (class_goal declarations) ts (got [] ts)
no_declarations other = by_rule (on_other other ended)

pub declarations_refused : {ts rest : List Token} → head ts ≡ t.Identifier → Calls (class_goal declaration) ts (refused rest) → Calls (class_goal declarations) ts (refused rest)
declarations_refused is r = by_rule (on_found is (call_refused r))

-- a declaration and what stands behind its `;`
pub more_declarations : {d : DeclT} {ts mid rest : List Token} (u : Outcome (List DeclT)) → head ts ≡ t.Identifier → Calls (class_goal declaration) ts (got d mid)
    → Calls (instruction_goal semis) mid (got tt rest) → Calls (class_goal declarations) rest u → Calls (class_goal declarations) ts (behind (d ∷ []) u)
more_declarations u is c s more = by_rule (on_found is (part_and_semis_first (λ d. d) (call (class_goal declarations) done) u c s (tail {g = class_goal declarations} u more)))

pub no_features : {ts : List Token} → head ts ≢ t.Feature → Calls (class_goal features) ts (got [] ts)
no_features other = by_rule (on_other other ended)

-- clients and declarations behind the word
pub features_from : {ts : List Token} {at start : ℕ} {o : Outcome (List FeaturesT)} → Taken t.Feature ts at start → Runs (bind maybe_clients features_of) (drop start ts) o
    → Calls (class_goal features) (drop at ts) o
features_from word r = by_rule (on_here word r)

-- declarations for these clients and what stands behind
pub more_features : {c : ClientsT} {ds : List DeclT} {ts mid : List Token} (u : Outcome (List FeaturesT)) → Calls (class_goal declarations) ts (got ds mid)
    → Calls (class_goal features) mid u → Runs (features_of c) ts (behind (record { clients = c; decls = ds } ∷ []) u)
more_features {c} u d more = part_first (λ ds. record { clients = c; decls = ds }) (call (class_goal features) done) u d (tail {g = class_goal features} u more)
