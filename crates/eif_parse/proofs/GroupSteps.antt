-- Groups of arguments and locals, and types of results.
use Rattle.std.proofs.Common.{◌≡◌, ◌≢◌, ℕ, ◌≤◌, ◌<◌, Some, None, List, [], ◌∷◌, drop, length, ap, ◌∙◌, arith, inl, inr}
use Rattle.eif_tree.specs.declared.NameAt.{NameAt}
use Rattle.eif_tree.specs.Tree.{TypeT, GroupT}
use Rattle.eif_grammar.specs.declared.terminal.Terminal.TheVariants as t
use Rattle.eif_grammar.specs.Tokens.{Token}
use Rattle.eif_grammar.specs.Spelling.{head, semicolons}
use Rattle.eif_grammar.specs.Goals.{written, semis, group, more_groups, groups_behind, formal_arguments, local_groups, locals, result_type, type_goal, instruction_goal, class_goal}
use Rattle.eif_grammar.specs.Parts.{most_height}
use Rattle.eif_grammar.specs.Reader.{Reader, done, call, expect, name_of}
use Rattle.eif_grammar.specs.ClassRules.{groups_from}
use Rattle.eif_grammar.specs.Outcomes.{Outcome, got, refused, Runs, Calls}
use Rattle.eif_grammar_laws.proofs.InstructionSound.{instruction_means}
use Rattle.eif_grammar_laws.proofs.Readers.{by_rule, called, call_refused, taken, ended, rule_runs, called_parts}
use Rattle.eif_grammar_laws.proofs.Taken.{tail}
use Rattle.eif_grammar_laws.proofs.Terminals.{on_found, on_other}
use Rattle.eif_parse_expr.specs.Readings.{first, Taken}
use Rattle.eif_parse_expr.proofs.Bind.{bound, bound_refused}
use Rattle.eif_parse_expr.proofs.Onward.{runs_shrink, token_takes, further}
use Rattle.eif_parse_expr.proofs.Steps.{on_here, token_here, expect_here, other_here}
use Rattle.eif_parse.specs.ClassSubrules.{names_behind}
use Rattle.eif_parse.proofs.Lists.{behind, part_first, part_and_semis_first}

-- ---- one group

abbrev pub group_of : List NameAt → TypeT → GroupT
group_of ns ty = record { names = ns; type_tree = ty }

-- behind the names and their colon
abbrev typed : List NameAt → Reader GroupT
typed ns = call (type_goal (written most_height)) (λ ty. done (group_of ns ty))

pub no_group : {ts : List Token} → head ts ≢ t.Identifier → Calls (class_goal group) ts (refused ts)
no_group other = by_rule (other_here other)

pub group_unnamed : {ts rest : List Token} {at after : ℕ} → Taken t.Identifier ts at after → Runs (names_behind (name_of (first (drop at ts)) ∷ [])) (drop after ts) (refused rest)
    → Calls (class_goal group) (drop at ts) (refused rest)
group_unnamed {ts} {rest} {at} {after} name h =
    let ns = name_of (first (drop at ts)) ∷ [] in
    by_rule (called (token_here name) (bound_refused typed (names_behind ns) (drop after ts) rest h))

pub group_untyped : {ns : List NameAt} {ts mid rest : List Token} {at after : ℕ} → Taken t.Identifier ts at after → Runs (names_behind (name_of (first (drop at ts)) ∷ [])) (drop after ts) (got ns mid)
    → Calls (type_goal (written most_height)) mid (refused rest) → Calls (class_goal group) (drop at ts) (refused rest)
group_untyped {ns} {ts} {mid} {rest} {at} {after} name h c =
    by_rule (called (token_here name) (bound typed (names_behind (name_of (first (drop at ts)) ∷ [])) (drop after ts) mid ns (refused rest) h (call_refused c)))

pub group_whole : {ns : List NameAt} {ty : TypeT} {ts mid rest : List Token} {at after : ℕ} → Taken t.Identifier ts at after
    → Runs (names_behind (name_of (first (drop at ts)) ∷ [])) (drop after ts) (got ns mid) → Calls (type_goal (written most_height)) mid (got ty rest)
    → Calls (class_goal group) (drop at ts) (got (group_of ns ty) rest)
group_whole {ns} {ty} {ts} {mid} {rest} {at} {after} name h c =
    by_rule (called (token_here name) (bound typed (names_behind (name_of (first (drop at ts)) ∷ [])) (drop after ts) mid ns (got (group_of ns ty) rest) h (called c ended)))

-- ---- a group takes a token

pub group_onward : {g : GroupT} (ts : List Token) (at after : ℕ) → Calls (class_goal group) (drop at ts) (got g (drop after ts)) → after ≤ length ts → at < after
group_onward ts at after c within =
    let p = called_parts (rule_runs c) in further ts at after within (omega (arith, token_takes p.first, runs_shrink p.second))

-- ---- groups of arguments

shorter : (ts rest : List Token) → semicolons ts rest → length rest ≤ length ts
shorter [] rest e = omega (arith, ap length e)
shorter (w ∷ ts) rest (inl (semicolon, s)) = omega (arith, shorter ts rest s)
shorter (w ∷ ts) rest (inr (other, e)) = omega (arith, ap length e)

-- many `;`, and then groups
behind_semicolons : (ts rest : List Token) (u : Outcome (List GroupT)) → semicolons ts rest → Runs groups_from rest u → Calls (class_goal groups_behind) ts u
behind_semicolons [] rest u e h = let other : head [] ≢ t.Semicolon = λ f. cc in by_rule (on_other other (rw e h))
behind_semicolons (w ∷ ts) rest u (inl (semicolon, s)) h = by_rule (on_found semicolon (taken (tail {g = class_goal groups_behind} u (behind_semicolons ts rest u s h))))
behind_semicolons (w ∷ ts) rest u (inr (other, e)) h = by_rule (on_other other (rw e h))

-- the same, where a name begins the next group if there is none
go_on : (ts rest : List Token) (u : Outcome (List GroupT)) → semicolons ts rest → (ts ≡ rest → head rest ≡ t.Identifier) → Runs groups_from rest u → Calls (class_goal more_groups) ts u
go_on [] rest u e name h = let none = ap head e in let some = name e in cc
go_on (w ∷ ts) rest u (inl (semicolon, s)) name h = by_rule (on_found semicolon (taken (tail {g = class_goal groups_behind} u (behind_semicolons ts rest u s h))))
go_on (w ∷ ts) rest u (inr (other, e)) name h = by_rule (on_other other (on_found (ap head e ∙ name e) (rw e h)))

no_more : (ts : List Token) → semicolons ts ts → head ts ≢ t.Identifier → Calls (class_goal more_groups) ts (got [] ts)
no_more [] e other = let none : head [] ≢ t.Semicolon = λ f. cc in by_rule (on_other none (on_other other ended))
no_more (w ∷ ts) (inl (semicolon, s)) other = absurd (omega (arith, shorter ts (w ∷ ts) s))
no_more (w ∷ ts) (inr (none, e)) other = by_rule (on_other none (on_other other ended))

pub last_group : {g : GroupT} {ts mid : List Token} → Calls (class_goal group) ts (got g mid) → Calls (instruction_goal semis) mid (got tt mid) → head mid ≢ t.Identifier
    → Runs groups_from ts (got (g ∷ []) mid)
last_group {g} {ts} {mid} c s other = called c (called (no_more mid (instruction_means semis mid tt mid s) other) ended)

-- a group, all `;` and what stands behind
pub one_more_group : {g : GroupT} {ts mid rest : List Token} (u : Outcome (List GroupT)) → Calls (class_goal group) ts (got g mid) → Calls (instruction_goal semis) mid (got tt rest)
    → (mid ≡ rest → head rest ≡ t.Identifier) → Runs groups_from rest u → Runs groups_from ts (behind (g ∷ []) u)
one_more_group {g} {ts} {mid} {rest} u c s name h =
    part_first {g = class_goal group} (λ g. g) (call (class_goal more_groups) done) u c
    (tail {g = class_goal more_groups} u (go_on mid rest u (instruction_means semis mid tt rest s) name h))

pub no_arguments : {ts : List Token} → head ts ≢ t.OpenParenthesis → Calls (class_goal formal_arguments) ts (got [] ts)
no_arguments other = by_rule (on_other other ended)

-- behind the groups
abbrev closed : List GroupT → Reader (List GroupT)
closed gs = expect t.CloseParenthesis (done gs)

pub arguments_refused : {ts rest : List Token} {at after : ℕ} → Taken t.OpenParenthesis ts at after → Runs groups_from (drop after ts) (refused rest)
    → Calls (class_goal formal_arguments) (drop at ts) (refused rest)
arguments_refused {ts} {rest} {at} {after} open' h = by_rule (on_here open' (bound_refused closed groups_from (drop after ts) rest h))

pub arguments_unclosed : {gs : List GroupT} {ts mid : List Token} {at after : ℕ} → Taken t.OpenParenthesis ts at after → Runs groups_from (drop after ts) (got gs mid) → head mid ≢ t.CloseParenthesis
    → Calls (class_goal formal_arguments) (drop at ts) (refused mid)
arguments_unclosed {gs} {ts} {mid} {at} {after} open' h other = by_rule (on_here open' (bound closed groups_from (drop after ts) mid gs (refused mid) h (other_here other)))

pub arguments_whole : {gs : List GroupT} {ts : List Token} {at after last end : ℕ} → Taken t.OpenParenthesis ts at after → Runs groups_from (drop after ts) (got gs (drop last ts))
    → Taken t.CloseParenthesis ts last end → Calls (class_goal formal_arguments) (drop at ts) (got gs (drop end ts))
arguments_whole {gs} {ts} {at} {after} {last} {end} open' h close =
    by_rule (on_here open' (bound closed groups_from (drop after ts) (drop last ts) gs (got gs (drop end ts)) h (expect_here close ended)))

-- ---- locals

pub no_local : {ts : List Token} → head ts ≢ t.Identifier → Calls (class_goal local_groups) ts (got [] ts)
no_local other = by_rule (on_other other ended)

pub local_refused : {ts rest : List Token} → head ts ≡ t.Identifier → Calls (class_goal group) ts (refused rest) → Calls (class_goal local_groups) ts (refused rest)
local_refused name c = by_rule (on_found name (call_refused c))

-- a group, all `;` and what stands behind
pub one_more_local : {g : GroupT} {ts mid rest : List Token} (u : Outcome (List GroupT)) → head ts ≡ t.Identifier → Calls (class_goal group) ts (got g mid)
    → Calls (instruction_goal semis) mid (got tt rest) → Calls (class_goal local_groups) rest u → Calls (class_goal local_groups) ts (behind (g ∷ []) u)
one_more_local u name c s d =
    by_rule (on_found name (part_and_semis_first {g = class_goal group} (λ g. g) (call (class_goal local_groups) done) u c s (tail {g = class_goal local_groups} u d)))

pub no_locals : {ts : List Token} → head ts ≢ t.Local → Calls (class_goal locals) ts (got [] ts)
no_locals other = by_rule (on_other other ended)

pub locals_found : {ts : List Token} {at after : ℕ} (u : Outcome (List GroupT)) → Taken t.Local ts at after → Calls (class_goal local_groups) (drop after ts) u
    → Calls (class_goal locals) (drop at ts) u
locals_found u word c = by_rule (on_here word (tail {g = class_goal local_groups} u c))

-- ---- types of results

pub no_result : {ts : List Token} → head ts ≢ t.Colon → Calls (class_goal result_type) ts (got None ts)
no_result other = by_rule (on_other other ended)

pub result_refused : {ts rest : List Token} {at after : ℕ} → Taken t.Colon ts at after → Calls (type_goal (written most_height)) (drop after ts) (refused rest)
    → Calls (class_goal result_type) (drop at ts) (refused rest)
result_refused colon c = by_rule (on_here colon (call_refused c))

pub result_found : {ty : TypeT} {ts rest : List Token} {at after : ℕ} → Taken t.Colon ts at after → Calls (type_goal (written most_height)) (drop after ts) (got ty rest)
    → Calls (class_goal result_type) (drop at ts) (got (Some ty) rest)
result_found colon c = by_rule (on_here colon (called c ended))
