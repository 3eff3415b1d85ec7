-- Parents, and the clauses that change what is inherited.
use Rattle.std.proofs.Common.{◌≡◌, ◌≢◌, ℕ, ◌<◌, ◌≤◌, ◌==◌, Bool, true, false, Some, None, List, [], ◌∷◌, drop, length, refl, ap, sym, ◌∙◌, subst, arith}
use Rattle.std.specs.Prelude.{Option, is_some}
use Rattle.std.specs.Option.{option_map}
use Rattle.eif_tree.specs.declared.RenamePair.{RenamePair}
use Rattle.eif_tree.specs.Tree.{TypeT, ClientsT, ExportT, ParentT}
use Rattle.eif_grammar.specs.declared.terminal.Terminal.{Terminal}
use Rattle.eif_grammar.specs.declared.terminal.Terminal.TheVariants as t
use Rattle.eif_grammar.specs.ClassRules.{clause_start, clauses_by, go_on, parents_from, unchanged}
use Rattle.eif_grammar.specs.Forms.{begins_clause}
use Rattle.eif_grammar.specs.Goals.{clients, rename, renames, more_renames, export, exports, more_exports, clauses, more_clauses, parent, more_parents, unmarked, semis, type_goal, instruction_goal, class_goal}
use Rattle.eif_grammar.specs.Outcomes.{Outcome, got, refused, Runs, Calls}
use Rattle.eif_grammar.specs.Parts.{most_height}
use Rattle.eif_grammar.specs.Reader.{Reader, done, call, fork, expect}
use Rattle.eif_grammar.specs.SpelledClasses.{Clause, rename_clause, export_clause, undefine_clause, redefine_clause, select_clause, clause_length}
use Rattle.eif_grammar.specs.Spelling.{head}
use Rattle.eif_grammar.specs.Tokens.{Token}
use Rattle.eif_grammar_laws.proofs.Readers.{by_rule, rule_runs, called_parts, looked, called, call_refused, guarded, forked, forked_not, ended}
use Rattle.eif_grammar_laws.proofs.StepsBack.{look_back}
use Rattle.eif_grammar_laws.proofs.Taken.{tail}
use Rattle.eif_grammar_laws.proofs.Terminals.{on_found, on_other}
use Rattle.eif_parse_expr.specs.Readings.{Taken}
use Rattle.eif_parse_expr.specs.Subrules.{bind}
use Rattle.eif_parse_expr.proofs.Bind.{bound, bound_refused}
use Rattle.eif_parse_expr.proofs.Onward.{runs_shrink, token_takes, guard_takes, further}
use Rattle.eif_parse_expr.proofs.Steps.{next_here, on_here}
use Rattle.eif_parse.specs.declared.parents.ClauseKind.{ClauseKind}
use Rattle.eif_parse.specs.ClassSubrules.{clause_of, clause, clause_with, clause_body}
use Rattle.eif_parse.proofs.Lists.{behind, part_first, part_and_semis_first}

-- ---- renamings

pub last_rename : {x : RenamePair} {ts mid : List Token} → Calls (class_goal rename) ts (got x mid) → head mid ≢ t.Comma → Calls (class_goal renames) ts (got (x ∷ []) mid)
last_rename c other = by_rule (called c (called (by_rule (on_other other ended)) ended))

-- a renaming, a comma and what stands behind
pub one_more_rename : {x : RenamePair} {ts all : List Token} {at after : ℕ} (u : Outcome (List RenamePair)) → Calls (class_goal rename) ts (got x (drop at all)) → Taken t.Comma all at after
    → Calls (class_goal renames) (drop after all) u → Calls (class_goal renames) ts (behind (x ∷ []) u)
one_more_rename u c comma d =
    by_rule (part_first {g = class_goal rename} (λ x. x) (call (class_goal more_renames) done) u c
    (tail {g = class_goal more_renames} u (by_rule (on_here comma (tail {g = class_goal renames} u d)))))

-- ---- exports

pub last_export : {x : ExportT} {ts mid next : List Token} → Calls (class_goal export) ts (got x mid) → Calls (instruction_goal semis) mid (got tt next)
    → head next ≢ t.OpenBrace → Calls (class_goal exports) ts (got (x ∷ []) next)
last_export c s other = by_rule (called c (called s (called (by_rule (on_other other ended)) ended)))

-- an item and what stands behind
pub one_more_export : {x : ExportT} {ts mid next : List Token} (u : Outcome (List ExportT)) → Calls (class_goal export) ts (got x mid) → Calls (instruction_goal semis) mid (got tt next)
    → head next ≡ t.OpenBrace → Calls (class_goal exports) next u → Calls (class_goal exports) ts (behind (x ∷ []) u)
one_more_export u c s brace d =
    by_rule (part_and_semis_first {g = class_goal export} (λ x. x) (call (class_goal more_exports) done) u c s
    (tail {g = class_goal more_exports} u (by_rule (on_found brace (tail {g = class_goal exports} u d)))))

-- ---- one clause

starts_clause : (x : Terminal) (c : Clause) → clause_start x ≡ Some c → begins_clause x ≡ true
starts_clause t.Rename c e = refl
starts_clause t.Export c e = refl
starts_clause t.Undefine c e = refl
starts_clause t.Redefine c e = refl
starts_clause t.Select c e = refl
starts_clause _ c e = cc

starts_none : (x : Terminal) → clause_start x ≡ None → begins_clause x ≡ false
starts_none t.Rename e = cc
starts_none t.Export e = cc
starts_none t.Undefine e = cc
starts_none t.Redefine e = cc
starts_none t.Select e = cc
starts_none _ e = refl

-- by the code's kind of the next token's terminal
pub begins_is : (o : Option ClauseKind) {x y : Terminal} → option_map clause_of o ≡ clause_start y → y ≡ x → begins_clause x ≡ is_some o
begins_is o {x} {y} e same = by_kind o (sym (e ∙ ap clause_start same))
  where
    by_kind : (o : Option ClauseKind) → clause_start x ≡ option_map clause_of o → begins_clause x ≡ is_some o
    by_kind None e = starts_none x e
    by_kind (Some k) e = starts_clause x (clause_of k) e

pub clause_here : {p : ParentT} {c : Clause} {x : Terminal} {ts : List Token} {at after : ℕ} (u : Outcome ParentT) → clause_start (head (drop at ts)) ≡ Some c → (clause_length p c == 0) ≡ true
    → Taken x ts at after → Runs (clause_body p c) (drop after ts) u → Runs (clause p) (drop at ts) u
clause_here {p} {c} {ts = ts} {at} u e first' word h = looked (subst (λ x. Runs (clause_with p x) (drop at ts) u) (sym e) (guarded first' (next_here word h)))

-- ---- clauses

-- a clause, and those after it
clauses_whole : {p : ParentT} {ts : List Token} {u : Outcome ParentT} → Runs (bind (clause p) go_on) ts u → Calls (class_goal (clauses p)) ts u
clauses_whole {p} {ts} {u} r = by_rule (looked (go (clause_start (head ts)) (look_back r)))
  where
    go : (s : Option Clause) → Runs (bind (clause_with p s) go_on) ts u → Runs (clauses_by p s) ts u
    go None h = h
    go (Some rename_clause) h = h
    go (Some export_clause) h = h
    go (Some undefine_clause) h = h
    go (Some redefine_clause) h = h
    go (Some select_clause) h = h

pub one_more_clause : {p q : ParentT} {ts mid : List Token} (u : Outcome ParentT) → begins_clause (head ts) ≡ true → Runs (clause p) ts (got q mid)
    → Calls (class_goal (more_clauses q)) mid u → Calls (class_goal (more_clauses p)) ts u
one_more_clause {p} {q} {ts} {mid} u begins r d =
    by_rule (looked (forked begins (tail {g = class_goal (clauses p)} u
    (clauses_whole (bound go_on (clause p) ts mid q u r (tail {g = class_goal (more_clauses q)} u d))))))

pub clause_refused : {p : ParentT} {ts rest : List Token} → begins_clause (head ts) ≡ true → Runs (clause p) ts (refused rest) → Calls (class_goal (more_clauses p)) ts (refused rest)
clause_refused {p} {ts} {rest} begins r = by_rule (looked (forked begins (call_refused (clauses_whole (bound_refused go_on (clause p) ts rest r)))))

-- no other clause
pub clauses_over : {p : ParentT} {ts : List Token} {u : Outcome ParentT} → begins_clause (head ts) ≡ false → Runs (expect t.End (done p)) ts u → Calls (class_goal (more_clauses p)) ts u
clauses_over other r = by_rule (looked (forked_not other r))

-- ---- one parent

fork_taken : {A : Type 0} (b : Bool) {r s : Reader A} {ts : List Token} {u : Outcome A} → b ≡ true → Runs (fork b r s) ts u → Runs r ts u
fork_taken true e h = record { depth = h.depth; runs = h.runs; ends = h.ends }
fork_taken false e h = cc

pub parent_changed : {ty : TypeT} {ts mid : List Token} {u : Outcome ParentT} → Calls (type_goal (unmarked most_height)) ts (got ty mid) → begins_clause (head mid) ≡ true
    → Calls (class_goal (more_clauses (unchanged ty))) mid u → Calls (class_goal parent) ts u
parent_changed {mid} c begins d = by_rule (called c (looked (forked begins (fork_taken (begins_clause (head mid)) begins (look_back (rule_runs d))))))

pub parent_unchanged : {ty : TypeT} {ts mid : List Token} → Calls (type_goal (unmarked most_height)) ts (got ty mid) → begins_clause (head mid) ≡ false
    → Calls (class_goal parent) ts (got (unchanged ty) mid)
parent_unchanged c other = by_rule (called c (looked (forked_not other ended)))

-- ---- parents

pub last_parent : {x : ParentT} {ts mid next : List Token} → Calls (class_goal parent) ts (got x mid) → Calls (instruction_goal semis) mid (got tt next)
    → head next ≢ t.Identifier → Runs parents_from ts (got (x ∷ []) next)
last_parent c s other = called c (called s (called (by_rule (on_other other ended)) ended))

-- a parent and what stands behind
pub one_more_parent : {x : ParentT} {ts mid next : List Token} (u : Outcome (List ParentT)) → Calls (class_goal parent) ts (got x mid) → Calls (instruction_goal semis) mid (got tt next)
    → head next ≡ t.Identifier → Runs parents_from next u → Runs parents_from ts (behind (x ∷ []) u)
one_more_parent u c s name r =
    part_and_semis_first {g = class_goal parent} (λ x. x) (call (class_goal more_parents) done) u c s (tail {g = class_goal more_parents} u (by_rule (on_found name r)))

-- ---- an export, a clause and a parent each take a token

clients_takes : {x : ClientsT} {ts rest : List Token} → Calls (class_goal clients) ts (got x rest) → length rest < length ts
clients_takes c = let p = called_parts (rule_runs c) in omega (arith, token_takes p.first, runs_shrink p.second)

pub export_onward : {x : ExportT} (ts : List Token) (at after : ℕ) → Calls (class_goal export) (drop at ts) (got x (drop after ts)) → after ≤ length ts → at < after
export_onward ts at after c within = let p = called_parts (rule_runs c) in further ts at after within (omega (arith, clients_takes p.first, runs_shrink p.second))

clause_takes : {p q : ParentT} {ts rest : List Token} → Runs (clause p) ts (got q rest) → length rest < length ts
clause_takes {p} {q} {ts} {rest} r = go (clause_start (head ts)) (look_back r)
  where
    go : (s : Option Clause) → Runs (clause_with p s) ts (got q rest) → length rest < length ts
    go None h = let e = h.runs in cc
    go (Some c) h = guard_takes (clause_length p c == 0) ts h

pub clause_onward : {p q : ParentT} (ts : List Token) (at after : ℕ) → Runs (clause p) (drop at ts) (got q (drop after ts)) → after ≤ length ts → at < after
clause_onward ts at after r within = further ts at after within (clause_takes r)

type_takes : {ty : TypeT} {ts rest : List Token} → Calls (type_goal (unmarked most_height)) ts (got ty rest) → length rest < length ts
type_takes c = let p = called_parts (rule_runs c) in omega (arith, token_takes p.first, runs_shrink p.second)

pub parent_onward : {x : ParentT} (ts : List Token) (at after : ℕ) → Calls (class_goal parent) (drop at ts) (got x (drop after ts)) → after ≤ length ts → at < after
parent_onward ts at after c within = let p = called_parts (rule_runs c) in further ts at after within (omega (arith, type_takes p.first, runs_shrink p.second))
