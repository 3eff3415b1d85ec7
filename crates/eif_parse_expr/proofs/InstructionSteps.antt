-- How assertions and instructions begin, and their parts together.
use Rattle.std.proofs.Common.{◌≡◌, ◌≢◌, ℕ, ◌-◌, ◌≤◌, ◌<◌, true, false, Some, None, Result, Ok, Err, List, ◌∷◌, drop, length, refl, ap, sym, ◌∙◌, subst, arith, ◌⊎◌, inl, inr}
use Rattle.std.specs.Str.{str_to_ascii_lowercase}
use Rattle.eif_base.specs.declared.Place.{Place}
use Rattle.eif_tree.specs.declared.NameAt.{NameAt}
use Rattle.eif_tree.specs.Tree.{TypeT, Ex, Exs, unqualified, no_exs, Ins, Inss, choose, no_inss, Branches, no_branches, and_branch}
use Rattle.eif_grammar.specs.declared.terminal.Terminal.{Terminal}
use Rattle.eif_grammar.specs.declared.terminal.Terminal.TheVariants as t
use Rattle.eif_grammar.specs.Tokens.{Token}
use Rattle.eif_grammar.specs.Forms.{begins_expression, begins_instruction}
use Rattle.eif_grammar.specs.Spelling.{head}
use Rattle.eif_grammar.specs.Goals.{Goal, expression, climbing, operand, chain, dots, primary, arguments, semis, assertions, assertion, invariants, compound, instruction, target, elseifs, otherwise, expression_goal, instruction_goal}
use Rattle.eif_grammar.specs.Reader.{Reader, done, call, expect, name_of}
use Rattle.eif_grammar.specs.ExpressionRules.{operand_start, operand_by, primary_start, primary_by}
use Rattle.eif_grammar.specs.InstructionRules.{by_create, created, from_name, result_of, no_instruction, instruction_start, by_if, by_from, loop_rest}
use Rattle.eif_grammar.specs.Outcomes.{Outcome, got, refused, stuck, Runs, Calls}
use Rattle.eif_grammar_laws.proofs.Readers.{by_rule, called, call_refused, called_parts, refused_parts, RefusedBehind, rule_runs, looked, ended, forked, forked_not}
use Rattle.eif_grammar_laws.proofs.StepsBack.{done_back, look_back, next_back, tail_back}
use Rattle.eif_grammar_laws.proofs.Terminals.{on_found, on_other}
use Rattle.eif_grammar_laws.proofs.Taken.{tail, roomy}
use Rattle.eif_grammar_laws.proofs.CallSteps.{name_parts, from_name_found}
use Rattle.eif_grammar_laws.proofs.InstructionSteps.{instruction_at}
use Rattle.eif_parse_expr.specs.declared.parsed.PartError.{PartError}
use Rattle.eif_parse_expr.specs.declared.parsed.PartError.TheVariants.{At, Memory}
use Rattle.eif_parse_expr.specs.declared.parsed.Parsed.{Parsed}
use Rattle.eif_parse_expr.specs.Readings.{first, Taken, Reads}
use Rattle.eif_parse_expr.specs.InstructionSubrules.{branch, branch_list}
use Rattle.eif_parse_expr.specs.Subrules.{bind, closed_type, Names}
use Rattle.eif_parse_expr.proofs.Bind.{bound, bound_refused}
use Rattle.eif_parse_expr.proofs.InstructionLists.{and_ins_first, and_branch_first}
use Rattle.eif_parse_expr.proofs.Lists.{and_ex_first}
use Rattle.eif_parse_expr.proofs.Steps.{next_here, on_here, token_here, other_here, no_room, cut_taken}

-- ---- semicolons

pub no_semis : {ts : List Token} → head ts ≢ t.Semicolon → Calls (instruction_goal semis) ts (got tt ts)
no_semis other = by_rule (on_other other ended)

pub more_semis : {ts : List Token} {at after : ℕ} (u : Outcome (Unit {0})) → Taken t.Semicolon ts at after → Calls (instruction_goal semis) (drop after ts) u
    → Calls (instruction_goal semis) (drop at ts) u
more_semis u semicolon c = by_rule (on_here semicolon (tail {g = instruction_goal semis} u c))

-- ---- an expression that begins with a name

done_refused : {A : Type 0} {a : A} {ts rest : List Token} → Runs (done a) ts (refused rest) → ⊥
done_refused h = let e = h.runs in cc

tail_refused : {g : Goal} {ts rest : List Token} → Runs (call g done) ts (refused rest) → Calls g ts (refused rest)
tail_refused {g} {ts} {rest} h = by_case (refused_parts h)
  where
    by_case : Calls g ts (refused rest) ⊎ RefusedBehind g done ts rest → Calls g ts (refused rest)
    by_case (inl c) = c
    by_case (inr p) = absurd (done_refused p.second)

module _ (room : ℕ) (w : Token) (more rest : List Token) (found : w.terminal ≡ t.Identifier) where
  primary_refused : Calls (expression_goal (primary room)) (w ∷ more) (refused rest) → Runs (from_name room w) more (refused rest)
  primary_refused c =
      by_case (refused_parts (next_back (subst (λ s. Runs (primary_by room s) (w ∷ more) (refused rest)) (ap primary_start found) (look_back (rule_runs c)))))
    where
      by_case : Calls (expression_goal (arguments room)) more (refused rest) ⊎ RefusedBehind (expression_goal (arguments room)) (λ args. done (unqualified w.place (str_to_ascii_lowercase w.text) args)) more rest → Runs (from_name room w) more (refused rest)
      by_case (inl args) = call_refused args
      by_case (inr p) = absurd (done_refused p.second)

  dots_refused : (first : Ex) (mid : List Token) → Calls (expression_goal (primary room)) (w ∷ more) (got first mid) → Calls (expression_goal (dots room first)) mid (refused rest)
      → Runs (from_name room w) more (refused rest)
  dots_refused first mid c d =
      let a = called_parts (next_back (subst (λ s. Runs (primary_by room s) (w ∷ more) (got first mid)) (ap primary_start found) (look_back (rule_runs c)))) in
      let same = done_back a.second in
      called a.first (call_refused (rw (same.0, same.1) d))

  chain_refused : Calls (expression_goal (chain room)) (w ∷ more) (refused rest) → Runs (from_name room w) more (refused rest)
  chain_refused c = by_case (refused_parts (rule_runs c))
    where
      by_case : Calls (expression_goal (primary room)) (w ∷ more) (refused rest) ⊎ RefusedBehind (expression_goal (primary room)) (λ e. call (expression_goal (dots room e)) done) (w ∷ more) rest → Runs (from_name room w) more (refused rest)
      by_case (inl p) = primary_refused p
      by_case (inr p) = dots_refused p.found p.mid p.first (tail_refused p.second)

  from_name_refused : Calls (expression_goal (expression room 1)) (w ∷ more) (refused rest) → Runs (from_name room w) more (refused rest)
  from_name_refused c = by_case (refused_parts (rule_runs c))
    where
      by_case : Calls (expression_goal (operand room)) (w ∷ more) (refused rest) ⊎ RefusedBehind (expression_goal (operand room)) (λ e. call (expression_goal (climbing room 1 e)) done) (w ∷ more) rest → Runs (from_name room w) more (refused rest)
      by_case (inl o) = chain_refused (tail_refused (subst (λ s. Runs (operand_by room s) (w ∷ more) (refused rest)) (ap operand_start found) (look_back (rule_runs o))))
      by_case (inr p) =
          let o = subst (λ s. Runs (operand_by room s) (w ∷ more) (got p.found p.mid)) (ap operand_start found) (look_back (rule_runs p.first)) in
          let n = name_parts room p.found w more p.mid found (tail_back o) in
          called n.behind (called n.goes_on p.second)

named_expression : (room : ℕ) (w : Token) (more : List Token) (u : Outcome Ex) → w.terminal ≡ t.Identifier → Calls (expression_goal (expression room 1)) (w ∷ more) u → Runs (from_name room w) more u
named_expression room w more (got e rest) found c = from_name_found room e w more rest found c
named_expression room w more (refused rest) found c = from_name_refused room w more rest found c
named_expression room w more stuck found c = absurd (c.ends refl)

-- ---- one assertion

pub plain_assertion : {room : ℕ} {ts : List Token} (u : Outcome Ex) → head ts ≢ t.Identifier → Calls (expression_goal (expression room 1)) ts u → Calls (instruction_goal (assertion room)) ts u
plain_assertion {room} u other c = by_rule (on_other other (tail {g = expression_goal (expression room 1)} u c))

pub tagged_assertion : {room : ℕ} {ts : List Token} {at mid after : ℕ} (u : Outcome Ex) → Taken t.Identifier ts at mid → Taken t.Colon ts mid after
    → Calls (expression_goal (expression room 1)) (drop after ts) u → Calls (instruction_goal (assertion room)) (drop at ts) u
tagged_assertion {room} u name colon c = by_rule (on_here name (on_here colon (tail {g = expression_goal (expression room 1)} u c)))

pub untagged_assertion : {room : ℕ} {ts : List Token} {at mid : ℕ} (u : Outcome Ex) → Taken t.Identifier ts at mid → head (drop mid ts) ≢ t.Colon
    → Calls (expression_goal (expression room 1)) (drop at ts) u → Calls (instruction_goal (assertion room)) (drop at ts) u
untagged_assertion {room} {ts} {at} {mid} u name other c =
    let whole = cut_taken t.Identifier ts at mid name in
    by_rule (on_here name (on_other other (named_expression room (first (drop at ts)) (drop mid ts) u (sym (ap head whole) ∙ name.is)
    (subst (λ l. Calls (expression_goal (expression room 1)) l u) whole c))))

-- ---- assertions

pub no_assertions : {room : ℕ} {ts : List Token} → begins_expression (head ts) ≡ false → Calls (instruction_goal (assertions room)) ts (got no_exs ts)
no_assertions none = by_rule (looked (forked_not none ended))

pub assertions_high : {room : ℕ} {ts : List Token} → begins_expression (head ts) ≡ true → room ≤ 0 → Calls (instruction_goal (assertions room)) ts (refused ts)
assertions_high {room} begins high = by_rule (looked (forked begins (no_room 0 room high)))

pub assertions_refused : {room : ℕ} {ts rest : List Token} → begins_expression (head ts) ≡ true → 0 < room → Calls (instruction_goal (assertion room)) ts (refused rest)
    → Calls (instruction_goal (assertions room)) ts (refused rest)
assertions_refused {room} begins lower c = by_rule (looked (forked begins (roomy 0 room lower (call_refused c))))

-- one more assertion, and those behind it
pub assertions_more : {room : ℕ} {e : Ex} {ts mid behind : List Token} (u : Outcome Exs) → begins_expression (head ts) ≡ true → 0 < room
    → Calls (instruction_goal (assertion room)) ts (got e mid) → Calls (instruction_goal semis) mid (got tt behind) → Calls (instruction_goal (assertions room)) behind u
    → Calls (instruction_goal (assertions room)) ts (and_ex_first e u)
assertions_more {room} (got es rest) begins lower c s d = by_rule (looked (forked begins (roomy 0 room lower (called c (called s (called d ended))))))
assertions_more {room} (refused rest) begins lower c s d = by_rule (looked (forked begins (roomy 0 room lower (called c (called s (call_refused d))))))
assertions_more {room} stuck begins lower c s d = absurd (d.ends refl)

-- ---- how instructions begin

pub nothing_begins : (x : Terminal) → x ≢ t.Identifier → x ≢ t.Result → x ≢ t.Precursor → x ≢ t.Current → x ≢ t.Create → x ≢ t.If → x ≢ t.From → x ≢ t.Check → instruction_start x ≡ no_instruction
nothing_begins t.Identifier a b c d e f g h = absurd (a refl)
nothing_begins t.Result a b c d e f g h = absurd (b refl)
nothing_begins t.Precursor a b c d e f g h = absurd (c refl)
nothing_begins t.Current a b c d e f g h = absurd (d refl)
nothing_begins t.Create a b c d e f g h = absurd (e refl)
nothing_begins t.If a b c d e f g h = absurd (f refl)
nothing_begins t.From a b c d e f g h = absurd (g refl)
nothing_begins t.Check a b c d e f g h = absurd (h refl)
nothing_begins _ a b c d e f g h = refl

-- ---- targets

pub result_target : {ts : List Token} {at after : ℕ} → Taken t.Result ts at after → Calls (instruction_goal target) (drop at ts) (got (result_of (first (drop at ts))) (drop after ts))
result_target word = by_rule (on_here word ended)

pub name_target : {ts : List Token} {at after : ℕ} → head (drop at ts) ≢ t.Result → Taken t.Identifier ts at after → Calls (instruction_goal target) (drop at ts) (got (name_of (first (drop at ts))) (drop after ts))
name_target other name = by_rule (on_other other (called (token_here name) ended))

pub target_refused : {ts : List Token} → head ts ≢ t.Result → head ts ≢ t.Identifier → Calls (instruction_goal target) ts (refused ts)
target_refused other another = by_rule (on_other other (other_here another))

-- what `name_behind` gives is a target, where no `Result` stands there
pub target_named : (ts : List Token) (at : ℕ) (r : Result (Parsed NameAt) PartError) → at ≤ length ts → head (drop at ts) ≢ t.Result → Names ts at r
    → Reads (Calls (instruction_goal target) (drop at ts)) (λ n. n) ts at r
target_named ts at (Ok x) within other (name, eq) =
    record { outcome = rw eq (name_target other name); forward = omega (arith, name.behind); within = name.within }
target_named ts at (Err (At p)) within other (is, another) = rw is (record { outcome = target_refused other another; forward = omega arith; within = within })
target_named ts at (Err Memory) within other l = tt

-- ---- creations

pub create_plain : {room : ℕ} {x : Terminal} {ts : List Token} {at after : ℕ} {u : Outcome Ins} → head (drop at ts) ≡ t.Create → Taken x ts at after → head (drop after ts) ≢ t.OpenBrace
    → Runs (created room (first (drop at ts)).place None) (drop after ts) u → Calls (instruction_goal (instruction room)) (drop at ts) u
create_plain {room} {x} {ts} {at} {after} {u} begins word other h = instruction_at room (drop at ts) u by_create (ap instruction_start begins) (next_here word (on_other other h))

pub create_high : {room : ℕ} {x : Terminal} {ts : List Token} {at mid after : ℕ} → head (drop at ts) ≡ t.Create → Taken x ts at mid → Taken t.OpenBrace ts mid after → room ≤ 1
    → Calls (instruction_goal (instruction room)) (drop at ts) (refused (drop mid ts))
create_high {room} {x} {ts} {at} {mid} begins word brace high =
    instruction_at room (drop at ts) (refused (drop mid ts)) by_create (ap instruction_start begins) (next_here word (on_found brace.is (no_room 1 room high)))

-- behind the type
abbrev pub typed_rest : ℕ → Place → TypeT → Reader Ins
typed_rest room p ty = created room p (Some ty)

pub create_typed : {room : ℕ} {x : Terminal} {ts : List Token} {at mid after : ℕ} {u : Outcome Ins} → head (drop at ts) ≡ t.Create → 1 < room → Taken x ts at mid → Taken t.OpenBrace ts mid after
    → Runs (bind (closed_type (room - 1)) (typed_rest room (first (drop at ts)).place)) (drop after ts) u → Calls (instruction_goal (instruction room)) (drop at ts) u
create_typed {room} {x} {ts} {at} {mid} {after} {u} begins lower word brace h =
    instruction_at room (drop at ts) u by_create (ap instruction_start begins) (next_here word (on_found brace.is (roomy 1 room lower (next_here brace h))))

-- ---- branches

-- behind one branch
abbrev branch_rest : ℕ → Ex × Inss → Reader Branches
branch_rest room b = call (instruction_goal (elseifs room)) (λ bs. done (and_branch b.0 b.1 bs))

pub branch_list_refused : {room : ℕ} {ts rest : List Token} → Runs (branch room) ts (refused rest) → Runs (branch_list room) ts (refused rest)
branch_list_refused {room} {ts} {rest} c = bound_refused (branch_rest room) (branch room) ts rest c

pub branch_list_last : {room : ℕ} {b : Ex × Inss} {ts mid : List Token} → Runs (branch room) ts (got b mid) → head mid ≢ t.Elseif → Runs (branch_list room) ts (got (and_branch b.0 b.1 no_branches) mid)
branch_list_last {room} {b} {ts} {mid} c other = bound (branch_rest room) (branch room) ts mid b (got (and_branch b.0 b.1 no_branches) mid) c (called (by_rule (on_other other ended)) ended)

elseifs_found : {room : ℕ} {ts : List Token} {at after : ℕ} (u : Outcome Branches) → Taken t.Elseif ts at after → Runs (branch_list room) (drop after ts) u → Calls (instruction_goal (elseifs room)) (drop at ts) u
elseifs_found u word h = by_rule (on_here word h)

-- one more branch, and those behind it
pub branch_list_more : {room : ℕ} {b : Ex × Inss} {ts all : List Token} {at after : ℕ} (u : Outcome Branches) → Runs (branch room) ts (got b (drop at all)) → Taken t.Elseif all at after
    → Runs (branch_list room) (drop after all) u → Runs (branch_list room) ts (and_branch_first b u)
branch_list_more {room} {b} {ts} {all} {at} (got bs rest) c word h =
    bound (branch_rest room) (branch room) ts (drop at all) b (got (and_branch b.0 b.1 bs) rest) c (called (elseifs_found (got bs rest) word h) ended)
branch_list_more {room} {b} {ts} {all} {at} (refused rest) c word h =
    bound (branch_rest room) (branch room) ts (drop at all) b (refused rest) c (call_refused (elseifs_found (refused rest) word h))
branch_list_more stuck c word h = absurd (h.ends refl)

-- behind all branches
abbrev pub choose_rest : ℕ → Branches → Reader Ins
choose_rest room bs = call (instruction_goal (otherwise (room - 1))) (λ o. expect t.End (done (choose bs o)))

pub conditional_whole : {room : ℕ} {x : Terminal} {ts : List Token} {at after : ℕ} {u : Outcome Ins} → head (drop at ts) ≡ t.If → 1 < room → Taken x ts at after
    → Runs (bind (branch_list (room - 1)) (choose_rest room)) (drop after ts) u → Calls (instruction_goal (instruction room)) (drop at ts) u
conditional_whole {room} {x} {ts} {at} {after} {u} begins lower word h = instruction_at room (drop at ts) u by_if (ap instruction_start begins) (roomy 1 room lower (next_here word h))

-- ---- loops

pub loop_whole : {room : ℕ} {x : Terminal} {ts : List Token} {at after : ℕ} {u : Outcome Ins} → head (drop at ts) ≡ t.From → 1 < room → Taken x ts at after
    → Runs (call (instruction_goal (compound (room - 1))) (λ s. call (instruction_goal (invariants (room - 1))) (loop_rest room s))) (drop after ts) u
    → Calls (instruction_goal (instruction room)) (drop at ts) u
loop_whole {room} {x} {ts} {at} {after} {u} begins lower word h = instruction_at room (drop at ts) u by_from (ap instruction_start begins) (roomy 1 room lower (next_here word h))

-- ---- compounds

pub no_compound : {room : ℕ} {ts : List Token} → head ts ≢ t.Semicolon → begins_instruction (head ts) ≡ false → Calls (instruction_goal (compound room)) ts (got no_inss ts)
no_compound other none = by_rule (on_other other (looked (forked_not none ended)))

pub compound_behind : {room : ℕ} {ts : List Token} {at after : ℕ} (u : Outcome Inss) → Taken t.Semicolon ts at after → Calls (instruction_goal (compound room)) (drop after ts) u
    → Calls (instruction_goal (compound room)) (drop at ts) u
compound_behind {room} u semicolon c = by_rule (on_here semicolon (tail {g = instruction_goal (compound room)} u c))

pub compound_high : {room : ℕ} {ts : List Token} → head ts ≢ t.Semicolon → begins_instruction (head ts) ≡ true → room ≤ 0 → Calls (instruction_goal (compound room)) ts (refused ts)
compound_high {room} other begins high = by_rule (on_other other (looked (forked begins (no_room 0 room high))))

pub compound_refused : {room : ℕ} {ts rest : List Token} → head ts ≢ t.Semicolon → begins_instruction (head ts) ≡ true → 0 < room → Calls (instruction_goal (instruction room)) ts (refused rest)
    → Calls (instruction_goal (compound room)) ts (refused rest)
compound_refused {room} other begins lower c = by_rule (on_other other (looked (forked begins (roomy 0 room lower (call_refused c)))))

-- one more instruction, and those behind it
pub compound_more : {room : ℕ} {i : Ins} {ts mid : List Token} (u : Outcome Inss) → head ts ≢ t.Semicolon → begins_instruction (head ts) ≡ true → 0 < room
    → Calls (instruction_goal (instruction room)) ts (got i mid) → Calls (instruction_goal (compound room)) mid u → Calls (instruction_goal (compound room)) ts (and_ins_first i u)
compound_more {room} (got is rest) other begins lower c d = by_rule (on_other other (looked (forked begins (roomy 0 room lower (called c (called d ended))))))
compound_more {room} (refused rest) other begins lower c d = by_rule (on_other other (looked (forked begins (roomy 0 room lower (called c (call_refused d))))))
compound_more {room} stuck other begins lower c d = absurd (d.ends refl)
