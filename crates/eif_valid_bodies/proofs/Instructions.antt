-- Instructions without faults are valid, where the tests that are known are typed.
use Rattle.std.proofs.Common.{◌≡◌, ℕ, Bool, true, false, List, [], ◌++◌, Option, None, refl}
use Rattle.std.specs.Prelude.{not}
use Rattle.eif_base.specs.declared.fault.Fault.{Fault}
use Rattle.eif_base.specs.declared.place.Place.{Place}
use Rattle.eif_tree.specs.declared.tree.NameAt.{NameAt}
use Rattle.eif_tree.specs.ExpressionPlaces.{place_of}
use Rattle.eif_tree.specs.Tree.{TypeT, Ex, literal, void_value, current_value, result_value, unqualified, precursor, qualified, creation, test, paren, unary, binary, Exs, no_exs, and_ex, Ins, assign, call, create, choose, loop, check, Inss, no_inss, and_ins, Branches, no_branches, and_branch, Otherwise, no_else, else_part}
use Rattle.eif_classes.specs.Types.{TyT}
use Rattle.eif_rules.specs.FaultForms.{fault_where}
use Rattle.eif_body_rules.specs.CallRules.{Argument, name_rule, precursor_rule, call_rule}
use Rattle.eif_body_rules.specs.ExpressionTypes.{judge, judge_all, first_argument, type_of, faults_of, told}
use Rattle.eif_body_rules.specs.Facts.{Fact}
use Rattle.eif_body_rules.specs.InstructionFaults.{expression_faults, no_boolean, condition_faults, loop_faults, dropped, call_judged, judge_each, all_unset_reads, create_instruction_rule, instruction_faults, compound_faults, branch_faults, otherwise_faults}
use Rattle.eif_body_rules.specs.Judgements.{Judged, ◌▹◌, ◌⊗◌}
use Rattle.eif_body_rules.specs.KnownFacts.{known_after, known_in_loop, known_where, known_otherwise}
use Rattle.eif_body_rules.specs.LocalFlow.{unset_reads, unset_reads_of_call, set_after, set_after_all}
use Rattle.eif_body_rules.specs.OperatorRules.{boolean}
use Rattle.eif_body_rules.specs.Outcomes.{as_instruction}
use Rattle.eif_body_rules.specs.Settings.{Setting, fits}
use Rattle.eif_body_rules.specs.Targets.{assignment_faults}
use Rattle.eif_body_rules.specs.TestRules.{test_names}
use Rattle.eif_valid_bodies.specs.Valid.{TestsTyped, TypedExpression, TypedArguments}
use Rattle.eif_valid_bodies.specs.ValidCalls.{ValidName, ValidPrecursor, ValidCall}
use Rattle.eif_valid_bodies.specs.ValidInstructions.{ValidExpression, ValidCondition, ValidAssign, ValidStatement, ValidCreate, ValidInstruction, ValidCompound, ValidBranches, ValidOtherwise}
use Rattle.eif_valid_bodies.proofs.Parts.{no_more, left_empty, right_empty, rule_empty, HasValue, has, part_clean, first_clean, second_clean, rule_clean, join_both, rule_has}
use Rattle.eif_valid_bodies.proofs.Calls.{stated_name, stated_precursor, stated_call}
use Rattle.eif_valid_bodies.proofs.TypedFacts.{typed_both, after_typed, loop_typed}
use Rattle.eif_valid_bodies.proofs.TypedRules.{name_has, precursor_has, call_rule_has, stated_has}
use Rattle.eif_valid_bodies.proofs.TypedExpressions.{typed_expression, typed_arguments}
use Rattle.eif_valid_bodies.proofs.ReadsSet.{set_reads, set_reads_in, set_reads_each}
use Rattle.eif_valid_bodies.proofs.Targets.{AssignedTo, assigned_to, CreatedFor, created_at}

not_kept : (b : Bool) (f : Fault) → fault_where (not b) f ≡ [] → b ≡ true
not_kept true f h = refl
not_kept false f h = absurd (no_more h)

is_truth : (s : Setting) (p : Place) (t : TyT) → no_boolean s p t ≡ [] → fits s t boolean ≡ true
unfolding no_boolean
is_truth s p t h = not_kept (fits s t boolean) _ h

-- ---- whole expressions

pub expression_valid : (s : Setting) (k : List Fact) (set : List (List ℕ)) (e : Ex) → TestsTyped k
    → expression_faults s k set e ≡ [] → ValidExpression s k set e
expression_valid s k set e t h =
    let a : TypedExpression s k [] e = typed_expression s k [] e t (left_empty (faults_of s k e) _ h) in
    record { type = a.type; valid = a.valid; reads = set_reads s set k [] e (right_empty (faults_of s k e) _ h) }

-- a condition, with what it tells
record Condition (s : Setting) (k : List Fact) (set : List (List ℕ)) (e : Ex) : Type 0 where
  valid : ValidCondition s k set e
  known : (b : Bool) → TestsTyped (known_where s k b e)

condition_of : (s : Setting) (k : List Fact) (set : List (List ℕ)) (e : Ex) → TestsTyped k
    → condition_faults s k set e ≡ [] → Condition s k set e
condition_of s k set e t h =
    let whole : expression_faults s k set e ≡ [] = left_empty (expression_faults s k set e) _ h in
    let a : TypedExpression s k [] e = typed_expression s k [] e t (left_empty (faults_of s k e) _ whole) in
    let rule : no_boolean s (place_of e) a.type ≡ [] =
    rule_empty (type_of s k e) a.type (no_boolean s (place_of e)) a.valid.value
    (right_empty (expression_faults s k set e) _ h) in
    record {
      valid =
          record {
            type = a.type;
            valid = a.valid;
            reads = set_reads s set k [] e (right_empty (faults_of s k e) _ whole);
            truth = is_truth s (place_of e) a.type rule;
          };
      known = λ b. typed_both k (told s k b e) t (a.told b);
    }

pub condition_valid : (s : Setting) (k : List Fact) (set : List (List ℕ)) (e : Ex) → TestsTyped k
    → condition_faults s k set e ≡ [] → ValidCondition s k set e
condition_valid s k set e t h = (condition_of s k set e t h).valid

-- ---- single instructions

assign_valid : (s : Setting) (k : List Fact) (set : List (List ℕ)) (x : NameAt) (e : Ex) → TestsTyped k
    → instruction_faults s k set (assign x e) ≡ [] → ValidAssign s k set x e
assign_valid s k set x e t h =
    let a : ValidExpression s k set e = expression_valid s k set e t (left_empty (expression_faults s k set e) _ h) in
    let to : AssignedTo s k x a.type =
    assigned_to s k x (place_of e) a.type
    (rule_empty (type_of s k e) a.type (assignment_faults s k x (place_of e)) a.valid.value
    (right_empty (expression_faults s k set e) _ h)) in
    record {
      source = a.type;
      target = to.target;
      source_valid = a.valid;
      reads = a.reads;
      is_target = to.is_target;
      fit = to.fit;
    }

-- of an instruction that is no call
dropped_valid : (s : Setting) (k : List Fact) (set : List (List ℕ)) (e : Ex) → TestsTyped k
    → (judge s k [] e ▹ dropped).faults ++ unset_reads s k set e ≡ [] → ValidExpression s k set e
dropped_valid s k set e t h =
    let j : Judged (Unit {0}) = judge s k [] e ▹ dropped in
    let a : TypedExpression s k [] e =
    typed_expression s k [] e t (part_clean (judge s k [] e) dropped (left_empty j.faults _ h)) in
    record { type = a.type; valid = a.valid; reads = set_reads s set k [] e (right_empty j.faults _ h) }

name_stated : (s : Setting) (k : List Fact) (p : Place) (x : List ℕ) (args : Exs) → TestsTyped k
    → (call_judged s k (unqualified p x args)).faults ≡ [] → ValidName s k [] x args None
name_stated s k p x args t h =
    let j : Judged (List Argument) = judge_all s k [] args in
    let a : TypedArguments s k [] args =
    typed_arguments s k [] args t
    (part_clean j (name_rule s k p x) (part_clean (j ▹ name_rule s k p x) (as_instruction s p p x) h)) in
    stated_name s k p x args
    (stated_has s j (name_rule s k p x) p p x a.given a.valid (name_has s k p x a.given t) h).valid

precursor_stated : (s : Setting) (k : List Fact) (p : Place) (x : Option NameAt) (args : Exs) → TestsTyped k
    → (call_judged s k (precursor p x args)).faults ≡ [] → ValidPrecursor s k [] x args None
precursor_stated s k p x args t h =
    let j : Judged (List Argument) = judge_all s k [] args in
    let a : TypedArguments s k [] args =
    typed_arguments s k [] args t
    (part_clean j (precursor_rule s p x) (part_clean (j ▹ precursor_rule s p x) (as_instruction s p p s.feature) h)) in
    stated_precursor s k p x args
    (stated_has s j (precursor_rule s p x) p p s.feature a.given a.valid (precursor_has s p x a.given) h).valid

call_stated : (s : Setting) (k : List Fact) (p : Place) (e : Ex) (x : NameAt) (args : Exs) → TestsTyped k
    → (call_judged s k (qualified p e x args)).faults ≡ [] → ValidCall s k [] e x args None
call_stated s k p e x args t h =
    let target : Judged TyT = judge s k [] e in
    let rest : Judged (List Argument) = judge_all s k (test_names e) args in
    let rule : TyT × List Argument → Judged _ = call_rule s (place_of e) x in
    let clean : (target ⊗ rest).faults ≡ [] =
    part_clean (target ⊗ rest) rule (part_clean (target ⊗ rest ▹ rule) (as_instruction s p x.place x.name) h) in
    let a : TypedExpression s k [] e = typed_expression s k [] e t (first_clean target rest clean) in
    let b : TypedArguments s k (test_names e) args =
    typed_arguments s k (test_names e) args t (second_clean target rest clean) in
    stated_call s k p e x args
    (stated_has s (target ⊗ rest) rule p x.place x.name (a.type, b.given)
    (join_both target rest a.type b.given a.valid b.valid)
    (call_rule_has s (place_of e) x a.type b.given) h).valid

statement_valid : (s : Setting) (k : List Fact) (set : List (List ℕ)) (e : Ex) → TestsTyped k
    → (call_judged s k e).faults ++ unset_reads_of_call s k set e ≡ [] → ValidStatement s k set e
statement_valid s k set (unqualified p x args) t h = (
  name_stated s k p x args t (left_empty (call_judged s k (unqualified p x args)).faults _ h),
  set_reads_in s set k [] args (right_empty (call_judged s k (unqualified p x args)).faults _ h),
)
statement_valid s k set (precursor p x args) t h = (
  precursor_stated s k p x args t (left_empty (call_judged s k (precursor p x args)).faults _ h),
  set_reads_in s set k [] args (right_empty (call_judged s k (precursor p x args)).faults _ h),
)
statement_valid s k set (qualified p e x args) t h = (
  call_stated s k p e x args t (left_empty (call_judged s k (qualified p e x args)).faults _ h),
  set_reads s set k [] (qualified p e x args) (right_empty (call_judged s k (qualified p e x args)).faults _ h),
)
statement_valid s k set (literal p x) t h = dropped_valid s k set (literal p x) t h
statement_valid s k set (void_value p) t h = dropped_valid s k set (void_value p) t h
statement_valid s k set (current_value p) t h = dropped_valid s k set (current_value p) t h
statement_valid s k set (result_value p) t h = dropped_valid s k set (result_value p) t h
statement_valid s k set (creation p w x args) t h = dropped_valid s k set (creation p w x args) t h
statement_valid s k set (test p w local e) t h = dropped_valid s k set (test p w local e) t h
statement_valid s k set (paren p e) t h = dropped_valid s k set (paren p e) t h
statement_valid s k set (unary p o e) t h = dropped_valid s k set (unary p o e) t h
statement_valid s k set (binary p o q left right) t h = dropped_valid s k set (binary p o q left right) t h

each_typed : (s : Setting) (k : List Fact) (es : Exs) → TestsTyped k → (judge_each s k es).faults ≡ []
    → HasValue (judge_each s k es)
each_typed s k no_exs t h = has []
each_typed s k (and_ex e es) t h =
    let first : Judged TyT = judge s k [] e in
    let rest : Judged (List Argument) = judge_each s k es in
    let clean : (first ⊗ rest).faults ≡ [] = part_clean (first ⊗ rest) (first_argument (place_of e)) h in
    let a : TypedExpression s k [] e = typed_expression s k [] e t (first_clean first rest clean) in
    let b : HasValue rest = each_typed s k es t (second_clean first rest clean) in
    rule_has (first ⊗ rest) (first_argument (place_of e)) (a.type, b.it)
    (join_both first rest a.type b.it a.valid b.valid) (λ _. has _) h

create_valid : (s : Setting) (k : List Fact) (set : List (List ℕ)) (p : Place) (w : Option TypeT) (x : NameAt)
    (y : Option NameAt) (args : Exs) → TestsTyped k → instruction_faults s k set (create p w x y args) ≡ []
    → ValidCreate s k set p w x y args
create_valid s k set p w x y args t h =
    let j : Judged (List Argument) = judge_each s k args in
    let rule : List Argument → Judged TyT = create_instruction_rule s k p w x y in
    let clean : (j ▹ rule).faults ≡ [] = left_empty (j ▹ rule).faults (all_unset_reads s k set args) h in
    let a : HasValue j = each_typed s k args t (part_clean j rule clean) in
    let to : CreatedFor s k p w x y a.it = created_at s k p w x y a.it (rule_clean j rule a.it a.valid clean) in
    record {
      given = a.it;
      target = to.target;
      args_valid = a.valid;
      reads = set_reads_each s set k args (right_empty (j ▹ rule).faults (all_unset_reads s k set args) h);
      is_target = to.is_target;
      created = to.created;
    }

-- ---- compounds

-- the parts of three lists that are empty together
three_empty : {A : Type 0} (xs ys zs : List A) → xs ++ ys ++ zs ≡ [] → (xs ≡ []) × (ys ≡ []) × (zs ≡ [])
three_empty xs ys zs h =
    let front : xs ++ ys ≡ [] = left_empty (xs ++ ys) zs h in
    (left_empty xs ys front, right_empty xs ys front, right_empty (xs ++ ys) zs h)

otherwise_typed : (s : Setting) (k : List Fact) (set : List (List ℕ)) (bs : Branches) → TestsTyped k
    → branch_faults s k set bs ≡ [] → TestsTyped (known_otherwise s k bs)
otherwise_typed s k set no_branches t h = t
otherwise_typed s k set (and_branch e is bs) t h =
    let each : (condition_faults s k set e ≡ []) × (compound_faults s (known_where s k true e) set is ≡ [])
    × (branch_faults s (known_where s k false e) set bs ≡ []) = three_empty (condition_faults s k set e) _ _ h in
    otherwise_typed s (known_where s k false e) set bs ((condition_of s k set e t each.0).known false) each.2

mutual
  instruction_valid : (s : Setting) (k : List Fact) (set : List (List ℕ)) (i : Ins) → TestsTyped k
      → instruction_faults s k set i ≡ [] → ValidInstruction s k set i
  instruction_valid s k set (assign x e) t h = assign_valid s k set x e t h
  instruction_valid s k set (call e) t h = statement_valid s k set e t h
  instruction_valid s k set (create p w x y args) t h = create_valid s k set p w x y args t h
  instruction_valid s k set (choose bs o) t h =
      let first : branch_faults s k set bs ≡ [] = left_empty (branch_faults s k set bs) _ h in (
        branches_valid s k set bs t first,
        otherwise_valid s (known_otherwise s k bs) set o (otherwise_typed s k set bs t first)
            (right_empty (branch_faults s k set bs) _ h),
      )
  instruction_valid s k set (loop start claims exit body variant) t h =
      let at : List Fact = known_in_loop s k start body in
      let later : List (List ℕ) = set_after_all set start in
      let each : (compound_faults s k set start ≡ []) × (loop_faults s at later claims exit variant ≡ [])
      × (compound_faults s (known_where s at false exit) later body ≡ []) =
      three_empty (compound_faults s k set start) _ _ h in
      let tests : (_ ≡ []) × (condition_faults s at later exit ≡ []) × (_ ≡ []) = three_empty _ _ _ each.1 in
      let c : Condition s at later exit = condition_of s at later exit (loop_typed s k start body t) tests.1 in (
        compound_valid s k set start t each.0,
        c.valid,
        compound_valid s (known_where s at false exit) later body (c.known false) each.2,
      )
  instruction_valid s k set (check claims) t h = tt

  pub compound_valid : (s : Setting) (k : List Fact) (set : List (List ℕ)) (is : Inss) → TestsTyped k
      → compound_faults s k set is ≡ [] → ValidCompound s k set is
  compound_valid s k set no_inss t h = tt
  compound_valid s k set (and_ins i is) t h = (
    instruction_valid s k set i t (left_empty (instruction_faults s k set i) _ h),
    compound_valid s (known_after s k i) (set_after set i) is (after_typed s k i t)
        (right_empty (instruction_faults s k set i) _ h),
  )

  branches_valid : (s : Setting) (k : List Fact) (set : List (List ℕ)) (bs : Branches) → TestsTyped k
      → branch_faults s k set bs ≡ [] → ValidBranches s k set bs
  branches_valid s k set no_branches t h = tt
  branches_valid s k set (and_branch e is bs) t h =
      let each : (condition_faults s k set e ≡ []) × (compound_faults s (known_where s k true e) set is ≡ [])
      × (branch_faults s (known_where s k false e) set bs ≡ []) = three_empty (condition_faults s k set e) _ _ h in
      let c : Condition s k set e = condition_of s k set e t each.0 in (
        c.valid,
        compound_valid s (known_where s k true e) set is (c.known true) each.1,
        branches_valid s (known_where s k false e) set bs (c.known false) each.2,
      )

  otherwise_valid : (s : Setting) (k : List Fact) (set : List (List ℕ)) (o : Otherwise) → TestsTyped k
      → otherwise_faults s k set o ≡ [] → ValidOtherwise s k set o
  otherwise_valid s k set no_else t h = tt
  otherwise_valid s k set (else_part is) t h = compound_valid s k set is t h

pub body_valid : (s : Setting) (is : Inss) → compound_faults s [] [] is ≡ [] → ValidCompound s [] [] is
body_valid s is h = compound_valid s [] [] is tt h
