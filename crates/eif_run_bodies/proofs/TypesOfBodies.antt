-- The types that a body writes, by where they stand in it.
use Rattle.std.proofs.Common.{◌++◌, Option, Some, None}
use Rattle.eif_lineage_laws.proofs.EachItem.{AllOf, all_left, all_right}
use Rattle.eif_system.specs.WrittenTypes.{present, types_of_expression, types_of_expressions, types_of_variant, types_of_instruction, types_of_compound, types_of_branches, types_of_otherwise}
use Rattle.eif_tree.specs.Tree.{TypeT, Ex, literal, void_value, current_value, result_value, unqualified, precursor, qualified, creation, test, paren, unary, binary, Exs, no_exs, and_ex, Ins, assign, call, create, choose, loop, check, Inss, no_inss, and_ins, Branches, no_branches, and_branch, Otherwise, no_else, else_part}
use Rattle.eif_spelled_trees.specs.WrittenTexts.{OfType, IsWritten, AreWritten, InstructionIsWritten, CompoundIsWritten, BranchesAreWritten, OtherwiseIsWritten}

module _ (P : TypeT → Type 0) where
  abbrev Any : TypeT → Type 0
  Any t = Unit {0}

  of_type : (t : Option TypeT) → AllOf P (present t) → OfType P t
  of_type None h = tt
  of_type (Some t) h = h.0

  mutual
    expression_typed : (e : Ex) → IsWritten Any e → AllOf P (types_of_expression e) → IsWritten P e
    expression_typed (literal p x) w h = tt
    expression_typed (void_value p) w h = tt
    expression_typed (current_value p) w h = tt
    expression_typed (result_value p) w h = tt
    expression_typed (unqualified p x args) w h = (w.0, expressions_typed args w.1 h)
    expression_typed (precursor p x args) w h = expressions_typed args w h
    expression_typed (qualified p e x args) w h = (
      expression_typed e w.0 (all_left P (types_of_expression e) (types_of_expressions args) h),
      expressions_typed args w.1 (all_right P (types_of_expression e) (types_of_expressions args) h),
    )
    expression_typed (creation p t x args) w h = (h.0, expressions_typed args w.1 h.1)
    expression_typed (test p t y e) w h = (
      of_type t (all_left P (present t) (types_of_expression e) h),
      expression_typed e w.1 (all_right P (present t) (types_of_expression e) h),
    )
    expression_typed (paren p e) w h = expression_typed e w h
    expression_typed (unary p o e) w h = (w.0, expression_typed e w.1 h)
    expression_typed (binary p o q l r) w h = (
      w.0,
      expression_typed l w.1 (all_left P (types_of_expression l) (types_of_expression r) h),
      expression_typed r w.2 (all_right P (types_of_expression l) (types_of_expression r) h),
    )

    expressions_typed : (es : Exs) → AreWritten Any es → AllOf P (types_of_expressions es) → AreWritten P es
    expressions_typed no_exs w h = tt
    expressions_typed (and_ex e es) w h = (
      expression_typed e w.0 (all_left P (types_of_expression e) (types_of_expressions es) h),
      expressions_typed es w.1 (all_right P (types_of_expression e) (types_of_expressions es) h),
    )

  mutual
    instruction_typed : (i : Ins) → InstructionIsWritten Any i → AllOf P (types_of_instruction i) →
        InstructionIsWritten P i
    instruction_typed (assign x e) w h = expression_typed e w h
    instruction_typed (call e) w h = expression_typed e w h
    instruction_typed (create p t x y args) w h = (
      of_type t (all_left P (present t) (types_of_expressions args) h),
      expressions_typed args w.1 (all_right P (present t) (types_of_expressions args) h),
    )
    instruction_typed (choose bs o) w h = (
      branches_typed bs w.0 (all_left P (types_of_branches bs) (types_of_otherwise o) h),
      otherwise_typed o w.1 (all_right P (types_of_branches bs) (types_of_otherwise o) h),
    )
    instruction_typed (loop start claims exit body variant) w h =
        let a = types_of_compound start in
        let b = types_of_expressions claims in
        let c = types_of_expression exit in
        let d = types_of_compound body in
        let four = all_left P (a ++ b ++ c ++ d) (types_of_variant variant) h in
        let three = all_left P (a ++ b ++ c) d four in (
          compound_typed start w.0 (all_left P a b (all_left P (a ++ b) c three)),
          expression_typed exit w.1 (all_right P (a ++ b) c three),
          compound_typed body w.2 (all_right P (a ++ b ++ c) d four),
        )
    instruction_typed (check claims) w h = tt

    pub compound_typed : (is : Inss) → CompoundIsWritten Any is → AllOf P (types_of_compound is) →
        CompoundIsWritten P is
    compound_typed no_inss w h = tt
    compound_typed (and_ins i is) w h = (
      instruction_typed i w.0 (all_left P (types_of_instruction i) (types_of_compound is) h),
      compound_typed is w.1 (all_right P (types_of_instruction i) (types_of_compound is) h),
    )

    branches_typed : (bs : Branches) → BranchesAreWritten Any bs → AllOf P (types_of_branches bs) →
        BranchesAreWritten P bs
    branches_typed no_branches w h = tt
    branches_typed (and_branch e is bs) w h =
        let a = types_of_expression e in
        let b = types_of_compound is in
        let two = all_left P (a ++ b) (types_of_branches bs) h in (
          expression_typed e w.0 (all_left P a b two),
          compound_typed is w.1 (all_right P a b two),
          branches_typed bs w.2 (all_right P (a ++ b) (types_of_branches bs) h),
        )

    otherwise_typed : (o : Otherwise) → OtherwiseIsWritten Any o → AllOf P (types_of_otherwise o) →
        OtherwiseIsWritten P o
    otherwise_typed no_else w h = tt
    otherwise_typed (else_part is) w h = compound_typed is w h
