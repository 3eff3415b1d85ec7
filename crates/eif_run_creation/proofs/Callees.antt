-- The bodies that a text calls are those that its names stand for.
use Rattle.std.proofs.Common.{ℕ, Bool, true, false, inl, inr, List, [], ◌∷◌, ◌++◌, ◌⊎◌, Option}
use Rattle.std.specs.Prelude.{if◌then◌else◌}
use Rattle.std.specs.Option.{option_map}
use Rattle.eif_base.specs.declared.place.Place.{Place}
use Rattle.eif_base.specs.Numbering.{is_among}
use Rattle.eif_tree.specs.declared.tree.NameAt.{NameAt}
use Rattle.eif_tree.specs.declared.tree.Op.{Op}
use Rattle.eif_tree.specs.declared.tree.Op.TheVariants as op
use Rattle.eif_tree.specs.Tree.{Ex, literal, void_value, current_value, result_value, unqualified, precursor, qualified, creation, test, paren, unary, binary, Exs, no_exs, and_ex, Ins, assign, call, create, choose, loop, check, Inss, no_inss, and_ins, Branches, no_branches, and_branch, Otherwise, no_else, else_part}
use Rattle.eif_classes.specs.Entries.{Declaration}
use Rattle.eif_flow_rules.specs.CallPaths.{IsOneOf}
use Rattle.eif_flow_rules.specs.FlowSteps.{Meanings, unless_hidden, right_flow, expression_flow, arguments_flow, target_flow, instruction_flow, compound_flow, branches_flow, otherwise_flow}
use Rattle.eif_flow_rules.specs.FlowTrees.{Flow, idle, in_turn, one_of, callees}
use Rattle.eif_flow_rules.specs.TestLocals.{usable_if_true, usable_if_false, usable_by_left}

pub split : (xs ys : List Declaration) (y : Declaration) → IsOneOf (xs ++ ys) y → IsOneOf xs y ⊎ IsOneOf ys y
split [] ys y m = inr m
split (x ∷ xs) ys y m =
    elim m [
      | inl e ↦ inl (inl e)
      | inr m ↦ elim (split xs ys y m) [ inl l ↦ inl (inr l) | inr r ↦ inr r ]
    ]

-- P of each body that a flow calls
abbrev pub Calls : (Declaration → Type 0) → Flow → Type 0
Calls P t = (y : Declaration) → IsOneOf (callees t) y → P y

-- P of each body that the names of a text stand for
pub record Mean (P : Declaration → Type 0) (m : Meanings) : Type 0 where
  pub used : (p : Place) (n : List ℕ) → Calls P (m.used p n)
  pub assigned : (n : List ℕ) → Calls P (m.assigned n)
  pub version : (p : Place) (parent : Option (List ℕ)) → Calls P (m.version p parent)

module _ (P : Declaration → Type 0) where
  both : (a b : Flow) → Calls P a → Calls P b → Calls P (in_turn a b)
  both a b h g y m = elim (split (callees a) (callees b) y m) [ inl l ↦ h y l | inr r ↦ g y r ]

  either : (a b : Flow) → Calls P a → Calls P b → Calls P (one_of a b)
  either a b h g y m = elim (split (callees a) (callees b) y m) [ inl l ↦ h y l | inr r ↦ g y r ]

  hidden_by : (b : Bool) (t : Flow) → Calls P t → Calls P (if b then idle else t)
  hidden_by true t h y m = absurd m
  hidden_by false t h y m = h y m

  on_the_right : (o : Op) (t : Flow) → Calls P t → Calls P (right_flow o t)
  on_the_right op.Plus t h = h
  on_the_right op.Minus t h = h
  on_the_right op.Times t h = h
  on_the_right op.Divide t h = h
  on_the_right op.Modulo t h = h
  on_the_right op.Power t h = h
  on_the_right op.Equal t h = h
  on_the_right op.NotEqual t h = h
  on_the_right op.Less t h = h
  on_the_right op.Greater t h = h
  on_the_right op.LessEqual t h = h
  on_the_right op.GreaterEqual t h = h
  on_the_right op.Not t h = h
  on_the_right op.And t h = h
  on_the_right op.AndThen t h = h
  on_the_right op.Or t h = h
  on_the_right op.OrElse t h = h
  on_the_right op.Xor t h = h
  on_the_right op.Implies t h = h

  module _ (m : Meanings) (mean : Mean P m) where
    unless : (hidden : List (List ℕ)) (n : List ℕ) (t : Flow) → Calls P t → Calls P (unless_hidden hidden n t)
    unless hidden n t h = hidden_by (is_among hidden n) t h

    mutual
      of_expression : (hidden : List (List ℕ)) (e : Ex) → Calls P (expression_flow m hidden e)
      of_expression hidden (literal p x) = λ y m. absurd m
      of_expression hidden (void_value p) = λ y m. absurd m
      of_expression hidden (current_value p) = λ y m. absurd m
      of_expression hidden (result_value p) = λ y m. absurd m
      of_expression hidden (unqualified p n args) =
          both (arguments_flow m hidden args) (unless_hidden hidden n (m.used p n)) (of_arguments hidden args)
          (unless hidden n (m.used p n) (mean.used p n))
      of_expression hidden (precursor p n args) =
          both (arguments_flow m hidden args) (m.version p (option_map (λ x. x.name) n)) (of_arguments hidden args)
          (mean.version p (option_map (λ x. x.name) n))
      of_expression hidden (qualified p e n args) =
          both (expression_flow m hidden e) (arguments_flow m hidden args) (of_expression hidden e)
          (of_arguments hidden args)
      of_expression hidden (creation p t n args) = of_arguments hidden args
      of_expression hidden (test p t l e) = of_expression hidden e
      of_expression hidden (paren p e) = of_expression hidden e
      of_expression hidden (unary p o e) = of_expression hidden e
      of_expression hidden (binary p o q l r) =
          let right = expression_flow m (usable_by_left o l ++ hidden) r in
          both (expression_flow m hidden l) (right_flow o right) (of_expression hidden l)
          (on_the_right o right (of_expression (usable_by_left o l ++ hidden) r))

      of_arguments : (hidden : List (List ℕ)) (es : Exs) → Calls P (arguments_flow m hidden es)
      of_arguments hidden no_exs = λ y m. absurd m
      of_arguments hidden (and_ex e es) =
          both (expression_flow m hidden e) (arguments_flow m hidden es) (of_expression hidden e)
          (of_arguments hidden es)

    of_target : (hidden : List (List ℕ)) (n : NameAt) → Calls P (target_flow m hidden n)
    of_target hidden n = unless hidden n.name (m.assigned n.name) (mean.assigned n.name)

    mutual
      of_instruction : (hidden : List (List ℕ)) (i : Ins) → Calls P (instruction_flow m hidden i)
      of_instruction hidden (assign n e) =
          both (expression_flow m hidden e) (target_flow m hidden n) (of_expression hidden e) (of_target hidden n)
      of_instruction hidden (call e) = of_expression hidden e
      of_instruction hidden (create p t n c args) =
          both (arguments_flow m hidden args) (target_flow m hidden n) (of_arguments hidden args)
          (of_target hidden n)
      of_instruction hidden (choose bs o) =
          of_branches hidden bs (λ ns. otherwise_flow m ns o) (λ ns. of_otherwise ns o)
      of_instruction hidden (loop start claims exit body variant) =
          let exit_flow = expression_flow m hidden exit in
          let body_flow = compound_flow m (usable_if_false exit ++ hidden) body in
          both (compound_flow m hidden start) (in_turn exit_flow body_flow) (of_compound hidden start)
          (both exit_flow body_flow (of_expression hidden exit)
          (of_compound (usable_if_false exit ++ hidden) body))
      of_instruction hidden (check claims) = λ y m. absurd m

      pub of_compound : (hidden : List (List ℕ)) (is : Inss) → Calls P (compound_flow m hidden is)
      of_compound hidden no_inss = λ y m. absurd m
      of_compound hidden (and_ins i is) =
          both (instruction_flow m hidden i) (compound_flow m hidden is) (of_instruction hidden i)
          (of_compound hidden is)

      of_branches : (hidden : List (List ℕ)) (bs : Branches) (otherwise : List (List ℕ) → Flow)
          → ((ns : List (List ℕ)) → Calls P (otherwise ns)) → Calls P (branches_flow m hidden bs otherwise)
      of_branches hidden no_branches otherwise h = h hidden
      of_branches hidden (and_branch e is bs) otherwise h =
          let first = compound_flow m (usable_if_true e ++ hidden) is in
          let rest = branches_flow m (usable_if_false e ++ hidden) bs otherwise in
          both (expression_flow m hidden e) (one_of first rest) (of_expression hidden e)
          (either first rest (of_compound (usable_if_true e ++ hidden) is)
          (of_branches (usable_if_false e ++ hidden) bs otherwise h))

      of_otherwise : (hidden : List (List ℕ)) (o : Otherwise) → Calls P (otherwise_flow m hidden o)
      of_otherwise hidden no_else = λ y m. absurd m
      of_otherwise hidden (else_part is) = of_compound hidden is
