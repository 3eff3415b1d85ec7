-- The order of evaluation. Assertions, to which loop variants belong, aren't followed.
use Rattle.std.specs.Prelude.{ℕ, if◌then◌else◌, List, ◌++◌, Option}
use Rattle.std.specs.Option.{option_map}
use Rattle.eif_base.specs.declared.place.Place.{Place}
use Rattle.eif_base.specs.Numbering.{is_among}
use Rattle.eif_tree.specs.declared.tree.NameAt.{NameAt}
use Rattle.eif_tree.specs.declared.tree.Op.{Op}
use Rattle.eif_tree.specs.declared.tree.Op.TheVariants.{AndThen, OrElse, Implies}
use Rattle.eif_tree.specs.Tree.{Ex, literal, void_value, current_value, result_value, unqualified, precursor, qualified, creation, test, paren, unary, binary, Exs, no_exs, and_ex, Ins, assign, call, create, choose, loop, check, Inss, no_inss, and_ins, Branches, no_branches, and_branch, Otherwise, no_else, else_part}
use Rattle.eif_flow_rules.specs.FlowTrees.{Flow, idle, shows, in_turn, aside, one_of}
use Rattle.eif_flow_rules.specs.TestLocals.{usable_if_true, usable_if_false, usable_by_left}

-- what the names of a text stand for that are features
pub record Meanings : Type 0 where
  -- of a name that is read or called, by its place
  pub used : Place → List ℕ → Flow
  -- of a name that is assigned or created
  pub assigned : List ℕ → Flow
  -- of `Precursor` at its place, and of the parent that it names
  pub version : Place → Option (List ℕ) → Flow

-- a test local that may be used, an argument, a local and `Result` hide a feature of that name
abbrev pub unless_hidden : List (List ℕ) → List ℕ → Flow → Flow
unless_hidden hidden n t = if is_among hidden n then idle else t

-- the right operand of these may not run
abbrev pub right_flow : Op → Flow → Flow
right_flow AndThen t = aside t
right_flow OrElse t = aside t
right_flow Implies t = aside t
right_flow _ t = t

abbrev mutual
  -- target, arguments from left to right, and then the call
  pub expression_flow : Meanings → List (List ℕ) → Ex → Flow
  expression_flow m hidden (literal p x) = idle
  expression_flow m hidden (void_value p) = idle
  expression_flow m hidden (current_value p) = shows p
  expression_flow m hidden (result_value p) = idle
  expression_flow m hidden (unqualified p n args) =
      in_turn (arguments_flow m hidden args) (unless_hidden hidden n (m.used p n))
  expression_flow m hidden (precursor p n args) =
      in_turn (arguments_flow m hidden args) (m.version p (option_map (λ x. x.name) n))
  expression_flow m hidden (qualified p e n args) =
      in_turn (expression_flow m hidden e) (arguments_flow m hidden args)
  expression_flow m hidden (creation p t n args) = arguments_flow m hidden args
  expression_flow m hidden (test p t l e) = expression_flow m hidden e
  expression_flow m hidden (paren p e) = expression_flow m hidden e
  expression_flow m hidden (unary p o e) = expression_flow m hidden e
  expression_flow m hidden (binary p o q l r) =
      in_turn (expression_flow m hidden l)
      (right_flow o (expression_flow m (usable_by_left o l ++ hidden) r))

  pub arguments_flow : Meanings → List (List ℕ) → Exs → Flow
  arguments_flow m hidden no_exs = idle
  arguments_flow m hidden (and_ex e es) = in_turn (expression_flow m hidden e) (arguments_flow m hidden es)

-- a target is set last
abbrev pub target_flow : Meanings → List (List ℕ) → NameAt → Flow
target_flow m hidden n = unless_hidden hidden n.name (m.assigned n.name)

abbrev mutual
  -- what a loop's exit and its body set isn't counted
  pub instruction_flow : Meanings → List (List ℕ) → Ins → Flow
  instruction_flow m hidden (assign n e) = in_turn (expression_flow m hidden e) (target_flow m hidden n)
  instruction_flow m hidden (call e) = expression_flow m hidden e
  instruction_flow m hidden (create p t n c args) = in_turn (arguments_flow m hidden args) (target_flow m hidden n)
  instruction_flow m hidden (choose bs o) = branches_flow m hidden bs (λ ns. otherwise_flow m ns o)
  instruction_flow m hidden (loop start claims exit body variant) =
      in_turn (compound_flow m hidden start)
      (in_turn (aside (expression_flow m hidden exit))
      (aside (compound_flow m (usable_if_false exit ++ hidden) body)))
  instruction_flow m hidden (check claims) = idle

  pub compound_flow : Meanings → List (List ℕ) → Inss → Flow
  compound_flow m hidden no_inss = idle
  compound_flow m hidden (and_ins i is) = in_turn (instruction_flow m hidden i) (compound_flow m hidden is)

  -- a condition, and then its branch or what comes behind it
  pub branches_flow : Meanings → List (List ℕ) → Branches → (List (List ℕ) → Flow) → Flow
  branches_flow m hidden no_branches otherwise = otherwise hidden
  branches_flow m hidden (and_branch e is bs) otherwise =
      in_turn (expression_flow m hidden e)
      (one_of (compound_flow m (usable_if_true e ++ hidden) is)
      (branches_flow m (usable_if_false e ++ hidden) bs otherwise))

  -- a missing `else` is a branch that does nothing
  pub otherwise_flow : Meanings → List (List ℕ) → Otherwise → Flow
  otherwise_flow m hidden no_else = idle
  otherwise_flow m hidden (else_part is) = compound_flow m hidden is
