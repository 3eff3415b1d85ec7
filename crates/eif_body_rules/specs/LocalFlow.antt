-- Which locals are surely set, and reads of those that aren't.
use Rattle.std.specs.Prelude.{ℕ, not, ◌&&◌, if◌then◌else◌, List, [], ◌∷◌, ◌++◌}
use Rattle.std.specs.List.{filter}
use Rattle.std.specs.Option.{option_map_or}
use Rattle.eif_base.specs.declared.code.Code.TheVariants as code
use Rattle.eif_base.specs.declared.fault.Fault.{Fault}
use Rattle.eif_base.specs.declared.place.Place.{Place}
use Rattle.eif_base.specs.Numbering.{is_among}
use Rattle.eif_tree.specs.Tree.{Ex, literal, void_value, current_value, result_value, unqualified, precursor, qualified, creation, test, paren, unary, binary, Exs, no_exs, and_ex, Ins, assign, call, create, choose, loop, check, Inss, no_inss, and_ins, Branches, no_branches, and_branch, Otherwise, no_else, else_part}
use Rattle.eif_tree.specs.Members.{result_name}
use Rattle.eif_classes.specs.Types.{TyT, is_self_initialising}
use Rattle.eif_rules.specs.FaultForms.{fault_where}
use Rattle.eif_body_rules.specs.Conditions.{goes_on, at_right}
use Rattle.eif_body_rules.specs.ExpressionTypes.{facts}
use Rattle.eif_body_rules.specs.Facts.{Fact}
use Rattle.eif_body_rules.specs.Settings.{Setting, fault, Meaning, entity, meaning}
use Rattle.eif_body_rules.specs.TestRules.{local_names, test_names}

-- ---- the names that are surely set, Result among them. A local is set after an assignment or creation of it

-- the names of both lists
abbrev pub common_names : List (List ℕ) → List (List ℕ) → List (List ℕ)
common_names xs ys = filter (is_among ys) xs

abbrev mutual
  pub set_after : List (List ℕ) → Ins → List (List ℕ)
  set_after set (assign x e) = x.name ∷ set
  set_after set (call e) = set
  set_after set (create p t x y args) = x.name ∷ set
  set_after set (choose bs o) = set_by_branches set bs (set_otherwise set o)
  set_after set (loop start claims exit body variant) = set_after_all set start
  set_after set (check claims) = set

  pub set_after_all : List (List ℕ) → Inss → List (List ℕ)
  set_after_all set no_inss = set
  set_after_all set (and_ins i is) = set_after_all (set_after set i) is

  -- what every branch sets, with the names that are set otherwise
  pub set_by_branches : List (List ℕ) → Branches → List (List ℕ) → List (List ℕ)
  set_by_branches set no_branches other = other
  set_by_branches set (and_branch e is bs) other = common_names (set_after_all set is) (set_by_branches set bs other)

  -- a missing `else` sets nothing
  pub set_otherwise : List (List ℕ) → Otherwise → List (List ℕ)
  set_otherwise set no_else = set
  set_otherwise set (else_part is) = set_after_all set is

-- ---- reads, where those names are set; a name denotes by what is known there

-- VEVI.1: what has that name and type is read where it isn't surely set; a self-initialising type is always set
unfoldable pub unset_read : Setting → List (List ℕ) → Place → List ℕ → TyT → List Fault
unset_read s set p x t =
    fault_where (not (is_self_initialising t) && not (is_among set x)) (fault s code.Vevi 1 p x)

-- the name is read as a local
abbrev pub unset_local : Setting → List (List ℕ) → Place → List ℕ → Meaning → List Fault
unset_local s set p x (entity e) = if e.is_local then unset_read s set p x e.type else []
unset_local s set p x _ = []

-- a call with arguments is no read of a local
unfoldable pub unset_name : Setting → List Fact → List (List ℕ) → Place → List ℕ → Exs → List Fault
unset_name s k set p x no_exs = unset_local s set p x (meaning s k x)
unset_name s k set p x (and_ex e es) = []

-- of each read that has a type, whatever stands around it; known facts and earlier tests go through an expression as
-- its judgement says
abbrev mutual
  pub unset : Setting → List Fact → List (List ℕ) → List (List ℕ) → Ex → List Fault
  unset s k n set (literal p x) = []
  unset s k n set (void_value p) = []
  unset s k n set (current_value p) = []
  unset s k n set (result_value p) = option_map_or (unset_read s set p result_name) s.result []
  unset s k n set (unqualified p x args) = unset_in s k n set args ++ unset_name s k set p x args
  unset s k n set (precursor p x args) = unset_in s k n set args
  unset s k n set (qualified p e x args) = unset s k n set e ++ unset_in s k (n ++ test_names e) set args
  unset s k n set (creation p t x args) = unset_in s k n set args
  unset s k n set (test p t local e) = unset s k (n ++ local_names local) set e
  unset s k n set (paren p e) = unset s k n set e
  unset s k n set (unary p o e) = unset s k n set e
  unset s k n set (binary p o q left right) =
      unset s k n set left ++ unset s (at_right o k (facts s k n (goes_on o) left)) (n ++ test_names left) set right

  pub unset_in : Setting → List Fact → List (List ℕ) → List (List ℕ) → Exs → List Fault
  unset_in s k n set no_exs = []
  unset_in s k n set (and_ex e es) = unset s k n set e ++ unset_in s k (n ++ test_names e) set es

-- of a whole expression
abbrev pub unset_reads : Setting → List Fact → List (List ℕ) → Ex → List Fault
unset_reads s k set e = unset s k [] set e

-- of a call that stands as an instruction, which isn't read itself
abbrev pub unset_reads_of_call : Setting → List Fact → List (List ℕ) → Ex → List Fault
unset_reads_of_call s k set (unqualified p x args) = unset_in s k [] set args
unset_reads_of_call s k set e = unset_reads s k set e
