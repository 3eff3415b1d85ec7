-- The object-test locals that may be used: those of tests that hold.
use Rattle.std.specs.Prelude.{ℕ, List, [], ◌∷◌, ◌++◌, Option, Some, None}
use Rattle.eif_tree.specs.declared.tree.NameAt.{NameAt}
use Rattle.eif_tree.specs.declared.tree.Op.{Op}
use Rattle.eif_tree.specs.declared.tree.Op.TheVariants.{Not, And, AndThen, Or, OrElse, Implies}
use Rattle.eif_tree.specs.Tree.{Ex, test, paren, unary, binary}

-- the local of a test, if it has one
abbrev pub local_name : Option NameAt → List (List ℕ)
local_name None = []
local_name (Some n) = n.name ∷ []

abbrev mutual
  -- where the expression is true
  pub usable_if_true : Ex → List (List ℕ)
  usable_if_true (test p t l e) = local_name l
  usable_if_true (paren p e) = usable_if_true e
  usable_if_true (unary p Not e) = usable_if_false e
  usable_if_true (binary p And q l r) = usable_if_true l ++ usable_if_true r
  usable_if_true (binary p AndThen q l r) = usable_if_true l ++ usable_if_true r
  usable_if_true _ = []

  -- where it is false
  pub usable_if_false : Ex → List (List ℕ)
  usable_if_false (paren p e) = usable_if_false e
  usable_if_false (unary p Not e) = usable_if_true e
  usable_if_false (binary p Or q l r) = usable_if_false l ++ usable_if_false r
  usable_if_false (binary p OrElse q l r) = usable_if_false l ++ usable_if_false r
  usable_if_false (binary p Implies q l r) = usable_if_true l ++ usable_if_false r
  usable_if_false _ = []

-- by the left operand, in the right one
abbrev pub usable_by_left : Op → Ex → List (List ℕ)
usable_by_left AndThen e = usable_if_true e
usable_by_left Implies e = usable_if_true e
usable_by_left OrElse e = usable_if_false e
usable_by_left _ e = []
