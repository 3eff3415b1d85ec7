-- The test locals that a flow takes as usable are those of which the facts of an expression tell.
use Rattle.std.specs.Prelude.{◌≡◌, ℕ, Bool, if◌then◌else◌, List, [], ◌∷◌}
use Rattle.eif_tree.specs.declared.tree.Op.{Op}
use Rattle.eif_tree.specs.Tree.{Ex}
use Rattle.eif_body_rules.specs.Conditions.{is_short, goes_on}
use Rattle.eif_body_rules.specs.PlainFacts as facts
use Rattle.eif_flow_rules.specs.TestLocals.{usable_if_true, usable_if_false, usable_by_left}

-- the names of the locals that the facts make usable
abbrev pub usable_names : List facts.PlainFact → List (List ℕ)
usable_names [] = []
usable_names (facts.attached x ∷ told) = usable_names told
usable_names (facts.usable_at x p ∷ told) = x ∷ usable_names told

-- those of a flow, where an expression has the value b
abbrev pub usable_where : Bool → Ex → List (List ℕ)
usable_where b e = if b then usable_if_true e else usable_if_false e

-- those that a left operand makes usable in the right one: by the value with which that is evaluated, where it may be
-- left out
abbrev pub told_by_left : (List ℕ → Bool) → Op → Ex → List (List ℕ)
told_by_left testable o e = if is_short o then usable_names (facts.plain_facts testable (goes_on o) e) else []

-- whichever names are testable
pub record TestLocalsAgree : Type 0 where
  pub where_it_holds : (testable : List ℕ → Bool) (b : Bool) (e : Ex)
      → usable_names (facts.plain_facts testable b e) ≡ usable_where b e
  pub on_the_right : (testable : List ℕ → Bool) (o : Op) (e : Ex)
      → told_by_left testable o e ≡ usable_by_left o e
