-- The search for paths and the unfolding of calls go far enough: no length of a path and no depth of unfolding counts.
use Rattle.std.specs.Prelude.{◌≡◌, true, List, length}
use Rattle.eif_classes.specs.Entries.{Declaration}
use Rattle.eif_flow_rules.specs.CallPaths.{IsOneOf, Leads, leads_within, IsClosed}
use Rattle.eif_flow_rules.specs.FieldSets.{FieldSet}
use Rattle.eif_flow_rules.specs.FlowTrees.{Flow}
use Rattle.eif_flow_rules.specs.NeedsAndSets.{summary_of, circular, summary_by}

-- a path is found where there is one, and only there
pub record PathLaws (flow : Declaration → Flow) (bodies : List Declaration) : Type 0 where
  pub by_path : (x y : Declaration) → IsOneOf bodies x → Leads flow x y
      → leads_within flow (length bodies) x y ≡ true
  pub has_path : (x y : Declaration) → leads_within flow (length bodies) x y ≡ true → Leads flow x y

-- a body that leads to itself needs all and sets none; any other needs and sets what its text does, by its callees
pub record SummaryLaws (all : FieldSet) (flow : Declaration → Flow) (bodies : List Declaration) : Type 0 where
  pub of_circular : (x : Declaration) → IsOneOf bodies x → Leads flow x x
      → summary_by all flow (length bodies) x ≡ circular all
  pub of_straight : (x : Declaration) → IsOneOf bodies x → (Leads flow x x → ⊥)
      → summary_by all flow (length bodies) x ≡ summary_of all (summary_by all flow (length bodies)) (flow x)

-- of all bodies that call each other alone
abbrev pub FarEnough : Type 0
FarEnough =
    (all : FieldSet) (flow : Declaration → Flow) (bodies : List Declaration) → IsClosed flow bodies
    → PathLaws flow bodies × SummaryLaws all flow bodies
