-- The ways from a class to an ancestor, and what they give it.
use Rattle.std.specs.Prelude.{ℕ, List, [], ◌∷◌, map, Option, Some, None}
use Rattle.std.specs.Option.{option_map}
use Rattle.eif_base.specs.declared.code.Code.TheVariants as code
use Rattle.eif_base.specs.declared.fault.Fault.{Fault}
use Rattle.eif_classes.specs.Ancestry.{Way}
use Rattle.eif_classes.specs.Types.{Actuals, put_in_all}
use Rattle.eif_derivations.specs.declared.derived.Derived.{Derived}
use Rattle.eif_derivations.specs.declared.derived.Derived.TheVariants as derived
use Rattle.eif_derivations.specs.declared.ways.WayTo.{WayTo}
use Rattle.eif_rules.specs.FaultForms.{fault_at}
use Rattle.eif_tree.specs.Tree.{ClassT}
use Rattle.eif_tree.specs.View.{parent_view}
use Rattle.eif_type_forms.specs.View.{actuals_view}

-- as the definitions have it
abbrev pub way_view : WayTo → Way
way_view x = record {
  clause = parent_view x.tree.now;
  actuals = option_map (λ given. put_in_all (actuals_view x.actuals.now) (actuals_view given.now)) x.given;
}

abbrev pub ways_view : List WayTo → List Way
ways_view ws = map way_view ws

-- ---- what the ways give together

-- the one list, if there is one
abbrev pub derived_actuals : Derived → Option Actuals
derived_actuals (derived.Given xs) = Some (actuals_view xs.items)
derived_actuals derived.Undefined = None
derived_actuals (derived.TooLarge place) = None
derived_actuals (derived.Differing place) = None

-- the faults of it, in the class c, about the ancestor with that name
abbrev pub derived_faults : ClassT → List ℕ → Derived → List Fault
derived_faults c name (derived.Given xs) = []
derived_faults c name derived.Undefined = []
derived_faults c name (derived.TooLarge place) = fault_at c code.Xlim 6 place name ∷ []
derived_faults c name (derived.Differing place) = fault_at c code.Xanc 1 place name ∷ []
