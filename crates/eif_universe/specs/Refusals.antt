-- Why given classes make no universe.
use Rattle.std.specs.Prelude.{◌≢◌, ⊤, List, [], map}
use Rattle.eif_base.specs.Appends.{Has}
use Rattle.eif_base.specs.declared.fault.Fault.{Fault}
use Rattle.eif_tree.specs.Tree.{ClassT}
use Rattle.eif_tree.specs.View.{class_view}
use Rattle.eif_universe.specs.declared.judge.Refusal.{Refusal}
use Rattle.eif_universe.specs.declared.judge.Refusal.TheVariants as refusal
use Rattle.eif_universe.specs.declared.universe.UniverseError.{UniverseError}
use Rattle.eif_universe.specs.declared.universe.UniverseError.TheVariants as error

-- a list of exactly the faults with broken, of which there are some
pub record Lists (list : List Fault) (broken : Fault → Type 0) : Type 0 where
  pub has : Has list broken
  pub some : list ≢ []

-- a refusal for faults has exactly those with broken
abbrev pub IsRefusalOf : (Fault → Type 0) → Refusal → Type 0
IsRefusalOf broken (refusal.Faults list) = Lists list broken
IsRefusalOf broken refusal.Memory = ⊤

-- an error of faults has exactly those with broken
abbrev pub IsErrorOf : (Fault → Type 0) → UniverseError → Type 0
IsErrorOf broken (error.Faults list given) = Lists list broken
IsErrorOf broken (error.Memory given) = ⊤

-- the classes that an error hands back
abbrev pub given_back : UniverseError → List ClassT
given_back (error.Faults list given) = map class_view given.items
given_back (error.Memory given) = map class_view given.items
