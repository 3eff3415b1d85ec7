use Rattle.std.proofs.Common.{◌≡◌, ◌++◌, map, drop}
use Rattle.eif_type_forms.specs.View.{ty_view}
use Rattle.eif_types.specs.TypeTables.{constraints_of}
use Rattle.eif_universe.specs.Universes.{classes_of}
use Rattle.eif_types.proofs.constraints.all_constraints.Given as goal

abbrev pub invariant-classes : goal.invariant-classes
invariant-classes l =
    map (λ v. map ty_view v.items) l.all.items
    ++ map (constraints_of (classes_of l.u)) (drop l.number (classes_of l.u))
    ≡ map (constraints_of (classes_of l.u)) (classes_of l.u)
