use Rattle.std.proofs.Common.{map, take}
use Rattle.eif_base.specs.Appends.{Appends, SomeOf}
use Rattle.eif_rules.specs.UniverseRules.{IsOwnAncestor}
use Rattle.eif_tree.specs.View.{class_view, parent_view}
use Rattle.eif_universe.specs.ClassesView.{classes_view}
use Rattle.eif_universe.proofs.inheritance.push_own_ancestors.Given as goal

abbrev pub invariant-clauses : goal.invariant-clauses
invariant-clauses l =
    Appends l.initial.out l.out (SomeOf (take l.clause-index (map parent_view l.clauses))
    (λ i p f. IsOwnAncestor (classes_view l.classes) l.d (class_view l.class) p f))
