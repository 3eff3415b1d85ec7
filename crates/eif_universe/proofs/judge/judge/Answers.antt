use Rattle.std.proofs.Common.{◌≡◌, ◌≤◌, ℕ, List, [], map, sym, ap, subst, ◌∙◌}
use Rattle.std.proofs.lemmas.List.{length-map}
use Rattle.eif_ancestry.specs.Ancestries.{number_graph, AreAncestries}
use Rattle.eif_base.specs.Appends.{Appends}
use Rattle.eif_base.specs.declared.fault.Fault.{Fault}
use Rattle.eif_system.specs.Graph.{IsClosed}
use Rattle.eif_system.specs.Inheritance.{graph_of}
use Rattle.eif_system.specs.Kernel.{kernel_count}
use Rattle.eif_tree.specs.View.{class_view}
use Rattle.eif_universe.specs.Universes.{GivenBroken, given_in}
use Rattle.eif_universe.proofs.ParentNumbers.{graph_of-closed}
use Rattle.eif_universe.proofs.RootNumbers.{kernel_fits}
use Rattle.eif_universe.proofs.Told.{adds_all}
use Rattle.eif_universe.proofs.judge.judge.Goals as goal

pub ancestors_of_all-requires-clause-closed : goal.ancestors_of_all-requires-clause-closed
ancestors_of_all-requires-clause-closed c =
    let u = map class_view c.args.trees.now in
    subst (λ (g : List (List ℕ)). IsClosed g)
    (sym (ap number_graph c.deref.ensures.value ∙ c.in_ok-graph.ensures)) (graph_of-closed u)

pub given_part-given-requires : goal.given_part-given-requires
given_part-given-requires c =
    let u = map class_view c.args.trees.now in
    subst (λ n. kernel_count ≤ n) (length-map c.args.trees.now class_view) (kernel_fits u c.requires.kernel)

pub returns : goal.returns
returns c =
    let u = map class_view c.args.trees.now in
    let graph_is = c.in_ok-graph.ensures in
    let same : number_graph c.deref.result.now ≡ graph_of u = ap number_graph c.deref.ensures.value ∙ graph_is in
    let first : Appends [] c.push_given_faults.new.out (GivenBroken u (given_in u)) =
    subst (λ (xs : List Fault). Appends xs c.push_given_faults.new.out (GivenBroken u (given_in u)))
    c.new-faults.ensures
    c.in_ok-push_given_faults.ensures in
    record {
      numbered = c.in_ok-numbers.ensures.numbers;
      graph_is = graph_is;
      ancestors_are = subst (λ (g : List (List ℕ)). AreAncestries g c.in_ok-ancestors.ancestors.items) same
          c.in_ok-ancestors.ensures;
      faults_are = adds_all u c.args.root.now c.push_given_faults.new.out c.push_root_faults.new.out
          c.requires.kernel first
          c.in_ok-push_root_faults.ensures;
    }
