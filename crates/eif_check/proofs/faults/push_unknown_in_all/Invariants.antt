use Rattle.std.proofs.Common.{◌≡◌, ◌++◌, map, drop}
use Rattle.std.specs.Prelude.{flat_map}
use Rattle.eif_tree.specs.View.{class_view, decl_view}
use Rattle.eif_check.specs.UnknownNames.{all_unknown_in}
use Rattle.eif_check.proofs.faults.push_unknown_in_all.Given as goal

abbrev pub invariant-decls : goal.invariant-decls
invariant-decls l =
    let faults_of = all_unknown_in (class_view l.class) l.declared in
    l.out ++ flat_map faults_of (map (λ d. decl_view d.now) (drop l.decl-index l.decls))
    ≡ l.initial.out ++ flat_map faults_of (map (λ d. decl_view d.now) l.decls)
