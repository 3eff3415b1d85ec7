use Rattle.std.proofs.Common.{◌≡◌, ◌++◌, map, drop}
use Rattle.std.specs.Prelude.{flat_map}
use Rattle.eif_tree.specs.View.{class_view, decl_view}
use Rattle.eif_check.specs.Mentions.{name_at}
use Rattle.eif_check.specs.UnknownNames.{unknown_in}
use Rattle.eif_check.proofs.faults.push_unknown.Given as goal

abbrev pub invariant-called : goal.invariant-called
invariant-called l =
    let faults_of = unknown_in (class_view l.class) l.declared (decl_view l.decl) in
    l.out ++ flat_map faults_of (map name_at (drop l.mention-index l.called))
    ≡ l.initial.out ++ flat_map faults_of (map name_at l.called)
