use Rattle.std.proofs.Common.{◌≡◌, List, ◌++◌, map, ap, ◌∙◌}
use Rattle.std.specs.Prelude.{flat_map}
use Rattle.eif_base.specs.Appends.{In}
use Rattle.eif_base.specs.declared.Fault.{Fault}
use Rattle.eif_system_rules.specs.SystemRules.{not_yet, unknown_names_in}
use Rattle.eif_tree.specs.View.{class_view}
use Rattle.eif_check.proofs.Phases.{first_has, has_in, not_empty}
use Rattle.eif_check.proofs.check.bodies_faults.Goals as goal

pub returns-then-not-is_empty : goal.returns-then-not-is_empty
returns-then-not-is_empty c =
    let given = map class_view c.args.given.now in
    let list = c.push_not_yet.new.out in
    let first = flat_map not_yet given in
    let are : list ≡ first =
    c.in_ok-push_not_yet.ensures ∙ ap (λ (xs : List Fault). xs ++ first) c.new-faults.ensures in
    first_has list (In first) (In (flat_map unknown_names_in given))
    (not_empty c.is_empty.result list c.is_empty.ensures.1 c.if-not-is_empty.true) (has_in list first are)
