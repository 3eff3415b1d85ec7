use Rattle.std.proofs.Common.{◌≡◌, ◌++◌, drop, map}
use Rattle.eif_choices.specs.Picked.{picked_feature}
use Rattle.eif_choices.proofs.ancestor.all_picked.Given as goal

abbrev pub invariant-features : goal.invariant-features
invariant-features l =
    l.out.items ++ map (λ fs. picked_feature l.selected fs.items) (drop l.each-index l.candidates)
    ≡ map (λ fs. picked_feature l.selected fs.items) l.candidates
