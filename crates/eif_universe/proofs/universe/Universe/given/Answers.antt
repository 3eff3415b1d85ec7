use Rattle.std.proofs.Common.{ap, length, map, arith}
use Rattle.std.proofs.lemmas.List.{length-map}
use Rattle.eif_tree.specs.View.{class_view}
use Rattle.eif_universe.proofs.RootNumbers.{kernel_fits}
use Rattle.eif_universe.proofs.universe.Universe.given.Goals as goal

pub given_part-requires : goal.given_part-requires
given_part-requires c =
    let trees = c.self.inside.trees.items in
    let fits = kernel_fits (map class_view trees) c.self.invariant.has_kernel in
    omega (arith, length-map trees class_view, ap length c.deref.ensures.value)
