use Rattle.eif_derivations.proofs.Systems.{few_in_tree}
use Rattle.eif_universe.specs.Universes.{classes_of}
use Rattle.eif_types.proofs.types.Types.resolve.Goals as goal

pub resolve-requires : goal.resolve-requires
resolve-requires c =
    few_in_tree (classes_of c.args.u.now) c.requires.types.system c.args.c.0 c.tree.result.now c.tree.ensures
