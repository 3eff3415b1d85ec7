use Rattle.eif_derivations.proofs.Systems.{few_in_tree}
use Rattle.eif_types.specs.Writers.{universe_of}
use Rattle.eif_types.proofs.actual_faults.Writer.push_wrong_actual.Goals as goal

pub constraint_of-requires : goal.constraint_of-requires
constraint_of-requires c =
    few_in_tree (universe_of c.args.self.now) c.requires.writer.types_are.system c.requires.base.0 c.args.base.now
    c.requires.base.1
