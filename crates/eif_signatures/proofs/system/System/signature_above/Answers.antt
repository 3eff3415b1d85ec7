use Rattle.eif_derivations.proofs.Systems.{few_in_tree}
use Rattle.eif_signatures.specs.DerivedSystems.{classes_in}
use Rattle.eif_signatures.proofs.system.System.signature_above.Goals as goal

pub declared_signature-requires : goal.declared_signature-requires
declared_signature-requires c =
    few_in_tree (classes_in c.args.self.now) c.requires.system.tables_are.system c.args.class.0 c.tree-tree.result.now
    c.tree-tree.ensures
