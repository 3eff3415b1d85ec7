use Rattle.eif_body_rules_laws.proofs.FactsByTree.{by_tree}
use Rattle.eif_body_rules_laws.proofs.facts_by_tree.Goals as goal

pub returns : goal.returns
returns c = by_tree
