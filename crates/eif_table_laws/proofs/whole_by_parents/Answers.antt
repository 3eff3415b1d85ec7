use Rattle.eif_table_laws.proofs.Wholeness.{by_parents_whole}
use Rattle.eif_table_laws.proofs.whole_by_parents.Goals as goal

pub returns : goal.returns
returns c = λ given root sound d class at. by_parents_whole given root sound d class at
