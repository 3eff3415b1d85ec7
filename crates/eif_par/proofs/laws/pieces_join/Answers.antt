use Rattle.eif_par.specs.Pieces.{GivesValues}
use Rattle.eif_par.proofs.Joins.{joined_map}
use Rattle.eif_par.proofs.laws.pieces_join.Goals as goal

pub returns : goal.returns
returns g c = λ view f items. joined_map (GivesValues view f items) view f items (λ _ _ _ h. h)
