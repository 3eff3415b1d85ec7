use Rattle.eif_par.proofs.Covers.{covers}
use Rattle.eif_par.proofs.laws.pieces_cover.Goals as goal

pub returns : goal.returns
returns c = covers
