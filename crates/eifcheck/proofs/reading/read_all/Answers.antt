use Rattle.std.proofs.lemmas.Result.{err_from_is_err_and}
use Rattle.eifcheck.proofs.CourseLemmas.{nothing_read}
use Rattle.eifcheck.proofs.reading.read_all.Goals as goal

pub returns-in_err-all-clause-reads : goal.returns-in_err-all-clause-reads
returns-in_err-all-clause-reads g c =
    let error = err_from_is_err_and c.from_residual.result c.from_residual.ensures.1 in
    rw (error.1, error.2) (nothing_read _ _ _)
