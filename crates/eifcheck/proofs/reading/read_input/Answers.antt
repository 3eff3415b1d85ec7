use Rattle.std.proofs.lemmas.Result.{err_from_is_err_and}
use Rattle.eifcheck.proofs.reading.read_input.Goals as goal

pub returns-in_err-read_files-in-None-clause-reads : goal.returns-in_err-read_files-in-None-clause-reads
returns-in_err-read_files-in-None-clause-reads g c =
    let error = err_from_is_err_and c.from_residual.result c.from_residual.ensures.1 in
    rw (error.1, error.2, c.in-None.is)
    (rw c.deref-in-None.ensures.value at c.in_err-read_files-in-None.ensures.reads)
