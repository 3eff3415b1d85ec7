use Rattle.std.proofs.Common.{map, ap, ◌∙◌}
use Rattle.std.proofs.lemmas.Bool.{iff_false}
use Rattle.std.proofs.lemmas.Result.{err_from_is_err_and}
use Rattle.eifcheck.proofs.ListedReads.{list_stopped, list_dropped, list_bad, list_good}
use Rattle.eifcheck.proofs.reading.read_listed.Goals as goal

pub returns-in_err-text-clause-reads : goal.returns-in_err-text-clause-reads
returns-in_err-text-clause-reads g c =
    let error = err_from_is_err_and c.from_residual.result c.from_residual.ensures.1 in
    rw (error.1, error.2) (list_stopped _ _ _ _ _ _ c.in_err-text.ensures.read)

pub returns-in_default-clause-reads : goal.returns-in_default-clause-reads
returns-in_default-clause-reads g c = list_dropped _ _ _ _ _ c.in_ok-text.text c.in_ok-text.ensures.read

pub returns-in_err-bad_list-clause-reads : goal.returns-in_err-bad_list-clause-reads
returns-in_err-bad_list-clause-reads g c =
    let error = err_from_is_err_and c.from_residual-in_err-bad_list.result c.from_residual-in_err-bad_list.ensures.1 in
    rw (error.1, error.2) (list_dropped _ _ _ _ _ c.in_ok-text.text c.in_ok-text.ensures.read)

pub returns-then-not-is_empty-clause-reads : goal.returns-then-not-is_empty-clause-reads
returns-then-not-is_empty-clause-reads g c =
    rw c.in_ok-bad_list.ensures
    (list_bad _ _ _ _ _ c.in_ok-text.text c.in_ok-text.ensures.read _ _ c.deref.ensures.value c.in-Ok.ensures.faults
    (iff_false c.is_empty.ensures c.if-not-is_empty.true))

pub returns-in_err-read_all-clause-reads : goal.returns-in_err-read_all-clause-reads
returns-in_err-read_all-clause-reads g c =
    let error = err_from_is_err_and c.from_residual-in_err-read_all.result c.from_residual-in_err-read_all.ensures.1 in
    rw (error.1, error.2)
    (list_good _ _ _ _ _ c.in_ok-text.text c.in_ok-text.ensures.read _ _ c.deref.ensures.value c.in-Ok.ensures.faults
    _ _ _ (c.is_empty.ensures.0 c.if-not-is_empty.false)
    (λ none. ap (map (λ name. name.now)) c.deref-2.ensures.value ∙ c.in-Ok.ensures.names none)
    (rw c.in_ok-text.ensures.kept at c.in_err-read_all.ensures.reads))

pub returns-clause-reads : goal.returns-clause-reads
returns-clause-reads g c =
    list_good _ _ _ _ _ c.in_ok-text.text c.in_ok-text.ensures.read _ _ c.deref.ensures.value c.in-Ok.ensures.faults
    _ _ _ (c.is_empty.ensures.0 c.if-not-is_empty.false)
    (λ none. ap (map (λ name. name.now)) c.deref-2.ensures.value ∙ c.in-Ok.ensures.names none)
    (rw c.in_ok-text.ensures.kept at c.in_ok-read_all.ensures.reads)
