use Rattle.std.proofs.Common.{arith, ◌∙◌}
use Rattle.std.proofs.lemmas.List.{length-map}
use Rattle.std.proofs.lemmas.Result.{err_from_is_err_and}
use Rattle.eifcheck.proofs.FileReads.{name_at, refused_first, stopped, refused, not_kept, added, all_read}
use Rattle.eifcheck.proofs.reading.read_files.Goals as goal

pub returns-then-names-clause-reads : goal.returns-then-names-clause-reads
returns-then-names-clause-reads g c = refused_first _ _ _ (rw length-map (omega arith))

pub returns-in_err-text-clause-reads : goal.returns-in_err-text-clause-reads
returns-in_err-text-clause-reads g c =
    let error = err_from_is_err_and c.from_residual.result c.from_residual.ensures.1 in
    rw (error.1, error.2)
    (stopped _ _ _ _ _ _ _ _ c.names.invariant.0 _ _ _ (name_at c.args.names.now _ _ (omega arith))
    c.in_err-text.ensures.read)

pub returns-then-total-gt-MOST_SYSTEM_BYTES-clause-reads : goal.returns-then-total-gt-MOST_SYSTEM_BYTES-clause-reads
returns-then-total-gt-MOST_SYSTEM_BYTES-clause-reads g c =
    refused _ _ _ _ _ _ _ _ c.names.invariant.0 _ c.in_ok-text.text _ (name_at c.args.names.now _ _ (omega arith))
    c.in_ok-text.ensures.read (omega arith)

pub returns-in_err-push-clause-reads : goal.returns-in_err-push-clause-reads
returns-in_err-push-clause-reads g c =
    let error = err_from_is_err_and c.from_residual-in_err-push.result c.from_residual-in_err-push.ensures.1 in
    rw (error.1, error.2)
    (not_kept _ _ _ _ _ _ _ _ c.names.invariant.0 _ c.in_ok-text.text _ (name_at c.args.names.now _ _ (omega arith))
    c.in_ok-text.ensures.read)

pub names-preserved : goal.names-preserved
names-preserved g c = (
  added _ _ _ _ _ _ _ _ c.names.invariant.0 _ c.in_ok-text.text _ (name_at c.args.names.now _ _ (omega arith))
      c.in_ok-text.ensures.read _ _ _ c.in_ok-push.ensures.ok c.read_text.ensures.kept (omega arith) (omega arith),
  c.in_ok-text.ensures.faults ∙ c.names.invariant.1,
)

pub returns-clause-reads : goal.returns-clause-reads
returns-clause-reads g c = (all_read _ _ _ _ _ _ _ _ c.names.invariant.0 (rw length-map (omega arith))).0

pub returns-clause-fit : goal.returns-clause-fit
returns-clause-fit g c = (all_read _ _ _ _ _ _ _ _ c.names.invariant.0 (rw length-map (omega arith))).1
