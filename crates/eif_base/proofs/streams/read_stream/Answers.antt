use Rattle.std.proofs.Common.{◌≡◌, ◌++◌, take, arith, subst}
use Rattle.std.specs.Prelude.{IfSome}
use Rattle.std.specs.Option.{option_map}
use Rattle.eif_base.proofs.Remaining.{stream_whole}
use Rattle.eif_base.proofs.streams.read_stream.Goals as goal

pub returns-in-Ok-clause-ok : goal.returns-in-Ok-clause-ok
returns-in-Ok-clause-ok g c =
    let e = c.in-Ok.ensures in
    let old = c.args.into.now.items in
    let new = c.read_to_end.new.buf.items in
    stream_whole (g.S.Read.remaining c.args.stream) c.args.most c.take.result.limit old new e.appends
    (omega (arith, e.ok))
    (omega (arith, e.ok, c.take.ensures.limit, c.saturating_add.ensures))
    (subst (λ s. IfSome (option_map (take c.take.result.limit) (g.S.Read.remaining s)) (λ xs. new ≡ old ++ xs)) c.take.ensures.inner e.bytes)
