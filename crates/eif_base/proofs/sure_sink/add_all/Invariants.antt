use Rattle.std.proofs.Common.{◌≡◌, ◌+◌, ◌%◌, ◌^◌, take, sum}
use Rattle.eif_base.proofs.sure_sink.add_all.Given as goal

abbrev pub invariant-bytes : goal.invariant-bytes
invariant-bytes l = l.total ≡ (l.start + sum (take l.byte-index l.bytes)) % 2 ^ 64
