-- What is told of a sink that never fails.
use Rattle.std.specs.Prelude.{ℕ}
use Rattle.eif_base.specs.declared.sure_sink.SureSink.{SureSink}

-- how many bytes were written, modulo 2^64
abbrev pub count : SureSink → ℕ
count s = s.count

-- the sum of the bytes that were written, modulo 2^64
abbrev pub total : SureSink → ℕ
total s = s.sum
