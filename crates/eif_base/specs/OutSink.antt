-- What is told of a writer as a sink.
use Rattle.std.specs.Prelude.{ℕ}
use Rattle.eif_base.specs.declared.out_sink.OutSink.{OutSink}

-- the writer
abbrev pub out : {W : Type 0} → OutSink W → W
out s = s.out

-- how often a write failed, up to the last count
abbrev pub faults : {W : Type 0} → OutSink W → ℕ
faults s = s.faults
