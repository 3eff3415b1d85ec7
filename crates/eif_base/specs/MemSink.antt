-- What is told of a sink in memory.
use Rattle.std.specs.Prelude.{ℕ, ◌-◌, ◌<◌, min, List, length, Option, IsSome, ◌⊎◌, unwrap_or}
use Rattle.std.specs.Ordering.{nat_cmp}
use Rattle.std.specs.BTreeMap.{get}
use Rattle.eif_base.specs.Causes.{next_count}
use Rattle.eif_base.specs.declared.mem_sink.MemSink.{MemSink}

-- what was written
abbrev pub written : MemSink → List ℕ
written s = s.bytes.items

-- how many bytes may be written in all
abbrev pub room : MemSink → ℕ
room s = s.room

-- the bytes that the write with that number lets through, if it is to fail
abbrev pub through : MemSink → ℕ → Option ℕ
through s number = get nat_cmp s.failing number

-- how many pieces that aren't empty were to be written, up to the last count
abbrev pub writes : MemSink → ℕ
writes s = s.writes

-- how often a write failed, up to the last count
abbrev pub faults : MemSink → ℕ
faults s = s.faults

-- the number of the next write of a piece that isn't empty, from 1
abbrev pub next_write : MemSink → ℕ
next_write s = next_count (writes s)

-- the room that is left
abbrev pub room_left : MemSink → ℕ
room_left s = room s - length (written s)

-- how many bytes the next write takes of a piece of that length
abbrev pub taken : MemSink → ℕ → ℕ
taken s len = min (min (unwrap_or (through s (next_write s)) len) len) (room_left s)

-- the next write fails at a piece of that length
abbrev pub NextFails : MemSink → ℕ → Type 0
NextFails s len = IsSome (through s (next_write s)) ⊎ (room_left s < len)
