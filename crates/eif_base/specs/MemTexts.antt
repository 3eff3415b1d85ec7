-- What is told of a source of texts in memory.
use Rattle.std.specs.Prelude.{ℕ, ◌+◌, List, length, Option, Bool, IsTrue, IsNone, ◌⊎◌}
use Rattle.std.specs.Ordering.{nat_cmp}
use Rattle.std.specs.BTreeSet.{contains}
use Rattle.eif_base.specs.Reads.{Read}
use Rattle.eif_base.specs.TextMap.{held}
use Rattle.eif_base.specs.declared.mem_texts.MemTexts.{MemTexts}

-- what each name holds
abbrev pub holds : MemTexts → List ℕ → Option (List ℕ)
holds t = held t.texts

-- whether the read with that number is to fail, from 1
abbrev pub fails : MemTexts → ℕ → Bool
fails t number = contains nat_cmp t.failing number

-- the reads that were made, in order
abbrev pub reads : MemTexts → List Read
reads t = t.log

-- how often a read failed, up to the last count
abbrev pub faults : MemTexts → ℕ
faults t = t.faults

-- the next read, of that name, fails unless memory runs out first
abbrev pub NextFails : MemTexts → List ℕ → Type 0
NextFails t name = IsTrue (fails t (length (reads t) + 1)) ⊎ IsNone (holds t name)
