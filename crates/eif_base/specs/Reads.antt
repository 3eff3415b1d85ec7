-- The reads of a source of texts.
use Rattle.std.specs.Prelude.{◌≡◌, ℕ, ◌<◌, ◌≤◌, List, [], ◌∷◌, ◌++◌, length, map, Option, None, IfSome, Result, Ok, Err}
use Rattle.std.specs.declared.io.Error.{Error}
use Rattle.std.specs.declared.io.ErrorKind.{ErrorKind}
use Rattle.std.specs.declared.io.ErrorKind.TheVariants.{OutOfMemory}
use Rattle.eif_base.specs.declared.texts.Ended.{Ended}
use Rattle.eif_base.specs.declared.texts.Ended.TheVariants as e
use Rattle.eif_base.specs.declared.texts.ReadEnd.{ReadEnd}
use Rattle.eif_base.specs.declared.texts.ReadEnd.TheVariants.{Whole, TooLong}
use Rattle.eif_base.specs.declared.texts.ReadFail.{ReadFail}
use Rattle.eif_base.specs.declared.texts.ReadFail.TheVariants as f

-- how a read that gave Ok ended, as lists of reads have it
abbrev pub ended_by : ReadEnd → Ended
ended_by Whole = e.Whole
ended_by TooLong = e.TooLong

-- a read that was made: the name that was asked for, and how the read ended
pub record Read : Type 0 where
  pub name : List ℕ
  pub end : Ended

-- the names that were read, in order
abbrev pub asked : List Read → List (List ℕ)
asked reads = map (λ r. r.name) reads

-- how these reads ended
abbrev pub ends : List Read → List Ended
ends reads = map (λ r. r.end) reads

-- one more read of the name was made, which ended so
abbrev pub AddsRead : List Read → List Read → List ℕ → Ended → Type 0
AddsRead old new name end = new ≡ old ++ record { name = name; end = end } ∷ []

-- The buffer after a read that gave Ok, where the name holds these bytes (if that is told).
abbrev pub ReadsInto : Option (List ℕ) → ℕ → List ℕ → List ℕ → ReadEnd → Type 0
-- all bytes of the name, which are no more than most, were appended
ReadsInto held most old new Whole = (bytes : List ℕ) × (new ≡ old ++ bytes) × (length bytes ≤ most) × IfSome held (λ h. bytes ≡ h)
-- the name holds more than most bytes, and none was appended
ReadsInto held most old new TooLong = (new ≡ old) × IfSome held (λ h. most < length h)

-- why a read failed, by the kind of the system's error
abbrev pub fail_of : ErrorKind → ReadFail
fail_of OutOfMemory = f.Memory
fail_of _ = f.Failed

-- the bytes that a stream has left, where it was opened and that is told
abbrev pub left_in : {S : Type 0} → (S → Option (List ℕ)) → Result S Error → Option (List ℕ)
left_in remaining (Ok stream) = remaining stream
left_in remaining (Err error) = None
