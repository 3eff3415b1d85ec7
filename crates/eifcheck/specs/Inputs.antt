-- What reading the files of a command gives.
use Rattle.std.specs.Prelude.{◌≡◌, ◌≢◌, ℕ, ◌<◌, ◌≤◌, List, [], ◌∷◌, length, Option, IfSome, Result, Ok, Err, Vec}
use Rattle.std.specs.declared.alloc.Global.{Global}
use Rattle.eif_base.specs.Causes.{HasRisen}
use Rattle.eif_base.specs.FileLists.{NamedText, texts_of, names_of}
use Rattle.eif_base.specs.Reads.{Read, AddsRead}
use Rattle.eif_base.specs.declared.Ended.TheVariants as e
use Rattle.eif_base.specs.declared.limits.TheConstants.{MOST_FILES, MOST_BYTES}
use Rattle.eif_check.specs.Limits.{AreShort}
use Rattle.eifcheck.specs.declared.reading.Input.{Input}
use Rattle.eifcheck.specs.declared.reading.Input.TheVariants as input
use Rattle.eifcheck.specs.declared.reading.Stop.{Stop}
use Rattle.eifcheck.specs.declared.reading.Stop.TheVariants as stop
use Rattle.eifcheck.specs.Steps.{Step, reports, judges}
use Rattle.eifcheck.specs.Courses.{IsCourse, MakesReads, Stops}

-- what a read of that name gave: its text, or why there is none
abbrev pub ReadsText : List ℕ → Option (List ℕ) → List Read → List Read → Result (Vec ℕ Global) Stop → Type 0
ReadsText name held old new (Ok text) =
    AddsRead old new name e.Whole × (length text.items ≤ MOST_BYTES) × IfSome held (λ h. text.items ≡ h)
ReadsText name held old new (Err stop.ReadFault) = AddsRead old new name e.Failed
ReadsText name held old new (Err stop.TooLarge) =
    AddsRead old new name e.TooLong × IfSome held (λ h. MOST_BYTES < length h)
ReadsText name held old new (Err stop.Memory) = new ≡ old

-- files that were read are the files to judge
abbrev pub input_of : Result (List NamedText) Stop → Result Input Stop
input_of (Ok files) = Ok (input.Files files)
input_of (Err why) = Err why

-- what is due when all that had to be read was read
abbrev pub IsDue : Step → Input → Type 0
IsDue step (input.Files files) = step ≡ judges files
IsDue step (input.BadList list faults) = (name : List ℕ) × (names_of list ≡ name ∷ []) × (step ≡ reports name faults)

-- how reading ended, after these texts were got
abbrev pub ReadsTo : (List (List ℕ) → Step) → (List ℕ → Option (List ℕ)) → List NamedText → List Read → List Read
    → Result Input Stop → Type 0
ReadsTo next holds got old new (Ok read) = IsDue (next (texts_of got)) read × MakesReads got [] old new
ReadsTo next holds got old new (Err why) = Stops next holds got old new why

-- the reads that were due were made, and ended so
pub record ReadsInput (next : List (List ℕ) → Step) (holds : List ℕ → Option (List ℕ)) (old new : List Read)
    (result : Result Input Stop) : Type 0 where
  pub got : List NamedText
  pub is_course : IsCourse next holds got
  pub reads_to : ReadsTo next holds got old new result

-- the source's count of faults: it rose where a read failed, and else is as before
abbrev pub CountsStop : {A : Type 0} → ℕ → ℕ → Result A Stop → Type 0
CountsStop old new (Err stop.ReadFault) = HasRisen old new
CountsStop old new _ = new ≡ old

-- files that are judged are within the limits, and a list that is reported has faults
abbrev pub IsFit : Input → Type 0
IsFit (input.Files files) = AreShort (texts_of files) × (length files ≤ MOST_FILES)
IsFit (input.BadList list faults) = faults ≢ []
