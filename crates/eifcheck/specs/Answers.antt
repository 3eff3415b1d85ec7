-- What the program answers, and what it reads and writes.
use Rattle.std.specs.Prelude.{◌≡◌, ◌≢◌, ℕ, ◌⊎◌, List, [], ◌∷◌, length, take, Option, Some, None}
use Rattle.std.specs.List.{All}
use Rattle.eif_base.specs.declared.Fault.{Fault}
use Rattle.eif_base.specs.Appends.{In}
use Rattle.eif_base.specs.Causes.{HasRisen}
use Rattle.eif_base.specs.FileLists.{NamedText, names_of, texts_of}
use Rattle.eif_base.specs.Reads.{Read}
use Rattle.eif_base.specs.Writes.{Writes, WritesFront}
use Rattle.eif_tree.specs.Tree.{ClassT}
use Rattle.eif_report.specs.Report.{yes_text, IsReport}
use Rattle.eif_rules.specs.FaultForms.{IsNone}
use Rattle.eif_check.specs.Systems.{AreClasses, Broken}
use Rattle.eifcheck.specs.declared.reading.Stop.TheVariants as stop
use Rattle.eifcheck.specs.declared.status.Status.{Status}
use Rattle.eifcheck.specs.declared.status.Status.TheVariants as s
use Rattle.eifcheck.specs.Form.{Command}
use Rattle.eifcheck.specs.Steps.{Step, reports, judges, next_step, sequence}
use Rattle.eifcheck.specs.Courses.{IsCourse, MakesReads, Stops}

abbrev pub number_of : Status → ℕ
number_of s.Yes = 0
number_of s.Faults = 1
number_of s.Usage = 2
number_of s.ReadFault = 3
number_of s.WriteFault = 4
number_of s.Memory = 5
number_of s.TooLarge = 6

-- ---- reports

-- the files that are judged are class texts without a fault, and the bytes say so
abbrev pub IsYes : Command → Step → List ℕ → Type 0
IsYes c (judges files) bytes =
    IsNone (Broken (texts_of files) c.root) × ((given : List ClassT) × AreClasses (texts_of files) given)
    × (bytes ≡ yes_text (length files))
IsYes c _ bytes = ⊥

-- the bytes list the faults of the files that are judged, or of the list, and there are some
abbrev pub IsNo : Command → Step → List ℕ → Type 0
IsNo c (judges files) bytes =
    ((f : Fault) × Broken (texts_of files) c.root f) × IsReport c.form (names_of files) (Broken (texts_of files) c.root) bytes
IsNo c (reports list faults) bytes = (faults ≢ []) × IsReport c.form (list ∷ []) (In faults) bytes
IsNo c _ bytes = ⊥

-- ---- a check

-- what was read, by how a check ended
abbrev pub ReadsSo : Command → (List ℕ → Option (List ℕ)) → List NamedText → List Read → List Read → Status → Type 0
ReadsSo c holds got old new s.ReadFault = Stops (next_step c) holds got old new stop.ReadFault
ReadsSo c holds got old new s.TooLarge = Stops (next_step c) holds got old new stop.TooLarge
ReadsSo c holds got old new _ = MakesReads got [] old new

-- what was written, by the step that was due and how the check ended
abbrev pub WritesSo : Command → Step → Option (List ℕ) → Option (List ℕ) → Status → Type 0
WritesSo c step old new s.Yes = (bytes : List ℕ) × IsYes c step bytes × Writes old new bytes
WritesSo c step old new s.Faults = (bytes : List ℕ) × IsNo c step bytes × Writes old new bytes
-- a front of the report
WritesSo c step old new s.WriteFault = (bytes : List ℕ) × (IsYes c step bytes ⊎ IsNo c step bytes) × WritesFront old new bytes
WritesSo c step old new s.Usage = ⊥
WritesSo c step old new _ = new ≡ old

-- the names were read in the order of the sequence, and where files are judged all of them were
abbrev pub InSequence : Command → List NamedText → Step → Type 0
InSequence c got (judges files) = names_of got ≡ sequence c (texts_of got)
InSequence c got _ = names_of got ≡ take (length got) (sequence c (texts_of got))

-- A check: the texts that it got, each when it was due; and by them what it answered, read and wrote.
pub record Checks (c : Command) (holds : List ℕ → Option (List ℕ)) (old new : List Read)
    (before after : Option (List ℕ)) (status : Status) : Type 0 where
  pub got : List NamedText
  pub is_course : IsCourse (next_step c) holds got
  pub in_sequence : InSequence c got (next_step c (texts_of got))
  pub reads_are : ReadsSo c holds got old new status
  pub writes_are : WritesSo c (next_step c (texts_of got)) before after status

-- The same of all words: the answer is Usage exactly where they aren't of the form, unless memory runs out first.
abbrev pub Answers : Option Command → (List ℕ → Option (List ℕ)) → List Read → List Read → Option (List ℕ) → Option (List ℕ)
    → Status → Type 0
Answers None holds old new before after status =
    ((status ≡ s.Usage) ⊎ (status ≡ s.Memory)) × (new ≡ old) × (after ≡ before)
Answers (Some c) holds old new before after status = Checks c holds old new before after status

-- ---- counts of faults

-- the source's count of faults: it rose where a read failed, and else is as before
abbrev pub CountsReads : ℕ → ℕ → Status → Type 0
CountsReads old new s.ReadFault = HasRisen old new
CountsReads old new _ = new ≡ old

-- the sink's count of faults: it rose where the write failed, and else is as before
abbrev pub CountsWrites : ℕ → ℕ → Status → Type 0
CountsWrites old new s.WriteFault = HasRisen old new
CountsWrites old new _ = new ≡ old

-- ---- completeness

-- an answer on the system
abbrev pub IsAnswer : Status → Type 0
IsAnswer s.Yes = Unit {0}
IsAnswer s.Faults = Unit {0}
IsAnswer s.Memory = Unit {0}
IsAnswer _ = ⊥

abbrev pub IsReported : Step → Type 0
IsReported (reports list faults) = Unit {0}
IsReported (judges files) = Unit {0}
IsReported _ = ⊥

-- it is told what the names of the command hold, and that is within the limits
pub record IsWithin (c : Command) (holds : List ℕ → Option (List ℕ)) : Type 0 where
  pub texts : List NamedText
  pub is_course : IsCourse (next_step c) holds texts
  pub held : All (λ f. holds f.name ≡ Some f.text) texts
  pub reported : IsReported (next_step c (texts_of texts))

-- Completeness: where the words are of the form, no count rose and the files are within the limits, there is an answer.
abbrev pub IsComplete : Option Command → (List ℕ → Option (List ℕ)) → ℕ → ℕ → ℕ → ℕ → Status → Type 0
IsComplete None holds r r' w w' status = Unit {0}
IsComplete (Some c) holds r r' w w' status =
    IsWithin c holds → (HasRisen r r' → ⊥) → (HasRisen w w' → ⊥) → IsAnswer status
