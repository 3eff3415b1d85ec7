-- How a check went.
use Rattle.std.proofs.Common.{◌≡◌, ℕ, List, [], Option, Result, Ok, Err, refl, subst}
use Rattle.eif_base.specs.FileLists.{NamedText, texts_of}
use Rattle.eif_base.specs.Reads.{Read}
use Rattle.eifcheck.specs.declared.reading.Input.{Input}
use Rattle.eifcheck.specs.declared.reading.Stop.{Stop}
use Rattle.eifcheck.specs.declared.reading.Stop.TheVariants as stop
use Rattle.eifcheck.specs.declared.status.Status.{Status}
use Rattle.eifcheck.specs.declared.status.Status.TheVariants as s
use Rattle.eifcheck.specs.Answers.{Checks, ReadsSo, WritesSo}
use Rattle.eifcheck.specs.Courses.{MakesReads, Stops}
use Rattle.eifcheck.specs.Form.{Command}
use Rattle.eifcheck.specs.Inputs.{IsDue, ReadsInput}
use Rattle.eifcheck.specs.Judgement.{EndsJudged}
use Rattle.eifcheck.specs.Steps.{Step, next_step}
use Rattle.eifcheck.proofs.Sequences.{in_sequence}

module _ (c : Command) (holds : List ℕ → Option (List ℕ)) (old new : List Read) (before after : Option (List ℕ)) where
  -- all that was due was read whole
  reads_whole : (got : List NamedText) (status : Status) → EndsJudged status → MakesReads got [] old new
      → ReadsSo c holds got old new status
  reads_whole got s.Yes ends made = made
  reads_whole got s.Faults ends made = made
  reads_whole got s.WriteFault ends made = made
  reads_whole got s.Memory ends made = made
  reads_whole got s.Usage ends made = absurd ends
  reads_whole got s.ReadFault ends made = absurd ends
  reads_whole got s.TooLarge ends made = absurd ends

  pub judged : (input : Input) (status : Status) → ReadsInput (next_step c) holds old new (Ok input) → EndsJudged status
      → ((step : Step) → IsDue step input → WritesSo c step before after status) → Checks c holds old new before after status
  judged input status read ends wrote = record {
    got = read.got;
    is_course = read.is_course;
    in_sequence = in_sequence c holds read.got read.is_course;
    reads_are = reads_whole read.got status ends read.reads_to.1;
    writes_are = wrote (next_step c (texts_of read.got)) read.reads_to.0;
  }

-- the status of a check whose reading stopped
abbrev pub status_of : Stop → Status
status_of stop.TooLarge = s.TooLarge
status_of stop.ReadFault = s.ReadFault
status_of stop.Memory = s.Memory

module _ (c : Command) (holds : List ℕ → Option (List ℕ)) (old new : List Read) (before : Option (List ℕ)) where
  reads_stopped : (got : List NamedText) (why : Stop) → Stops (next_step c) holds got old new why
      → ReadsSo c holds got old new (status_of why)
  reads_stopped got stop.TooLarge stops = stops
  reads_stopped got stop.ReadFault stops = stops
  reads_stopped got stop.Memory stops = stops

  -- nothing was written
  writes_stopped : (step : Step) (why : Stop) → WritesSo c step before before (status_of why)
  writes_stopped step stop.TooLarge = refl
  writes_stopped step stop.ReadFault = refl
  writes_stopped step stop.Memory = refl

  stopped_by : (why : Stop) → ReadsInput (next_step c) holds old new (Err why)
      → Checks c holds old new before before (status_of why)
  stopped_by why read = record {
    got = read.got;
    is_course = read.is_course;
    in_sequence = in_sequence c holds read.got read.is_course;
    reads_are = reads_stopped read.got why read.reads_to;
    writes_are = writes_stopped (next_step c (texts_of read.got)) why;
  }

  pub stopped : (why known : Stop) → why ≡ known → ReadsInput (next_step c) holds old new (Err why)
      → Checks c holds old new before before (status_of known)
  stopped why known e read = stopped_by known (subst (λ w. ReadsInput (next_step c) holds old new (Err w)) e read)
