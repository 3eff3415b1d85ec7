-- Memory may run out before anything is read.
use Rattle.std.proofs.Common.{◌≡◌, ℕ, List, [], ◌++◌, Option, Some, None, refl, rules, inr}
use Rattle.eif_base.specs.FileLists.{NamedText}
use Rattle.eif_base.specs.Reads.{Read}
use Rattle.eifcheck.specs.declared.status.Status.TheVariants as s
use Rattle.eifcheck.specs.Answers.{Answers, Checks, IsComplete}
use Rattle.eifcheck.specs.Courses.{IsCourse}
use Rattle.eifcheck.specs.Form.{Command}
use Rattle.eifcheck.specs.Headline.{IsSound}
use Rattle.eifcheck.specs.Steps.{Step, next_step}
use Rattle.eifcheck.proofs.Sequences.{in_sequence}

-- nothing was read
no_course : (next : List (List ℕ) → Step) (holds : List ℕ → Option (List ℕ)) → IsCourse next holds []
no_course next holds = record { due = λ i f e. cc; short = search rules; told = search rules }

pub no_memory : (words : Option Command) (holds : List ℕ → Option (List ℕ)) (reads : List Read) (written : Option (List ℕ))
    → Answers words holds reads reads written written s.Memory
no_memory None holds reads written = (inr refl, refl, refl)
no_memory (Some c) holds reads written = record {
  got = [];
  is_course = no_course (next_step c) holds;
  in_sequence = in_sequence c holds [] (no_course (next_step c) holds);
  reads_are = search rules;
  writes_are = refl;
}

pub no_memory_completes : (words : Option Command) (holds : List ℕ → Option (List ℕ)) (r r' w w' : ℕ)
    → IsComplete words holds r r' w w' s.Memory
no_memory_completes None holds r r' w w' = tt
no_memory_completes (Some c) holds r r' w w' = λ fit source sink. tt

pub no_memory_sound : (words : Option Command) (holds : List ℕ → Option (List ℕ)) → IsSound words holds s.Memory
no_memory_sound None holds = tt
no_memory_sound (Some c) holds = tt
