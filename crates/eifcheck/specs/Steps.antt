-- The steps of a check, in their order: the list file, its lines, the count of files, each file with its length and the sum so
-- far, the judgement. Which step is due follows from the command and from the texts that were read so far.
use Rattle.std.specs.Prelude.{ℕ, nat_lt, ◌||◌, if◌then◌else◌, List, [], ◌∷◌, ◌++◌, length, sum_by, Option, Some, None, slice_get}
use Rattle.eif_base.specs.declared.Fault.{Fault}
use Rattle.eif_base.specs.declared.limits.TheConstants.{MOST_FILES, MOST_SYSTEM_BYTES}
use Rattle.eif_base.specs.FileLists.{NamedText}
use Rattle.eifcheck.specs.Form.{Command}
use Rattle.eifcheck.specs.ListFile.{listed_names, list_faults}

pub data Step : Type 0 where
  -- this name is read
  reads : List ℕ → Step
  -- too many files, or too many bytes in all
  refuses : Step
  -- lines of the list with that name are no file names: these faults are reported
  reports : List ℕ → List Fault → Step
  -- the system of these files is judged
  judges : List NamedText → Step

-- the files with these names and texts, as long as there are both
abbrev pub files_of : List (List ℕ) → List (List ℕ) → List NamedText
files_of (n ∷ ns) (t ∷ ts) = record { name = n; text = t } ∷ files_of ns ts
files_of _ _ = []

abbrev pub file_step : List (List ℕ) → List (List ℕ) → Option (List ℕ) → Step
file_step names texts (Some n) = reads n
file_step names texts None = judges (files_of names texts)

-- of files with these names, of which the first were read
abbrev pub files_step : List (List ℕ) → List (List ℕ) → Step
files_step names texts =
    if nat_lt MOST_FILES (length names) || nat_lt MOST_SYSTEM_BYTES (sum_by length texts) then refuses
    else file_step names texts (slice_get names (length texts))

abbrev pub listed_step : List ℕ → List Fault → List (List ℕ) → List (List ℕ) → Step
listed_step list [] names texts = files_step names texts
listed_step list (f ∷ fs) names texts = reports list (f ∷ fs)

abbrev pub step_by : Option (List ℕ) → List (List ℕ) → List (List ℕ) → Step
step_by None files texts = files_step files texts
step_by (Some list) files [] = reads list
step_by (Some list) files (text ∷ texts) = listed_step list (list_faults text) (files ++ listed_names text) texts

-- the step that is due after these texts
abbrev pub next_step : Command → List (List ℕ) → Step
next_step c texts = step_by c.list c.files texts

abbrev pub names_by : Option (List ℕ) → List (List ℕ) → List (List ℕ) → List (List ℕ)
names_by None files texts = files
names_by (Some list) files [] = list ∷ files
names_by (Some list) files (text ∷ texts) = list ∷ files ++ listed_names text

-- the sequence of names: the list, the files of the words, the files of the list, which are known once it is read
abbrev pub sequence : Command → List (List ℕ) → List (List ℕ)
sequence c texts = names_by c.list c.files texts
