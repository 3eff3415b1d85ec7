-- The cases of a step of files.
use Rattle.std.proofs.Common.{◌≡◌, ℕ, Bool, true, false, List, length, Option, Some, None, refl}
use Rattle.std.specs.Prelude.{nat_lt, ◌||◌, if◌then◌else◌, sum_by, slice_get}
use Rattle.eif_base.specs.declared.limits.TheConstants.{MOST_FILES, MOST_SYSTEM_BYTES}
use Rattle.eifcheck.specs.Steps.{Step, reads, refuses, judges, files_of, file_step, files_step}

-- it refuses, or reads the name with the number of the next text, or judges where there is none
pub by_files : (P : Step → Type 0) (names texts : List (List ℕ)) → P refuses
    → ((n : List ℕ) → slice_get names (length texts) ≡ Some n → P (reads n))
    → (slice_get names (length texts) ≡ None → P (judges (files_of names texts))) → P (files_step names texts)
by_files P names texts refused read judged =
    test (nat_lt MOST_FILES (length names) || nat_lt MOST_SYSTEM_BYTES (sum_by length texts))
  where
    at : (o : Option (List ℕ)) → slice_get names (length texts) ≡ o → P (file_step names texts o)
    at (Some n) e = read n e
    at None e = judged e

    test : (b : Bool) → P (if b then refuses else file_step names texts (slice_get names (length texts)))
    test true = refused
    test false = at (slice_get names (length texts)) refl
