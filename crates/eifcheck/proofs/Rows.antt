-- From what clap gives to what the words mean.
use Rattle.std.proofs.Common.{◌≡◌, ◌≢◌, ℕ, Bool, false, true, codes, List, [], ◌∷◌, Option, Some, None, Result, Ok, Err, refl, sym}
use Rattle.std.specs.Prelude.{if◌then◌else◌}
use Rattle.std.specs.Option.{option_and_then, option_map, unwrap_or}
use Rattle.std.specs.Result.{IsErrAnd}
use Rattle.clap.specs.Words.{Row, Text, all_of, fault_of, first_of, matches_of}
use Rattle.clap.specs.Kinds.{Kinds}
use Rattle.eif_base.specs.declared.Root.{Root}
use Rattle.eif_report.specs.declared.ReportForm.{ReportForm}
use Rattle.eifcheck.specs.declared.words.Refusal.{Refusal}
use Rattle.eifcheck.specs.declared.words.Refusal.TheVariants.{Usage, Memory}
use Rattle.eifcheck.specs.Form.{Command, command_by, command_of_rows, form, form_of, is_check, is_empty, names_some, program, root_of, value_or, workers_of}
use Rattle.eifcheck.specs.ReadWords.{Gives}

pub unwrap_or-map : {A B : Type 0} (f : A → B) (o : Option A) (d : A)
    → unwrap_or (option_map f o) (f d) ≡ f (unwrap_or o d)
unwrap_or-map f None d = refl
unwrap_or-map f (Some x) d = refl

-- words that clap refuses are not of the form
pub form-refused : (words : List Text) → fault_of program words ≢ [] → form words ≡ None
form-refused words refused = go (fault_of program words) refused
  where
    go : (kinds : Kinds) → kinds ≢ []
        → (if is_empty kinds then command_of_rows (matches_of program words) else None) ≡ None
    go [] some = absurd (some refl)
    go (k ∷ ks) some = refl

-- a refusal that is handed on
pub Gives-refused : {X A : Type 0} (view : X → A) (meant : Option A) (e : Refusal) (r : Result X Refusal)
    → (e ≡ Usage → meant ≡ None) → IsErrAnd r (λ y. y ≡ e) → Gives view meant r
Gives-refused view meant e (Ok x) none same = absurd same
Gives-refused view meant e (Err Usage) none same = none (sym same)
Gives-refused view meant e (Err Memory) none same = tt

-- ---- the parts of what rows ask for

abbrev given_root : List Row → Option Root
given_root rows = option_and_then root_of (first_of (codes "root") rows)

abbrev asks_check : List Row → Bool
asks_check rows = is_check (value_or (codes "do") rows (codes "check"))

abbrev given_form : List Row → Option ReportForm
given_form rows = form_of (value_or (codes "form") rows (codes "1"))

abbrev given_workers : List Row → Option ℕ
given_workers rows = workers_of (value_or (codes "workers") rows (codes "1"))

abbrev given_list : List Row → Option Text
given_list rows = first_of (codes "list") rows

abbrev given_files : List Row → List Text
given_files rows = unwrap_or (all_of (codes "files") rows) []

-- rows that name neither a list nor a file ask for nothing
pub command_of_rows-nameless : (rows : List Row) (list : Option Text) (files : List Text)
    → list ≡ given_list rows → files ≡ given_files rows → names_some list files ≡ false → command_of_rows rows ≡ None
command_of_rows-nameless rows list files has_list has_files nameless =
    rw (← has_list, ← has_files) (go (given_root rows) (asks_check rows) (given_form rows) (given_workers rows))
  where
    go : (root : Option Root) (checks : Bool) (report : Option ReportForm) (workers : Option ℕ)
        → command_by root checks report workers list files ≡ None
    go (Some root) true (Some report) (Some workers) = rw nameless refl
    go (Some root) true (Some report) None = refl
    go (Some root) true None workers = refl
    go (Some root) false report workers = refl
    go None checks report workers = refl

-- rows with every part of a command ask for it
pub command_of_rows-whole : (rows : List Row) (command : Command)
    → given_root rows ≡ Some command.root → asks_check rows ≡ true → given_form rows ≡ Some command.form
    → given_workers rows ≡ Some command.workers → command.list ≡ given_list rows → command.files ≡ given_files rows
    → names_some command.list command.files ≡ true → command_of_rows rows ≡ Some command
command_of_rows-whole rows command has_root checks has_form has_workers has_list has_files named =
    rw (has_root, checks, has_form, has_workers, ← has_list, ← has_files, named) refl
