-- The form of the command line, by clap's own promise on one command without subcommands and the rules of this project.
use Rattle.std.specs.Prelude.{ℕ, zero, suc, Bool, true, false, ◌==◌, ◌&&◌, if◌then◌else◌, List, [], ◌∷◌, ◌++◌, find, Option, Some, None, unwrap_or, codes, decimal}
use Rattle.std.specs.Option.{option_map, option_and_then}
use Rattle.std.specs.Str.{bytes_eq, str_to_ascii_lowercase}
use Rattle.clap.specs.Words.{App, Row, Rule, Text, fault_of, first_of, all_of, matches_of, new_app, new_rule, with_rule}
use Rattle.clap.specs.declared.builder.ArgAction.TheVariants.{Append}
use Rattle.eif_base.specs.declared.Root.{Root}
use Rattle.eif_base.specs.declared.limits.TheConstants.{MOST_WORKERS}
use Rattle.eif_grammar.specs.Identifiers.{is_identifier}
use Rattle.eif_report.specs.declared.ReportForm.{ReportForm}
use Rattle.eif_report.specs.declared.ReportForm.TheVariants.{One, Two}

-- what a check is asked for
pub record Command : Type 0 where
  pub root : Root
  -- the name of a file with further file names
  pub list : Option (List ℕ)
  -- the files that the words name
  pub files : List (List ℕ)
  pub workers : ℕ
  pub form : ReportForm

-- ---- what clap takes

-- `--name VALUE`
abbrev pub option_rule : List ℕ → Rule
option_rule name = record (new_rule name) { long = Some name }

abbrev pub root_rule : Rule
root_rule = record (option_rule (codes "root")) { required = true }

-- any number of words behind the options or between them
abbrev pub files_rule : Rule
files_rule = record (new_rule (codes "files")) { action = Some Append }

-- the words come without the program's name, and there is no help and no version
abbrev pub bare_program : App
bare_program =
    let a = new_app (codes "eifcheck") in
    record { top = record a.top { no_binary_name = true; disable_help_flag = true; disable_version_flag = true }; subs = [] }

abbrev pub program : App
program =
    with_rule (with_rule (with_rule (with_rule (with_rule (with_rule bare_program
    root_rule) (option_rule (codes "do"))) (option_rule (codes "form"))) (option_rule (codes "workers")))
    (option_rule (codes "list"))) files_rule

-- ---- the values

-- what stands before and behind the first dot
abbrev pub cut_at_dot : List ℕ → Option (List ℕ × List ℕ)
cut_at_dot [] = None
cut_at_dot (b ∷ bs) = if b == 46 then Some ([], bs) else option_map (λ parts. (b ∷ parts.0, parts.1)) (cut_at_dot bs)

abbrev pub root_by : Option (List ℕ × List ℕ) → Option Root
root_by None = None
root_by (Some parts) =
    if is_identifier parts.0 && is_identifier parts.1
    then Some (record { class_name = str_to_ascii_lowercase parts.0; procedure_name = str_to_ascii_lowercase parts.1 }) else None

-- two identifiers joined by one dot
abbrev pub root_of : List ℕ → Option Root
root_of word = root_by (cut_at_dot word)

-- `check` is all that this version does
abbrev pub is_check : List ℕ → Bool
is_check word = bytes_eq word (codes "check")

abbrev pub form_of : List ℕ → Option ReportForm
form_of word = if bytes_eq word (codes "1") then Some One else if bytes_eq word (codes "2") then Some Two else None

-- 1 to n
abbrev pub numbers_to : ℕ → List ℕ
numbers_to zero = []
numbers_to (suc n) = numbers_to n ++ suc n ∷ []

-- a number of workers, in decimal digits without a sign or a leading zero
abbrev pub workers_of : List ℕ → Option ℕ
workers_of word = find (λ n. bytes_eq (decimal n) word) (numbers_to MOST_WORKERS)

-- a check names a list or at least one file
abbrev pub names_some : Option (List ℕ) → List (List ℕ) → Bool
names_some (Some list) files = true
names_some None (f ∷ fs) = true
names_some None [] = false

-- ---- all words

abbrev pub command_by : Option Root → Bool → Option ReportForm → Option ℕ → Option (List ℕ) → List (List ℕ) → Option Command
command_by (Some root) true (Some form) (Some workers) list files =
    if names_some list files
    then Some (record { root = root; list = list; files = files; workers = workers; form = form }) else None
command_by _ _ _ _ list files = None

-- the value of an option, or what counts where it isn't given
abbrev pub value_or : List ℕ → List Row → List ℕ → List ℕ
value_or id rows default = unwrap_or (first_of id rows) default

-- what the matches of the words ask for
abbrev pub command_of_rows : List Row → Option Command
command_of_rows rows =
    command_by (option_and_then root_of (first_of (codes "root") rows)) (is_check (value_or (codes "do") rows (codes "check")))
    (form_of (value_or (codes "form") rows (codes "1"))) (workers_of (value_or (codes "workers") rows (codes "1")))
    (first_of (codes "list") rows) (unwrap_or (all_of (codes "files") rows) [])

abbrev pub is_empty : {A : Type 0} → List A → Bool
is_empty [] = true
is_empty (x ∷ xs) = false

-- what the words ask for, or nothing where they aren't of the form
abbrev pub form : List Text → Option Command
form words = if is_empty (fault_of program words) then command_of_rows (matches_of program words) else None
