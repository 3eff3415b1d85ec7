-- The reads of a list and of the files that it names.
use Rattle.std.proofs.Common.{◌≡◌, ◌≢◌, ℕ, List, [], ◌∷◌, ◌++◌, Some, Result, Ok, Err, refl, ap, sym, subst, ◌∙◌}
use Rattle.std.specs.Prelude.{Vec}
use Rattle.std.specs.declared.alloc.Global.{Global}
use Rattle.eif_base.specs.declared.Fault.{Fault}
use Rattle.eif_base.specs.FileLists.{NamedText}
use Rattle.eif_base.specs.Reads.{Read}
use Rattle.eifcheck.specs.declared.reading.Input.{Input}
use Rattle.eifcheck.specs.declared.reading.Input.TheVariants as input
use Rattle.eifcheck.specs.declared.reading.Stop.{Stop}
use Rattle.eifcheck.specs.declared.reading.Stop.TheVariants as stop
use Rattle.eifcheck.specs.ListFile.{listed_names, list_faults}
use Rattle.eifcheck.specs.Steps.{reports, files_step, listed_step, step_by}
use Rattle.eifcheck.specs.Inputs.{ReadsText, ReadsInput}
use Rattle.eifcheck.proofs.CourseLemmas.{Next, Holds, course_none, nothing_made, nothing_read, stops, input_first}

bad_step : (list : List ℕ) (faults : List Fault) (names texts : List (List ℕ)) → faults ≢ []
    → listed_step list faults names texts ≡ reports list faults
bad_step list [] names texts some = absurd (some refl)
bad_step list (f ∷ fs) names texts some = refl

module _ (list : List ℕ) (files : List (List ℕ)) (holds : Holds) (old mid : List Read) where
  abbrev next : Next
  next = step_by (Some list) files

  -- the read of the list failed
  pub list_stopped : (why : Stop) → ReadsText list (holds list) old mid (Err why)
      → ReadsInput next holds old mid (Err why)
  list_stopped why read = record {
    got = [];
    is_course = course_none next holds;
    reads_to = stops next holds [] list old old mid why refl (nothing_made old) read;
  }

  -- it was read
  module _ (text : Vec ℕ Global) (read : ReadsText list (holds list) old mid (Ok text)) where
    abbrev file : NamedText
    file = record { name = list; text = text.items }

    abbrev behind : Next
    behind texts = next (text.items ∷ texts)

    then : (new : List Read) (r : Result Input Stop) → ReadsInput behind holds mid new r → ReadsInput next holds old new r
    then new r rest = input_first next holds file old mid new r refl read.0 read.1 read.2 rest

    -- there was no memory for its lines
    pub list_dropped : ReadsInput next holds old mid (Err stop.Memory)
    list_dropped = then mid (Err stop.Memory) (nothing_read behind holds mid)

    module _ (bytes : List ℕ) (faults : List Fault) (is_text : bytes ≡ text.items) (are_faults : faults ≡ list_faults bytes)
      where
        found : faults ≡ list_faults text.items
        found = are_faults ∙ ap list_faults is_text

        -- it has faults
        pub list_bad : faults ≢ [] → ReadsInput next holds old mid (Ok (input.BadList (file ∷ []) faults))
        list_bad some =
            let names = files ++ listed_names text.items in
            let due : behind [] ≡ reports list faults =
            ap (λ fs. listed_step list fs names []) (sym found) ∙ bad_step list faults names [] some in
            then mid (Ok (input.BadList (file ∷ []) faults)) (record {
              got = [];
              is_course = course_none behind holds;
              reads_to = ((list, refl, due), nothing_made mid);
            })

        -- it has none, and the files of the words and of the list were read
        pub list_good : (names : List (List ℕ)) (new : List Read) (r : Result Input Stop) → faults ≡ []
            → (list_faults bytes ≡ [] → names ≡ listed_names bytes)
            → ReadsInput (files_step (files ++ names)) holds mid new r → ReadsInput next holds old new r
        list_good names new r none named rest =
            let are_names : names ≡ listed_names text.items =
            named (sym are_faults ∙ none) ∙ ap listed_names is_text in
            let same : files_step (files ++ names) ≡ behind =
            ap (λ ns. files_step (files ++ ns)) are_names
            ∙ ap (λ fs. listed_step list fs (files ++ listed_names text.items)) (sym none ∙ found) in
            then new r (subst (λ (step : Next). ReadsInput step holds mid new r) same rest)
