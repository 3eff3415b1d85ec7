-- The files of some names, read one after the other.
use Rattle.std.proofs.Common.{◌≡◌, ℕ, ◌+◌, ◌<◌, ◌≤◌, ◌||◌, nat_lt, List, [], ◌∷◌, ◌++◌, Some, Ok, Err}
use Rattle.std.proofs.Common.{length, get_or, map, take, refl, ap, sym, subst, ◌∙◌, inl, arith}
use Rattle.std.specs.Prelude.{IfSome, sum_by, slice_get, Vec}
use Rattle.std.specs.declared.alloc.Global.{Global}
use Rattle.std.specs.Borrow.{Bor}
use Rattle.std.specs.Option.{option_map}
use Rattle.std.proofs.lemmas.Bool.{lt-ltb, le-ltb, or_right, cond-true}
use Rattle.std.proofs.lemmas.List.{map_push, take_all, take_more, length-map, length_push}
use Rattle.std.proofs.lemmas.List.Elements.{All-map}
use Rattle.std.proofs.lemmas.List.Sums.{sum_by_push}
use Rattle.std.proofs.lemmas.Option.{slice_get-map, slice_get-get_or, get_or_from_slice_get}
use Rattle.std.proofs.lemmas.Option.{slice_get_past, slice_get_within}
use Rattle.eif_base.specs.declared.limits.TheConstants.{MOST_FILES, MOST_BYTES, MOST_SYSTEM_BYTES}
use Rattle.eif_base.specs.FileLists.{NamedText, names_of, texts_of}
use Rattle.eif_base.specs.Reads.{Read}
use Rattle.eifcheck.specs.declared.reading.Input.TheVariants as input
use Rattle.eifcheck.specs.declared.reading.Stop.{Stop}
use Rattle.eifcheck.specs.declared.reading.Stop.TheVariants as stop
use Rattle.eifcheck.specs.Steps.{reads, refuses, judges, files_of, file_step, files_step}
use Rattle.eifcheck.specs.Courses.{IsCourse, MakesReads}
use Rattle.eifcheck.specs.Inputs.{ReadsText, ReadsInput, IsFit}
use Rattle.eifcheck.proofs.CourseLemmas.{Holds, course_none, course_last, nothing_made, made_last, stops}

-- ---- the steps of files

too_many : (names texts : List (List ℕ)) → MOST_FILES < length names → files_step names texts ≡ refuses
too_many names texts many = rw (lt-ltb MOST_FILES (length names) many)

too_large : (names texts : List (List ℕ)) → MOST_SYSTEM_BYTES < sum_by length texts → files_step names texts ≡ refuses
too_large names texts large =
    let many = nat_lt MOST_FILES (length names) in
    let much = nat_lt MOST_SYSTEM_BYTES (sum_by length texts) in
    cond-true (many || much) refuses (file_step names texts (slice_get names (length texts)))
    (or_right many much (lt-ltb MOST_SYSTEM_BYTES (sum_by length texts) large))

within : (names texts : List (List ℕ)) → length names ≤ MOST_FILES → sum_by length texts ≤ MOST_SYSTEM_BYTES
    → files_step names texts ≡ file_step names texts (slice_get names (length texts))
within names texts few fits =
    rw (le-ltb MOST_FILES (length names) few, le-ltb MOST_SYSTEM_BYTES (sum_by length texts) fits)

files_of_all : (files : List NamedText) → files_of (names_of files) (texts_of files) ≡ files
files_of_all [] = refl
files_of_all (f ∷ files) = ap (λ fs. f ∷ fs) (files_of_all files)

-- there are too many
pub refused_first : (names : List (List ℕ)) (holds : Holds) (old : List Read) → MOST_FILES < length names
    → ReadsInput (files_step names) holds old old (Err stop.TooLarge)
refused_first names holds old many = record {
  got = [];
  is_course = course_none (files_step names) holds;
  reads_to = inl (too_many names [] many, nothing_made old);
}

-- ---- a loop over the names

-- the name at that place
pub name_at : (names : List (Bor (List ℕ))) (i : ℕ) (d : Bor (List ℕ)) → i < length names
    → slice_get (map (λ name. name.now) names) i ≡ Some (get_or names i d).now
name_at names i d inside =
    slice_get-map (λ name. name.now) names i ∙ ap (option_map (λ name. name.now)) (slice_get-get_or names i d inside)

-- So many of the files were read, which have so many bytes in all. What names hold is told as before.
pub record AreRead (names : List (List ℕ)) (holds holds' : Holds) (old now : List Read) (files : List NamedText)
    (count total : ℕ) : Type 0 where
  pub few : length names ≤ MOST_FILES
  pub counted : length files ≡ count
  pub named : names_of files ≡ take count names
  pub is_course : IsCourse (files_step names) holds files
  pub made : MakesReads files [] old now
  pub sum : total ≡ sum_by length (texts_of files)
  pub fits : total ≤ MOST_SYSTEM_BYTES
  pub kept : holds' ≡ holds

module _ (names : List (List ℕ)) (holds holds' : Holds) (old now : List Read) (files : List NamedText) (count total : ℕ)
    (are : AreRead names holds holds' old now files count total) where
  so_far : files_step names (texts_of files) ≡ file_step names (texts_of files) (slice_get names count)
  so_far =
      let long : length (texts_of files) ≡ count = length-map files (λ f. f.text) ∙ are.counted in
      within names (texts_of files) are.few (subst (λ n. n ≤ MOST_SYSTEM_BYTES) are.sum are.fits)
      ∙ ap (λ n. file_step names (texts_of files) (slice_get names n)) long

  due : (name : List ℕ) → slice_get names count ≡ Some name → files_step names (texts_of files) ≡ reads name
  due name next = so_far ∙ ap (file_step names (texts_of files)) next

  -- the read of the next file failed
  pub stopped : (name : List ℕ) (new : List Read) (why : Stop) → slice_get names count ≡ Some name
      → ReadsText name (holds' name) now new (Err why) → ReadsInput (files_step names) holds old new (Err why)
  stopped name new why next read =
      let read_so = subst (λ told. ReadsText name (told name) now new (Err why)) are.kept read in record {
        got = files;
        is_course = are.is_course;
        reads_to = stops (files_step names) holds files name old now new why (due name next) are.made read_so;
      }

  -- it was read
  module _ (name : List ℕ) (text : Vec ℕ Global) (new : List Read) (next : slice_get names count ≡ Some name)
      (read : ReadsText name (holds' name) now new (Ok text)) where
    abbrev file : NamedText
    file = record { name = name; text = text.items }

    course : IsCourse (files_step names) holds (files ++ file ∷ [])
    course =
        let told = subst (λ told. IfSome (told name) (λ held. text.items ≡ held)) are.kept read.2 in
        course_last (files_step names) holds files file are.is_course (due name next) read.1 told

    made : MakesReads (files ++ file ∷ []) [] old new
    made = made_last files file old now new are.made read.0

    sum : sum_by length (texts_of (files ++ file ∷ [])) ≡ total + length text.items
    sum =
        ap (sum_by length) (map_push (λ f. f.text) files file) ∙ sum_by_push length (texts_of files) text.items
        ∙ ap (λ n. n + length text.items) (sym are.sum)

    -- the files have too many bytes with this one
    pub refused : MOST_SYSTEM_BYTES < total + length text.items
        → ReadsInput (files_step names) holds old new (Err stop.TooLarge)
    refused large =
        let large_so = subst (λ n. MOST_SYSTEM_BYTES < n) (sym sum) large in record {
          got = files ++ file ∷ [];
          is_course = course;
          reads_to = inl (too_large names (texts_of (files ++ file ∷ [])) large_so, made);
        }

    -- there is no memory to keep it
    pub not_kept : ReadsInput (files_step names) holds old new (Err stop.Memory)
    not_kept = record { got = files ++ file ∷ []; is_course = course; reads_to = made }

    named : names_of (files ++ file ∷ []) ≡ take (count + 1) names
    named =
        let inside : count < length names = slice_get_within names count name next in
        map_push (λ f. f.name) files file ∙ ap (λ ns. ns ++ name ∷ []) are.named
        ∙ ap (λ n. take count names ++ n ∷ []) (sym (get_or_from_slice_get names count name name next))
        ∙ sym (take_more names count name inside)

    -- it is kept
    pub added : (kept : List NamedText) (holds'' : Holds) (total' : ℕ) → kept ≡ files ++ file ∷ [] → holds'' ≡ holds'
        → total' ≡ total + length text.items → total' ≤ MOST_SYSTEM_BYTES
        → AreRead names holds holds'' old new kept (count + 1) total'
    added kept holds'' total' is same more fits =
        subst (λ fs. AreRead names holds holds'' old new fs (count + 1) total') (sym is) (record {
          few = are.few;
          counted = length_push files file ∙ ap (λ n. n + 1) are.counted;
          named = named;
          is_course = course;
          made = made;
          sum = more ∙ sym sum;
          fits = fits;
          kept = same ∙ are.kept;
        })

  -- all of them were read
  pub all_read : length names ≤ count
      → ReadsInput (files_step names) holds old now (Ok (input.Files files)) × IsFit (input.Files files)
  all_read past =
      let are_names : names_of files ≡ names = are.named ∙ take_all count names past in
      let last : files_step names (texts_of files) ≡ judges files =
      so_far ∙ ap (file_step names (texts_of files)) (slice_get_past names count past)
      ∙ ap (λ ns. judges (files_of ns (texts_of files))) (sym are_names) ∙ ap judges (files_of_all files) in
      let short = All-map (λ text. length text ≤ MOST_BYTES) (λ f. f.text) files are.is_course.short in
      let long : length files ≡ length names = sym (length-map files (λ f. f.name)) ∙ ap length are_names in (
        record { got = files; is_course = are.is_course; reads_to = (last, are.made) },
        (short, omega (arith, long, are.few)),
      )
