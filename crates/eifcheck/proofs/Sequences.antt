-- The order in which names are read.
use Rattle.std.proofs.Common.{◌≡◌, ℕ, zero, suc, List, [], ◌∷◌, ◌++◌, length, take, Option, Some, None}
use Rattle.std.proofs.Common.{refl, sym, ap, subst, ◌∙◌}
use Rattle.std.proofs.lemmas.List.{length-map}
use Rattle.std.specs.Prelude.{slice_get}
use Rattle.eif_base.specs.declared.Fault.{Fault}
use Rattle.eif_base.specs.FileLists.{NamedText, names_of, texts_of}
use Rattle.eifcheck.specs.Answers.{InSequence}
use Rattle.eifcheck.specs.Courses.{IsCourse}
use Rattle.eifcheck.specs.Form.{Command}
use Rattle.eifcheck.specs.ListFile.{listed_names, list_faults}
use Rattle.eifcheck.specs.Steps.{Step, reads, refuses, reports, judges, files_step, listed_step, step_by, next_step}
use Rattle.eifcheck.specs.Steps.{names_by, sequence}
use Rattle.eifcheck.proofs.FileSteps.{by_files}

-- what a step says of the name with the number of the next text
abbrev IsAt : Step → Option (List ℕ) → Type 0
IsAt (reads n) name = name ≡ Some n
IsAt (judges files) name = name ≡ None
IsAt _ name = Unit {0}

-- it says so where files are due
files_at : (names texts : List (List ℕ)) → IsAt (files_step names texts) (slice_get names (length texts))
files_at names texts = by_files (λ s. IsAt s (slice_get names (length texts))) names texts tt (λ n e. e) (λ e. e)

-- and once the list is read
listed_at : (list : List ℕ) (faults : List Fault) (names texts : List (List ℕ))
    → IsAt (listed_step list faults names texts) (slice_get names (length texts))
listed_at list [] names texts = files_at names texts
listed_at list (f ∷ fs) names texts = tt

-- and whatever was read
step_at : (list : Option (List ℕ)) (files texts : List (List ℕ))
    → IsAt (step_by list files texts) (slice_get (names_by list files texts) (length texts))
step_at None files texts = files_at files texts
step_at (Some list) files [] = refl
step_at (Some list) files (t ∷ ts) = listed_at list (list_faults t) (files ++ listed_names t) ts

-- the same, where there are n texts
step_at_number : (c : Command) (texts : List (List ℕ)) (n : ℕ) → length texts ≡ n
    → IsAt (next_step c texts) (slice_get (sequence c texts) n)
step_at_number c texts n e =
    subst (λ n. IsAt (next_step c texts) (slice_get (sequence c texts) n)) e (step_at c.list c.files texts)

-- the next name is known once the texts before it are
known : (list : Option (List ℕ)) (files texts : List (List ℕ)) (i : ℕ)
    → slice_get (names_by list files (take i texts)) i ≡ slice_get (names_by list files texts) i
known None files texts i = refl
known (Some list) files [] zero = refl
known (Some list) files [] (suc i) = refl
known (Some list) files (t ∷ ts) zero = refl
known (Some list) files (t ∷ ts) (suc i) = refl

-- there are i texts before the i-th
length_before : (got : List NamedText) (i : ℕ) (f : NamedText) → slice_get got i ≡ Some f
    → length (take i (texts_of got)) ≡ i
length_before [] i f e = cc
length_before (g ∷ gs) zero f e = refl
length_before (g ∷ gs) (suc i) f e = ap suc (length_before gs i f e)

-- the i-th text of a course has the i-th name
name_at : (c : Command) (holds : List ℕ → Option (List ℕ)) (got : List NamedText) → IsCourse (next_step c) holds got
    → (i : ℕ) (f : NamedText) → slice_get got i ≡ Some f → slice_get (sequence c (texts_of got)) i ≡ Some f.name
name_at c holds got k i f e =
    let before = take i (texts_of got) in
    sym (known c.list c.files (texts_of got) i)
    ∙ subst (λ s. IsAt s (slice_get (sequence c before) i)) (k.due i f e)
    (step_at_number c before i (length_before got i f e))

-- so the names are a front of the sequence
front : (names : List (List ℕ)) (got : List NamedText)
    → ((i : ℕ) (f : NamedText) → slice_get got i ≡ Some f → slice_get names i ≡ Some f.name)
    → names_of got ≡ take (length got) names
front names [] at = refl
front [] (f ∷ fs) at = let e = at 0 f refl in cc
front (n ∷ ns) (f ∷ fs) at = let e = at 0 f refl in let rest = front ns fs (λ i. at (suc i)) in cc

-- n names are all where there is no n-th
take_all : (names : List (List ℕ)) (n : ℕ) → slice_get names n ≡ None → take n names ≡ names
take_all [] zero e = refl
take_all [] (suc n) e = refl
take_all (x ∷ xs) zero e = cc
take_all (x ∷ xs) (suc n) e = ap (λ ys. x ∷ ys) (take_all xs n e)

-- where files are judged, no name is left
by_step : (c : Command) (got : List NamedText) (step : Step)
    → names_of got ≡ take (length got) (sequence c (texts_of got))
    → IsAt step (slice_get (sequence c (texts_of got)) (length got)) → InSequence c got step
by_step c got (judges files) e at = e ∙ take_all (sequence c (texts_of got)) (length got) at
by_step c got (reads n) e at = e
by_step c got (reports list faults) e at = e
by_step c got refuses e at = e

-- the names of a course are those of the sequence, in its order
pub in_sequence : (c : Command) (holds : List ℕ → Option (List ℕ)) (got : List NamedText)
    → IsCourse (next_step c) holds got → InSequence c got (next_step c (texts_of got))
in_sequence c holds got k =
    by_step c got (next_step c (texts_of got)) (front (sequence c (texts_of got)) got (name_at c holds got k))
    (step_at_number c (texts_of got) (length got) (length-map got (λ f. f.text)))
