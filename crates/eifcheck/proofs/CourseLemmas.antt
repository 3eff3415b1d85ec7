-- Courses of reads, one read after another.
use Rattle.std.proofs.Common.{◌≡◌, ℕ, zero, suc, ◌≤◌, List, [], ◌∷◌, ◌++◌, Option, Some, Result, Ok, Err}
use Rattle.std.proofs.Common.{length, take, refl, ap, sym, ◌∙◌, inl, inr, append_assoc}
use Rattle.std.specs.Prelude.{IfSome, slice_get}
use Rattle.std.proofs.lemmas.List.{map-append, append-nil}
use Rattle.std.proofs.lemmas.List.Elements.{All-nil, All-cons, All-tail, All-head}
use Rattle.std.proofs.lemmas.Option.{same_Some}
use Rattle.eif_base.specs.declared.Ended.TheVariants as e
use Rattle.eif_base.specs.declared.limits.TheConstants.{MOST_BYTES}
use Rattle.eif_base.specs.FileLists.{NamedText, texts_of}
use Rattle.eif_base.specs.Reads.{Read, AddsRead}
use Rattle.eifcheck.specs.declared.reading.Input.{Input}
use Rattle.eifcheck.specs.declared.reading.Stop.{Stop}
use Rattle.eifcheck.specs.declared.reading.Stop.TheVariants as stop
use Rattle.eifcheck.specs.Steps.{Step, reads}
use Rattle.eifcheck.specs.Courses.{IsCourse, MakesReads, Stops, read_of, whole_reads}
use Rattle.eifcheck.specs.Inputs.{ReadsText, ReadsInput, ReadsTo}

-- which step is due after these texts
abbrev pub Next : Type 0
Next = List (List ℕ) → Step

-- what each name holds, where that is told
abbrev pub Holds : Type 0
Holds = List ℕ → Option (List ℕ)

abbrev IsShort : NamedText → Type 0
IsShort f = length f.text ≤ MOST_BYTES

abbrev IsTold : Holds → NamedText → Type 0
IsTold holds f = IfSome (holds f.name) (λ held. f.text ≡ held)

-- ---- a course

pub course_none : (next : Next) (holds : Holds) → IsCourse next holds []
course_none next holds = record { due = λ i f is. cc; short = All-nil IsShort; told = All-nil (IsTold holds) }

due_first : (next : Next) (f : NamedText) (got : List NamedText) → next [] ≡ reads f.name
    → ((i : ℕ) (x : NamedText) → slice_get got i ≡ Some x → next (f.text ∷ take i (texts_of got)) ≡ reads x.name)
    → (i : ℕ) (x : NamedText) → slice_get (f ∷ got) i ≡ Some x → next (take i (texts_of (f ∷ got))) ≡ reads x.name
due_first next f got due rest zero x is = due ∙ ap (λ (y : NamedText). reads y.name) (same_Some f x is)
due_first next f got due rest (suc i) x is = rest i x is

-- one read, and then a course
course_first : (next : Next) (holds : Holds) (f : NamedText) (got : List NamedText) → next [] ≡ reads f.name
    → IsShort f → IsTold holds f → IsCourse (λ texts. next (f.text ∷ texts)) holds got → IsCourse next holds (f ∷ got)
course_first next holds f got due short told rest = record {
  due = due_first next f got due rest.due;
  short = All-cons IsShort f got short rest.short;
  told = All-cons (IsTold holds) f got told rest.told;
}

course_rest : (next : Next) (holds : Holds) (f : NamedText) (got : List NamedText) → IsCourse next holds (f ∷ got)
    → IsCourse (λ texts. next (f.text ∷ texts)) holds got
course_rest next holds f got course = record {
  due = λ i x is. course.due (suc i) x is;
  short = All-tail IsShort f got course.short;
  told = All-tail (IsTold holds) f got course.told;
}

-- a course, and then one read
pub course_last : (next : Next) (holds : Holds) (got : List NamedText) (f : NamedText) → IsCourse next holds got
    → next (texts_of got) ≡ reads f.name → IsShort f → IsTold holds f → IsCourse next holds (got ++ f ∷ [])
course_last next holds [] f course due short told =
    course_first next holds f [] due short told (course_none (λ texts. next (f.text ∷ texts)) holds)
course_last next holds (g ∷ got) f course due short told =
    let behind : Next = λ texts. next (g.text ∷ texts) in
    course_first next holds g (got ++ f ∷ []) (course.due 0 g refl) (All-head IsShort g got course.short)
    (All-head (IsTold holds) g got course.told)
    (course_last behind holds got f (course_rest next holds g got course) due short told)

-- ---- reads

pub nothing_made : (old : List Read) → MakesReads [] [] old old
nothing_made old = sym (append-nil (old ++ []) ∙ append-nil old)

made_before : (got : List NamedText) (r : Read) (old now new : List Read) → MakesReads got [] old now → new ≡ now ++ r ∷ []
    → MakesReads got (r ∷ []) old new
made_before got r old now new made adds =
    adds ∙ ap (λ reads. reads ++ r ∷ []) (made ∙ append-nil (old ++ whole_reads got))

-- the read of one text more
pub made_last : (got : List NamedText) (f : NamedText) (old now new : List Read) → MakesReads got [] old now
    → AddsRead now new f.name e.Whole → MakesReads (got ++ f ∷ []) [] old new
made_last got f old now new made adds =
    let whole : List Read = read_of f.name e.Whole ∷ [] in
    let all = map-append (λ (f : NamedText). read_of f.name e.Whole) got (f ∷ []) in
    made_before got (read_of f.name e.Whole) old now new made adds ∙ append_assoc old (whole_reads got) whole
    ∙ ap (λ reads. old ++ reads) (sym all) ∙ sym (append-nil (old ++ whole_reads (got ++ f ∷ [])))

-- why a read that was due gave no text is why reading stops
pub stops : (next : Next) (holds : Holds) (got : List NamedText) (name : List ℕ) (old now new : List Read) (why : Stop)
    → next (texts_of got) ≡ reads name → MakesReads got [] old now → ReadsText name (holds name) now new (Err why)
    → Stops next holds got old new why
stops next holds got name old now new stop.ReadFault due made read =
    (name, (due, made_before got (read_of name e.Failed) old now new made read))
stops next holds got name old now new stop.TooLarge due made (read, long) =
    inr (name, (due, made_before got (read_of name e.TooLong) old now new made read), long)
stops next holds got name old now new stop.Memory due made read = read ∙ made

-- ---- what reading gives

-- where there is no memory before the first read
pub nothing_read : (next : Next) (holds : Holds) (old : List Read) → ReadsInput next holds old old (Err stop.Memory)
nothing_read next holds old =
    record { got = []; is_course = course_none next holds; reads_to = nothing_made old }

module _ (next : Next) (holds : Holds) (f : NamedText) (got : List NamedText) (old mid new : List Read)
    (first : AddsRead old mid f.name e.Whole) where
  made_first : (last : List Read) → MakesReads got last mid new → MakesReads (f ∷ got) last old new
  made_first last made =
      made ∙ ap (λ reads. reads ++ whole_reads got ++ last) first
      ∙ ap (λ reads. reads ++ last) (append_assoc old (read_of f.name e.Whole ∷ []) (whole_reads got))

  stops_first : (why : Stop) → Stops (λ texts. next (f.text ∷ texts)) holds got mid new why
      → Stops next holds (f ∷ got) old new why
  stops_first stop.ReadFault (name, (due, made)) = (name, (due, made_first (read_of name e.Failed ∷ []) made))
  stops_first stop.TooLarge (inl (due, made)) = inl (due, made_first [] made)
  stops_first stop.TooLarge (inr (name, (due, made), long)) =
      inr (name, (due, made_first (read_of name e.TooLong ∷ []) made), long)
  stops_first stop.Memory made = made_first [] made

  reads_to_first : (r : Result Input Stop) → ReadsTo (λ texts. next (f.text ∷ texts)) holds got mid new r
      → ReadsTo next holds (f ∷ got) old new r
  reads_to_first (Ok read) (due, made) = (due, made_first [] made)
  reads_to_first (Err why) stops = stops_first why stops

-- a read, and then what is read behind it
pub input_first : (next : Next) (holds : Holds) (f : NamedText) (old mid new : List Read) (r : Result Input Stop)
    → next [] ≡ reads f.name → AddsRead old mid f.name e.Whole → IsShort f → IsTold holds f
    → ReadsInput (λ texts. next (f.text ∷ texts)) holds mid new r → ReadsInput next holds old new r
input_first next holds f old mid new r due first short told rest = record {
  got = f ∷ rest.got;
  is_course = course_first next holds f rest.got due short told rest.is_course;
  reads_to = reads_to_first next holds f rest.got old mid new first r rest.reads_to;
}
