-- Where all that the names hold is told and within the limits, a check answers.
use Rattle.std.proofs.Common.{◌≡◌, ◌⊎◌, ℕ, ◌≤◌, ◌<◌, suc, List, [], ◌∷◌, length, Option, Some}
use Rattle.std.proofs.Common.{refl, sym, ap, subst, ◌∙◌, inl, inr, arith}
use Rattle.std.proofs.lemmas.List.Elements.{All-head, All-tail}
use Rattle.std.specs.Prelude.{IfSome}
use Rattle.std.specs.List.{All}
use Rattle.eif_base.specs.declared.limits.TheConstants.{MOST_BYTES}
use Rattle.eif_base.specs.Causes.{HasRisen}
use Rattle.eif_base.specs.FileLists.{NamedText, texts_of}
use Rattle.eif_base.specs.Reads.{Read}
use Rattle.eifcheck.specs.declared.reading.Stop.TheVariants as stop
use Rattle.eifcheck.specs.declared.status.Status.{Status}
use Rattle.eifcheck.specs.declared.status.Status.TheVariants as s
use Rattle.eifcheck.specs.Answers.{Checks, IsComplete, CountsReads, CountsWrites, IsAnswer, IsReported, IsWithin}
use Rattle.eifcheck.specs.Courses.{IsCourse, Stops}
use Rattle.eifcheck.specs.Form.{Command}
use Rattle.eifcheck.specs.Steps.{Step, reads, refuses, next_step}

-- the course of the texts after the first
later : (next : List (List ℕ) → Step) (holds : List ℕ → Option (List ℕ)) (f : NamedText) (fs : List NamedText)
    → IsCourse next holds (f ∷ fs) → IsCourse (λ texts. next (f.text ∷ texts)) holds fs
later next holds f fs k = record {
  due = λ i. k.due (suc i);
  short = All-tail (λ f. length f.text ≤ MOST_BYTES) f fs k.short;
  told = All-tail (λ f. IfSome (holds f.name) (λ held. f.text ≡ held)) f fs k.told;
}

-- the next step reads a name that holds this text, which is short
abbrev IsNext : (List (List ℕ) → Step) → (List ℕ → Option (List ℕ)) → List NamedText → NamedText → Type 0
IsNext next holds got f =
    (next (texts_of got) ≡ reads f.name) × (length f.text ≤ MOST_BYTES) × (holds f.name ≡ Some f.text)

-- texts with one name and one text are one
same_text : (f g : NamedText) → f.name ≡ g.name → f.text ≡ g.text → f ≡ g
same_text f g e h =
    let named : List ℕ → List ℕ → NamedText = λ name text. record { name = name; text = text } in
    ap (λ n. named n f.text) e ∙ ap (named g.name) h

-- two courses begin with the same text, where its name is told to hold it
same_first : (next : List (List ℕ) → Step) (holds : List ℕ → Option (List ℕ)) (f g : NamedText)
    → next [] ≡ reads f.name → holds f.name ≡ Some f.text
    → next [] ≡ reads g.name → IfSome (holds g.name) (λ held. g.text ≡ held) → g ≡ f
same_first next holds f g e held h told =
    let n : g.name ≡ f.name = cc in
    same_text g f n (subst (λ o. IfSome o (λ held. g.text ≡ held)) (ap holds n ∙ held) told)

-- these are all of the texts, or a text of them is next
abbrev IsFront : (List (List ℕ) → Step) → (List ℕ → Option (List ℕ)) → List NamedText → List NamedText → Type 0
IsFront next holds texts got = (got ≡ texts) ⊎ ((f : NamedText) × IsNext next holds got f)

-- and so with one more text before them
one_more : (next : List (List ℕ) → Step) (holds : List ℕ → Option (List ℕ)) (f : NamedText) (texts got : List NamedText)
    → IsFront (λ ts. next (f.text ∷ ts)) holds texts got → IsFront next holds (f ∷ texts) (f ∷ got)
one_more next holds f texts got (inl e) = inl (ap (λ fs. f ∷ fs) e)
one_more next holds f texts got (inr n) = inr n

-- the texts of a course are a front of those that are told, after which there is something to report
same_course : (next : List (List ℕ) → Step) (holds : List ℕ → Option (List ℕ)) (texts got : List NamedText)
    → IsCourse next holds texts → All (λ f. holds f.name ≡ Some f.text) texts → IsReported (next (texts_of texts))
    → IsCourse next holds got → IsFront next holds texts got
same_course next holds [] [] whole held reported part = inl refl
same_course next holds [] (g ∷ gs) whole held reported part =
    absurd (subst IsReported (part.due 0 g refl) reported)
same_course next holds (t ∷ ts) [] whole held reported part =
    let short = All-head (λ f. length f.text ≤ MOST_BYTES) t ts whole.short in
    inr (t, (whole.due 0 t refl, short, All-head (λ f. holds f.name ≡ Some f.text) t ts held))
same_course next holds (t ∷ ts) (g ∷ gs) whole held reported part =
    let e = same_first next holds t g (whole.due 0 t refl) (All-head (λ f. holds f.name ≡ Some f.text) t ts held)
    (part.due 0 g refl) (All-head (λ f. IfSome (holds f.name) (λ held. f.text ≡ held)) g gs part.told) in
    subst (λ f. IsCourse next holds (f ∷ gs) → IsFront next holds (t ∷ ts) (f ∷ gs)) (sym e)
    (λ p. one_more next holds t ts gs (same_course (λ texts. next (t.text ∷ texts)) holds ts gs
    (later next holds t ts whole) (All-tail (λ f. holds f.name ≡ Some f.text) t ts held) reported
    (later next holds t gs p)))
    part

-- such a front is not too large: its next step is reported, or reads a short text
not_too_large : (next : List (List ℕ) → Step) (holds : List ℕ → Option (List ℕ)) (texts got : List NamedText)
    (old new : List Read) → IsReported (next (texts_of texts)) → IsFront next holds texts got
    → Stops next holds got old new stop.TooLarge → ⊥
not_too_large next holds texts got old new reported (inl e) (inl stops) =
    let due : next (texts_of texts) ≡ refuses = ap (λ fs. next (texts_of fs)) (sym e) ∙ stops.0 in
    subst IsReported due reported
not_too_large next holds texts got old new reported (inl e) (inr stops) =
    let due : next (texts_of texts) ≡ reads stops.0 = ap (λ fs. next (texts_of fs)) (sym e) ∙ stops.1.0 in
    subst IsReported due reported
not_too_large next holds texts got old new reported (inr n) (inl stops) =
    let due : reads n.0.name ≡ refuses = sym n.1.0 ∙ stops.0 in cc
not_too_large next holds texts got old new reported (inr n) (inr stops) =
    let due : reads n.0.name ≡ reads stops.0 = sym n.1.0 ∙ stops.1.0 in
    let name : stops.0 ≡ n.0.name = cc in
    let long = subst (λ o. IfSome o (λ held. MOST_BYTES < length held)) (ap holds name ∙ n.1.2) stops.2 in
    let short = n.1.1 in
    omega arith

-- where all that the names hold is told and within the limits, no course ends as too large
pub within : (c : Command) (holds : List ℕ → Option (List ℕ)) (got : List NamedText) (old new : List Read)
    → IsWithin c holds → IsCourse (next_step c) holds got → Stops (next_step c) holds got old new stop.TooLarge → ⊥
within c holds got old new fit k = not_too_large (next_step c) holds fit.texts got old new fit.reported
    (same_course (next_step c) holds fit.texts got fit.is_course fit.held fit.reported k)

-- then there is an answer, unless a count of faults rose
pub complete : (c : Command) (holds : List ℕ → Option (List ℕ)) (old new : List Read) (before after : Option (List ℕ))
    (status : Status) (r r' w w' : ℕ) → Checks c holds old new before after status → IsWithin c holds
    → (HasRisen r r' → ⊥) → (HasRisen w w' → ⊥) → CountsReads r r' status → CountsWrites w w' status → IsAnswer status
complete c holds old new before after s.Yes r r' w w' k fit source sink read wrote = tt
complete c holds old new before after s.Faults r r' w w' k fit source sink read wrote = tt
complete c holds old new before after s.Memory r r' w w' k fit source sink read wrote = tt
complete c holds old new before after s.Usage r r' w w' k fit source sink read wrote = k.writes_are
complete c holds old new before after s.ReadFault r r' w w' k fit source sink read wrote = source read
complete c holds old new before after s.WriteFault r r' w w' k fit source sink read wrote = sink wrote
complete c holds old new before after s.TooLarge r r' w w' k fit source sink read wrote =
    within c holds k.got old new fit k.is_course k.reads_are

-- the same of the words that ask for the check
pub complete_words : (words : Option Command) (c : Command) → words ≡ Some c → (holds : List ℕ → Option (List ℕ))
    (old new : List Read) (before after : Option (List ℕ)) (status : Status) (r r' w w' : ℕ)
    → Checks c holds old new before after status → CountsReads r r' status → CountsWrites w w' status
    → IsComplete words holds r r' w w' status
complete_words words c e holds old new before after status r r' w w' k read wrote =
    subst (λ o. IsComplete o holds r r' w w' status) (sym e)
    (λ fit source sink. complete c holds old new before after status r r' w w' k fit source sink read wrote)
