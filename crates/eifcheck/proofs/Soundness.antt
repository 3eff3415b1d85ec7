-- A yes says that no run goes wrong.
use Rattle.std.proofs.Common.{◌≡◌, ℕ, List, Option, Some, None, refl, sym, subst, inr}
use Rattle.eif_base.specs.FileLists.{NamedText, texts_of}
use Rattle.eif_base.specs.Reads.{Read}
use Rattle.eif_tree.specs.Tree.{ClassT}
use Rattle.eif_base.specs.declared.Root.{Root}
use Rattle.eif_rules.specs.FaultForms.{IsNone}
use Rattle.eif_check.specs.Systems.{AreClasses, Broken}
use Rattle.eifcheck.specs.declared.status.Status.{Status}
use Rattle.eifcheck.specs.declared.status.Status.TheVariants as s
use Rattle.eifcheck.specs.Answers.{Checks, IsYes}
use Rattle.eifcheck.specs.Form.{Command}
use Rattle.eifcheck.specs.Headline.{NeverWrong, IsSound}
use Rattle.eifcheck.proofs.SoundTexts.{texts_never_wrong}
use Rattle.eifcheck.specs.Steps.{Step, reads, refuses, reports, judges, next_step}

-- class texts without a fault
never_wrong : (texts : List (List ℕ)) (root : Root) (given : List ClassT) → AreClasses texts given
    → IsNone (Broken texts root) → NeverWrong texts root
never_wrong texts root given are none = record {
  given = given;
  are_classes = are;
  never = texts_never_wrong texts root given are (λ f broken. none f (inr (given, are, broken)));
}

-- a step whose report says yes is a judgement
judged : (c : Command) (step : Step) (bytes : List ℕ) → IsYes c step bytes
    → (files : List NamedText) × (step ≡ judges files) × NeverWrong (texts_of files) c.root
judged c (judges files) bytes is =
    (files, refl, never_wrong (texts_of files) c.root is.1.0 is.1.1 is.0)
judged c (reads n) bytes is = absurd is
judged c refuses bytes is = absurd is
judged c (reports list faults) bytes is = absurd is

pub sound_check : (c : Command) (holds : List ℕ → Option (List ℕ)) (old new : List Read)
    (before after : Option (List ℕ)) (status : Status) → Checks c holds old new before after status
    → IsSound (Some c) holds status
sound_check c holds old new before after s.Yes went =
    let yes = judged c (next_step c (texts_of went.got)) went.writes_are.0 went.writes_are.1 in
    (went.got, went.is_course, yes.0, yes.1, yes.2)
sound_check c holds old new before after _ went = tt

-- the same of the words that ask for the check
pub sound_words : (words : Option Command) (c : Command) → words ≡ Some c → (holds : List ℕ → Option (List ℕ))
    (old new : List Read) (before after : Option (List ℕ)) (status : Status) → Checks c holds old new before after status
    → IsSound words holds status
sound_words words c e holds old new before after status went =
    subst (λ o. IsSound o holds status) (sym e) (sound_check c holds old new before after status went)
