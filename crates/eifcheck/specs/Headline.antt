-- What a yes excludes.
use Rattle.std.specs.Prelude.{◌≡◌, ℕ, List, Option, Some, None}
use Rattle.eif_base.specs.declared.Root.{Root}
use Rattle.eif_base.specs.FileLists.{NamedText, texts_of}
use Rattle.eif_tree.specs.Tree.{ClassT}
use Rattle.eif_check.specs.Systems.{AreClasses}
use Rattle.eif_meaning.specs.System.{system_of}
use Rattle.eif_meaning.specs.Run.{run, IsWrong}
use Rattle.eifcheck.specs.declared.status.Status.{Status}
use Rattle.eifcheck.specs.declared.status.Status.TheVariants as s
use Rattle.eifcheck.specs.Form.{Command}
use Rattle.eifcheck.specs.Steps.{judges, next_step}
use Rattle.eifcheck.specs.Courses.{IsCourse}

-- Each text is one class text and no other, and no run of their system with that root goes wrong, whatever the bound on its
-- calls.
pub record NeverWrong (texts : List (List ℕ)) (root : Root) : Type 0 where
  pub given : List ClassT
  pub are_classes : AreClasses texts given
  pub never : (n : ℕ) → IsWrong (run n (system_of given) root.class_name root.procedure_name) → ⊥

-- a yes says so of the files that were read, whose texts are what their names hold, where that is told
abbrev pub IsSound : Option Command → (List ℕ → Option (List ℕ)) → Status → Type 0
IsSound (Some c) holds s.Yes =
    (got : List NamedText) × IsCourse (next_step c) holds got
    × (files : List NamedText) × (next_step c (texts_of got) ≡ judges files) × NeverWrong (texts_of files) c.root
IsSound _ holds _ = Unit {0}
