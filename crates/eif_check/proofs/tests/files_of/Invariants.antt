use Rattle.std.proofs.Common.{◌≤◌, length}
use Rattle.eif_base.specs.FileLists.{texts_of}
use Rattle.eif_base.specs.declared.limits.TheConstants.{MOST_FILES}
use Rattle.eif_check.specs.Limits.{AreShort}
use Rattle.eif_check.proofs.tests.files_of.Given as goal

abbrev pub invariant-texts : goal.invariant-texts
invariant-texts g l = (length l.files ≤ MOST_FILES) × AreShort (texts_of l.files)
