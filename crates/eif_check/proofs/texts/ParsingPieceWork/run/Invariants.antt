use Rattle.std.specs.Prelude.{slice_range}
use Rattle.eif_base.specs.FileLists.{texts_of}
use Rattle.eif_check.specs.Parsed.{IsParsed}
use Rattle.eif_check.proofs.texts.ParsingPieceWork.run.Given as goal

abbrev pub invariant-files : goal.invariant-files
invariant-files l = IsParsed l.first (slice_range (texts_of l.self.files.now) l.first l.file) l.parsed
