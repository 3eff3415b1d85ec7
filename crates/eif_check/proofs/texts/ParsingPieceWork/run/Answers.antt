use Rattle.eif_base.specs.FileLists.{texts_of}
use Rattle.eif_check.proofs.Readings.{goes_on}
use Rattle.eif_check.proofs.texts.ParsingPieceWork.run.Goals as goal

pub files-preserved : goal.files-preserved
files-preserved c =
    goes_on c.args.first c.files.file (texts_of c.args.self.now.files.now) c.text.result.now c.files.parsed
    c.read.new.self c.files.auto.file c.text.ensures c.in_ok-read.ensures c.files.invariant
