-- What is told of a source of texts over files.
use Rattle.std.specs.Prelude.{ℕ, List}
use Rattle.eif_base.specs.Reads.{Read}
use Rattle.eif_base.specs.declared.file_texts.FileTexts.{FileTexts}

-- the reads that were made, in order
abbrev pub reads : {R : Type 0} → FileTexts R → List Read
reads t = t.log

-- how often a read failed, up to the last count
abbrev pub faults : {R : Type 0} → FileTexts R → ℕ
faults t = t.faults
