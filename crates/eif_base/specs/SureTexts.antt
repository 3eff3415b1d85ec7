-- What is told of a source of texts in memory that never fails.
use Rattle.std.specs.Prelude.{ℕ, List, [], Option, Some, unwrap_or}
use Rattle.eif_base.specs.Reads.{Read}
use Rattle.eif_base.specs.TextMap.{held}
use Rattle.eif_base.specs.declared.sure_texts.SureTexts.{SureTexts}

-- what each name holds: one that was never put holds no bytes
abbrev pub holds : SureTexts → List ℕ → Option (List ℕ)
holds t name = Some (unwrap_or (held t.texts name) [])

-- the reads that were made, in order
abbrev pub reads : SureTexts → List Read
reads t = t.log
