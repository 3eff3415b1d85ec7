use Rattle.std.proofs.Common.{map}
use Rattle.std.specs.String.{string_bytes}
use Rattle.eifcheck.specs.Form.{form}
use Rattle.eifcheck.specs.ReadWords.{command_of}
use Rattle.eifcheck.proofs.Rows.{Gives-refused, form-refused}
use Rattle.eifcheck.proofs.command_line.read_words.Goals as goal

pub returns-in_err-matches : goal.returns-in_err-matches
returns-in_err-matches c =
    let words = map string_bytes c.args.words.now in
    Gives-refused command_of (form words) c.in_err-matches.field-0.0 c.from_residual.result
    (λ usage. form-refused words (c.in_err-matches.ensures.usage usage)) c.from_residual.ensures.1
