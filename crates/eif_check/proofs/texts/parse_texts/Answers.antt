use denote.Param.Send.{sendable}
use Rattle.std.proofs.Common.{map, sym, ◌∙◌}
use Rattle.std.proofs.lemmas.List.{length-map}
use Rattle.eif_base.specs.FileLists.{NamedText, texts_of}
use Rattle.eif_check.proofs.Crossing.{parsed_send}
use Rattle.eif_check.proofs.Readings.{if_parsed}
use Rattle.eif_check.proofs.texts.parse_texts.Goals as goal

pub in_pieces-requires-send-W-Out : goal.in_pieces-requires-send-W-Out
in_pieces-requires-send-W-Out g c κs within = search (parsed_send, sendable)

pub returns : goal.returns
returns g c =
    let files = c.args.files.now in
    if_parsed (texts_of files) c.args.workers c.count.result c.in_ok-pieces.pieces.items c.joined.result
    c.requires.workers.0 (c.count.ensures ∙ sym (length-map files (λ (f : NamedText). f.text))) c.in_ok-pieces.ensures
    c.joined.ensures.trees c.joined.ensures.faults
