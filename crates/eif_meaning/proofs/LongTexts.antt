-- Bytes past the greatest number are a stop.
use Rattle.std.proofs.Common.{◌++◌, ap, ◌∙◌}
use Rattle.std.specs.Prelude.{if◌then◌else◌}
use Rattle.eif_meaning.specs.Values.{after, give, stop, some_or, no_feature}
use Rattle.eif_meaning.specs.Operands.{bytes_or_stop, give_string}
use Rattle.eif_meaning.specs.BuiltIns.{set_bytes}
use Rattle.eif_meaning.specs.StoppedRuns.{LongTextStops, LongAppendStops}

pub long_text_stops : LongTextStops
long_text_stops a b s h = ap (λ t. (if t then give_string (a ++ b) else stop) s) h

pub long_append_stops : LongAppendStops
long_append_stops c bytes o s there h =
    ap (λ x. after (some_or no_feature x give s)
    (λ t a. bytes_or_stop (a.content.bytes ++ bytes) (set_bytes c) t)) there
    ∙ ap (λ t. (if t then set_bytes c (o.content.bytes ++ bytes) else stop) s) h
