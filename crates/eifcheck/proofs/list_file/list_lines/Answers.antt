use Rattle.std.proofs.Common.{◌+◌, sym, ◌∙◌}
use Rattle.std.proofs.lemmas.List.{take_rest}
use Rattle.eifcheck.proofs.ListLines.{added_more, added_last}
use Rattle.eifcheck.proofs.list_file.list_lines.Goals as goal

pub lines-preserved : goal.lines-preserved
lines-preserved c =
    added_more _ c.lines.rest.now _ _ _ _ _ _ c.lines.invariant c.in-Some.end _ _ (sym c.line_feed.ensures ∙ c.in-Some.is)
    c.without_return.ensures (take_rest c.lines.rest.now (c.in-Some.end + 1)) c.in_ok-add.ensures.faults
    c.in_ok-add.ensures.names

pub returns : goal.returns
returns c =
    let last = added_last _ _ _ _ _ _ _ _ c.lines.invariant (sym c.line_feed.ensures ∙ c.in_default.is)
    c.in_ok-add-2.ensures.faults c.in_ok-add-2.ensures.names in
    record { faults = last.0; names = last.1 }
