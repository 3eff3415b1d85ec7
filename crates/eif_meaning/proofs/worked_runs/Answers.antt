use Rattle.std.proofs.Common.{rules}
use Rattle.std.specs.Fmt.{digits}
use Rattle.eif_system.specs.Kernel.{kernel}
use Rattle.eif_system.specs.Lineage.{line_of}
use Rattle.eif_meaning.proofs.EndlessRun.{endless_is_cut_off}
use Rattle.eif_meaning.proofs.LongTexts.{long_text_stops, long_append_stops}
use Rattle.eif_meaning.proofs.worked_runs.Goals as goal

pub returns-clause-first : goal.returns-clause-first
unfolding kernel line_of digits
returns-clause-first c = search rules

pub returns-clause-wrong : goal.returns-clause-wrong
unfolding kernel line_of digits
returns-clause-wrong c = search rules

pub returns-clause-stopped : goal.returns-clause-stopped
unfolding kernel line_of digits
returns-clause-stopped c = search (long_text_stops, long_append_stops)

pub returns-clause-order : goal.returns-clause-order
unfolding kernel line_of digits
returns-clause-order c = search rules

pub returns-clause-instructions : goal.returns-clause-instructions
unfolding kernel line_of digits
returns-clause-instructions c = search rules

pub returns-clause-binding : goal.returns-clause-binding
unfolding kernel line_of digits
returns-clause-binding c = search rules

pub returns-clause-precursors : goal.returns-clause-precursors
unfolding kernel line_of digits
returns-clause-precursors c = search rules

pub returns-clause-generic : goal.returns-clause-generic
unfolding kernel line_of digits
returns-clause-generic c = search rules

pub returns-clause-holders : goal.returns-clause-holders
unfolding kernel line_of digits
returns-clause-holders c = search rules

pub returns-clause-tests : goal.returns-clause-tests
unfolding kernel line_of digits
returns-clause-tests c = search rules

pub returns-clause-bounds : goal.returns-clause-bounds
unfolding kernel line_of digits
returns-clause-bounds c = search endless_is_cut_off

pub returns-clause-operators : goal.returns-clause-operators
unfolding kernel line_of digits
returns-clause-operators c = search rules

pub returns-clause-kernel : goal.returns-clause-kernel
unfolding kernel line_of digits
returns-clause-kernel c = search rules

pub returns-clause-list : goal.returns-clause-list
unfolding kernel line_of digits
returns-clause-list c = search rules
