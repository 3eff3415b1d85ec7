-- What a piece of texts is read as may be sent to another thread, and a universe with its tables and types be shared.
use denote.Param.Send.{IsSend, IsSync, sendable}
use Rattle.std.proofs.Crossing.{crosses}
use Rattle.eif_base.proofs.fault.FaultList.TheSendSync as FaultList
use Rattle.eif_tables.specs.contracts.tables.Tables as Tables
use Rattle.eif_tree.proofs.Crossing.{class_send, class_sync}
use Rattle.eif_type_forms.proofs.ty.Ty.TheLaws.TheKnot as types
use Rattle.eif_type_forms.specs.contracts.ty.Ty as Ty
use Rattle.eif_types.specs.contracts.types.Types as Types
use Rattle.eif_universe.specs.contracts.universe.Universe as Universe
use Rattle.eif_check.specs.contracts.texts.Parsed as Parsed

pub parsed_send : IsSend Parsed.the_row
parsed_send = search (class_send, FaultList.the_send, crosses, sendable) depth 60 fits 20000

pub universe_sync : IsSync Universe.the_row
universe_sync = search (class_sync, crosses, sendable) depth 60 fits 20000

pub tables_sync : IsSync Tables.the_row
tables_sync = search (crosses, sendable) depth 60 fits 20000

pub type_sync : IsSync Ty.the_row
type_sync = search (types.crosses, crosses, sendable) depth 60 fits 20000

pub types_sync : IsSync Types.the_row
types_sync = search (type_sync, crosses, sendable) depth 60 fits 20000
