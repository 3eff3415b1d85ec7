use Rattle.eif_tree.proofs.Crossing.{kind_sync, decl_send, decl_sync, features_send, features_sync, class_send, class_sync}
use denote.Param.Send.{sendable}
use Rattle.eif_tree.proofs.cross.trees_cross.Goals as goal

pub crosses-requires-21-sync-T : goal.crosses-requires-21-sync-T
crosses-requires-21-sync-T c κs = search (kind_sync, sendable)

pub crosses-requires-22-send-T : goal.crosses-requires-22-send-T
crosses-requires-22-send-T c κs = search (decl_send, sendable)

pub crosses-requires-22-sync-T : goal.crosses-requires-22-sync-T
crosses-requires-22-sync-T c κs = search (decl_sync, sendable)

pub crosses-requires-23-send-T : goal.crosses-requires-23-send-T
crosses-requires-23-send-T c κs = search (features_send, sendable)

pub crosses-requires-23-sync-T : goal.crosses-requires-23-sync-T
crosses-requires-23-sync-T c κs = search (features_sync, sendable)

pub crosses-requires-24-send-T : goal.crosses-requires-24-send-T
crosses-requires-24-send-T c κs = search (class_send, sendable)

pub crosses-requires-24-sync-T : goal.crosses-requires-24-sync-T
crosses-requires-24-sync-T c κs = search (class_sync, sendable)
