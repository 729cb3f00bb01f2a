use denote.Exit.{no}
use denote.Param.Send.{view_send, view_sync, param_send, arg_send, param_sync, arg_sync, sendable}
use denote.Param.SendFields.{declared_send, declared_sync}
use Rattle.edr_draft.specs.contracts.drafts.Draft as draft
use Rattle.edr_draft.proofs.laws.drafts_cross_threads.Goals as goal

pub crosses_threads-requires-send-T : goal.crosses_threads-requires-send-T
crosses_threads-requires-send-T c = λ κs.
    param_send 0 _ (arg_send _ no draft.the_row (view_send draft.TheInside.the_row _ _ _ _
    (declared_send draft.TheInside.the_type (search sendable depth 20, (c.editions_cross_threads.ensures.collections_sent, tt)))))

pub crosses_threads-requires-sync-T : goal.crosses_threads-requires-sync-T
crosses_threads-requires-sync-T c = λ κs.
    param_sync 0 _ (arg_sync _ no draft.the_row (view_sync draft.TheInside.the_row _ _ _ _
    (declared_sync draft.TheInside.the_type (search sendable depth 20, (c.editions_cross_threads.ensures.collections_shared, tt)))))
