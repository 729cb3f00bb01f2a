use denote.Exit.{no}
use denote.Param.Send.{IsSend, IsSync, view_send, view_sync, param_send, arg_send, param_sync, arg_sync, sendable}
use denote.Param.SendFields.{declared_send, declared_sync}
use Rattle.std.specs.contracts.sync.Arc as arc
use Rattle.std.specs.contracts.alloc.Global as global
use Rattle.std.specs.contracts.impls.GlobalAllocator.TheImpl as allocator
use Rattle.edr_base.specs.contracts.texts.Items as items
use Rattle.covjson_value.specs.contracts.coverages.Parameter as parameter
use Rattle.edr_edition.specs.contracts.collections.CollectionData as collection
use Rattle.edr_edition.specs.contracts.editions.Edition as edition
use Rattle.edr_edition.proofs.laws.editions_cross_threads.Goals as goal

pub crosses_threads-requires-5-send-T : goal.crosses_threads-requires-5-send-T
crosses_threads-requires-5-send-T c = λ κs.
    let stations = c.stations_cross_threads.ensures.sent in
    let head = c.crosses_threads-2.ensures.sent in
    let shared : IsSend (arc.the_row (items.the_row parameter.the_row) global.the_row allocator.ghosts) = record { owned = c.crosses_threads-3.ensures.sent.owned; leaving = λ k d w. tt } in
    let instances = c.crosses_threads-4.ensures.sent in
    param_send 0 _ (arg_send _ no collection.the_row (view_send collection.TheInside.the_row _ _ _ _
    (declared_send collection.TheInside.the_type (
      record { owned = head.owned; leaving = λ k d w. tt },
      (search sendable depth 20, (record { owned = instances.owned; leaving = λ k d w. tt }, (search sendable depth 20, tt))),
    ))))

pub crosses_threads-requires-5-sync-T : goal.crosses_threads-requires-5-sync-T
crosses_threads-requires-5-sync-T c = λ κs.
    let stations = c.stations_cross_threads.ensures.shared in
    let head = c.crosses_threads-2.ensures.shared in
    let shared : IsSync (arc.the_row (items.the_row parameter.the_row) global.the_row allocator.ghosts) = record { shared = c.crosses_threads-3.ensures.shared.shared } in
    let instances = c.crosses_threads-4.ensures.shared in
    param_sync 0 _ (arg_sync _ no collection.the_row (view_sync collection.TheInside.the_row _ _ _ _
    (declared_sync collection.TheInside.the_type (
      record { shared = head.shared },
      (search sendable depth 20, (record { shared = instances.shared }, (search sendable depth 20, tt))),
    ))))

pub crosses_threads-requires-7-send-T : goal.crosses_threads-requires-7-send-T
crosses_threads-requires-7-send-T c = λ κs.
    let collections = c.crosses_threads-6.ensures.sent in
    param_send 0 _ (arg_send _ no edition.the_row (view_send edition.TheInside.the_row _ _ _ _
    (declared_send edition.TheInside.the_type (search sendable, (record { owned = collections.owned; leaving = λ k d w. tt }, tt)))))

pub crosses_threads-requires-7-sync-T : goal.crosses_threads-requires-7-sync-T
crosses_threads-requires-7-sync-T c = λ κs.
    let collections = c.crosses_threads-6.ensures.shared in
    param_sync 0 _ (arg_sync _ no edition.the_row (view_sync edition.TheInside.the_row _ _ _ _
    (declared_sync edition.TheInside.the_type (search sendable, (record { shared = collections.shared }, tt)))))

pub returns-clause-collections_sent : goal.returns-clause-collections_sent
returns-clause-collections_sent c = record { owned = c.crosses_threads-6.ensures.sent.owned; leaving = λ k d w. tt }

pub returns-clause-collections_shared : goal.returns-clause-collections_shared
returns-clause-collections_shared c = record { shared = c.crosses_threads-6.ensures.shared.shared }
