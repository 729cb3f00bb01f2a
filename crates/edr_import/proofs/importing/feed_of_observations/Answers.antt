use Rattle.std.proofs.Common.{sym, subst}
use Rattle.std.proofs.lemmas.Result.{err_from_is_err_and}
use Rattle.std.specs.List.Sorted.{IsPermutation}
use Rattle.edr_import.specs.Stations.{AreGood}
use Rattle.edr_import.proofs.FeedLemmas.{fault_moved, feed_done, sorted_good}
use Rattle.edr_import.proofs.importing.feed_of_observations.Goals as goal

pub stations_within-requires-clause-good : goal.stations_within-requires-clause-good
stations_within-requires-clause-good c =
    subst AreGood (sym c.deref.ensures.value) (sorted_good c.args.observations.items c.sorted-sorted.result.items c.sorted-sorted.ensures.same c.requires)

pub returns-in_err-stations : goal.returns-in_err-stations
returns-in_err-stations c =
    let p = err_from_is_err_and c.from_residual.result c.from_residual.ensures.1 in
    let same = subst (IsPermutation c.args.observations.items) (sym c.deref.ensures.value) c.sorted-sorted.ensures.same in
    rw (p.1, p.2) (fault_moved c.args.observations.items c.deref.result.now same c.in_err-stations.field-0.0 c.in_err-stations.ensures)

pub returns : goal.returns
returns c =
    let same = subst (IsPermutation c.args.observations.items) (sym c.deref.ensures.value) c.sorted-sorted.ensures.same in
    feed_done c.args.observations.items c.deref.result.now same c.in_ok-stations.stations.items c.deref-2.result.now c.in_ok-feed_of.field-0.items
    c.in_ok-stations.ensures.0 c.in_ok-feed_of.ensures c.deref-2.ensures.value
