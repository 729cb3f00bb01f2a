use Rattle.std.proofs.Common.{◌<◌, length, ap, arith, rules}
use Rattle.std.proofs.lemmas.List.Sums.{sum_by_more}
use Rattle.edr_station.specs.Blocks.{blocks_of}
use Rattle.edr_station.proofs.SharedLists.{at_page}
use Rattle.edr_station.proofs.pages.Page.find.Goals as goal

pub loop-place-preserved : goal.loop-place-preserved
loop-place-preserved c =
    let place = c.loop-place.place in
    let station = c.deref.result.now in
    let inside : place < length c.self.inside.stations.items = search rules in
    let at = at_page c.args.self.now c.self.inside.stations.items place c.index.result.now station c.self.view_is inside c.index.ensures c.deref.ensures in
    let more = sum_by_more blocks_of c.args.self.now place station at.0 in
    let same = ap blocks_of at.1 in
    (omega (arith, c.loop-place.invariant.0, c.blocks-blocks.ensures, more, same), omega (arith, c.loop-place.invariant.1, c.if-number-before.false))
