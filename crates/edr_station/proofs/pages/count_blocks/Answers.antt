use Rattle.std.proofs.Common.{◌≡◌, ◌+◌, ◌<◌, sym, ap, ◌∙◌, subst, arith, take}
use Rattle.std.specs.Prelude.{SomeIff, Option, ℕ}
use Rattle.std.proofs.lemmas.List.{take_all}
use Rattle.edr_station.specs.Blocks.{blocks_of}
use Rattle.edr_station.specs.Shelves.{stations_of, blocks_in}
use Rattle.edr_station.proofs.SharedLists.{shared_long, blocks_more, blocks_before-le}
use Rattle.edr_station.proofs.pages.count_blocks.Goals as goal

pub returns-in_err-blocks : goal.returns-in_err-blocks
returns-in_err-blocks c =
    let shared = c.args.stations.now in
    let i = c.loop-station.station-index in
    let stations = stations_of shared in
    let more = blocks_more shared i c.station-item.result c.loop-station-test.true c.station-item.is in
    let here : c.blocks-in-loop-station.result ≡ blocks_of c.deref.result.now = c.blocks-in-loop-station.ensures in
    let same = ap blocks_of c.deref.ensures in
    subst (λ (r : Option ℕ). SomeIff r (blocks_in stations < 18_446_744_073_709_551_616) (blocks_in stations)) (sym c.from_residual.ensures)
    (λ small. c.in_err-blocks.ensures (omega (arith, small, more, here, same, c.loop-station.invariant.0, blocks_before-le stations (i + 1))))

pub loop-station-preserved : goal.loop-station-preserved
loop-station-preserved c =
    let shared = c.args.stations.now in
    let i = c.loop-station.station-index in
    let more = blocks_more shared i c.station-item.result c.loop-station-test.true c.station-item.is in
    let here : c.blocks-in-loop-station.result ≡ blocks_of c.deref.result.now = c.blocks-in-loop-station.ensures in
    let same = ap blocks_of c.deref.ensures in
    (omega (arith, c.in_ok-blocks.ensures.1, more, here, same, c.loop-station.invariant.0), omega (arith, c.in_ok-blocks.ensures.0, c.in_ok-blocks.ensures.1))

pub returns : goal.returns
returns c =
    let stations = stations_of c.args.stations.now in
    let all : take c.loop-station.station-index stations ≡ stations =
    take_all c.loop-station.station-index stations (omega (arith, shared_long c.args.stations.now, c.loop-station-test.false)) in
    let is : c.loop-station.blocks ≡ blocks_in stations = c.loop-station.invariant.0 ∙ ap blocks_in all in
    (omega (arith, is, c.loop-station.invariant.1), is)
