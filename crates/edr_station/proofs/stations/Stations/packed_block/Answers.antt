use Rattle.std.proofs.Common.{◌≡◌, ℕ, ◌-◌, ◌*◌, ◌/◌, ◌%◌, ◌<◌, List, length, sym, ap, ◌∙◌, subst, arith}
use Rattle.std.proofs.Math.Nat.{mul_comm}
use Rattle.std.proofs.lemmas.Nat.{div_below}
use Rattle.edr_station.specs.Stations.{StationValue, StationsValue, nowhere, station_at}
use Rattle.edr_station.specs.Blocks.{blocks, blocks_of, cut_block, series_at, IsBlock}
use Rattle.edr_station.specs.Shelves.{blocks_in}
use Rattle.edr_station.proofs.BlockNumbers.{blocks_scaled, block_stands, at_number, some_parameters}
use Rattle.edr_station.proofs.stations.Stations.packed_block.Goals as goal

below : (view : StationsValue) (parameters number : ℕ) (shelf : List StationValue) → record { parameters = parameters; stations = shelf } ≡ view → number < blocks view.parameters view.stations
    → number < parameters * blocks_in shelf
below view parameters number shelf is h =
    let e = subst (λ (v : StationsValue). number < blocks v.parameters v.stations) (sym is) h in
    omega (arith, e, blocks_scaled parameters shelf)

pub nonzero_div-number : goal.nonzero_div-number
nonzero_div-number c =
    let i = c.self.inside in
    some_parameters i.parameters (blocks_in i.shelf) c.args.number (below c.args.self.now i.parameters c.args.number i.shelf c.self.view_is c.requires)

pub find-place-requires : goal.find-place-requires
find-place-requires c =
    let i = c.self.inside in
    let h = below c.args.self.now i.parameters c.args.number i.shelf c.self.view_is c.requires in
    let some = some_parameters i.parameters (blocks_in i.shelf) c.args.number h in
    div_below c.args.number i.parameters (blocks_in i.shelf) some (omega (arith, h, mul_comm i.parameters (blocks_in i.shelf)))

pub nonzero_div-rest : goal.nonzero_div-rest
nonzero_div-rest c =
    let i = c.self.inside in
    let some = some_parameters i.parameters (blocks_in i.shelf) c.args.number (below c.args.self.now i.parameters c.args.number i.shelf c.self.view_is c.requires) in
    let here : c.blocks-blocks.result ≡ blocks_of (station_at i.shelf c.find-place.result.0) = c.blocks-blocks.ensures ∙ ap blocks_of (c.at-station.ensures nowhere) in
    (at_number i.parameters i.shelf c.args.number c.find-place.result.0 c.find-place.result.1 c.blocks-blocks.result some c.find-place.ensures here).some

pub nonzero_rem-rest : goal.nonzero_rem-rest
nonzero_rem-rest c =
    let i = c.self.inside in
    let some = some_parameters i.parameters (blocks_in i.shelf) c.args.number (below c.args.self.now i.parameters c.args.number i.shelf c.self.view_is c.requires) in
    let here : c.blocks-blocks.result ≡ blocks_of (station_at i.shelf c.find-place.result.0) = c.blocks-blocks.ensures ∙ ap blocks_of (c.at-station.ensures nowhere) in
    (at_number i.parameters i.shelf c.args.number c.find-place.result.0 c.find-place.result.1 c.blocks-blocks.result some c.find-place.ensures here).some

pub block-requires-clause-parameter : goal.block-requires-clause-parameter
block-requires-clause-parameter c =
    let i = c.self.inside in
    let place = c.find-place.result.0 in
    let some = some_parameters i.parameters (blocks_in i.shelf) c.args.number (below c.args.self.now i.parameters c.args.number i.shelf c.self.view_is c.requires) in
    let here : c.blocks-blocks.result ≡ blocks_of (station_at i.shelf place) = c.blocks-blocks.ensures ∙ ap blocks_of (c.at-station.ensures nowhere) in
    let at = at_number i.parameters i.shelf c.args.number place c.find-place.result.1 c.blocks-blocks.result some c.find-place.ensures here in
    let long = ap (λ (s : StationValue). length s.series) (c.at-station.ensures nowhere) in
    omega (arith, at.parameter_in, long, (c.self.invariant.0.stations.each place nowhere c.find-place.ensures.inside).has.many)

pub block-requires-clause-block : goal.block-requires-clause-block
block-requires-clause-block c =
    let i = c.self.inside in
    let place = c.find-place.result.0 in
    let some = some_parameters i.parameters (blocks_in i.shelf) c.args.number (below c.args.self.now i.parameters c.args.number i.shelf c.self.view_is c.requires) in
    let same = ap blocks_of (c.at-station.ensures nowhere) in
    let here : c.blocks-blocks.result ≡ blocks_of (station_at i.shelf place) = c.blocks-blocks.ensures ∙ same in
    let at = at_number i.parameters i.shelf c.args.number place c.find-place.result.1 c.blocks-blocks.result some c.find-place.ensures here in
    omega (arith, at.block_in, same)

pub returns : goal.returns
returns c =
    let i = c.self.inside in
    let place = c.find-place.result.0 in
    let number = c.args.number in
    let some = some_parameters i.parameters (blocks_in i.shelf) number (below c.args.self.now i.parameters number i.shelf c.self.view_is c.requires) in
    let here : c.blocks-blocks.result ≡ blocks_of (station_at i.shelf place) = c.blocks-blocks.ensures ∙ ap blocks_of (c.at-station.ensures nowhere) in
    let at = at_number i.parameters i.shelf number place c.find-place.result.1 c.blocks-blocks.result some c.find-place.ensures here in
    let rest = number - i.parameters * c.find-place.result.1 in
    let parameter = rest / c.blocks-blocks.result in
    let block = rest % c.blocks-blocks.result in
    let cut : c.block.result.now ≡ cut_block block (series_at (station_at i.shelf place) parameter) =
    c.block.ensures ∙ ap (λ (s : StationValue). cut_block block (series_at s parameter)) (c.at-station.ensures nowhere) in
    subst (λ (v : StationsValue). IsBlock v number c.block.result.now) c.self.view_is
    (block_stands (record { parameters = i.parameters; stations = i.shelf }) c.self.invariant.0.stations place parameter block number c.block.result.now
    c.find-place.ensures.inside at.parameter_in at.block_in at.numbered cut)
