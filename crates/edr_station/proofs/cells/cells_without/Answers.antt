use Rattle.std.proofs.Common.{◌≡◌, false, sym, ap, ◌∙◌, subst}
use Rattle.std.specs.Prelude.{◌↔◌}
use Rattle.edr_ids.specs.Ids.{without_id}
use Rattle.edr_near.specs.Near.{is_it}
use Rattle.edr_near.specs.Cells.{Has}
use Rattle.edr_station.specs.Stations.{StationValue, station_id, station_spot, station_at, nowhere}
use Rattle.edr_station.proofs.CellsOf.{left_has, left_these}
use Rattle.edr_station.proofs.cells.cells_without.Goals as goal

pub returns : goal.returns
returns c =
    let stations = c.args.shelf.now in
    let cells = c.args.cells.now in
    let gone = c.at-station.result.now in
    let id = (station_at stations c.args.place).id in
    let own = ap (λ (s : StationValue). s.id) (c.at-station.ensures nowhere) in
    left_these cells c.take_out.new.self stations (without_id station_id id stations) (is_it station_id station_spot (station_spot gone) id) c.requires.have
    (λ v. subst (λ i. Has c.take_out.new.self v ↔ (Has cells v × (is_it station_id station_spot (station_spot gone) i v ≡ false))) (c.id.ensures.id ∙ own)
    (subst (λ p. Has c.take_out.new.self v ↔ (Has cells v × (is_it station_id station_spot p c.id.result.now v ≡ false))) c.spot.ensures.place
    (subst (λ l. Has c.take_out.new.self v ↔ (Has l v × (is_it station_id station_spot c.spot.result c.id.result.now v ≡ false))) c.in_ok-left.ensures
    (c.in_ok-take_out.ensures.others v))))
    (left_has c.items_are_by_id.ensures stations c.requires.ascending id gone (c.args.place, c.requires.inside, sym (c.at-station.ensures gone)) own)
