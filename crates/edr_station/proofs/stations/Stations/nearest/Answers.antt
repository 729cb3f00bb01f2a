use Rattle.std.proofs.Common.{◌≡◌, [], Bor, Contains, Option, Some, None, MatchOption, option_map, sym, subst}
use Rattle.edr_ids.specs.Ids.{AscendBy}
use Rattle.edr_near.specs.Near.{Nearest, distance_of}
use Rattle.edr_near.specs.Cells.{Has, distances}
use Rattle.edr_near.specs.Looks.{AreLooks}
use Rattle.edr_station.specs.Stations.{StationValue, StationsValue, station_id, station_spot}
use Rattle.edr_station.specs.Nearest.{HaveThese, AreLookedAt}
use Rattle.edr_station.proofs.CellsOf.{nearest_of, looked_of, own_place}
use Rattle.edr_station.proofs.stations.Stations.nearest.Goals as goal

abbrev values : Option (Bor StationValue) → Option StationValue
values found = option_map (λ (b : Bor StationValue). b.now) found

pub returns-in-Some-clause-nearest : goal.returns-in-Some-clause-nearest
returns-in-Some-clause-nearest c =
    let i = c.self.inside in
    let spot = c.args.spot in
    let stations = c.args.self.now.stations in
    let s = c.in-Some.station.now in
    let have : HaveThese i.cells stations = subst (λ (v : StationsValue). HaveThese i.cells v.stations) c.self.view_is c.self.invariant.1 in
    let up : AscendBy station_id stations = subst (λ (v : StationsValue). AscendBy station_id v.stations) c.self.view_is c.self.invariant.0.stations.ascending in
    let near : Nearest station_id station_spot spot (Has i.cells) (Some s) =
    subst (λ o. Nearest station_id station_spot spot (Has i.cells) (values o)) c.in-Some.is c.in_ok-station.ensures.nearest in
    let own = nearest_of spot i.cells stations have (Some s) near in
    let found = own_place c.items_are_by_id.ensures stations c.id.result.now s c.by_id.result up own.one c.id.ensures.id c.by_id.ensures.found in
    subst (λ o. Nearest station_id station_spot spot (Contains stations) o) (sym found) own

pub returns-in-Some-clause-looks : goal.returns-in-Some-clause-looks
returns-in-Some-clause-looks c =
    let i = c.self.inside in
    let spot = c.args.spot in
    let stations = c.args.self.now.stations in
    let s = c.in-Some.station.now in
    let numbers = c.nearest.new.looks in
    let have : HaveThese i.cells stations = subst (λ (v : StationsValue). HaveThese i.cells v.stations) c.self.view_is c.self.invariant.1 in
    let up : AscendBy station_id stations = subst (λ (v : StationsValue). AscendBy station_id v.stations) c.self.view_is c.self.invariant.0.stations.ascending in
    let near : Nearest station_id station_spot spot (Has i.cells) (Some s) =
    subst (λ o. Nearest station_id station_spot spot (Has i.cells) (values o)) c.in-Some.is c.in_ok-station.ensures.nearest in
    let own = nearest_of spot i.cells stations have (Some s) near in
    let found = own_place c.items_are_by_id.ensures stations c.id.result.now s c.by_id.result up own.one c.id.ensures.id c.by_id.ensures.found in
    let looked = subst (λ o. MatchOption o (numbers ≡ []) (λ (b : Bor StationValue). AreLooks (distances spot i.cells) (distance_of station_id station_spot spot b.now) numbers)) c.in-Some.is c.in_ok-station.ensures.looks in
    subst (λ o. AreLookedAt spot stations o numbers) (sym found) (looked_of spot i.cells stations have (Some s) numbers c.in_ok-station.ensures.cells looked)

pub returns-in-None-clause-nearest : goal.returns-in-None-clause-nearest
returns-in-None-clause-nearest c =
    let i = c.self.inside in
    let spot = c.args.spot in
    let stations = c.args.self.now.stations in
    let have : HaveThese i.cells stations = subst (λ (v : StationsValue). HaveThese i.cells v.stations) c.self.view_is c.self.invariant.1 in
    nearest_of spot i.cells stations have None
    (subst (λ o. Nearest station_id station_spot spot (Has i.cells) (values o)) c.in-None.is c.in_ok-station.ensures.nearest)

pub returns-in-None-clause-looks : goal.returns-in-None-clause-looks
returns-in-None-clause-looks c =
    let i = c.self.inside in
    let spot = c.args.spot in
    let stations = c.args.self.now.stations in
    let numbers = c.nearest.new.looks in
    let have : HaveThese i.cells stations = subst (λ (v : StationsValue). HaveThese i.cells v.stations) c.self.view_is c.self.invariant.1 in
    looked_of spot i.cells stations have None numbers c.in_ok-station.ensures.cells
    (subst (λ o. MatchOption o (numbers ≡ []) (λ (b : Bor StationValue). AreLooks (distances spot i.cells) (distance_of station_id station_spot spot b.now) numbers)) c.in-None.is c.in_ok-station.ensures.looks)
