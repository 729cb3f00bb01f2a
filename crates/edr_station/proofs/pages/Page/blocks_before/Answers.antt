use Rattle.std.proofs.Common.{◌≡◌, ap, ◌∙◌, arith, take}
use Rattle.edr_station.specs.Stations.{StationValue}
use Rattle.edr_station.specs.Shelves.{stations_of, blocks_in}
use Rattle.std.specs.Prelude.{List}
use Rattle.edr_station.proofs.SharedLists.{Shared, part_before, blocks_before-le}
use Rattle.edr_station.proofs.pages.Page.blocks_before.Goals as goal

pub unreachable-requires : goal.unreachable-requires
unreachable-requires c =
    let place = c.args.place in
    let stations = c.args.self.now in
    let part : stations_of (take place c.deref.result.now) ≡ take place stations =
    ap (λ (l : List Shared). stations_of (take place l)) c.deref.ensures.value
    ∙ (part_before c.self.inside.stations.items place ∙ ap (λ (l : List StationValue). take place l) c.self.view_is) in
    c.in-None.ensures (omega (arith, ap blocks_in part, blocks_before-le stations place, c.self.invariant.0, c.self.invariant.1, ap blocks_in c.self.view_is))

pub returns : goal.returns
returns c =
    let place = c.args.place in
    let part : stations_of (take place c.deref.result.now) ≡ take place c.args.self.now =
    ap (λ (l : List Shared). stations_of (take place l)) c.deref.ensures.value
    ∙ (part_before c.self.inside.stations.items place ∙ ap (λ (l : List StationValue). take place l) c.self.view_is) in
    c.in-Some.ensures.1 ∙ ap blocks_in part
