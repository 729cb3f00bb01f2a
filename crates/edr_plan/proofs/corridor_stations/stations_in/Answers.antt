use Rattle.std.proofs.Common.{◌≡◌, rules, subst, to_z, of_z, w64, List, All, ℤ, ◌+ℤ◌, ◌≤ℤ◌}
use Rattle.edr_base.specs.declared.places.Position.{Position}
use Rattle.edr_plan.specs.CorridorPlans.{IsNearBox, is_near}
use Rattle.edr_plan.proofs.FoundStations.{box_has}
use Rattle.edr_plan.proofs.NearStations.{near_in}
use Rattle.edr_plan.proofs.corridor_stations.stations_in.Goals as goal

pub returns : goal.returns
returns c =
    let width : to_z w64 (of_z w64 c.args.width) ≡ c.args.width = search rules in
    let distance : to_z w64 (of_z w64 c.beyond_half.result) ≡ c.beyond_half.result = search rules in
    box_has c.box_about.result.0 c.box_about.result.1 c.args.stations.now.stations (is_near c.args.geometry.now c.args.width c.args.stations.now.stations)
    (near_in c.near_places_are_within.ensures c.args.geometry.now c.args.width c.beyond_half.result c.box_about.result.0 c.box_about.result.1 c.requires.width.least
    (subst (λ (w : ℤ). w ≤ℤ (c.beyond_half.result +ℤ c.beyond_half.result)) width c.beyond_half.ensures.half)
    (subst (λ (line : List Position). All (IsNearBox c.box_about.result.0 c.box_about.result.1 c.beyond_half.result) line) c.positions_of.ensures
    (subst (λ (d : ℤ). All (IsNearBox c.box_about.result.0 c.box_about.result.1 d) c.positions_of.result.now) distance c.box_about.ensures))
    c.args.stations.now.stations) _ c.in_ok-places.ensures
