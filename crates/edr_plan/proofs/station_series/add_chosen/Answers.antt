use Rattle.std.proofs.Common.{◌≡◌, ◌∙◌, ◌<◌, ℕ, List, All, length, true, false, ap, ap₂, rules, sym, subst}
use Rattle.edr_station.specs.Stations.{StationsValue, station_at}
use Rattle.edr_plan.specs.StationPlaces.{choice_by, cells_by, has_some, takes_each}
use Rattle.edr_plan.specs.StationPlans.{cells_of, value_count}
use Rattle.edr_plan.proofs.EachTaken.{none_read, some_read, choice_read, chosen_read, chosen_there, cells_read}
use Rattle.edr_plan.proofs.StationValid.{asked_below}
use Rattle.edr_plan.proofs.StationSteps.{none_more, too_many_with, added}
use Rattle.edr_plan.proofs.station_series.add_chosen.Goals as goal

pub returns-in_default-clause-added : goal.returns-in_default-clause-added
returns-in_default-clause-added c = λ room.
    let same : c.station-station.result.now ≡ station_at c.args.collection.now.stations c.args.place =
    c.station-station.ensures.at ∙ ap (λ (v : StationsValue). station_at v.stations c.args.place) c.requires.stations in
    let none : has_some c.station-station.result.now (takes_each c.args.query.now c.station-station.result.now) ≡ false =
    (let told = c.in_ok-choice.ensures in rw c.in_default.is at told) in (
      none_more c.args.collection.now c.args.query.now c.args.place c.args.gathered.now.series
          (none_read c.args.collection.now c.args.query.now c.requires.of_stations c.args.place c.station-station.result.now same none),
      c.requires.gathered,
    )

pub returns-in_default-room_for-clause-full : goal.returns-in_default-room_for-clause-full
returns-in_default-room_for-clause-full c = λ full.
    let same : c.station-station.result.now ≡ station_at c.args.collection.now.stations c.args.place =
    c.station-station.ensures.at ∙ ap (λ (v : StationsValue). station_at v.stations c.args.place) c.requires.stations in
    let told : (has_some c.station-station.result.now (takes_each c.args.query.now c.station-station.result.now) ≡ true)
    × (c.in-Some.choice ≡ choice_by c.station-station.result.now (takes_each c.args.query.now c.station-station.result.now))
    × (cells_of c.station-station.result.now c.in-Some.choice ≡ cells_by c.station-station.result.now (takes_each c.args.query.now c.station-station.result.now)) =
    (let told = c.in_ok-choice.ensures in rw c.in-Some.is at told) in
    let sizes : value_count (length c.args.parameters.now) c.len-times.result c.len-levels.result
    ≡ value_count (length c.args.parameters.now) (length c.in-Some.choice.times) (length c.in-Some.choice.levels) =
    ap₂ (λ (times levels : ℕ). value_count (length c.args.parameters.now) times levels)
    (search rules) (search rules) in
    too_many_with c.args.collection.now c.args.query.now c.args.place c.args.parameters.now c.requires.parameters
    (some_read c.args.collection.now c.args.query.now c.requires.of_stations c.args.place c.station-station.result.now same told.0 c.in-Some.choice told.1) c.in-Some.choice
    (choice_read c.args.collection.now c.args.query.now c.requires.of_stations c.args.place c.station-station.result.now same told.0 c.in-Some.choice told.1)
    c.args.gathered.now (value_count (length c.args.parameters.now) c.len-times.result c.len-levels.result) c.requires.gathered sizes c.in_default-room_for.ensures

pub cells_at-requires-clause-times : goal.cells_at-requires-clause-times
cells_at-requires-clause-times c =
    let same : c.station-station.result.now ≡ station_at c.args.collection.now.stations c.args.place =
    c.station-station.ensures.at ∙ ap (λ (v : StationsValue). station_at v.stations c.args.place) c.requires.stations in
    let told : (has_some c.station-station.result.now (takes_each c.args.query.now c.station-station.result.now) ≡ true)
    × (c.in-Some.choice ≡ choice_by c.station-station.result.now (takes_each c.args.query.now c.station-station.result.now))
    × (cells_of c.station-station.result.now c.in-Some.choice ≡ cells_by c.station-station.result.now (takes_each c.args.query.now c.station-station.result.now)) =
    (let told = c.in_ok-choice.ensures in rw c.in-Some.is at told) in
    (chosen_read c.args.collection.now c.args.query.now c.requires.of_stations c.args.place c.station-station.result.now same told.0 c.in-Some.choice told.1).times_in

pub cells_at-requires-clause-levels : goal.cells_at-requires-clause-levels
cells_at-requires-clause-levels c =
    let same : c.station-station.result.now ≡ station_at c.args.collection.now.stations c.args.place =
    c.station-station.ensures.at ∙ ap (λ (v : StationsValue). station_at v.stations c.args.place) c.requires.stations in
    let told : (has_some c.station-station.result.now (takes_each c.args.query.now c.station-station.result.now) ≡ true)
    × (c.in-Some.choice ≡ choice_by c.station-station.result.now (takes_each c.args.query.now c.station-station.result.now))
    × (cells_of c.station-station.result.now c.in-Some.choice ≡ cells_by c.station-station.result.now (takes_each c.args.query.now c.station-station.result.now)) =
    (let told = c.in_ok-choice.ensures in rw c.in-Some.is at told) in
    (chosen_read c.args.collection.now c.args.query.now c.requires.of_stations c.args.place c.station-station.result.now same told.0 c.in-Some.choice told.1).levels_in

pub planned_at-requires-clause-parameters : goal.planned_at-requires-clause-parameters
planned_at-requires-clause-parameters c =
    subst (λ (places : List ℕ). All (λ p. p < length c.args.collection.now.parameters) places) (sym c.requires.parameters) (asked_below c.args.collection.now c.args.query.now)

pub planned_at-requires-clause-choice : goal.planned_at-requires-clause-choice
planned_at-requires-clause-choice c =
    let same : c.station-station.result.now ≡ station_at c.args.collection.now.stations c.args.place =
    c.station-station.ensures.at ∙ ap (λ (v : StationsValue). station_at v.stations c.args.place) c.requires.stations in
    let told : (has_some c.station-station.result.now (takes_each c.args.query.now c.station-station.result.now) ≡ true)
    × (c.in-Some.choice ≡ choice_by c.station-station.result.now (takes_each c.args.query.now c.station-station.result.now))
    × (cells_of c.station-station.result.now c.in-Some.choice ≡ cells_by c.station-station.result.now (takes_each c.args.query.now c.station-station.result.now)) =
    (let told = c.in_ok-choice.ensures in rw c.in-Some.is at told) in
    chosen_there c.args.collection.now c.args.query.now c.requires.of_stations c.args.place c.station-station.result.now same told.0 c.in-Some.choice told.1

pub returns-clause-added : goal.returns-clause-added
returns-clause-added c = λ room.
    let same : c.station-station.result.now ≡ station_at c.args.collection.now.stations c.args.place =
    c.station-station.ensures.at ∙ ap (λ (v : StationsValue). station_at v.stations c.args.place) c.requires.stations in
    let told : (has_some c.station-station.result.now (takes_each c.args.query.now c.station-station.result.now) ≡ true)
    × (c.in-Some.choice ≡ choice_by c.station-station.result.now (takes_each c.args.query.now c.station-station.result.now))
    × (cells_of c.station-station.result.now c.in-Some.choice ≡ cells_by c.station-station.result.now (takes_each c.args.query.now c.station-station.result.now)) =
    (let told = c.in_ok-choice.ensures in rw c.in-Some.is at told) in
    let sizes : value_count (length c.args.parameters.now) c.len-times.result c.len-levels.result
    ≡ value_count (length c.args.parameters.now) (length c.in-Some.choice.times) (length c.in-Some.choice.levels) =
    ap₂ (λ (times levels : ℕ). value_count (length c.args.parameters.now) times levels)
    (search rules) (search rules) in
    added c.args.collection.now c.args.query.now c.args.place c.args.parameters.now c.requires.parameters
    (some_read c.args.collection.now c.args.query.now c.requires.of_stations c.args.place c.station-station.result.now same told.0 c.in-Some.choice told.1) c.in-Some.choice
    (choice_read c.args.collection.now c.args.query.now c.requires.of_stations c.args.place c.station-station.result.now same told.0 c.in-Some.choice told.1)
    c.args.gathered.now c.in-Some-room_for.values c.requires.gathered (c.in-Some-room_for.ensures.0 ∙ sizes) c.in_ok-series.series c.in_ok-cells.cells.items c.push.new.self
    c.in-Some-room_for.ensures.2 c.in_ok-series.ensures (c.in_ok-cells.ensures ∙ cells_read c.args.collection.now c.args.query.now c.requires.of_stations c.args.place c.station-station.result.now same told.0 c.in-Some.choice told.1 told.2) c.in_ok-push.ensures
