use Rattle.std.proofs.Common.{◌≡◌, ◌∙◌, ◌<◌, ◌≤◌, ℕ, List, All, length, ap, ap₂, subst, sym, rules}
use Rattle.edr_lines.specs.Taken.{counts_of, NoneTaken, AreSidesOf}
use Rattle.edr_lines.specs.Corridors.{takes}
use Rattle.edr_select.specs.Limits.{value_limit}
use Rattle.edr_select.specs.LevelLaws.{some_length}
use Rattle.edr_select.specs.Stacks.{SidesValue}
use Rattle.edr_station.specs.Stations.{StationValue, station_at}
use Rattle.edr_plan.specs.CorridorPlans.{choice_in, cells_in}
use Rattle.edr_plan.specs.StationPlans.{series_with, value_count}
use Rattle.edr_plan.proofs.StationValid.{asked_below}
use Rattle.edr_plan.proofs.StationSides.{none_at, some_at, choice_at, small_at, chosen_at, full_at, cells_at, levels_at}
use Rattle.edr_plan.proofs.StationSteps.{none_more, too_many_with, added}
use Rattle.edr_plan.proofs.station_series.add_along.Goals as goal

pub returns-in_default-clause-added : goal.returns-in_default-clause-added
returns-in_default-clause-added c = λ room.
    let station : StationValue = station_at c.args.collection.now.stations c.args.place in
    let none : NoneTaken (counts_of c.args.axes.now) (takes c.in_ok-corridor.corridor c.args.axes.now) = (let told = c.in_ok-sides.ensures in rw c.in_default.is at told) in (
      none_more c.args.collection.now c.args.query.now c.args.place c.args.gathered.now.series
          (none_at c.corridors_are_cut.ensures c.args.collection.now c.args.query.now c.args.line.now c.requires.line c.args.place c.args.axes.now c.requires.axes c.in_ok-corridor.corridor c.in_ok-corridor.ensures none),
      c.requires.gathered,
    )

pub sides_taken-requires-clause-levels : goal.sides_taken-requires-clause-levels
sides_taken-requires-clause-levels c =
    levels_at c.corridors_are_cut.ensures c.args.collection.now c.args.query.now c.args.line.now c.requires.line c.args.place c.args.axes.now c.requires.axes c.in_ok-corridor.corridor c.in_ok-corridor.ensures
    c.requires.levels c.requires.place

pub stack_with-requires-clause-levels : goal.stack_with-requires-clause-levels
stack_with-requires-clause-levels c =
    levels_at c.corridors_are_cut.ensures c.args.collection.now c.args.query.now c.args.line.now c.requires.line c.args.place c.args.axes.now c.requires.axes c.in_ok-corridor.corridor c.in_ok-corridor.ensures
    c.requires.levels c.requires.place

pub add_stack-requires-clause-parameters : goal.add_stack-requires-clause-parameters
add_stack-requires-clause-parameters c =
    subst (λ (places : List ℕ). All (λ p. p < length c.args.collection.now.parameters) places) (sym c.requires.parameters) (asked_below c.args.collection.now c.args.query.now)

pub returns-in_default-room_for-clause-full : goal.returns-in_default-room_for-clause-full
returns-in_default-room_for-clause-full c = λ full.
    let station : StationValue = station_at c.args.collection.now.stations c.args.place in
    let are : AreSidesOf (counts_of c.args.axes.now) (takes c.in_ok-corridor.corridor c.args.axes.now) c.in-Some.sides =
    (let told = c.in_ok-sides.ensures in rw c.in-Some.is at told) in
    let sizes : value_count (length c.args.parameters.now) (length c.items-times.result.now) (length c.items-levels.result.now)
    ≡ value_count (length c.args.parameters.now) (length c.in-Some.sides.times) (length c.in-Some.sides.levels) =
    ap₂ (λ (times levels : List ℕ). value_count (length c.args.parameters.now) (length times) (length levels)) (search rules) (search rules) in
    too_many_with c.args.collection.now c.args.query.now c.args.place c.args.parameters.now c.requires.parameters
    (some_at c.corridors_are_cut.ensures c.args.collection.now c.args.query.now c.args.line.now c.requires.line c.args.place c.args.axes.now c.requires.axes c.in_ok-corridor.corridor c.in_ok-corridor.ensures c.in-Some.sides are) (choice_in c.in-Some.sides)
    (choice_at c.corridors_are_cut.ensures c.args.collection.now c.args.query.now c.args.line.now c.requires.line c.args.place c.args.axes.now c.requires.axes c.in_ok-corridor.corridor c.in_ok-corridor.ensures c.in-Some.sides are)
    c.args.gathered.now (value_count (length c.args.parameters.now) (length c.items-times.result.now) (length c.items-levels.result.now)) c.requires.gathered sizes c.in_default-room_for.ensures

pub stack_with-requires-clause-small : goal.stack_with-requires-clause-small
stack_with-requires-clause-small c =
    let station : StationValue = station_at c.args.collection.now.stations c.args.place in
    let are : AreSidesOf (counts_of c.args.axes.now) (takes c.in_ok-corridor.corridor c.args.axes.now) c.in-Some.sides =
    (let told = c.in_ok-sides.ensures in rw c.in-Some.is at told) in
    let sizes : value_count (length c.args.parameters.now) (length c.items-times.result.now) (length c.items-levels.result.now)
    ≡ value_count (length c.args.parameters.now) (length c.in-Some.sides.times) (length c.in-Some.sides.levels) =
    ap₂ (λ (times levels : List ℕ). value_count (length c.args.parameters.now) (length times) (length levels)) (search rules) (search rules) in
    small_at c.corridors_are_cut.ensures c.args.collection.now c.args.query.now c.args.line.now c.requires.line c.args.place c.args.axes.now c.requires.axes c.in_ok-corridor.corridor c.in_ok-corridor.ensures c.in-Some.sides are
    (length c.args.parameters.now) (some_length c.args.parameters.now c.requires.some)
    (subst (λ (n : ℕ). n ≤ value_limit) (c.in-Some-room_for.ensures.0 ∙ sizes) c.in-Some-room_for.ensures.1)

pub add_stack-requires-clause-choice : goal.add_stack-requires-clause-choice
add_stack-requires-clause-choice c =
    let station : StationValue = station_at c.args.collection.now.stations c.args.place in
    let are : AreSidesOf (counts_of c.args.axes.now) (takes c.in_ok-corridor.corridor c.args.axes.now) c.in-Some.sides =
    (let told = c.in_ok-sides.ensures in rw c.in-Some.is at told) in
    chosen_at c.corridors_are_cut.ensures c.args.collection.now c.args.query.now c.args.line.now c.requires.line c.args.place c.args.axes.now c.requires.axes c.in_ok-corridor.corridor c.in_ok-corridor.ensures c.in-Some.sides are
    c.in_ok-stack.stack c.in_ok-stack.ensures.sides

pub add_stack-requires-clause-full : goal.add_stack-requires-clause-full
add_stack-requires-clause-full c =
    let station : StationValue = station_at c.args.collection.now.stations c.args.place in
    let are : AreSidesOf (counts_of c.args.axes.now) (takes c.in_ok-corridor.corridor c.args.axes.now) c.in-Some.sides =
    (let told = c.in_ok-sides.ensures in rw c.in-Some.is at told) in
    full_at c.corridors_are_cut.ensures c.args.collection.now c.args.query.now c.args.line.now c.requires.line c.args.place c.args.axes.now c.requires.axes c.in_ok-corridor.corridor c.in_ok-corridor.ensures c.in-Some.sides are
    c.in_ok-stack.stack c.in_ok-stack.ensures.sides c.in_ok-stack.ensures.bits

pub returns-clause-added : goal.returns-clause-added
returns-clause-added c = λ room.
    let station : StationValue = station_at c.args.collection.now.stations c.args.place in
    let are : AreSidesOf (counts_of c.args.axes.now) (takes c.in_ok-corridor.corridor c.args.axes.now) c.in-Some.sides =
    (let told = c.in_ok-sides.ensures in rw c.in-Some.is at told) in
    let sizes : value_count (length c.args.parameters.now) (length c.items-times.result.now) (length c.items-levels.result.now)
    ≡ value_count (length c.args.parameters.now) (length c.in-Some.sides.times) (length c.in-Some.sides.levels) =
    ap₂ (λ (times levels : List ℕ). value_count (length c.args.parameters.now) (length times) (length levels)) (search rules) (search rules) in
    added c.args.collection.now c.args.query.now c.args.place c.args.parameters.now c.requires.parameters
    (some_at c.corridors_are_cut.ensures c.args.collection.now c.args.query.now c.args.line.now c.requires.line c.args.place c.args.axes.now c.requires.axes c.in_ok-corridor.corridor c.in_ok-corridor.ensures c.in-Some.sides are) (choice_in c.in-Some.sides)
    (choice_at c.corridors_are_cut.ensures c.args.collection.now c.args.query.now c.args.line.now c.requires.line c.args.place c.args.axes.now c.requires.axes c.in_ok-corridor.corridor c.in_ok-corridor.ensures c.in-Some.sides are)
    c.args.gathered.now c.in-Some-room_for.values c.requires.gathered (c.in-Some-room_for.ensures.0 ∙ sizes)
    (series_with c.args.collection.now c.args.parameters.now c.args.place (choice_in c.in_ok-stack.stack.sides) (cells_in station c.in_ok-stack.stack)) (cells_in station c.in_ok-stack.stack)
    c.add_stack.new.gathered c.in-Some-room_for.ensures.2
    (ap (λ (sides : SidesValue). series_with c.args.collection.now c.args.parameters.now c.args.place (choice_in sides) (cells_in station c.in_ok-stack.stack)) c.in_ok-stack.ensures.sides)
    (cells_at c.corridors_are_cut.ensures c.args.collection.now c.args.query.now c.args.line.now c.requires.line c.args.place c.args.axes.now c.requires.axes c.in_ok-corridor.corridor c.in_ok-corridor.ensures c.in-Some.sides are
    c.in_ok-stack.stack c.in_ok-stack.ensures.sides c.in_ok-stack.ensures.bits) c.in_ok-add_stack.ensures
