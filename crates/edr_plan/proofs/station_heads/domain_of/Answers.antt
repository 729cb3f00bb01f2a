use Rattle.std.proofs.Common.{◌∙◌, ap}
use Rattle.edr_plan.specs.StationPlaces.{ChoiceValue}
use Rattle.edr_plan.proofs.ChosenPlaces.{times_inside, times_axis, levels_inside, levels_axis}
use Rattle.edr_plan.proofs.station_heads.domain_of.Goals as goal

pub values_at-requires : goal.values_at-requires
values_at-requires c =
    times_inside c.args.station.now c.args.choice.now c.requires c.times.result.now c.deref.result.now c.times.ensures
    (c.deref.ensures.value ∙ ap (λ (choice : ChoiceValue). choice.times) c.choice.view_is)

pub domain_at-requires-clause-times : goal.domain_at-requires-clause-times
domain_at-requires-clause-times c =
    times_axis c.args.station.now c.args.choice.now c.requires c.times.result.now c.deref.result.now c.times.ensures
    (c.deref.ensures.value ∙ ap (λ (choice : ChoiceValue). choice.times) c.choice.view_is)
    c.station_stands.ensures c.deref-in-None.result.now (c.deref-in-None.ensures.value ∙ c.in_ok-times.ensures)

pub values_at-requires-in-Some : goal.values_at-requires-in-Some
values_at-requires-in-Some c =
    levels_inside c.args.station.now c.args.choice.now c.requires c.in-Some.axis.now c.deref-in-Some.result.now c.in-Some.ensures
    (c.deref-in-Some.ensures.value ∙ ap (λ (choice : ChoiceValue). choice.levels) c.choice.view_is)

pub domain_at-requires-in-Some-clause-times : goal.domain_at-requires-in-Some-clause-times
domain_at-requires-in-Some-clause-times c =
    times_axis c.args.station.now c.args.choice.now c.requires c.times.result.now c.deref.result.now c.times.ensures
    (c.deref.ensures.value ∙ ap (λ (choice : ChoiceValue). choice.times) c.choice.view_is)
    c.station_stands.ensures c.deref-in-Some-2.result.now (c.deref-in-Some-2.ensures.value ∙ c.in_ok-times.ensures)

pub domain_at-requires-in-Some-clause-levels : goal.domain_at-requires-in-Some-clause-levels
domain_at-requires-in-Some-clause-levels c =
    levels_axis c.args.station.now c.args.choice.now c.requires c.in-Some.axis.now c.deref-in-Some.result.now c.in-Some.ensures
    (c.deref-in-Some.ensures.value ∙ ap (λ (choice : ChoiceValue). choice.levels) c.choice.view_is)
    c.station_stands.ensures c.deref-in-Some-3.result.now (c.deref-in-Some-3.ensures.value ∙ c.in_ok-levels-in-Some.ensures)
