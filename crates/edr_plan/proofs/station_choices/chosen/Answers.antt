use Rattle.std.proofs.Common.{◌∙◌, ap, sym}
use Rattle.edr_query.specs.Values.{QueryValue}
use Rattle.edr_plan.specs.StationPlaces.{takes_station}
use Rattle.edr_plan.specs.StationPlans.{are_some, cells_of}
use Rattle.edr_plan.proofs.EachTaken.{none_of_station, none_chosen, some_chosen, chosen_is, chosen_cells}
use Rattle.edr_plan.proofs.station_choices.chosen.Goals as goal

pub returns-then-not-takes_station : goal.returns-then-not-takes_station
returns-then-not-takes_station c =
    none_of_station c.args.query.now c.args.station.now
    (sym (ap (λ (q : QueryValue). takes_station q.shape c.args.station.now) c.query.view_is) ∙ sym c.if-not-takes_station.ensures)

pub returns-then-not-is_some : goal.returns-then-not-is_some
returns-then-not-is_some c = none_chosen c.args.query.now c.args.station.now (ap are_some (sym c.in_ok-choice.ensures) ∙ sym c.if-not-is_some.ensures)

pub returns : goal.returns
returns c =
    let q = c.args.query.now in let s = c.args.station.now in
    let takes = sym (ap (λ (q : QueryValue). takes_station q.shape c.args.station.now) c.query.view_is) ∙ sym c.if-not-takes_station.ensures in
    let some = ap are_some (sym c.in_ok-choice.ensures) ∙ sym c.if-not-is_some.ensures in (
      some_chosen q s takes some,
      c.in_ok-choice.ensures ∙ chosen_is q s takes some,
      ap (cells_of s) c.in_ok-choice.ensures ∙ chosen_cells q s takes some,
    )
