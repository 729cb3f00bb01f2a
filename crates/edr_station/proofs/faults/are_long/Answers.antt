use Rattle.std.proofs.Common.{◌≡◌, List, All, length, take, get_or, refl, sym, ap, ◌∙◌, subst, arith, rules}
use Rattle.std.proofs.lemmas.List.{take_all}
use Rattle.std.proofs.lemmas.List.Elements.{All-more}
use Rattle.edr_station.specs.Stations.{values_along}
use Rattle.edr_station.specs.Inputs.{station_of}
use Rattle.edr_station.proofs.BlockLists.{Values}
use Rattle.edr_station.proofs.faults.are_long.Goals as goal

pub loop-values-preserved : goal.loop-values-preserved
loop-values-preserved c =
    let series : List Values = c.args.series.now in
    let i = c.loop-values.values-index in
    let item : Values = c.values-item.result in
    let count = values_along (station_of c.args.input.now) in
    let long : length c.items.result.now ≡ count = c.is_long.ensures.0 (search rules) in
    let here : length (get_or series i item) ≡ count = ap (λ (l : Values). length l) (sym c.values-item.is ∙ sym c.items.ensures) ∙ long in
    All-more (λ (values : Values). length values ≡ count) series i item c.loop-values-test.true c.loop-values.invariant here

pub returns : goal.returns
returns c =
    let series : List Values = c.args.series.now in
    let count = values_along (station_of c.args.input.now) in
    let all : take c.loop-values.values-index series ≡ series = take_all c.loop-values.values-index series (omega (arith, c.loop-values-test.false)) in
    (λ _. subst (All (λ (values : Values). length values ≡ count)) all c.loop-values.invariant, λ _. refl)
