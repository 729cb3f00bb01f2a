use Rattle.std.proofs.Common.{◌≡◌, ◌≢◌, ◌∙◌, [], List, ℕ, subst, ◌<◌, ◌^◌, length}
use Rattle.edr_station.specs.Stations.{StationsValue}
use Rattle.edr_station.specs.Blocks.{blocks}
use Rattle.edr_select.specs.Choices.{parameter_places}
use Rattle.edr_select.specs.Series.{SeriesReplyValue}
use Rattle.edr_plan.specs.StationPlans.{all_series}
use Rattle.edr_plan.proofs.StationReplies.{plan_is, reply_stands}
use Rattle.edr_plan.proofs.station_plans.series_of.Goals as goal

pub invariant_of-result : goal.invariant_of-result
invariant_of-result c =
    let reply : SeriesReplyValue = record { parameters = c.of.result; many = c.is_many.result; series = c.of-2.result } in
    let asked : parameter_places c.args.query.now.parameters c.args.collection.now.parameters ≢ [] =
    subst (λ (places : List ℕ). places ≢ []) c.in_ok-parameters.ensures.places c.in_ok-parameters.ensures.some in
    let all : c.of-2.result ≡ all_series c.args.collection.now c.args.query.now = c.of-2.ensures ∙ c.in_ok-series.ensures.series in
    reply_stands c.args.collection.now c.args.query.now c.requires.collection asked reply (c.of.ensures ∙ c.in_ok-parameters.ensures.places) c.is_many.ensures all
    (λ none. c.in_ok-series.ensures.some (c.in_ok-series.ensures.series ∙ none))

pub returns-clause-planned : goal.returns-clause-planned
returns-clause-planned c =
    let reply : SeriesReplyValue = record { parameters = c.of.result; many = c.is_many.result; series = c.of-2.result } in
    let asked : parameter_places c.args.query.now.parameters c.args.collection.now.parameters ≢ [] =
    subst (λ (places : List ℕ). places ≢ []) c.in_ok-parameters.ensures.places c.in_ok-parameters.ensures.some in
    let all : c.of-2.result ≡ all_series c.args.collection.now c.args.query.now = c.of-2.ensures ∙ c.in_ok-series.ensures.series in
    let counted : blocks (length c.args.collection.now.parameters) c.args.collection.now.stations < 2 ^ 64 =
    subst (λ (s : StationsValue). blocks s.parameters s.stations < 2 ^ 64) c.requires.stations c.are_counted.ensures in
    plan_is c.args.collection.now c.args.query.now c.requires.collection asked reply (c.of.ensures ∙ c.in_ok-parameters.ensures.places) c.is_many.ensures all
    (λ none. c.in_ok-series.ensures.some (c.in_ok-series.ensures.series ∙ none)) (c.in_ok-parameters.ensures.known ∙ c.in_ok-series.ensures.none) counted
