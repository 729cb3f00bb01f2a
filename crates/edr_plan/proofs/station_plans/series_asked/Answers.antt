use Rattle.std.proofs.Common.{◌≡◌, ◌≢◌, sym, ◌∙◌, refl, length, subst, ℕ, List, []}
use Rattle.std.proofs.lemmas.Bool.{false≢true}
use Rattle.std.specs.List.{flat_map}
use Rattle.edr_select.specs.Choices.{parameter_places}
use Rattle.edr_plan.specs.StationPlaces.{HasAll, is_taken}
use Rattle.edr_plan.specs.StationPlans.{series_where_taken, IsTooMany, IsFew}
use Rattle.edr_plan.proofs.FoundStations.{found_are_all}
use Rattle.edr_plan.proofs.StationReplies.{none_found, too_many, few_enough}
use Rattle.edr_plan.proofs.station_plans.series_asked.Goals as goal

pub returns-in_default-clause-refused : goal.returns-in_default-clause-refused
returns-in_default-clause-refused c =
    let asked : parameter_places c.args.query.now.parameters c.args.collection.now.parameters ≢ [] = subst (λ (places : List ℕ). places ≢ []) c.requires.parameters c.requires.some in
    let found : HasAll c.args.collection.now.stations (is_taken c.args.collection.now c.args.query.now) c.deref.result.now =
    subst (HasAll c.args.collection.now.stations (is_taken c.args.collection.now c.args.query.now)) (sym c.deref.ensures.value) c.in_ok-places.ensures in
    let many : IsTooMany (length c.args.parameters.now) (flat_map (series_where_taken c.args.collection.now c.args.query.now) c.deref.result.now) =
    (let told = c.in_ok-series.ensures in rw c.in_default.is at told) in
    too_many c.args.collection.now c.args.query.now c.requires.collection asked c.deref.result.now found c.args.parameters.now c.requires.parameters many

pub returns-then-is_bare-clause-refused : goal.returns-then-is_bare-clause-refused
returns-then-is_bare-clause-refused c =
    let asked : parameter_places c.args.query.now.parameters c.args.collection.now.parameters ≢ [] = subst (λ (places : List ℕ). places ≢ []) c.requires.parameters c.requires.some in
    let found : HasAll c.args.collection.now.stations (is_taken c.args.collection.now c.args.query.now) c.deref.result.now =
    subst (HasAll c.args.collection.now.stations (is_taken c.args.collection.now c.args.query.now)) (sym c.deref.ensures.value) c.in_ok-places.ensures in
    let told : (c.in-Some.series.items ≡ flat_map (series_where_taken c.args.collection.now c.args.query.now) c.deref.result.now)
    × IsFew (length c.args.parameters.now) (flat_map (series_where_taken c.args.collection.now c.args.query.now) c.deref.result.now) =
    (let told = c.in_ok-series.ensures in rw c.in-Some.is at told) in
    none_found c.args.collection.now c.args.query.now c.requires.collection asked c.deref.result.now found
    (sym told.0 ∙ (sym c.deref-2.ensures.value ∙ c.if-is_bare.ensures.0 refl))

pub returns-clause-series : goal.returns-clause-series
returns-clause-series c =
    let found : HasAll c.args.collection.now.stations (is_taken c.args.collection.now c.args.query.now) c.deref.result.now =
    subst (HasAll c.args.collection.now.stations (is_taken c.args.collection.now c.args.query.now)) (sym c.deref.ensures.value) c.in_ok-places.ensures in
    let told : (c.in-Some.series.items ≡ flat_map (series_where_taken c.args.collection.now c.args.query.now) c.deref.result.now)
    × IsFew (length c.args.parameters.now) (flat_map (series_where_taken c.args.collection.now c.args.query.now) c.deref.result.now) =
    (let told = c.in_ok-series.ensures in rw c.in-Some.is at told) in
    told.0 ∙ found_are_all c.args.collection.now c.args.query.now c.deref.result.now found

pub returns-clause-none : goal.returns-clause-none
returns-clause-none c =
    let asked : parameter_places c.args.query.now.parameters c.args.collection.now.parameters ≢ [] = subst (λ (places : List ℕ). places ≢ []) c.requires.parameters c.requires.some in
    let found : HasAll c.args.collection.now.stations (is_taken c.args.collection.now c.args.query.now) c.deref.result.now =
    subst (HasAll c.args.collection.now.stations (is_taken c.args.collection.now c.args.query.now)) (sym c.deref.ensures.value) c.in_ok-places.ensures in
    let told : (c.in-Some.series.items ≡ flat_map (series_where_taken c.args.collection.now c.args.query.now) c.deref.result.now)
    × IsFew (length c.args.parameters.now) (flat_map (series_where_taken c.args.collection.now c.args.query.now) c.deref.result.now) =
    (let told = c.in_ok-series.ensures in rw c.in-Some.is at told) in
    few_enough c.args.collection.now c.args.query.now c.requires.collection asked c.deref.result.now found c.args.parameters.now c.requires.parameters
    (λ none. false≢true (c.if-is_bare.ensures.1 (c.deref-2.ensures.value ∙ (told.0 ∙ none)))) told.1
