use Rattle.std.proofs.Common.{◌≡◌, ◌∙◌, sym, ap, ap₂, subst, arith, length, not, eqb, true, false, List, ℕ}
use Rattle.covjson_value.specs.declared.coverages.Referencing.{Referencing}
use Rattle.edr_chunk.specs.Grids as chunk
use Rattle.edr_select.specs.Choices.{parameter_places}
use Rattle.edr_select.specs.Listings.{PlannedValue}
use Rattle.edr_lines.specs.Routes.{RouteValue, HasTurns, LiesOn, route_at, planned_turns}
use Rattle.edr_lines.proofs.LineGrids.{few_along}
use Rattle.edr_lines.proofs.RouteLists.{lies_on}
use Rattle.edr_lines.proofs.TrajectoryPlans.{no_turns, has_turns, tested, is_one, one_is, asked_below, refused_none, refused_large_one, is_listing, is_plan}
use Rattle.edr_lines.proofs.trajectory_plans.listing_of.Goals.{After-of-2}
use Rattle.edr_lines.proofs.trajectory_plans.listing_of.Goals as goal

pub route_of-requires-clause-few : goal.route_of-requires-clause-few
route_of-requires-clause-few c = few_along c.args.instance.now c.requires.asked.grid

pub returns-then-not-is_some-clause-refused : goal.returns-then-not-is_some-clause-refused
returns-then-not-is_some-clause-refused c =
    c.in_ok-parameters.ensures.known
    ∙ refused_none c.args.collection.now c.args.query.now c.args.instance.now c.args.geometry.now c.requires.asked c.requires.shape c.in_ok-parameters.ensures.levels
    (no_turns c.is_some.result c.in_ok-route.route (route_at c.args.instance.now c.args.query.now c.args.geometry.now) c.if-not-is_some.true c.is_some.ensures c.in_ok-route.ensures)

pub returns-then-is_too_large-clause-refused : goal.returns-then-is_too_large-clause-refused
returns-then-is_too_large-clause-refused c =
    let wanted = route_at c.args.instance.now c.args.query.now c.args.geometry.now in
    let asked = parameter_places c.args.query.now.parameters c.args.instance.now.parameters in
    c.in_ok-parameters.ensures.known
    ∙ refused_large_one c.args.collection.now c.args.query.now c.args.instance.now c.args.geometry.now c.requires.asked c.requires.shape c.in_ok-parameters.ensures.levels
    (λ none. c.in_ok-parameters.ensures.some (c.in_ok-parameters.ensures.places ∙ none))
    (has_turns c.is_some.result c.in_ok-route.route wanted c.if-not-is_some.false c.is_some.ensures c.in_ok-route.ensures)
    (tested c.is_too_large.result true c.deref.result.now asked c.in_ok-route.route wanted c.is_too_large.ensures c.if-is_too_large.true
    (c.deref.ensures.value ∙ c.in_ok-parameters.ensures.places) c.in_ok-route.ensures)

pub coverages_of-requires-clause-route : goal.coverages_of-requires-clause-route
coverages_of-requires-clause-route c =
    subst (LiesOn c.args.instance.now) (sym c.in_ok-route.ensures) (lies_on c.args.query.now c.args.instance.now c.args.geometry.now c.requires.asked.grid)

pub coverages_of-requires-clause-parameters : goal.coverages_of-requires-clause-parameters
coverages_of-requires-clause-parameters c =
    asked_below c.deref-2.result.now c.args.query.now c.args.instance.now (c.deref-2.ensures.value ∙ c.in_ok-parameters.ensures.places)

-- ---- the list that is made

shape_is : (c : After-of-2) → c.shape.result ≡ c.args.instance.now.grid.shape
shape_is c = c.shape.ensures.same ∙ ap (λ (grid : chunk.Values). grid.shape) c.grid.ensures

names_are : (c : After-of-2) → c.of.result ≡ parameter_places c.args.query.now.parameters c.args.instance.now.parameters
names_are c = c.of.ensures ∙ c.in_ok-parameters.ensures.places

coverages_are : (c : After-of-2)
    → c.of-2.result
    ≡ planned_turns c.args.collection.now.referencing c.args.instance.now (parameter_places c.args.query.now.parameters c.args.instance.now.parameters) (route_at c.args.instance.now c.args.query.now c.args.geometry.now)
coverages_are c =
    c.of-2.ensures
    ∙ (c.in_ok-coverages.ensures
    ∙ (ap (λ (r : Referencing). planned_turns r c.args.instance.now c.deref-2.result.now c.in_ok-route.route) c.referencing-referencing.ensures.referencing
    ∙ ap₂ (λ (names : List ℕ) (route : RouteValue). planned_turns c.args.collection.now.referencing c.args.instance.now names route)
    (c.deref-2.ensures.value ∙ c.in_ok-parameters.ensures.places) c.in_ok-route.ensures))

count_is : (c : After-of-2) → c.len.result ≡ length c.of-2.result
count_is c = let same = ap (λ (all : List PlannedValue). length all) c.of-2.ensures in omega (arith, c.len.ensures, c.in_ok-coverages.coverages.ok.0, same)

one : (c : After-of-2) → not (eqb c.len.result 1) ≡ false → length c.of-2.result ≡ 1
one c e = sym (count_is c) ∙ is_one c.len.result e

alone : (c : After-of-2) → length c.of-2.result ≡ 1 → not (eqb c.len.result 1) ≡ false
alone c e = one_is c.len.result (count_is c ∙ e)

turns : (c : After-of-2) → HasTurns (route_at c.args.instance.now c.args.query.now c.args.geometry.now)
turns c =
    has_turns c.is_some.result c.in_ok-route.route (route_at c.args.instance.now c.args.query.now c.args.geometry.now) c.if-not-is_some.false c.is_some.ensures c.in_ok-route.ensures

pub invariant_of-result : goal.invariant_of-result
invariant_of-result c = (
  is_listing c.args.collection.now c.args.query.now c.args.instance.now c.args.geometry.now c.requires.asked c.requires.shape c.in_ok-parameters.ensures.levels
      (λ none. c.in_ok-parameters.ensures.some (c.in_ok-parameters.ensures.places ∙ none)) (turns c)
      (record { shape = c.shape.result; parameters = c.of.result; many = not (eqb c.len.result 1); coverages = c.of-2.result })
      (shape_is c) (names_are c) (coverages_are c) (one c) (alone c),
  c.shape.ensures.fits,
)

pub returns-clause-planned : goal.returns-clause-planned
returns-clause-planned c =
    let made = (goal.at.returns-clause-planned c).After-of-2 in
    let wanted = route_at c.args.instance.now c.args.query.now c.args.geometry.now in
    let asked = parameter_places c.args.query.now.parameters c.args.instance.now.parameters in
    is_plan c.args.collection.now c.args.query.now c.args.instance.now c.args.geometry.now c.requires.asked c.requires.shape c.in_ok-parameters.ensures.levels
    (λ none. c.in_ok-parameters.ensures.some (c.in_ok-parameters.ensures.places ∙ none)) (turns made)
    (record { shape = c.shape.result; parameters = c.of.result; many = not (eqb c.len.result 1); coverages = c.of-2.result })
    (shape_is made) (names_are made) (coverages_are made) (one made) (alone made) c.in_ok-parameters.ensures.known
    (tested c.is_too_large.result false c.deref.result.now asked c.in_ok-route.route wanted c.is_too_large.ensures c.if-is_too_large.false
    (c.deref.ensures.value ∙ c.in_ok-parameters.ensures.places) c.in_ok-route.ensures)
