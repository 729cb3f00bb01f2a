-- What is planned for the turns of a trajectory is valid: it has a valid head, and a cell of the grid for each value.
use Rattle.std.proofs.Common.{◌≡◌, ◌≢◌, ℕ, ◌<◌, ◌≤◌, ◌^◌, Bool, true, false, cond, List, [], ◌∷◌, length, refl, ap, sym, ◌∙◌, subst, arith, Some, None, IfSome, IsNone, ℤ, pos, All, Contains}
use Rattle.std.specs.declared.option.Option.{Option}
use Rattle.std.specs.Prelude.{map, is_some, unwrap_or}
use Rattle.std.proofs.lemmas.Bool.{false≢true}
use Rattle.std.proofs.lemmas.List.{length-map}
use Rattle.edr_base.specs.declared.places.Position.{Position}
use Rattle.edr_axes.specs.Axes.{value_at, axis_length}
use Rattle.edr_wkt.specs.declared.geometry.Geometry.{Geometry}
use Rattle.edr_wkt.specs.declared.geometry.Geometry.TheVariants.{Points, Line, Polygons}
use Rattle.edr_wkt.specs.Faults.{IsGeometry}
use Rattle.edr_wkt.specs.Geometries.{line_of, positions_of}
use Rattle.covjson_value.specs.declared.domains.CoordinateName.{CoordinateName}
use Rattle.covjson_value.specs.declared.domains.CoordinateName.TheVariants.{T, Z, Y, X}
use Rattle.covjson_value.specs.declared.domains.Domain.TheVariants.{Trajectory}
use Rattle.covjson_value.specs.Coverages.{IsAxisValue, IsNamedAxis, HasAxes, IsTuple, NeverFall, HasTuples, IsReferencing}
use Rattle.covjson_value.specs.CountLaws.{count_is}
use Rattle.covjson_value.specs.Domains.{axis_of, coordinate, is_among, level_if, count_of}
use Rattle.covjson_value.specs.Samples.{Node}
use Rattle.edr_chunk.specs.declared.shapes.GridShape.{GridShape}
use Rattle.edr_chunk.specs.Places.{Within, IsShape}
use Rattle.edr_edition.specs.Values.{InstanceValue}
use Rattle.edr_edition.specs.Instances.{HasGrid}
use Rattle.edr_edition.specs.Stores.{Subject}
use Rattle.edr_query.specs.declared.shapes.Shape.TheVariants as at
use Rattle.edr_query.specs.Values.{QueryValue}
use Rattle.edr_select.specs.declared.plans.GridNode.{GridNode}
use Rattle.edr_select.specs.Choices.{parameter_places}
use Rattle.edr_corridor.specs.Boxes.{level_at}
use Rattle.edr_select.specs.DomainLaws.{one_value}
use Rattle.edr_select.specs.GridLaws.{IsGrid}
use Rattle.edr_select.specs.HeadLaws.{asked_are, asked_ascend, head_is}
use Rattle.edr_select.specs.Heads.{step_at, level_along, trajectory_of}
use Rattle.edr_select.specs.KeptLaws.{kept_below}
use Rattle.edr_select.specs.LevelLaws.{some_length, all_from_each, level_value}
use Rattle.edr_select.specs.ListLaws.{Each, each-map, each-map_in, each-flat_map_in, map-map, all_member}
use Rattle.edr_select.specs.Listings.{PlannedValue, ListingValue, place_at, IsPlanned, IsListing}
use Rattle.edr_select.specs.ParameterLaws.{parameter_at}
use Rattle.edr_select.specs.Samples.{id_at, node_at}
use Rattle.edr_select.specs.Selections.{is_asked}
use Rattle.edr_select.specs.Steps.{lacks_levels}
use Rattle.edr_lines.specs.Plans.{axes_of}
use Rattle.edr_lines.specs.Routes.{RouteValue, route_at, HasTurns, turned, nodes_of_turn, nodes_on, planned_turn, planned_turns}
use Rattle.edr_lines.specs.Vertices.{nearest_place, there, step_at as nearest_step}
use Rattle.edr_lines.proofs.LineGrids.{grid_from, all_from_members}
use Rattle.edr_lines.proofs.Neighbours.{once_few, there_few}
use Rattle.edr_lines.proofs.RouteLists.{time_below, level_below, lies_on, levels_there}
use Rattle.edr_lines.proofs.NearestPlaces.{nearest_rises}
use Rattle.edr_lines.proofs.RouteSteps.{turned_within, step_time}
use Rattle.edr_lines.proofs.RouteTimes.{Rising, in_order, there_rises, once_rises, turn_times, never_fall}
use Rattle.edr_lines.proofs.TurnDomains.{same_level}
use Rattle.edr_lines.proofs.TurnPlans.{turn_lies}

-- ---- trajectories

axes_along : (level : Option ℤ) (has : Bool) (steps : List Position) → IfSome level (IsAxisValue Z) → HasAxes (Trajectory level has steps)
axes_along None has steps h T = tt
axes_along None has steps h Z = tt
axes_along None has steps h Y = tt
axes_along None has steps h X = tt
axes_along (Some level) has steps h T = tt
axes_along (Some level) has steps h Z = one_value Z level h
axes_along (Some level) has steps h Y = tt
axes_along (Some level) has steps h X = tt

tuples_along : (has : Bool) (level : Option ℤ) (steps : List Position) → 0 < length steps → length steps < 2 ^ 64 → All (IsTuple (T ∷ X ∷ Y ∷ level_if has)) steps
    → NeverFall (map (coordinate T) steps)
    → HasTuples (Trajectory (cond has None level) has steps)
tuples_along true level steps some few each times = record {
  tuples = record { some = some; counted = few; each = each; in_time = times };
  once = once_along;
}
  where
    once_along : (name : CoordinateName) → is_among name (T ∷ X ∷ Y ∷ Z ∷ []) ≡ true → IsNone (axis_of (Trajectory None true steps) name)
    once_along T among = refl
    once_along Z among = refl
    once_along Y among = refl
    once_along X among = refl
tuples_along false level steps some few each times = record {
  tuples = record { some = some; counted = few; each = each; in_time = times };
  once = once_along;
}
  where
    once_along : (name : CoordinateName) → is_among name (T ∷ X ∷ Y ∷ []) ≡ true → IsNone (axis_of (Trajectory level false steps) name)
    once_along T among = refl
    once_along Z among = absurd (false≢true among)
    once_along Y among = refl
    once_along X among = refl

count_along : (level : Option ℤ) (has : Bool) (steps : List Position) → count_of (Trajectory level has steps) ≡ length steps
count_along None has steps = omega (arith, count_is (Trajectory None has steps))
count_along (Some level) has steps = omega (arith, count_is (Trajectory (Some level) has steps))

-- ---- steps

level_is : (zs : Option (List ℤ)) (z : ℕ) → IfSome zs (IsNamedAxis Z) → is_some zs ≡ true → z < axis_length zs → IsAxisValue Z (unwrap_or (level_at zs z) (pos 0))
level_is None z h some below = absurd (false≢true some)
level_is (Some values) z h some below = h.within z (pos 0) below

-- a step in the grid is a tuple
tuple_is : (i : InstanceValue) → HasGrid i → (has : Bool) → (has ≡ true → is_some i.zs ≡ true) → (n : GridNode) → Within i.grid.shape (place_at 0 n)
    → IsTuple (T ∷ X ∷ Y ∷ level_if has) (step_at has (node_at i (place_at 0 n)))
tuple_is i h true some n w T = h.ts.within n.t (pos 0) (omega (arith, w.t, (grid_from i h).times))
tuple_is i h true some n w Z = level_is i.zs n.z h.zs (some refl) (omega (arith, w.z, (grid_from i h).levels))
tuple_is i h true some n w Y = h.ys.within n.y (pos 0) (omega (arith, w.y, (grid_from i h).rows))
tuple_is i h true some n w X = h.xs.within n.x (pos 0) (omega (arith, w.x, (grid_from i h).columns))
tuple_is i h false some n w T = h.ts.within n.t (pos 0) (omega (arith, w.t, (grid_from i h).times))
tuple_is i h false some n w Z = refl
tuple_is i h false some n w Y = h.ys.within n.y (pos 0) (omega (arith, w.y, (grid_from i h).rows))
tuple_is i h false some n w X = h.xs.within n.x (pos 0) (omega (arith, w.x, (grid_from i h).columns))

line_few : (g : Geometry) → length (line_of g) ≤ length (positions_of g)
line_few (Points multi has_z has_m positions) = omega arith
line_few (Line has_z has_m positions) = omega arith
line_few (Polygons multi has_z has_m polygons) = omega arith

flat_level : (has : Bool) (level : Option ℤ) → IfSome level (IsAxisValue Z) → IfSome (cond has None level) (IsAxisValue Z)
flat_level true level h = tt
flat_level false level h = h

-- ---- turns

module _ (s : Subject) (q : QueryValue) (i : InstanceValue) (line : Geometry) (shape : q.shape ≡ at.Trajectory line) (h : HasGrid i) (levels : lacks_levels q i ≡ false)
    (has : HasTurns (route_at i q line)) (geometry : IsGeometry line) (referencing : IsReferencing s.collection.referencing) where
  abbrev r : RouteValue
  r = route_at i q line

  abbrev asked : List ℕ
  asked = parameter_places q.parameters i.parameters

  abbrev planned : ℕ → ℕ → PlannedValue
  planned t z = planned_turn s.collection.referencing i asked r t z

  abbrev all_planned : List PlannedValue
  all_planned = planned_turns s.collection.referencing i asked r

  g : IsGrid i
  g = grid_from i h

  -- the steps of the domain of a turn
  abbrev steps_in : ℕ → ℕ → List Position
  steps_in t z = map (step_at r.has_z) (nodes_on i r t z)

  within : (t z : ℕ) (n : GridNode) → Contains r.times t → Contains r.levels z → Contains r.steps n → Within i.grid.shape (place_at 0 (turned r t z n))
  within t z n mt mz mn =
      turned_within i h r t z n (time_below q i line h t mt) (level_below q i line h z mz) (all_member (λ n. Within i.grid.shape (place_at 0 n)) r.steps n (lies_on q i line h).steps mn)

  steps_count : (t z : ℕ) → length (steps_in t z) ≡ length r.steps
  steps_count t z =
      length-map (nodes_on i r t z) (step_at r.has_z) ∙ (length-map (nodes_of_turn r t z) (λ n. node_at i (place_at 0 n)) ∙ length-map r.steps (turned r t z))

  few_steps : length r.steps < 2 ^ 64
  few_steps =
      omega (
        arith,
        once_few (there (map (nearest_step (axes_of i) r.has_z r.has_m) (line_of line))),
        there_few (map (nearest_step (axes_of i) r.has_z r.has_m) (line_of line)),
        length-map (line_of line) (nearest_step (axes_of i) r.has_z r.has_m),
        line_few line,
        geometry.faultless.few,
      )

  each_tuple : (t z : ℕ) → Contains r.times t → Contains r.levels z → Each (IsTuple (T ∷ X ∷ Y ∷ level_if r.has_z)) (steps_in t z)
  each_tuple t z mt mz =
      each-map (IsTuple (T ∷ X ∷ Y ∷ level_if r.has_z)) (step_at r.has_z) (nodes_on i r t z)
      (each-map (λ n. IsTuple (T ∷ X ∷ Y ∷ level_if r.has_z) (step_at r.has_z n)) (λ n. node_at i (place_at 0 n)) (nodes_of_turn r t z)
      (each-map_in (λ n. IsTuple (T ∷ X ∷ Y ∷ level_if r.has_z) (step_at r.has_z (node_at i (place_at 0 n)))) (turned r t z) r.steps
      (λ n mn. tuple_is i h r.has_z (levels_there q i line shape levels) (turned r t z n) (within t z n mt mz mn))))

  -- times never fall: m never does along the line, and the nearest place neither
  rises : r.has_m ≡ true → Rising r.steps
  rises own =
      once_rises (there (map (nearest_step (axes_of i) r.has_z r.has_m) (line_of line)))
      (there_rises (nearest_step (axes_of i) r.has_z r.has_m) (nearest_place i.ts) (λ c d le. nearest_rises i.ts c d g.ts le) (step_time i h r own) (line_of line)
      (in_order (line_of line) geometry.faultless.rising))

  times_are : (t z : ℕ) → map (coordinate T) (steps_in t z) ≡ map (value_at i.ts) (map (λ (n : GridNode). cond r.has_m n.t t) r.steps)
  times_are t z =
      map-map (coordinate T) (step_at r.has_z) (nodes_on i r t z)
      ∙ (map-map (λ (n : Node). coordinate T (step_at r.has_z n)) (λ n. node_at i (place_at 0 n)) (nodes_of_turn r t z)
      ∙ (map-map (λ (n : GridNode). value_at i.ts n.t) (turned r t z) r.steps ∙ sym (map-map (value_at i.ts) (λ (n : GridNode). cond r.has_m n.t t) r.steps)))

  in_time : (t z : ℕ) → Contains r.times t → Contains r.levels z → NeverFall (map (coordinate T) (steps_in t z))
  in_time t z mt mz =
      subst NeverFall (sym (times_are t z))
      (never_fall i.ts g.ts.ascending (map (λ (n : GridNode). cond r.has_m n.t t) r.steps)
      (each-map_in (λ k. k < length i.ts) (λ (n : GridNode). cond r.has_m n.t t) r.steps (λ n mn. subst (λ many. cond r.has_m n.t t < many) g.times (within t z n mt mz mn).t))
      (turn_times r.has_m t r.steps rises))

  some_parameters : asked ≢ [] → 0 < length (map (parameter_at i.parameters) asked)
  some_parameters some = omega (arith, some_length asked some, length-map asked (parameter_at i.parameters))

  planned_is : asked ≢ [] → (t z : ℕ) → Contains r.times t → Contains r.levels z → IsPlanned i.grid.shape asked (planned t z)
  planned_is some t z mt mz = record {
    head = head_is s (trajectory_of r.has_z (nodes_on i r t z)) (map (parameter_at i.parameters) asked) referencing
        (axes_along (cond r.has_z None (level_along (nodes_on i r t z))) r.has_z (steps_in t z)
        (subst (λ (o : Option ℤ). IfSome o (IsAxisValue Z)) (same_level i r t z r.steps has.steps) (flat_level r.has_z (level_at i.zs z) (level_value i.zs z h.zs (level_below q i line h z mz)))))
        (tuples_along r.has_z (level_along (nodes_on i r t z)) (steps_in t z) (omega (arith, some_length r.steps has.steps, steps_count t z)) (omega (arith, few_steps, steps_count t z))
        (all_from_each (IsTuple (T ∷ X ∷ Y ∷ level_if r.has_z)) (steps_in t z) (each_tuple t z mt mz)) (in_time t z mt mz))
        (some_parameters some) (asked_are q.parameters i.parameters h.parameters) (asked_ascend q.parameters i.parameters h.ascending);
    bare = refl;
    as_many = length-map asked (parameter_at i.parameters);
    count = count_along (cond r.has_z None (level_along (nodes_on i r t z))) r.has_z (steps_in t z) ∙ (steps_count t z ∙ sym (length-map r.steps (turned r t z)));
    cells = turn_lies i h r (lies_on q i line h) t z (time_below q i line h t mt) (level_below q i line h z mz);
  }

  -- ---- listings

  asked_below : All (λ p. p < length i.parameters) asked
  asked_below = all_from_members (λ p. p < length i.parameters) asked (λ p mp. kept_below (λ p. is_asked q.parameters (id_at i.parameters p)) (length i.parameters) p mp)

  -- a listing over the turns is one
  pub is_listing : asked ≢ [] → (plan : ListingValue) → plan.shape ≡ i.grid.shape → plan.parameters ≡ asked → plan.coverages ≡ all_planned → (plan.many ≡ false → length all_planned ≡ 1) → IsListing plan
  is_listing some plan is_shape parameters are one = record {
    shape = subst IsShape (sym is_shape) h.is_shape;
    parameters = subst (λ (ps : List ℕ). All (λ p. p < plan.shape.parameters) ps) (sym parameters)
        (subst (λ (d : GridShape). All (λ p. p < d.parameters) asked) (sym is_shape) (subst (λ many. All (λ p. p < many) asked) (sym g.parameters) asked_below));
    coverages = subst (λ (all : List PlannedValue). All (IsPlanned plan.shape plan.parameters) all) (sym are)
        (subst (λ (ps : List ℕ). All (IsPlanned plan.shape ps) all_planned) (sym parameters)
        (subst (λ (d : GridShape). All (IsPlanned d asked) all_planned) (sym is_shape)
        (all_from_each (IsPlanned i.grid.shape asked) all_planned
        (each-flat_map_in (IsPlanned i.grid.shape asked) (λ t. map (planned t) r.levels) r.times (λ t mt.
        each-map_in (IsPlanned i.grid.shape asked) (planned t) r.levels (λ z mz. planned_is some t z mt mz))))));
    alone = λ many. ap (λ (all : List PlannedValue). length all) are ∙ one many;
  }
