-- The turns of a route, and its lists of nodes: they are those of the definition.
use Rattle.std.proofs.Common.{◌≡◌, ◌≢◌, ℕ, ◌<◌, Bool, true, false, cond, List, [], ◌∷◌, length, refl, ap, ap₂, sym, ◌∙◌, arith, inl, inr, Some, None, IfSome, ℤ, Contains}
use Rattle.std.specs.declared.option.Option.{Option}
use Rattle.std.specs.Prelude.{map, ◌⊎◌, ◌&&◌, ◌||◌, not, is_some}
use Rattle.std.specs.List.{filter, flat_map}
use Rattle.std.proofs.lemmas.Bool.{false≢true}
use Rattle.std.proofs.lemmas.List.Folds.{flat_map-map}
use Rattle.std.specs.Option.{option_or}
use Rattle.edr_axes.specs.Axes.{value_at, IsAxis, axis_length}
use Rattle.edr_axes.specs.declared.levels.Levels.{Levels}
use Rattle.edr_axes.specs.declared.times.Times.{Times}
use Rattle.edr_wkt.specs.declared.geometry.Geometry.{Geometry}
use Rattle.edr_wkt.specs.Geometries.{line_of}
use Rattle.edr_wkt.specs.Wkt.{has_z_of}
use Rattle.covjson_value.specs.Samples.{Node}
use Rattle.edr_edition.specs.Values.{InstanceValue}
use Rattle.edr_edition.specs.Instances.{HasGrid}
use Rattle.edr_query.specs.declared.shapes.Shape.{Shape}
use Rattle.edr_query.specs.declared.shapes.Shape.TheVariants as at
use Rattle.edr_query.specs.Queries as queries
use Rattle.edr_query.specs.Queries.{coords_of, box_of}
use Rattle.edr_query.specs.Values.{QueryValue}
use Rattle.edr_select.specs.declared.plans.GridNode.{GridNode}
use Rattle.edr_select.specs.Choices.{time_places, level_places}
use Rattle.edr_corridor.specs.Boxes.{level_at}
use Rattle.edr_select.specs.GridLaws.{IsGrid}
use Rattle.edr_select.specs.KeptLaws.{filter_by_places, kept_below}
use Rattle.edr_select.specs.Lines.{is_inside, step_of, without_repeats, turns, is_some_node}
use Rattle.edr_select.specs.ListLaws.{each-flat_map_in, each-map_in, map-map, map_agree_in}
use Rattle.edr_select.specs.Listings.{place_at}
use Rattle.edr_select.specs.Samples.{node_at}
use Rattle.edr_select.specs.Steps.{lacks_levels}
use Rattle.edr_select.specs.Wanted.{takes_time, takes_level, levels_asked, levels_of}
use Rattle.edr_chunk.specs.Places.{Within}
use Rattle.edr_lines.specs.Routes.{RouteValue, route_at, HasTurns, LiesOn, nodes_on, lists_on, IsRouteOver, turned}
use Rattle.edr_lines.proofs.LineGrids.{grid_from, all_from_members, each_member, cases_empty, flat_map_agree_in, flat_map_none, filter_each, filter_nothing}
use Rattle.edr_lines.proofs.RouteSteps.{turn_time, turn_level, IsStep, nodes_are, each_step, step_in}

-- ---- turns

times_are : (has_m : Bool) (asked : Option Times) (ts : List ℤ)
    → turns has_m (Some ts) (λ t. takes_time asked (Some t)) ≡ map (turn_time has_m ts) (cond has_m (0 ∷ []) (time_places asked ts))
times_are true asked ts = refl
times_are false asked ts =
    ap (map Some) (filter_by_places (λ t. takes_time asked (Some t)) ts) ∙ map-map Some (value_at ts) (time_places asked ts)

levels_are : (has_z : Bool) (asked : Option Levels) (zs : Option (List ℤ)) → (has_z ≡ false → zs ≡ None → asked ≡ None)
    → turns has_z zs (λ l. takes_level asked (Some l)) ≡ map (turn_level has_z zs) (cond has_z (0 ∷ []) (level_places asked zs))
levels_are true asked zs none = refl
levels_are false asked (Some values) none =
    ap (map Some) (filter_by_places (λ l. takes_level asked (Some l)) values) ∙ map-map Some (value_at values) (level_places asked (Some values))
levels_are false asked None none = sym (ap (λ (o : Option Levels). map (turn_level false None) (level_places o None)) (none refl refl))

-- along a line without levels of its own those of `z` are asked
same_levels : (q : QueryValue) (line : Geometry) → q.shape ≡ at.Trajectory line → levels_asked q ≡ q.levels
same_levels q line shape = ap (λ (k : Shape). option_or q.levels (levels_of k)) shape ∙ without q.levels
  where
    without : (asked : Option Levels) → option_or asked None ≡ asked
    without None = refl
    without (Some levels) = refl

-- no level is asked where there are none
pub none_asked : (q : QueryValue) (i : InstanceValue) → lacks_levels q i ≡ false → i.zs ≡ None → q.levels ≡ None
none_asked q i h none = here q.levels refl
  where
    here : (asked : Option Levels) → q.levels ≡ asked → q.levels ≡ None
    here None e = e
    here (Some levels) e = absurd (false≢true (sym h ∙ ap₂ (λ (o : Option Levels) (zs : Option (List ℤ)). (is_some o || (queries.has_z (coords_of q.shape) || queries.has_levels (box_of q.shape))) && not (is_some zs)) e none))

-- a line has levels of its own only where there are some
pub levels_there : (q : QueryValue) (i : InstanceValue) (line : Geometry) → q.shape ≡ at.Trajectory line → lacks_levels q i ≡ false → has_z_of line ≡ true → is_some i.zs ≡ true
levels_there q i line shape h has = here (is_some q.levels) (is_some i.zs)
    (sym (ap (λ b. (is_some q.levels || (b || false)) && not (is_some i.zs)) has) ∙ (sym (ap (λ (k : Shape). (is_some q.levels || (queries.has_z (coords_of k) || queries.has_levels (box_of k))) && not (is_some i.zs)) shape) ∙ h))
  where
    here : (a z : Bool) → ((a || true) && not z) ≡ false → z ≡ true
    here a true e = refl
    here true false e = sym e
    here false false e = sym e

-- ---- lists of nodes of a route

some_mapped : (shown : GridNode → Node) (turn : GridNode → GridNode) (steps : List GridNode) → steps ≢ [] → is_some_node (map shown (map turn steps)) ≡ true
some_mapped shown turn [] some = absurd (some refl)
some_mapped shown turn (n ∷ steps) some = refl

-- it has a node, or it lacks steps, times or levels
data Turns (r : RouteValue) : Type 0 where
  with_turns : HasTurns r → Turns r
  without_steps : r.steps ≡ [] → Turns r
  without_times : r.times ≡ [] → Turns r
  without_levels : r.levels ≡ [] → Turns r

turns_or_none : (r : RouteValue) → Turns r
turns_or_none r =
    elim (cases_empty r.steps) [
      | inl e ↦ without_steps e
      | inr steps ↦ elim (cases_empty r.times) [
        | inl e ↦ without_times e
        | inr times ↦ elim (cases_empty r.levels) [ inl e ↦ without_levels e | inr levels ↦ with_turns (record { steps = steps; times = times; levels = levels }) ]
      ]
    ]

pub turns_decided : (r : RouteValue) → (HasTurns r) ⊎ (¬ (HasTurns r))
turns_decided r =
    elim (turns_or_none r) [
      | with_turns has ↦ inl has
      | without_steps e ↦ inr (λ has. has.steps e)
      | without_times e ↦ inr (λ has. has.times e)
      | without_levels e ↦ inr (λ has. has.levels e)
    ]

module _ (i : InstanceValue) (r : RouteValue) where
  -- where there are nodes each turn has some
  lists_kept : HasTurns r → filter is_some_node (lists_on i r) ≡ lists_on i r
  lists_kept has =
      filter_each is_some_node (lists_on i r)
      (each-flat_map_in (λ nodes. is_some_node nodes ≡ true) (λ t. map (nodes_on i r t) r.levels) r.times (λ t mt.
      each-map_in (λ nodes. is_some_node nodes ≡ true) (nodes_on i r t) r.levels (λ z mz.
      some_mapped (λ n. node_at i (place_at 0 n)) (turned r t z) r.steps has.steps)))

  no_steps : r.steps ≡ [] → filter is_some_node (lists_on i r) ≡ []
  no_steps e =
      filter_nothing is_some_node (lists_on i r)
      (each-flat_map_in (λ nodes. is_some_node nodes ≡ false) (λ t. map (nodes_on i r t) r.levels) r.times (λ t mt.
      each-map_in (λ nodes. is_some_node nodes ≡ false) (nodes_on i r t) r.levels (λ z mz.
      ap (λ (steps : List GridNode). is_some_node (map (λ n. node_at i (place_at 0 n)) (map (turned r t z) steps))) e)))

  -- and where there are none nothing is left
  lists_empty : (¬ (HasTurns r)) → filter is_some_node (lists_on i r) ≡ []
  lists_empty none =
      elim (turns_or_none r) [
        | with_turns has ↦ absurd (none has)
        | without_steps e ↦ no_steps e
        | without_times e ↦ ap (λ (ts : List ℕ). filter is_some_node (flat_map (λ t. map (nodes_on i r t) r.levels) ts)) e
        | without_levels e ↦ ap (λ (zs : List ℕ). filter is_some_node (flat_map (λ t. map (nodes_on i r t) zs) r.times)) e
            ∙ ap (filter is_some_node) (flat_map_none (λ t. map (nodes_on i r t) []) (λ t. refl) r.times)
      ]

-- ---- the route of a query

module _ (q : QueryValue) (i : InstanceValue) (line : Geometry) (h : HasGrid i) where
  abbrev r : RouteValue
  r = route_at i q line

  g : IsGrid i
  g = grid_from i h

  -- it lies in the grid

  time_in : (has_m : Bool) (t : ℕ) → Contains (cond has_m (0 ∷ []) (time_places q.times i.ts)) t → t < length i.ts
  time_in false t m = kept_below (λ t. takes_time q.times (Some (value_at i.ts t))) (length i.ts) t m
  time_in true t m = each_member (λ t. t < length i.ts) (0 ∷ []) (g.ts.some, tt) t m

  some_levels : (zs : Option (List ℤ)) → IfSome zs IsAxis → 0 < axis_length zs
  some_levels None axis = omega arith
  some_levels (Some values) axis = axis.some

  level_in : (has_z : Bool) (z : ℕ) → Contains (cond has_z (0 ∷ []) (level_places (levels_asked q) i.zs)) z → z < axis_length i.zs
  level_in false z m = kept_below (λ z. takes_level (levels_asked q) (level_at i.zs z)) (axis_length i.zs) z m
  level_in true z m = each_member (λ z. z < axis_length i.zs) (0 ∷ []) (some_levels i.zs g.zs, tt) z m

  pub time_below : (t : ℕ) → Contains r.times t → t < length i.ts
  time_below t m = time_in r.has_m t m

  pub level_below : (z : ℕ) → Contains r.levels z → z < axis_length i.zs
  level_below z m = level_in r.has_z z m

  pub step_is : (n : GridNode) → Contains r.steps n → IsStep i r.has_z r.has_m n
  step_is n m = each_member (IsStep i r.has_z r.has_m) r.steps (each_step i h r (line_of line)) n m

  pub lies_on : LiesOn i r
  lies_on = record {
    times = all_from_members (λ t. t < length i.ts) r.times time_below;
    levels = all_from_members (λ z. z < axis_length i.zs) r.levels level_below;
    steps = all_from_members (λ n. Within i.grid.shape (place_at 0 n)) r.steps (λ n m. step_in i h r n (step_is n m));
  }

  -- its lists are the definition's

  module _ (shape : q.shape ≡ at.Trajectory line) (levels : lacks_levels q i ≡ false) where
    -- the nodes of a turn, by the definition
    abbrev wanted_nodes : Option ℤ → Option ℤ → List Node
    wanted_nodes t z = without_repeats (map (step_of i r.has_z r.has_m t z) (filter (is_inside i r.has_z r.has_m) (line_of line)))

    time_turns : turns r.has_m (Some i.ts) (λ t. takes_time q.times (Some t)) ≡ map (turn_time r.has_m i.ts) r.times
    time_turns = times_are r.has_m q.times i.ts

    level_turns : turns r.has_z i.zs (λ l. takes_level q.levels (Some l)) ≡ map (turn_level r.has_z i.zs) r.levels
    level_turns =
        levels_are r.has_z q.levels i.zs (λ _ none. none_asked q i levels none)
        ∙ ap (λ (o : Option Levels). map (turn_level r.has_z i.zs) (cond r.has_z (0 ∷ []) (level_places o i.zs))) (sym (same_levels q line shape))

    lists_are : flat_map (λ t. map (λ z. wanted_nodes t z) (turns r.has_z i.zs (λ l. takes_level q.levels (Some l)))) (turns r.has_m (Some i.ts) (λ t. takes_time q.times (Some t))) ≡ lists_on i r
    lists_are =
        ap₂ (λ (zs ts : List (Option ℤ)). flat_map (λ t. map (λ z. wanted_nodes t z) zs) ts) level_turns time_turns
        ∙ (flat_map-map (λ (t : Option ℤ). map (λ z. wanted_nodes t z) (map (turn_level r.has_z i.zs) r.levels)) (turn_time r.has_m i.ts) r.times
        ∙ flat_map_agree_in (λ t. map (λ z. wanted_nodes (turn_time r.has_m i.ts t) z) (map (turn_level r.has_z i.zs) r.levels)) (λ t. map (nodes_on i r t) r.levels) r.times
        (λ t mt. map-map (λ z. wanted_nodes (turn_time r.has_m i.ts t) z) (turn_level r.has_z i.zs) r.levels
        ∙ map_agree_in (λ z. wanted_nodes (turn_time r.has_m i.ts t) (turn_level r.has_z i.zs z)) (nodes_on i r t) r.levels
        (λ z mz. sym (nodes_are i h r t z (time_below t mt) (level_below z mz) (line_of line) refl))))

    pub is_route_over : IsRouteOver i q line r
    is_route_over = record {
      some = λ has. ap (filter is_some_node) lists_are ∙ lists_kept i r has;
      none = λ none. ap (filter is_some_node) lists_are ∙ lists_empty i r none;
    }
