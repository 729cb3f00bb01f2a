-- The chunks that a trajectory needs are the tiles of the nodes of its turns.
use Rattle.std.proofs.Common.{◌≡◌, ℕ, ◌==◌, Bool, true, false, List, ap, sym, ◌∙◌, length, arith, Contains}
use Rattle.std.specs.Prelude.{map}
use Rattle.std.specs.List.{flat_map, list_any, range_with_len}
use Rattle.std.proofs.lemmas.List.Elements.{filter_agree}
use Rattle.edr_wkt.specs.declared.geometry.Geometry.{Geometry}
use Rattle.edr_chunk.specs.declared.shapes.GridShape.{GridShape}
use Rattle.edr_chunk.specs.declared.shapes.GridPlace.{GridPlace}
use Rattle.edr_chunk.specs.Tiles.{tiles, tile_of}
use Rattle.edr_edition.specs.Values.{InstanceValue}
use Rattle.edr_edition.specs.Instances.{HasGrid}
use Rattle.edr_edition.specs.Stores.{Held, of_grid, Subject}
use Rattle.edr_query.specs.declared.shapes.Shape.TheVariants as at
use Rattle.edr_query.specs.Values.{QueryValue}
use Rattle.edr_select.specs.declared.plans.GridNode.{GridNode}
use Rattle.edr_select.specs.Choices.{parameter_places}
use Rattle.edr_select.specs.GridLaws.{IsGrid}
use Rattle.edr_select.specs.KeptLaws.{contains_kept}
use Rattle.edr_select.specs.ListLaws.{any-map, any-flat_map, any_agree, both, passing, any_member}
use Rattle.edr_select.specs.Listings.{PlannedValue, ListingValue, place_at, tiles_of_range, tiles_of_coverage, listing_tiles}
use Rattle.edr_select.specs.Samples.{Stored, id_at, chunks_in, ascending_once}
use Rattle.edr_select.specs.Selections.{is_asked, picked, chunk_of, needed}
use Rattle.edr_select.specs.Steps.{lacks_levels}
use Rattle.edr_lines.specs.Routes.{RouteValue, route_at, HasTurns, turned, nodes_of_turn, planned_turn, planned_turns}
use Rattle.edr_lines.proofs.LineGrids.{grid_from}
use Rattle.edr_lines.proofs.TestedPicks.{pick_found, found_pick}
use Rattle.edr_lines.proofs.TrajectoryPicks.{OnTurn, on_route, selects, turn_of, parameter_within, taken}

module _ (s : Subject) (q : QueryValue) (i : InstanceValue) (line : Geometry) (held : s.held ≡ of_grid i) (shape : q.shape ≡ at.Trajectory line) (h : HasGrid i)
    (levels : lacks_levels q i ≡ false) (has : HasTurns (route_at i q line)) where
  abbrev r : RouteValue
  r = route_at i q line

  abbrev asked : List ℕ
  asked = parameter_places q.parameters i.parameters

  abbrev planned : ℕ → ℕ → PlannedValue
  planned t z = planned_turn s.collection.referencing i asked r t z

  g : IsGrid i
  g = grid_from i h

  -- the tile of a parameter and a step in a turn
  abbrev tile_at : ℕ → ℕ → ℕ → GridNode → ℕ
  tile_at t z p n = tile_of i.grid.shape (place_at p (turned r t z n))

  -- some tile passes: of a parameter in a turn, of a turn, of a time, of all
  abbrev some_step : (ℕ → Bool) → ℕ → ℕ → ℕ → Bool
  some_step u t z p = list_any (λ n. u (tile_at t z p n)) r.steps

  abbrev some_parameter : (ℕ → Bool) → ℕ → ℕ → Bool
  some_parameter u t z = list_any (some_step u t z) asked

  abbrev some_level : (ℕ → Bool) → ℕ → Bool
  some_level u t = list_any (some_parameter u t) r.levels

  any_range : (u : ℕ → Bool) (t z p : ℕ) → list_any u (tiles_of_range i.grid.shape (nodes_of_turn r t z) p) ≡ some_step u t z p
  any_range u t z p =
      any-map u (λ cell. tile_of i.grid.shape (place_at p cell)) (nodes_of_turn r t z)
      ∙ any-map (λ cell. u (tile_of i.grid.shape (place_at p cell))) (turned r t z) r.steps

  any_turn : (u : ℕ → Bool) (t z : ℕ) → list_any u (tiles_of_coverage i.grid.shape asked (planned t z)) ≡ some_parameter u t z
  any_turn u t z =
      any-flat_map u (tiles_of_range i.grid.shape (nodes_of_turn r t z)) asked
      ∙ any_agree (λ p. list_any u (tiles_of_range i.grid.shape (nodes_of_turn r t z) p)) (some_step u t z) (any_range u t z) asked

  any_tile : (u : ℕ → Bool)
      → list_any u (flat_map (tiles_of_coverage i.grid.shape asked) (planned_turns s.collection.referencing i asked r)) ≡ list_any (some_level u) r.times
  any_tile u =
      any-flat_map u (tiles_of_coverage i.grid.shape asked) (planned_turns s.collection.referencing i asked r)
      ∙ (any-flat_map (λ (p : PlannedValue). list_any u (tiles_of_coverage i.grid.shape asked p)) (λ t. map (planned t) r.levels) r.times
      ∙ any_agree (λ t. list_any (λ (p : PlannedValue). list_any u (tiles_of_coverage i.grid.shape asked p)) (map (planned t) r.levels)) (some_level u)
      (λ t. any-map (λ (p : PlannedValue). list_any u (tiles_of_coverage i.grid.shape asked p)) (planned t) r.levels
      ∙ any_agree (λ z. list_any u (tiles_of_coverage i.grid.shape asked (planned t z))) (some_parameter u t) (any_turn u t) r.levels) r.times)

  -- a tile is that of a picked sample exactly where it is that of a step
  needs_tile : (u : ℕ → Bool) → list_any (some_level u) r.times ≡ true → list_any (λ (x : Stored). u (chunk_of x)) (picked s q) ≡ true
  needs_tile u e =
      let t = passing (some_level u) r.times e in
      let z = passing (some_parameter u t.item) r.levels t.passes in
      let p = passing (some_step u t.item z.item) asked z.passes in
      let n = passing (λ n. u (tile_at t.item z.item p.item n)) r.steps p.passes in
      found_pick s q i held g (on_route s q i line held shape h levels) (selects s q i line held shape h levels) (λ (x : Stored). u (chunk_of x))
      (place_at p.item (turned r t.item z.item n.item))
      (parameter_within s q i line held shape h levels has p.item t.item z.item n.item p.among t.among z.among n.among)
      (taken s q i line held shape h levels has p.item t.item z.item n.item p.among t.among z.among n.among) n.passes

  step_has : (u : ℕ → Bool) (a : GridPlace) → Contains asked a.parameter → OnTurn r a → u (tile_of i.grid.shape a) ≡ true → list_any (some_level u) r.times ≡ true
  step_has u a mp o e =
      any_member (some_level u) r.times o.t o.t_in
      (any_member (some_parameter u o.t) r.levels o.z o.z_in
      (any_member (some_step u o.t o.z) asked a.parameter mp
      (any_member (λ n. u (tile_at o.t o.z a.parameter n)) r.steps o.n o.n_in (ap (λ (b : GridPlace). u (tile_of i.grid.shape b)) (sym o.is) ∙ e))))

  tile_needed : (u : ℕ → Bool) → list_any (λ (x : Stored). u (chunk_of x)) (picked s q) ≡ true → list_any (some_level u) r.times ≡ true
  tile_needed u e =
      let f = pick_found s q i held g (on_route s q i line held shape h levels) (selects s q i line held shape h levels) (λ (x : Stored). u (chunk_of x)) e in
      step_has u f.place
      (contains_kept (λ p. is_asked q.parameters (id_at i.parameters p)) (length i.parameters) f.place.parameter (omega (arith, f.within.parameter, g.parameters)) f.taken.asked)
      (turn_of s q i line held shape h levels has f.place f.within f.taken.node) f.passes

  chunks_are : ascending_once (tiles i.grid.shape) (flat_map (tiles_of_coverage i.grid.shape asked) (planned_turns s.collection.referencing i asked r)) ≡ needed s q
  chunks_are =
      filter_agree (λ k. list_any (λ n. n == k) (flat_map (tiles_of_coverage i.grid.shape asked) (planned_turns s.collection.referencing i asked r)))
      (λ k. list_any (λ n. n == k) (map chunk_of (picked s q)))
      (λ k. any_tile (λ n. n == k)
      ∙ (both (list_any (some_level (λ n. n == k)) r.times) (list_any (λ (x : Stored). chunk_of x == k) (picked s q)) (needs_tile (λ n. n == k)) (tile_needed (λ n. n == k))
      ∙ sym (any-map (λ n. n == k) chunk_of (picked s q))))
      (range_with_len 0 (tiles i.grid.shape))
      ∙ sym (ap (λ (k : Held). ascending_once (chunks_in k) (map chunk_of (picked s q))) held)

  -- a listing over the turns opens what the query needs
  pub listing_chunks : (plan : ListingValue) → plan.shape ≡ i.grid.shape → plan.parameters ≡ asked → plan.coverages ≡ planned_turns s.collection.referencing i asked r
      → ascending_once (tiles plan.shape) (listing_tiles plan) ≡ needed s q
  listing_chunks plan is_shape parameters coverages =
      ap (λ (d : GridShape). ascending_once (tiles d) (flat_map (tiles_of_coverage d plan.parameters) plan.coverages)) is_shape
      ∙ (ap (λ (ps : List ℕ). ascending_once (tiles i.grid.shape) (flat_map (tiles_of_coverage i.grid.shape ps) plan.coverages)) parameters
      ∙ (ap (λ (all : List PlannedValue). ascending_once (tiles i.grid.shape) (flat_map (tiles_of_coverage i.grid.shape asked) all)) coverages ∙ chunks_are))
