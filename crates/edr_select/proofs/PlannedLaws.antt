-- What is planned for the spots that are chosen is a listing: its heads are valid, and its cells lie in the grid, one for each value.
use Rattle.std.proofs.Common.{◌≡◌, ℕ, ◌*◌, ◌^◌, ◌<◌, ◌≤◌, false, List, length, refl, ap, ap₂, sym, ◌∙◌, subst, arith, mul_assoc, one-mul, mul-le-mul_right, mul-pos, pos, All, Contains}
use Rattle.std.specs.Prelude.{map}
use Rattle.std.specs.List.{range_with_len, slice_index_or}
use Rattle.std.proofs.lemmas.List.{length-map, get_or_default}
use Rattle.std.proofs.lemmas.List.FromFn.{length-range_with_len}
use Rattle.edr_base.specs.Limits.{node_limit}
use Rattle.edr_axes.specs.Axes.{value_at}
use Rattle.covjson_value.specs.declared.domains.CoordinateName.TheVariants.{T, Y, X}
use Rattle.covjson_value.specs.Coverages.{IsNamedAxis, IsReferencing}
use Rattle.edr_chunk.specs.declared.shapes.GridShape.{GridShape}
use Rattle.edr_chunk.specs.Places.{Within, IsShape}
use Rattle.edr_edition.specs.Values.{InstanceValue}
use Rattle.edr_edition.specs.Instances.{HasGrid}
use Rattle.edr_edition.specs.Stores.{Subject}
use Rattle.edr_query.specs.Values.{QueryValue}
use Rattle.edr_select.specs.Wanted.{levels_asked}
use Rattle.edr_select.specs.Heads.{domain_at}
use Rattle.edr_select.specs.Choices.{TakesEach, takes_node, Chosen, chosen, IsSome, node_of, cells_at, cells_along, times_of, levels_of, row_of, column_of, spot_of}
use Rattle.edr_corridor.specs.Boxes.{level_at}
use Rattle.edr_select.specs.Listings.{PlannedValue, ListingValue, place_at, IsPlanned, IsListing}
use Rattle.edr_select.specs.ListLaws.{Each, each-map_in, each-flat_map_in}
use Rattle.edr_select.specs.GridLaws.{IsGrid}
use Rattle.edr_select.proofs.Instances.{grid_from}
use Rattle.edr_select.proofs.ChosenLaws as laws
use Rattle.edr_select.specs.LevelLaws.{some_length, all_from_each, kept_few, level_axis, level_count, level_value}
use Rattle.edr_select.specs.LevelLaws as level_laws
use Rattle.edr_select.specs.ParameterLaws.{parameter_at}
use Rattle.edr_select.proofs.Coverages.{chosen_parameters, planned_at, planned_along, domain_along}
use Rattle.edr_select.proofs.Counts.{count_cells_at}
use Rattle.edr_select.specs.DomainLaws.{count_at, has_axes_at, no_tuples_at, one_value, count_along, has_axes_along, tuples_along, IsSpot}
use Rattle.edr_select.specs.HeadLaws.{asked_are, asked_ascend, head_is}

-- ---- a plane of few nodes

pub plane_few : (shape : GridShape) → IsShape shape → shape.rows * shape.columns ≤ node_limit
plane_few shape h =
    let whole : shape.times * shape.levels * shape.rows * shape.columns ≡ shape.times * shape.levels * (shape.rows * shape.columns) = mul_assoc (shape.times * shape.levels) shape.rows shape.columns in
    let one : 1 * (shape.rows * shape.columns) ≤ shape.times * shape.levels * (shape.rows * shape.columns) = mul-le-mul_right (shape.rows * shape.columns) (mul-pos h.times h.levels) in
    omega (arith, whole, one, one-mul (shape.rows * shape.columns), h.few)

module _ (s : Subject) (q : QueryValue) (i : InstanceValue) (each : TakesEach q.shape) (h : HasGrid i) (referencing : IsReferencing s.collection.referencing)
    (some : IsSome (chosen i q)) where
  abbrev c : Chosen
  c = chosen i q

  g : IsGrid i
  g = grid_from i h

  some_parameters : 0 < length (chosen_parameters i c)
  some_parameters = omega (arith, some_length c.parameters some.parameters, length-map c.parameters (parameter_at i.parameters))

  pub time_axis : IsNamedAxis T (times_of i c)
  time_axis = level_laws.time_axis q.times i.ts h.ts some.times

  spot_is : (spot : ℕ) → Contains c.spots spot → IsSpot (spot_of i spot)
  spot_is spot m = record {
    y = h.ys.within (row_of i.xs spot) (pos 0) (laws.row_below i q each g spot (laws.spot_below i q each g spot m));
    x = h.xs.within (column_of i.xs spot) (pos 0) (laws.column_below i q each g spot);
  }

  -- a cell of what is chosen lies in the grid
  cell_in : (t z spot : ℕ) → Contains c.times t → Contains c.levels z → Contains c.spots spot → Within i.grid.shape (place_at 0 (node_of i.xs spot t z))
  cell_in t z spot mt mz ms =
      laws.cell_within i q each g 0 t z spot h.some (laws.time_below i q each g t mt) (laws.level_below i q each g z mz) (laws.spot_below i q each g spot ms)

  -- ---- what is planned for one spot

  pub planned_at_is : (spot : ℕ) → Contains c.spots spot → IsPlanned i.grid.shape c.parameters (planned_at s i c spot)
  planned_at_is spot ms = record {
    head = head_is s (domain_at (times_of i c) (levels_of i c) (spot_of i spot)) (chosen_parameters i c) referencing
        (has_axes_at (times_of i c) (levels_of i c) (spot_of i spot) time_axis (level_axis (levels_asked q) i.zs h.zs some.levels)
        (one_value Y (spot_of i spot).0 (spot_is spot ms).y) (one_value X (spot_of i spot).1 (spot_is spot ms).x))
        (no_tuples_at (times_of i c) (levels_of i c) (spot_of i spot)) some_parameters
        (asked_are q.parameters i.parameters h.parameters) (asked_ascend q.parameters i.parameters h.ascending);
    bare = refl;
    as_many = length-map c.parameters (parameter_at i.parameters);
    count = count_at (times_of i c) (levels_of i c) (spot_of i spot)
        ∙ (ap₂ (λ a b. a * b) (length-map c.times (value_at i.ts)) (level_count (levels_asked q) i.zs some.levels)
        ∙ sym (count_cells_at i.xs spot c.times c.levels));
    cells = all_from_each (λ cell. Within i.grid.shape (place_at 0 cell)) (cells_at i.xs c spot)
        (each-flat_map_in (λ cell. Within i.grid.shape (place_at 0 cell)) (λ t. map (node_of i.xs spot t) c.levels) c.times (λ t mt.
        each-map_in (λ cell. Within i.grid.shape (place_at 0 cell)) (node_of i.xs spot t) c.levels (λ z mz. cell_in t z spot mt mz ms)));
  }

  -- ---- what is planned for all spots, at one time and level

  few_spots : length c.spots < 2 ^ 64
  few_spots =
      let kept : length c.spots ≤ length (range_with_len 0 (length i.ys * length i.xs)) =
      kept_few (λ spot. takes_node i q.shape (row_of i.xs spot) (column_of i.xs spot)) (range_with_len 0 (length i.ys * length i.xs)) in
      let plane : i.grid.shape.rows * i.grid.shape.columns ≡ length i.ys * length i.xs = ap₂ (λ a b. a * b) g.rows g.columns in
      omega (arith, kept, length-range_with_len 0 (length i.ys * length i.xs), plane, plane_few i.grid.shape h.is_shape)

  pub planned_along_is : (t z : ℕ) → Contains c.times t → Contains c.levels z → IsPlanned i.grid.shape c.parameters (planned_along s i c t z)
  planned_along_is t z mt mz = record {
    head = head_is s (domain_along i c t z) (chosen_parameters i c) referencing
        (has_axes_along (value_at i.ts t) (level_at i.zs z) (map (spot_of i) c.spots) (h.ts.within t (pos 0) (laws.time_below i q each g t mt)))
        (tuples_along (value_at i.ts t) (level_at i.zs z) (map (spot_of i) c.spots) (level_value i.zs z h.zs (laws.level_below i q each g z mz))
        (all_from_each IsSpot (map (spot_of i) c.spots) (each-map_in IsSpot (spot_of i) c.spots spot_is))
        (omega (arith, some_length c.spots some.spots, length-map c.spots (spot_of i)))
        (omega (arith, few_spots, length-map c.spots (spot_of i))))
        some_parameters (asked_are q.parameters i.parameters h.parameters) (asked_ascend q.parameters i.parameters h.ascending);
    bare = refl;
    as_many = length-map c.parameters (parameter_at i.parameters);
    count = count_along (value_at i.ts t) (level_at i.zs z) (map (spot_of i) c.spots)
        ∙ (length-map c.spots (spot_of i) ∙ sym (length-map c.spots (λ spot. node_of i.xs spot t z)));
    cells = all_from_each (λ cell. Within i.grid.shape (place_at 0 cell)) (cells_along i.xs c t z)
        (each-map_in (λ cell. Within i.grid.shape (place_at 0 cell)) (λ spot. node_of i.xs spot t z) c.spots (λ spot ms. cell_in t z spot mt mz ms));
  }

  -- ---- listings

  pub planned_at_are : Each (IsPlanned i.grid.shape c.parameters) (map (planned_at s i c) c.spots)
  planned_at_are = each-map_in (IsPlanned i.grid.shape c.parameters) (planned_at s i c) c.spots planned_at_is

  -- a listing of such coverages
  pub is_listing : (listing : ListingValue) (coverages : List PlannedValue) → listing.shape ≡ i.grid.shape → listing.parameters ≡ c.parameters → listing.coverages ≡ coverages
      → Each (IsPlanned i.grid.shape c.parameters) coverages → (listing.many ≡ false → length coverages ≡ 1) → IsListing listing
  is_listing listing coverages shape parameters are planned one = record {
    shape = subst IsShape (sym shape) h.is_shape;
    parameters = subst (λ (ps : List ℕ). All (λ p. p < listing.shape.parameters) ps) (sym parameters)
        (subst (λ (d : GridShape). All (λ p. p < d.parameters) c.parameters) (sym shape) below);
    coverages = subst (λ (ps : List PlannedValue). All (IsPlanned listing.shape listing.parameters) ps) (sym are)
        (subst (λ (ps : List ℕ). All (IsPlanned listing.shape ps) coverages) (sym parameters)
        (subst (λ (d : GridShape). All (IsPlanned d c.parameters) coverages) (sym shape) (all_from_each (IsPlanned i.grid.shape c.parameters) coverages planned)));
    alone = λ many. ap (λ (ps : List PlannedValue). length ps) are ∙ one many;
  }
    where
      below : All (λ p. p < i.grid.shape.parameters) c.parameters
      below k d l =
          let m : Contains c.parameters (slice_index_or c.parameters k d) = (k, l, get_or_default c.parameters k (slice_index_or c.parameters k d) d l) in
          omega (arith, laws.parameter_below i q each g (slice_index_or c.parameters k d) m, g.parameters)
