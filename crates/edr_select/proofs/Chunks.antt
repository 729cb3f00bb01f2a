-- The chunks that a query needs are the tiles of the cells that are chosen.
use Rattle.std.proofs.Common.{◌≡◌, ℕ, zero, suc, ◌||◌, ◌+◌, ◌*◌, ◌<◌, ◌==◌, Bool, true, false, List, [], ◌∷◌, length, refl, ap, ap₂, sym, ◌∙◌, subst, arith, ℤ, Contains}
use Rattle.std.specs.Prelude.{map}
use Rattle.std.specs.List.{flat_map, list_any, range_with_len, slice_index_or}
use Rattle.std.proofs.lemmas.Nat.{div-mul-add, mod-mul-add}
use Rattle.std.proofs.lemmas.List.Elements.{filter_agree}
use Rattle.edr_chunk.specs.declared.shapes.GridShape.{GridShape}
use Rattle.edr_chunk.specs.declared.shapes.GridPlace.{GridPlace}
use Rattle.edr_chunk.specs.AllPlaces.{at}
use Rattle.edr_chunk.specs.Tiles.{tiles, tile_of}
use Rattle.edr_edition.specs.Values.{InstanceValue}
use Rattle.edr_edition.specs.Stores.{Held, of_grid, Subject}
use Rattle.edr_query.specs.Values.{QueryValue}
use Rattle.edr_select.specs.declared.plans.GridNode.{GridNode}
use Rattle.edr_select.specs.Samples.{Stored, chunks_in, ascending_once}
use Rattle.edr_select.specs.Selections.{chunk_of, needed}
use Rattle.edr_select.specs.Choices.{TakesEach, Chosen, chosen, node_of, cells_at, cells_along}
use Rattle.edr_select.specs.Listings.{PlannedValue, ListingValue, place_at, tiles_of_range, tiles_of_coverage, listing_tiles}
use Rattle.edr_select.specs.ListLaws.{any-map, any-flat_map, any_agree, both, passing, any_member, member_here}
use Rattle.edr_select.specs.GridLaws.{IsGrid}
use Rattle.edr_select.proofs.Picks.{picks_at, picked_is, pick_found}
use Rattle.edr_select.proofs.ChosenLaws as laws
use Rattle.edr_select.proofs.Coverages.{planned_at, planned_along}

-- the tile of a parameter, a time and a level at a spot
abbrev pub tile_at : InstanceValue → ℕ → ℕ → ℕ → ℕ → ℕ
tile_at i p t z spot = tile_of i.grid.shape (place_at p (node_of i.xs spot t z))

-- a chosen tile that passes
pub record TilePasses (i : InstanceValue) (c : Chosen) (u : ℕ → Bool) : Type 0 where
  pub p : ℕ
  pub t : ℕ
  pub z : ℕ
  pub spot : ℕ
  pub p_in : Contains c.parameters p
  pub t_in : Contains c.times t
  pub z_in : Contains c.levels z
  pub spot_in : Contains c.spots spot
  pub passes : u (tile_at i p t z spot) ≡ true

-- the members of the numbers are the tiles of what is chosen, in any order and any number of times
pub record HasTiles (i : InstanceValue) (c : Chosen) (numbers : List ℕ) : Type 0 where
  pub only : (u : ℕ → Bool) → list_any u numbers ≡ true → TilePasses i c u
  pub all : (u : ℕ → Bool) (p t z spot : ℕ) → Contains c.parameters p → Contains c.times t → Contains c.levels z → Contains c.spots spot
      → u (tile_at i p t z spot) ≡ true → list_any u numbers ≡ true

module _ (i : InstanceValue) (q : QueryValue) (each : TakesEach q.shape) (g : IsGrid i) where
  abbrev c : Chosen
  c = chosen i q

  abbrev picks : List Stored
  picks = picks_at i q

  -- the place of a chosen node, by its number
  same_tile : (a : GridPlace) → a.x < length i.xs → tile_at i a.parameter a.t a.z (a.y * length i.xs + a.x) ≡ tile_of i.grid.shape a
  same_tile a inside =
      ap₂ (λ y x. tile_of i.grid.shape (at a.parameter a.t a.z y x)) (div-mul-add a.y (length i.xs) a.x inside) (mod-mul-add a.y (length i.xs) a.x inside)

  -- the chunks of what is picked are such numbers
  pub picks_have_tiles : HasTiles i c (map chunk_of picks)
  picks_have_tiles = record {
    only = λ u h.
        let f = pick_found i q each (λ (x : Stored). u (chunk_of x)) (sym (any-map u chunk_of picks) ∙ h) in
        let m = laws.taken_chosen i q each g f.place f.within f.taken in
        record {
          p = f.place.parameter;
          t = f.place.t;
          z = f.place.z;
          spot = f.place.y * length i.xs + f.place.x;
          p_in = m.parameter;
          t_in = m.time;
          z_in = m.level;
          spot_in = m.spot;
          passes = ap u (same_tile f.place (omega (arith, f.within.x, g.columns))) ∙ f.passes;
        };
    all = λ u p t z spot mp mt mz ms h.
        any-map u chunk_of picks ∙ laws.pick_at i q each g (λ (x : Stored). u (chunk_of x)) p t z spot mp mt mz ms h;
  }

  -- two such lists give the same numbers, ascending, each once
  pub same_numbers : (count : ℕ) (xs ys : List ℕ) → HasTiles i c xs → HasTiles i c ys → ascending_once count xs ≡ ascending_once count ys
  same_numbers count xs ys x y =
      filter_agree (λ k. list_any (λ n. n == k) xs) (λ k. list_any (λ n. n == k) ys) (λ k.
      both (list_any (λ n. n == k) xs) (list_any (λ n. n == k) ys)
      (λ h. let f = x.only (λ n. n == k) h in y.all (λ n. n == k) f.p f.t f.z f.spot f.p_in f.t_in f.z_in f.spot_in f.passes)
      (λ h. let f = y.only (λ n. n == k) h in x.all (λ n. n == k) f.p f.t f.z f.spot f.p_in f.t_in f.z_in f.spot_in f.passes)) (range_with_len 0 count)

-- ---- the tiles of plans

any_range : (u : ℕ → Bool) (shape : GridShape) (cells : List GridNode) (p : ℕ)
    → list_any u (tiles_of_range shape cells p) ≡ list_any (λ cell. u (tile_of shape (place_at p cell))) cells
any_range u shape cells p = any-map u (λ cell. tile_of shape (place_at p cell)) cells

-- a test of the tiles of a coverage
any_coverage : (u : ℕ → Bool) (shape : GridShape) (ps : List ℕ) (planned : PlannedValue)
    → list_any u (tiles_of_coverage shape ps planned) ≡ list_any (λ p. list_any u (tiles_of_range shape planned.cells p)) ps
any_coverage u shape ps planned = any-flat_map u (tiles_of_range shape planned.cells) ps

or_false : (b : Bool) → (b || false) ≡ b
or_false true = refl
or_false false = refl

at_start : (x y k : ℕ) → k < 1 → slice_index_or (y ∷ []) k x ≡ x → x ≡ y
at_start x y zero l e = sym e
at_start x y (suc k) l e = absurd (omega arith)

only_member : (x y : ℕ) (xs : List ℕ) → xs ≡ y ∷ [] → Contains xs x → x ≡ y
only_member x y xs e m = let n : Contains (y ∷ []) x = subst (λ (ys : List ℕ). Contains ys x) e m in at_start x y n.0 n.1 n.2

-- a test of the cells of a spot
any_cell : (v : GridNode → Bool) (xs : List ℤ) (c : Chosen) (spot : ℕ)
    → list_any v (cells_at xs c spot) ≡ list_any (λ t. list_any (λ z. v (node_of xs spot t z)) c.levels) c.times
any_cell v xs c spot =
    any-flat_map v (λ t. map (node_of xs spot t) c.levels) c.times
    ∙ any_agree (λ t. list_any v (map (node_of xs spot t) c.levels)) (λ t. list_any (λ z. v (node_of xs spot t z)) c.levels)
    (λ t. any-map v (node_of xs spot t) c.levels) c.times

module _ (s : Subject) (i : InstanceValue) (c : Chosen) where
  -- some tile passes: of a parameter, a time and a spot, of a parameter and a spot, of a spot, of all
  abbrev some_level : (ℕ → Bool) → ℕ → ℕ → ℕ → Bool
  some_level u spot p t = list_any (λ z. u (tile_at i p t z spot)) c.levels

  abbrev some_time : (ℕ → Bool) → ℕ → ℕ → Bool
  some_time u spot p = list_any (some_level u spot p) c.times

  abbrev some_parameter : (ℕ → Bool) → ℕ → Bool
  some_parameter u spot = list_any (some_time u spot) c.parameters

  any_time : (u : ℕ → Bool) (spot p : ℕ) → list_any u (tiles_of_range i.grid.shape (cells_at i.xs c spot) p) ≡ some_time u spot p
  any_time u spot p = any_range u i.grid.shape (cells_at i.xs c spot) p ∙ any_cell (λ cell. u (tile_of i.grid.shape (place_at p cell))) i.xs c spot

  any_parameter : (u : ℕ → Bool) (spot : ℕ) → list_any u (tiles_of_coverage i.grid.shape c.parameters (planned_at s i c spot)) ≡ some_parameter u spot
  any_parameter u spot =
      any_coverage u i.grid.shape c.parameters (planned_at s i c spot)
      ∙ any_agree (λ p. list_any u (tiles_of_range i.grid.shape (cells_at i.xs c spot) p)) (some_time u spot) (any_time u spot) c.parameters

  any_spot : (u : ℕ → Bool)
      → list_any u (flat_map (tiles_of_coverage i.grid.shape c.parameters) (map (planned_at s i c) c.spots)) ≡ list_any (some_parameter u) c.spots
  any_spot u =
      any-flat_map u (tiles_of_coverage i.grid.shape c.parameters) (map (planned_at s i c) c.spots)
      ∙ (any-map (λ planned. list_any u (tiles_of_coverage i.grid.shape c.parameters planned)) (planned_at s i c) c.spots
      ∙ any_agree (λ spot. list_any u (tiles_of_coverage i.grid.shape c.parameters (planned_at s i c spot))) (some_parameter u) (any_parameter u) c.spots)

  spot_passes : (u : ℕ → Bool) → list_any (some_parameter u) c.spots ≡ true → TilePasses i c u
  spot_passes u h =
      let spot = passing (some_parameter u) c.spots h in
      let p = passing (some_time u spot.item) c.parameters spot.passes in
      let t = passing (some_level u spot.item p.item) c.times p.passes in
      let z = passing (λ z. u (tile_at i p.item t.item z spot.item)) c.levels t.passes in
      record {
        p = p.item;
        t = t.item;
        z = z.item;
        spot = spot.item;
        p_in = p.among;
        t_in = t.among;
        z_in = z.among;
        spot_in = spot.among;
        passes = z.passes;
      }

  passes_spot : (u : ℕ → Bool) (p t z spot : ℕ) → Contains c.parameters p → Contains c.times t → Contains c.levels z → Contains c.spots spot
      → u (tile_at i p t z spot) ≡ true → list_any (some_parameter u) c.spots ≡ true
  passes_spot u p t z spot mp mt mz ms h =
      any_member (some_parameter u) c.spots spot ms
      (any_member (some_time u spot) c.parameters p mp (any_member (some_level u spot p) c.times t mt (any_member (λ k. u (tile_at i p t k spot)) c.levels z mz h)))

  -- of each spot in turn
  pub spots_have_tiles : HasTiles i c (flat_map (tiles_of_coverage i.grid.shape c.parameters) (map (planned_at s i c) c.spots))
  spots_have_tiles = record {
    only = λ u h. spot_passes u (sym (any_spot u) ∙ h);
    all = λ u p t z spot mp mt mz ms h. any_spot u ∙ passes_spot u p t z spot mp mt mz ms h;
  }

  -- of all spots at one time and level
  pub along_has_tiles : (t z : ℕ) → c.times ≡ t ∷ [] → c.levels ≡ z ∷ []
      → HasTiles i c (flat_map (tiles_of_coverage i.grid.shape c.parameters) (planned_along s i c t z ∷ []))
  along_has_tiles t z time_is level_is = record {
    only = λ u h. from_along u (sym (any_along u) ∙ h);
    all = λ u p t' z' spot mp mt mz ms h.
        any_along u
        ∙ any_member (λ k. list_any (λ n. u (tile_at i k t z n)) c.spots) c.parameters p mp
        (any_member (λ n. u (tile_at i p t z n)) c.spots spot ms
        (ap₂ (λ a b. u (tile_at i p a b spot)) (sym (only_member t' t c.times time_is mt)) (sym (only_member z' z c.levels level_is mz)) ∙ h));
  }
    where
      any_along : (u : ℕ → Bool) → list_any u (flat_map (tiles_of_coverage i.grid.shape c.parameters) (planned_along s i c t z ∷ []))
          ≡ list_any (λ p. list_any (λ spot. u (tile_at i p t z spot)) c.spots) c.parameters
      any_along u =
          any-flat_map u (tiles_of_coverage i.grid.shape c.parameters) (planned_along s i c t z ∷ [])
          ∙ (or_false (list_any u (tiles_of_coverage i.grid.shape c.parameters (planned_along s i c t z)))
          ∙ (any_coverage u i.grid.shape c.parameters (planned_along s i c t z)
          ∙ any_agree (λ p. list_any u (tiles_of_range i.grid.shape (cells_along i.xs c t z) p)) (λ p. list_any (λ spot. u (tile_at i p t z spot)) c.spots)
          (λ p. any_range u i.grid.shape (cells_along i.xs c t z) p ∙ any-map (λ cell. u (tile_of i.grid.shape (place_at p cell))) (λ spot. node_of i.xs spot t z) c.spots)
          c.parameters))

      from_along : (u : ℕ → Bool) → list_any (λ p. list_any (λ spot. u (tile_at i p t z spot)) c.spots) c.parameters ≡ true → TilePasses i c u
      from_along u h =
          let p = passing (λ k. list_any (λ spot. u (tile_at i k t z spot)) c.spots) c.parameters h in
          let spot = passing (λ n. u (tile_at i p.item t z n)) c.spots p.passes in
          record {
            p = p.item;
            t = t;
            z = z;
            spot = spot.item;
            p_in = p.among;
            t_in = subst (λ (ys : List ℕ). Contains ys t) (sym time_is) (member_here t []);
            z_in = subst (λ (ys : List ℕ). Contains ys z) (sym level_is) (member_here z []);
            spot_in = spot.among;
            passes = spot.passes;
          }

-- ---- a plan's chunks

module _ (s : Subject) (q : QueryValue) (i : InstanceValue) (held : s.held ≡ of_grid i) (each : TakesEach q.shape) (g : IsGrid i) where
  abbrev choice : Chosen
  choice = chosen i q

  -- the chunks that a query needs are those of any list with these members
  pub chunks_are : (numbers : List ℕ) → HasTiles i choice numbers → ascending_once (tiles i.grid.shape) numbers ≡ needed s q
  chunks_are numbers h =
      same_numbers i q each g (tiles i.grid.shape) numbers (map chunk_of (picks_at i q)) h (picks_have_tiles i q each g)
      ∙ sym (ap (λ (picks : List Stored). ascending_once (chunks_in s.held) (map chunk_of picks)) (picked_is s q i held each)
      ∙ ap (λ (h' : Held). ascending_once (chunks_in h') (map chunk_of (picks_at i q))) held)

  -- a plan with these coverages opens what the query needs
  plan_chunks : (plan : ListingValue) (coverages : List PlannedValue) → plan.shape ≡ i.grid.shape → plan.parameters ≡ choice.parameters → plan.coverages ≡ coverages
      → HasTiles i choice (flat_map (tiles_of_coverage i.grid.shape choice.parameters) coverages) → ascending_once (tiles plan.shape) (listing_tiles plan) ≡ needed s q
  plan_chunks plan coverages is_shape parameters are h =
      ap (λ (d : GridShape). ascending_once (tiles d) (flat_map (tiles_of_coverage d plan.parameters) plan.coverages)) is_shape
      ∙ (ap (λ (ps : List ℕ). ascending_once (tiles i.grid.shape) (flat_map (tiles_of_coverage i.grid.shape ps) plan.coverages)) parameters
      ∙ (ap (λ (ps : List PlannedValue). ascending_once (tiles i.grid.shape) (flat_map (tiles_of_coverage i.grid.shape choice.parameters) ps)) are
      ∙ chunks_are (flat_map (tiles_of_coverage i.grid.shape choice.parameters) coverages) h))

  -- of each spot in turn
  pub chunks_of_spots : (plan : ListingValue) → plan.shape ≡ i.grid.shape → plan.parameters ≡ choice.parameters
      → plan.coverages ≡ map (planned_at s i choice) choice.spots
      → ascending_once (tiles plan.shape) (listing_tiles plan) ≡ needed s q
  chunks_of_spots plan is_shape parameters are = plan_chunks plan (map (planned_at s i choice) choice.spots) is_shape parameters are (spots_have_tiles s i choice)

  -- of one spot
  pub chunks_of_spot : (spot : ℕ) → choice.spots ≡ spot ∷ [] → (plan : ListingValue) → plan.shape ≡ i.grid.shape → plan.parameters ≡ choice.parameters
      → plan.coverages ≡ planned_at s i choice spot ∷ [] → ascending_once (tiles plan.shape) (listing_tiles plan) ≡ needed s q
  chunks_of_spot spot spot_is plan is_shape parameters are = chunks_of_spots plan is_shape parameters (are ∙ sym (ap (map (planned_at s i choice)) spot_is))

  -- of all spots at one time and level
  pub chunks_along : (t z : ℕ) → choice.times ≡ t ∷ [] → choice.levels ≡ z ∷ [] → (plan : ListingValue) → plan.shape ≡ i.grid.shape
      → plan.parameters ≡ choice.parameters
      → plan.coverages ≡ planned_along s i choice t z ∷ [] → ascending_once (tiles plan.shape) (listing_tiles plan) ≡ needed s q
  chunks_along t z time_is level_is plan is_shape parameters are =
      plan_chunks plan (planned_along s i choice t z ∷ []) is_shape parameters are (along_has_tiles s i choice t z time_is level_is)
