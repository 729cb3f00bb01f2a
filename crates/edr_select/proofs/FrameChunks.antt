-- The chunks that a query of an area needs are the tiles of the nodes of its frame that are taken.
use Rattle.std.proofs.Common.{◌≡◌, ℕ, ◌+◌, ◌*◌, ◌<◌, ◌||◌, Bool, true, false, List, length, refl, ap, ap₂, sym, ◌∙◌, mod-lt, Contains, Option, None, Some}
use Rattle.std.specs.Prelude.{if◌then◌else◌, option_to_list}
use Rattle.std.specs.List.{flat_map, list_any, range_with_len}
use Rattle.std.proofs.lemmas.Nat.{div-mul-add, mod-mul-add, div_below}
use Rattle.edr_chunk.specs.AllPlaces.{at}
use Rattle.edr_chunk.specs.Tiles.{tiles, tile_of}
use Rattle.edr_edition.specs.Values.{InstanceValue}
use Rattle.edr_edition.specs.Stores.{of_grid, Subject}
use Rattle.edr_query.specs.Values.{QueryValue}
use Rattle.edr_select.specs.declared.plans.GridNode.{GridNode}
use Rattle.edr_select.specs.Samples.{ascending_once}
use Rattle.edr_select.specs.Selections.{needed}
use Rattle.edr_select.specs.Choices.{TakesEach, takes_node, Chosen, chosen, row_of, column_of}
use Rattle.edr_select.specs.Listings.{place_at, tiles_of_range}
use Rattle.edr_select.specs.Framings.{FrameValue, is_set, cell_at, frame_cells, taken}
use Rattle.edr_select.specs.Masks.{MaskValue, IsMask, frame_with}
use Rattle.edr_select.specs.ListLaws.{any-map, any-flat_map, passing, any_member}
use Rattle.edr_select.specs.KeptLaws.{kept_below, kept_passes}
use Rattle.edr_select.specs.BoxLaws.{contains_from, passing_in, in_passing}
use Rattle.edr_select.specs.GridLaws.{IsGrid}
use Rattle.edr_select.proofs.FrameValues.{row_below, column_below, set_is, spot_in}
use Rattle.edr_select.proofs.Chunks.{tile_at, HasTiles, chunks_are}

-- a test of a node, where it is taken
abbrev any_in : (GridNode → Bool) → Option GridNode → Bool
any_in v cell = list_any v (option_to_list cell)

-- it passes where the node is taken and passes
record IsIn (b v : Bool) : Type 0 where
  set : b ≡ true
  passes : v ≡ true

or_false : (b : Bool) → (b || false) ≡ true → b ≡ true
or_false true h = refl
or_false false h = h

shown : (v : GridNode → Bool) (cell : GridNode) (b : Bool) → any_in v (if b then Some cell else None) ≡ true → IsIn b (v cell)
shown v cell true h = record { set = refl; passes = or_false (v cell) h }
shown v cell false h = cc

hidden : (v : GridNode → Bool) (cell : GridNode) (b : Bool) → b ≡ true → v cell ≡ true → any_in v (if b then Some cell else None) ≡ true
hidden v cell true e h = ap (λ b. b || false) h
hidden v cell false e h = cc

module _ (i : InstanceValue) (q : QueryValue) (each : TakesEach q.shape) (g : IsGrid i) (mask : MaskValue) (m : IsMask i q.shape mask) where
  abbrev c : Chosen
  c = chosen i q

  abbrev frame : FrameValue
  frame = frame_with i q mask

  abbrev rows : List ℕ
  rows = range_with_len mask.row mask.rows

  abbrev columns : List ℕ
  columns = range_with_len mask.column mask.columns

  -- the nodes that are taken
  abbrev cells : List GridNode
  cells = taken (frame_cells frame)

  abbrev pub frame_tiles : List ℕ
  frame_tiles = flat_map (tiles_of_range i.grid.shape cells) c.parameters

  -- a test of the tile of a node
  abbrev tile_test : (ℕ → Bool) → ℕ → GridNode → Bool
  tile_test u p cell = u (tile_of i.grid.shape (place_at p cell))

  any_cell : (u : ℕ → Bool) (p : ℕ) → list_any u (tiles_of_range i.grid.shape cells p) ≡ list_any (any_in (tile_test u p)) (frame_cells frame)
  any_cell u p = any-map u (λ cell. tile_of i.grid.shape (place_at p cell)) cells ∙ any-flat_map (tile_test u p) option_to_list (frame_cells frame)

  any_tile : (u : ℕ → Bool) → list_any u frame_tiles ≡ list_any (λ p. list_any u (tiles_of_range i.grid.shape cells p)) c.parameters
  any_tile u = any-flat_map u (tiles_of_range i.grid.shape cells) c.parameters

  -- the tile of a node, by its number
  numbered : (p t z y x : ℕ) → x < length i.xs → tile_at i p t z (y * length i.xs + x) ≡ tile_of i.grid.shape (at p t z y x)
  numbered p t z y x inside =
      ap₂ (λ a b. tile_of i.grid.shape (at p t z a b)) (div-mul-add y (length i.xs) x inside) (mod-mul-add y (length i.xs) x inside)

  tile_passes : (u : ℕ → Bool) (p t z y x : ℕ) → x < length i.xs → u (tile_of i.grid.shape (at p t z y x)) ≡ true → u (tile_at i p t z (y * length i.xs + x)) ≡ true
  tile_passes u p t z y x inside h = ap u (numbered p t z y x inside) ∙ h

  node_in : (y x : ℕ) → y < length i.ys → x < length i.xs → takes_node i q.shape y x ≡ true → Contains rows y × Contains columns x
  node_in y x hy hx h =
      let b = m.outside y x hy hx h in
      (contains_from mask.row mask.rows y b.low b.high, contains_from mask.column mask.columns x b.left b.right)

  -- the tiles of a frame are those of what is chosen
  pub frame_has_tiles : HasTiles i c frame_tiles
  frame_has_tiles = record {
    only = λ u h.
        let p = passing (λ p. list_any u (tiles_of_range i.grid.shape cells p)) c.parameters (sym (any_tile u) ∙ h) in
        let n = passing_in (any_in (tile_test u p.item)) (cell_at frame) c.times c.levels rows columns (sym (any_cell u p.item) ∙ p.passes) in
        let node : GridNode = record { t = n.t; z = n.z; y = n.y; x = n.x } in
        let b = shown (tile_test u p.item) node (is_set frame n.y n.x) n.passes in
        let hy : n.y < length i.ys = row_below i q each g mask m n.y n.y_in in
        let hx : n.x < length i.xs = column_below i q each g mask m n.x n.x_in in
        record {
          p = p.item;
          t = n.t;
          z = n.z;
          spot = n.y * length i.xs + n.x;
          p_in = p.among;
          t_in = n.t_in;
          z_in = n.z_in;
          spot_in = spot_in i q each g mask m n.y n.x hy hx (sym (set_is i q each g mask m n.y n.x n.y_in n.x_in) ∙ b.set);
          passes = tile_passes u p.item n.t n.z n.y n.x hx b.passes;
        };
    all = λ u p t z spot mp mt mz ms h.
        let y : ℕ = row_of i.xs spot in
        let x : ℕ = column_of i.xs spot in
        let below : spot < length i.ys * length i.xs = kept_below (λ n. takes_node i q.shape (row_of i.xs n) (column_of i.xs n)) (length i.ys * length i.xs) spot ms in
        let takes : takes_node i q.shape y x ≡ true = kept_passes (λ n. takes_node i q.shape (row_of i.xs n) (column_of i.xs n)) (length i.ys * length i.xs) spot ms in
        let b = node_in y x (div_below spot (length i.xs) (length i.ys) g.xs.some below) (mod-lt spot g.xs.some) takes in
        any_tile u
        ∙ any_member (λ p. list_any u (tiles_of_range i.grid.shape cells p)) c.parameters p mp
        (any_cell u p
        ∙ in_passing (any_in (tile_test u p)) (cell_at frame) c.times c.levels rows columns t z y x mt mz b.0 b.1
        (hidden (tile_test u p) (record { t = t; z = z; y = y; x = x }) (is_set frame y x) (set_is i q each g mask m y x b.0 b.1 ∙ takes) h));
  }

  -- and so they are the chunks that the query needs
  pub frame_chunks : (s : Subject) → s.held ≡ of_grid i → ascending_once (tiles i.grid.shape) frame_tiles ≡ needed s q
  frame_chunks s held = chunks_are s q i held each g frame_tiles frame_has_tiles
