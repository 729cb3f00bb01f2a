-- The chunks that a query needs that selects by a test of nodes are the tiles of the nodes of its stack that are taken.
use Rattle.std.proofs.Common.{◌≡◌, ℕ, ◌<◌, ◌==◌, ◌||◌, Bool, true, false, List, length, refl, ap, sym, ◌∙◌, arith, Option}
use Rattle.std.specs.Prelude.{map, option_to_list}
use Rattle.std.specs.List.{list_any, range_with_len}
use Rattle.std.proofs.lemmas.List.Elements.{filter_agree}
use Rattle.edr_chunk.specs.AllPlaces.{at}
use Rattle.edr_chunk.specs.Tiles.{tiles, tile_of}
use Rattle.edr_edition.specs.Values.{InstanceValue}
use Rattle.edr_edition.specs.Stores.{Held, of_grid, Subject}
use Rattle.edr_query.specs.Values.{QueryValue}
use Rattle.edr_select.specs.declared.plans.GridNode.{GridNode}
use Rattle.edr_select.specs.Samples.{Stored, id_at, chunks_in, ascending_once}
use Rattle.edr_select.specs.Selections.{is_asked, picked, chunk_of, needed}
use Rattle.edr_select.specs.Listings.{place_at, tiles_of_range}
use Rattle.edr_select.specs.Framings.{taken}
use Rattle.edr_select.specs.Stacks.{StackValue, stack_cells, stacked_tiles}
use Rattle.edr_select.specs.ListLaws.{any-map, any-flat_map, both, passing, any_member}
use Rattle.edr_select.specs.KeptLaws.{contains_kept, kept_below, kept_passes}
use Rattle.edr_select.specs.BoxLaws.{passing_in, in_passing}
use Rattle.edr_select.specs.GridLaws.{IsGrid}
use Rattle.edr_lines.specs.Plans.{axes_of}
use Rattle.edr_lines.specs.Taken.{Counts, counts_of, NodeTest, AreSidesOf, HasBits}
use Rattle.edr_lines.proofs.TestedPicks.{SelectsBy, pick_found, found_pick}
use Rattle.edr_lines.proofs.StackSides.{same_levels, among, among_within}
use Rattle.edr_lines.proofs.StackCells.{node_if, cell_of, cells_boxed}
use Rattle.edr_lines.proofs.StackCoverages.{asked_places, stacking_over}

-- a test of a node, where there is one
abbrev any_in : (GridNode → Bool) → Option GridNode → Bool
any_in v cell = list_any v (option_to_list cell)

-- it passes where the node is taken and passes
record IsIn (b v : Bool) : Type 0 where
  set : b ≡ true
  passes : v ≡ true

or_false : (b : Bool) → (b || false) ≡ true → b ≡ true
or_false true h = refl
or_false false h = h

shown : (v : GridNode → Bool) (t z y x : ℕ) (b : Bool) → any_in v (node_if t z y x b) ≡ true → IsIn b (v (record { t = t; z = z; y = y; x = x }))
shown v t z y x true h = record { set = refl; passes = or_false (v (record { t = t; z = z; y = y; x = x })) h }
shown v t z y x false h = cc

hidden : (v : GridNode → Bool) (t z y x : ℕ) (b : Bool) → b ≡ true → v (record { t = t; z = z; y = y; x = x }) ≡ true → any_in v (node_if t z y x b) ≡ true
hidden v t z y x true e h = ap (λ b. b || false) h
hidden v t z y x false e h = cc

module _ (s : Subject) (q : QueryValue) (i : InstanceValue) (held : s.held ≡ of_grid i) (g : IsGrid i) (takes : NodeTest) (selects : SelectsBy s q i takes)
    (stack : StackValue) (are : AreSidesOf (counts_of (axes_of i)) takes stack.sides) (bits : HasBits takes stack) where
  abbrev n : Counts
  n = counts_of (axes_of i)

  abbrev times : List ℕ
  times = stack.sides.times

  abbrev levels : List ℕ
  levels = stack.sides.levels

  abbrev rows : List ℕ
  rows = range_with_len stack.sides.row stack.sides.rows

  abbrev columns : List ℕ
  columns = range_with_len stack.sides.column stack.sides.columns

  abbrev places : List ℕ
  places = asked_places q i

  -- the nodes that are taken
  abbrev cells : List GridNode
  cells = taken (stack_cells stack)

  abbrev tiles_read : List ℕ
  tiles_read = stacked_tiles (stacking_over s q i stack)

  -- a test of the tile of a node
  abbrev tile_test : (ℕ → Bool) → ℕ → GridNode → Bool
  tile_test u p cell = u (tile_of i.grid.shape (place_at p cell))

  any_cell : (u : ℕ → Bool) (p : ℕ) → list_any u (tiles_of_range i.grid.shape cells p) ≡ list_any (any_in (tile_test u p)) (stack_cells stack)
  any_cell u p = any-map u (λ cell. tile_of i.grid.shape (place_at p cell)) cells ∙ any-flat_map (tile_test u p) option_to_list (stack_cells stack)

  any_tile : (u : ℕ → Bool) → list_any u tiles_read ≡ list_any (λ p. list_any u (tiles_of_range i.grid.shape cells p)) places
  any_tile u = any-flat_map u (tiles_of_range i.grid.shape cells) places

  -- a tile that is read is that of a picked sample
  read_picked : (u : ℕ → Bool) → list_any u tiles_read ≡ true → list_any u (map chunk_of (picked s q)) ≡ true
  read_picked u h =
      let p = passing (λ p. list_any u (tiles_of_range i.grid.shape cells p)) places (sym (any_tile u) ∙ h) in
      let n = passing_in (any_in (tile_test u p.item)) (cell_of takes) times levels rows columns
      (sym (ap (list_any (any_in (tile_test u p.item))) (cells_boxed takes stack bits)) ∙ (sym (any_cell u p.item) ∙ p.passes)) in
      let b = shown (tile_test u p.item) n.t n.z n.y n.x (takes n.t n.z n.y n.x) n.passes in
      let below : p.item < length i.parameters = kept_below (λ k. is_asked q.parameters (id_at i.parameters k)) (length i.parameters) p.item p.among in
      any-map u chunk_of (picked s q)
      ∙ found_pick s q i held g takes selects (λ (x : Stored). u (chunk_of x)) (at p.item n.t n.z n.y n.x)
      (among_within i g takes stack.sides are p.item n.t n.z n.y n.x below (record { t_in = n.t_in; z_in = n.z_in; y_in = n.y_in; x_in = n.x_in }))
      (record { asked = kept_passes (λ k. is_asked q.parameters (id_at i.parameters k)) (length i.parameters) p.item p.among; node = b.set })
      b.passes

  -- and back
  picked_read : (u : ℕ → Bool) → list_any u (map chunk_of (picked s q)) ≡ true → list_any u tiles_read ≡ true
  picked_read u h =
      let f = pick_found s q i held g takes selects (λ (x : Stored). u (chunk_of x)) (sym (any-map u chunk_of (picked s q)) ∙ h) in
      let a = f.place in
      let m = among n takes stack.sides are a.t a.z a.y a.x (omega (arith, f.within.t, g.times)) (omega (arith, f.within.z, g.levels, same_levels i.zs)) (omega (arith, f.within.y, g.rows))
      (omega (arith, f.within.x, g.columns)) f.taken.node in
      let below : a.parameter < length i.parameters = omega (arith, f.within.parameter, g.parameters) in
      any_tile u
      ∙ any_member (λ p. list_any u (tiles_of_range i.grid.shape cells p)) places a.parameter
      (contains_kept (λ k. is_asked q.parameters (id_at i.parameters k)) (length i.parameters) a.parameter below f.taken.asked)
      (any_cell u a.parameter
      ∙ (ap (list_any (any_in (tile_test u a.parameter))) (cells_boxed takes stack bits)
      ∙ in_passing (any_in (tile_test u a.parameter)) (cell_of takes) times levels rows columns a.t a.z a.y a.x m.t_in m.z_in m.y_in m.x_in
      (hidden (tile_test u a.parameter) a.t a.z a.y a.x (takes a.t a.z a.y a.x) f.taken.node f.passes)))

  pub stack_chunks : ascending_once (tiles i.grid.shape) tiles_read ≡ needed s q
  stack_chunks =
      filter_agree (λ k. list_any (λ n. n == k) tiles_read) (λ k. list_any (λ n. n == k) (map chunk_of (picked s q)))
      (λ k. both (list_any (λ n. n == k) tiles_read) (list_any (λ n. n == k) (map chunk_of (picked s q))) (read_picked (λ n. n == k)) (picked_read (λ n. n == k)))
      (range_with_len 0 (tiles i.grid.shape))
      ∙ sym (ap (λ (h : Held). ascending_once (chunks_in h) (map chunk_of (picked s q))) held)
