-- The tile of some rows in a column of tiles, and its values.
use Rattle.std.proofs.Common.{◌≡◌, ℕ, ◌+◌, ◌*◌, ◌/◌, ◌<◌, Bool, true, false, ℤ, Option, None, Some, refl, ap, sym, ◌∙◌, subst, arith}
use Rattle.std.specs.Prelude.{if◌then◌else◌}
use Rattle.edr_chunk.specs.declared.shapes.GridShape.{GridShape}
use Rattle.edr_chunk.specs.AllPlaces.{at}
use Rattle.edr_chunk.specs.Places.{Within}
use Rattle.edr_chunk.specs.Grids as chunk
use Rattle.edr_chunk.specs.Grids.{value}
use Rattle.edr_chunk.specs.Tiles.{tile_shape, tiles, tile_of, TileValue, IsTile, LiesIn, value_in}
use Rattle.edr_edition.specs.Stores.{Held, of_grid, of_stations, HasTile}
use Rattle.edr_send.specs.Filling.{grid_of}
use Rattle.edr_select.specs.Framings.{FrameValue, is_set, cell_at, cell_value}
use Rattle.edr_send.specs.Strips.{tile_across}

pub has_number : (held : Held) (k : ℕ) → k < tiles (grid_of held).shape → HasTile held k
has_number (of_grid instance) k l = l
has_number (of_stations parameters stations) k l = absurd (omega (arith, l))

-- the tile of a node in its row of tiles and its column of tiles
same_tile : (shape : GridShape) (p t z from y x across : ℕ) → y / 64 ≡ from / 64 → x / 64 ≡ across → tile_of shape (at p t z y x) ≡ tile_across shape p t z from across
same_tile shape p t z from y x across e f =
    ap (λ (r : ℕ). (((p * shape.times + t) * shape.levels + z) * (tile_shape shape).rows + r) * (tile_shape shape).columns + x / 64) e
    ∙ ap (λ (k : ℕ). (((p * shape.times + t) * shape.levels + z) * (tile_shape shape).rows + from / 64) * (tile_shape shape).columns + k) (f ∙ sym (back across))
  where
    back : (across : ℕ) → across * 64 / 64 ≡ across
    back across = omega arith

module _ (grid : chunk.Values) (shape : GridShape) (e : shape ≡ grid.shape) (p t z from across : ℕ) (opened : TileValue) (is : IsTile grid (tile_across shape p t z from across) opened) where
  there : (y x : ℕ) → y / 64 ≡ from / 64 → x / 64 ≡ across → tile_of grid.shape (at p t z y x) ≡ tile_across shape p t z from across
  there y x down right = ap (λ (s : GridShape). tile_of s (at p t z y x)) (sym e) ∙ same_tile shape p t z from y x across down right

  pub lies_in : (y x : ℕ) → Within shape (at p t z y x) → y / 64 ≡ from / 64 → x / 64 ≡ across → LiesIn opened y x
  lies_in y x within down right = is.lies (at p t z y x) (subst (λ (s : GridShape). Within s (at p t z y x)) e within) (there y x down right)

  value_is : (y x : ℕ) → Within shape (at p t z y x) → y / 64 ≡ from / 64 → x / 64 ≡ across → value_in opened y x ≡ value grid (at p t z y x)
  value_is y x within down right = is.same (at p t z y x) (subst (λ (s : GridShape). Within s (at p t z y x)) e within) (there y x down right)

  cell_from : (y x : ℕ) (b : Bool) (v w : Option ℤ) → v ≡ value grid (at p t z y x) → w ≡ None → (if b then v else w) ≡ cell_value grid p (if b then Some (record { t = t; z = z; y = y; x = x }) else None)
  cell_from y x true v w f g = f
  cell_from y x false v w f g = g

  -- a value that was put there, or was none, is the cell's
  pub cell_filled : (frame : FrameValue) (y x : ℕ) (w : Option ℤ) → Within shape (at p t z y x) → y / 64 ≡ from / 64 → x / 64 ≡ across → w ≡ None
      → (if is_set frame y x then value_in opened y x else w) ≡ cell_value grid p (cell_at frame t z y x)
  cell_filled frame y x w within down right none = cell_from y x (is_set frame y x) (value_in opened y x) w (value_is y x within down right) none

-- a cell that isn't taken has no value
pub cell_blank : (grid : chunk.Values) (p t z y x : ℕ) (frame : FrameValue) → is_set frame y x ≡ false → None ≡ cell_value grid p (cell_at frame t z y x)
cell_blank grid p t z y x frame none = blank (is_set frame y x) none
  where
    blank : (b : Bool) → b ≡ false → None ≡ cell_value grid p (if b then Some (record { t = t; z = z; y = y; x = x }) else None)
    blank true h = cc
    blank false h = refl
