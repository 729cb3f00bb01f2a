-- The tiles of bands that rise, rise.
use Rattle.std.proofs.Common.{◌≡◌, ℕ, ◌+◌, ◌*◌, ◌/◌, ◌<◌, ◌≤◌, ap, ◌∙◌, arith, inl, inr}
use Rattle.std.proofs.Math.Nat.{mul-le-mul_right}
use Rattle.std.proofs.lemmas.Bool.{cases_lt}
use Rattle.edr_chunk.specs.declared.shapes.GridShape.{GridShape}
use Rattle.edr_chunk.specs.AllPlaces.{at}
use Rattle.edr_chunk.specs.Places.{Within, nodes, NumbersTellPlaces}
use Rattle.edr_chunk.specs.Tiles.{tile_shape, tile_place, tiles, tile_of}
use Rattle.edr_chunk.specs.LawsOfPlaces.{TilesAreNumbered}
use Rattle.edr_select.specs.declared.plans.GridNode.{GridNode}
use Rattle.edr_select.specs.Listings.{place_at}
use Rattle.edr_send.specs.Bands.{first_tile, band_of}

-- rows of places, each as wide as the others
pub row_above : (a b x wide : ℕ) → a < b → x < wide → a * wide + x < b * wide
row_above a b x wide l inside =
    let m : (a + 1) * wide ≤ b * wide = mul-le-mul_right wide (up a b l) in
    omega (arith, m, more a wide, inside)
  where
    up : (a b : ℕ) → a < b → a + 1 ≤ b
    up a b l = omega arith

    more : (a wide : ℕ) → (a + 1) * wide ≡ a * wide + wide
    more a wide = omega arith

row_told : (a b wide : ℕ) → a * wide < b * wide → a < b
row_told a b wide l = elim (cases_lt a b) [
  | inl below ↦ below
  | inr above ↦ let m : b * wide ≤ a * wide = mul-le-mul_right wide above in absurd (omega (arith, m, l))
]

-- a node's band among those of its parameter
abbrev row_of : GridShape → GridNode → ℕ
row_of shape cell = (cell.t * (tile_shape shape).levels + cell.z) * (tile_shape shape).rows + cell.y / 64

abbrev wide_of : GridShape → ℕ
wide_of shape = (tile_shape shape).columns

module _ (shape : GridShape) (tiled : TilesAreNumbered shape) (numbered : NumbersTellPlaces (tile_shape shape)) where
  -- the tiles of a parameter stand behind those of the parameters before
  abbrev pub behind : ℕ → ℕ
  behind p = p * nodes (tile_shape shape)

  tile_is : (p : ℕ) (cell : GridNode) → tile_of shape (place_at p cell) ≡ behind p + (row_of shape cell * wide_of shape + cell.x / 64)
  tile_is p cell = numbered.by_node (tile_place (place_at p cell))

  first_is : (p : ℕ) (cell : GridNode) → first_tile shape p cell ≡ behind p + row_of shape cell * wide_of shape
  first_is p cell = numbered.by_node (tile_place (at p cell.t cell.z cell.y 0)) ∙ ap (λ (k : ℕ). behind p + k) (none (row_of shape cell * wide_of shape))
    where
      none : (k : ℕ) → k + 0 / 64 ≡ k
      none k = omega arith

  band_is : (cell : GridNode) → band_of shape cell ≡ row_of shape cell * wide_of shape
  band_is cell = first_is 0 cell ∙ none (nodes (tile_shape shape)) (row_of shape cell * wide_of shape)
    where
      none : (n k : ℕ) → 0 * n + k ≡ k
      none n k = omega arith

  -- the tile of a node stands below the bands above its own
  pub below_band : (p : ℕ) (a b : GridNode) → Within shape (place_at 0 a) → band_of shape a < band_of shape b → tile_of shape (place_at p a) < first_tile shape p b
  below_band p a b w l =
      let inside : a.x / 64 < wide_of shape = (tiled.within (place_at 0 a) w).x in
      let rows : row_of shape a < row_of shape b = row_told (row_of shape a) (row_of shape b) (wide_of shape) (omega (arith, band_is a, band_is b, l)) in
      omega (arith, tile_is p a, first_is p b, row_above (row_of shape a) (row_of shape b) (a.x / 64) (wide_of shape) rows inside)

  pub from_band : (p : ℕ) (a b : GridNode) → band_of shape a ≤ band_of shape b → first_tile shape p a ≤ tile_of shape (place_at p b)
  from_band p a b l = omega (arith, first_is p a, tile_is p b, band_is a, band_is b, l)

  pub band_inside : (p : ℕ) (cell : GridNode) → p < shape.parameters → Within shape (place_at 0 cell) → first_tile shape p cell < tiles shape
  band_inside p cell inside w = tiled.below (at p cell.t cell.z cell.y 0) (record { parameter = inside; t = w.t; z = w.z; y = w.y; x = some (w.x) })
    where
      some : {a b : ℕ} → a < b → 0 < b
      some l = omega arith

  -- ---- parameters

  pub below_parameter : (p q : ℕ) (cell : GridNode) → Within shape (place_at 0 cell) → p < q → tile_of shape (place_at p cell) < behind q
  below_parameter p q cell w l =
      let inside : row_of shape cell * wide_of shape + cell.x / 64 < nodes (tile_shape shape) = numbered.node_below (tile_place (place_at 0 cell)) (tiled.within (place_at 0 cell) w) in
      omega (arith, tile_is p cell, row_above p q (row_of shape cell * wide_of shape + cell.x / 64) (nodes (tile_shape shape)) l inside)

  pub from_parameter : (q r : ℕ) (cell : GridNode) → q ≤ r → behind q ≤ tile_of shape (place_at r cell)
  from_parameter q r cell l = let m : behind q ≤ behind r = mul-le-mul_right (nodes (tile_shape shape)) l in omega (arith, tile_is r cell, m)

  pub parameter_inside : (q : ℕ) → q ≤ shape.parameters → behind q ≤ tiles shape
  parameter_inside q l = mul-le-mul_right (nodes (tile_shape shape)) l
