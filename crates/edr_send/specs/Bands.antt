-- Bands of tiles, and texts whose values' tiles rise band by band; for private clauses.
use Rattle.std.specs.Prelude.{◌≡◌, ℕ, List, [], ◌∷◌}
use Rattle.std.specs.List.Sorted.{IsNonDecreasingBy}
use Rattle.edr_chunk.specs.declared.shapes.GridShape.{GridShape}
use Rattle.edr_chunk.specs.AllPlaces.{at}
use Rattle.edr_chunk.specs.Tiles.{tile_of}
use Rattle.edr_select.specs.declared.plans.GridNode.{GridNode}
use Rattle.edr_select.specs.Listings.{PlannedValue, ListingValue, NumbersRise}

-- the first tile of a node's band, which is the row of tiles of a parameter at a time and a level
abbrev pub first_tile : GridShape → ℕ → GridNode → ℕ
first_tile shape parameter cell = tile_of shape (at parameter cell.t cell.z cell.y 0)

-- the bands of one parameter are told by their first tiles
abbrev pub band_of : GridShape → GridNode → ℕ
band_of shape cell = first_tile shape 0 cell

-- no band stands below one before it
abbrev pub BandsRise : GridShape → List GridNode → Type 0
BandsRise shape cells = IsNonDecreasingBy (band_of shape) cells

-- a plan has one coverage, and the tiles of its values rise band by band in the order of the text
pub record Rises (plan : ListingValue) (planned : PlannedValue) : Type 0 where
  pub alone : plan.coverages ≡ planned ∷ []
  pub parameters : NumbersRise plan.parameters
  pub bands : BandsRise plan.shape planned.cells
