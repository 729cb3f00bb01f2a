-- Coverages whose values are read from listed nodes of a grid.
use Rattle.std.specs.Prelude.{◌≡◌, ℕ, ◌<◌, Bool, true, false, List, [], ◌∷◌, length, map, All, Option, None, Some}
use Rattle.std.specs.List.{flat_map, slice_index_or}
use Rattle.covjson_value.specs.declared.coverages.NdArray.{NdArray}
use Rattle.covjson_value.specs.declared.coverages.Coverage.{Coverage}
use Rattle.covjson_value.specs.declared.coverages.Document.{Document}
use Rattle.covjson_value.specs.declared.coverages.Document.TheVariants.{One, Many}
use Rattle.covjson_value.specs.Domains.{count_of}
use Rattle.covjson_write.specs.Writers.{IsHead, with_ranges}
use Rattle.edr_chunk.specs.declared.shapes.GridShape.{GridShape}
use Rattle.edr_chunk.specs.declared.shapes.GridPlace.{GridPlace}
use Rattle.edr_chunk.specs.AllPlaces.{at}
use Rattle.edr_chunk.specs.Places.{Within, IsShape}
use Rattle.edr_chunk.specs.Grids as chunk
use Rattle.edr_chunk.specs.Grids.{value}
use Rattle.edr_chunk.specs.Tiles.{tile_of}
use Rattle.edr_select.specs.declared.plans.GridNode.{GridNode}

-- a coverage of the reply: all of it but its ranges, and for each value of a range the node of the grid that it is read from
pub record PlannedValue : Type 0 where
  pub head : Coverage
  pub cells : List GridNode

pub record ListingValue : Type 0 where
  pub shape : GridShape
  pub parameters : List ℕ  -- the places of the parameters that are asked
  pub many : Bool  -- whether the reply is a collection
  pub coverages : List PlannedValue

-- a parameter's place in the grid at a node
abbrev pub place_at : ℕ → GridNode → GridPlace
place_at parameter cell = at parameter cell.t cell.z cell.y cell.x

-- ---- the document that it gives over a grid

-- the range of a parameter: the grid's value at each cell
abbrev pub range_over : chunk.Values → List GridNode → ℕ → NdArray
range_over grid cells parameter = record { values = map (λ cell. value grid (place_at parameter cell)) cells }

abbrev pub coverage_of : chunk.Values → List ℕ → PlannedValue → Coverage
coverage_of grid parameters planned = with_ranges planned.head (map (range_over grid planned.cells) parameters)

-- the first coverage alone, or all of them
abbrev pub document_of : Bool → List Coverage → Option Document
document_of true coverages = Some (Many coverages)
document_of false [] = None
document_of false (coverage ∷ coverages) = Some (One coverage)

abbrev pub listing_document : chunk.Values → ListingValue → Option Document
listing_document grid plan = document_of plan.many (map (coverage_of grid plan.parameters) plan.coverages)

-- the tiles of all values, in the order of the text
abbrev pub tiles_of_range : GridShape → List GridNode → ℕ → List ℕ
tiles_of_range shape cells parameter = map (λ cell. tile_of shape (place_at parameter cell)) cells

abbrev pub tiles_of_coverage : GridShape → List ℕ → PlannedValue → List ℕ
tiles_of_coverage shape parameters planned = flat_map (tiles_of_range shape planned.cells) parameters

abbrev pub listing_tiles : ListingValue → List ℕ
listing_tiles plan = flat_map (tiles_of_coverage plan.shape plan.parameters) plan.coverages

-- ---- numbers

-- each number is above those before it
abbrev pub NumbersRise : List ℕ → Type 0
NumbersRise numbers = (i j : ℕ) (d : ℕ) → i < j → j < length numbers → slice_index_or numbers i d < slice_index_or numbers j d

-- ---- every listing

-- a coverage that is planned for a grid of a shape and some of its parameters: all but its ranges is valid, it has none of these, and it has a cell for each value
pub record IsPlanned (shape : GridShape) (parameters : List ℕ) (planned : PlannedValue) : Type 0 where
  pub head : IsHead planned.head
  pub bare : planned.head.ranges ≡ []
  pub as_many : length planned.head.parameters ≡ length parameters
  pub count : count_of planned.head.domain ≡ length planned.cells
  pub cells : All (λ cell. Within shape (place_at 0 cell)) planned.cells

-- a reply that isn't a collection has one coverage
pub record IsListing (plan : ListingValue) : Type 0 where
  pub shape : IsShape plan.shape
  pub parameters : All (λ parameter. parameter < plan.shape.parameters) plan.parameters
  pub coverages : All (IsPlanned plan.shape plan.parameters) plan.coverages
  pub alone : plan.many ≡ false → length plan.coverages ≡ 1
