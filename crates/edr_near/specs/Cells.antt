-- Cells: squares in which something stands.
use Rattle.std.specs.Prelude.{refl, ◌≡◌, ℕ, ◌/◌, ◌%◌, ◌<◌, List, [], ◌∷◌, length, map, All, Contains}
use Rattle.std.specs.List.{slice_index_or}
use Rattle.std.specs.Coded.{Coded, code_by, coded×, coded_ℕ, coded_list}
use Rattle.edr_base.specs.declared.places.Spot.{Spot}
use Rattle.edr_ids.specs.Ids.{AscendBy}
use Rattle.edr_near.specs.Squares.{IsSpot, strip_of, strips, square_distance}

-- a cell: the column and the row of its square, and what stands there
pub record CellValue (V : Type 0) : Type 0 where
  pub column : ℕ
  pub row : ℕ
  pub items : List V

-- the key of a square: its column and its row, of two bytes each, the higher one first. So cells in the order of their keys
-- stand in the order of their columns, and those of a column in the order of their rows
abbrev pub key_of : ℕ → ℕ → List ℕ
key_of column row = column / 256 ∷ column % 256 ∷ row / 256 ∷ row % 256 ∷ []

abbrev pub cell_key : {V : Type 0} → CellValue V → List ℕ
cell_key cell = key_of cell.column cell.row

-- an item stands within the limits, in the square of a column and a row
pub record IsIn {V : Type 0} (spot_of : V → Spot) (column row : ℕ) (item : V) : Type 0 where
  pub spot : IsSpot (spot_of item)
  pub along : strip_of (spot_of item).x ≡ column
  pub across : strip_of (spot_of item).y ≡ row

-- a cell isn't empty, and all that it has stands in its square
pub record IsCell {V : Type 0} (spot_of : V → Spot) (cell : CellValue V) : Type 0 where
  pub column_in : cell.column < strips
  pub row_in : cell.row < strips
  pub some : 0 < length cell.items
  pub inside : All (IsIn spot_of cell.column cell.row) cell.items

-- the cells of some items: each square in which something stands once, in ascending order of columns, and of rows in a column.
-- The number of a cell is its place among them, from 0
pub record AreCells {V : Type 0} (spot_of : V → Spot) (cells : List (CellValue V)) : Type 0 where
  pub ascending : AscendBy cell_key cells
  pub each : All (IsCell spot_of) cells

-- an item stands in one of the cells
pub record Has {V : Type 0} (cells : List (CellValue V)) (item : V) : Type 0 where
  pub cell : CellValue V
  pub there : Contains cells cell
  pub stands : Contains cell.items item

-- how far the squares of the cells are from a place, squared
abbrev pub distances : {V : Type 0} → Spot → List (CellValue V) → List ℕ
distances {V} spot cells = map (λ (cell : CellValue V). square_distance cell.column cell.row spot) cells

-- that of the cell of a number
abbrev pub distance_at : List ℕ → ℕ → ℕ
distance_at distances number = slice_index_or distances number 0

-- ---- how proofs tell cells apart
abbrev pub cell_code : {V : Type 0} → Coded V → Coded (CellValue V)
cell_code {V} code =
    code_by ((ℕ × ℕ) × List V) (coded× (coded× coded_ℕ coded_ℕ) (coded_list code)) (λ c. ((c.column, c.row), c.items)) (λ p. record { column = p.0.0; row = p.0.1; items = p.1 }) (λ _. refl)
