-- How items are kept: for private clauses.
use Rattle.std.specs.Prelude.{◌≡◌, ◌⊎◌, ◌↔◌, ◌<◌, ℕ, false, length, Contains, Option, None, Some, List, [], ◌∷◌, map, MatchOption}
use Rattle.std.specs.Arc.{arc_value}
use Rattle.std.specs.declared.sync.Arc.{Arc}
use Rattle.std.specs.declared.alloc.Global.{Global}
use Rattle.edr_base.specs.declared.places.Spot.{Spot}
use Rattle.edr_ids.specs.Ids.{item_of}
use Rattle.edr_near.specs.Near.{is_it}
use Rattle.edr_near.specs.Cells.{CellValue, key_of, cell_key}

-- the values of shared items
abbrev pub values_of : {T : Type 0} → List (Arc T Global) → List T
values_of {T} shared = map (λ (item : Arc T Global). arc_value item) shared

-- a list has what another one has
abbrev pub HasAll : {V : Type 0} → List V → List V → Type 0
HasAll {V} items same = (v : V) → Contains same v ↔ Contains items v

-- it has what another one has and one more item
abbrev pub IsMore : {V : Type 0} → List V → V → List V → Type 0
IsMore {V} items item more = (v : V) → Contains more v ↔ ((v ≡ item) ⊎ Contains items v)

-- it has what two others have
abbrev pub AreBoth : {V : Type 0} → List V → List V → List V → Type 0
AreBoth {V} front back both = (v : V) → Contains both v ↔ (Contains front v ⊎ Contains back v)

-- a cell with one more item, where the cells so far may have the square
pub record IsWith {V : Type 0} (cells : List (CellValue V)) (column row : ℕ) (item : V) (cell : CellValue V) : Type 0 where
  pub key : cell_key cell ≡ key_of column row
  pub items : MatchOption (item_of cell_key (key_of column row) cells) (cell.items ≡ item ∷ []) (λ had. IsMore had.items item cell.items)

-- what is left of some items without those that have an id and stand at a place
abbrev pub IsLeft : {V : Type 0} → (V → List ℕ) → (V → Spot) → Spot → List ℕ → List V → List V → Type 0
IsLeft {V} id_of spot_of spot id items left = (v : V) → Contains left v ↔ (Contains items v × (is_it id_of spot_of spot id v ≡ false))

-- the items of a list, where there is one
abbrev pub items_in : {V : Type 0} → Option (List V) → List V
items_in None = []
items_in (Some items) = items

-- what is left of a cell
abbrev pub IsWithout : {V : Type 0} → (V → List ℕ) → (V → Spot) → Spot → List ℕ → CellValue V → Option (CellValue V) → Type 0
IsWithout id_of spot_of spot id cell None = IsLeft id_of spot_of spot id cell.items []
IsWithout id_of spot_of spot id cell (Some left) =
    (cell_key left ≡ cell_key cell) × (0 < length left.items) × IsLeft id_of spot_of spot id cell.items left.items
