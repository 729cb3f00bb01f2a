-- Values that are read from tiles, in the order of the tiles; for private clauses.
use Rattle.std.specs.Prelude.{◌≡◌, ℕ, ◌+◌, ◌++◌, ℤ, List, [], ◌∷◌, length, slice_set, Option, Result, OnOk}
use Rattle.edr_chunk.specs.declared.shapes.GridShape.{GridShape}
use Rattle.edr_chunk.specs.declared.shapes.GridPlace.{GridPlace}
use Rattle.edr_chunk.specs.Places.{Within}
use Rattle.edr_chunk.specs.Grids as chunk
use Rattle.edr_chunk.specs.Grids.{value}
use Rattle.edr_chunk.specs.Tiles.{tile_of, TileValue, value_in}
use Rattle.edr_edition.specs.Stores.{Held, of_grid, of_stations}
use Rattle.edr_send.specs.declared.slots.Slot.{Slot}
use Rattle.edr_base.specs.Calls.{Begins}

-- ---- grids

-- stations have no grid
abbrev pub no_grid : chunk.Values
no_grid = record { shape = record { parameters = 0; times = 0; levels = 0; rows = 0; columns = 0 }; values = [] }

abbrev pub grid_of : Held → chunk.Values
grid_of (of_grid instance) = instance.grid
grid_of (of_stations parameters stations) = no_grid

-- ---- slots

abbrev pub slot_tile : Slot → ℕ
slot_tile slot = slot.tile

abbrev pub slot_number : Slot → ℕ
slot_number slot = slot.number

-- a slot is of a place of a shape
pub record IsSlot (shape : GridShape) (slot : Slot) : Type 0 where
  pub within : Within shape slot.place
  pub tile : slot.tile ≡ tile_of shape slot.place

abbrev pub slot_at : GridShape → ℕ → GridPlace → Slot
slot_at shape number place = record { tile = tile_of shape place; number = number; place = place }

-- the slots of places, numbered on
abbrev pub slots_from : GridShape → ℕ → List GridPlace → List Slot
slots_from shape number [] = []
slots_from shape number (place ∷ places) = slot_at shape number place ∷ slots_from shape (number + 1) places

-- to some slots those of places were added
abbrev pub SlotsGrew : GridShape → List GridPlace → List Slot → List Slot → Type 0
SlotsGrew shape places old new = new ≡ old ++ slots_from shape (length old) places

-- ---- values

-- the value of a slot in a grid, and in a tile
abbrev pub value_of : chunk.Values → Slot → Option ℤ
value_of grid slot = value grid slot.place

abbrev pub seen_in : TileValue → Slot → Option ℤ
seen_in tile slot = value_in tile slot.place.y slot.place.x

-- of items with a number each, the value of each is put at its number
abbrev pub put_all : {S V : Type 0} → (S → ℕ) → (S → V) → List S → List V → List V
put_all number value [] values = values
put_all number value (s ∷ slots) values = put_all number value slots (slice_set values (number s) (value s))

-- ---- the list of what was opened

-- to the numbers a beginning of others was added
pub record Added (wanted old new : List ℕ) : Type 0 where
  pub front : List ℕ
  pub begins : Begins front wanted
  pub grew : new ≡ old ++ front

-- others were added: all of them with Ok, and else the first of them
pub record Adds {T E : Type 0} (result : Result T E) (wanted old new : List ℕ) : Type 0 where
  pub all : OnOk result (new ≡ old ++ wanted)
  pub begun : Added wanted old new
