-- The slots of one tile after those of another.
use Rattle.std.proofs.Common.{◌≡◌, ℕ, ◌+◌, ◌-◌, ◌<◌, ◌≤◌, ◌≢◌, List, [], ◌∷◌, ◌++◌, length, take, drop, get_or, set, All, ℤ, Option, ap, sym, ◌∙◌, subst, arith, inl, inr, take-add, length-take, length-drop, get_or-take, get_or-drop}
use Rattle.std.specs.Prelude.{map}
use Rattle.std.specs.List.{slice_range}
use Rattle.std.specs.List.Sorted.{IsNonDecreasingBy}
use Rattle.std.proofs.lemmas.Bool.{cases_lt}
use Rattle.std.proofs.lemmas.List.{take_more, length-map, map-append, get_or-map, take-append-drop, get_or_default}
use Rattle.std.proofs.lemmas.List.Elements.{All-from_get_or, All-get_or, All-weaker}
use Rattle.edr_chunk.specs.declared.shapes.GridShape.{GridShape}
use Rattle.edr_chunk.specs.Tiles.{tiles, TileValue, IsTile, LiesIn}
use Rattle.edr_chunk.specs.Grids as chunk
use Rattle.edr_chunk.specs.LawsOfPlaces.{TilesAreNumbered}
use Rattle.edr_edition.specs.Stores.{Held, of_grid, of_stations, HasTile, IsTileOf}
use Rattle.edr_select.specs.Samples.{ascending_once}
use Rattle.edr_send.specs.declared.slots.Slot.{Slot}
use Rattle.edr_send.specs.Filling.{grid_of, IsSlot, slot_tile, slot_number, value_of, seen_in, put_all}
use Rattle.edr_send.proofs.Ascending.{once_append, once_equal}
use Rattle.edr_send.proofs.Puts.{put_append, put_agree}

-- ---- tiles of what is held

pub has_tile : ((shape : GridShape) → TilesAreNumbered shape) → (held : Held) (slot : Slot) → IsSlot (grid_of held).shape slot → HasTile held slot.tile
has_tile laws (of_grid instance) slot is = subst (λ (k : ℕ). k < tiles instance.grid.shape) (sym is.tile) ((laws instance.grid.shape).below slot.place is.within)
has_tile laws (of_stations parameters stations) slot is = let w = is.within.parameter in absurd (omega arith)

pub is_tile : (held : Held) (tile : ℕ) (opened : TileValue) → IsTileOf held tile opened → IsTile (grid_of held) tile opened
is_tile (of_grid instance) tile opened is = is
is_tile (of_stations parameters stations) tile opened is = absurd is

pub tile_inside : ((shape : GridShape) → TilesAreNumbered shape) → (shape : GridShape) (slot : Slot) → IsSlot shape slot → slot_tile slot < tiles shape
tile_inside laws shape slot is = subst (λ (k : ℕ). k < tiles shape) (sym is.tile) ((laws shape).below slot.place is.within)

-- ---- parts of lists

pub take_on : {X : Type 0} (xs : List X) (a b : ℕ) → a ≤ b → take b xs ≡ take a xs ++ slice_range xs a b
take_on xs a b l = ap (λ (k : ℕ). take k xs) (whole a b l) ∙ take-add a (b - a) xs
  where
    whole : (a b : ℕ) → a ≤ b → b ≡ a + (b - a)
    whole a b l = omega arith

pub get_or-range : {X : Type 0} (xs : List X) (a b i : ℕ) (d : X) → i < b - a → get_or (slice_range xs a b) i d ≡ get_or xs (a + i) d
get_or-range xs a b i d l = get_or-take (b - a) (drop a xs) i d l ∙ get_or-drop a xs i d

pub length-range : {X : Type 0} (xs : List X) (a b : ℕ) → a ≤ b → b ≤ length xs → length (slice_range xs a b) ≡ b - a
length-range xs a b l m = omega (arith, length-take (b - a) (drop a xs), length-drop a xs)

pub range_more : {X : Type 0} (xs : List X) (a b : ℕ) (d : X) → a ≤ b → b < length xs → slice_range xs a (b + 1) ≡ slice_range xs a b ++ get_or xs b d ∷ []
range_more xs a b d l h =
    ap (λ k. take k (drop a xs)) (next a b l)
    ∙ take_more (drop a xs) (b - a) d (omega (arith, length-drop a xs))
    ∙ ap (λ v. take (b - a) (drop a xs) ++ v ∷ []) (get_or-drop a xs (b - a) d ∙ ap (λ k. get_or xs k d) (back a b l))
  where
    next : (a b : ℕ) → a ≤ b → b + 1 - a ≡ b - a + 1
    next a b l = omega arith

    back : (a b : ℕ) → a ≤ b → a + (b - a) ≡ b
    back a b l = omega arith

-- one value more is put
pub put_next : {S V : Type 0} (number : S → ℕ) (value : S → V) (xs : List S) (a b : ℕ) (d : S) (vs : List V) → a ≤ b → b < length xs
    → put_all number value (slice_range xs a (b + 1)) vs ≡ set (put_all number value (slice_range xs a b) vs) (number (get_or xs b d)) (value (get_or xs b d))
put_next number value xs a b d vs l h =
    ap (λ part. put_all number value part vs) (range_more xs a b d l h) ∙ put_append number value (slice_range xs a b) (get_or xs b d ∷ []) vs

-- ---- tiles that ascend

-- the tiles of the slots before a place are below those from it on
abbrev pub Ahead : List Slot → ℕ → Type 0
Ahead slots at = (i j : ℕ) (d : Slot) → i < at → at ≤ j → j < length slots → slot_tile (get_or slots i d) < slot_tile (get_or slots j d)

abbrev pub SameTile : List Slot → ℕ → ℕ → Type 0
SameTile slots at next = (place : ℕ) (other : Slot) → at ≤ place → place < next → (get_or slots place other).tile ≡ (get_or slots at other).tile

first_below : (slots : List Slot) (at : ℕ) (d : Slot) → at < length slots → Ahead slots at → All (λ x. x < slot_tile (get_or slots at d)) (map slot_tile (take at slots))
first_below slots at d l ahead =
    All-from_get_or (λ x. x < slot_tile (get_or slots at d)) (map slot_tile (take at slots)) 0 (λ i h.
    let short : i < length (take at slots) = omega (arith, length-map (take at slots) slot_tile) in
    let low : i < at = omega (arith, length-take at slots) in
    subst (λ (k : ℕ). k < slot_tile (get_or slots at d)) (sym (get_or-map slot_tile (take at slots) i d 0 short ∙ ap slot_tile (get_or-take at slots i d low)))
    (ahead i at d low (omega arith) l))

same_below : (slots : List Slot) (at next : ℕ) (d : Slot) → at ≤ next → next ≤ length slots → SameTile slots at next → All (λ x. x ≡ slot_tile (get_or slots at d)) (map slot_tile (slice_range slots at next))
same_below slots at next d l m same =
    All-from_get_or (λ x. x ≡ slot_tile (get_or slots at d)) (map slot_tile (slice_range slots at next)) 0 (λ i h.
    let long = length-range slots at next l m in
    let short : i < length (slice_range slots at next) = omega (arith, length-map (slice_range slots at next) slot_tile) in
    get_or-map slot_tile (slice_range slots at next) i d 0 short ∙ ap slot_tile (get_or-range slots at next i d (omega arith)) ∙ same (at + i) d (omega arith) (omega arith))

from_same : (k : ℕ) (xs : List ℕ) → All (λ x. x ≡ k) xs → All (λ x. k ≤ x) xs
from_same k xs all = All-weaker (λ x. x ≡ k) (λ x. k ≤ x) (λ x e. omega arith) xs all

-- the tile of the next slots comes behind those of the slots before
pub tile_step : (n : ℕ) (slots : List Slot) (at next : ℕ) (d : Slot) → at < next → next ≤ length slots → Ahead slots at → SameTile slots at next → slot_tile (get_or slots at d) < n
    → ascending_once n (map slot_tile (take next slots)) ≡ ascending_once n (map slot_tile (take at slots)) ++ slot_tile (get_or slots at d) ∷ []
tile_step n slots at next d l m ahead same inside =
    let one = same_below slots at next d (omega arith) m same in
    let some : 0 < length (map slot_tile (slice_range slots at next)) = omega (arith, length-map (slice_range slots at next) slot_tile, length-range slots at next (omega arith) m) in
    ap (λ (l : List Slot). ascending_once n (map slot_tile l)) (take_on slots at next (omega arith))
    ∙ ap (ascending_once n) (map-append slot_tile (take at slots) (slice_range slots at next))
    ∙ once_append n (slot_tile (get_or slots at d)) (map slot_tile (take at slots)) (map slot_tile (slice_range slots at next)) (omega arith)
    (first_below slots at d (omega arith) ahead) (from_same (slot_tile (get_or slots at d)) (map slot_tile (slice_range slots at next)) one)
    ∙ ap (λ (l : List ℕ). ascending_once n (map slot_tile (take at slots)) ++ l) (once_equal n (slot_tile (get_or slots at d)) (map slot_tile (slice_range slots at next)) inside some one)

last_above : (slots : List Slot) (at : ℕ) (d : Slot) → IsNonDecreasingBy slot_tile slots → at < length slots → All (λ x. slot_tile (get_or slots at d) ≤ x) (map slot_tile (drop at slots))
last_above slots at d sorted l =
    All-from_get_or (λ x. slot_tile (get_or slots at d) ≤ x) (map slot_tile (drop at slots)) 0 (λ i h.
    let short : i < length (drop at slots) = omega (arith, length-map (drop at slots) slot_tile) in
    subst (λ (k : ℕ). slot_tile (get_or slots at d) ≤ k) (sym (get_or-map slot_tile (drop at slots) i d 0 short ∙ ap slot_tile (get_or-drop at slots i d)))
    (sorted at (at + i) d (omega arith) (omega (arith, length-drop at slots))))

-- the tiles so far begin the tiles of all slots
pub tile_rest : (n : ℕ) (slots : List Slot) (at : ℕ) (d : Slot) → at < length slots → IsNonDecreasingBy slot_tile slots → Ahead slots at → slot_tile (get_or slots at d) < n
    → ascending_once n (map slot_tile slots) ≡ ascending_once n (map slot_tile (take at slots)) ++ ascending_once n (map slot_tile (drop at slots))
tile_rest n slots at d l sorted ahead inside =
    ap (λ (l : List Slot). ascending_once n (map slot_tile l)) (sym (take-append-drop at slots))
    ∙ ap (ascending_once n) (map-append slot_tile (take at slots) (drop at slots))
    ∙ once_append n (slot_tile (get_or slots at d)) (map slot_tile (take at slots)) (map slot_tile (drop at slots)) (omega arith) (first_below slots at d l ahead) (last_above slots at d sorted l)

pub ahead_next : (slots : List Slot) (at next : ℕ) → IsNonDecreasingBy slot_tile slots → at < next → Ahead slots at → SameTile slots at next
    → ((other : Slot) → next < length slots → (get_or slots next other).tile ≢ (get_or slots at other).tile) → Ahead slots next
ahead_next slots at next sorted l ahead same other i j d low high inside = elim (cases_lt i at) [
  | inl early ↦ ahead i j d early (omega arith) inside
  | inr late ↦
      let here : slot_tile (get_or slots i d) ≡ slot_tile (get_or slots at d) = same i d late low in
      let up : slot_tile (get_or slots at d) ≤ slot_tile (get_or slots next d) = sorted at next d (omega arith) (omega arith) in
      let differ : slot_tile (get_or slots next d) ≢ slot_tile (get_or slots at d) = other d (omega arith) in
      let on : slot_tile (get_or slots next d) ≤ slot_tile (get_or slots j d) = sorted next j d high inside in
      omega arith
]

-- what the tile has of its slots is what the grid has
pub seen_same : (grid : chunk.Values) (opened : TileValue) (slots : List Slot) (at next : ℕ) (d : Slot) (vs : List (Option ℤ)) → All (IsSlot grid.shape) slots → IsTile grid (slot_tile (get_or slots at d)) opened
    → at ≤ next → next ≤ length slots → SameTile slots at next
    → put_all slot_number (seen_in opened) (slice_range slots at next) vs ≡ put_all slot_number (value_of grid) (slice_range slots at next) vs
seen_same grid opened slots at next d vs all is l m same =
    put_agree slot_number (seen_in opened) (value_of grid) (slice_range slots at next) vs
    (All-from_get_or (λ slot. seen_in opened slot ≡ value_of grid slot) (slice_range slots at next) d (λ i h.
    let long = length-range slots at next l m in
    let there : get_or (slice_range slots at next) i d ≡ get_or slots (at + i) d = get_or-range slots at next i d (omega arith) in
    let slot : IsSlot grid.shape (get_or slots (at + i) d) = All-get_or (IsSlot grid.shape) slots (at + i) d (omega arith) all in
    subst (λ (s : Slot). seen_in opened s ≡ value_of grid s) (sym there)
    (is.same (get_or slots (at + i) d).place slot.within (sym slot.tile ∙ same (at + i) d (omega arith) (omega arith)))))

-- the slots of the tile lie in it
pub lies_same : (grid : chunk.Values) (opened : TileValue) (slots : List Slot) (at : ℕ) (d : Slot) → All (IsSlot grid.shape) slots → IsTile grid (slot_tile (get_or slots at d)) opened → at < length slots
    → (place : ℕ) (other : Slot) → place < length slots → (get_or slots place other).tile ≡ (get_or slots at other).tile → LiesIn opened (get_or slots place other).place.y (get_or slots place other).place.x
lies_same grid opened slots at d all is inside place other l e =
    let slot : IsSlot grid.shape (get_or slots place other) = All-get_or (IsSlot grid.shape) slots place other l all in
    is.lies (get_or slots place other).place slot.within (sym slot.tile ∙ e ∙ ap slot_tile (get_or_default slots at other d inside))

-- ---- one slot more of the tile

pub same_next : (slots : List Slot) (from at : ℕ) (d : Slot) → from < length slots → at < length slots → SameTile slots from at → (get_or slots at d).tile ≡ (get_or slots from d).tile → SameTile slots from (at + 1)
same_next slots from at d first inside same e place other low high = elim (cases_lt place at) [
  | inl early ↦ same place other low early
  | inr late ↦
      let here : place ≡ at = omega arith in
      ap (λ (k : ℕ). (get_or slots k other).tile) here
      ∙ ap slot_tile (get_or_default slots at other d inside) ∙ e ∙ ap slot_tile (get_or_default slots from d other first)
]

pub values_next : (tile : TileValue) (slots : List Slot) (from at : ℕ) (d : Slot) (old vs : List (Option ℤ)) (v : Option ℤ) → from ≤ at → at < length slots
    → vs ≡ put_all slot_number (seen_in tile) (slice_range slots from at) old → v ≡ seen_in tile (get_or slots at d)
    → set vs (get_or slots at d).number v ≡ put_all slot_number (seen_in tile) (slice_range slots from (at + 1)) old
values_next tile slots from at d old vs v low inside e f =
    ap (λ (l : List (Option ℤ)). set l (get_or slots at d).number v) e
    ∙ ap (λ (w : Option ℤ). set (put_all slot_number (seen_in tile) (slice_range slots from at) old) (get_or slots at d).number w) f
    ∙ sym (put_next slot_number (seen_in tile) slots from at d old low inside)
