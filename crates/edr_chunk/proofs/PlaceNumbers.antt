-- All places and their numbers.
use Rattle.std.proofs.lemmas.Simd.{map-map}
use Rattle.std.proofs.lemmas.Nat.{rows, mul-le}
use Rattle.std.proofs.lemmas.Bool.{cases_lt}
use Rattle.std.proofs.Math.Nat.{le-mul_of_pos_right, mul-le-mul_right, mul-le-mul_left}
use Rattle.std.proofs.lemmas.List.FromFn.{fill_by_all, length-map-range_with_len, get_or-map-range_with_len}
use Rattle.std.proofs.Math.Nat.{mul_assoc}
use Rattle.std.proofs.Common.{take, drop, add_assoc, subst, ◌≡◌, ℕ, suc, ◌+◌, ◌*◌, ◌<◌, ◌≤◌, inl, inr, List, refl, ap, sym, ◌∙◌, arith, length, get_or, zero-add}
use Rattle.std.specs.Prelude.{map}
use Rattle.std.specs.List.{range_with_len, flat_map}
use Rattle.edr_chunk.specs.declared.shapes.GridShape.{GridShape}
use Rattle.edr_chunk.specs.declared.shapes.GridPlace.{GridPlace}
use Rattle.edr_base.specs.Limits.{node_limit}
use Rattle.edr_chunk.specs.Places.{number, nodes, count, Within, IsShape}
use Rattle.edr_chunk.specs.AllPlaces.{at, places}
use Rattle.edr_chunk.specs.Tiles.{tile_shape, tile_place, tiles_along, tiles}
use Rattle.edr_chunk.specs.KeptTiles.{one_of}
use Rattle.edr_chunk.proofs.Lists.{get_blocks, length_blocks, flat_map_range_agree, map_range_agree, part_by_place, map_agree, map-flat_map, shifted_zero, rows_from, rows_whole, flat_map_agree}

-- ---- the numbers of all places, in their order, are those from 0 on
row_numbers : (s : GridShape) (p t z y : ℕ) → map (λ x. number s (at p t z y x)) (range_with_len 0 s.columns) ≡ range_with_len ((((p * s.times + t) * s.levels + z) * s.rows + y) * s.columns) s.columns
row_numbers s p t z y = shifted_zero ((((p * s.times + t) * s.levels + z) * s.rows + y) * s.columns) s.columns

plane_numbers : (s : GridShape) (p t z : ℕ) → flat_map (λ y. map (λ x. number s (at p t z y x)) (range_with_len 0 s.columns)) (range_with_len 0 s.rows) ≡ range_with_len (((p * s.times + t) * s.levels + z) * (s.rows * s.columns)) (s.rows * s.columns)
plane_numbers s p t z =
    flat_map_agree _ _ (row_numbers s p t z) (range_with_len 0 s.rows)
    ∙ rows_from (((p * s.times + t) * s.levels + z) * s.rows) s.columns s.rows
    ∙ ap (λ k. range_with_len k (s.rows * s.columns)) (mul_assoc ((p * s.times + t) * s.levels + z) s.rows s.columns)

level_numbers : (s : GridShape) (p t : ℕ) → flat_map (λ z. flat_map (λ y. map (λ x. number s (at p t z y x)) (range_with_len 0 s.columns)) (range_with_len 0 s.rows)) (range_with_len 0 s.levels) ≡ range_with_len ((p * s.times + t) * (s.levels * (s.rows * s.columns))) (s.levels * (s.rows * s.columns))
level_numbers s p t =
    flat_map_agree _ _ (plane_numbers s p t) (range_with_len 0 s.levels)
    ∙ rows_from ((p * s.times + t) * s.levels) (s.rows * s.columns) s.levels
    ∙ ap (λ k. range_with_len k (s.levels * (s.rows * s.columns))) (mul_assoc (p * s.times + t) s.levels (s.rows * s.columns))

time_numbers : (s : GridShape) (p : ℕ) → flat_map (λ t. flat_map (λ z. flat_map (λ y. map (λ x. number s (at p t z y x)) (range_with_len 0 s.columns)) (range_with_len 0 s.rows)) (range_with_len 0 s.levels)) (range_with_len 0 s.times) ≡ range_with_len (p * (s.times * (s.levels * (s.rows * s.columns)))) (s.times * (s.levels * (s.rows * s.columns)))
time_numbers s p =
    flat_map_agree _ _ (level_numbers s p) (range_with_len 0 s.times)
    ∙ rows_from (p * s.times) (s.levels * (s.rows * s.columns)) s.times
    ∙ ap (λ k. range_with_len k (s.times * (s.levels * (s.rows * s.columns)))) (mul_assoc p s.times (s.levels * (s.rows * s.columns)))

-- the values, counted from the first axis on
pub nested_count : (s : GridShape) → count s ≡ (((s.parameters * s.times) * s.levels) * s.rows) * s.columns
nested_count s = omega arith

all_count : (s : GridShape) → s.parameters * (s.times * (s.levels * (s.rows * s.columns))) ≡ count s
all_count s = omega arith

pub numbered : (s : GridShape) → map (number s) (places s) ≡ range_with_len 0 (count s)
unfolding places
numbered s =
    simp (map-flat_map, map-map) (flat_map_agree _ _ (time_numbers s) (range_with_len 0 s.parameters)
    ∙ rows_whole (s.times * (s.levels * (s.rows * s.columns))) s.parameters ∙ ap (range_with_len 0) (all_count s))

-- ---- the values of all places, in their order, are the values
pub read_all : {X : Type 0} (xs : List X) (d : X) → map (λ k. get_or xs k d) (range_with_len 0 (length xs)) ≡ xs
read_all xs d = sym (fill_by_all (λ k. get_or xs k d) xs (length xs) d refl (λ k h. refl))

-- a list that is read at each place's number, place by place, is the list
pub read_places : {X : Type 0} (s : GridShape) (xs : List X) (d : X) → length xs ≡ count s → map (λ a. get_or xs (number s a) d) (places s) ≡ xs
read_places s xs d h =
    sym (map-map (λ k. get_or xs k d) (number s) (places s))
    ∙ ap (map (λ k. get_or xs k d)) (numbered s ∙ ap (range_with_len 0) (sym h))
    ∙ read_all xs d

-- ---- places and numbers determine each other
-- the place of row a and column b, of h rows of w places
pub below_rows : (a w b h : ℕ) → a < h → b < w → a * w + b < h * w
below_rows a w b h p q = grind (arith, rows)

-- a row's number is below how many rows there are
pub digit_below : (q r w n : ℕ) → q * w + r < n * w → q < n
digit_below q r w n h = elim (cases_lt q n) [ inl l ↦ l | inr g ↦ absurd (omega (arith, mul-le-mul_right w g)) ]

pub digits_within : (s : GridShape) (a : GridPlace) → a.t < s.times → a.z < s.levels → a.y < s.rows → a.x < s.columns → number s a < count s → Within s a
digits_within s a t z y x h =
    let nested : number s a < (((s.parameters * s.times) * s.levels) * s.rows) * s.columns = subst (λ (n : ℕ). number s a < n) (nested_count s) h in
    let y' = digit_below _ _ _ _ nested in
    let z' = digit_below _ _ _ _ y' in
    let t' = digit_below _ _ _ _ z' in
    record { parameter = digit_below _ _ _ _ t'; t = t; z = z; y = y; x = x }

-- a row's part fits
pub row_fits_in : (s : GridShape) (a : GridPlace) (w : ℕ) → Within s a → a.x + w ≤ s.columns → number s a + w ≤ count s
row_fits_in s a w h l =
    let q = below_rows _ _ _ _ (below_rows _ _ _ _ (below_rows _ _ _ _ h.parameter h.t) h.z) h.y in
    let m : suc (((a.parameter * s.times + a.t) * s.levels + a.z) * s.rows + a.y) * s.columns ≤ (((s.parameters * s.times) * s.levels) * s.rows) * s.columns = mul-le-mul_right s.columns q in
    omega (arith, m, nested_count s)

pub row_part : {X : Type 0} (s : GridShape) (a : GridPlace) (w : ℕ) (xs : List X) (d : X) → Within s a → a.x + w ≤ s.columns → length xs ≡ count s
    → take w (drop (number s a) xs) ≡ map (λ c. get_or xs (number s (at a.parameter a.t a.z a.y (a.x + c))) d) (range_with_len 0 w)
row_part s a w xs d h l e =
    part_by_place xs (number s a) w d (omega (arith, row_fits_in s a w h l))
    ∙ map_agree _ _ (λ c. ap (λ k. get_or xs k d) (add_assoc ((((a.parameter * s.times + a.t) * s.levels + a.z) * s.rows + a.y) * s.columns) a.x c)) (range_with_len 0 w)

-- ---- a list that a function of the places gives, read at a place's number
abbrev pub columns_of : {X : Type 0} → (GridPlace → X) → GridShape → ℕ → ℕ → ℕ → ℕ → List X
columns_of f s p t z y = map (λ x. f (at p t z y x)) (range_with_len 0 s.columns)

abbrev pub rows_of : {X : Type 0} → (GridPlace → X) → GridShape → ℕ → ℕ → ℕ → List X
rows_of f s p t z = flat_map (columns_of f s p t z) (range_with_len 0 s.rows)

abbrev pub levels_of : {X : Type 0} → (GridPlace → X) → GridShape → ℕ → ℕ → List X
levels_of f s p t = flat_map (rows_of f s p t) (range_with_len 0 s.levels)

abbrev pub times_of : {X : Type 0} → (GridPlace → X) → GridShape → ℕ → List X
times_of f s p = flat_map (levels_of f s p) (range_with_len 0 s.times)

pub map_places : {X : Type 0} (f : GridPlace → X) (s : GridShape) → map f (places s) ≡ flat_map (times_of f s) (range_with_len 0 s.parameters)
unfolding places
map_places f s = simp (map-flat_map, map-map)

pub read_place : {X : Type 0} (f : GridPlace → X) (s : GridShape) (a : GridPlace) (d : X) → Within s a → get_or (map f (places s)) (number s a) d ≡ f a
read_place f s a d w =
    let c = s.columns in
    let rc = s.rows * s.columns in
    let zrc = s.levels * (s.rows * s.columns) in
    let tzrc = s.times * (s.levels * (s.rows * s.columns)) in
    let lc : (p t z y : ℕ) → length (columns_of f s p t z y) ≡ s.columns = λ p t z y. length-map-range_with_len (λ x. f (at p t z y x)) 0 s.columns in
    let lr : (p t z : ℕ) → length (rows_of f s p t z) ≡ s.rows * s.columns = λ p t z. length_blocks (columns_of f s p t z) s.columns 0 s.rows (lc p t z) in
    let lz : (p t : ℕ) → length (levels_of f s p t) ≡ s.levels * (s.rows * s.columns) = λ p t. length_blocks (rows_of f s p t) (s.rows * s.columns) 0 s.levels (lr p t) in
    let lt : (p : ℕ) → length (times_of f s p) ≡ s.times * (s.levels * (s.rows * s.columns)) = λ p. length_blocks (levels_of f s p) (s.levels * (s.rows * s.columns)) 0 s.times (lz p) in
    let wy : a.y * s.columns + a.x < s.rows * s.columns = below_rows _ _ _ _ w.y w.x in
    let wz : a.z * (s.rows * s.columns) + (a.y * s.columns + a.x) < s.levels * (s.rows * s.columns) = below_rows _ _ _ _ w.z wy in
    let wt : a.t * (s.levels * (s.rows * s.columns)) + (a.z * (s.rows * s.columns) + (a.y * s.columns + a.x)) < s.times * (s.levels * (s.rows * s.columns)) = below_rows _ _ _ _ w.t wz in
    ap (λ l. get_or l (number s a) d) (map_places f s)
    ∙ ap (λ k. get_or (flat_map (times_of f s) (range_with_len 0 s.parameters)) k d) (regrouped s a)
    ∙ get_blocks (times_of f s) (s.times * (s.levels * (s.rows * s.columns))) 0 s.parameters a.parameter _ d lt w.parameter wt
    ∙ ap (λ p. get_or (times_of f s p) (a.t * (s.levels * (s.rows * s.columns)) + (a.z * (s.rows * s.columns) + (a.y * s.columns + a.x))) d) (zero-add a.parameter)
    ∙ get_blocks (levels_of f s a.parameter) (s.levels * (s.rows * s.columns)) 0 s.times a.t _ d (lz a.parameter) w.t wz
    ∙ ap (λ t. get_or (levels_of f s a.parameter t) (a.z * (s.rows * s.columns) + (a.y * s.columns + a.x)) d) (zero-add a.t)
    ∙ get_blocks (rows_of f s a.parameter a.t) (s.rows * s.columns) 0 s.levels a.z _ d (lr a.parameter a.t) w.z wy
    ∙ ap (λ z. get_or (rows_of f s a.parameter a.t z) (a.y * s.columns + a.x) d) (zero-add a.z)
    ∙ get_blocks (columns_of f s a.parameter a.t a.z) s.columns 0 s.rows a.y a.x d (lc a.parameter a.t a.z) w.y w.x
    ∙ ap (λ y. get_or (columns_of f s a.parameter a.t a.z y) a.x d) (zero-add a.y)
    ∙ get_or-map-range_with_len (λ x. f (at a.parameter a.t a.z a.y x)) 0 s.columns a.x a.x d w.x (zero-add a.x)
  where
    regrouped : (s : GridShape) (a : GridPlace) → number s a ≡ a.parameter * (s.times * (s.levels * (s.rows * s.columns))) + (a.t * (s.levels * (s.rows * s.columns)) + (a.z * (s.rows * s.columns) + (a.y * s.columns + a.x)))
    regrouped s a = omega arith

pub places_agree : {X : Type 0} (f g : GridPlace → X) (s : GridShape) → ((a : GridPlace) → Within s a → f a ≡ g a) → map f (places s) ≡ map g (places s)
places_agree f g s same =
    map_places f s
    ∙ flat_map_range_agree (times_of f s) (times_of g s) 0 s.parameters (λ p _ hp.
    flat_map_range_agree (levels_of f s p) (levels_of g s p) 0 s.times (λ t _ ht.
    flat_map_range_agree (rows_of f s p t) (rows_of g s p t) 0 s.levels (λ z _ hz.
    flat_map_range_agree (columns_of f s p t z) (columns_of g s p t z) 0 s.rows (λ y _ hy.
    map_range_agree (λ x. f (at p t z y x)) (λ x. g (at p t z y x)) 0 s.columns (λ x _ hx.
    same (at p t z y x) (record { parameter = omega arith; t = omega arith; z = omega arith; y = omega arith; x = omega arith }))))))
    ∙ sym (map_places g s)

-- ---- the shape of the tiles
pub along_le : (n : ℕ) → 1 ≤ n → (1 ≤ tiles_along n) × (tiles_along n ≤ n)
along_le n h = (omega arith, omega arith)

pub nodes_le : (s : GridShape) → IsShape s → nodes (tile_shape s) ≤ nodes s
nodes_le s h = mul-le _ _ _ _ (mul-le-mul_left (s.times * s.levels) (along_le s.rows h.rows).1) (along_le s.columns h.columns).1

pub tiles_le : (s : GridShape) → IsShape s → tiles s ≤ count s
tiles_le s h = mul-le-mul_left s.parameters (nodes_le s h)

pub tile_shape_is : (s : GridShape) → IsShape s → IsShape (tile_shape s)
tile_shape_is s h = record {
  parameters = h.parameters;
  times = h.times;
  levels = h.levels;
  rows = (along_le s.rows h.rows).0;
  columns = (along_le s.columns h.columns).0;
  few = omega (arith, nodes_le s h, h.few);
}

pub tile_within : (s : GridShape) (a : GridPlace) → Within s a → Within (tile_shape s) (tile_place a)
tile_within s a w = record { parameter = w.parameter; t = w.t; z = w.z; y = omega (arith, w.y); x = omega (arith, w.x) }

pub one_shape : (s : GridShape) → IsShape s → IsShape (one_of s)
one_shape s h = record { parameters = omega arith; times = h.times; levels = h.levels; rows = h.rows; columns = h.columns; few = h.few }

-- the products on the way to the number of nodes
pub record ProductsFit (s : GridShape) : Type 0 where
  pub z : s.times * s.levels ≤ node_limit
  pub y : (s.times * s.levels) * s.rows ≤ node_limit
  pub x : nodes s ≤ node_limit

pub products_fit : (s : GridShape) → IsShape (one_of s) → ProductsFit s
products_fit s h =
    let cy : (s.times * s.levels) * s.rows ≤ nodes s = le-mul_of_pos_right ((s.times * s.levels) * s.rows) h.columns in
    let cz : s.times * s.levels ≤ (s.times * s.levels) * s.rows = le-mul_of_pos_right (s.times * s.levels) h.rows in
    let few : nodes s ≤ node_limit = h.few in
    record { z = omega (arith, cz, cy, few); y = omega (arith, cy, few); x = few }
