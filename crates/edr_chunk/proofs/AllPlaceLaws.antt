-- All places against the places within a shape.
use Rattle.std.proofs.Common.{◌≡◌, ℕ, zero, suc, ◌+◌, ◌*◌, ◌<◌, ◌≤◌, Bool, true, false, List, [], ◌∷◌, All, length, get_or, refl, ap, sym, ◌∙◌, inl, inr, arith, zero-add}
use Rattle.std.specs.Prelude.{map, ℤ, Option, ◌||◌, ◌⊎◌}
use Rattle.std.specs.List.{range_with_len, flat_map, list_any}
use Rattle.std.proofs.Math.Nat.{le-mul_of_pos_right}
use Rattle.std.proofs.lemmas.Bool.{or_cases}
use Rattle.std.proofs.lemmas.List.{length-map, map-id, get_or-map}
use Rattle.std.proofs.lemmas.List.FromFn.{length-range_with_len, get_or-range_with_len}
use Rattle.std.proofs.lemmas.List.Folds.{list_any-append}
use Rattle.std.proofs.lemmas.List.Elements.{All-nil, All-append, All-cons, All-map}
use Rattle.edr_base.specs.Limits.{node_limit, HasSample, AreSamples}
use Rattle.edr_chunk.specs.declared.shapes.GridShape.{GridShape}
use Rattle.edr_chunk.specs.declared.shapes.GridPlace.{GridPlace}
use Rattle.edr_chunk.specs.Places.{Within, IsShape, count, number}
use Rattle.edr_chunk.specs.AllPlaces.{at, places}
use Rattle.edr_chunk.specs.PlaceLaws.{number-below, number-once}
use Rattle.edr_chunk.specs.Tiles.{tile_shape, tile_place, node_at}
use Rattle.edr_chunk.specs.LawsOfPlaces.{Found, PlacesAreListed, TilesAreNumbered, TilesHavePlaces, SidesAreSmall}
use Rattle.edr_chunk.proofs.PlaceNumbers.{numbered, read_place, tile_within, tiles_le, along_le, nodes_le}
use Rattle.edr_chunk.proofs.TileLaws.{node_within, node_corner, some_row, some_column}
use Rattle.edr_chunk.specs.KeptTiles.{stored, IsPacked}

any-map : {X Y : Type 0} (t : Y → Bool) (f : X → Y) (xs : List X) → list_any t (map f xs) ≡ list_any (λ x. t (f x)) xs
any-map t f [] = refl
any-map t f (x ∷ xs) = ap (λ r. t (f x) || r) (any-map t f xs)

any-flat_map : {X Y : Type 0} (t : Y → Bool) (f : X → List Y) (xs : List X) → list_any t (flat_map f xs) ≡ list_any (λ x. list_any t (f x)) xs
any-flat_map t f [] = refl
any-flat_map t f (x ∷ xs) = list_any-append t (f x) (flat_map f xs) ∙ ap (λ r. list_any t (f x) || r) (any-flat_map t f xs)

-- some number of a run passes
record PassesAt (t : ℕ → Bool) (a n : ℕ) : Type 0 where
  pub place : ℕ
  pub low : a ≤ place
  pub high : place < a + n
  pub passes : t place ≡ true

passes_at : (t : ℕ → Bool) (a n : ℕ) → list_any t (range_with_len a n) ≡ true → PassesAt t a n
passes_at t a zero h = cc
passes_at t a (suc n) h = elim (or_cases (t a) (list_any t (range_with_len (a + 1) n)) h) [
  | inl here ↦ record { place = a; low = omega arith; high = omega arith; passes = here }
  | inr later ↦
      let found : PassesAt t (a + 1) n = passes_at t (a + 1) n later in
      record { place = found.place; low = omega (arith, found.low); high = omega (arith, found.high); passes = found.passes }
]

or_left : (x y : Bool) → x ≡ true → (x || y) ≡ true
or_left x y h = rw h refl

or_right : (x y : Bool) → y ≡ true → (x || y) ≡ true
or_right true y h = refl
or_right false y h = h

any_range : (t : ℕ → Bool) (a n k : ℕ) → a ≤ k → k < a + n → t k ≡ true → list_any t (range_with_len a n) ≡ true
any_range t a zero k low high h = absurd (omega arith)
any_range t a (suc n) k low high h = elim (order a k low) [
  | inl e ↦ or_left (t a) (list_any t (range_with_len (a + 1) n)) (ap t e ∙ h)
  | inr l ↦ or_right (t a) (list_any t (range_with_len (a + 1) n)) (any_range t (a + 1) n k (omega arith) (omega arith) h)
]
  where
    order : (a k : ℕ) → a ≤ k → (a ≡ k) ⊎ (a < k)
    order a k h = grind arith

-- some place passes: along x, then y, z, t and the parameters
abbrev some_x : (GridPlace → Bool) → GridShape → ℕ → ℕ → ℕ → ℕ → Bool
some_x t s p m z y = list_any (λ x. t (at p m z y x)) (range_with_len 0 s.columns)

abbrev some_y : (GridPlace → Bool) → GridShape → ℕ → ℕ → ℕ → Bool
some_y t s p m z = list_any (some_x t s p m z) (range_with_len 0 s.rows)

abbrev some_z : (GridPlace → Bool) → GridShape → ℕ → ℕ → Bool
some_z t s p m = list_any (some_y t s p m) (range_with_len 0 s.levels)

abbrev some_t : (GridPlace → Bool) → GridShape → ℕ → Bool
some_t t s p = list_any (some_z t s p) (range_with_len 0 s.times)

abbrev some : (GridPlace → Bool) → GridShape → Bool
some t s = list_any (some_t t s) (range_with_len 0 s.parameters)

any_places : (t : GridPlace → Bool) (s : GridShape) → list_any t (places s) ≡ some t s
unfolding places
any_places t s = simp (any-flat_map, any-map)

found_place : (t : GridPlace → Bool) (s : GridShape) → list_any t (places s) ≡ true → Found t s
found_place t s h =
    let hp = passes_at (some_t t s) 0 s.parameters (sym (any_places t s) ∙ h) in
    let ht = passes_at (some_z t s hp.place) 0 s.times hp.passes in
    let hz = passes_at (some_y t s hp.place ht.place) 0 s.levels ht.passes in
    let hy = passes_at (some_x t s hp.place ht.place hz.place) 0 s.rows hz.passes in
    let hx = passes_at (λ (x : ℕ). t (at hp.place ht.place hz.place hy.place x)) 0 s.columns hy.passes in
    record {
      place = at hp.place ht.place hz.place hy.place hx.place;
      within = record { parameter = omega (arith, hp.high); t = omega (arith, ht.high); z = omega (arith, hz.high); y = omega (arith, hy.high); x = omega (arith, hx.high) };
      passes = hx.passes;
    }

place_found : (t : GridPlace → Bool) (s : GridShape) (a : GridPlace) → Within s a → t a ≡ true → list_any t (places s) ≡ true
place_found t s a w h =
    any_places t s ∙ any_range (some_t t s) 0 s.parameters a.parameter (omega arith) (omega (arith, w.parameter))
    (any_range (some_z t s a.parameter) 0 s.times a.t (omega arith) (omega (arith, w.t))
    (any_range (some_y t s a.parameter a.t) 0 s.levels a.z (omega arith) (omega (arith, w.z))
    (any_range (some_x t s a.parameter a.t a.z) 0 s.rows a.y (omega arith) (omega (arith, w.y))
    (any_range (λ x. t (at a.parameter a.t a.z a.y x)) 0 s.columns a.x (omega arith) (omega (arith, w.x)) h))))

-- what holds at each number of a run holds of all that it gives
all_run : {X : Type 0} (P : X → Type 0) (f : ℕ → List X) (a n : ℕ) → ((k : ℕ) → a ≤ k → k < a + n → All P (f k)) → All P (flat_map f (range_with_len a n))
all_run P f a zero each = All-nil P
all_run P f a (suc n) each =
    All-append P (f a) (flat_map f (range_with_len (a + 1) n)) (each a (omega arith) (omega arith))
    (all_run P f (a + 1) n (λ k l h. each k (omega arith) (omega arith)))

all_row : {X : Type 0} (P : X → Type 0) (f : ℕ → X) (a n : ℕ) → ((k : ℕ) → a ≤ k → k < a + n → P (f k)) → All P (map f (range_with_len a n))
all_row P f a zero each = All-nil P
all_row P f a (suc n) each =
    All-cons P (f a) (map f (range_with_len (a + 1) n)) (each a (omega arith) (omega arith)) (all_row P f (a + 1) n (λ k l h. each k (omega arith) (omega arith)))

pub all_within : (s : GridShape) → All (Within s) (places s)
unfolding places
all_within s =
    all_run (Within s) _ 0 s.parameters (λ p lp hp. all_run (Within s) _ 0 s.times (λ t lt ht. all_run (Within s) _ 0 s.levels (λ z lz hz.
    all_run (Within s) _ 0 s.rows (λ y ly hy. all_row (Within s) (λ x. at p t z y x) 0 s.columns (λ x lx hx.
    record { parameter = omega (arith, hp); t = omega (arith, ht); z = omega (arith, hz); y = omega (arith, hy); x = omega (arith, hx) })))))

listed_at : (s : GridShape) (place other : GridPlace) → Within s place → get_or (places s) (number s place) other ≡ place
listed_at s place other w =
    ap (λ (l : List GridPlace). get_or l (number s place) other) (sym (map-id (places s))) ∙ read_place (λ a. a) s place other w

places_long : (s : GridShape) → length (places s) ≡ count s
places_long s = sym (length-map (places s) (number s)) ∙ (ap length (numbered s) ∙ length-range_with_len 0 (count s))

-- ---- what a packed grid holds
pub grid_long : (s : GridShape) (kept : List (List (Option ℤ))) → length (map (stored s kept) (places s)) ≡ count s
grid_long s kept = length-map (places s) (stored s kept) ∙ places_long s

pub grid_samples : (s : GridShape) (kept : List (List (Option ℤ))) → IsPacked s kept → AreSamples (map (stored s kept) (places s))
grid_samples s kept h =
    All-map HasSample (stored s kept) (places s) (λ k d l. h.stand.samples (get_or (places s) k d) (all_within s k d l))

-- ---- the laws
pub places_are_listed : (s : GridShape) → PlacesAreListed s
places_are_listed s = record {
  numbers = numbered s;
  long = places_long s;
  within = all_within s;
  listed = listed_at s;
  found = λ t h. found_place t s h;
  finds = λ t a w h. place_found t s a w h;
}

coarse_shape : (s : GridShape) → IsShape s → IsShape (tile_shape s)
coarse_shape s h =
    let r = along_le s.rows h.rows in
    let c = along_le s.columns h.columns in
    record { parameters = h.parameters; times = h.times; levels = h.levels; rows = r.0; columns = c.0; few = omega (arith, nodes_le s h, h.few) }

pub tiles_are_numbered : (s : GridShape) → TilesAreNumbered s
tiles_are_numbered s = record {
  within = tile_within s;
  below = λ a w. number-below (tile_shape s) (tile_place a) (tile_within s a w);
  once = λ a b v w e. number-once (tile_shape s) (tile_place a) (tile_place b) (tile_within s a v) (tile_within s b w) e;
  coarse = coarse_shape s;
  few = tiles_le s;
}

-- the place of a number
placed : (s : GridShape) (k : ℕ) (d : GridPlace) → k < count s → (Within s (get_or (places s) k d)) × (number s (get_or (places s) k d) ≡ k)
placed s k d l =
    let inside : k < length (places s) = omega (arith, places_long s) in (
      all_within s k d inside,
      sym (get_or-map (number s) (places s) k d 0 inside)
          ∙ (ap (λ (ns : List ℕ). get_or ns k 0) (numbered s) ∙ (get_or-range_with_len 0 (count s) k 0 l ∙ zero-add k)),
    )

pub tiles_have_places : (s : GridShape) → TilesHavePlaces s
tiles_have_places s tile below =
    let corner : GridPlace = get_or (places (tile_shape s)) tile (at 0 0 0 0 0) in
    let h = placed (tile_shape s) tile (at 0 0 0 0 0) below in
    let row = some_row s corner h.0 in
    let column = some_column s corner h.0 in
    record {
      place = node_at corner 0 0;
      within = node_within s corner 0 0 h.0 row column;
      numbered = ap (number (tile_shape s)) (node_corner s corner 0 0 row column) ∙ h.1;
    }

pub sides_are_small : (s : GridShape) → IsShape s → SidesAreSmall s
sides_are_small s h =
    let few : ((s.times * s.levels) * s.rows) * s.columns ≤ node_limit = h.few in
    let plane : s.times * s.levels ≤ (s.times * s.levels) * s.rows = le-mul_of_pos_right (s.times * s.levels) h.rows in
    let cube : (s.times * s.levels) * s.rows ≤ ((s.times * s.levels) * s.rows) * s.columns = le-mul_of_pos_right ((s.times * s.levels) * s.rows) h.columns in
    let time : s.times ≤ s.times * s.levels = le-mul_of_pos_right s.times h.levels in
    let level : s.levels ≤ s.levels * s.times = le-mul_of_pos_right s.levels h.times in
    let row : s.rows ≤ s.rows * (s.times * s.levels) = le-mul_of_pos_right s.rows (omega (arith, time, h.times)) in
    let column : s.columns ≤ s.columns * ((s.times * s.levels) * s.rows) = le-mul_of_pos_right s.columns (omega (arith, time, plane, h.times)) in
    record {
      times = omega (arith, time, plane, cube, few);
      levels = omega (arith, level, plane, cube, few);
      rows = omega (arith, row, cube, few);
      columns = omega (arith, column, few);
    }
