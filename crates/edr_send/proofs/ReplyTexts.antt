-- The tiles of a listing's values, and where the values of a range stand among all.
use Rattle.std.proofs.Common.{◌≡◌, ℕ, suc, ◌+◌, ◌-◌, ◌*◌, ◌<◌, ◌≤◌, List, [], ◌∷◌, ◌++◌, length, take, drop, get_or, ℤ, Option, refl, ap, sym, ◌∙◌, arith, append_assoc, length-append, length-take}
use Rattle.std.specs.Prelude.{map}
use Rattle.std.specs.List.{flat_map, slice_range}
use Rattle.std.proofs.Math.Seq.{take-append_seam, drop-append_seam}
use Rattle.std.proofs.lemmas.Simd.{map-map}
use Rattle.std.proofs.lemmas.Grind.{flat_map-append}
use Rattle.std.proofs.lemmas.List.{length-map, map-append, take-append-drop}
use Rattle.edr_chunk.specs.declared.shapes.GridShape.{GridShape}
use Rattle.edr_chunk.specs.declared.shapes.GridPlace.{GridPlace}
use Rattle.edr_chunk.specs.Grids as chunk
use Rattle.edr_chunk.specs.Grids.{value}
use Rattle.edr_chunk.specs.Tiles.{tile_of}
use Rattle.edr_select.specs.declared.plans.GridNode.{GridNode}
use Rattle.edr_select.specs.Listings.{PlannedValue, ListingValue, place_at, range_over, tiles_of_range, tiles_of_coverage, listing_tiles}
use Rattle.edr_send.specs.Gathered.{places_of_range, places_of_coverage, places_of_coverages}
use Rattle.edr_send.proofs.FrameTiles.{flat_drop}

-- ---- the tiles of all values

map_flat : {X Y Z : Type 0} (f : Y → Z) (g : X → List Y) (xs : List X) → map f (flat_map g xs) ≡ flat_map (λ x. map f (g x)) xs
map_flat f g [] = refl
map_flat f g (x ∷ xs) = map-append f (g x) (flat_map g xs) ∙ ap (λ l. map f (g x) ++ l) (map_flat f g xs)

flat_same : {X Y : Type 0} (f g : X → List Y) → ((x : X) → f x ≡ g x) → (xs : List X) → flat_map f xs ≡ flat_map g xs
flat_same f g e [] = refl
flat_same f g e (x ∷ xs) = ap (λ l. l ++ flat_map f xs) (e x) ∙ ap (λ l. g x ++ l) (flat_same f g e xs)

range_tiles : (shape : GridShape) (cells : List GridNode) (parameter : ℕ) → map (tile_of shape) (places_of_range cells parameter) ≡ tiles_of_range shape cells parameter
range_tiles shape cells parameter = map-map (tile_of shape) (place_at parameter) cells

coverage_tiles : (shape : GridShape) (parameters : List ℕ) (planned : PlannedValue) → map (tile_of shape) (places_of_coverage parameters planned) ≡ tiles_of_coverage shape parameters planned
coverage_tiles shape parameters planned =
    map_flat (tile_of shape) (places_of_range planned.cells) parameters
    ∙ flat_same (λ p. map (tile_of shape) (places_of_range planned.cells p)) (tiles_of_range shape planned.cells) (range_tiles shape planned.cells) parameters

pub tiles_are : (plan : ListingValue) → map (tile_of plan.shape) (places_of_coverages plan.parameters plan.coverages) ≡ listing_tiles plan
tiles_are plan =
    map_flat (tile_of plan.shape) (places_of_coverage plan.parameters) plan.coverages
    ∙ flat_same (λ planned. map (tile_of plan.shape) (places_of_coverage plan.parameters planned)) (tiles_of_coverage plan.shape plan.parameters) (coverage_tiles plan.shape plan.parameters) plan.coverages

-- ---- a part of all values

range_size : (cells : List GridNode) (ps : List ℕ) → length (flat_map (places_of_range cells) ps) ≡ length ps * length cells
range_size cells [] = omega arith
range_size cells (p ∷ ps) =
    length-append (places_of_range cells p) (flat_map (places_of_range cells) ps)
    ∙ ap (λ (n : ℕ). n + length (flat_map (places_of_range cells) ps)) (length-map cells (place_at p))
    ∙ ap (λ (n : ℕ). length cells + n) (range_size cells ps)
    ∙ more (length ps) (length cells)
  where
    more : (n c : ℕ) → c + n * c ≡ suc n * c
    more n c = omega arith

flat_split : {X Y : Type 0} (f : X → List Y) (xs : List X) (i : ℕ) (d : X) → i < length xs
    → flat_map f xs ≡ flat_map f (take i xs) ++ (f (get_or xs i d) ++ flat_map f (drop (i + 1) xs))
flat_split f xs i d l =
    ap (flat_map f) (sym (take-append-drop i xs)) ∙ flat_map-append f (take i xs) (drop i xs)
    ∙ ap (λ ys. flat_map f (take i xs) ++ ys) (flat_drop f xs xs i d refl l)

-- what stands between two parts of a list
cut_out : {X : Type 0} (xs before here behind : List X) (n c : ℕ) → xs ≡ before ++ (here ++ behind) → length before ≡ n → length here ≡ c
    → (slice_range xs n (n + c) ≡ here) × (n + c ≤ length xs)
cut_out xs before here behind n c e f g = (
  ap (λ (k : ℕ). take k (drop n xs)) (wide n c)
      ∙ ap (λ ys. take c (drop n ys)) e
      ∙ ap (λ (k : ℕ). take c (drop k (before ++ (here ++ behind)))) (sym f)
      ∙ ap (take c) (drop-append_seam before (here ++ behind))
      ∙ ap (λ (k : ℕ). take k (here ++ behind)) (sym g)
      ∙ take-append_seam here behind,
  inside,
)
  where
    wide : (a c : ℕ) → a + c - a ≡ c
    wide a c = omega arith

    inside : n + c ≤ length xs
    inside = omega (arith, ap length e, length-append before (here ++ behind), length-append here behind, f, g)

-- the values of a range are such a part
pub range_cut : (grid : chunk.Values) (ps : List ℕ) (coverages : List PlannedValue) (values : List (Option ℤ)) (i j start count : ℕ) (planned : PlannedValue)
    → i < length coverages → planned ≡ get_or coverages i planned → j < length ps → count ≡ length planned.cells
    → values ≡ map (value grid) (places_of_coverages ps coverages) → start ≡ length (places_of_coverages ps (take i coverages))
    → (slice_range values (start + j * count) (start + j * count + count) ≡ (range_over grid planned.cells (get_or ps j 0)).values)
    × (start + j * count + count ≤ length values)
range_cut grid ps coverages values i j start count planned l is m many e first =
    let cut = cut_out values (map (value grid) (earlier ++ before)) (map (value grid) (places_of_range planned.cells p)) (map (value grid) (behind ++ later)) (start + j * count) count
    (e ∙ ap (map (value grid)) parts ∙ map-append (value grid) (earlier ++ before) (places_of_range planned.cells p ++ (behind ++ later))
    ∙ ap (λ (vs : List (Option ℤ)). map (value grid) (earlier ++ before) ++ vs) (map-append (value grid) (places_of_range planned.cells p) (behind ++ later)))
    (length-map (earlier ++ before) (value grid) ∙ length-append earlier before ∙ omega (arith, first, size, ap (λ (n : ℕ). j * n) many))
    (length-map (places_of_range planned.cells p) (value grid) ∙ length-map planned.cells (place_at p) ∙ sym many) in
    (cut.0 ∙ map-map (value grid) (place_at p) planned.cells, cut.1)
  where
    p : ℕ
    p = get_or ps j 0

    earlier : List GridPlace
    earlier = places_of_coverages ps (take i coverages)

    later : List GridPlace
    later = places_of_coverages ps (drop (i + 1) coverages)

    before : List GridPlace
    before = flat_map (places_of_range planned.cells) (take j ps)

    behind : List GridPlace
    behind = flat_map (places_of_range planned.cells) (drop (j + 1) ps)

    size : length before ≡ j * length planned.cells
    size = range_size planned.cells (take j ps) ∙ ap (λ (n : ℕ). n * length planned.cells) (short j ps m)
      where
        short : (j : ℕ) (ps : List ℕ) → j < length ps → length (take j ps) ≡ j
        short j ps l = omega (arith, length-take j ps, l)

    parts : places_of_coverages ps coverages ≡ (earlier ++ before) ++ (places_of_range planned.cells p ++ (behind ++ later))
    parts =
        flat_split (places_of_coverage ps) coverages i planned l
        ∙ ap (λ (x : PlannedValue). earlier ++ (places_of_coverage ps x ++ later)) (sym is)
        ∙ ap (λ xs. earlier ++ (xs ++ later)) (flat_split (places_of_range planned.cells) ps j 0 m)
        ∙ ap (λ xs. earlier ++ xs) (append_assoc before (places_of_range planned.cells p ++ behind) later ∙ ap (λ xs. before ++ xs) (append_assoc (places_of_range planned.cells p) behind later))
        ∙ sym (append_assoc earlier before (places_of_range planned.cells p ++ (behind ++ later)))
