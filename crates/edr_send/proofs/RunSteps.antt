-- Runs of cells whose bands rise: their tiles, their text, and the ranges of parameters that rise.
use Rattle.std.proofs.Common.{◌≡◌, ◌≢◌, ℕ, ◌+◌, ◌-◌, ◌<◌, ◌≤◌, List, [], ◌∷◌, ◌++◌, length, take, drop, get_or, All, ℤ, Option, ap, sym, ◌∙◌, subst, arith, inl, inr, length-take, length-drop, get_or-take, get_or-drop, append-nil, add-zero, add_assoc}
use Rattle.std.specs.Prelude.{map}
use Rattle.std.specs.List.{slice_range, flat_map}
use Rattle.std.proofs.lemmas.Bool.{cases_lt}
use Rattle.std.proofs.lemmas.Grind.{flat_map-append}
use Rattle.std.proofs.lemmas.List.{take_more, take_all, drop_all, drop-drop, length-map, map-append, get_or-map, take-append-drop}
use Rattle.std.proofs.lemmas.List.Elements.{All-nil, All-cons, All-head, All-tail, All-append, All-from_get_or, All-get_or}
use Rattle.covjson_write.specs.Pieces.{values_from}
use Rattle.covjson_write.specs.Writers.{WriterValue, with_values}
use Rattle.covjson_write.specs.PieceLaws.{values_on}
use Rattle.edr_chunk.specs.declared.shapes.GridShape.{GridShape}
use Rattle.edr_chunk.specs.Places.{Within, NumbersTellPlaces}
use Rattle.edr_chunk.specs.Tiles.{tile_shape, tiles, tile_of}
use Rattle.edr_chunk.specs.LawsOfPlaces.{TilesAreNumbered}
use Rattle.edr_select.specs.declared.plans.GridNode.{GridNode}
use Rattle.edr_select.specs.Samples.{ascending_once}
use Rattle.edr_select.specs.Listings.{place_at, tiles_of_range, NumbersRise}
use Rattle.edr_send.specs.Bands.{first_tile, band_of, BandsRise}
use Rattle.edr_send.proofs.Ascending.{once_append, once_none}
use Rattle.edr_send.proofs.TileSteps.{take_on, get_or-range, length-range}
use Rattle.edr_send.proofs.BandLaws.{behind, below_band, from_band, band_inside, below_parameter, from_parameter, parameter_inside}

-- the bands of the cells before a place are below those from it on
abbrev pub Cut : GridShape → List GridNode → ℕ → Type 0
Cut shape cells at = (i j : ℕ) (d : GridNode) → i < at → at ≤ j → j < length cells → band_of shape (get_or cells i d) < band_of shape (get_or cells j d)

pub cut_next : (shape : GridShape) (cells : List GridNode) (next : ℕ) → BandsRise shape cells → 0 < next
    → ((d : GridNode) → next < length cells → band_of shape (get_or cells (next - 1) d) ≢ band_of shape (get_or cells next d)) → Cut shape cells next
cut_next shape cells next rise some other i j d low high inside =
    let before : band_of shape (get_or cells i d) ≤ band_of shape (get_or cells (next - 1) d) = rise i (next - 1) d (omega arith) (omega arith) in
    let up : band_of shape (get_or cells (next - 1) d) ≤ band_of shape (get_or cells next d) = rise (next - 1) next d (omega arith) (omega arith) in
    let differ : band_of shape (get_or cells (next - 1) d) ≢ band_of shape (get_or cells next d) = other d (omega arith) in
    let on : band_of shape (get_or cells next d) ≤ band_of shape (get_or cells j d) = rise next j d high inside in
    omega (arith, before, up, differ, on)

module _ (shape : GridShape) (tiled : TilesAreNumbered shape) (numbered : NumbersTellPlaces (tile_shape shape)) where
  abbrev once : List ℕ → List ℕ
  once numbers = ascending_once (tiles shape) numbers

  module _ (p : ℕ) where
    abbrev tile_at : GridNode → ℕ
    tile_at cell = tile_of shape (place_at p cell)

    before_cut : (cells : List GridNode) (at : ℕ) (d : GridNode) → All (λ cell. Within shape (place_at 0 cell)) cells → at < length cells → Cut shape cells at
        → All (λ x. x < first_tile shape p (get_or cells at d)) (tiles_of_range shape (take at cells) p)
    before_cut cells at d within l cut =
        All-from_get_or (λ x. x < first_tile shape p (get_or cells at d)) (map tile_at (take at cells)) 0 (λ i h.
        let short : i < length (take at cells) = omega (arith, length-map (take at cells) tile_at) in
        let low : i < at = omega (arith, length-take at cells) in
        subst (λ (k : ℕ). k < first_tile shape p (get_or cells at d)) (sym (get_or-map tile_at (take at cells) i d 0 short ∙ ap tile_at (get_or-take at cells i d low)))
        (below_band shape tiled numbered p (get_or cells i d) (get_or cells at d) (All-get_or (λ cell. Within shape (place_at 0 cell)) cells i d (omega (arith, low, l)) within)
        (cut i at d low (omega arith) l)))

    behind_cut : (cells : List GridNode) (at : ℕ) (d : GridNode) → BandsRise shape cells → at < length cells
        → All (λ x. first_tile shape p (get_or cells at d) ≤ x) (tiles_of_range shape (drop at cells) p)
    behind_cut cells at d rise l =
        All-from_get_or (λ x. first_tile shape p (get_or cells at d) ≤ x) (map tile_at (drop at cells)) 0 (λ i h.
        let short : i < length (drop at cells) = omega (arith, length-map (drop at cells) tile_at) in
        subst (λ (k : ℕ). first_tile shape p (get_or cells at d) ≤ k) (sym (get_or-map tile_at (drop at cells) i d 0 short ∙ ap tile_at (get_or-drop at cells i d)))
        (from_band shape tiled numbered p (get_or cells at d) (get_or cells (at + i) d) (rise at (at + i) d (omega arith) (omega (arith, length-drop at cells, short)))))

    within_cut : (cells : List GridNode) (at next : ℕ) (d : GridNode) → BandsRise shape cells → at < next → next ≤ length cells
        → All (λ x. first_tile shape p (get_or cells at d) ≤ x) (tiles_of_range shape (slice_range cells at next) p)
    within_cut cells at next d rise l m =
        All-from_get_or (λ x. first_tile shape p (get_or cells at d) ≤ x) (map tile_at (slice_range cells at next)) 0 (λ i h.
        let long = length-range cells at next (omega (arith, l)) m in
        let short : i < length (slice_range cells at next) = omega (arith, length-map (slice_range cells at next) tile_at) in
        subst (λ (k : ℕ). first_tile shape p (get_or cells at d) ≤ k) (sym (get_or-map tile_at (slice_range cells at next) i d 0 short ∙ ap tile_at (get_or-range cells at next i d (omega (arith, long, short)))))
        (from_band shape tiled numbered p (get_or cells at d) (get_or cells (at + i) d) (rise at (at + i) d (omega arith) (omega (arith, long, short, m)))))

    -- the tiles of a run come behind those of the runs before
    pub run_step : (cells : List GridNode) (at next : ℕ) (d : GridNode) → p < shape.parameters → All (λ cell. Within shape (place_at 0 cell)) cells → BandsRise shape cells → Cut shape cells at → at < next → next ≤ length cells
        → once (tiles_of_range shape (take next cells) p) ≡ once (tiles_of_range shape (take at cells) p) ++ once (tiles_of_range shape (slice_range cells at next) p)
    run_step cells at next d inside within rise cut l m =
        ap (λ (xs : List GridNode). once (map tile_at xs)) (take_on cells at next (omega (arith, l)))
        ∙ ap once (map-append tile_at (take at cells) (slice_range cells at next))
        ∙ once_append (tiles shape) (first_tile shape p (get_or cells at d)) (tiles_of_range shape (take at cells) p) (tiles_of_range shape (slice_range cells at next) p)
        (let low = band_inside shape tiled numbered p (get_or cells at d) inside (All-get_or (λ cell. Within shape (place_at 0 cell)) cells at d (omega (arith, l, m)) within) in omega (arith, low))
        (before_cut cells at d within (omega (arith, l, m)) cut) (within_cut cells at next d rise l m)

    -- the tiles of the runs before a place begin the tiles of all
    pub run_rest : (cells : List GridNode) (at : ℕ) (d : GridNode) → p < shape.parameters → All (λ cell. Within shape (place_at 0 cell)) cells → BandsRise shape cells → Cut shape cells at
        → once (tiles_of_range shape cells p) ≡ once (tiles_of_range shape (take at cells) p) ++ once (tiles_of_range shape (drop at cells) p)
    run_rest cells at d inside within rise cut = elim (cases_lt at (length cells)) [
      | inl l ↦
          ap (λ (xs : List GridNode). once (map tile_at xs)) (sym (take-append-drop at cells))
          ∙ ap once (map-append tile_at (take at cells) (drop at cells))
          ∙ once_append (tiles shape) (first_tile shape p (get_or cells at d)) (tiles_of_range shape (take at cells) p) (tiles_of_range shape (drop at cells) p)
          (let low = band_inside shape tiled numbered p (get_or cells at d) inside (All-get_or (λ cell. Within shape (place_at 0 cell)) cells at d l within) in omega (arith, low))
          (before_cut cells at d within l cut) (behind_cut cells at d rise l)
      | inr past ↦
          sym (append-nil (once (tiles_of_range shape cells p)))
          ∙ ap (λ (l : List ℕ). once (tiles_of_range shape cells p) ++ l) (sym (once_none (tiles shape)))
          ∙ ap (λ (xs : List GridNode). once (tiles_of_range shape cells p) ++ once (tiles_of_range shape xs p)) (sym (drop_all at cells past))
          ∙ ap (λ (xs : List GridNode). once (tiles_of_range shape xs p) ++ once (tiles_of_range shape (drop at cells) p)) (sym (take_all at cells past))
    ]

    -- those of the run with them
    pub run_begun : (cells : List GridNode) (at next : ℕ) (d : GridNode) → p < shape.parameters → All (λ cell. Within shape (place_at 0 cell)) cells → BandsRise shape cells → Cut shape cells at → Cut shape cells next
        → at < next → next ≤ length cells
        → once (tiles_of_range shape cells p) ≡ (once (tiles_of_range shape (take at cells) p) ++ once (tiles_of_range shape (slice_range cells at next) p)) ++ once (tiles_of_range shape (drop next cells) p)
    run_begun cells at next d inside within rise cut later l m =
        run_rest cells next d inside within rise later
        ∙ ap (λ (numbers : List ℕ). numbers ++ once (tiles_of_range shape (drop next cells) p)) (run_step cells at next d inside within rise cut l m)

  -- ---- parameters

  range_below : (q p : ℕ) (cells : List GridNode) → All (λ cell. Within shape (place_at 0 cell)) cells → p < q → All (λ x. x < behind shape tiled numbered q) (tiles_of_range shape cells p)
  range_below q p [] within l = All-nil (λ x. x < behind shape tiled numbered q)
  range_below q p (cell ∷ cells) within l =
      All-cons (λ x. x < behind shape tiled numbered q) (tile_of shape (place_at p cell)) (tiles_of_range shape cells p)
      (below_parameter shape tiled numbered p q cell (All-head (λ cell. Within shape (place_at 0 cell)) cell cells within) l)
      (range_below q p cells (All-tail (λ cell. Within shape (place_at 0 cell)) cell cells within) l)

  range_from : (q p : ℕ) (cells : List GridNode) → q ≤ p → All (λ x. behind shape tiled numbered q ≤ x) (tiles_of_range shape cells p)
  range_from q p [] l = All-nil (λ x. behind shape tiled numbered q ≤ x)
  range_from q p (cell ∷ cells) l =
      All-cons (λ x. behind shape tiled numbered q ≤ x) (tile_of shape (place_at p cell)) (tiles_of_range shape cells p)
      (from_parameter shape tiled numbered q p cell l) (range_from q p cells l)

  ranges_below : (q : ℕ) (ps : List ℕ) (cells : List GridNode) → All (λ cell. Within shape (place_at 0 cell)) cells → All (λ p. p < q) ps → All (λ x. x < behind shape tiled numbered q) (flat_map (tiles_of_range shape cells) ps)
  ranges_below q [] cells within all = All-nil (λ x. x < behind shape tiled numbered q)
  ranges_below q (p ∷ ps) cells within all =
      All-append (λ x. x < behind shape tiled numbered q) (tiles_of_range shape cells p) (flat_map (tiles_of_range shape cells) ps)
      (range_below q p cells within (All-head (λ p. p < q) p ps all)) (ranges_below q ps cells within (All-tail (λ p. p < q) p ps all))

  -- the tiles of one parameter more
  pub parameter_step : (ps : List ℕ) (i : ℕ) (cells : List GridNode) → All (λ p. p < shape.parameters) ps → All (λ cell. Within shape (place_at 0 cell)) cells → NumbersRise ps → i < length ps
      → once (flat_map (tiles_of_range shape cells) (take (i + 1) ps)) ≡ once (flat_map (tiles_of_range shape cells) (take i ps)) ++ once (tiles_of_range shape cells (get_or ps i 0))
  parameter_step ps i cells inside within rise l =
      ap (λ (xs : List ℕ). once (flat_map (tiles_of_range shape cells) xs)) (take_more ps i 0 l)
      ∙ ap once (flat_map-append (tiles_of_range shape cells) (take i ps) (get_or ps i 0 ∷ []) ∙ ap (λ (xs : List ℕ). flat_map (tiles_of_range shape cells) (take i ps) ++ xs) (append-nil (tiles_of_range shape cells (get_or ps i 0))))
      ∙ once_append (tiles shape) (behind shape tiled numbered (get_or ps i 0)) (flat_map (tiles_of_range shape cells) (take i ps)) (tiles_of_range shape cells (get_or ps i 0))
      (parameter_inside shape tiled numbered (get_or ps i 0) (let low = All-get_or (λ p. p < shape.parameters) ps i 0 l inside in omega (arith, low)))
      (ranges_below (get_or ps i 0) (take i ps) cells within
      (All-from_get_or (λ p. p < get_or ps i 0) (take i ps) 0 (λ k h.
      let low : k < i = omega (arith, h, length-take i ps) in
      subst (λ (p : ℕ). p < get_or ps i 0) (sym (get_or-take i ps k 0 low)) (rise k i 0 low l))))
      (range_from (get_or ps i 0) (get_or ps i 0) cells (omega arith))

-- ---- text

pub drop_on : {X : Type 0} (xs : List X) (a b : ℕ) → a ≤ b → drop a xs ≡ slice_range xs a b ++ drop b xs
drop_on xs a b l =
    sym (take-append-drop (b - a) (drop a xs)) ∙ ap (λ ys. take (b - a) (drop a xs) ++ ys) (drop-drop (b - a) a xs ∙ ap (λ (k : ℕ). drop k xs) (whole a b l))
  where
    whole : (a b : ℕ) → a ≤ b → a + (b - a) ≡ b
    whole a b l = omega arith

-- the text of the values from a place on is that of a run and that of those behind it
pub values_next : {X : Type 0} (f : X → Option ℤ) (xs : List X) (a b : ℕ) → a ≤ b → b ≤ length xs
    → values_from a (map f (drop a xs)) ≡ values_from a (map f (slice_range xs a b)) ++ values_from b (map f (drop b xs))
values_next f xs a b l m =
    ap (λ ys. values_from a (map f ys)) (drop_on xs a b l)
    ∙ ap (values_from a) (map-append f (slice_range xs a b) (drop b xs))
    ∙ values_on a (map f (slice_range xs a b)) (map f (drop b xs))
    ∙ ap (λ (k : ℕ). values_from a (map f (slice_range xs a b)) ++ values_from k (map f (drop b xs))) (there (length-map (slice_range xs a b) f) (length-range xs a b l m))
  where
    there : {m n : ℕ} → m ≡ n → n ≡ b - a → a + m ≡ b
    there e g = omega (arith, e, g, l)

-- ---- writers

abbrev with_count : WriterValue → ℕ → WriterValue
with_count w n = record { many = w.many; begun = w.begun; stage = w.stage; head = w.head; ranges = w.ranges; values = n }

pub with_none : (w : WriterValue) → w ≡ with_values w 0
with_none w = ap (λ (n : ℕ). with_count w n) (sym (add-zero w.values))

pub with_more : (v w : WriterValue) (a b : ℕ) → v ≡ with_values w a → with_values v b ≡ with_values w (a + b)
with_more v w a b e = ap (λ (u : WriterValue). with_values u b) e ∙ ap (λ (n : ℕ). with_count w n) (add_assoc w.values a b)
