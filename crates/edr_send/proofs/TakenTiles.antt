-- Nodes that are taken in strips, and the tiles that have them.
use Rattle.std.proofs.Common.{◌≡◌, ℕ, zero, suc, ◌+◌, ◌-◌, ◌*◌, ◌/◌, ◌<◌, ◌≤◌, Bool, true, false, cond, eqb, List, [], ◌∷◌, ◌++◌, Option, None, Some, refl, ap, sym, ◌∙◌, subst, arith, inl, inr, append-nil, zero-add}
use Rattle.std.specs.Prelude.{◌||◌, if◌then◌else◌, option_to_list}
use Rattle.std.specs.List.{flat_map, filter, list_any, range_with_len}
use Rattle.std.proofs.lemmas.Bool.{eqb-true, eq-eqb, cases_Bool}
use Rattle.std.proofs.lemmas.Grind.{flat_map-append}
use Rattle.std.proofs.lemmas.List.Elements.{filter-append}
use Rattle.edr_chunk.specs.declared.shapes.GridShape.{GridShape}
use Rattle.edr_chunk.specs.AllPlaces.{at}
use Rattle.edr_chunk.specs.Tiles.{tile_shape, tiles, tile_of}
use Rattle.edr_chunk.specs.LawsOfPlaces.{TilesAreNumbered}
use Rattle.edr_select.specs.declared.plans.GridNode.{GridNode}
use Rattle.edr_select.specs.Samples.{ascending_once}
use Rattle.edr_select.specs.Listings.{place_at, tiles_of_range}
use Rattle.edr_select.specs.Framings.{FrameValue, is_set, cell_at, row_cells, strip_cells, taken}
use Rattle.edr_send.specs.Strips.{some_taken, left_of, right_of, tile_across, tile_read}
use Rattle.edr_select.specs.ListLaws.{any-map, any-flat_map, any_agree, passes_at, any_range, both, range-append}

-- ---- runs of numbers of which none passes

pub none_passes : (t : ℕ → Bool) (a n : ℕ) → ((k : ℕ) → a ≤ k → k < a + n → t k ≡ false) → list_any t (range_with_len a n) ≡ false
none_passes t a zero none = refl
none_passes t a (suc n) none =
    ap (λ b. b || list_any t (range_with_len (a + 1) n)) (none a (omega arith) (omega arith)) ∙ none_passes t (a + 1) n (λ k low high. none k (omega arith) (omega arith))

pub none_kept : (q : ℕ → Bool) (a n : ℕ) → ((k : ℕ) → a ≤ k → k < a + n → q k ≡ false) → filter q (range_with_len a n) ≡ []
none_kept q a zero none = refl
none_kept q a (suc n) none =
    ap (λ b. cond b (a ∷ filter q (range_with_len (a + 1) n)) (filter q (range_with_len (a + 1) n))) (none a (omega arith) (omega arith))
    ∙ none_kept q (a + 1) n (λ k low high. none k (omega arith) (omega arith))

fails : (q : ℕ → Bool) (k : ℕ) → (q k ≡ true → ⊥) → q k ≡ false
fails q k never = elim (cases_Bool (q k)) [ inl here ↦ absurd (never here) | inr other ↦ other ]

-- numbers that are kept of all below a count, and lie in a run, are kept of the run
pub kept_in_run : (q : ℕ → Bool) (count a n : ℕ) → ((k : ℕ) → q k ≡ true → k < count) → ((k : ℕ) → q k ≡ true → a ≤ k) → ((k : ℕ) → q k ≡ true → k < a + n)
    → filter q (range_with_len 0 count) ≡ filter q (range_with_len a n)
kept_in_run q count a n below low high = sym (whole count (a + n) (λ k up. fails q k (λ here. let b = below k here in omega (arith, b, up)))) ∙ ap (λ (k : ℕ). filter q (range_with_len 0 k)) (turned count (a + n))
    ∙ whole (a + n) count (λ k up. fails q k (λ here. let h = high k here in omega (arith, h, up)))
    ∙ ap (filter q) (range-append 0 a n) ∙ filter-append q (range_with_len 0 a) (range_with_len (0 + a) n)
    ∙ ap (λ (l : List ℕ). l ++ filter q (range_with_len (0 + a) n)) (none_kept q 0 a (λ k from up. fails q k (λ here. let b = low k here in omega (arith, b, up))))
    ∙ ap (λ (k : ℕ). filter q (range_with_len k n)) (zero-add a)
  where
    turned : (a b : ℕ) → a + b ≡ b + a
    turned a b = omega arith

    whole : (m more : ℕ) → ((k : ℕ) → m ≤ k → q k ≡ false) → filter q (range_with_len 0 (m + more)) ≡ filter q (range_with_len 0 m)
    whole m more none =
        ap (filter q) (range-append 0 m more) ∙ filter-append q (range_with_len 0 m) (range_with_len (0 + m) more)
        ∙ ap (λ (l : List ℕ). filter q (range_with_len 0 m) ++ l) (none_kept q (0 + m) more (λ k from up. none k (omega (arith, from))))
        ∙ append-nil (filter q (range_with_len 0 m))

-- ---- nodes that are taken

-- where none of some rows and columns is taken
pub none_taken : (frame : FrameValue) (from to left right : ℕ) → some_taken frame from to left right ≡ false → (y x : ℕ) → from ≤ y → y < to → left ≤ x → x < right → is_set frame y x ≡ false
none_taken frame from to left right none y x low high l r =
    fails (is_set frame y) x (λ here.
    let some : some_taken frame from to left right ≡ true =
    any_range (λ y. list_any (is_set frame y) (range_with_len left (right - left))) from (to - from) y low (omega (arith, low, high))
    (any_range (is_set frame y) left (right - left) x l (omega (arith, l, r)) here) in
    no_both (sym some ∙ none))
  where
    no_both : true ≡ false → ⊥
    no_both e = cc

-- where one is, there are some rows and columns
pub some_place : (frame : FrameValue) (from to left right : ℕ) → some_taken frame from to left right ≡ true → (from < to) × (left < right)
some_place frame from to left right some =
    let row = passes_at (λ y. list_any (is_set frame y) (range_with_len left (right - left))) from (to - from) some in
    let node = passes_at (is_set frame row.place) left (right - left) row.passes in
    (omega (arith, row.low, row.high), omega (arith, node.low, node.high))

-- ---- the tiles of a strip

-- a node of a strip that is taken, whose tile has a number
pub record TakenIn (shape : GridShape) (frame : FrameValue) (p t z from n k : ℕ) : Type 0 where
  pub y : ℕ
  pub x : ℕ
  pub low : from ≤ y
  pub high : y < from + n
  pub left : frame.column ≤ x
  pub right : x < frame.column + frame.columns
  pub is : is_set frame y x ≡ true
  pub numbered : tile_of shape (at p t z y x) ≡ k

abbrev among : List ℕ → ℕ → Bool
among xs k = list_any (λ n. eqb n k) xs

module _ (shape : GridShape) (frame : FrameValue) (p t z : ℕ) where
  abbrev tile_at : GridNode → ℕ
  tile_at cell = tile_of shape (place_at p cell)

  abbrev tile_node : ℕ → ℕ → ℕ
  tile_node y x = tile_of shape (at p t z y x)

  abbrev pub tiles_wanted : ℕ → ℕ → List ℕ
  tiles_wanted from n = tiles_of_range shape (taken (strip_cells frame t z from n)) p

  -- one cell has a tile
  abbrev has_tile : ℕ → Option GridNode → Bool
  has_tile k cell = list_any (λ (c : GridNode). eqb (tile_at c) k) (option_to_list cell)

  -- a number is that of a tile of some row
  wanted_rows : (from n k : ℕ) → among (tiles_wanted from n) k ≡ list_any (λ y. list_any (λ x. has_tile k (cell_at frame t z y x)) (range_with_len frame.column frame.columns)) (range_with_len from n)
  wanted_rows from n k =
      any-map (λ (m : ℕ). eqb m k) tile_at (taken (strip_cells frame t z from n))
      ∙ any-flat_map (λ (c : GridNode). eqb (tile_at c) k) option_to_list (strip_cells frame t z from n)
      ∙ any-flat_map (has_tile k) (row_cells frame t z) (range_with_len from n)
      ∙ any_agree (λ y. list_any (has_tile k) (row_cells frame t z y)) (λ y. list_any (λ x. has_tile k (cell_at frame t z y x)) (range_with_len frame.column frame.columns))
      (λ y. any-map (has_tile k) (cell_at frame t z y) (range_with_len frame.column frame.columns)) (range_with_len from n)

  cell_from : (y x k : ℕ) (b : Bool) → has_tile k (if b then Some (record { t = t; z = z; y = y; x = x }) else None) ≡ true → (b ≡ true) × (tile_node y x ≡ k)
  cell_from y x k true h = (refl, eqb-true (tile_node y x) k (sym (or_none (eqb (tile_node y x) k)) ∙ h))
    where
      or_none : (b : Bool) → (b || false) ≡ b
      or_none true = refl
      or_none false = refl
  cell_from y x k false h = cc

  cell_to : (y x k : ℕ) (b : Bool) → b ≡ true → tile_node y x ≡ k → has_tile k (if b then Some (record { t = t; z = z; y = y; x = x }) else None) ≡ true
  cell_to y x k true is e = ap (λ (b : Bool). b || false) (eq-eqb (tile_node y x) k e)
  cell_to y x k false is e = cc

  pub wanted_found : (from n k : ℕ) → among (tiles_wanted from n) k ≡ true → TakenIn shape frame p t z from n k
  wanted_found from n k h =
      let row = passes_at (λ y. list_any (λ x. has_tile k (cell_at frame t z y x)) (range_with_len frame.column frame.columns)) from n (sym (wanted_rows from n k) ∙ h) in
      let node = passes_at (λ x. has_tile k (cell_at frame t z row.place x)) frame.column frame.columns row.passes in
      let is = cell_from row.place node.place k (is_set frame row.place node.place) node.passes in
      record { y = row.place; x = node.place; low = row.low; high = row.high; left = node.low; right = node.high; is = is.0; numbered = is.1 }

  pub found_wanted : (from n k : ℕ) → TakenIn shape frame p t z from n k → among (tiles_wanted from n) k ≡ true
  found_wanted from n k a =
      wanted_rows from n k
      ∙ any_range (λ y. list_any (λ x. has_tile k (cell_at frame t z y x)) (range_with_len frame.column frame.columns)) from n a.y a.low a.high
      (any_range (λ x. has_tile k (cell_at frame t z a.y x)) frame.column frame.columns a.x a.left a.right (cell_to a.y a.x k (is_set frame a.y a.x) a.is a.numbered))

  -- ---- in one row of tiles

  abbrev base : ℕ → ℕ
  base from = (((p * shape.times + t) * shape.levels + z) * (tile_shape shape).rows + from / 64) * (tile_shape shape).columns

  across_is : (from across : ℕ) → tile_across shape p t z from across ≡ base from + across
  across_is from across = ap (λ (k : ℕ). base from + k) (back across)
    where
      back : (across : ℕ) → across * 64 / 64 ≡ across
      back across = omega arith

  node_is : (from y x : ℕ) → y / 64 ≡ from / 64 → tile_node y x ≡ base from + x / 64
  node_is from y x e = ap (λ (r : ℕ). (((p * shape.times + t) * shape.levels + z) * (tile_shape shape).rows + r) * (tile_shape shape).columns + x / 64) e

  module _ (from n : ℕ) (one : from + n ≤ from / 64 * 64 + 64) where
    row_is : (y : ℕ) → from ≤ y → y < from + n → y / 64 ≡ from / 64
    row_is y low high = omega (arith, one, low, high)

    -- the tile of a column of tiles is wanted where one of its nodes is taken
    column_is : (across : ℕ) → some_taken frame from (from + n) (left_of frame across) (right_of frame across) ≡ among (tiles_wanted from n) (base from + across)
    column_is across =
        both (some_taken frame from (from + n) (left_of frame across) (right_of frame across)) (among (tiles_wanted from n) (base from + across)) to back
      where
        to : some_taken frame from (from + n) (left_of frame across) (right_of frame across) ≡ true → among (tiles_wanted from n) (base from + across) ≡ true
        to h =
            let row = passes_at (λ y. list_any (is_set frame y) (range_with_len (left_of frame across) (right_of frame across - left_of frame across))) from (from + n - from) h in
            let node = passes_at (is_set frame row.place) (left_of frame across) (right_of frame across - left_of frame across) row.passes in
            let here : node.place / 64 ≡ across = omega (arith, node.low, node.high) in
            found_wanted from n (base from + across) (record {
              y = row.place;
              x = node.place;
              low = row.low;
              high = omega (arith, row.low, row.high);
              left = omega (arith, node.low);
              right = omega (arith, node.low, node.high);
              is = node.passes;
              numbered = node_is from row.place node.place (row_is row.place row.low (omega (arith, row.low, row.high))) ∙ ap (λ (k : ℕ). base from + k) here;
            })

        back : among (tiles_wanted from n) (base from + across) ≡ true → some_taken frame from (from + n) (left_of frame across) (right_of frame across) ≡ true
        back h =
            let a = wanted_found from n (base from + across) h in
            let there : base from + a.x / 64 ≡ base from + across = sym (node_is from a.y a.x (row_is a.y a.low a.high)) ∙ a.numbered in
            let here : a.x / 64 ≡ across = omega (arith, there) in
            any_range (λ y. list_any (is_set frame y) (range_with_len (left_of frame across) (right_of frame across - left_of frame across))) from (from + n - from) a.y a.low (omega (arith, a.low, a.high))
            (any_range (is_set frame a.y) (left_of frame across) (right_of frame across - left_of frame across) a.x (omega (arith, here, a.left)) (omega (arith, here, a.left, a.right)) a.is)

    read_is : (across : ℕ) (rest : List ℕ) → tile_read shape frame p t z from (from + n) across ++ rest ≡ cond (among (tiles_wanted from n) (base from + across)) ((base from + across) ∷ rest) rest
    read_is across rest = chosen (some_taken frame from (from + n) (left_of frame across) (right_of frame across)) (among (tiles_wanted from n) (base from + across)) (column_is across) (across_is from across)
      where
        chosen : (b c : Bool) {k m : ℕ} → b ≡ c → k ≡ m → (if b then k ∷ [] else []) ++ rest ≡ cond c (m ∷ rest) rest
        chosen true true same e = ap (λ (k : ℕ). k ∷ rest) e
        chosen true false same e = cc
        chosen false true same e = cc
        chosen false false same e = refl

    read_run : (first many : ℕ) → flat_map (tile_read shape frame p t z from (from + n)) (range_with_len first many) ≡ filter (among (tiles_wanted from n)) (range_with_len (base from + first) many)
    read_run first zero = refl
    read_run first (suc many) =
        read_is first (flat_map (tile_read shape frame p t z from (from + n)) (range_with_len (first + 1) many))
        ∙ ap (λ (l : List ℕ). cond (among (tiles_wanted from n) (base from + first)) ((base from + first) ∷ l) l)
        (read_run (first + 1) many ∙ ap (λ (k : ℕ). filter (among (tiles_wanted from n)) (range_with_len k many)) (next (base from) first))
      where
        next : (a b : ℕ) → a + (b + 1) ≡ a + b + 1
        next a b = omega arith

    -- the tiles of the columns of tiles that a frame meets are those that are wanted
    pub tiles_read : TilesAreNumbered shape → p < shape.parameters → t < shape.times → z < shape.levels → from + n ≤ shape.rows → frame.column + frame.columns ≤ shape.columns
        → (first last : ℕ) → first ≡ frame.column / 64 → last ≡ (frame.column + frame.columns + 63) / 64
        → ascending_once (tiles shape) (tiles_wanted from n) ≡ flat_map (tile_read shape frame p t z from (from + n)) (range_with_len first (last - first))
    tiles_read tiled inside_p inside_t inside_z inside_y inside_x first last first_is last_is =
        kept_in_run (among (tiles_wanted from n)) (tiles shape) (base from + first) (last - first)
        (λ k h. let a = wanted_found from n k h in
        subst (λ (m : ℕ). m < tiles shape) a.numbered (tiled.below (at p t z a.y a.x) (record { parameter = inside_p; t = inside_t; z = inside_z; y = omega (arith, a.high, inside_y); x = omega (arith, a.right, inside_x) })))
        (λ k h. let a = wanted_found from n k h in
        subst (λ (m : ℕ). base from + first ≤ m) (sym (node_is from a.y a.x (row_is a.y a.low a.high)) ∙ a.numbered) (omega (arith, first_is, a.left)))
        (λ k h. let a = wanted_found from n k h in
        subst (λ (m : ℕ). m < base from + first + (last - first)) (sym (node_is from a.y a.x (row_is a.y a.low a.high)) ∙ a.numbered) (omega (arith, first_is, last_is, a.left, a.right)))
        ∙ sym (read_run first (last - first))

pub strip_tiles : (shape : GridShape) (frame : FrameValue) (p t z from to : ℕ) → from ≤ to → to ≤ from / 64 * 64 + 64 → TilesAreNumbered shape → p < shape.parameters → t < shape.times → z < shape.levels → to ≤ shape.rows
    → frame.column + frame.columns ≤ shape.columns
    → ascending_once (tiles shape) (tiles_of_range shape (taken (strip_cells frame t z from (to - from))) p)
    ≡ flat_map (tile_read shape frame p t z from to) (range_with_len (frame.column / 64) ((frame.column + frame.columns + 63) / 64 - frame.column / 64))
strip_tiles shape frame p t z from to order one tiled inside_p inside_t inside_z inside_y inside_x =
    subst (λ (k : ℕ). ascending_once (tiles shape) (tiles_wanted shape frame p t z from (to - from))
    ≡ flat_map (tile_read shape frame p t z from k) (range_with_len (frame.column / 64) ((frame.column + frame.columns + 63) / 64 - frame.column / 64))) (back from to order)
    (tiles_read shape frame p t z from (to - from) (omega (arith, order, one)) tiled inside_p inside_t inside_z (omega (arith, order, inside_y)) inside_x (frame.column / 64) ((frame.column + frame.columns + 63) / 64) refl refl)
  where
    back : (a b : ℕ) → a ≤ b → a + (b - a) ≡ b
    back a b l = omega (arith, l)

-- the tiles that are read, up to a column of tiles and from it on
pub reads_split : (shape : GridShape) (frame : FrameValue) (p t z from to first across last : ℕ) → first ≤ across → across ≤ last
    → flat_map (tile_read shape frame p t z from to) (range_with_len first (last - first))
    ≡ flat_map (tile_read shape frame p t z from to) (range_with_len first (across - first)) ++ flat_map (tile_read shape frame p t z from to) (range_with_len across (last - across))
reads_split shape frame p t z from to first across last l m =
    ap (λ (n : ℕ). flat_map (tile_read shape frame p t z from to) (range_with_len first n)) (parts first across last l m)
    ∙ ap (flat_map (tile_read shape frame p t z from to)) (range-append first (across - first) (last - across))
    ∙ flat_map-append (tile_read shape frame p t z from to) (range_with_len first (across - first)) (range_with_len (first + (across - first)) (last - across))
    ∙ ap (λ (k : ℕ). flat_map (tile_read shape frame p t z from to) (range_with_len first (across - first)) ++ flat_map (tile_read shape frame p t z from to) (range_with_len k (last - across))) (start first across l)
  where
    parts : (first across last : ℕ) → first ≤ across → across ≤ last → last - first ≡ (across - first) + (last - across)
    parts first across last l m = omega arith

    start : (first across : ℕ) → first ≤ across → first + (across - first) ≡ across
    start first across l = omega arith

-- the tiles that are read so far, and the next
pub reads_more : (shape : GridShape) (frame : FrameValue) (p t z from to first across : ℕ) → first ≤ across
    → flat_map (tile_read shape frame p t z from to) (range_with_len first (across + 1 - first))
    ≡ flat_map (tile_read shape frame p t z from to) (range_with_len first (across - first)) ++ tile_read shape frame p t z from to across
reads_more shape frame p t z from to first across l = reads_split shape frame p t z from to first across (across + 1) l (omega arith) ∙ ap (λ (l : List ℕ). flat_map (tile_read shape frame p t z from to) (range_with_len first (across - first)) ++ l)
    (ap (λ (n : ℕ). flat_map (tile_read shape frame p t z from to) (range_with_len across n)) (one across) ∙ append-nil (tile_read shape frame p t z from to across))
  where
    one : (n : ℕ) → n + 1 - n ≡ 1
    one n = omega arith
