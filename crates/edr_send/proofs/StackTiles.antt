-- The tiles of a stack's planes: each of these stands behind those before it.
use Rattle.std.proofs.Common.{◌≡◌, ℕ, zero, suc, ◌+◌, ◌-◌, ◌*◌, ◌<◌, ◌≤◌, Bool, List, [], ◌∷◌, ◌++◌, length, drop, get_or, All, Option, refl, ap, ◌∙◌, arith, inl, inr, append-nil, length-take, length-drop}
use Rattle.std.proofs.Math.Nat.{mul-le-mul_right}
use Rattle.std.proofs.lemmas.Nat.{mul-add-lt}
use Rattle.std.specs.Prelude.{IfSome}
use Rattle.std.specs.List.{flat_map, range_with_len, slice_range}
use Rattle.std.proofs.lemmas.Bool.{cases_lt}
use Rattle.std.proofs.lemmas.Grind.{flat_map-append}
use Rattle.std.proofs.lemmas.List.Elements.{All-nil, All-cons, All-get_or}
use Rattle.edr_chunk.specs.declared.shapes.GridShape.{GridShape}
use Rattle.edr_chunk.specs.Places.{Within}
use Rattle.edr_chunk.specs.Tiles.{tile_shape, tiles, tile_of}
use Rattle.edr_chunk.specs.LawsOfPlaces.{TilesAreNumbered}
use Rattle.edr_select.specs.declared.plans.GridNode.{GridNode}
use Rattle.edr_select.specs.Listings.{NumbersRise, place_at}
use Rattle.edr_select.specs.Framings.{FrameValue, IsFrame, plane_cells, taken}
use Rattle.edr_select.specs.Stacks.{SidesValue, StackValue, IsStack, stack_count, plane_at, plane_size, plane_number, time_at, level_at, cells_of_plane, cells_of_time, stack_cells}
use Rattle.edr_select.specs.ListLaws.{each-flat_map_range, range-append}
use Rattle.edr_send.proofs.FrameSteps.{Apart, once_in}
use Rattle.edr_send.proofs.FrameTiles.{EachNode, node_of, all_taken, each_strip, tiles_all, under_level, from_level, under_time, from_time, tile_inside}

-- ---- parts of a list by numbers

pub range_rest : {Y : Type 0} (g : ℕ → List Y) (k n : ℕ) → k < n → flat_map g (range_with_len k (n - k)) ≡ g k ++ flat_map g (range_with_len (k + 1) (n - (k + 1)))
range_rest g k n l = ap (λ (m : ℕ). flat_map g (range_with_len k m)) (more k n l) ∙ one k (n - (k + 1))
  where
    more : (k n : ℕ) → k < n → n - k ≡ suc (n - (k + 1))
    more k n l = omega arith

    one : (k m : ℕ) → flat_map g (range_with_len k (suc m)) ≡ g k ++ flat_map g (range_with_len (k + 1) m)
    one k m = refl

pub range_done : {Y : Type 0} (g : ℕ → List Y) (k : ℕ) → flat_map g (range_with_len 0 (k + 1)) ≡ flat_map g (range_with_len 0 k) ++ g k
range_done g k =
    ap (flat_map g) (range-append 0 k 1)
    ∙ (flat_map-append g (range_with_len 0 k) (range_with_len (0 + k) 1)
    ∙ ap (λ ys. flat_map g (range_with_len 0 k) ++ ys) (ap (λ (m : ℕ). g m ++ []) (none k) ∙ append-nil (g k)))
  where
    none : (k : ℕ) → 0 + k ≡ k
    none k = omega arith

pub range_none : {Y : Type 0} (g : ℕ → List Y) (k n : ℕ) → n ≤ k → flat_map g (range_with_len k (n - k)) ≡ []
range_none g k n l = ap (λ (m : ℕ). flat_map g (range_with_len k m)) (zero k n l)
  where
    zero : (k n : ℕ) → n ≤ k → n - k ≡ 0
    zero k n l = omega arith

pub range_all : {Y : Type 0} (g : ℕ → List Y) (n : ℕ) → flat_map g (range_with_len 0 (n - 0)) ≡ flat_map g (range_with_len 0 n)
range_all g n = ap (λ (m : ℕ). flat_map g (range_with_len 0 m)) (whole n)
  where
    whole : (n : ℕ) → n - 0 ≡ n
    whole n = omega arith

-- ---- planes are frames

one_rises : (n : ℕ) → NumbersRise (n ∷ [])
one_rises n i j d l m = absurd (omega (arith, l, m))

-- a number that rises isn't below one before it
at_least : (xs : List ℕ) → NumbersRise xs → (a b : ℕ) → a ≤ b → b < length xs → get_or xs a 0 ≤ get_or xs b 0
at_least xs rise a b l inside = elim (cases_lt a b) [
  | inl lt ↦ omega (arith, rise a b 0 lt inside)
  | inr ge ↦ same a b (omega (arith, l, ge))
]
  where
    same : (a b : ℕ) → a ≡ b → get_or xs a 0 ≤ get_or xs b 0
    same a b e = omega (arith, ap (λ (n : ℕ). get_or xs n 0) e)

-- numbers that rise below another are no more than it
rise_from : (xs : List ℕ) → NumbersRise xs → (k : ℕ) → k < length xs → k ≤ get_or xs k 0
rise_from xs rise zero l = omega arith
rise_from xs rise (suc k) l = let before = rise_from xs rise k (omega (arith, l)) in let up = rise k (suc k) 0 (omega arith) l in omega (arith, before, up)

pub few : (xs : List ℕ) (n : ℕ) → NumbersRise xs → All (λ x. x < n) xs → length xs ≤ n
few xs n rise all = elim (cases_lt 0 (length xs)) [
  | inl some ↦
      let last : length xs - 1 < length xs = omega (arith, some) in
      let high = all (length xs - 1) 0 last in
      let from = rise_from xs rise (length xs - 1) last in
      omega (arith, some, high, from)
  | inr none ↦ omega (arith, none)
]

one_below : (n m : ℕ) → n < m → All (λ k. k < m) (n ∷ [])
one_below n m l = All-cons (λ k. k < m) n [] l (All-nil (λ k. k < m))

-- the truth values of a plane are as many as its nodes
cut_length : (xs : List Bool) (n size : ℕ) → n * size + size ≤ length xs → length (slice_range xs (n * size) (n * size + size)) ≡ size
cut_length xs n size l = omega (arith, length-take (n * size + size - n * size) (drop (n * size) xs), length-drop (n * size) xs, l)

pub plane_inside : (sides : SidesValue) (n i j : ℕ) → n ≡ stack_count sides → i < length sides.times → j < length sides.levels → plane_number sides i j * plane_size sides + plane_size sides ≤ n
plane_inside sides n i j is hi hj =
    let k : plane_number sides i j < length sides.times * length sides.levels = omega (arith, mul-add-lt i (length sides.levels) j (length sides.times) hi hj) in
    let m : (plane_number sides i j + 1) * plane_size sides ≤ length sides.times * length sides.levels * plane_size sides = mul-le-mul_right (plane_size sides) (omega (arith, k)) in
    omega (arith, m, is)

module _ (shape : GridShape) (stack : StackValue) (is : IsStack shape stack) where
  pub plane_is_frame : (i j : ℕ) → i < length stack.sides.times → j < length stack.sides.levels → IsFrame shape (plane_at stack i j)
  plane_is_frame i j hi hj = record {
    times = one_below (time_at stack.sides i) shape.times (All-get_or (λ t. t < shape.times) stack.sides.times i 0 hi is.sides.times);
    times_rise = one_rises (time_at stack.sides i);
    levels = one_below (level_at stack.sides j) shape.levels (All-get_or (λ z. z < shape.levels) stack.sides.levels j 0 hj is.sides.levels);
    levels_rise = one_rises (level_at stack.sides j);
    rows = is.sides.rows;
    columns = is.sides.columns;
    left = omega arith;
    right = omega arith;
    mask = cut_length stack.mask (plane_number stack.sides i j) (plane_size stack.sides) (plane_inside stack.sides (length stack.mask) i j is.mask hi hj);
  }

  module _ (tiled : TilesAreNumbered shape) (p : ℕ) (inside : p < shape.parameters) where
    -- where the tiles of a level, and those of a time, begin
    abbrev base : ℕ → ℕ → ℕ
    base t z = (((p * shape.times + t) * shape.levels + z) * (tile_shape shape).rows + 0) * (tile_shape shape).columns

    time_in : (i : ℕ) → i < length stack.sides.times → time_at stack.sides i < shape.times
    time_in i hi = All-get_or (λ t. t < shape.times) stack.sides.times i 0 hi is.sides.times

    level_in : (j : ℕ) → j < length stack.sides.levels → level_at stack.sides j < shape.levels
    level_in j hj = All-get_or (λ z. z < shape.levels) stack.sides.levels j 0 hj is.sides.levels

    -- what holds of the nodes of a plane, of some planes of a time, and of those of some times
    each_plane : (Q : GridNode → Type 0) (i j : ℕ)
        → ((y x : ℕ) → y < stack.sides.row + stack.sides.rows → x < stack.sides.column + stack.sides.columns → Q (node_of (time_at stack.sides i) (level_at stack.sides j) y x))
        → EachNode Q (cells_of_plane stack i j)
    each_plane Q i j h =
        each_strip Q (plane_at stack i j) (time_at stack.sides i) (level_at stack.sides j) stack.sides.row stack.sides.rows (λ y x low high right. h y x high right)

    each_planes : (Q : GridNode → Type 0) (i a n : ℕ)
        → ((j y x : ℕ) → a ≤ j → j < a + n → y < stack.sides.row + stack.sides.rows → x < stack.sides.column + stack.sides.columns → Q (node_of (time_at stack.sides i) (level_at stack.sides j) y x))
        → EachNode Q (flat_map (cells_of_plane stack i) (range_with_len a n))
    each_planes Q i a n h =
        each-flat_map_range (λ (o : Option GridNode). IfSome o Q) (cells_of_plane stack i) a n (λ j low high. each_plane Q i j (λ y x hy hx. h j y x low high hy hx))

    each_times : (Q : GridNode → Type 0) (a n : ℕ)
        → ((i j y x : ℕ) → a ≤ i → i < a + n → j < length stack.sides.levels → y < stack.sides.row + stack.sides.rows → x < stack.sides.column + stack.sides.columns
        → Q (node_of (time_at stack.sides i) (level_at stack.sides j) y x))
        → EachNode Q (flat_map (cells_of_time stack) (range_with_len a n))
    each_times Q a n h =
        each-flat_map_range (λ (o : Option GridNode). IfSome o Q) (cells_of_time stack) a n
        (λ i low high. each_planes Q i 0 (length stack.sides.levels) (λ j y x from to hy hx. h i j y x low high (omega (arith, to)) hy hx))

    -- the planes of a time before a level, and those from it on
    by_level : (i j level : ℕ) → i < length stack.sides.times → j ≤ length stack.sides.levels → ((k : ℕ) → k < j → level_at stack.sides k < level)
        → ((k : ℕ) → j ≤ k → k < length stack.sides.levels → level ≤ level_at stack.sides k)
        → Apart shape p (flat_map (cells_of_plane stack i) (range_with_len 0 j)) (flat_map (cells_of_plane stack i) (range_with_len j (length stack.sides.levels - j)))
    by_level i j level hi hj under from = record {
      bound = base (time_at stack.sides i) level;
      inside = tiles_all shape p (λ k. k < tiles shape) (flat_map (cells_of_plane stack i) (range_with_len 0 j))
          (each_planes (λ cell. tile_of shape (place_at p cell) < tiles shape) i 0 j (λ k y x low high hy hx.
          tile_inside shape tiled (plane_at stack i k) (plane_is_frame i k hi (omega (arith, high, hj))) p inside (time_at stack.sides i) (level_at stack.sides k) y x (time_in i hi) (level_in k (omega (arith, high, hj))) hy hx));
      below = tiles_all shape p (λ k. k < base (time_at stack.sides i) level) (flat_map (cells_of_plane stack i) (range_with_len 0 j))
          (each_planes (λ cell. tile_of shape (place_at p cell) < base (time_at stack.sides i) level) i 0 j (λ k y x low high hy hx.
          under_level shape tiled (plane_at stack i k) (plane_is_frame i k hi (omega (arith, high, hj))) p inside (time_at stack.sides i) (level_at stack.sides k) level y x hy hx (under k (omega (arith, high)))));
      behind = tiles_all shape p (λ k. base (time_at stack.sides i) level ≤ k) (flat_map (cells_of_plane stack i) (range_with_len j (length stack.sides.levels - j)))
          (each_planes (λ cell. base (time_at stack.sides i) level ≤ tile_of shape (place_at p cell)) i j (length stack.sides.levels - j) (λ k y x low high hy hx.
          from_level shape tiled (plane_at stack i k) (plane_is_frame i k hi (omega (arith, high, hj))) p inside (time_at stack.sides i) (level_at stack.sides k) level y x (from k low (omega (arith, high, hj)))));
    }

    pub levels_apart : (i j : ℕ) → i < length stack.sides.times → j ≤ length stack.sides.levels
        → Apart shape p (flat_map (cells_of_plane stack i) (range_with_len 0 j)) (flat_map (cells_of_plane stack i) (range_with_len j (length stack.sides.levels - j)))
    levels_apart i j hi hj = elim (cases_lt j (length stack.sides.levels)) [
      | inl l ↦ by_level i j (level_at stack.sides j) hi hj (λ k low. is.sides.levels_rise k j 0 low l) (λ k low high. at_least stack.sides.levels is.sides.levels_rise j k low high)
      | inr past ↦ by_level i j shape.levels hi hj (λ k low. level_in k (omega (arith, low, hj))) (λ k low high. absurd (omega (arith, past, low, high)))
    ]

    -- the planes before a time, and those from it on
    by_time : (i time : ℕ) → i ≤ length stack.sides.times → ((k : ℕ) → k < i → time_at stack.sides k < time)
        → ((k : ℕ) → i ≤ k → k < length stack.sides.times → time ≤ time_at stack.sides k)
        → Apart shape p (flat_map (cells_of_time stack) (range_with_len 0 i)) (flat_map (cells_of_time stack) (range_with_len i (length stack.sides.times - i)))
    by_time i time hi under from = record {
      bound = base time 0;
      inside = tiles_all shape p (λ k. k < tiles shape) (flat_map (cells_of_time stack) (range_with_len 0 i))
          (each_times (λ cell. tile_of shape (place_at p cell) < tiles shape) 0 i (λ k j y x low high hj hy hx.
          tile_inside shape tiled (plane_at stack k j) (plane_is_frame k j (omega (arith, high, hi)) hj) p inside (time_at stack.sides k) (level_at stack.sides j) y x (time_in k (omega (arith, high, hi))) (level_in j hj) hy hx));
      below = tiles_all shape p (λ k. k < base time 0) (flat_map (cells_of_time stack) (range_with_len 0 i))
          (each_times (λ cell. tile_of shape (place_at p cell) < base time 0) 0 i (λ k j y x low high hj hy hx.
          under_time shape tiled (plane_at stack k j) (plane_is_frame k j (omega (arith, high, hi)) hj) p inside (time_at stack.sides k) time (level_at stack.sides j) y x (level_in j hj) hy hx (under k (omega (arith, high)))));
      behind = tiles_all shape p (λ k. base time 0 ≤ k) (flat_map (cells_of_time stack) (range_with_len i (length stack.sides.times - i)))
          (each_times (λ cell. base time 0 ≤ tile_of shape (place_at p cell)) i (length stack.sides.times - i) (λ k j y x low high hj hy hx.
          from_time shape tiled (plane_at stack k j) (plane_is_frame k j (omega (arith, high, hi)) hj) p inside (time_at stack.sides k) time (level_at stack.sides j) y x (from k low (omega (arith, high, hi)))));
    }

    pub times_apart : (i : ℕ) → i ≤ length stack.sides.times
        → Apart shape p (flat_map (cells_of_time stack) (range_with_len 0 i)) (flat_map (cells_of_time stack) (range_with_len i (length stack.sides.times - i)))
    times_apart i hi = elim (cases_lt i (length stack.sides.times)) [
      | inl l ↦ by_time i (time_at stack.sides i) hi (λ k low. is.sides.times_rise k i 0 low l) (λ k low high. at_least stack.sides.times is.sides.times_rise i k low high)
      | inr past ↦ by_time i shape.times hi (λ k low. time_in k (omega (arith, low, hi))) (λ k low high. absurd (omega (arith, past, low, high)))
    ]

    -- the nodes that are taken lie in the grid
    pub taken_within : All (λ cell. Within shape (place_at 0 cell)) (taken (stack_cells stack))
    taken_within =
        all_taken (λ cell. Within shape (place_at 0 cell)) (stack_cells stack)
        (each_times (λ cell. Within shape (place_at 0 cell)) 0 (length stack.sides.times) (λ i j y x low high hj hy hx.
        record { parameter = omega (arith, inside); t = time_in i (omega (arith, high)); z = level_in j hj; y = omega (arith, hy, is.sides.rows); x = omega (arith, hx, is.sides.columns) }))

-- ---- told of another shape, frame, time and level

pub plane_tiles : (shape other : GridShape) (plane frame : FrameValue) (t time z level p : ℕ) → shape ≡ other → plane ≡ frame → t ≡ time → z ≡ level
    → once_in shape p (plane_cells plane t z) ≡ once_in other p (plane_cells frame time level)
plane_tiles shape other plane frame t time z level p e f h i =
    ap (λ (s : GridShape). once_in s p (plane_cells plane t z)) e
    ∙ ap (λ (x : FrameValue). once_in other p (plane_cells x t z)) f
    ∙ ap (λ (n : ℕ). once_in other p (plane_cells frame n z)) h
    ∙ ap (λ (n : ℕ). once_in other p (plane_cells frame time n)) i
