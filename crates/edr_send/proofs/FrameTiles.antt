-- The tiles of a frame's strips, levels and times: each of these stands behind those before it.
use Rattle.std.proofs.Common.{◌≡◌, ℕ, ◌+◌, ◌-◌, ◌*◌, ◌/◌, ◌<◌, ◌≤◌, Bool, true, false, List, [], ◌∷◌, ◌++◌, length, take, drop, get_or, All, Contains, Option, None, Some, ap, sym, ◌∙◌, arith, inl, inr, append-nil, length-take, length-drop, get_or-take, get_or-drop}
use Rattle.std.specs.Prelude.{if◌then◌else◌, min, max, IfSome}
use Rattle.std.specs.List.{flat_map, range_with_len}
use Rattle.std.proofs.Math.Nat.{mul-le-mul_right}
use Rattle.std.proofs.lemmas.Bool.{cases_lt}
use Rattle.std.proofs.lemmas.Grind.{flat_map-append}
use Rattle.std.proofs.lemmas.List.{take_more, drop_more, get_or_default}
use Rattle.std.proofs.lemmas.List.Elements.{All-nil, All-cons}
use Rattle.edr_chunk.specs.declared.shapes.GridShape.{GridShape}
use Rattle.edr_chunk.specs.AllPlaces.{at}
use Rattle.edr_chunk.specs.Places.{Within}
use Rattle.edr_chunk.specs.Tiles.{tile_shape, tiles, tile_of}
use Rattle.edr_chunk.specs.LawsOfPlaces.{TilesAreNumbered}
use Rattle.edr_select.specs.declared.plans.GridNode.{GridNode}
use Rattle.edr_select.specs.Listings.{place_at}
use Rattle.edr_select.specs.Listings.{NumbersRise}
use Rattle.edr_select.specs.Framings.{FrameValue, IsFrame, is_set, cell_at, row_cells, strip_cells, plane_cells, frame_cells, taken}
use Rattle.edr_send.proofs.BandLaws.{row_above}
use Rattle.edr_send.proofs.FrameSteps.{Cells, tiles_in, Apart}
use Rattle.edr_select.specs.ListLaws.{Each, each-flat_map_range, each-map_range, each-flat_map_in, all_member, range-append}

-- ---- parts of a frame's cells

-- the first row of a frame in a row of tiles
abbrev pub edge : FrameValue → ℕ → ℕ
edge frame down = min (max (down * 64) frame.row) (frame.row + frame.rows)

-- some rows are those up to one and those from it on
pub strip_parts : (frame : FrameValue) (t z a b c : ℕ) → a ≤ b → b ≤ c → strip_cells frame t z a (c - a) ≡ strip_cells frame t z a (b - a) ++ strip_cells frame t z b (c - b)
strip_parts frame t z a b c l m =
    ap (strip_cells frame t z a) (parts a b c l m)
    ∙ ap (flat_map (row_cells frame t z)) (range-append a (b - a) (c - b))
    ∙ flat_map-append (row_cells frame t z) (range_with_len a (b - a)) (range_with_len (a + (b - a)) (c - b))
    ∙ ap (λ (k : ℕ). strip_cells frame t z a (b - a) ++ strip_cells frame t z k (c - b)) (start a b l)
  where
    parts : (a b c : ℕ) → a ≤ b → b ≤ c → c - a ≡ (b - a) + (c - b)
    parts a b c l m = omega arith

    start : (a b : ℕ) → a ≤ b → a + (b - a) ≡ b
    start a b l = omega arith

-- the rows from an edge on are those of a strip and those from the next edge on
pub strip_rest : (frame : FrameValue) (t z a b from to end : ℕ) → from ≡ a → to ≡ b → from ≤ to → to ≤ end
    → strip_cells frame t z a (end - a) ≡ strip_cells frame t z from (to - from) ++ strip_cells frame t z b (end - b)
strip_rest frame t z a b from to end e f l m =
    ap (λ (k : ℕ). strip_cells frame t z k (end - k)) (sym e) ∙ strip_parts frame t z from to end l m ∙ ap (λ (k : ℕ). strip_cells frame t z from (to - from) ++ strip_cells frame t z k (end - k)) f

pub strip_done : (frame : FrameValue) (t z row a b from to : ℕ) → from ≡ a → to ≡ b → row ≤ from → from ≤ to
    → strip_cells frame t z row (b - row) ≡ strip_cells frame t z row (a - row) ++ strip_cells frame t z from (to - from)
strip_done frame t z row a b from to e f l m =
    ap (λ (k : ℕ). strip_cells frame t z row (k - row)) (sym f) ∙ strip_parts frame t z row from to l m ∙ ap (λ (k : ℕ). strip_cells frame t z row (k - row) ++ strip_cells frame t z from (to - from)) e

pub no_strip : (frame : FrameValue) (t z a b : ℕ) → b ≤ a → strip_cells frame t z a (b - a) ≡ []
no_strip frame t z a b l = ap (strip_cells frame t z a) (none a b l)
  where
    none : (a b : ℕ) → b ≤ a → b - a ≡ 0
    none a b l = omega arith

pub flat_take : {X Y : Type 0} (g : X → List Y) (xs ys : List X) (k : ℕ) (d : X) → ys ≡ xs → k < length xs → flat_map g (take (k + 1) xs) ≡ flat_map g (take k xs) ++ g (get_or ys k d)
flat_take g xs ys k d e l =
    ap (flat_map g) (take_more xs k d l) ∙ flat_map-append g (take k xs) (get_or xs k d ∷ []) ∙ ap (λ zs. flat_map g (take k xs) ++ zs) (append-nil (g (get_or xs k d)))
    ∙ ap (λ zs. flat_map g (take k xs) ++ g (get_or zs k d)) (sym e)

pub flat_drop : {X Y : Type 0} (g : X → List Y) (xs ys : List X) (k : ℕ) (d : X) → ys ≡ xs → k < length xs → flat_map g (drop k xs) ≡ g (get_or ys k d) ++ flat_map g (drop (k + 1) xs)
flat_drop g xs ys k d e l = ap (flat_map g) (drop_more xs k d l) ∙ ap (λ zs. g (get_or zs k d) ++ flat_map g (drop (k + 1) xs)) (sym e)

-- ---- what holds of each node

abbrev pub node_of : ℕ → ℕ → ℕ → ℕ → GridNode
node_of t z y x = record { t = t; z = z; y = y; x = x }

pub some_if : (Q : GridNode → Type 0) (b : Bool) (cell : GridNode) → Q cell → IfSome (if b then Some cell else None) Q
some_if Q true cell h = h
some_if Q false cell h = tt

abbrev pub EachNode : (GridNode → Type 0) → Cells → Type 0
EachNode Q cells = Each (λ (o : Option GridNode). IfSome o Q) cells

pub each_strip : (Q : GridNode → Type 0) (frame : FrameValue) (t z a n : ℕ) → ((y x : ℕ) → a ≤ y → y < a + n → x < frame.column + frame.columns → Q (node_of t z y x)) → EachNode Q (strip_cells frame t z a n)
each_strip Q frame t z a n h =
    each-flat_map_range (λ (o : Option GridNode). IfSome o Q) (row_cells frame t z) a n (λ y low high.
    each-map_range (λ (o : Option GridNode). IfSome o Q) (cell_at frame t z y) frame.column frame.columns (λ x left right. some_if Q (is_set frame y x) (node_of t z y x) (h y x low high right)))

each_levels : (Q : GridNode → Type 0) (frame : FrameValue) (t : ℕ) (zs : List ℕ) → ((z y x : ℕ) → Contains zs z → frame.row ≤ y → y < frame.row + frame.rows → x < frame.column + frame.columns → Q (node_of t z y x))
    → EachNode Q (flat_map (plane_cells frame t) zs)
each_levels Q frame t zs h =
    each-flat_map_in (λ (o : Option GridNode). IfSome o Q) (plane_cells frame t) zs (λ z c. each_strip Q frame t z frame.row frame.rows (λ y x low high right. h z y x c low high right))

pub tiles_all : (shape : GridShape) (p : ℕ) (P : ℕ → Type 0) (cells : Cells) → EachNode (λ cell. P (tile_of shape (place_at p cell))) cells → All P (tiles_in shape p cells)
tiles_all shape p P [] h = All-nil P
tiles_all shape p P (None ∷ cells) h = tiles_all shape p P cells h.1
tiles_all shape p P (Some cell ∷ cells) h = All-cons P (tile_of shape (place_at p cell)) (tiles_in shape p cells) h.0 (tiles_all shape p P cells h.1)

-- ---- numbers that rise

pub before_place : (xs : List ℕ) (k x : ℕ) → NumbersRise xs → k < length xs → Contains (take k xs) x → x < get_or xs k 0
before_place xs k x rise l c =
    let low : c.0 < k = omega (arith, c.1, length-take k xs) in
    let there : get_or xs c.0 x ≡ x = sym (get_or-take k xs c.0 x low) ∙ c.2 in
    let up : get_or xs c.0 x < get_or xs k x = rise c.0 k x low l in
    omega (arith, there, up, get_or_default xs k x 0 l)

pub from_place : (xs : List ℕ) (k x : ℕ) → NumbersRise xs → Contains (drop k xs) x → get_or xs k 0 ≤ x
from_place xs k x rise c =
    let inside : k + c.0 < length xs = omega (arith, c.1, length-drop k xs) in
    let there : get_or xs (k + c.0) x ≡ x = sym (get_or-drop k xs c.0 x) ∙ c.2 in
    elim (cases_lt 0 c.0) [
      | inl more ↦
          let up : get_or xs k x < get_or xs (k + c.0) x = rise k (k + c.0) x (omega (arith, more)) inside in
          omega (arith, there, up, get_or_default xs k x 0 (omega (arith, inside)))
      | inr none ↦
          let same : get_or xs (k + c.0) x ≡ get_or xs k x = ap (λ (n : ℕ). get_or xs n x) (still k c.0 none) in
          omega (arith, there, same, get_or_default xs k x 0 (omega (arith, inside)))
    ]
  where
    still : (k i : ℕ) → i ≤ 0 → k + i ≡ k
    still k i none = omega (arith, none)

pub no_place : (xs : List ℕ) (k x : ℕ) → length xs ≤ k → Contains (drop k xs) x → ⊥
no_place xs k x l c = omega (arith, c.1, length-drop k xs, l)

pub taken_place : (xs : List ℕ) (k x : ℕ) → Contains (take k xs) x → Contains xs x
taken_place xs k x c =
    let low : c.0 < k = omega (arith, c.1, length-take k xs) in
    (c.0, omega (arith, c.1, length-take k xs), sym (get_or-take k xs c.0 x low) ∙ c.2)

-- ---- tiles

module _ (shape : GridShape) (tiled : TilesAreNumbered shape) (frame : FrameValue) (is : IsFrame shape frame) (p : ℕ) (inside : p < shape.parameters) where
  abbrev pub high : ℕ
  high = (tile_shape shape).rows

  abbrev pub wide : ℕ
  wide = (tile_shape shape).columns

  abbrev pub time_number : ℕ → ℕ
  time_number t = p * shape.times + t

  abbrev pub level_number : ℕ → ℕ → ℕ
  level_number t z = time_number t * shape.levels + z

  abbrev pub row_base : ℕ → ℕ → ℕ → ℕ
  row_base t z r = (level_number t z * high + r) * wide

  abbrev pub tile_node : ℕ → ℕ → ℕ → ℕ → ℕ
  tile_node t z y x = tile_of shape (at p t z y x)

  across_inside : (x : ℕ) → x < frame.column + frame.columns → x / 64 < wide
  across_inside x l = omega (arith, l, is.columns)

  down_inside : (y : ℕ) → y < frame.row + frame.rows → y / 64 < high
  down_inside y l = omega (arith, l, is.rows)

  under_row : (t z r y x : ℕ) → x < frame.column + frame.columns → y / 64 < r → tile_node t z y x < row_base t z r
  under_row t z r y x right l = row_above (level_number t z * high + y / 64) (level_number t z * high + r) (x / 64) wide (omega (arith, l)) (across_inside x right)

  from_row : (t z r y x : ℕ) → r ≤ y / 64 → row_base t z r ≤ tile_node t z y x
  from_row t z r y x l =
      let m : (level_number t z * high + r) * wide ≤ (level_number t z * high + y / 64) * wide = mul-le-mul_right wide (more (level_number t z * high) r (y / 64) l) in
      omega (arith, m)
    where
      more : (a b c : ℕ) → b ≤ c → a + b ≤ a + c
      more a b c l = omega arith

  pub under_level : (t z level y x : ℕ) → y < frame.row + frame.rows → x < frame.column + frame.columns → z < level → tile_node t z y x < row_base t level 0
  under_level t z level y x low right l =
      let rows : level_number t z * high + y / 64 < level_number t level * high = row_above (level_number t z) (level_number t level) (y / 64) high (omega (arith, l)) (down_inside y low) in
      row_above (level_number t z * high + y / 64) (level_number t level * high + 0) (x / 64) wide (omega (arith, rows)) (across_inside x right)

  pub from_level : (t z level y x : ℕ) → level ≤ z → row_base t level 0 ≤ tile_node t z y x
  from_level t z level y x l =
      let m : level_number t level * high ≤ level_number t z * high = mul-le-mul_right high (more (time_number t * shape.levels) level z l) in
      let n : (level_number t level * high + 0) * wide ≤ (level_number t z * high + y / 64) * wide = mul-le-mul_right wide (sum (level_number t level * high) (level_number t z * high) (y / 64) m) in
      omega (arith, n)
    where
      more : (a b c : ℕ) → b ≤ c → a + b ≤ a + c
      more a b c l = omega arith

      sum : (a b c : ℕ) → a ≤ b → a + 0 ≤ b + c
      sum a b c l = omega arith

  pub under_time : (t time z y x : ℕ) → z < shape.levels → y < frame.row + frame.rows → x < frame.column + frame.columns → t < time → tile_node t z y x < row_base time 0 0
  under_time t time z y x level low right l =
      let levels : level_number t z < time_number time * shape.levels = row_above (time_number t) (time_number time) z shape.levels (omega (arith, l)) level in
      let rows : level_number t z * high + y / 64 < level_number time 0 * high = row_above (level_number t z) (level_number time 0) (y / 64) high (omega (arith, levels)) (down_inside y low) in
      row_above (level_number t z * high + y / 64) (level_number time 0 * high + 0) (x / 64) wide (omega (arith, rows)) (across_inside x right)

  pub from_time : (t time z y x : ℕ) → time ≤ t → row_base time 0 0 ≤ tile_node t z y x
  from_time t time z y x l =
      let k : time_number time * shape.levels ≤ time_number t * shape.levels = mul-le-mul_right shape.levels (more (p * shape.times) time t l) in
      let m : level_number time 0 * high ≤ level_number t z * high = mul-le-mul_right high (sum (time_number time * shape.levels) (time_number t * shape.levels) z k) in
      let n : (level_number time 0 * high + 0) * wide ≤ (level_number t z * high + y / 64) * wide = mul-le-mul_right wide (sum (level_number time 0 * high) (level_number t z * high) (y / 64) m) in
      omega (arith, n)
    where
      more : (a b c : ℕ) → b ≤ c → a + b ≤ a + c
      more a b c l = omega arith

      sum : (a b c : ℕ) → a ≤ b → a + 0 ≤ b + c
      sum a b c l = omega arith

  pub tile_inside : (t z y x : ℕ) → t < shape.times → z < shape.levels → y < frame.row + frame.rows → x < frame.column + frame.columns → tile_node t z y x < tiles shape
  tile_inside t z y x time level low right =
      tiled.below (at p t z y x) (record { parameter = inside; t = time; z = level; y = omega (arith, low, is.rows); x = omega (arith, right, is.columns) })

  -- the strips up to a row of tiles, and those from it on
  pub strips_apart : (t z down : ℕ) → t < shape.times → z < shape.levels
      → Apart shape p (strip_cells frame t z frame.row (edge frame down - frame.row)) (strip_cells frame t z (edge frame down) (frame.row + frame.rows - edge frame down))
  strips_apart t z down time level = record {
    bound = row_base t z down;
    inside = tiles_all shape p (λ k. k < tiles shape) (strip_cells frame t z frame.row (edge frame down - frame.row))
        (each_strip (λ cell. tile_of shape (place_at p cell) < tiles shape) frame t z frame.row (edge frame down - frame.row) (λ y x low high right. tile_inside t z y x time level (omega (arith, low, high)) right));
    below = tiles_all shape p (λ k. k < row_base t z down) (strip_cells frame t z frame.row (edge frame down - frame.row))
        (each_strip (λ cell. tile_of shape (place_at p cell) < row_base t z down) frame t z frame.row (edge frame down - frame.row) (λ y x low high right. under_row t z down y x right (omega (arith, low, high))));
    behind = tiles_all shape p (λ k. row_base t z down ≤ k) (strip_cells frame t z (edge frame down) (frame.row + frame.rows - edge frame down))
        (each_strip (λ cell. row_base t z down ≤ tile_of shape (place_at p cell)) frame t z (edge frame down) (frame.row + frame.rows - edge frame down) (λ y x low high right. from_row t z down y x (omega (arith, low, high))));
  }

  -- the levels before a place, and those from it on
  pub levels_apart : (t k : ℕ) → t < shape.times → Apart shape p (flat_map (plane_cells frame t) (take k frame.levels)) (flat_map (plane_cells frame t) (drop k frame.levels))
  levels_apart t k time = elim (cases_lt k (length frame.levels)) [
    | inl l ↦ by_level (get_or frame.levels k 0) (λ z c. before_place frame.levels k z is.levels_rise l c) (λ z c. from_place frame.levels k z is.levels_rise c)
    | inr past ↦ by_level shape.levels (λ z c. level_in z c) (λ z c. absurd (no_place frame.levels k z past c))
  ]
    where
      level_in : (z : ℕ) → Contains (take k frame.levels) z → z < shape.levels
      level_in z c = all_member (λ z. z < shape.levels) frame.levels z is.levels (taken_place frame.levels k z c)

      by_level : (level : ℕ) → ((z : ℕ) → Contains (take k frame.levels) z → z < level) → ((z : ℕ) → Contains (drop k frame.levels) z → level ≤ z)
          → Apart shape p (flat_map (plane_cells frame t) (take k frame.levels)) (flat_map (plane_cells frame t) (drop k frame.levels))
      by_level level under from = record {
        bound = row_base t level 0;
        inside = tiles_all shape p (λ k. k < tiles shape) (flat_map (plane_cells frame t) (take k frame.levels))
            (each_levels (λ cell. tile_of shape (place_at p cell) < tiles shape) frame t (take k frame.levels) (λ z y x c low high right. tile_inside t z y x time (level_in z c) high right));
        below = tiles_all shape p (λ k. k < row_base t level 0) (flat_map (plane_cells frame t) (take k frame.levels))
            (each_levels (λ cell. tile_of shape (place_at p cell) < row_base t level 0) frame t (take k frame.levels) (λ z y x c low high right. under_level t z level y x high right (under z c)));
        behind = tiles_all shape p (λ k. row_base t level 0 ≤ k) (flat_map (plane_cells frame t) (drop k frame.levels))
            (each_levels (λ cell. row_base t level 0 ≤ tile_of shape (place_at p cell)) frame t (drop k frame.levels) (λ z y x c low high right. from_level t z level y x (from z c)));
      }

  abbrev pub time_cells : ℕ → Cells
  time_cells t = flat_map (plane_cells frame t) frame.levels

  each_times : (Q : GridNode → Type 0) (ts : List ℕ) → ((t z y x : ℕ) → Contains ts t → z < shape.levels → y < frame.row + frame.rows → x < frame.column + frame.columns → Q (node_of t z y x)) → EachNode Q (flat_map time_cells ts)
  each_times Q ts h =
      each-flat_map_in (λ (o : Option GridNode). IfSome o Q) time_cells ts (λ t c.
      each_levels Q frame t frame.levels (λ z y x d low high right. h t z y x c (all_member (λ z. z < shape.levels) frame.levels z is.levels d) high right))

  -- the times before a place, and those from it on
  pub times_apart : (k : ℕ) → Apart shape p (flat_map time_cells (take k frame.times)) (flat_map time_cells (drop k frame.times))
  times_apart k = elim (cases_lt k (length frame.times)) [
    | inl l ↦ by_time (get_or frame.times k 0) (λ t c. before_place frame.times k t is.times_rise l c) (λ t c. from_place frame.times k t is.times_rise c)
    | inr past ↦ by_time shape.times (λ t c. time_in t c) (λ t c. absurd (no_place frame.times k t past c))
  ]
    where
      time_in : (t : ℕ) → Contains (take k frame.times) t → t < shape.times
      time_in t c = all_member (λ t. t < shape.times) frame.times t is.times (taken_place frame.times k t c)

      by_time : (time : ℕ) → ((t : ℕ) → Contains (take k frame.times) t → t < time) → ((t : ℕ) → Contains (drop k frame.times) t → time ≤ t)
          → Apart shape p (flat_map time_cells (take k frame.times)) (flat_map time_cells (drop k frame.times))
      by_time time under from = record {
        bound = row_base time 0 0;
        inside = tiles_all shape p (λ k. k < tiles shape) (flat_map time_cells (take k frame.times))
            (each_times (λ cell. tile_of shape (place_at p cell) < tiles shape) (take k frame.times) (λ t z y x c level low right. tile_inside t z y x (time_in t c) level low right));
        below = tiles_all shape p (λ k. k < row_base time 0 0) (flat_map time_cells (take k frame.times))
            (each_times (λ cell. tile_of shape (place_at p cell) < row_base time 0 0) (take k frame.times) (λ t z y x c level low right. under_time t time z y x level low right (under t c)));
        behind = tiles_all shape p (λ k. row_base time 0 0 ≤ k) (flat_map time_cells (drop k frame.times))
            (each_times (λ cell. row_base time 0 0 ≤ tile_of shape (place_at p cell)) (drop k frame.times) (λ t z y x c level low right. from_time t time z y x (from t c)));
      }

  -- cells of nodes within the grid
  pub nodes_within : EachNode (λ cell. Within shape (place_at 0 cell)) (frame_cells frame)
  nodes_within =
      each_times (λ cell. Within shape (place_at 0 cell)) frame.times (λ t z y x c level low right.
      record { parameter = omega (arith, inside); t = all_member (λ t. t < shape.times) frame.times t is.times c; z = level; y = omega (arith, low, is.rows); x = omega (arith, right, is.columns) })

pub all_taken : (Q : GridNode → Type 0) (cells : Cells) → EachNode Q cells → All Q (taken cells)
all_taken Q [] h = All-nil Q
all_taken Q (None ∷ cells) h = all_taken Q cells h.1
all_taken Q (Some cell ∷ cells) h = All-cons Q cell (taken cells) h.0 (all_taken Q cells h.1)

-- the nodes of a frame that are taken lie in the grid
pub taken_within : (shape : GridShape) → TilesAreNumbered shape → (frame : FrameValue) → IsFrame shape frame → 0 < shape.parameters → All (λ cell. Within shape (place_at 0 cell)) (taken (frame_cells frame))
taken_within shape tiled frame is some = all_taken (λ cell. Within shape (place_at 0 cell)) (frame_cells frame) (nodes_within shape tiled frame is 0 some)
