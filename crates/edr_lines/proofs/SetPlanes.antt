-- A plane that is set where a box has a node, rectangle by rectangle and row by row.
use Rattle.std.proofs.Common.{◌≡◌, ℕ, ◌+◌, ◌-◌, ◌*◌, ◌<◌, ◌≤◌, Bool, true, false, List, [], length, get_or, take, drop, replicate, eqb, refl, ap, ap₂, sym, ◌∙◌, subst, arith, inl, inr, length-take, length-drop, All, mul-le-mul, nat_lt}
use Rattle.std.proofs.Math.Bool.{or_assoc}
use Rattle.std.specs.Prelude.{◌&&◌, ◌||◌, nat_le}
use Rattle.std.proofs.Math.Nat.{mul-le-mul_left}
use Rattle.std.proofs.lemmas.Bool.{cases_lt, cases_eq, eq-eqb, ne_eqb, or_right, le-leb, lt-leb, lt-ltb, le-ltb}
use Rattle.std.proofs.lemmas.Bool.Decides.{nat_tests}
use Rattle.std.proofs.lemmas.List.{get_or-replicate, length-replicate}
use Rattle.edr_corridor.specs.declared.boxes.Rectangle.{Rectangle}
use Rattle.edr_corridor.specs.declared.boxes.SegmentBox.{SegmentBox}
use Rattle.edr_geometry.specs.Ranges.{lies_in}
use Rattle.edr_corridor.specs.Boxes.{has_place}
use Rattle.edr_select.specs.Stacks.{SidesValue, plane_size}
use borrow.Rule.Slice.PartMut.{put_mid}
use Rattle.edr_lines.specs.Bits.{RangeSet, RowFits, RowsFit, ColumnsFit, InBox, PlaneSet, IsSmall, node_number, is_in_row, is_among_rows}
use Rattle.edr_lines.specs.Boxes.{has_node, has_first}
use Rattle.edr_lines.proofs.RectangleNodes.{no_rectangles, all_rectangles, rectangle_more}
use Rattle.edr_lines.proofs.AskedPlaces.{lies_at}
use Rattle.edr_lines.proofs.RangePlaces.{before_first, behind_end}
use Rattle.edr_lines.proofs.Blocks.{block_end, block_full, block_set, put_full, put_before, put_behind, put_at}

pub or_none : (b c : Bool) → c ≡ false → b ≡ (b || c)
or_none true c h = refl
or_none false c h = sym h

pub part_long : (xs : List Bool) (start size : ℕ) → start + size ≤ length xs → length (take (start + size - start) (drop start xs)) ≡ size
part_long xs start size inside = omega (arith, length-take (start + size - start) (drop start xs), length-drop start xs, inside)

-- a plane is small
pub plane_few : (sides : SidesValue) → IsSmall sides → plane_size sides ≤ 16_000_000_000_000
plane_few sides small = few sides.rows sides.columns (omega (arith, small.rows)) (omega (arith, small.columns))
  where
    few : (a b : ℕ) → a ≤ 4_000_000 → b ≤ 4_000_000 → a * b ≤ 16_000_000_000_000
    few a b h k = let one : a * b ≤ a * 4_000_000 = mul-le-mul_left a k in omega (arith, one, h)

-- where a node stands in its plane
pub in_columns : (sides : SidesValue) (y x : ℕ) → InBox sides y x → x - sides.column < sides.columns
in_columns sides y x n = omega (arith, n.left, n.right)

pub in_rows : (sides : SidesValue) (y x : ℕ) → InBox sides y x → y - sides.row < sides.rows
in_rows sides y x n = omega (arith, n.low, n.high)

-- ---- a range

pub range_set : (from end : ℕ) (old ws : List Bool) → from ≤ end → end ≤ length old → ws ≡ replicate (end - from) true → RangeSet (from, end) old (put_mid from (end - from) old ws)
range_set from end old ws ordered inside is =
    let long : length ws ≡ end - from = ap (λ (l : List Bool). length l) is ∙ length-replicate (end - from) true in
    record {
      full = put_full old ws from end ordered inside long;
      set = λ k below. elim (cases_lt k from) [
        | inl lt ↦ put_before old ws from end ordered inside long k lt ∙ or_none (get_or old k false) (lies_in (from, end) k) (before_first (from, end) k lt)
        | inr ge ↦ elim (cases_lt k end) [
          | inr past ↦ put_behind old ws from end ordered inside long k past ∙ or_none (get_or old k false) (lies_in (from, end) k) (behind_end (from, end) k past)
          | inl lt ↦
              let at : from + (k - from) ≡ k = omega (arith, ge) in
              ap (λ i. get_or (put_mid from (end - from) old ws) i false) (sym at)
              ∙ put_at old ws from end ordered inside long (k - from) (omega (arith, ge, lt))
              ∙ ap (λ (l : List Bool). get_or l (k - from) false) is
              ∙ get_or-replicate (end - from) (k - from) true false (omega (arith, ge, lt))
              ∙ sym (or_right (get_or old k false) (lies_in (from, end) k) (lies_at from end k ge lt))
        ]
      ];
    }

-- ---- a row

module _ (sides : SidesValue) (row : ℕ) (columns : ℕ × ℕ) (r : RowFits sides row) (c : ColumnsFit sides columns) where
  -- the truth values of the row are those of the range
  same_columns : (x : ℕ) → sides.column ≤ x → lies_in (columns.0 - sides.column, columns.1 - sides.column) (x - sides.column) ≡ lies_in columns x
  same_columns x left = grind (arith, nat_tests, c.left, c.ordered)

  same_node : (y x : ℕ) → InBox sides y x → (eqb (y - sides.row) (row - sides.row) && lies_in (columns.0 - sides.column, columns.1 - sides.column) (x - sides.column)) ≡ is_in_row row columns y x
  same_node y x n = ap₂ (λ a b. a && b) (same_row y n.low) (same_columns x n.left)
    where
      same_row : (y : ℕ) → sides.row ≤ y → eqb (y - sides.row) (row - sides.row) ≡ eqb y row
      same_row y low = grind (arith, nat_tests, r.low)

  pub row_set : (plane ws : List Bool) → length plane ≡ plane_size sides
      → RangeSet (columns.0 - sides.column, columns.1 - sides.column) (take ((row - sides.row) * sides.columns + sides.columns - (row - sides.row) * sides.columns) (drop ((row - sides.row) * sides.columns) plane)) ws
      → PlaneSet sides (is_in_row row columns) plane (put_mid ((row - sides.row) * sides.columns) ((row - sides.row) * sides.columns + sides.columns - (row - sides.row) * sides.columns) plane ws)
  row_set plane ws full s =
      let among : row - sides.row < sides.rows = omega (arith, r.low, r.high) in
      let long = part_long plane ((row - sides.row) * sides.columns) sides.columns (omega (arith, full, block_end (row - sides.row) sides.rows sides.columns among)) in
      record {
        full = block_full plane ws sides.columns sides.rows (row - sides.row) full among s.full;
        set = λ y x n.
            block_set plane ws sides.columns sides.rows (row - sides.row) full among s.full (y - sides.row) (x - sides.column) (in_columns sides y x n)
            (lies_in (columns.0 - sides.column, columns.1 - sides.column) (x - sides.column))
            (s.set (x - sides.column) (omega (arith, long, in_columns sides y x n)))
            ∙ ap (λ b. get_or plane (node_number sides y x) false || b) (same_node y x n);
      }

-- where a row stands in its plane
pub record RowStands (sides : SidesValue) (row : ℕ) (plane : List Bool) : Type 0 where
  pub end : (row - sides.row) * sides.columns + sides.columns ≤ length plane
  pub small : (row - sides.row) * sides.columns + sides.columns ≤ 16_000_000_000_000
  pub long : length (take ((row - sides.row) * sides.columns + sides.columns - (row - sides.row) * sides.columns) (drop ((row - sides.row) * sides.columns) plane)) ≡ sides.columns

pub row_stands : (sides : SidesValue) (row : ℕ) (plane : List Bool) → IsSmall sides → length plane ≡ plane_size sides → RowFits sides row → RowStands sides row plane
row_stands sides row plane small full fits =
    let end = block_end (row - sides.row) sides.rows sides.columns (omega (arith, fits.low, fits.high)) in
    record {
      end = omega (arith, full, end);
      small = omega (arith, end, plane_few sides small);
      long = part_long plane ((row - sides.row) * sides.columns) sides.columns (omega (arith, full, end));
    }

-- the same where the sides are read as others that are equal
module _ (sides now : SidesValue) (same : sides ≡ now) where
  pub as_small : IsSmall now → IsSmall sides
  as_small h = subst (λ (s : SidesValue). IsSmall s) (sym same) h

  pub as_full : (plane : List Bool) → length plane ≡ plane_size now → length plane ≡ plane_size sides
  as_full plane h = h ∙ ap (λ (s : SidesValue). plane_size s) (sym same)

  pub as_row : (row : ℕ) → RowFits now row → RowFits sides row
  as_row row h = subst (λ (s : SidesValue). RowFits s row) (sym same) h

  pub as_columns : (columns : ℕ × ℕ) → ColumnsFit now columns → ColumnsFit sides columns
  as_columns columns h = subst (λ (s : SidesValue). ColumnsFit s columns) (sym same) h

  pub stands : (row : ℕ) (plane : List Bool) → IsSmall now → length plane ≡ plane_size now → RowFits now row → RowStands sides row plane
  stands row plane small full fits = row_stands sides row plane (as_small small) (as_full plane full) (as_row row fits)

-- ---- a rectangle, row by row

-- the rows of a range, of some columns
abbrev pub is_in_rows : ℕ → ℕ → ℕ × ℕ → ℕ → ℕ → Bool
is_in_rows first end columns y x = lies_in (first, end) y && lies_in columns x

module _ (sides : SidesValue) (columns : ℕ × ℕ) where
  pub no_rows_set : (first : ℕ) (plane : List Bool) → PlaneSet sides (is_in_rows first first columns) plane plane
  no_rows_set first plane = record { full = refl; set = λ y x n. or_none (get_or plane (node_number sides y x) false) (is_in_rows first first columns y x) (nothing y x) }
    where
      nothing : (y x : ℕ) → is_in_rows first first columns y x ≡ false
      nothing y x = ap (λ b. b && lies_in columns x) (empty y)
        where
          empty : (y : ℕ) → lies_in (first, first) y ≡ false
          empty y = grind (arith, nat_tests)

  pub row_more : (first row : ℕ) (old mid new : List Bool) → first ≤ row → PlaneSet sides (is_in_rows first row columns) old mid → PlaneSet sides (is_in_row row columns) mid new
      → PlaneSet sides (is_in_rows first (row + 1) columns) old new
  row_more first row old mid new ordered p r = record {
    full = r.full ∙ p.full;
    set = λ y x n. r.set y x n ∙ ap (λ b. b || is_in_row row columns y x) (p.set y x n) ∙ or_assoc (get_or old (node_number sides y x) false) (is_in_rows first row columns y x) (is_in_row row columns y x)
        ∙ ap (λ b. get_or old (node_number sides y x) false || b) (more y x);
  }
    where
      apart : (a b c : Bool) → ((a && c) || (b && c)) ≡ ((a || b) && c)
      apart true true true = refl
      apart true true false = refl
      apart true false true = refl
      apart true false false = refl
      apart false b c = refl

      next : (y : ℕ) → (lies_in (first, row) y || eqb y row) ≡ lies_in (first, row + 1) y
      next y = grind (arith, nat_tests, ordered)

      more : (y x : ℕ) → (is_in_rows first row columns y x || is_in_row row columns y x) ≡ is_in_rows first (row + 1) columns y x
      more y x = apart (lies_in (first, row) y) (eqb y row) (lies_in columns x) ∙ ap (λ b. b && lies_in columns x) (next y)

-- ---- rows that stand together

module _ (k w c : ℕ) (low : c < w) where
  block_from : (a : ℕ) → nat_le (a * w) (k * w + c) ≡ nat_le a k
  block_from a = elim (cases_lt k a) [
    | inl lt ↦ lt-leb (a * w) (k * w + c) (omega (arith, low, block_end k a w lt)) ∙ sym (lt-leb a k lt)
    | inr ge ↦ (let more : a * w ≤ k * w = mul-le-mul ge (omega arith) in le-leb (a * w) (k * w + c) (omega (arith, more)) ∙ sym (le-leb a k ge))
  ]

  block_to : (b : ℕ) → nat_lt (k * w + c) (b * w) ≡ nat_lt k b
  block_to b = elim (cases_lt k b) [
    | inl lt ↦ lt-ltb (k * w + c) (b * w) (omega (arith, low, block_end k b w lt)) ∙ sym (lt-ltb k b lt)
    | inr ge ↦ (let more : b * w ≤ k * w = mul-le-mul ge (omega arith) in le-ltb (k * w + c) (b * w) (omega (arith, more)) ∙ sym (le-ltb k b ge))
  ]

module _ (sides : SidesValue) (rows : ℕ × ℕ) (r : RowsFit sides rows) where
  same_rows : (y : ℕ) → sides.row ≤ y → lies_in (rows.0 - sides.row, rows.1 - sides.row) (y - sides.row) ≡ lies_in rows y
  same_rows y low = grind (arith, nat_tests, r.low, r.ordered)

  -- where they stand
  pub rows_end : (rows.1 - sides.row) * sides.columns ≤ plane_size sides
  rows_end = mul-le-mul (omega (arith, r.low, r.ordered, r.high)) (omega arith)

  pub rows_ordered : (rows.0 - sides.row) * sides.columns ≤ (rows.1 - sides.row) * sides.columns
  rows_ordered = mul-le-mul (omega (arith, r.ordered)) (omega arith)

  pub rows_set : (old new : List Bool) → length old ≡ plane_size sides → RangeSet ((rows.0 - sides.row) * sides.columns, (rows.1 - sides.row) * sides.columns) old new → PlaneSet sides (is_among_rows rows) old new
  rows_set old new full s = record {
    full = s.full;
    set = λ y x n.
        (let k = y - sides.row in let c = x - sides.column in
        let low : c < sides.columns = in_columns sides y x n in
        let end = block_end k sides.rows sides.columns (in_rows sides y x n) in
        s.set (node_number sides y x) (omega (arith, full, low, end))
        ∙ ap (λ b. get_or old (node_number sides y x) false || b)
        (ap₂ (λ a b. a && b) (block_from k sides.columns c low (rows.0 - sides.row)) (block_to k sides.columns c low (rows.1 - sides.row)) ∙ same_rows y n.low));
  }

-- a rectangle with all columns has its rows
pub all_columns : (sides : SidesValue) (rectangle : Rectangle) (old new : List Bool) → rectangle.columns.0 ≡ sides.column → rectangle.columns.1 ≡ sides.column + sides.columns
    → PlaneSet sides (is_among_rows rectangle.rows) old new → PlaneSet sides (has_place rectangle) old new
all_columns sides rectangle old new left right p = record {
  full = p.full;
  set = λ y x n. p.set y x n ∙ ap (λ b. get_or old (node_number sides y x) false || b)
      (sym (ap (λ b. lies_in rectangle.rows y && b) (lies_at rectangle.columns.0 rectangle.columns.1 x (omega (arith, left, n.left)) (omega (arith, right, n.right))) ∙ with_true (lies_in rectangle.rows y)));
}
  where
    with_true : (a : Bool) → (a && true) ≡ a
    with_true true = refl
    with_true false = refl

-- ---- a box, rectangle by rectangle

module _ (sides : SidesValue) (box : SegmentBox) where
  pub no_rectangles_set : (plane : List Bool) → PlaneSet sides (has_first box 0) plane plane
  no_rectangles_set plane = record { full = refl; set = λ y x n. or_none (get_or plane (node_number sides y x) false) (has_first box 0 y x) (no_rectangles box y x) }

  pub rectangle_set : (count : ℕ) (rectangle : Rectangle) (old mid new : List Bool) → count < length box.rectangles.items → rectangle ≡ get_or box.rectangles.items count rectangle
      → PlaneSet sides (has_first box count) old mid → PlaneSet sides (has_place rectangle) mid new → PlaneSet sides (has_first box (count + 1)) old new
  rectangle_set count rectangle old mid new inside is p r = record {
    full = r.full ∙ p.full;
    set = λ y x n. r.set y x n ∙ ap (λ b. b || has_place rectangle y x) (p.set y x n) ∙ or_assoc (get_or old (node_number sides y x) false) (has_first box count y x) (has_place rectangle y x)
        ∙ ap (λ b. get_or old (node_number sides y x) false || b) (sym (rectangle_more box count rectangle inside is y x));
  }

  pub all_rectangles_set : (count : ℕ) (old new : List Bool) → length box.rectangles.items ≤ count → PlaneSet sides (has_first box count) old new → PlaneSet sides (has_node box) old new
  all_rectangles_set count old new all p = record { full = p.full; set = λ y x n. p.set y x n ∙ ap (λ b. get_or old (node_number sides y x) false || b) (all_rectangles box count y x all) }
