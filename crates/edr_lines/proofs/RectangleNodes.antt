-- The nodes of a plane that a box has, rectangle by rectangle.
use Rattle.std.proofs.Common.{◌≡◌, ℕ, ◌+◌, ◌-◌, ◌<◌, ◌≤◌, Bool, true, false, List, [], ◌∷◌, ◌++◌, length, take, get_or, refl, ap, ap₂, sym, ◌∙◌, arith, All}
use Rattle.std.specs.Prelude.{◌&&◌, ◌||◌}
use Rattle.std.specs.List.{list_any, range_with_len}
use Rattle.std.proofs.lemmas.Bool.{and_parts}
use Rattle.std.proofs.lemmas.List.{take_all}
use Rattle.std.proofs.lemmas.List.Folds.{list_any_more}
use Rattle.edr_corridor.specs.declared.boxes.Rectangle.{Rectangle}
use Rattle.edr_corridor.specs.declared.boxes.SegmentBox.{SegmentBox}
use Rattle.edr_geometry.specs.Ranges.{lies_in}
use Rattle.edr_corridor.specs.Boxes.{IsWithin, has_place, have_place}
use Rattle.edr_select.specs.ListLaws.{passes_at, any_range}
use Rattle.edr_lines.specs.Taken.{Counts}
use Rattle.edr_lines.specs.Boxes.{has_node, has_first, some_in, some_along, IsExtentOf}
use Rattle.edr_lines.proofs.AskedPlaces.{lies_at, lies_from}

-- ---- the first rectangles

pub no_rectangles : (box : SegmentBox) (y x : ℕ) → has_first box 0 y x ≡ false
no_rectangles box y x = refl

pub all_rectangles : (box : SegmentBox) (count y x : ℕ) → length box.rectangles.items ≤ count → has_first box count y x ≡ has_node box y x
all_rectangles box count y x all = ap (λ (rs : List Rectangle). have_place rs y x) (take_all count box.rectangles.items all)

pub rectangle_more : (box : SegmentBox) (number : ℕ) (rectangle : Rectangle) → number < length box.rectangles.items → rectangle ≡ get_or box.rectangles.items number rectangle
    → (y x : ℕ) → has_first box (number + 1) y x ≡ (has_first box number y x || has_place rectangle y x)
rectangle_more box number rectangle inside is y x =
    list_any_more (λ r. has_place r y x) box.rectangles.items number rectangle inside
    ∙ ap (λ r. has_first box number y x || has_place r y x) (sym is)

-- ---- how far a rectangle spreads

-- a row and a column that a rectangle has
pub record IsIn (rectangle : Rectangle) (y x : ℕ) : Type 0 where
  pub low : rectangle.rows.0 ≤ y
  pub high : y < rectangle.rows.1
  pub left : rectangle.columns.0 ≤ x
  pub right : x < rectangle.columns.1

pub is_in : (rectangle : Rectangle) (y x : ℕ) → has_place rectangle y x ≡ true → IsIn rectangle y x
is_in rectangle y x h =
    let parts = and_parts (lies_in rectangle.rows y) (lies_in rectangle.columns x) h in
    let rows = lies_from rectangle.rows.0 rectangle.rows.1 y parts.0 in
    let columns = lies_from rectangle.columns.0 rectangle.columns.1 x parts.1 in
    record { low = rows.0; high = rows.1; left = columns.0; right = columns.1 }

pub has_this : (rectangle : Rectangle) (y x : ℕ) → rectangle.rows.0 ≤ y → y < rectangle.rows.1 → rectangle.columns.0 ≤ x → x < rectangle.columns.1 → has_place rectangle y x ≡ true
has_this rectangle y x low high left right =
    ap₂ (λ a b. a && b) (lies_at rectangle.rows.0 rectangle.rows.1 y low high) (lies_at rectangle.columns.0 rectangle.columns.1 x left right)

module _ (n : Counts) (rectangle : Rectangle) (is : IsWithin n.rows n.columns rectangle) where
  in_row : (y : ℕ) → rectangle.rows.0 ≤ y → y < rectangle.rows.1 → some_in (has_place rectangle) n.columns y ≡ true
  in_row y low high =
      any_range (λ x. has_place rectangle y x) 0 n.columns rectangle.columns.0 (omega arith) (omega (arith, is.columns.0, is.columns.1))
      (has_this rectangle y rectangle.columns.0 low high (omega arith) is.columns.0)

  in_column : (x : ℕ) → rectangle.columns.0 ≤ x → x < rectangle.columns.1 → some_along (has_place rectangle) n.rows x ≡ true
  in_column x left right =
      any_range (λ y. has_place rectangle y x) 0 n.rows rectangle.rows.0 (omega arith) (omega (arith, is.rows.0, is.rows.1))
      (has_this rectangle rectangle.rows.0 x (omega arith) is.rows.0 left right)

  of_row : (y : ℕ) → some_in (has_place rectangle) n.columns y ≡ true → (rectangle.rows.0 ≤ y) × (y < rectangle.rows.1)
  of_row y h = let p = passes_at (λ x. has_place rectangle y x) 0 n.columns h in let m = is_in rectangle y p.place p.passes in (m.low, m.high)

  of_column : (x : ℕ) → some_along (has_place rectangle) n.rows x ≡ true → (rectangle.columns.0 ≤ x) × (x < rectangle.columns.1)
  of_column x h = let p = passes_at (λ y. has_place rectangle y x) 0 n.rows h in let m = is_in rectangle p.place x p.passes in (m.left, m.right)

  pub rectangle_extent : IsExtentOf n (has_place rectangle) (record { top = rectangle.rows.0; bottom = rectangle.rows.1 - 1; left = rectangle.columns.0; right = rectangle.columns.1 - 1 })
  rectangle_extent = record {
    rows = record {
      inside = omega (arith, is.rows.0, is.rows.1);
      first_passes = in_row rectangle.rows.0 (omega arith) is.rows.0;
      last_passes = in_row (rectangle.rows.1 - 1) (omega (arith, is.rows.0)) (omega (arith, is.rows.0));
      low = λ y below h. (of_row y h).0;
      high = λ y below h. omega (arith, (of_row y h).1);
    };
    columns = record {
      inside = omega (arith, is.columns.0, is.columns.1);
      first_passes = in_column rectangle.columns.0 (omega arith) is.columns.0;
      last_passes = in_column (rectangle.columns.1 - 1) (omega (arith, is.columns.0)) (omega (arith, is.columns.0));
      low = λ x below h. (of_column x h).0;
      high = λ x below h. omega (arith, (of_column x h).1);
    };
  }
