-- Between which rows and columns a disc or a box lies, and reaches that grow.
use Rattle.std.proofs.Common.{◌≡◌, ℕ, suc, ◌+◌, ◌-◌, ◌*◌, ◌<◌, ◌≤◌, arith, Bool, true, false, List, length, get_or, take, drop, refl, ap, subst, sym, ◌∙◌, inl, inr, All, count_by, ℤ, pos, negsuc, ◌+ℤ◌, ◌-ℤ◌, ◌*ℤ◌, ◌<ℤ◌, ◌≤ℤ◌, int_lt, int_le, mul-le-mul, length-drop}
use Rattle.std.specs.Prelude.{◌&&◌, ◌||◌, max, Option}
use Rattle.std.specs.List.{list_any}
use Rattle.std.proofs.lemmas.Bool.{cases_lt}
use Rattle.std.proofs.lemmas.Int.{ints, by_lt_z}
use Rattle.std.proofs.lemmas.List.Elements.{All-weaker, All-more}
use Rattle.std.proofs.lemmas.List.{take_all, length-take-le}
use Rattle.std.proofs.lemmas.List.Sums.{count_by-le-length}
use Rattle.edr_base.specs.declared.places.Position.{Position}
use Rattle.edr_base.specs.declared.places.Spot.{Spot}
use Rattle.edr_base.specs.Boxes.{is_between}
use Rattle.edr_axes.specs.Axes.{value_at, SplitsValues}
use Rattle.edr_wkt.specs.declared.geometry.Geometry.{Geometry}
use Rattle.edr_wkt.specs.declared.geometry.Polygon.{Polygon}
use Rattle.edr_wkt.specs.Geometries.{positions_of}
use Rattle.edr_geometry.specs.Planar.{spot_of, in_disc}
use Rattle.edr_edition.specs.Values.{InstanceValue}
use Rattle.edr_query.specs.declared.shapes.Shape.{Shape}
use Rattle.edr_query.specs.declared.shapes.Shape.TheVariants as at
use Rattle.edr_select.specs.declared.reaches.Reach.{Reach}
use Rattle.edr_select.specs.Choices.{takes_node, spot_at}
use Rattle.edr_select.specs.Masks.{IsArea, NoneTaken, takes_spot, IsCentre, LiesIn, IsReached, IsReachedRing, IsReachedPolygon, IsWider, LiesInRows, LiesInColumns}
use Rattle.edr_select.specs.ListLaws.{any-map}

-- a node is taken where its place is
pub takes_is : (i : InstanceValue) (shape : Shape) → IsArea shape → (y x : ℕ) → takes_node i shape y x ≡ takes_spot shape (spot_at i y x)
takes_is i (at.Position geometry) area y x = absurd area
takes_is i (at.Radius geometry within) area y x = refl
takes_is i (at.Area geometry) area y x = refl
takes_is i (at.Cube lo hi levels) area y x = refl
takes_is i (at.Trajectory geometry) area y x = absurd area
takes_is i (at.Corridor geometry width height) area y x = absurd area
takes_is i (at.Location id) area y x = absurd area

or_none : (b : Bool) → (b || false) ≡ b
or_none true = refl
or_none false = refl

-- ---- discs

-- the disc of a point is that of its place
pub of_disc : (geometry : Geometry) (within : ℤ) (centre : Spot) → IsCentre geometry centre → (spot : Spot) → takes_spot (at.Radius geometry within) spot ≡ in_disc spot centre within
of_disc geometry within centre c spot =
    sym (any-map (λ s. in_disc spot s within) spot_of (positions_of geometry))
    ∙ ap (list_any (λ s. in_disc spot s within)) c.alone ∙ or_none (in_disc spot centre within)

-- the number that is farther from 0 has the greater square
square_below : (d r : ℤ) → pos 0 ≤ℤ r → d <ℤ (pos 0 -ℤ r) → (r *ℤ r) <ℤ (d *ℤ d)
square_below d (negsuc r) h k = absurd (omega (arith, ints, h))
square_below (pos d) (pos r) h k = absurd (omega (arith, ints, h, k))
square_below (negsuc d) (pos r) h k = let far : suc r ≤ suc d = omega (arith, ints, k) in let more : suc r * suc r ≤ suc d * suc d = mul-le-mul far far in omega (arith, ints, more)

square_above : (d r : ℤ) → pos 0 ≤ℤ r → r <ℤ d → (r *ℤ r) <ℤ (d *ℤ d)
square_above d (negsuc r) h k = absurd (omega (arith, ints, h))
square_above (negsuc d) (pos r) h k = absurd (omega (arith, ints, h, k))
square_above (pos d) (pos r) h k = let far : suc r ≤ d = omega (arith, ints, k) in let more : suc r * suc r ≤ d * d = mul-le-mul far far in omega (arith, ints, more)

square_not_negative : (d : ℤ) → pos 0 ≤ℤ (d *ℤ d)
square_not_negative (pos d) = omega (arith, ints)
square_not_negative (negsuc d) = omega (arith, ints)

above_all : (one other limit : ℤ) → limit <ℤ other → pos 0 ≤ℤ one → int_le (one +ℤ other) limit ≡ false
above_all one other limit h k = grind (arith, ints)

above_either : (one other limit : ℤ) → limit <ℤ one → pos 0 ≤ℤ other → int_le (one +ℤ other) limit ≡ false
above_either one other limit h k = grind (arith, ints)

outside : (spot centre : Spot) (r : ℤ) → (r *ℤ r) <ℤ ((spot.y -ℤ centre.y) *ℤ (spot.y -ℤ centre.y)) → in_disc spot centre r ≡ false
outside spot centre r h =
    above_all ((spot.x -ℤ centre.x) *ℤ (spot.x -ℤ centre.x)) ((spot.y -ℤ centre.y) *ℤ (spot.y -ℤ centre.y)) (r *ℤ r) h (square_not_negative (spot.x -ℤ centre.x))

below_disc : (spot centre : Spot) (r : ℤ) → pos 0 ≤ℤ r → spot.y <ℤ (centre.y -ℤ r) → in_disc spot centre r ≡ false
below_disc spot centre r h k = outside spot centre r (square_below (spot.y -ℤ centre.y) r h (omega (arith, ints, h, k)))

above_disc : (spot centre : Spot) (r : ℤ) → pos 0 ≤ℤ r → (centre.y +ℤ r) <ℤ spot.y → in_disc spot centre r ≡ false
above_disc spot centre r h k = outside spot centre r (square_above (spot.y -ℤ centre.y) r h (omega (arith, ints, h, k)))

beside : (spot centre : Spot) (r : ℤ) → (r *ℤ r) <ℤ ((spot.x -ℤ centre.x) *ℤ (spot.x -ℤ centre.x)) → in_disc spot centre r ≡ false
beside spot centre r h =
    above_either ((spot.x -ℤ centre.x) *ℤ (spot.x -ℤ centre.x)) ((spot.y -ℤ centre.y) *ℤ (spot.y -ℤ centre.y)) (r *ℤ r) h (square_not_negative (spot.y -ℤ centre.y))

before_disc : (spot centre : Spot) (r : ℤ) → pos 0 ≤ℤ r → spot.x <ℤ (centre.x -ℤ r) → in_disc spot centre r ≡ false
before_disc spot centre r h k = beside spot centre r (square_below (spot.x -ℤ centre.x) r h (omega (arith, ints, h, k)))

behind_disc : (spot centre : Spot) (r : ℤ) → pos 0 ≤ℤ r → (centre.x +ℤ r) <ℤ spot.x → in_disc spot centre r ≡ false
behind_disc spot centre r h k = beside spot centre r (square_above (spot.x -ℤ centre.x) r h (omega (arith, ints, h, k)))

-- from the centre's x and y less the radius to these and the radius
pub record IsAround (reach : Reach) (centre : Spot) (within : ℤ) : Type 0 where
  pub left : reach.left ≡ centre.x -ℤ within
  pub right : reach.right ≡ centre.x +ℤ within
  pub low : reach.low ≡ centre.y -ℤ within
  pub high : reach.high ≡ centre.y +ℤ within

pub disc_lies : (geometry : Geometry) (within : ℤ) (centre : Spot) (reach : Reach) → IsCentre geometry centre → pos 0 ≤ℤ within → IsAround reach centre within → LiesIn (at.Radius geometry within) reach
disc_lies geometry within centre reach c h a = record {
  before = λ spot k. of_disc geometry within centre c spot ∙ before_disc spot centre within h (omega (arith, ints, k, a.left));
  behind = λ spot k. of_disc geometry within centre c spot ∙ behind_disc spot centre within h (omega (arith, ints, k, a.right));
  below = λ spot k. of_disc geometry within centre c spot ∙ below_disc spot centre within h (omega (arith, ints, k, a.low));
  above = λ spot k. of_disc geometry within centre c spot ∙ above_disc spot centre within h (omega (arith, ints, k, a.high));
}

-- ---- boxes

below_box : (columns : Bool) (low high y : ℤ) → y <ℤ low → (columns && is_between low high y) ≡ false
below_box columns low high y h = grind (arith, ints)

above_box : (columns : Bool) (low high y : ℤ) → high <ℤ y → (columns && is_between low high y) ≡ false
above_box columns low high y h = grind (arith, ints)

before_box : (rows : Bool) (low high x : ℤ) → x <ℤ low → (is_between low high x && rows) ≡ false
before_box rows low high x h = grind (arith, ints)

behind_box : (rows : Bool) (low high x : ℤ) → high <ℤ x → (is_between low high x && rows) ≡ false
behind_box rows low high x h = grind (arith, ints)

pub box_lies : (lo hi : Spot) (levels : Option (ℤ × ℤ)) → LiesIn (at.Cube lo hi levels) (record { left = lo.x; right = hi.x; low = lo.y; high = hi.y })
box_lies lo hi levels = record {
  before = λ spot k. before_box (is_between lo.y hi.y spot.y) lo.x hi.x spot.x k;
  behind = λ spot k. behind_box (is_between lo.y hi.y spot.y) lo.x hi.x spot.x k;
  below = λ spot k. below_box (is_between lo.x hi.x spot.x) lo.y hi.y spot.y k;
  above = λ spot k. above_box (is_between lo.x hi.x spot.x) lo.y hi.y spot.y k;
}

-- ---- a reach that grows

pub wider_reached : (old new : Reach) → IsWider old new → (p : Position) → IsReached old p → IsReached new p
wider_reached old new w p h = record {
  left = omega (arith, ints, w.left, h.left);
  right = omega (arith, ints, w.right, h.right);
  low = omega (arith, ints, w.low, h.low);
  high = omega (arith, ints, w.high, h.high);
}

pub wider_ring : (old new : Reach) → IsWider old new → (ring : List Position) → IsReachedRing old ring → IsReachedRing new ring
wider_ring old new w ring h = All-weaker (IsReached old) (IsReached new) (wider_reached old new w) ring h

pub wider_polygon : (old new : Reach) → IsWider old new → (polygon : Polygon) → IsReachedPolygon old polygon → IsReachedPolygon new polygon
wider_polygon old new w polygon h = All-weaker (IsReachedRing old) (IsReachedRing new) (wider_ring old new w) polygon.rings h

pub wider_still : (a b c : Reach) → IsWider a b → IsWider b c → IsWider a c
wider_still a b c h k = record {
  left = omega (arith, ints, h.left, k.left);
  right = omega (arith, ints, h.right, k.right);
  low = omega (arith, ints, h.low, k.low);
  high = omega (arith, ints, h.high, k.high);
}

-- what holds of each of the first ones, and of the next, in another way
pub more_reached : {X : Type 0} (P Q : X → Type 0) → ((x : X) → P x → Q x) → (xs : List X) (k : ℕ) (x : X) → k < length xs → get_or xs k x ≡ x → All P (take k xs) → Q x
    → All Q (take (k + 1) xs)
more_reached P Q weaker xs k x inside is all here = All-more Q xs k x inside (All-weaker P Q weaker (take k xs) all) (subst Q (sym is) here)

pub all_reached : {X : Type 0} (P : X → Type 0) (xs : List X) (k : ℕ) → length xs ≤ k → All P (take k xs) → All P xs
all_reached P xs k end all = subst (All P) (take_all k xs end) all

-- ---- rows

pub rows_lie : (i : InstanceValue) (shape : Shape) (reach : Reach) → IsArea shape → LiesIn shape reach → SplitsValues i.ys reach.low → SplitsValues i.ys reach.high → (first end : ℕ)
    → first ≡ count_by (λ v. int_lt v reach.low) i.ys → end ≡ max first (count_by (λ v. int_le v reach.high) i.ys) → LiesInRows i shape first end
rows_lie i shape reach area lies low high first end first_is end_is = record {
  ordered = omega arith;
  inside = omega (arith, count_by-le-length (λ v. int_lt v reach.low) i.ys, count_by-le-length (λ v. int_le v reach.high) i.ys);
  before = λ y x from before inner.
      takes_is i shape area y x ∙ lies.below (spot_at i y x) ((low.below y).1 (omega (arith, before, first_is))).1;
  behind = λ y x from before inner.
      takes_is i shape area y x
      ∙ by_lt_z reach.high (value_at i.ys y) (λ above. lies.above (spot_at i y x) above)
      (λ within. absurd (let counted = (high.at_most y).0 (before, within) in omega (arith, counted, from, end_is)));
}

-- ---- columns

module _ (i : InstanceValue) (shape : Shape) (reach : Reach) (area : IsArea shape) (lies : LiesIn shape reach) (left : SplitsValues i.xs reach.left) (right : SplitsValues i.xs reach.right) (first end : ℕ)
    (first_is : first ≡ count_by (λ v. int_lt v reach.left) i.xs) (end_is : end ≡ max first (count_by (λ v. int_le v reach.right) i.xs)) where
  none_before : (y x : ℕ) → x < first → takes_node i shape y x ≡ false
  none_before y x before = takes_is i shape area y x ∙ lies.before (spot_at i y x) ((left.below x).1 (omega (arith, before, first_is))).1

  none_behind : (y x : ℕ) → end ≤ x → x < length i.xs → takes_node i shape y x ≡ false
  none_behind y x from inner =
      takes_is i shape area y x
      ∙ by_lt_z reach.right (value_at i.xs x) (λ above. lies.behind (spot_at i y x) above)
      (λ within. absurd (let counted = (right.at_most x).0 (inner, within) in omega (arith, counted, from, end_is)))

  -- there are as many columns as stand is_between
  pub columns_ordered : first ≤ end
  columns_ordered = omega (arith, end_is)

  pub columns_inside : end ≤ length i.xs
  columns_inside = omega (arith, first_is, end_is, count_by-le-length (λ v. int_lt v reach.left) i.xs, count_by-le-length (λ v. int_le v reach.right) i.xs)

  pub columns_lie : (xs : List ℤ) → xs ≡ take (end - first) (drop first i.xs) → LiesInColumns i shape (record { left = first; xs = xs })
  columns_lie xs is =
      let many : length xs ≡ end - first = ap length is ∙ length-take-le (end - first) (drop first i.xs) (omega (arith, length-drop first i.xs, columns_inside)) in
      record {
        inside = omega (arith, many, columns_ordered, columns_inside);
        values = is ∙ ap (λ n. take n (drop first i.xs)) (sym many);
        before = none_before;
        behind = λ y x from inner. none_behind y x (omega (arith, many, from)) inner;
      }

  pub no_columns : first ≡ end → NoneTaken i shape
  no_columns none y x inside inner =
      elim (cases_lt x first) [
        | inl lt ↦ none_before y x lt
        | inr ge ↦ none_behind y x (omega (arith, none, ge)) inner
      ]
