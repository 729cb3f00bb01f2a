-- The parts of the strip about a segment, and what they are of a row.
use Rattle.std.proofs.Common.{◌≡◌, zero, suc, arith, Bool, true, false, ◌&&◌, ◌||◌, if◌then◌else◌, refl, ap, ap₂, sym, ◌∙◌, ℤ, pos, negsuc, ◌+ℤ◌, ◌-ℤ◌, ◌*ℤ◌, ◌≤ℤ◌, int_le, int_lt}
use Rattle.std.specs.Int.{IsIsqrt}
use Rattle.std.specs.Int.RustNames.{int_div}
use Rattle.std.proofs.Math.Bool.{or-false}
use Rattle.std.proofs.lemmas.Int.{by_lt_z}
use Rattle.jiff_core.proofs.SignedLemmas.{signed_arith, one_part}
use Rattle.edr_base.specs.declared.places.Spot.{Spot}
use Rattle.edr_base.specs.Boxes.{is_between}
use Rattle.edr_geometry.specs.Masks.{spot_at}
use Rattle.edr_geometry.specs.Planar.{near_segment, cross, along, squared_distance}
use Rattle.edr_geometry.specs.Ranges.{exchanged, NearIsExchanged}
use Rattle.edr_geometry.specs.Spans.{AreMeasures, is_before_start, is_beside, is_behind_end}
use Rattle.edr_geometry.specs.declared.strips.Measures.{Measures}
use Rattle.edr_geometry.proofs.Outside.{square_not_negative}
use Rattle.edr_geometry.proofs.Products.{times-sub, times_opposite, opposite_square, zero_times, from_yes, from_no, less_yes, less_no, le_same, lt_same}
use Rattle.edr_geometry.proofs.SpanLemmas.{root_is}

-- ---- a place near a segment stands in one of the three parts

-- near, by the squared length, the scalar product, the squared distances to both ends and the square of the cross product
abbrev near_by : ℤ → ℤ → ℤ → ℤ → ℤ → ℤ → Bool
near_by length scalar start end line square =
    if int_le length (pos 0) || int_le scalar (pos 0) then int_le (pos 4 *ℤ start) square else
    if int_le length scalar then int_le (pos 4 *ℤ end) square else
    int_le (pos 4 *ℤ line) (square *ℤ length)

abbrev in_three : ℤ → ℤ → ℤ → ℤ → ℤ → ℤ → Bool
in_three length scalar start end line square =
    (int_le scalar (pos 0) && int_le (pos 4 *ℤ start) square)
    || (((int_lt (pos 0) scalar && int_lt scalar length) && int_le (pos 4 *ℤ line) (square *ℤ length)) || (int_le length scalar && int_le (pos 4 *ℤ end) square))

pick : (point before behind some within : Bool) (p q r s t start end line : Bool) → point ≡ p → before ≡ q → behind ≡ r → some ≡ s → within ≡ t
    → (if p || q then start else if r then end else line) ≡ ((q && start) || (((s && t) && line) || (r && end)))
    → (if point || before then start else if behind then end else line) ≡ ((before && start) || (((some && within) && line) || (behind && end)))
pick point before behind some within p q r s t start end line h i j k l same = rw (h, i, j, k, l) same

module _ (length scalar start end line square : ℤ) where
  abbrev near_start : Bool
  near_start = int_le (pos 4 *ℤ start) square

  abbrev near_end : Bool
  near_end = int_le (pos 4 *ℤ end) square

  abbrev near_line : Bool
  near_line = int_le (pos 4 *ℤ line) (square *ℤ length)

  three_of : (p q r s t : Bool) → int_le length (pos 0) ≡ p → int_le scalar (pos 0) ≡ q → int_le length scalar ≡ r → int_lt (pos 0) scalar ≡ s → int_lt scalar length ≡ t
      → (if p || q then near_start else if r then near_end else near_line) ≡ ((q && near_start) || (((s && t) && near_line) || (r && near_end)))
      → near_by length scalar start end line square ≡ in_three length scalar start end line square
  three_of p q r s t h i j k l same =
      pick (int_le length (pos 0)) (int_le scalar (pos 0)) (int_le length scalar) (int_lt (pos 0) scalar) (int_lt scalar length) p q r s t near_start near_end near_line h i j k l same

  both_same : (b c : Bool) → b ≡ c → b ≡ (b || c)
  both_same true c h = refl
  both_same false c h = h

  three_parts : pos 0 ≤ℤ length → (length ≤ℤ pos 0 → (scalar ≡ pos 0) × (start ≡ end)) → near_by length scalar start end line square ≡ in_three length scalar start end line square
  three_parts positive point =
      by_lt_z (pos 0) length
      (λ long.
      by_lt_z (pos 0) scalar
      (λ some.
      by_lt_z scalar length
      (λ within. three_of false false false true true (from_no length (pos 0) long) (from_no scalar (pos 0) some) (from_no length scalar within) (less_yes (pos 0) scalar some) (less_yes scalar length within)
      (sym (or-false near_line)))
      (λ behind. three_of false false true true false (from_no length (pos 0) long) (from_no scalar (pos 0) some) (from_yes length scalar behind) (less_yes (pos 0) scalar some) (less_no scalar length behind)
      refl))
      (λ none. three_of false true false false true (from_no length (pos 0) long) (from_yes scalar (pos 0) none) (from_no length scalar (omega (arith, signed_arith, long, none))) (less_no (pos 0) scalar none)
      (less_yes scalar length (omega (arith, signed_arith, long, none))) (sym (or-false near_start))))
      (λ short.
      let zero = point short in
      three_of true true true false false (from_yes length (pos 0) short) (from_yes scalar (pos 0) (omega (arith, signed_arith, zero.0))) (from_yes length scalar (omega (arith, signed_arith, zero.0, short)))
      (less_no (pos 0) scalar (omega (arith, signed_arith, zero.0))) (less_no scalar length (omega (arith, signed_arith, zero.0, positive, short)))
      (both_same near_start near_end (ap (λ d. int_le (pos 4 *ℤ d) square) zero.1)))

no_square : (d : ℤ) → (d *ℤ d) ≤ℤ pos 0 → d ≡ pos 0
no_square (pos zero) h = refl
no_square (pos (suc n)) h = absurd (omega (arith, signed_arith, h))
no_square (negsuc n) h = absurd (omega (arith, signed_arith, h))

module _ (p a b : Spot) where
  -- a segment of no length has equal ends
  module _ (short : squared_distance a b ≤ℤ pos 0) where
    x_same : a.x -ℤ b.x ≡ pos 0
    x_same = no_square (a.x -ℤ b.x) (omega (arith, signed_arith, short, square_not_negative (a.y -ℤ b.y)))

    y_same : a.y -ℤ b.y ≡ pos 0
    y_same = no_square (a.y -ℤ b.y) (omega (arith, signed_arith, short, square_not_negative (a.x -ℤ b.x)))

    no_way : along p a b ≡ pos 0
    no_way =
        let x : b.x -ℤ a.x ≡ pos 0 = omega (arith, signed_arith, x_same) in
        let y : b.y -ℤ a.y ≡ pos 0 = omega (arith, signed_arith, y_same) in
        ap₂ (λ m n. m *ℤ (p.x -ℤ a.x) +ℤ n *ℤ (p.y -ℤ a.y)) x y ∙ ap₂ (λ m n. m +ℤ n) (zero_times (p.x -ℤ a.x)) (zero_times (p.y -ℤ a.y))

    ends_same : squared_distance p a ≡ squared_distance p b
    ends_same =
        let x : p.x -ℤ a.x ≡ p.x -ℤ b.x = omega (arith, signed_arith, x_same) in
        let y : p.y -ℤ a.y ≡ p.y -ℤ b.y = omega (arith, signed_arith, y_same) in
        ap₂ (λ m n. m *ℤ m +ℤ n *ℤ n) x y

  pub in_parts : (width : ℤ) → (is_before_start p a b width || (is_beside p a b width || is_behind_end p a b width)) ≡ near_segment p a b width
  in_parts width =
      sym (three_parts (squared_distance a b) (along p a b) (squared_distance p a) (squared_distance p b) (cross p a b *ℤ cross p a b) (width *ℤ width)
      (omega (arith, signed_arith, square_not_negative (a.x -ℤ b.x), square_not_negative (a.y -ℤ b.y)))
      (λ short. (no_way short, ends_same short)))

-- ---- x and y exchanged

sums_exchanged : (m n : ℤ) → m +ℤ n ≡ n +ℤ m
sums_exchanged m n = omega (arith, signed_arith)

squares_exchanged : (p a : Spot) → squared_distance (exchanged p) (exchanged a) ≡ squared_distance p a
squares_exchanged p a = sums_exchanged ((p.y -ℤ a.y) *ℤ (p.y -ℤ a.y)) ((p.x -ℤ a.x) *ℤ (p.x -ℤ a.x))

along_exchanged : (p a b : Spot) → along (exchanged p) (exchanged a) (exchanged b) ≡ along p a b
along_exchanged p a b = sums_exchanged ((b.y -ℤ a.y) *ℤ (p.y -ℤ a.y)) ((b.x -ℤ a.x) *ℤ (p.x -ℤ a.x))

cross_exchanged : (p a b : Spot) → cross (exchanged p) (exchanged a) (exchanged b) *ℤ cross (exchanged p) (exchanged a) (exchanged b) ≡ cross p a b *ℤ cross p a b
cross_exchanged p a b = opposite_square (cross (exchanged p) (exchanged a) (exchanged b)) (cross p a b)
    (opposite ((b.y -ℤ a.y) *ℤ (p.x -ℤ a.x)) ((b.x -ℤ a.x) *ℤ (p.y -ℤ a.y)))
  where
    opposite : (m n : ℤ) → (m -ℤ n) +ℤ (n -ℤ m) ≡ pos 0
    opposite m n = omega (arith, signed_arith)

pub near_exchanged : NearIsExchanged
near_exchanged p a b width =
    ap₂ (λ length scalar. near_by length scalar (squared_distance (exchanged p) (exchanged a)) (squared_distance (exchanged p) (exchanged b)) (cross (exchanged p) (exchanged a) (exchanged b) *ℤ cross (exchanged p) (exchanged a) (exchanged b)) (width *ℤ width))
    (squares_exchanged a b) (along_exchanged p a b)
    ∙ ap₂ (λ start end. near_by (squared_distance a b) (along p a b) start end (cross (exchanged p) (exchanged a) (exchanged b) *ℤ cross (exchanged p) (exchanged a) (exchanged b)) (width *ℤ width))
    (squares_exchanged p a) (squares_exchanged p b)
    ∙ ap (λ line. near_by (squared_distance a b) (along p a b) (squared_distance p a) (squared_distance p b) line (width *ℤ width)) (cross_exchanged p a b)

-- ---- a quarter, rounded down

pub quarter_is : (whole d : ℤ) → pos 0 ≤ℤ whole → int_le d (int_div whole (pos 4)) ≡ int_le (pos 4 *ℤ d) whole
quarter_is whole d h =
    by_lt_z (int_div whole (pos 4)) d
    (λ over. from_no d (int_div whole (pos 4)) over ∙ sym (from_no (pos 4 *ℤ d) whole (omega (arith, signed_arith, over, h, one_part whole))))
    (λ to. from_yes d (int_div whole (pos 4)) to ∙ sym (from_yes (pos 4 *ℤ d) whole (omega (arith, signed_arith, to, h, one_part whole))))

-- the numbers whose square is at most a quarter
pub root_of_quarter : (whole root : ℤ) → pos 0 ≤ℤ whole → IsIsqrt (int_div whole (pos 4)) root → (s : ℤ) → is_between (pos 0 -ℤ root) root s ≡ int_le (pos 4 *ℤ (s *ℤ s)) whole
root_of_quarter whole root h is s =
    let positive : pos 0 ≤ℤ int_div whole (pos 4) = omega (arith, signed_arith, h, one_part whole) in
    let none : s -ℤ pos 0 ≡ s = omega (arith, signed_arith) in
    let same : pos 0 +ℤ root ≡ root = omega (arith, signed_arith) in
    ap (λ r. is_between (pos 0 -ℤ root) r s) (sym same) ∙ root_is (int_div whole (pos 4)) root (pos 0) is positive s
    ∙ ap (λ v. int_le (v *ℤ v) (int_div whole (pos 4))) none
    ∙ quarter_is whole (s *ℤ s) h

-- ---- a row of the strip

module _ (m : Measures) (are : AreMeasures m) (y x : ℤ) where
  abbrev a : Spot
  a = m.segment.a

  abbrev b : Spot
  b = m.segment.b

  abbrev p : Spot
  p = spot_at y x

  pub disc_of : (end : Spot) (square : ℤ) → square ≡ m.radius -ℤ (y -ℤ end.y) *ℤ (y -ℤ end.y)
      → int_le ((x -ℤ end.x) *ℤ (x -ℤ end.x)) square ≡ int_le (pos 4 *ℤ squared_distance p end) (m.segment.width *ℤ m.segment.width)
  disc_of end square is =
      le_same ((x -ℤ end.x) *ℤ (x -ℤ end.x)) square (squared_distance p end) m.radius (omega (arith, signed_arith, is))
      ∙ are.radius (squared_distance p end)

  module _ (start : ℤ) (is : start ≡ m.way.x *ℤ a.x +ℤ m.way.y *ℤ (a.y -ℤ y)) where
    start_of : along p a b +ℤ start ≡ m.way.x *ℤ x
    start_of =
        let given : start ≡ (b.x -ℤ a.x) *ℤ a.x +ℤ (b.y -ℤ a.y) *ℤ (a.y -ℤ y) = is ∙ ap₂ (λ i j. i *ℤ a.x +ℤ j *ℤ (a.y -ℤ y)) are.x are.y in
        let columns = times-sub (b.x -ℤ a.x) x a.x in
        let rows = times_opposite (b.y -ℤ a.y) (y -ℤ a.y) (a.y -ℤ y) (omega (arith, signed_arith)) in
        let whole : along p a b +ℤ start ≡ (b.x -ℤ a.x) *ℤ x = omega (arith, signed_arith, given, columns, rows) in
        whole ∙ ap (λ i. i *ℤ x) (sym are.x)

    pub before_start : int_le (m.way.x *ℤ x) start ≡ int_le (along p a b) (pos 0)
    before_start = le_same (m.way.x *ℤ x) start (along p a b) (pos 0) (omega (arith, signed_arith, start_of))

    pub behind_start : (low : ℤ) → low ≡ start +ℤ pos 1 → int_le low (m.way.x *ℤ x) ≡ int_lt (pos 0) (along p a b)
    behind_start low low_is = sym (lt_same (pos 0) (along p a b) low (m.way.x *ℤ x) (omega (arith, signed_arith, start_of, low_is)))

    pub before_end : (high : ℤ) → high ≡ start +ℤ m.length -ℤ pos 1 → int_le (m.way.x *ℤ x) high ≡ int_lt (along p a b) (squared_distance a b)
    before_end high high_is = sym (lt_same (along p a b) (squared_distance a b) (m.way.x *ℤ x) high (omega (arith, signed_arith, start_of, high_is, are.length)))

    pub behind_end : (low : ℤ) → low ≡ start +ℤ m.length → int_le low (m.way.x *ℤ x) ≡ int_le (squared_distance a b) (along p a b)
    behind_end low low_is = le_same low (m.way.x *ℤ x) (squared_distance a b) (along p a b) (omega (arith, signed_arith, start_of, low_is, are.length))

  module _ (line : ℤ) (is : line ≡ m.way.x *ℤ (y -ℤ a.y) +ℤ m.way.y *ℤ a.x) where
    line_of : cross p a b +ℤ m.way.y *ℤ x ≡ line
    line_of =
        let given : line ≡ (b.x -ℤ a.x) *ℤ (y -ℤ a.y) +ℤ (b.y -ℤ a.y) *ℤ a.x = is ∙ ap₂ (λ i j. i *ℤ (y -ℤ a.y) +ℤ j *ℤ a.x) are.x are.y in
        let columns = times-sub (b.y -ℤ a.y) x a.x in
        let whole : cross p a b +ℤ (b.y -ℤ a.y) *ℤ x ≡ line = omega (arith, signed_arith, given, columns) in
        ap (λ j. cross p a b +ℤ j *ℤ x) are.y ∙ whole

    pub right_of_line : (high : ℤ) → high ≡ line +ℤ m.breadth → int_le (m.way.y *ℤ x) high ≡ int_le (pos 0 -ℤ m.breadth) (cross p a b)
    right_of_line high high_is = le_same (m.way.y *ℤ x) high (pos 0 -ℤ m.breadth) (cross p a b) (omega (arith, signed_arith, line_of, high_is))

    pub left_of_line : (low : ℤ) → low ≡ line -ℤ m.breadth → int_le low (m.way.y *ℤ x) ≡ int_le (cross p a b) m.breadth
    left_of_line low low_is = le_same low (m.way.y *ℤ x) (cross p a b) m.breadth (omega (arith, signed_arith, line_of, low_is))
