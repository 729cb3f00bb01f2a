-- The numbers of a row of a strip fit their types, and come back from their bits as they were.
use Rattle.std.proofs.Common.{◌≡◌, ◌≤◌, ◌∙◌, arith, ap₂, subst, sym, ℤ, pos, negsuc, ◌+ℤ◌, ◌-ℤ◌, ◌*ℤ◌, ◌≤ℤ◌, int_le, FitsSigned, to_z, of_z, w64}
use mir.Syntax.{w128}
use Rattle.std.specs.Int.{IsIsqrt}
use Rattle.std.specs.Int.RustNames.{unsigned_abs, int_div}
use Rattle.std.proofs.lemmas.Int.{fits_signed_from_abs}
use Rattle.jiff_core.proofs.SignedLemmas.{signed_arith, one_part, product_within, back_small}
use Rattle.edr_base.specs.Limits.{IsCoordinate}
use Rattle.edr_base.specs.declared.places.Spot.{Spot}
use Rattle.edr_base.specs.Boxes.{is_between}
use Rattle.edr_geometry.specs.Planar.{squared_distance}
use Rattle.edr_geometry.specs.Spans.{AreMeasures}
use Rattle.edr_geometry.specs.Ways.{IsSegment}
use Rattle.edr_geometry.specs.declared.near.Segment.{Segment}
use Rattle.edr_geometry.specs.declared.strips.Measures.{Measures}
use Rattle.edr_geometry.proofs.Outside.{square_not_negative}
use Rattle.edr_geometry.proofs.SpanLemmas.{back, root_small}
use Rattle.edr_geometry.proofs.StripLemmas.{root_of_quarter}
use Rattle.edr_geometry.proofs.Whole.{distance_small, width_small}

pub fits : (z : ℤ) → unsigned_abs z ≤ 1_000_000_000_000_000_000 → FitsSigned w64 z
fits z small = fits_signed_from_abs w64 z (omega (arith, small))

pub coordinate_back : (z : ℤ) → IsCoordinate z → to_z w64 (of_z w64 z) ≡ z
coordinate_back z h = back z (omega (arith, h))

pub away_small : (a b : ℤ) → IsCoordinate a → IsCoordinate b → unsigned_abs (a -ℤ b) ≤ 200_000_000
away_small a b h k = omega (arith, signed_arith, h, k, one_part (a -ℤ b), one_part a, one_part b)

pub sum_small : (a b : ℤ) → unsigned_abs a ≤ 200_000_000_000_000_000 → unsigned_abs b ≤ 200_000_000_000_000_000 → unsigned_abs (a +ℤ b) ≤ 400_000_000_000_000_000
sum_small a b h k = omega (arith, signed_arith, h, k, one_part (a +ℤ b), one_part a, one_part b)

module _ (a b : ℤ) (a_in : IsCoordinate a) (b_in : IsCoordinate b) where
  pub away_back : to_z w64 (of_z w64 (a -ℤ b)) ≡ a -ℤ b
  away_back = let small = away_small a b a_in b_in in back (a -ℤ b) (omega (arith, small))

  pub away_fits : FitsSigned w64 (a -ℤ b)
  away_fits = let small = away_small a b a_in b_in in fits (a -ℤ b) (omega (arith, small))

  pub square_small : unsigned_abs ((a -ℤ b) *ℤ (a -ℤ b)) ≤ 40_000_000_000_000_000
  square_small = product_within (a -ℤ b) (a -ℤ b) 200_000_000 200_000_000 (away_small a b a_in b_in) (away_small a b a_in b_in)

  pub square_back : to_z w64 (of_z w64 ((a -ℤ b) *ℤ (a -ℤ b))) ≡ (a -ℤ b) *ℤ (a -ℤ b)
  square_back = back ((a -ℤ b) *ℤ (a -ℤ b)) (omega (arith, square_small))

  pub square_fits : FitsSigned w64 ((a -ℤ b) *ℤ (a -ℤ b))
  square_fits = fits ((a -ℤ b) *ℤ (a -ℤ b)) (omega (arith, square_small))

  module _ (radius : ℤ) (radius_in : unsigned_abs radius ≤ 40_000_000_000_000_000) where
    pub rest_small : unsigned_abs (radius -ℤ (a -ℤ b) *ℤ (a -ℤ b)) ≤ 80_000_000_000_000_000
    rest_small = omega (arith, signed_arith, square_small, radius_in, one_part radius, one_part ((a -ℤ b) *ℤ (a -ℤ b)), one_part (radius -ℤ (a -ℤ b) *ℤ (a -ℤ b)))

    pub rest_back : to_z w64 (of_z w64 (radius -ℤ (a -ℤ b) *ℤ (a -ℤ b))) ≡ radius -ℤ (a -ℤ b) *ℤ (a -ℤ b)
    rest_back = back (radius -ℤ (a -ℤ b) *ℤ (a -ℤ b)) (omega (arith, rest_small))

    pub rest_fits : FitsSigned w64 (radius -ℤ (a -ℤ b) *ℤ (a -ℤ b))
    rest_fits = fits (radius -ℤ (a -ℤ b) *ℤ (a -ℤ b)) (omega (arith, rest_small))

module _ (m : Measures) (are : AreMeasures m) (y : ℤ) (y_in : IsCoordinate y) where
  abbrev a : Spot
  a = m.segment.a

  pub way_x_small : unsigned_abs m.way.x ≤ 200_000_000
  way_x_small = subst (λ z. unsigned_abs z ≤ 200_000_000) (sym are.x) (away_small m.segment.b.x a.x are.segment.b_in.x are.segment.a_in.x)

  pub way_y_small : unsigned_abs m.way.y ≤ 200_000_000
  way_y_small = subst (λ z. unsigned_abs z ≤ 200_000_000) (sym are.y) (away_small m.segment.b.y a.y are.segment.b_in.y are.segment.a_in.y)

  pub start_small : unsigned_abs (m.way.x *ℤ a.x +ℤ m.way.y *ℤ (a.y -ℤ y)) ≤ 60_000_000_000_000_000
  start_small =
      let one = product_within m.way.x a.x 200_000_000 100_000_000 way_x_small are.segment.a_in.x in
      let two = product_within m.way.y (a.y -ℤ y) 200_000_000 200_000_000 way_y_small (away_small a.y y are.segment.a_in.y y_in) in
      omega (arith, signed_arith, one, two, one_part (m.way.x *ℤ a.x), one_part (m.way.y *ℤ (a.y -ℤ y)), one_part (m.way.x *ℤ a.x +ℤ m.way.y *ℤ (a.y -ℤ y)))

  pub line_small : unsigned_abs (m.way.x *ℤ (y -ℤ a.y) +ℤ m.way.y *ℤ a.x) ≤ 60_000_000_000_000_000
  line_small =
      let one = product_within m.way.x (y -ℤ a.y) 200_000_000 200_000_000 way_x_small (away_small y a.y y_in are.segment.a_in.y) in
      let two = product_within m.way.y a.x 200_000_000 100_000_000 way_y_small are.segment.a_in.x in
      omega (arith, signed_arith, one, two, one_part (m.way.x *ℤ (y -ℤ a.y)), one_part (m.way.y *ℤ a.x), one_part (m.way.x *ℤ (y -ℤ a.y) +ℤ m.way.y *ℤ a.x))

  pub length_small : unsigned_abs m.length ≤ 80_000_000_000_000_000
  length_small = subst (λ z. unsigned_abs z ≤ 80_000_000_000_000_000) (sym are.length) (distance_small a m.segment.b are.segment.a_in are.segment.b_in)

-- ---- in 128 bits

pub wide_back : (z : ℤ) → unsigned_abs z ≤ 100_000_000_000_000_000_000_000_000_000_000_000 → to_z w128 (of_z w128 z) ≡ z
wide_back z small = back_small w128 z (omega (arith, small))

pub wide_fits : (z : ℤ) → unsigned_abs z ≤ 100_000_000_000_000_000_000_000_000_000_000_000 → FitsSigned w128 z
wide_fits z small = fits_signed_from_abs w128 z (omega (arith, small))

product_positive : (a b : ℤ) → pos 0 ≤ℤ a → pos 0 ≤ℤ b → pos 0 ≤ℤ (a *ℤ b)
product_positive (pos a) (pos b) h k = omega (arith, signed_arith)
product_positive (pos a) (negsuc b) h k = absurd (omega (arith, signed_arith, k))
product_positive (negsuc a) b h k = absurd (omega (arith, signed_arith, h))

-- a squared width and a squared length
module _ (g : Segment) (in_ : IsSegment g) (width length : ℤ) (width_is : width ≡ g.width *ℤ g.width) (length_is : length ≡ squared_distance g.a g.b) where
  width_in : unsigned_abs width ≤ 160_000_000_000_000_000
  width_in = subst (λ z. unsigned_abs z ≤ 160_000_000_000_000_000) (sym width_is) (width_small g.width in_.width_in.least in_.width_in.greatest)

  length_in : unsigned_abs length ≤ 80_000_000_000_000_000
  length_in = subst (λ z. unsigned_abs z ≤ 80_000_000_000_000_000) (sym length_is) (distance_small g.a g.b in_.a_in in_.b_in)

  pub width_back : to_z w128 (of_z w128 width) ≡ width
  width_back = wide_back width (omega (arith, width_in))

  pub length_back : to_z w128 (of_z w128 length) ≡ length
  length_back = wide_back length (omega (arith, length_in))

  product_in : unsigned_abs (width *ℤ length) ≤ 12_800_000_000_000_000_000_000_000_000_000_000
  product_in = product_within width length 160_000_000_000_000_000 80_000_000_000_000_000 width_in length_in

  pub product_fits : FitsSigned w128 (width *ℤ length)
  product_fits = wide_fits (width *ℤ length) (omega (arith, product_in))

  pub product_back : to_z w128 (of_z w128 (width *ℤ length)) ≡ width *ℤ length
  product_back = wide_back (width *ℤ length) (omega (arith, product_in))

  pub not_negative : pos 0 ≤ℤ (width *ℤ length)
  not_negative =
      product_positive width length (subst (λ z. pos 0 ≤ℤ z) (sym width_is) (square_not_negative g.width))
      (subst (λ z. pos 0 ≤ℤ z) (sym length_is) (omega (arith, signed_arith, square_not_negative (g.a.x -ℤ g.b.x), square_not_negative (g.a.y -ℤ g.b.y))))

  quarter_in : unsigned_abs (int_div (width *ℤ length) (pos 4)) ≤ 3_200_000_000_000_000_000_000_000_000_000_000
  quarter_in = omega (arith, signed_arith, product_in, not_negative, one_part (width *ℤ length), one_part (int_div (width *ℤ length) (pos 4)))

  pub quarter_positive : pos 0 ≤ℤ int_div (width *ℤ length) (pos 4)
  quarter_positive = omega (arith, signed_arith, not_negative, one_part (width *ℤ length))

  pub quarter_back : to_z w128 (of_z w128 (int_div (width *ℤ length) (pos 4))) ≡ int_div (width *ℤ length) (pos 4)
  quarter_back = wide_back (int_div (width *ℤ length) (pos 4)) (omega (arith, quarter_in))

  pub breadth_small : (root : ℤ) → IsIsqrt (int_div (width *ℤ length) (pos 4)) root → unsigned_abs root ≤ 60_000_000_000_000_000
  breadth_small root is = root_small (int_div (width *ℤ length) (pos 4)) root 3_200_000_000_000_000_000_000_000_000_000_000 60_000_000_000_000_000 is quarter_in (omega arith)

  pub breadth_near : (root : ℤ) → IsIsqrt (int_div (width *ℤ length) (pos 4)) root → (s : ℤ)
      → is_between (pos 0 -ℤ root) root s ≡ int_le (pos 4 *ℤ (s *ℤ s)) (g.width *ℤ g.width *ℤ squared_distance g.a g.b)
  breadth_near root is s =
      root_of_quarter (width *ℤ length) root not_negative is s
      ∙ ap₂ (λ w l. int_le (pos 4 *ℤ (s *ℤ s)) (w *ℤ l)) width_is length_is
