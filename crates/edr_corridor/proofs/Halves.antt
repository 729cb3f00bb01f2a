-- Halves of wholes, and bands about two numbers.
use Rattle.std.proofs.Common.{◌≡◌, ℕ, Option, None, Some, cond, to_z, of_z, w64, ap₂, ◌<◌, ◌≤◌, arith, ◌+◌, Bool, true, false, not, refl, ap, subst, sym, ◌∙◌, List, length, ℤ, pos, ◌+ℤ◌, ◌-ℤ◌, ◌*ℤ◌, ◌<ℤ◌, ◌≤ℤ◌, int_lt, int_le}
use Rattle.std.specs.Prelude.{◌&&◌, ◌||◌}
use Rattle.std.specs.Int.{int_min, int_max}
use Rattle.std.specs.Int.RustNames.{unsigned_abs, int_div}
use Rattle.std.proofs.lemmas.Bool.{and_left, and_right, and_parts, and_from}
use Rattle.std.proofs.lemmas.Int.{ints, by_lt_z}
use Rattle.jiff_core.proofs.SignedLemmas.{signed_arith, one_part, back_small}
use Rattle.edr_axes.specs.Axes.{value_at, IsAscending}
use Rattle.edr_axes.specs.AxisLaws.{ascending_at_most}
use Rattle.edr_geometry.specs.Planar.{is_among}
use Rattle.edr_base.specs.Limits.{IsCoordinate, IsMetres}
use Rattle.edr_base.specs.Boxes.{is_between}
use Rattle.edr_corridor.specs.declared.bands.Band.{Band}
use Rattle.edr_corridor.specs.declared.segment.Segment.{Segment}
use Rattle.edr_corridor.specs.Segments.{within_half, takes_height}
use Rattle.edr_corridor.specs.Parts.{IsAbout, band_has, has_level, has_height}

-- ---- comparisons

from_yes : (a b : ℤ) → a ≤ℤ b → int_le a b ≡ true
from_yes a b h = grind (arith, ints)

from_no : (a b : ℤ) → b <ℤ a → int_le a b ≡ false
from_no a b h = grind (arith, ints)

pub of_not : (b : Bool) → not b ≡ true → b ≡ false
of_not true h = cc
of_not false h = refl

-- ---- numbers come back from their bits as they were

abbrev pub read : ℤ → ℤ
read z = to_z w64 (of_z w64 z)

pub back : (z : ℤ) → unsigned_abs z ≤ 2000000000 → read z ≡ z
back z small = back_small w64 z (omega (arith, small))

pub coordinate_back : (z : ℤ) → IsCoordinate z → read z ≡ z
coordinate_back z h = back z (omega (arith, h))

pub distance_back : (z : ℤ) → IsMetres z → read z ≡ z
distance_back z h = back z (omega (arith, signed_arith, h.least, h.greatest, one_part z))

-- ---- a band about two numbers

absorb_left : (a b : Bool) → (a ≡ true → b ≡ true) → (a || b) ≡ b
absorb_left true b h = sym (h refl)
absorb_left false b h = refl

absorb_right : (a b : Bool) → (b ≡ true → a ≡ true) → (a || b) ≡ a
absorb_right true b h = refl
absorb_right false true h = sym (h refl)
absorb_right false false h = refl

lower_too : (low high v : ℤ) → low ≤ℤ high → int_le high v ≡ true → int_le low v ≡ true
lower_too low high v h k = grind (arith, ints)

higher_too : (low high v : ℤ) → low ≤ℤ high → int_le v low ≡ true → int_le v high ≡ true
higher_too low high v h k = grind (arith, ints)

less_yes : (a b : ℤ) → a <ℤ b → int_lt a b ≡ true
less_yes a b h = grind (arith, ints)

less_no : (a b : ℤ) → b ≤ℤ a → int_lt a b ≡ false
less_no a b h = grind (arith, ints)

-- the lesser and the greater of two numbers
min_max : (P : ℤ → ℤ → Type 0) (one other : ℤ) → (other ≤ℤ one → P other one) → (one ≤ℤ other → P one other) → P (int_min one other) (int_max one other)
min_max P one other down_case up_case =
    by_lt_z other one
    (λ lt. subst (λ b. P (cond b other one) (cond b one other)) (sym (less_yes other one lt)) (down_case (omega (arith, signed_arith, lt))))
    (λ ge. subst (λ b. P (cond b other one) (cond b one other)) (sym (less_no other one ge)) (up_case ge))

half_ends : (one other whole v : ℤ) → (int_le (pos 2 *ℤ int_min one other -ℤ whole) (pos 2 *ℤ v) && int_le (pos 2 *ℤ v) (pos 2 *ℤ int_max one other +ℤ whole)) ≡ within_half one other whole v
half_ends one other whole v =
    min_max (λ low high. (int_le (pos 2 *ℤ low -ℤ whole) (pos 2 *ℤ v) && int_le (pos 2 *ℤ v) (pos 2 *ℤ high +ℤ whole)) ≡ within_half one other whole v) one other
    (λ falls. ap₂ (λ a b. a && b)
    (sym (absorb_left (int_le (pos 2 *ℤ one -ℤ whole) (pos 2 *ℤ v)) (int_le (pos 2 *ℤ other -ℤ whole) (pos 2 *ℤ v)) (lower_too (pos 2 *ℤ other -ℤ whole) (pos 2 *ℤ one -ℤ whole) (pos 2 *ℤ v) (omega (arith, signed_arith, falls)))))
    (sym (absorb_right (int_le (pos 2 *ℤ v) (pos 2 *ℤ one +ℤ whole)) (int_le (pos 2 *ℤ v) (pos 2 *ℤ other +ℤ whole)) (higher_too (pos 2 *ℤ other +ℤ whole) (pos 2 *ℤ one +ℤ whole) (pos 2 *ℤ v) (omega (arith, signed_arith, falls))))))
    (λ rises. ap₂ (λ a b. a && b)
    (sym (absorb_right (int_le (pos 2 *ℤ one -ℤ whole) (pos 2 *ℤ v)) (int_le (pos 2 *ℤ other -ℤ whole) (pos 2 *ℤ v)) (lower_too (pos 2 *ℤ one -ℤ whole) (pos 2 *ℤ other -ℤ whole) (pos 2 *ℤ v) (omega (arith, signed_arith, rises)))))
    (sym (absorb_left (int_le (pos 2 *ℤ v) (pos 2 *ℤ one +ℤ whole)) (int_le (pos 2 *ℤ v) (pos 2 *ℤ other +ℤ whole)) (higher_too (pos 2 *ℤ one +ℤ whole) (pos 2 *ℤ other +ℤ whole) (pos 2 *ℤ v) (omega (arith, signed_arith, rises))))))

pub about_both : (one other whole low high : ℤ) → low ≡ int_min one other → high ≡ int_max one other → IsAbout (record { low = low; high = high; whole = whole }) one other whole
about_both one other whole low high low_is high_is = λ v.
    ap₂ (λ l h. int_le (pos 2 *ℤ l -ℤ whole) (pos 2 *ℤ v) && int_le (pos 2 *ℤ v) (pos 2 *ℤ h +ℤ whole)) low_is high_is ∙ half_ends one other whole v

pub about_back : (band : Band) (one other whole : ℤ) → IsCoordinate one → IsCoordinate other → IsMetres whole → IsAbout band (read one) (read other) (read whole) → IsAbout band one other whole
about_back band one other whole one_in other_in whole_in h =
    subst (λ w. IsAbout band one other w) (distance_back whole whole_in)
    (subst (λ b. IsAbout band one b (read whole)) (coordinate_back other other_in)
    (subst (λ a. IsAbout band a (read other) (read whole)) (coordinate_back one one_in) h))

-- from the lesser to the greater of two numbers are those among them
among_ends : (one other v : ℤ) → is_between (int_min one other) (int_max one other) v ≡ is_among one other v
among_ends one other v =
    min_max (λ low high. is_between low high v ≡ is_among one other v) one other
    (λ falls. sym (absorb_left (is_between one other v) (is_between other one v) (λ h. (let parts = and_parts (int_le one v) (int_le v other) h in
    and_from (int_le other v) (int_le v one) (lower_too other one v falls parts.0) (higher_too other one v falls parts.1)))))
    (λ rises. sym (absorb_right (is_between one other v) (is_between other one v) (λ h. (let parts = and_parts (int_le other v) (int_le v one) h in
    and_from (int_le one v) (int_le v other) (lower_too one other v rises parts.0) (higher_too one other v rises parts.1)))))

pub among_both : (one other low high v : ℤ) → low ≡ int_min one other → high ≡ int_max one other → is_between low high v ≡ is_among one other v
among_both one other low high v low_is high_is = ap₂ (λ l h. is_between l h v) low_is high_is ∙ among_ends one other v

-- ---- the tests of a band, and its least and its greatest number

module _ (end whole v : ℤ) (end_in : IsCoordinate end) (whole_in : IsMetres whole) where
  end_back : read end ≡ end
  end_back = coordinate_back end end_in

  whole_back : read whole ≡ whole
  whole_back = distance_back whole whole_in

  twice_back : read (pos 2 *ℤ end) ≡ pos 2 *ℤ end
  twice_back = back (pos 2 *ℤ end) (omega (arith, signed_arith, end_in, one_part end, one_part (pos 2 *ℤ end)))

  lower_back : read (pos 2 *ℤ end -ℤ whole) ≡ pos 2 *ℤ end -ℤ whole
  lower_back = back (pos 2 *ℤ end -ℤ whole) (omega (arith, signed_arith, end_in, whole_in.least, whole_in.greatest, one_part end, one_part whole, one_part (pos 2 *ℤ end -ℤ whole)))

  higher_back : read (pos 2 *ℤ end +ℤ whole) ≡ pos 2 *ℤ end +ℤ whole
  higher_back = back (pos 2 *ℤ end +ℤ whole) (omega (arith, signed_arith, end_in, whole_in.least, whole_in.greatest, one_part end, one_part whole, one_part (pos 2 *ℤ end +ℤ whole)))

  pub from_back : IsCoordinate v → int_le (read (read (pos 2 *ℤ read end) -ℤ read whole)) (read (pos 2 *ℤ read v)) ≡ int_le (pos 2 *ℤ end -ℤ whole) (pos 2 *ℤ v)
  from_back v_in =
      let v_back : read v ≡ v = coordinate_back v v_in in
      let twice : read (pos 2 *ℤ v) ≡ pos 2 *ℤ v = back (pos 2 *ℤ v) (omega (arith, signed_arith, v_in, one_part v, one_part (pos 2 *ℤ v))) in
      rw (end_back, whole_back, v_back, twice_back, lower_back, twice) refl

  pub to_back : IsCoordinate v → int_le (read (pos 2 *ℤ read v)) (read (read (pos 2 *ℤ read end) +ℤ read whole)) ≡ int_le (pos 2 *ℤ v) (pos 2 *ℤ end +ℤ whole)
  to_back v_in =
      let v_back : read v ≡ v = coordinate_back v v_in in
      let twice : read (pos 2 *ℤ v) ≡ pos 2 *ℤ v = back (pos 2 *ℤ v) (omega (arith, signed_arith, v_in, one_part v, one_part (pos 2 *ℤ v))) in
      rw (end_back, whole_back, v_back, twice_back, higher_back, twice) refl

  half_back : read (int_div whole (pos 2)) ≡ int_div whole (pos 2)
  half_back = back (int_div whole (pos 2)) (omega (arith, signed_arith, whole_in.least, whole_in.greatest, one_part whole, one_part (int_div whole (pos 2))))

  least_back : read (end -ℤ int_div whole (pos 2)) ≡ end -ℤ int_div whole (pos 2)
  least_back = back (end -ℤ int_div whole (pos 2)) (omega (arith, signed_arith, end_in, whole_in.least, whole_in.greatest, one_part end, one_part whole, one_part (int_div whole (pos 2)), one_part (end -ℤ int_div whole (pos 2))))

  greatest_back : read (end +ℤ int_div whole (pos 2)) ≡ end +ℤ int_div whole (pos 2)
  greatest_back = back (end +ℤ int_div whole (pos 2)) (omega (arith, signed_arith, end_in, whole_in.least, whole_in.greatest, one_part end, one_part whole, one_part (int_div whole (pos 2)), one_part (end +ℤ int_div whole (pos 2))))

  from_half : int_le (end -ℤ int_div whole (pos 2)) v ≡ int_le (pos 2 *ℤ end -ℤ whole) (pos 2 *ℤ v)
  from_half =
      by_lt_z v (end -ℤ int_div whole (pos 2))
      (λ under. from_no (end -ℤ int_div whole (pos 2)) v under ∙ sym (from_no (pos 2 *ℤ end -ℤ whole) (pos 2 *ℤ v) (omega (arith, signed_arith, under, whole_in.least, one_part whole))))
      (λ from. from_yes (end -ℤ int_div whole (pos 2)) v from ∙ sym (from_yes (pos 2 *ℤ end -ℤ whole) (pos 2 *ℤ v) (omega (arith, signed_arith, from, whole_in.least, one_part whole))))

  to_half : int_le v (end +ℤ int_div whole (pos 2)) ≡ int_le (pos 2 *ℤ v) (pos 2 *ℤ end +ℤ whole)
  to_half =
      by_lt_z (end +ℤ int_div whole (pos 2)) v
      (λ over. from_no v (end +ℤ int_div whole (pos 2)) over ∙ sym (from_no (pos 2 *ℤ v) (pos 2 *ℤ end +ℤ whole) (omega (arith, signed_arith, over, whole_in.least, one_part whole))))
      (λ within. from_yes v (end +ℤ int_div whole (pos 2)) within ∙ sym (from_yes (pos 2 *ℤ v) (pos 2 *ℤ end +ℤ whole) (omega (arith, signed_arith, within, whole_in.least, one_part whole))))

  pub least_is : int_le (read (read end -ℤ read (int_div (read whole) (pos 2)))) v ≡ int_le (pos 2 *ℤ end -ℤ whole) (pos 2 *ℤ v)
  least_is = rw (end_back, whole_back, half_back, least_back) from_half

  pub greatest_is : int_le v (read (read end +ℤ read (int_div (read whole) (pos 2)))) ≡ int_le (pos 2 *ℤ v) (pos 2 *ℤ end +ℤ whole)
  greatest_is = rw (end_back, whole_back, half_back, greatest_back) to_half

-- ---- ascending values that begin above a band, or end below it

pub all_above : (band : Band) (values : List ℤ) → IsAscending values → int_le (pos 2 *ℤ value_at values 0) (pos 2 *ℤ band.high +ℤ band.whole) ≡ false
    → (place : ℕ) → place < length values → band_has band (value_at values place) ≡ false
all_above band values ascend over place inside =
    let rises = ascending_at_most values ascend 0 place (omega arith) inside in
    and_right (int_le (pos 2 *ℤ band.low -ℤ band.whole) (pos 2 *ℤ value_at values place)) (int_le (pos 2 *ℤ value_at values place) (pos 2 *ℤ band.high +ℤ band.whole))
    (from_no (pos 2 *ℤ value_at values place) (pos 2 *ℤ band.high +ℤ band.whole) (omega (arith, signed_arith, rises, over)))

pub all_below : (band : Band) (values : List ℤ) (last : ℕ) → IsAscending values → last + 1 ≡ length values → int_le (pos 2 *ℤ band.low -ℤ band.whole) (pos 2 *ℤ value_at values last) ≡ false
    → (place : ℕ) → place < length values → band_has band (value_at values place) ≡ false
all_below band values last ascend is under place inside =
    let rises = ascending_at_most values ascend place last (omega (arith, is, inside)) (omega (arith, is)) in
    and_left (int_le (pos 2 *ℤ band.low -ℤ band.whole) (pos 2 *ℤ value_at values place)) (int_le (pos 2 *ℤ value_at values place) (pos 2 *ℤ band.high +ℤ band.whole))
    (from_no (pos 2 *ℤ band.low -ℤ band.whole) (pos 2 *ℤ value_at values place) (omega (arith, signed_arith, rises, under)))

-- ---- the levels of a segment

pub levels_about_z : (segment : Segment) (band : Band) (height : ℤ) → segment.rule.has_z ≡ true → segment.rule.height ≡ Some height → IsAbout band segment.start.z segment.end.z height
    → (z : Option ℤ) → has_level (Some band) z ≡ has_height segment z
levels_about_z segment band height is_z is_height about None =
    sym (ap₂ (λ (has_z : Bool) (h : Option ℤ). takes_height has_z None segment.start.z segment.end.z h segment.rule.level true) is_z is_height)
levels_about_z segment band height is_z is_height about (Some level) =
    about level ∙ sym (ap₂ (λ (has_z : Bool) (h : Option ℤ). takes_height has_z (Some level) segment.start.z segment.end.z h segment.rule.level true) is_z is_height)

about_one : (z : Option ℤ) (one other height only : ℤ) (has_z : Bool) (h single : Option ℤ) → has_z ≡ false → h ≡ Some height → single ≡ Some only
    → takes_height has_z z one other h single true ≡ takes_height false z one other (Some height) (Some only) true
about_one z one other height only has_z h single is_z is_height is_level =
    ap (λ b. takes_height b z one other h single true) is_z
    ∙ ap₂ (λ (n m : Option ℤ). takes_height false z one other n m true) is_height is_level

pub levels_about_level : (segment : Segment) (band : Band) (height only : ℤ) → segment.rule.has_z ≡ false → segment.rule.height ≡ Some height → segment.rule.level ≡ Some only → IsAbout band only only height
    → (z : Option ℤ) → has_level (Some band) z ≡ has_height segment z
levels_about_level segment band height only is_z is_height is_level about None =
    sym (about_one None segment.start.z segment.end.z height only segment.rule.has_z segment.rule.height segment.rule.level is_z is_height is_level)
levels_about_level segment band height only is_z is_height is_level about (Some level) =
    about level ∙ sym (about_one (Some level) segment.start.z segment.end.z height only segment.rule.has_z segment.rule.height segment.rule.level is_z is_height is_level)
