use Rattle.std.proofs.Common.{◌≡◌, ◌≤◌, ◌∙◌, ◌+ℤ◌, ◌-ℤ◌, ◌*ℤ◌, ◌&&◌, ap₂, arith, refl, int_le, to_z, of_z, w64, ℤ}
use Rattle.std.specs.Int.RustNames.{unsigned_abs}
use Rattle.jiff_core.proofs.SignedLemmas.{signed_arith, one_part}
use Rattle.edr_base.specs.Limits.{IsCoordinate}
use Rattle.edr_geometry.specs.Masks.{spot_at}
use Rattle.edr_geometry.specs.Planar.{cross}
use Rattle.edr_geometry.specs.Spans.{has}
use Rattle.edr_geometry.proofs.SpanLemmas.{back}
use Rattle.edr_geometry.proofs.StripLemmas.{right_of_line, left_of_line}
use Rattle.edr_geometry.proofs.StripNumbers.{fits, coordinate_back, way_y_small}
use Rattle.edr_geometry.proofs.strips.Measures.near_line_on.Goals as goal

pub overflow_sub-line : goal.overflow_sub-line
overflow_sub-line c =
    let m = c.args.self.now in let y = c.args.y in let are = c.requires.are in let y_in = c.requires.y_in in
    let line = c.line_on-line.result in
    let y_back : to_z w64 (of_z w64 y) ≡ y = coordinate_back y y_in in
    let is : line ≡ m.way.x *ℤ (y -ℤ m.segment.a.y) +ℤ m.way.y *ℤ m.segment.a.x = (let told = c.line_on-line.ensures.is in rw y_back at told) in
    let l_in = c.line_on-line.ensures.small in let b_in = are.breadth_in in
    let l_back : to_z w64 (of_z w64 line) ≡ line = back line (omega (arith, l_in)) in
    let b_back : to_z w64 (of_z w64 m.breadth) ≡ m.breadth = back m.breadth (omega (arith, b_in)) in
    let w_back : to_z w64 (of_z w64 m.way.y) ≡ m.way.y = (let small = way_y_small m are y y_in in back m.way.y (omega (arith, small))) in
    let low_small : unsigned_abs (line -ℤ m.breadth) ≤ 120_000_000_000_000_000 = omega (arith, signed_arith, l_in, b_in, one_part line, one_part m.breadth, one_part (line -ℤ m.breadth)) in
    let high_small : unsigned_abs (line +ℤ m.breadth) ≤ 120_000_000_000_000_000 = omega (arith, signed_arith, l_in, b_in, one_part line, one_part m.breadth, one_part (line +ℤ m.breadth)) in
    let low_back : to_z w64 (of_z w64 (line -ℤ m.breadth)) ≡ line -ℤ m.breadth = back (line -ℤ m.breadth) (omega (arith, low_small)) in
    let high_back : to_z w64 (of_z w64 (line +ℤ m.breadth)) ≡ line +ℤ m.breadth = back (line +ℤ m.breadth) (omega (arith, high_small)) in
    rw (l_back, b_back) (fits (line -ℤ m.breadth) (omega (arith, low_small)))

pub at_least-requires-clause-limit_in : goal.at_least-requires-clause-limit_in
at_least-requires-clause-limit_in c =
    let m = c.args.self.now in let y = c.args.y in let are = c.requires.are in let y_in = c.requires.y_in in
    let line = c.line_on-line.result in
    let y_back : to_z w64 (of_z w64 y) ≡ y = coordinate_back y y_in in
    let is : line ≡ m.way.x *ℤ (y -ℤ m.segment.a.y) +ℤ m.way.y *ℤ m.segment.a.x = (let told = c.line_on-line.ensures.is in rw y_back at told) in
    let l_in = c.line_on-line.ensures.small in let b_in = are.breadth_in in
    let l_back : to_z w64 (of_z w64 line) ≡ line = back line (omega (arith, l_in)) in
    let b_back : to_z w64 (of_z w64 m.breadth) ≡ m.breadth = back m.breadth (omega (arith, b_in)) in
    let w_back : to_z w64 (of_z w64 m.way.y) ≡ m.way.y = (let small = way_y_small m are y y_in in back m.way.y (omega (arith, small))) in
    let low_small : unsigned_abs (line -ℤ m.breadth) ≤ 120_000_000_000_000_000 = omega (arith, signed_arith, l_in, b_in, one_part line, one_part m.breadth, one_part (line -ℤ m.breadth)) in
    let high_small : unsigned_abs (line +ℤ m.breadth) ≤ 120_000_000_000_000_000 = omega (arith, signed_arith, l_in, b_in, one_part line, one_part m.breadth, one_part (line +ℤ m.breadth)) in
    let low_back : to_z w64 (of_z w64 (line -ℤ m.breadth)) ≡ line -ℤ m.breadth = back (line -ℤ m.breadth) (omega (arith, low_small)) in
    let high_back : to_z w64 (of_z w64 (line +ℤ m.breadth)) ≡ line +ℤ m.breadth = back (line +ℤ m.breadth) (omega (arith, high_small)) in
    rw (l_back, b_back, low_back) (omega (arith, low_small))

pub returns : goal.returns
returns c =
    let m = c.args.self.now in let y = c.args.y in let are = c.requires.are in let y_in = c.requires.y_in in
    let line = c.line_on-line.result in
    let y_back : to_z w64 (of_z w64 y) ≡ y = coordinate_back y y_in in
    let is : line ≡ m.way.x *ℤ (y -ℤ m.segment.a.y) +ℤ m.way.y *ℤ m.segment.a.x = (let told = c.line_on-line.ensures.is in rw y_back at told) in
    let l_in = c.line_on-line.ensures.small in let b_in = are.breadth_in in
    let l_back : to_z w64 (of_z w64 line) ≡ line = back line (omega (arith, l_in)) in
    let b_back : to_z w64 (of_z w64 m.breadth) ≡ m.breadth = back m.breadth (omega (arith, b_in)) in
    let w_back : to_z w64 (of_z w64 m.way.y) ≡ m.way.y = (let small = way_y_small m are y y_in in back m.way.y (omega (arith, small))) in
    let low_small : unsigned_abs (line -ℤ m.breadth) ≤ 120_000_000_000_000_000 = omega (arith, signed_arith, l_in, b_in, one_part line, one_part m.breadth, one_part (line -ℤ m.breadth)) in
    let high_small : unsigned_abs (line +ℤ m.breadth) ≤ 120_000_000_000_000_000 = omega (arith, signed_arith, l_in, b_in, one_part line, one_part m.breadth, one_part (line +ℤ m.breadth)) in
    let low_back : to_z w64 (of_z w64 (line -ℤ m.breadth)) ≡ line -ℤ m.breadth = back (line -ℤ m.breadth) (omega (arith, low_small)) in
    let high_back : to_z w64 (of_z w64 (line +ℤ m.breadth)) ≡ line +ℤ m.breadth = back (line +ℤ m.breadth) (omega (arith, high_small)) in
    let high : (x : ℤ) → IsCoordinate x → has c.at_most-high.result x ≡ int_le (m.way.y *ℤ x) (line +ℤ m.breadth) = (let told = c.at_most-high.ensures in rw (w_back, l_back, b_back, high_back) at told) in
    let low : (x : ℤ) → IsCoordinate x → has c.at_least.result x ≡ int_le (line -ℤ m.breadth) (m.way.y *ℤ x) = (let told = c.at_least.ensures in rw (w_back, l_back, b_back, low_back) at told) in
    λ x x_in. c.with.ensures x
    ∙ ap₂ (λ p q. p && q) (high x x_in ∙ right_of_line m are y x line is (line +ℤ m.breadth) refl) (low x x_in ∙ left_of_line m are y x line is (line -ℤ m.breadth) refl)
    ∙ are.breadth (cross (spot_at y x) m.segment.a m.segment.b)
