use Rattle.std.proofs.Common.{◌≡◌, ◌≤◌, ◌∙◌, ◌+ℤ◌, ◌-ℤ◌, ◌*ℤ◌, ◌&&◌, pos, ap₂, arith, refl, int_le, to_z, of_z, w64, ℤ}
use Rattle.std.specs.Int.RustNames.{unsigned_abs}
use Rattle.jiff_core.proofs.SignedLemmas.{signed_arith, one_part}
use Rattle.edr_base.specs.Limits.{IsCoordinate}
use Rattle.edr_geometry.specs.Spans.{has}
use Rattle.edr_geometry.proofs.SpanLemmas.{back}
use Rattle.edr_geometry.proofs.StripLemmas.{behind_start, before_end}
use Rattle.edr_geometry.proofs.StripNumbers.{fits, coordinate_back, way_x_small, length_small}
use Rattle.edr_geometry.proofs.strips.Measures.between_on.Goals as goal

pub overflow_add-start-2 : goal.overflow_add-start-2
overflow_add-start-2 c =
    let m = c.args.self.now in let y = c.args.y in let are = c.requires.are in let y_in = c.requires.y_in in
    let start = c.start_on-start.result in
    let y_back : to_z w64 (of_z w64 y) ≡ y = coordinate_back y y_in in
    let is : start ≡ m.way.x *ℤ m.segment.a.x +ℤ m.way.y *ℤ (m.segment.a.y -ℤ y) = (let told = c.start_on-start.ensures.is in rw y_back at told) in
    let s_in = c.start_on-start.ensures.small in let l_in = length_small m are y y_in in
    let s_back : to_z w64 (of_z w64 start) ≡ start = back start (omega (arith, s_in)) in
    let l_back : to_z w64 (of_z w64 m.length) ≡ m.length = back m.length (omega (arith, l_in)) in
    let w_back : to_z w64 (of_z w64 m.way.x) ≡ m.way.x = (let small = way_x_small m are y y_in in back m.way.x (omega (arith, small))) in
    let end_small : unsigned_abs (start +ℤ m.length) ≤ 140_000_000_000_000_000 = omega (arith, signed_arith, s_in, l_in, one_part start, one_part m.length, one_part (start +ℤ m.length)) in
    let end_back : to_z w64 (of_z w64 (start +ℤ m.length)) ≡ start +ℤ m.length = back (start +ℤ m.length) (omega (arith, end_small)) in
    let low_small : unsigned_abs (start +ℤ pos 1) ≤ 60_000_000_000_000_001 = omega (arith, signed_arith, s_in, one_part start, one_part (start +ℤ pos 1)) in
    let low_back : to_z w64 (of_z w64 (start +ℤ pos 1)) ≡ start +ℤ pos 1 = back (start +ℤ pos 1) (omega (arith, low_small)) in
    let high_small : unsigned_abs (start +ℤ m.length -ℤ pos 1) ≤ 140_000_000_000_000_001 = omega (arith, signed_arith, end_small, one_part (start +ℤ m.length), one_part (start +ℤ m.length -ℤ pos 1)) in
    let high_back : to_z w64 (of_z w64 (start +ℤ m.length -ℤ pos 1)) ≡ start +ℤ m.length -ℤ pos 1 = back (start +ℤ m.length -ℤ pos 1) (omega (arith, high_small)) in
    rw (s_back, l_back) (fits (start +ℤ m.length) (omega (arith, end_small)))

pub overflow_sub-start : goal.overflow_sub-start
overflow_sub-start c =
    let m = c.args.self.now in let y = c.args.y in let are = c.requires.are in let y_in = c.requires.y_in in
    let start = c.start_on-start.result in
    let y_back : to_z w64 (of_z w64 y) ≡ y = coordinate_back y y_in in
    let is : start ≡ m.way.x *ℤ m.segment.a.x +ℤ m.way.y *ℤ (m.segment.a.y -ℤ y) = (let told = c.start_on-start.ensures.is in rw y_back at told) in
    let s_in = c.start_on-start.ensures.small in let l_in = length_small m are y y_in in
    let s_back : to_z w64 (of_z w64 start) ≡ start = back start (omega (arith, s_in)) in
    let l_back : to_z w64 (of_z w64 m.length) ≡ m.length = back m.length (omega (arith, l_in)) in
    let w_back : to_z w64 (of_z w64 m.way.x) ≡ m.way.x = (let small = way_x_small m are y y_in in back m.way.x (omega (arith, small))) in
    let end_small : unsigned_abs (start +ℤ m.length) ≤ 140_000_000_000_000_000 = omega (arith, signed_arith, s_in, l_in, one_part start, one_part m.length, one_part (start +ℤ m.length)) in
    let end_back : to_z w64 (of_z w64 (start +ℤ m.length)) ≡ start +ℤ m.length = back (start +ℤ m.length) (omega (arith, end_small)) in
    let low_small : unsigned_abs (start +ℤ pos 1) ≤ 60_000_000_000_000_001 = omega (arith, signed_arith, s_in, one_part start, one_part (start +ℤ pos 1)) in
    let low_back : to_z w64 (of_z w64 (start +ℤ pos 1)) ≡ start +ℤ pos 1 = back (start +ℤ pos 1) (omega (arith, low_small)) in
    let high_small : unsigned_abs (start +ℤ m.length -ℤ pos 1) ≤ 140_000_000_000_000_001 = omega (arith, signed_arith, end_small, one_part (start +ℤ m.length), one_part (start +ℤ m.length -ℤ pos 1)) in
    let high_back : to_z w64 (of_z w64 (start +ℤ m.length -ℤ pos 1)) ≡ start +ℤ m.length -ℤ pos 1 = back (start +ℤ m.length -ℤ pos 1) (omega (arith, high_small)) in
    rw (s_back, l_back, end_back) (fits (start +ℤ m.length -ℤ pos 1) (omega (arith, high_small)))

pub at_most-requires-clause-limit_in : goal.at_most-requires-clause-limit_in
at_most-requires-clause-limit_in c =
    let m = c.args.self.now in let y = c.args.y in let are = c.requires.are in let y_in = c.requires.y_in in
    let start = c.start_on-start.result in
    let y_back : to_z w64 (of_z w64 y) ≡ y = coordinate_back y y_in in
    let is : start ≡ m.way.x *ℤ m.segment.a.x +ℤ m.way.y *ℤ (m.segment.a.y -ℤ y) = (let told = c.start_on-start.ensures.is in rw y_back at told) in
    let s_in = c.start_on-start.ensures.small in let l_in = length_small m are y y_in in
    let s_back : to_z w64 (of_z w64 start) ≡ start = back start (omega (arith, s_in)) in
    let l_back : to_z w64 (of_z w64 m.length) ≡ m.length = back m.length (omega (arith, l_in)) in
    let w_back : to_z w64 (of_z w64 m.way.x) ≡ m.way.x = (let small = way_x_small m are y y_in in back m.way.x (omega (arith, small))) in
    let end_small : unsigned_abs (start +ℤ m.length) ≤ 140_000_000_000_000_000 = omega (arith, signed_arith, s_in, l_in, one_part start, one_part m.length, one_part (start +ℤ m.length)) in
    let end_back : to_z w64 (of_z w64 (start +ℤ m.length)) ≡ start +ℤ m.length = back (start +ℤ m.length) (omega (arith, end_small)) in
    let low_small : unsigned_abs (start +ℤ pos 1) ≤ 60_000_000_000_000_001 = omega (arith, signed_arith, s_in, one_part start, one_part (start +ℤ pos 1)) in
    let low_back : to_z w64 (of_z w64 (start +ℤ pos 1)) ≡ start +ℤ pos 1 = back (start +ℤ pos 1) (omega (arith, low_small)) in
    let high_small : unsigned_abs (start +ℤ m.length -ℤ pos 1) ≤ 140_000_000_000_000_001 = omega (arith, signed_arith, end_small, one_part (start +ℤ m.length), one_part (start +ℤ m.length -ℤ pos 1)) in
    let high_back : to_z w64 (of_z w64 (start +ℤ m.length -ℤ pos 1)) ≡ start +ℤ m.length -ℤ pos 1 = back (start +ℤ m.length -ℤ pos 1) (omega (arith, high_small)) in
    rw (s_back, l_back, end_back, high_back) (omega (arith, high_small))

pub returns : goal.returns
returns c =
    let m = c.args.self.now in let y = c.args.y in let are = c.requires.are in let y_in = c.requires.y_in in
    let start = c.start_on-start.result in
    let y_back : to_z w64 (of_z w64 y) ≡ y = coordinate_back y y_in in
    let is : start ≡ m.way.x *ℤ m.segment.a.x +ℤ m.way.y *ℤ (m.segment.a.y -ℤ y) = (let told = c.start_on-start.ensures.is in rw y_back at told) in
    let s_in = c.start_on-start.ensures.small in let l_in = length_small m are y y_in in
    let s_back : to_z w64 (of_z w64 start) ≡ start = back start (omega (arith, s_in)) in
    let l_back : to_z w64 (of_z w64 m.length) ≡ m.length = back m.length (omega (arith, l_in)) in
    let w_back : to_z w64 (of_z w64 m.way.x) ≡ m.way.x = (let small = way_x_small m are y y_in in back m.way.x (omega (arith, small))) in
    let end_small : unsigned_abs (start +ℤ m.length) ≤ 140_000_000_000_000_000 = omega (arith, signed_arith, s_in, l_in, one_part start, one_part m.length, one_part (start +ℤ m.length)) in
    let end_back : to_z w64 (of_z w64 (start +ℤ m.length)) ≡ start +ℤ m.length = back (start +ℤ m.length) (omega (arith, end_small)) in
    let low_small : unsigned_abs (start +ℤ pos 1) ≤ 60_000_000_000_000_001 = omega (arith, signed_arith, s_in, one_part start, one_part (start +ℤ pos 1)) in
    let low_back : to_z w64 (of_z w64 (start +ℤ pos 1)) ≡ start +ℤ pos 1 = back (start +ℤ pos 1) (omega (arith, low_small)) in
    let high_small : unsigned_abs (start +ℤ m.length -ℤ pos 1) ≤ 140_000_000_000_000_001 = omega (arith, signed_arith, end_small, one_part (start +ℤ m.length), one_part (start +ℤ m.length -ℤ pos 1)) in
    let high_back : to_z w64 (of_z w64 (start +ℤ m.length -ℤ pos 1)) ≡ start +ℤ m.length -ℤ pos 1 = back (start +ℤ m.length -ℤ pos 1) (omega (arith, high_small)) in
    let low : (x : ℤ) → IsCoordinate x → has c.at_least-low.result x ≡ int_le (start +ℤ pos 1) (m.way.x *ℤ x) = (let told = c.at_least-low.ensures in rw (w_back, s_back, low_back) at told) in
    let high : (x : ℤ) → IsCoordinate x → has c.at_most.result x ≡ int_le (m.way.x *ℤ x) (start +ℤ m.length -ℤ pos 1) = (let told = c.at_most.ensures in rw (w_back, s_back, l_back, end_back, high_back) at told) in
    λ x x_in. c.with.ensures x
    ∙ ap₂ (λ p q. p && q) (low x x_in ∙ behind_start m are y x start is (start +ℤ pos 1) refl) (high x x_in ∙ before_end m are y x start is (start +ℤ m.length -ℤ pos 1) refl)
