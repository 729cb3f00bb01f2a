use Rattle.std.proofs.Common.{◌≡◌, ◌≤◌, ◌∙◌, ◌+ℤ◌, ◌-ℤ◌, ◌*ℤ◌, ◌&&◌, pos, ap₂, sym, arith, refl, int_le, to_z, of_z, w64, ℤ}
use Rattle.std.specs.Int.RustNames.{unsigned_abs}
use Rattle.std.proofs.lemmas.Bool.{and_right}
use Rattle.jiff_core.proofs.SignedLemmas.{signed_arith, one_part}
use Rattle.edr_base.specs.Limits.{IsCoordinate}
use Rattle.edr_geometry.specs.Masks.{spot_at}
use Rattle.edr_geometry.specs.Planar.{along, squared_distance}
use Rattle.edr_geometry.specs.Spans.{has}
use Rattle.edr_geometry.proofs.SpanLemmas.{back}
use Rattle.edr_geometry.proofs.StripLemmas.{behind_end}
use Rattle.edr_geometry.proofs.StripNumbers.{fits, coordinate_back, way_x_small, length_small}
use Rattle.edr_geometry.proofs.strips.Measures.behind_on.Goals as goal

pub returns-then-is_empty : goal.returns-then-is_empty
returns-then-is_empty c =
    let m = c.args.self.now in let y = c.args.y in let a = m.segment.a in let b = m.segment.b in
    let y_back : to_z w64 (of_z w64 y) ≡ y = coordinate_back y c.requires.y_in in
    let disc : (x : ℤ) → has c.about_end-about.result x ≡ int_le (pos 4 *ℤ squared_distance (spot_at y x) b) (m.segment.width *ℤ m.segment.width) = (let told = c.about_end-about.ensures in rw y_back at told) in
    let none = c.is_empty.ensures c.if-is_empty.true in
    λ x x_in. none x ∙ sym (and_right (int_le (squared_distance a b) (along (spot_at y x) a b)) (int_le (pos 4 *ℤ squared_distance (spot_at y x) b) (m.segment.width *ℤ m.segment.width)) (sym (disc x) ∙ none x))

pub overflow_add-start_on : goal.overflow_add-start_on
overflow_add-start_on c =
    let m = c.args.self.now in let y = c.args.y in let are = c.requires.are in let y_in = c.requires.y_in in
    let start = c.start_on.result in
    let y_back : to_z w64 (of_z w64 y) ≡ y = coordinate_back y y_in in
    let is : start ≡ m.way.x *ℤ m.segment.a.x +ℤ m.way.y *ℤ (m.segment.a.y -ℤ y) = (let told = c.start_on.ensures.is in rw y_back at told) in
    let s_in = c.start_on.ensures.small in let l_in = length_small m are y y_in in
    let s_back : to_z w64 (of_z w64 start) ≡ start = back start (omega (arith, s_in)) in
    let l_back : to_z w64 (of_z w64 m.length) ≡ m.length = back m.length (omega (arith, l_in)) in
    let w_back : to_z w64 (of_z w64 m.way.x) ≡ m.way.x = (let small = way_x_small m are y y_in in back m.way.x (omega (arith, small))) in
    let end_small : unsigned_abs (start +ℤ m.length) ≤ 140_000_000_000_000_000 = omega (arith, signed_arith, s_in, l_in, one_part start, one_part m.length, one_part (start +ℤ m.length)) in
    let end_back : to_z w64 (of_z w64 (start +ℤ m.length)) ≡ start +ℤ m.length = back (start +ℤ m.length) (omega (arith, end_small)) in
    rw (s_back, l_back) (fits (start +ℤ m.length) (omega (arith, end_small)))

pub at_least-requires-clause-limit_in : goal.at_least-requires-clause-limit_in
at_least-requires-clause-limit_in c =
    let m = c.args.self.now in let y = c.args.y in let are = c.requires.are in let y_in = c.requires.y_in in
    let start = c.start_on.result in
    let y_back : to_z w64 (of_z w64 y) ≡ y = coordinate_back y y_in in
    let is : start ≡ m.way.x *ℤ m.segment.a.x +ℤ m.way.y *ℤ (m.segment.a.y -ℤ y) = (let told = c.start_on.ensures.is in rw y_back at told) in
    let s_in = c.start_on.ensures.small in let l_in = length_small m are y y_in in
    let s_back : to_z w64 (of_z w64 start) ≡ start = back start (omega (arith, s_in)) in
    let l_back : to_z w64 (of_z w64 m.length) ≡ m.length = back m.length (omega (arith, l_in)) in
    let w_back : to_z w64 (of_z w64 m.way.x) ≡ m.way.x = (let small = way_x_small m are y y_in in back m.way.x (omega (arith, small))) in
    let end_small : unsigned_abs (start +ℤ m.length) ≤ 140_000_000_000_000_000 = omega (arith, signed_arith, s_in, l_in, one_part start, one_part m.length, one_part (start +ℤ m.length)) in
    let end_back : to_z w64 (of_z w64 (start +ℤ m.length)) ≡ start +ℤ m.length = back (start +ℤ m.length) (omega (arith, end_small)) in
    rw (s_back, l_back, end_back) (omega (arith, end_small))

pub returns : goal.returns
returns c =
    let m = c.args.self.now in let y = c.args.y in let are = c.requires.are in let y_in = c.requires.y_in in
    let start = c.start_on.result in
    let y_back : to_z w64 (of_z w64 y) ≡ y = coordinate_back y y_in in
    let is : start ≡ m.way.x *ℤ m.segment.a.x +ℤ m.way.y *ℤ (m.segment.a.y -ℤ y) = (let told = c.start_on.ensures.is in rw y_back at told) in
    let s_in = c.start_on.ensures.small in let l_in = length_small m are y y_in in
    let s_back : to_z w64 (of_z w64 start) ≡ start = back start (omega (arith, s_in)) in
    let l_back : to_z w64 (of_z w64 m.length) ≡ m.length = back m.length (omega (arith, l_in)) in
    let w_back : to_z w64 (of_z w64 m.way.x) ≡ m.way.x = (let small = way_x_small m are y y_in in back m.way.x (omega (arith, small))) in
    let end_small : unsigned_abs (start +ℤ m.length) ≤ 140_000_000_000_000_000 = omega (arith, signed_arith, s_in, l_in, one_part start, one_part m.length, one_part (start +ℤ m.length)) in
    let end_back : to_z w64 (of_z w64 (start +ℤ m.length)) ≡ start +ℤ m.length = back (start +ℤ m.length) (omega (arith, end_small)) in
    let disc : (x : ℤ) → has c.about_end-about.result x ≡ int_le (pos 4 *ℤ squared_distance (spot_at y x) m.segment.b) (m.segment.width *ℤ m.segment.width) = (let told = c.about_end-about.ensures in rw y_back at told) in
    let behind : (x : ℤ) → IsCoordinate x → has c.at_least.result x ≡ int_le (start +ℤ m.length) (m.way.x *ℤ x) = (let told = c.at_least.ensures in rw (w_back, s_back, l_back, end_back) at told) in
    λ x x_in. c.with.ensures x ∙ ap₂ (λ p q. p && q) (behind x x_in ∙ behind_end m are y x start is (start +ℤ m.length) refl) (disc x)
