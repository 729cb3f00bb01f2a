use Rattle.std.proofs.Common.{◌≡◌, ◌≤◌, ◌*ℤ◌, pos, arith, to_z, of_z, w64}
use mir.Syntax.{w128}
use Rattle.std.specs.Int.{IsIsqrt}
use Rattle.std.specs.Int.RustNames.{unsigned_abs, int_div}
use Rattle.edr_geometry.proofs.SpanLemmas.{back}
use Rattle.edr_geometry.proofs.StripNumbers.{fits, wide_back, width_back, length_back, product_fits, product_back, quarter_positive, quarter_back, breadth_small, breadth_near}
use Rattle.edr_geometry.proofs.strips.breadth_of.Goals as goal

pub overflow_mul-square : goal.overflow_mul-square
overflow_mul-square c =
    let g = c.args.segment.now in let width = c.squared_width.result in let length = c.squared_length.result in
    let w_back = width_back g c.requires width length c.squared_width.ensures c.squared_length.ensures in
    let l_back = length_back g c.requires width length c.squared_width.ensures c.squared_length.ensures in
    rw (w_back, l_back) (product_fits g c.requires width length c.squared_width.ensures c.squared_length.ensures)

pub isqrt-requires : goal.isqrt-requires
isqrt-requires c =
    let g = c.args.segment.now in let width = c.squared_width.result in let length = c.squared_length.result in
    let w_back = width_back g c.requires width length c.squared_width.ensures c.squared_length.ensures in
    let l_back = length_back g c.requires width length c.squared_width.ensures c.squared_length.ensures in
    let p_back = product_back g c.requires width length c.squared_width.ensures c.squared_length.ensures in
    let q_back = quarter_back g c.requires width length c.squared_width.ensures c.squared_length.ensures in
    rw (w_back, l_back, p_back, q_back) (quarter_positive g c.requires width length c.squared_width.ensures c.squared_length.ensures)

pub overflow_cast-result : goal.overflow_cast-result
overflow_cast-result c =
    let g = c.args.segment.now in let width = c.squared_width.result in let length = c.squared_length.result in
    let w_back = width_back g c.requires width length c.squared_width.ensures c.squared_length.ensures in
    let l_back = length_back g c.requires width length c.squared_width.ensures c.squared_length.ensures in
    let p_back = product_back g c.requires width length c.squared_width.ensures c.squared_length.ensures in
    let q_back = quarter_back g c.requires width length c.squared_width.ensures c.squared_length.ensures in
    let root : IsIsqrt (int_div (width *ℤ length) (pos 4)) c.isqrt.result = (let told = c.isqrt.ensures in rw (w_back, l_back, p_back, q_back) at told) in
    let small : unsigned_abs c.isqrt.result ≤ 60_000_000_000_000_000 = breadth_small g c.requires width length c.squared_width.ensures c.squared_length.ensures c.isqrt.result root in
    let k_wide : to_z w128 (of_z w128 c.isqrt.result) ≡ c.isqrt.result = wide_back c.isqrt.result (omega (arith, small)) in
    let k_back : to_z w64 (of_z w64 c.isqrt.result) ≡ c.isqrt.result = back c.isqrt.result (omega (arith, small)) in
    rw k_wide (fits c.isqrt.result (omega (arith, small)))

pub returns-clause-small : goal.returns-clause-small
returns-clause-small c =
    let g = c.args.segment.now in let width = c.squared_width.result in let length = c.squared_length.result in
    let w_back = width_back g c.requires width length c.squared_width.ensures c.squared_length.ensures in
    let l_back = length_back g c.requires width length c.squared_width.ensures c.squared_length.ensures in
    let p_back = product_back g c.requires width length c.squared_width.ensures c.squared_length.ensures in
    let q_back = quarter_back g c.requires width length c.squared_width.ensures c.squared_length.ensures in
    let root : IsIsqrt (int_div (width *ℤ length) (pos 4)) c.isqrt.result = (let told = c.isqrt.ensures in rw (w_back, l_back, p_back, q_back) at told) in
    let small : unsigned_abs c.isqrt.result ≤ 60_000_000_000_000_000 = breadth_small g c.requires width length c.squared_width.ensures c.squared_length.ensures c.isqrt.result root in
    let k_wide : to_z w128 (of_z w128 c.isqrt.result) ≡ c.isqrt.result = wide_back c.isqrt.result (omega (arith, small)) in
    let k_back : to_z w64 (of_z w64 c.isqrt.result) ≡ c.isqrt.result = back c.isqrt.result (omega (arith, small)) in
    rw (k_wide, k_back) small

pub returns-clause-near : goal.returns-clause-near
returns-clause-near c =
    let g = c.args.segment.now in let width = c.squared_width.result in let length = c.squared_length.result in
    let w_back = width_back g c.requires width length c.squared_width.ensures c.squared_length.ensures in
    let l_back = length_back g c.requires width length c.squared_width.ensures c.squared_length.ensures in
    let p_back = product_back g c.requires width length c.squared_width.ensures c.squared_length.ensures in
    let q_back = quarter_back g c.requires width length c.squared_width.ensures c.squared_length.ensures in
    let root : IsIsqrt (int_div (width *ℤ length) (pos 4)) c.isqrt.result = (let told = c.isqrt.ensures in rw (w_back, l_back, p_back, q_back) at told) in
    let small : unsigned_abs c.isqrt.result ≤ 60_000_000_000_000_000 = breadth_small g c.requires width length c.squared_width.ensures c.squared_length.ensures c.isqrt.result root in
    let k_wide : to_z w128 (of_z w128 c.isqrt.result) ≡ c.isqrt.result = wide_back c.isqrt.result (omega (arith, small)) in
    let k_back : to_z w64 (of_z w64 c.isqrt.result) ≡ c.isqrt.result = back c.isqrt.result (omega (arith, small)) in
    rw (k_wide, k_back) (breadth_near g c.requires width length c.squared_width.ensures c.squared_length.ensures c.isqrt.result root)
