use Rattle.std.proofs.Common.{◌≡◌, ◌∙◌, ◌+◌, ◌-◌, ◌++◌, ℕ, Bool, true, List, length, replicate, take_all, ap, ap₂, sym, arith, rules, ℤ, to_z, of_z, w64}
use Rattle.std.specs.Vec.{vec_len}
use Rattle.edr_axes.specs.Axes.{value_at}
use Rattle.edr_geometry.specs.Masks.{spot_at}
use Rattle.edr_select.proofs.MaskBits.{row_in_box}
use Rattle.edr_select.proofs.mask_rows.add_box.Goals as goal
use Rattle.edr_base.specs.Boxes.{in_box}

pub returns-then-has-2 : goal.returns-then-has-2
returns-then-has-2 c =
    let row = c.args.row.now in let read = c.values-xs.result.now in let xs = c.args.xs.now in let same = c.values-xs.ensures.same in
    let first : to_z w64 (of_z w64 (value_at read 0)) ≡ value_at read 0 = search rules in
    let last : to_z w64 (of_z w64 (value_at read (length read - 1))) ≡ value_at read (length read - 1) = search rules in
    let one : in_box (spot_at row.y (value_at xs 0)) row.lo row.hi ≡ true =
    sym (c.has.ensures ∙ ap (λ x. in_box (spot_at row.y x) row.lo row.hi) (first ∙ ap (λ (vs : List ℤ). value_at vs 0) same)) ∙ c.if-has.true in
    let other : in_box (spot_at row.y (value_at xs (length xs - 1))) row.lo row.hi ≡ true =
    sym (c.has-then-has.ensures ∙ ap (λ x. in_box (spot_at row.y x) row.lo row.hi) (last ∙ ap (λ (vs : List ℤ). value_at vs (length vs - 1)) same)) ∙ c.if-has-2.true in
    let all = row_in_box row.lo row.hi row.y xs c.values-xs.ensures.axis one other in
    let old : List Bool = c.args.bits.now.items in
    let many : length read ≡ length xs = ap (λ (vs : List ℤ). length vs) same in
    let stood : c.len.result ≡ length old = search rules in
    let counted : vec_len c.args.bits.now ≡ length old = search rules in
    c.in_ok-resize.ensures.items
    ∙ ap₂ (λ (l : List Bool) (n : ℕ). l ++ replicate n true) (take_all (c.len.result + length read) old (omega (arith, stood))) (omega (arith, many, stood, counted))
    ∙ ap (λ l. old ++ l) (sym all)
