use Rattle.std.proofs.Common.{◌≡◌, ◌∙◌, ℕ, length, pos, ap₂, sym, subst, arith}
use Rattle.std.proofs.lemmas.Bool.Decides.{nat_tests}
use Rattle.edr_axes.specs.Axes.{value_at}
use Rattle.edr_base.specs.Limits.{IsCoordinate}
use Rattle.edr_geometry.specs.Planar.{spot_of, near_segment}
use Rattle.edr_geometry.specs.Masks.{spot_at}
use Rattle.edr_corridor.specs.Parts.{has_spot}
use Rattle.edr_corridor.proofs.Halves.{coordinate_back, of_not}
use Rattle.edr_corridor.proofs.segment.Segment.misses_one.Goals as goal

pub returns : goal.returns
returns c = λ missed y x row column.
    (let segment = c.args.self.now in let ys = c.args.ys.now in let xs = c.args.xs.now in
    let one_y : length ys ≡ 1 = (let t = c.if-len-ne1.false in let n = c.len.ensures.0 in grind (arith, nat_tests)) in
    let one_x : length xs ≡ 1 = (let t = c.if-len-ne1-2.false in let n = c.len-else-len-ne1.ensures.0 in grind (arith, nat_tests)) in
    let y_in : IsCoordinate c.value-2.result = subst IsCoordinate (sym c.value-2.ensures) (c.requires.ys_in 0 (pos 0) (omega (arith, one_y))) in
    let x_in : IsCoordinate c.value.result = subst IsCoordinate (sym c.value.ensures) (c.requires.xs_in 0 (pos 0) (omega (arith, one_x))) in
    let here : c.takes_spot.result ≡ has_spot segment (value_at ys 0) (value_at xs 0) =
    c.takes_spot.ensures ∙ ap₂ (λ v w. near_segment (spot_at v w) (spot_of segment.start) (spot_of segment.end) segment.rule.width) (coordinate_back c.value-2.result y_in ∙ c.value-2.ensures) (coordinate_back c.value.result x_in ∙ c.value.ensures) in
    let first : y ≡ 0 = omega (arith, one_y, row) in
    let left : x ≡ 0 = omega (arith, one_x, column) in
    ap₂ (λ (i j : ℕ). has_spot segment (value_at ys i) (value_at xs j)) first left ∙ sym here ∙ of_not c.takes_spot.result missed)
