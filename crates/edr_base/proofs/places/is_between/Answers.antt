use Rattle.std.proofs.Common.{◌&&◌, FitsSigned, ap, sym, ◌∙◌, to_z-of_z, w64}
use Rattle.std.specs.Prelude.{int_le}
use Rattle.edr_base.proofs.places.is_between.Goals as goal

pub returns-then-low-value : goal.returns-then-low-value
returns-then-low-value c =
    let low : FitsSigned w64 c.args.low = c.ranges.low in
    let high : FitsSigned w64 c.args.high = c.ranges.high in
    let value : FitsSigned w64 c.args.value = c.ranges.value in
    let above = simp to_z-of_z at c.if-low-value.true in
    simp to_z-of_z (ap (λ b. b && int_le c.args.value c.args.high) (sym above))

pub returns-else-low-value : goal.returns-else-low-value
returns-else-low-value c =
    let low : FitsSigned w64 c.args.low = c.ranges.low in
    let value : FitsSigned w64 c.args.value = c.ranges.value in
    let below = simp to_z-of_z at c.if-low-value.false in
    simp to_z-of_z (below ∙ ap (λ b. b && int_le c.args.value c.args.high) (sym below))
