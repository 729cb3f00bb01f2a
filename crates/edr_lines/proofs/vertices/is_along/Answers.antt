use Rattle.std.proofs.Common.{◌-◌, length, rules, w64, FitsSigned, to_z-of_z}
use Rattle.edr_axes.specs.Axes.{value_at}
use Rattle.edr_lines.proofs.NearestPlaces.{from_first, before_first}
use Rattle.edr_lines.proofs.vertices.is_along.Goals as goal

pub returns-then-values-number : goal.returns-then-values-number
returns-then-values-number c =
    let values = c.args.values.now in
    let fits = c.ranges.number in
    let first : FitsSigned w64 (value_at values 0) = search rules in
    let last : FitsSigned w64 (value_at values (length values - 1)) = search rules in
    let from = simp to_z-of_z at c.if-values-number.true in
    simp to_z-of_z (from_first values c.args.number c.requires from)

pub returns-else-values-number : goal.returns-else-values-number
returns-else-values-number c =
    let values = c.args.values.now in
    let fits = c.ranges.number in
    let first : FitsSigned w64 (value_at values 0) = search rules in
    let before = simp to_z-of_z at c.if-values-number.false in
    simp to_z-of_z (before_first values c.args.number c.requires before)
