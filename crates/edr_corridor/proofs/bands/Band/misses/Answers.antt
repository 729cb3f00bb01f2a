use Rattle.std.proofs.Common.{◌≡◌, ◌∙◌, ◌+◌, ◌-◌, ◌*ℤ◌, ◌-ℤ◌, ◌+ℤ◌, int_le, length, pos, ap, sym, arith}
use Rattle.std.proofs.lemmas.List.Elements.{All-get_or}
use Rattle.edr_base.specs.Limits.{IsCoordinate}
use Rattle.edr_axes.specs.Axes.{value_at}
use Rattle.edr_corridor.proofs.Halves.{of_not, all_above, all_below, coordinate_back, read}
use Rattle.edr_corridor.proofs.bands.Band.misses.Goals as goal

pub returns-then-not-is_to : goal.returns-then-not-is_to
returns-then-not-is_to c =
    let band = c.args.self.now in let values = c.args.axis.now in
    let v : read c.value.result ≡ value_at values 0 =
    ap read c.value.ensures ∙ coordinate_back (value_at values 0) (All-get_or IsCoordinate values 0 (pos 0) c.values.ensures.axis.some c.requires.axis_in) in
    let is : c.is_to.result ≡ int_le (pos 2 *ℤ value_at values 0) (pos 2 *ℤ band.high +ℤ band.whole) =
    c.is_to.ensures ∙ ap (λ n. int_le (pos 2 *ℤ n) (pos 2 *ℤ band.high +ℤ band.whole)) v in
    λ above. all_above band values c.values.ensures.axis.ascending (sym is ∙ of_not c.is_to.result above)

pub returns-else-not-is_to : goal.returns-else-not-is_to
returns-else-not-is_to c =
    let band = c.args.self.now in let values = c.args.axis.now in let end = c.len.result - 1 in
    let last : end + 1 ≡ length values = omega (arith, c.len.ensures.0, c.len.ensures.1) in
    let v : read c.value-else-not-is_to.result ≡ value_at values end =
    ap read c.value-else-not-is_to.ensures ∙ coordinate_back (value_at values end) (All-get_or IsCoordinate values end (pos 0) (omega (arith, last)) c.requires.axis_in) in
    let is : c.is_from.result ≡ int_le (pos 2 *ℤ band.low -ℤ band.whole) (pos 2 *ℤ value_at values end) =
    c.is_from.ensures ∙ ap (λ n. int_le (pos 2 *ℤ band.low -ℤ band.whole) (pos 2 *ℤ n)) v in
    λ below. all_below band values end c.values.ensures.axis.ascending last (sym is ∙ of_not c.is_from.result below)
