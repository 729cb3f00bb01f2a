use Rattle.std.proofs.Common.{◌≡◌, ◌∙◌, ◌+◌, ◌*◌, rules, sym, subst, ap, w64, of_z, to_z, Some, ℤ}
use Rattle.edr_axes.specs.Axes.{IsNearest}
use Rattle.edr_select.specs.Wanted.{is_along}
use Rattle.edr_select.specs.Choices.{is_number}
use Rattle.edr_select.proofs.SpotChoices.{spot_is}
use Rattle.edr_select.proofs.chosen_spots.spot_of.Goals as goal

pub returns-clause-nearest : goal.returns-clause-nearest
returns-clause-nearest c = λ k inside.
    let y : to_z w64 (of_z w64 c.args.point.now.y) ≡ c.args.point.now.y = search rules in
    let x : to_z w64 (of_z w64 c.args.point.now.x) ≡ c.args.point.now.x = search rules in
    spot_is c.args.ys.now c.args.xs.now c.args.point.now c.nearest-row.result c.nearest-column.result k c.requires.rows c.requires.columns
    (ap (is_along c.args.ys.now) (sym y) ∙ sym c.if-not-is_along.ensures) (ap (is_along c.args.xs.now) (sym x) ∙ sym c.if-not-is_along-2.ensures)
    (subst (λ (v : ℤ). IsNearest c.args.ys.now v c.nearest-row.result) y c.nearest-row.ensures) (subst (λ (v : ℤ). IsNearest c.args.xs.now v c.nearest-column.result) x c.nearest-column.ensures) inside
    ∙ ap (λ w. is_number (Some (c.nearest-row.result * w + c.nearest-column.result)) k) (sym c.len.ensures.0)
