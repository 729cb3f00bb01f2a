use Rattle.std.proofs.Common.{◌≡◌, ◌∙◌, ap, to_z, of_z, w64}
use Rattle.edr_axes.specs.Axes.{value_at}
use Rattle.edr_geometry.specs.Masks.{spot_at}
use Rattle.edr_geometry.specs.Planar.{near_segment}
use Rattle.edr_geometry.specs.Ranges.{StripValue}
use Rattle.edr_geometry.proofs.StripNumbers.{coordinate_back}
use Rattle.edr_geometry.proofs.strips.Strip.near_row.Goals as goal

pub returns-clause-near : goal.returns-clause-near
returns-clause-near c =
    let y = c.args.y in let xs = c.args.xs.now in
    let y_back : to_z w64 (of_z w64 y) ≡ y = coordinate_back y c.requires.y_in in
    λ place inside.
    (let told = c.near_row.ensures.near place inside in rw y_back at told)
    ∙ ap (λ (v : StripValue). near_segment (spot_at y (value_at xs place)) v.a v.b v.width) c.self.view_is
