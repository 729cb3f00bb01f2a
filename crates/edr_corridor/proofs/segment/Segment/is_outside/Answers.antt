use Rattle.std.proofs.Common.{◌∙◌, sym}
use Rattle.edr_axes.specs.Axes.{value_at}
use Rattle.edr_geometry.specs.Masks.{spot_at}
use Rattle.edr_geometry.specs.Planar.{spot_of}
use Rattle.edr_corridor.proofs.Near.{far_row, far_column}
use Rattle.edr_corridor.proofs.segment.Segment.is_outside.Goals as goal

pub returns-then-misses : goal.returns-then-misses
returns-then-misses c = λ missed y x y_in x_in.
    (let segment = c.args.self.now in let v = value_at c.args.xs.now x in
    far_column (spot_at (value_at c.args.ys.now y) v) (spot_of segment.start) (spot_of segment.end) segment.rule.width c.requires.segment.rule_in.width_in.least
    (sym (c.columns.ensures.has v) ∙ c.misses.ensures missed x x_in))

pub returns-else-misses : goal.returns-else-misses
returns-else-misses c = λ missed y x y_in x_in.
    (let segment = c.args.self.now in let v = value_at c.args.ys.now y in
    far_row (spot_at v (value_at c.args.xs.now x)) (spot_of segment.start) (spot_of segment.end) segment.rule.width c.requires.segment.rule_in.width_in.least
    (sym (c.rows.ensures.has v) ∙ c.misses-else-misses.ensures missed y y_in))
