use Rattle.std.proofs.Common.{◌≡◌, arith, rules}
use Rattle.edr_axes.specs.Axes.{axis_length}
use Rattle.edr_edition.specs.ShapeLaws.{small_sides}
use Rattle.edr_edition.proofs.instances.shape_of.Goals as goal
use Rattle.edr_edition.proofs.instances.shape_of.Goals.{in-Some, in-None}

pub overflow_cast-result : goal.overflow_cast-result
overflow_cast-result c = let small = small_sides _ c.requires in omega (arith, c.len.ensures.0, small.times)

pub overflow_cast-result-2 : goal.overflow_cast-result-2
overflow_cast-result-2 c =
    let small = small_sides _ c.requires in
    let levels : c.match-levels.levels ≡ axis_length c.args.levels.now = elim c.match-levels.branch [ in-Some w ↦ search rules | in-None w ↦ search rules ] in
    omega (arith, levels, small.levels)

pub overflow_cast-result-3 : goal.overflow_cast-result-3
overflow_cast-result-3 c = let small = small_sides _ c.requires in omega (arith, c.len-2.ensures.0, small.rows)

pub overflow_cast-result-4 : goal.overflow_cast-result-4
overflow_cast-result-4 c = let small = small_sides _ c.requires in omega (arith, c.len-3.ensures.0, small.columns)
