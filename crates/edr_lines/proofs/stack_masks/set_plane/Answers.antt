use Rattle.std.proofs.Common.{◌≤◌, length, arith}
use Rattle.edr_lines.proofs.SetPlanes.{no_rectangles_set, rectangle_set, all_rectangles_set}
use Rattle.edr_lines.proofs.stack_masks.set_plane.Goals as goal

pub loop-number-init : goal.loop-number-init
loop-number-init c = no_rectangles_set c.args.sides.now c.args.taken.now c.args.plane.now

pub loop-number-preserved : goal.loop-number-preserved
loop-number-preserved c =
    rectangle_set c.args.sides.now c.args.taken.now c.loop-number.number c.index.result.now c.args.plane.now c.loop-number.plane c.set_rectangle.new.plane (omega arith) c.index.ensures
    c.loop-number.invariant c.set_rectangle.ensures

pub returns : goal.returns
returns c =
    let all : length c.args.taken.now.rectangles.items ≤ c.loop-number.number = omega arith in
    all_rectangles_set c.args.sides.now c.args.taken.now c.loop-number.number c.args.plane.now c.loop-number.plane all c.loop-number.invariant
