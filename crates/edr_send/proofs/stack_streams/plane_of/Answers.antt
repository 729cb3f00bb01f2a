use Rattle.std.proofs.Common.{rules, ◌≡◌, length}
use Rattle.edr_select.specs.Stacks.{SidesValue}
use Rattle.edr_send.proofs.StackTiles.{plane_inside}
use Rattle.edr_send.proofs.stack_streams.plane_of.Goals as goal

pub bits_of-requires : goal.bits_of-requires
bits_of-requires c =
    let sides : SidesValue = c.args.stack.now.sides in
    let levels : c.items-levels.result.now ≡ sides.levels = search rules in
    let rows : c.sides.inside.rows ≡ sides.rows = search rules in
    let columns : c.sides.inside.columns ≡ sides.columns = search rules in
    let bits : c.items.result.now ≡ c.args.stack.now.mask = search rules in
    rw (levels, rows, columns, bits) (plane_inside sides (length c.args.stack.now.mask) c.args.i c.args.j c.requires.mask c.requires.time c.requires.level)
