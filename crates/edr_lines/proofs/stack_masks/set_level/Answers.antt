use Rattle.std.proofs.Common.{◌≡◌, ◌∙◌, ◌+◌, ◌-◌, ◌*◌, ◌<◌, ℕ, true, length, take, drop, ap, sym, subst}
use Rattle.edr_geometry.specs.Ranges.{lies_in}
use borrow.Rule.Slice.PartMut.{put_mid}
use Rattle.edr_select.specs.Stacks.{SidesValue, plane_size, level_at}
use Rattle.edr_lines.specs.Bits.{PlaneSet, LevelSet, takes_below, time_size}
use Rattle.edr_lines.specs.Boxes.{has_node}
use Rattle.edr_lines.proofs.SetLevels.{level_set}
use Rattle.edr_lines.proofs.stack_masks.set_level.Goals as goal

pub returns : goal.returns
returns c =
    let box = c.args.taken.now in let number : ℕ = c.args.number in let in_ = c.sides.inside in let planes = c.args.planes.now in
    let sides : SidesValue = record { times = in_.times; levels = in_.levels; row = in_.row; rows = in_.rows; column = in_.column; columns = in_.columns } in
    let size : ℕ = plane_size sides in
    let is = subst (λ (s : SidesValue). lies_in box.levels (level_at s number) ≡ true) (sym c.sides.view_is) c.requires.lies in
    let here = subst (λ (s : SidesValue). number < length s.levels) (sym c.sides.view_is) c.requires.number in
    let full : length planes ≡ time_size sides = c.requires.full ∙ ap (λ (s : SidesValue). time_size s) (sym c.sides.view_is) in
    let set : PlaneSet sides (has_node box) (take (number * size + size - number * size) (drop (number * size) planes)) c.set_plane.new.plane =
    subst (λ (s : SidesValue). PlaneSet s (has_node box) (take (number * size + size - number * size) (drop (number * size) planes)) c.set_plane.new.plane) (sym c.sides.view_is) c.set_plane.ensures in
    subst (λ (s : SidesValue). LevelSet s (takes_below box) number planes (put_mid (number * size) (number * size + size - number * size) planes c.set_plane.new.plane)) c.sides.view_is
    (level_set sides box number here is planes c.set_plane.new.plane full set)
