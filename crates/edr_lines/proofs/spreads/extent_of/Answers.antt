use Rattle.std.proofs.Common.{◌∙◌, ◌+◌, ◌≤◌, ℕ, Some, length, ap, sym, subst, arith}
use Rattle.std.specs.Prelude.{◌||◌}
use Rattle.edr_corridor.specs.Boxes.{has_place}
use Rattle.edr_lines.specs.Taken.{counts_of}
use Rattle.edr_lines.specs.Boxes.{MatchPlane, has_node, has_first, joined_extent}
use Rattle.edr_lines.proofs.Ends.{plane_same, plane_with}
use Rattle.edr_lines.proofs.RectangleNodes.{no_rectangles, all_rectangles, rectangle_more}
use Rattle.edr_lines.proofs.spreads.extent_of.Goals as goal

pub loop-number-init : goal.loop-number-init
loop-number-init c = λ y x below inside. no_rectangles c.args.taken.now y x

pub loop-number-preserved : goal.loop-number-preserved
loop-number-preserved c =
    let n = counts_of c.args.axes.now in let box = c.args.taken.now in let k : ℕ = c.loop-number.number in let found = c.loop-number.extent in
    let rectangle = c.index.result.now in
    let more = λ (y : ℕ) (x : ℕ). sym (rectangle_more box k rectangle (omega arith) c.index.ensures y x) in
    subst (MatchPlane n (has_first box (k + 1))) (ap (λ e. Some e) (sym c.joined.ensures))
    (plane_same n (λ y x. has_first box k y x || has_place rectangle y x) (has_first box (k + 1)) (λ y x below inside. more y x) (Some (joined_extent found c.extent_of_rectangle-other.result))
    (plane_with n (has_first box k) (has_place rectangle) found c.extent_of_rectangle-other.result c.loop-number.invariant c.extent_of_rectangle-other.ensures))

pub returns : goal.returns
returns c =
    let n = counts_of c.args.axes.now in let box = c.args.taken.now in
    let all : length box.rectangles.items ≤ c.loop-number.number = omega arith in
    plane_same n (has_first box c.loop-number.number) (has_node box) (λ y x below inside. all_rectangles box c.loop-number.number y x all) c.loop-number.extent c.loop-number.invariant
