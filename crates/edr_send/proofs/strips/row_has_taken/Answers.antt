use Rattle.std.proofs.Common.{rules, ◌≡◌, ◌-◌, true, sym, arith}
use Rattle.edr_select.specs.Framings.{is_set}
use Rattle.edr_select.specs.ListLaws.{any_range}
use Rattle.edr_send.proofs.TakenTiles.{none_passes}
use Rattle.edr_send.proofs.strips.row_has_taken.Goals as goal

pub returns-then-bits-start : goal.returns-then-bits-start
returns-then-bits-start c =
    let is : is_set c.args.frame.now c.args.y c.loop-x.x ≡ true = search rules in
    sym (any_range (is_set c.args.frame.now c.args.y) c.args.left (c.args.right - c.args.left) c.loop-x.x (omega arith) (omega arith) is)

pub returns : goal.returns
returns c = sym (none_passes (is_set c.args.frame.now c.args.y) c.args.left (c.args.right - c.args.left) (λ k low high. c.loop-x.invariant k low (omega (arith, low, high))))
