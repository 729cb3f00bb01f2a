use Rattle.std.proofs.Common.{rules, ◌≡◌, ◌-◌, true, sym, arith}
use Rattle.std.specs.List.{list_any, range_with_len}
use Rattle.edr_select.specs.Framings.{is_set}
use Rattle.edr_select.specs.ListLaws.{any_range}
use Rattle.edr_send.proofs.TakenTiles.{none_passes}
use Rattle.edr_send.proofs.strips.has_taken.Goals as goal

pub returns-then-row_has_taken : goal.returns-then-row_has_taken
returns-then-row_has_taken c =
    let is : list_any (is_set c.args.frame.now c.loop-y.y) (range_with_len c.args.left (c.args.right - c.args.left)) ≡ true = search rules in
    sym (any_range (λ y. list_any (is_set c.args.frame.now y) (range_with_len c.args.left (c.args.right - c.args.left))) c.args.from (c.args.to - c.args.from) c.loop-y.y (omega arith) (omega arith) is)

pub returns : goal.returns
returns c =
    sym (none_passes (λ y. list_any (is_set c.args.frame.now y) (range_with_len c.args.left (c.args.right - c.args.left))) c.args.from (c.args.to - c.args.from)
    (λ k low high. c.loop-y.invariant k low (omega (arith, low, high))))
