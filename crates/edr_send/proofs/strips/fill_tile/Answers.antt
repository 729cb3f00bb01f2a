use Rattle.std.proofs.Common.{rules, ◌≡◌, ◌-◌, ◌*◌, ℕ, subst, arith}
use Rattle.edr_send.proofs.StripValues.{RowFilled, rows_more}
use Rattle.edr_send.proofs.strips.fill_tile.Goals as goal

pub loop-y-preserved : goal.loop-y-preserved
loop-y-preserved c =
    let y : ℕ = c.loop-y.y in
    let columns : c.frame.inside.columns ≡ c.args.frame.now.columns = search rules in
    let row : RowFilled c.args.tile.now c.args.frame.now y c.args.left c.args.right ((y - c.args.from) * c.frame.inside.columns) c.loop-y.values c.fill_row.new.values =
    record { long = c.fill_row.ensures.long; here = c.fill_row.ensures.here; before = c.fill_row.ensures.before; behind = c.fill_row.ensures.behind } in
    rows_more c.args.tile.now c.args.frame.now c.args.from y c.args.left c.args.right c.args.values.now c.loop-y.values c.fill_row.new.values (omega arith) c.requires.columns.low c.requires.columns.order c.requires.columns.high
    c.loop-y.invariant
    (subst (λ (n : ℕ). RowFilled c.args.tile.now c.args.frame.now y c.args.left c.args.right ((y - c.args.from) * n) c.loop-y.values c.fill_row.new.values) columns row)
