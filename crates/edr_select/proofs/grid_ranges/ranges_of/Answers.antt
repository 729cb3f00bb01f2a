use Rattle.std.proofs.Common.{◌≡◌, ◌∙◌, ◌-◌, ap, ap₂, rules, List, take, drop, max, int_lt, int_le, count_by, ℤ, to_z, of_z, w64}
use Rattle.edr_select.proofs.MaskReach.{rows_lie, columns_lie, no_columns}
use Rattle.edr_select.proofs.grid_ranges.ranges_of.Goals as goal

pub returns-then-left-right : goal.returns-then-left-right
returns-then-left-right c =
    let i = c.args.instance.now in let reach = c.reach_of-reach.result in
    let left : to_z w64 (of_z w64 reach.left) ≡ reach.left = search rules in
    let right : to_z w64 (of_z w64 reach.right) ≡ reach.right = search rules in
    let split = c.bounds_split_axes.ensures in
    let ascends = c.requires.instance.xs.ascending.ascending in
    no_columns i c.args.shape.now reach c.requires.area c.reach_of-reach.ensures (split i.xs reach.left ascends) (split i.xs reach.right ascends) c.range-left.result.0 c.range-left.result.1
    (c.range-left.ensures.first ∙ ap₂ (λ (b : ℤ) (vs : List ℤ). count_by (λ v. int_lt v b) vs) left c.xs.ensures)
    (c.range-left.ensures.end ∙ ap₂ (λ (b : ℤ) (vs : List ℤ). max c.range-left.result.0 (count_by (λ v. int_le v b) vs)) right c.xs.ensures)
    c.if-left-right.true

pub returns : goal.returns
returns c =
    let i = c.args.instance.now in let reach = c.reach_of-reach.result in
    let left : to_z w64 (of_z w64 reach.left) ≡ reach.left = search rules in
    let right : to_z w64 (of_z w64 reach.right) ≡ reach.right = search rules in
    let low : to_z w64 (of_z w64 reach.low) ≡ reach.low = search rules in
    let high : to_z w64 (of_z w64 reach.high) ≡ reach.high = search rules in
    let split = c.bounds_split_axes.ensures in
    let down = c.requires.instance.ys.ascending.ascending in
    let across = c.requires.instance.xs.ascending.ascending in (
      rows_lie i c.args.shape.now reach c.requires.area c.reach_of-reach.ensures (split i.ys reach.low down) (split i.ys reach.high down) c.range-from.result.0 c.range-from.result.1
          (c.range-from.ensures.first ∙ ap₂ (λ (b : ℤ) (vs : List ℤ). count_by (λ v. int_lt v b) vs) low c.ys.ensures)
          (c.range-from.ensures.end ∙ ap₂ (λ (b : ℤ) (vs : List ℤ). max c.range-from.result.0 (count_by (λ v. int_le v b) vs)) high c.ys.ensures),
      columns_lie i c.args.shape.now reach c.requires.area c.reach_of-reach.ensures (split i.xs reach.left across) (split i.xs reach.right across) c.range-left.result.0 c.range-left.result.1
          (c.range-left.ensures.first ∙ ap₂ (λ (b : ℤ) (vs : List ℤ). count_by (λ v. int_lt v b) vs) left c.xs.ensures)
          (c.range-left.ensures.end ∙ ap₂ (λ (b : ℤ) (vs : List ℤ). max c.range-left.result.0 (count_by (λ v. int_le v b) vs)) right c.xs.ensures)
          c.in_ok-xs.xs
          (c.in_ok-xs.ensures ∙ ap (λ (vs : List ℤ). take (c.range-left.result.1 - c.range-left.result.0) (drop c.range-left.result.0 vs)) c.xs-2.ensures),
    )
