use Rattle.std.proofs.Common.{◌∙◌, ◌+◌, ◌<◌, sym, subst, length, arith}
use Rattle.edr_select.specs.Masks.{MaskValue, IsMaskBefore}
use Rattle.edr_select.proofs.MaskSteps.{grows, stays, some_row, no_row_found}
use Rattle.edr_select.proofs.MaskSizes.{row_few, columns_few}
use Rattle.edr_select.proofs.masks.add_rows.Goals as goal
use Rattle.edr_select.proofs.masks.add_rows.Goals.{in-Some, in_default}

pub reach_row-requires-clause-y_in : goal.reach_row-requires-clause-y_in
reach_row-requires-clause-y_in c = row_few c.args.instance.now c.requires.instance c.loop-y.y (omega arith)

pub reach_row-requires-clause-last_in : goal.reach_row-requires-clause-last_in
reach_row-requires-clause-last_in c =
    let i = c.args.instance.now in
    let t = some_row i c.args.shape.now c.loop-y.y c.in_ok-ends.field-0 c.in-Some.ends c.in-Some.is c.in_ok-ends.ensures.found in
    omega (arith, t.last.inside, columns_few i c.requires.instance)

pub reach_row-requires-clause-right_in : goal.reach_row-requires-clause-right_in
reach_row-requires-clause-right_in c =
    let i = c.args.instance.now in let before = c.mask.inside in
    let mask : MaskValue = record {
      row = before.row;
      rows = before.rows;
      column = before.column;
      columns = before.columns;
      left = before.left;
      width = before.width;
      bits = before.bits.items;
    } in
    let m : IsMaskBefore i c.args.shape.now c.args.columns.now c.loop-y.y mask = subst (IsMaskBefore i c.args.shape.now c.args.columns.now c.loop-y.y) (sym c.mask.view_is) c.loop-y.invariant in
    omega (arith, m.right, c.requires.columns.inside, columns_few i c.requires.instance)

pub loop-y-preserved : goal.loop-y-preserved
loop-y-preserved c =
    let i = c.args.instance.now in let shape = c.args.shape.now in let columns = c.args.columns.now in let y = c.loop-y.y in let before = c.mask.inside in
    let mask : MaskValue = record {
      row = before.row;
      rows = before.rows;
      column = before.column;
      columns = before.columns;
      left = before.left;
      width = before.width;
      bits = before.bits.items;
    } in
    let m : IsMaskBefore i shape columns y mask = subst (IsMaskBefore i shape columns y) (sym c.mask.view_is) c.loop-y.invariant in
    let inside : y < length i.ys = omega arith in
    let bits = c.add_row.new.bits.items in
    elim c.match-branch-2.branch [
      | in-Some w ↦ (let t = some_row i shape y c.in_ok-ends.field-0 w.in-Some.ends w.in-Some.is c.in_ok-ends.ensures.found in
          subst (IsMaskBefore i shape columns (y + 1)) (sym (w.mask-is ∙ w.reach_row.ensures))
          (grows i shape c.requires.area columns c.requires.columns y mask bits inside m c.in_ok-ends.ensures.added w.in-Some.ends t))
      | in_default w ↦ (let none = no_row_found i shape y c.in_ok-ends.field-0 w.in_default.is c.in_ok-ends.ensures.found in
          subst (IsMaskBefore i shape columns (y + 1)) (sym w.mask-is)
          (stays i shape c.requires.area columns c.requires.columns y mask bits inside m c.in_ok-ends.ensures.added none))
    ]
