use Rattle.std.proofs.Common.{sym, subst}
use Rattle.edr_select.specs.Masks.{MaskValue, IsMaskBefore}
use Rattle.edr_select.proofs.MaskSteps.{whole}
use Rattle.edr_select.proofs.masks.mask_over.Goals as goal

pub returns : goal.returns
returns c =
    let i = c.args.instance.now in let shape = c.args.shape.now in let columns = c.args.columns.now in let before = c.mask-2.inside in
    let mask : MaskValue = record {
      row = before.row;
      rows = before.rows;
      column = before.column;
      columns = before.columns;
      left = before.left;
      width = before.width;
      bits = before.bits.items;
    } in
    let m : IsMaskBefore i shape columns c.args.end mask = subst (IsMaskBefore i shape columns c.args.end) (sym c.mask-2.view_is) c.in_ok-add_rows.ensures in
    whole i shape c.requires.area columns c.requires.columns c.args.end mask c.truncate.new.self.items m c.truncate.ensures.items c.requires.rows.behind
