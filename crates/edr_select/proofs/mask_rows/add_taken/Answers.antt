use Rattle.std.proofs.Common.{◌≡◌, ◌∙◌, ◌<◌, ◌++◌, ℕ, Bool, List, false, length, get_or, map, ap, sym, subst, arith, rules}
use Rattle.std.proofs.lemmas.Bool.Decides.{nat_tests}
use Rattle.std.proofs.lemmas.Result.{on_ok_weaker}
use Rattle.edr_axes.specs.Axes.{value_at}
use Rattle.edr_select.specs.Masks.{takes_spot, ColumnsValue, LiesInColumns, AreTall, bits_at}
use Rattle.edr_select.proofs.MaskSizes.{columns_few}
use Rattle.edr_select.proofs.TallRows.{row_across, has_row}
use Rattle.edr_select.proofs.mask_rows.add_taken.Goals as goal

pub add_bits-requires-clause-few : goal.add_bits-requires-clause-few
add_bits-requires-clause-few c =
    let columns : ColumnsValue = record { left = c.columns.inside.left; xs = c.columns.inside.xs } in
    let lies : LiesInColumns c.args.instance.now c.args.shape.now columns = subst (LiesInColumns c.args.instance.now c.args.shape.now) (sym c.columns.view_is) c.requires.columns in
    omega (arith, lies.inside, columns_few c.args.instance.now c.requires.instance)

pub add_across-requires : goal.add_across-requires
add_across-requires c =
    let i = c.args.instance.now in let tall = c.args.tall.now in
    let some : 0 < length tall = (let none = c.is_empty.ensures in let is = c.if-is_empty.false in grind (arith, nat_tests)) in
    let are : AreTall i c.args.shape.now c.args.columns.now tall = c.requires.tall some in
    λ k d low. rw are (has_row (takes_spot c.args.shape.now) i.ys c.args.y c.requires.inside c.args.columns.now.xs k d (rw are at low))

pub returns : goal.returns
returns c =
    let i = c.args.instance.now in let tall = c.args.tall.now in let shape = c.args.shape.now in let columns = c.args.columns.now in let y = c.args.y in
    let some : 0 < length tall = (let none = c.is_empty.ensures in let is = c.if-is_empty.false in grind (arith, nat_tests)) in
    let are : AreTall i shape columns tall = c.requires.tall some in
    on_ok_weaker c.add_across.result
    (λ e. e ∙ ap (λ bs. c.args.bits.now.items ++ bs) (ap (map (λ (mask : List Bool). get_or mask y false)) are ∙ row_across (takes_spot shape) i.ys y c.requires.inside columns.xs)) c.add_across.ensures
