use Rattle.std.proofs.Common.{◌≡◌, ◌∙◌, ◌+◌, ◌<◌, ◌++◌, Bool, List, ap, sym, subst, length, arith}
use Rattle.edr_select.specs.Masks.{IsMaskBefore, bits_at}
use Rattle.edr_select.proofs.MaskSteps.{begins, some_row}
use Rattle.edr_select.proofs.MaskSizes.{row_few, columns_few}
use Rattle.edr_select.proofs.masks.first_row.Goals as goal

pub of_row-requires-clause-y_in : goal.of_row-requires-clause-y_in
of_row-requires-clause-y_in c = row_few c.args.instance.now c.requires.instance c.loop-y.y (omega arith)

pub of_row-requires-clause-last_in : goal.of_row-requires-clause-last_in
of_row-requires-clause-last_in c =
    let i = c.args.instance.now in
    let t = some_row i c.args.shape.now c.loop-y.y c.in_ok-ends.field-0 c.in-Some.ends c.in-Some.is c.in_ok-ends.ensures.found in
    omega (arith, t.last.inside, columns_few i c.requires.instance)

pub of_row-requires-clause-columns_in : goal.of_row-requires-clause-columns_in
of_row-requires-clause-columns_in c = omega (arith, c.requires.columns.inside, columns_few c.args.instance.now c.requires.instance)

pub returns-in-Some : goal.returns-in-Some
returns-in-Some c =
    let i = c.args.instance.now in let shape = c.args.shape.now in let columns = c.args.columns.now in let y = c.loop-y.y in
    let t = some_row i shape y c.in_ok-ends.field-0 c.in-Some.ends c.in-Some.is c.in_ok-ends.ensures.found in
    let inside : y < length i.ys = omega arith in
    let bits : c.add_row.new.bits.items ≡ bits_at i shape columns y = c.in_ok-ends.ensures.added ∙ ap (λ (l : List Bool). l ++ bits_at i shape columns y) c.loop-y.invariant.empty in
    subst (λ m. (m.row < c.args.end) × IsMaskBefore i shape columns (m.row + 1) m) (sym c.of_row.ensures)
    (c.loop-y-test.true, begins i shape c.requires.area columns c.requires.columns y c.in-Some.ends c.add_row.new.bits.items inside c.loop-y.invariant.none t bits)
