use Rattle.std.proofs.Common.{sym, ◌∙◌}
use Rattle.covjson_read.specs.SystemAnswers.{is_vertical}
use Rattle.covjson_read.proofs.ItemSteps.{first_found, first_later, first_nowhere}
use Rattle.covjson_read.proofs.systems.first_vertical.Goals as goal

pub returns-then-is_vertical : goal.returns-then-is_vertical
returns-then-is_vertical c =
    let items_is = c.deref-entry-items.ensures.value in
    first_found is_vertical c.args.entries.now.items c.loop-entry.entry-index _ c.loop-entry.invariant c.entry-item.result (rw items_is at c.loop-entry-test.true) (rw items_is at c.entry-item.is)
    (sym c.if-is_vertical.true ∙ c.is_vertical.ensures)

pub loop-entry-preserved : goal.loop-entry-preserved
loop-entry-preserved c =
    let items_is = c.deref-entry-items.ensures.value in
    first_later is_vertical c.args.entries.now.items c.loop-entry.entry-index _ c.loop-entry.invariant c.entry-item.result (rw items_is at c.loop-entry-test.true) (rw items_is at c.entry-item.is)
    (sym c.if-is_vertical.false ∙ c.is_vertical.ensures)

pub returns : goal.returns
returns c = first_nowhere is_vertical c.args.entries.now.items c.loop-entry.entry-index _ c.loop-entry.invariant (rw c.deref-entry-items.ensures.value at c.loop-entry-test.false)
