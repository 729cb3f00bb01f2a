use Rattle.std.proofs.Common.{sym, ◌∙◌}
use Rattle.covjson_read.specs.SystemAnswers.{is_other_calendar}
use Rattle.covjson_read.proofs.ItemSteps.{first_found, first_later, first_nowhere}
use Rattle.covjson_read.proofs.systems.first_other_calendar.Goals as goal

pub returns-then-is_other_calendar : goal.returns-then-is_other_calendar
returns-then-is_other_calendar c =
    let items_is = c.deref-entry-items.ensures.value in
    first_found is_other_calendar c.args.entries.now.items c.loop-entry.entry-index _ c.loop-entry.invariant c.entry-item.result (rw items_is at c.loop-entry-test.true) (rw items_is at c.entry-item.is)
    (sym c.if-is_other_calendar.true ∙ c.is_other_calendar.ensures)

pub loop-entry-preserved : goal.loop-entry-preserved
loop-entry-preserved c =
    let items_is = c.deref-entry-items.ensures.value in
    first_later is_other_calendar c.args.entries.now.items c.loop-entry.entry-index _ c.loop-entry.invariant c.entry-item.result (rw items_is at c.loop-entry-test.true) (rw items_is at c.entry-item.is)
    (sym c.if-is_other_calendar.false ∙ c.is_other_calendar.ensures)

pub returns : goal.returns
returns c = first_nowhere is_other_calendar c.args.entries.now.items c.loop-entry.entry-index _ c.loop-entry.invariant (rw c.deref-entry-items.ensures.value at c.loop-entry-test.false)
