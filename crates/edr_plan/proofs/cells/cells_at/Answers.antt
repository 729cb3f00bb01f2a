use Rattle.std.proofs.Common.{◌∙◌, Some, ap, map}
use Rattle.edr_plan.specs.StationPlaces.{ChoiceValue, cell_of}
use Rattle.edr_plan.proofs.StationCells.{row_added}
use Rattle.edr_plan.proofs.cells.cells_at.Goals as goal

pub loop-time-preserved : goal.loop-time-preserved
loop-time-preserved c =
    row_added (λ t levels. map (λ z. Some (cell_of c.args.station.now t z)) levels) c.args.choice.now.times c.args.choice.now.levels c.deref-time-items.result.now c.deref.result.now
    c.loop-time.time-index 0 c.loop-time.cells.items c.push_levels.new.cells.items
    (c.deref-time-items.ensures.value ∙ ap (λ (choice : ChoiceValue). choice.times) c.choice.view_is) (c.deref.ensures.value ∙ ap (λ (choice : ChoiceValue). choice.levels) c.choice.view_is)
    c.loop-time-test.true c.loop-time.invariant c.in_ok-push_levels.ensures
