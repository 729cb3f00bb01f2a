use Rattle.std.proofs.Common.{rules, ◌≡◌, List, [], ◌∷◌, ◌++◌, length, get_or, ap, ◌∙◌}
use Rattle.std.proofs.lemmas.List.{get_or_default}
use Rattle.edr_chunk.specs.declared.shapes.GridPlace.{GridPlace}
use Rattle.edr_send.specs.declared.slots.Slot.{Slot}
use Rattle.edr_select.specs.declared.plans.GridNode.{GridNode}
use Rattle.edr_select.specs.Listings.{place_at}
use Rattle.edr_send.specs.Filling.{slot_at}
use Rattle.edr_send.proofs.SlotLists.{slot_is, grew_one}
use Rattle.edr_send.proofs.slots.push_range.Goals as goal

pub loop-cell-preserved : goal.loop-cell-preserved
loop-cell-preserved c =
    let d : GridNode = record { t = 0; z = 0; y = 0; x = 0 } in
    let cell : GridNode = get_or c.args.cells.now c.loop-cell.cell-index d in
    let place : GridPlace = place_at c.args.parameter cell in
    let before : List Slot = c.loop-cell.slots.items in
    let long : c.len.result ≡ length before = search rules in
    let pushed : c.push.new.self.items ≡ before ++ slot_at c.args.shape (length before) place ∷ [] =
    c.in_ok-push.ensures.items ∙ ap (λ (s : Slot). before ++ s ∷ []) (slot_is c.args.shape (length before) place c.tile_number.result c.len.result c.place_of-place.result c.tile_number.ensures long c.place_of-place.ensures) in
    grew_one c.args.shape (place_at c.args.parameter) c.args.cells.now c.loop-cell.cell-index cell c.args.slots.now.items before c.push.new.self.items c.loop-cell-test.true
    (get_or_default c.args.cells.now c.loop-cell.cell-index d cell c.loop-cell-test.true) c.loop-cell.invariant pushed
