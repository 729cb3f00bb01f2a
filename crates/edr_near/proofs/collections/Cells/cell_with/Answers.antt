use Rattle.std.proofs.Common.{◌≡◌, None, Some, option_map, sym, ap, ◌∙◌}
use Rattle.std.specs.Arc.{arc_value}
use Rattle.edr_ids.specs.Ids.{item_of}
use Rattle.edr_near.specs.Cells.{key_of, cell_key}
use Rattle.edr_near.proofs.Puts.{new_is, had_is}
use Rattle.edr_near.proofs.collections.Cells.cell_with.Goals as goal

pub returns-in-None : goal.returns-in-None
returns-in-None g c =
    let cells = c.args.self.now in
    let key = key_of c.args.square.column c.args.square.row in
    let none : item_of cell_key key cells ≡ None =
    ap (λ k. item_of cell_key k cells) (sym c.key_of.ensures) ∙ (ap (item_of cell_key c.key_of.result) (sym c.self.view_is) ∙ (sym c.item_of.ensures ∙ ap (option_map (λ item. item.now)) c.in-None.is)) in
    new_is cells c.args.square.column c.args.square.row (arc_value c.args.item.now) c.of.result none c.of.ensures

pub returns-in-Some : goal.returns-in-Some
returns-in-Some g c =
    let cells = c.args.self.now in
    let key = key_of c.args.square.column c.args.square.row in
    let some : item_of cell_key key cells ≡ Some c.in-Some.cell.now =
    ap (λ k. item_of cell_key k cells) (sym c.key_of.ensures) ∙ (ap (item_of cell_key c.key_of.result) (sym c.self.view_is) ∙ (sym c.item_of.ensures ∙ ap (option_map (λ item. item.now)) c.in-Some.is)) in
    had_is cells c.args.square.column c.args.square.row (arc_value c.args.item.now) c.in-Some.cell.now c.with.result some c.with.ensures.key c.with.ensures.items
