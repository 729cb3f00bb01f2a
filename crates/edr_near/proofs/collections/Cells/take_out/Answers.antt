use Rattle.std.proofs.Common.{◌≡◌, false, Some, option_map, sym, ap, ap₂, ◌∙◌, subst}
use Rattle.std.specs.Prelude.{◌↔◌}
use Rattle.edr_ids.specs.Ids.{item_of, with_item, without_id}
use Rattle.edr_near.specs.Squares.{strip_of}
use Rattle.edr_near.specs.Near.{is_it}
use Rattle.edr_near.specs.Cells.{key_of, cell_key, AreCells, Has}
use Rattle.edr_near.specs.Kept.{IsWithout}
use Rattle.edr_near.proofs.Puts.{on_ok, either_way}
use Rattle.edr_near.proofs.TakenOut.{without_has, without_cells, changed_has, changed_cells}
use Rattle.edr_near.proofs.collections.Cells.take_out.Goals as goal

pub invariant_of-self : goal.invariant_of-self
invariant_of-self g c =
    let spot_of = g.T.Placed.spot_of in
    let id_of = g.T.Identified.id_of in
    let inside = c.self.inside.cells in
    let key_is = c.key_of-key.ensures ∙ ap₂ key_of c.square_of.ensures.column c.square_of.ensures.row in
    let some : item_of cell_key (key_of (strip_of c.args.spot.x) (strip_of c.args.spot.y)) inside ≡ Some c.in-Some.cell.now =
    ap (λ k. item_of cell_key k inside) (sym key_is) ∙ (sym c.item_of.ensures ∙ ap (option_map (λ item. item.now)) c.in-Some.is) in
    let left = subst (IsWithout id_of spot_of c.args.spot c.args.id.now c.in-Some.cell.now) c.in-Some-left.is c.in_ok-left-in-Some.ensures in
    let new = changed_cells id_of spot_of c.args.spot c.args.id.now inside c.self.invariant c.items_are_by_id.ensures c.in-Some.cell.now some c.in-Some-left.cell left.0 left.1 left.2 in
    either_way (AreCells spot_of) c.put.new.self (with_item cell_key c.in-Some-left.cell inside) inside c.put.result c.put.ensures.put c.put.ensures.kept new c.self.invariant

pub invariant_of-self-in-None-left : goal.invariant_of-self-in-None-left
invariant_of-self-in-None-left g c =
    let spot_of = g.T.Placed.spot_of in
    let id_of = g.T.Identified.id_of in
    let inside = c.self.inside.cells in
    let key_is = c.key_of-key.ensures ∙ ap₂ key_of c.square_of.ensures.column c.square_of.ensures.row in
    let some : item_of cell_key (key_of (strip_of c.args.spot.x) (strip_of c.args.spot.y)) inside ≡ Some c.in-Some.cell.now =
    ap (λ k. item_of cell_key k inside) (sym key_is) ∙ (sym c.item_of.ensures ∙ ap (option_map (λ item. item.now)) c.in-Some.is) in
    let left = subst (IsWithout id_of spot_of c.args.spot c.args.id.now c.in-Some.cell.now) c.in-None-left.is c.in_ok-left-in-Some.ensures in
    let is = c.in_ok-take_out-in-None-left.ensures.without ∙ ap (λ k. without_id cell_key k inside) key_is in
    subst (AreCells spot_of) (sym is) (without_cells id_of spot_of c.args.spot c.args.id.now inside c.self.invariant c.items_are_by_id.ensures c.in-Some.cell.now some left)

pub returns-in-Some-left-clause-others : goal.returns-in-Some-left-clause-others
returns-in-Some-left-clause-others g c =
    let spot_of = g.T.Placed.spot_of in
    let id_of = g.T.Identified.id_of in
    let inside = c.self.inside.cells in
    let cells = c.args.self.now in
    let key_is = c.key_of-key.ensures ∙ ap₂ key_of c.square_of.ensures.column c.square_of.ensures.row in
    let some : item_of cell_key (key_of (strip_of c.args.spot.x) (strip_of c.args.spot.y)) inside ≡ Some c.in-Some.cell.now =
    ap (λ k. item_of cell_key k inside) (sym key_is) ∙ (sym c.item_of.ensures ∙ ap (option_map (λ item. item.now)) c.in-Some.is) in
    let left = subst (IsWithout id_of spot_of c.args.spot c.args.id.now c.in-Some.cell.now) c.in-Some-left.is c.in_ok-left-in-Some.ensures in
    on_ok c.put.result c.put.ensures.put
    (λ is v. subst (λ l. Has c.put.new.self v ↔ (Has l v × (is_it id_of spot_of c.args.spot c.args.id.now v ≡ false))) c.self.view_is
    (subst (λ l. Has l v ↔ (Has inside v × (is_it id_of spot_of c.args.spot c.args.id.now v ≡ false))) (sym is)
    (changed_has id_of spot_of c.args.spot c.args.id.now inside c.self.invariant c.items_are_by_id.ensures c.in-Some.cell.now some c.in-Some-left.cell left.0 left.1 left.2 v)))

pub returns-in_ok-take_out-in-None-left-clause-others : goal.returns-in_ok-take_out-in-None-left-clause-others
returns-in_ok-take_out-in-None-left-clause-others g c v =
    let spot_of = g.T.Placed.spot_of in
    let id_of = g.T.Identified.id_of in
    let inside = c.self.inside.cells in
    let key_is = c.key_of-key.ensures ∙ ap₂ key_of c.square_of.ensures.column c.square_of.ensures.row in
    let some : item_of cell_key (key_of (strip_of c.args.spot.x) (strip_of c.args.spot.y)) inside ≡ Some c.in-Some.cell.now =
    ap (λ k. item_of cell_key k inside) (sym key_is) ∙ (sym c.item_of.ensures ∙ ap (option_map (λ item. item.now)) c.in-Some.is) in
    let left = subst (IsWithout id_of spot_of c.args.spot c.args.id.now c.in-Some.cell.now) c.in-None-left.is c.in_ok-left-in-Some.ensures in
    let is = c.in_ok-take_out-in-None-left.ensures.without ∙ ap (λ k. without_id cell_key k inside) key_is in
    subst (λ l. Has c.take_out.new.self v ↔ (Has l v × (is_it id_of spot_of c.args.spot c.args.id.now v ≡ false))) c.self.view_is
    (subst (λ l. Has l v ↔ (Has inside v × (is_it id_of spot_of c.args.spot c.args.id.now v ≡ false))) (sym is)
    (without_has id_of spot_of c.args.spot c.args.id.now inside c.self.invariant c.items_are_by_id.ensures c.in-Some.cell.now some left v))
