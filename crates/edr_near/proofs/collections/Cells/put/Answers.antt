use Rattle.std.proofs.Common.{◌≡◌, ◌⊎◌, sym, ap, ◌∙◌, subst}
use Rattle.std.specs.Prelude.{◌↔◌}
use Rattle.std.specs.Arc.{arc_value}
use Rattle.edr_ids.specs.Ids.{with_item}
use Rattle.edr_near.specs.Squares.{strip_of}
use Rattle.edr_near.specs.Cells.{cell_key, IsIn, AreCells, Has}
use Rattle.edr_near.proofs.Puts.{on_ok, either_way, put_has, are_cells}
use Rattle.edr_near.proofs.collections.Cells.put.Goals as goal

pub returns-clause-put : goal.returns-clause-put
returns-clause-put g c =
    let spot_of = g.T.Placed.spot_of in
    let cells = c.args.self.now in
    let cell = c.in_ok-cell.cell in
    let item = arc_value c.args.item.now in
    let square = c.square_of-square.result in
    let are : AreCells spot_of cells = subst (AreCells spot_of) c.self.view_is c.self.invariant in
    on_ok c.put.result c.put.ensures.put
    (λ is v. subst (λ l. Has l v ↔ ((v ≡ item) ⊎ Has cells v)) (sym (is ∙ ap (with_item cell_key cell) c.self.view_is))
    (put_has spot_of cells are c.items_are_by_id.ensures square.column square.row item cell c.in_ok-cell.ensures v))

pub invariant_of-self : goal.invariant_of-self
invariant_of-self g c =
    let spot_of = g.T.Placed.spot_of in
    let cells = c.args.self.now in
    let cell = c.in_ok-cell.cell in
    let item = arc_value c.args.item.now in
    let square = c.square_of-square.result in
    let spot = c.spot.ensures.spot in
    let here = c.deref.ensures in
    let are : AreCells spot_of cells = subst (AreCells spot_of) c.self.view_is c.self.invariant in
    let inside : IsIn spot_of square.column square.row c.deref.result.now = record {
      spot = c.spot.ensures.within;
      along = sym (c.square_of-square.ensures.column ∙ ap (λ s. strip_of s.x) spot);
      across = sym (c.square_of-square.ensures.row ∙ ap (λ s. strip_of s.y) spot);
    } in
    let stands : IsIn spot_of square.column square.row item = subst (IsIn spot_of square.column square.row) here inside in
    let new = are_cells spot_of cells are c.items_are_by_id.ensures square.column square.row item cell c.in_ok-cell.ensures c.square_of-square.ensures.column_in c.square_of-square.ensures.row_in stands in
    either_way (AreCells spot_of) c.put.new.self (with_item cell_key cell c.self.inside.cells) c.self.inside.cells c.put.result c.put.ensures.put c.put.ensures.kept
    (subst (λ l. AreCells spot_of (with_item cell_key cell l)) (sym c.self.view_is) new) c.self.invariant
