use Rattle.std.proofs.Common.{◌≡◌, ◌-◌, min, length, ap, ◌∙◌, arith}
use Rattle.std.proofs.lemmas.Result.{IfOk-weaker}
use Rattle.edr_edition.specs.Shelves.{SteppedValue, edition_after}
use Rattle.edr_edition.proofs.ShelfLaws.{answered_at}
use Rattle.edr_edition.proofs.shelves.SteppedShelf.next.Goals as goal
use goal.{then-self-last, else-self-last}

pub returns : goal.returns
returns c =
    let editions = c.self.inside.editions.items in
    let place = c.if-self-last.place in
    let is : place ≡ min c.self.inside.answered (length editions - 1) =
    elim c.if-self-last.branch [
      | then-self-last w ↦ omega (arith, w.place-is, w.if-self-last.true, c.len-last.ensures)
      | else-self-last w ↦ omega (arith, w.place-is, w.if-self-last.false, c.len-last.ensures)
    ] in
    let here = answered_at editions c.self.inside.answered _ c.index.result.now (omega (arith, is)) c.self.invariant.1 c.index.ensures in
    let is_next = here ∙ ap (λ (shelf : SteppedValue). edition_after shelf.answered shelf.editions) c.self.view_is in
    IfOk-weaker c.edition.result _ _ (λ found same. same ∙ is_next) c.edition.ensures
