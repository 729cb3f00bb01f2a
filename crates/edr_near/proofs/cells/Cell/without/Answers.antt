use Rattle.std.proofs.Common.{ap, subst}
use Rattle.edr_near.specs.Cells.{cell_key}
use Rattle.edr_near.specs.Kept.{items_in, IsLeft}
use Rattle.edr_near.proofs.cells.Cell.without.Goals as goal

pub returns : goal.returns
returns g c =
    let left_of = IsLeft g.T.Identified.id_of g.T.Placed.spot_of c.args.spot.now c.args.id.now in
    let left = subst (λ l. left_of c.self.inside.items (items_in l)) c.in-Some.is c.in_ok-items.ensures in
    (ap cell_key c.self.view_is, c.stand.ensures, subst (λ l. left_of l c.in-Some.items) (ap (λ v. v.items) c.self.view_is) left)
