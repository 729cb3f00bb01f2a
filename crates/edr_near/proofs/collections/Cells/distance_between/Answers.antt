use Rattle.edr_near.proofs.Unread.{no_nearer}
use Rattle.edr_near.proofs.collections.Cells.distance_between.Goals as goal

pub returns : goal.returns
returns g c =
    let low = c.square_at.result in
    let high = c.square_at-2.result in
    no_nearer g.T.Placed.spot_of c.args.spot.now c.requires.spot c.args.self.now c.stand.ensures.cells c.args.low c.args.high c.distance_of_squares.result low.column low.row high.column high.row
    c.requires.order c.requires.inside c.square_at.ensures.column c.square_at.ensures.row c.square_at-2.ensures.column c.square_at-2.ensures.row c.distance_of_squares.ensures
