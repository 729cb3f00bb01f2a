use Rattle.std.proofs.Common.{sym, ◌∙◌}
use Rattle.edr_near.proofs.Nearest.{alone, second_nearer, first_nearer}
use Rattle.edr_near.proofs.placed.nearer_of.Goals as goal

pub returns-in-None : goal.returns-in-None
returns-in-None g c = rw c.in-None.is (alone g.T.Identified.id_of g.T.Placed.spot_of c.args.spot.now c.args.item.now)

pub returns-then-is_nearer : goal.returns-then-is_nearer
returns-then-is_nearer g c =
    rw c.in-Some.is (second_nearer g.T.Identified.id_of g.T.Placed.spot_of c.args.spot.now c.in-Some.best.now c.args.item.now (sym c.is_nearer.ensures ∙ c.if-is_nearer.true))

pub returns-else-is_nearer : goal.returns-else-is_nearer
returns-else-is_nearer g c =
    rw c.in-Some.is (first_nearer g.T.Identified.id_of g.T.Placed.spot_of c.args.spot.now c.in-Some.best.now c.args.item.now (sym c.is_nearer.ensures ∙ c.if-is_nearer.false))
