use Rattle.edr_near.proofs.LookLists.{looked}
use Rattle.edr_near.proofs.collections.Cells.nearest.Goals as goal

pub returns-clause-looks : goal.returns-clause-looks
returns-clause-looks g c =
    looked g.T.Identified.id_of g.T.Placed.spot_of c.args.spot c.args.self.now c.in_ok-found.found c.search.new.numbers.items c.of.result c.of.ensures.same c.of.ensures.ascending c.in_ok-found.ensures
