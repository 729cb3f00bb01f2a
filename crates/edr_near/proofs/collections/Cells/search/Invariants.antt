use Rattle.std.proofs.Common.{option_map}
use Rattle.edr_near.specs.Cells.{distances}
use Rattle.edr_near.specs.Search.{Searched}
use Rattle.edr_near.proofs.Measures.{left_after}
use Rattle.edr_near.proofs.collections.Cells.search.Given as goal

abbrev pub invariant-loop-next : goal.invariant-loop-next
invariant-loop-next g l =
    Searched g.T.Identified.id_of g.T.Placed.spot_of l.spot l.self (distances l.spot l.self) l.last (option_map (λ b. b.now) l.best) l.numbers.items

abbrev pub decreases-loop-next : goal.decreases-loop-next
decreases-loop-next g l = left_after l.last
