use Rattle.std.proofs.Common.{◌-◌, ap, arith, take, List}
use Rattle.edr_station.specs.Stations.{StationValue}
use Rattle.edr_station.specs.Shelves.{blocks_in}
use Rattle.edr_station.proofs.SharedLists.{blocks_before-le}
use Rattle.edr_station.proofs.ForkLists.{at_fork, blocks_behind}
use Rattle.edr_station.proofs.shelves.Shelf.+blocks_before.Goals as goal

pub overflow_add-result : goal.overflow_add-result
overflow_add-result t c =
    let fork = c.deref-fork.result.now in
    let at = at_fork c.args.self.now c.self.inside.top c.in-Sides.fork fork c.self.view_is c.in-Sides.is c.deref-fork.ensures c.self.invariant in
    omega (arith, at.blocks_fit, c.blocks-else-place-before.ensures, c.blocks_before-else-place-before.ensures, blocks_before-le fork.behind (c.args.place - c.len-before.result))

pub returns-else-place-before : goal.returns-else-place-before
returns-else-place-before t c =
    let fork = c.deref-fork.result.now in
    let at = at_fork c.args.self.now c.self.inside.top c.in-Sides.fork fork c.self.view_is c.in-Sides.is c.deref-fork.ensures c.self.invariant in
    let whole = ap (λ (l : List StationValue). blocks_in (take c.args.place l)) at.is in
    omega (
      arith,
      whole,
      blocks_behind fork.before fork.behind c.len-before.result c.args.place c.len-before.ensures.len c.if-place-before.false,
      c.blocks-else-place-before.ensures,
      c.blocks_before-else-place-before.ensures,
    )
