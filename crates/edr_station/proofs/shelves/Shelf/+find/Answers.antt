use Rattle.std.proofs.Common.{ℕ, ◌+◌, ◌-◌, ◌≤◌, ◌++◌, sym, arith, subst, List, length}
use Rattle.edr_station.specs.Stations.{StationValue}
use Rattle.edr_station.specs.Shelves.{blocks_in, IsFound}
use Rattle.edr_station.proofs.ForkLists.{at_fork, found_behind}
use Rattle.edr_station.proofs.shelves.Shelf.+find.Goals as goal

pub overflow_add-result : goal.overflow_add-result
overflow_add-result t c =
    let fork = c.deref-fork.result.now in
    let at = at_fork c.args.self.now c.self.inside.top c.in-Sides.fork fork c.self.view_is c.in-Sides.is c.deref-fork.ensures c.self.invariant in
    omega (arith, at.len_fits, c.len.ensures.len, c.find-place.ensures.inside)

pub returns-else-number-blocks : goal.returns-else-number-blocks
returns-else-number-blocks t c =
    let fork = c.deref-fork.result.now in
    let at = at_fork c.args.self.now c.self.inside.top c.in-Sides.fork fork c.self.view_is c.in-Sides.is c.deref-fork.ensures c.self.invariant in
    let place = c.find-place.result.0 in
    let stand = c.find-place.result.1 in
    let le : blocks_in fork.before ≤ c.args.number = omega (arith, c.blocks-blocks.ensures, c.if-number-blocks.false) in
    let found : IsFound fork.behind (c.args.number - blocks_in fork.before) place stand =
    subst (λ (n : ℕ). IsFound fork.behind (c.args.number - n) place stand) c.blocks-blocks.ensures c.find-place.ensures in
    let whole = found_behind fork.before fork.behind c.args.number place stand le found in
    subst (λ (l : List StationValue). IsFound l c.args.number (c.len.result + place) (c.blocks-blocks.result + stand)) (sym at.is)
    (subst (λ (n : ℕ). IsFound (fork.before ++ fork.behind) c.args.number (n + place) (c.blocks-blocks.result + stand)) (sym c.len.ensures.len)
    (subst (λ (n : ℕ). IsFound (fork.before ++ fork.behind) c.args.number (length fork.before + place) (n + stand)) (sym c.blocks-blocks.ensures) whole))
