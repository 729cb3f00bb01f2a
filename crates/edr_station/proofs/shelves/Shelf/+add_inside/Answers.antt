use Rattle.std.proofs.Common.{ℕ, ◌+◌, ◌++◌, sym, ap, ◌∙◌, List, length, append_assoc}
use Rattle.edr_station.specs.Boxes.{places_from}
use Rattle.edr_station.proofs.BoxLists.{places-append}
use Rattle.edr_station.proofs.ForkLists.{at_fork, on_ok_is}
use Rattle.edr_station.proofs.shelves.Shelf.+add_inside.Goals as goal

pub returns-in_ok-add_inside-in-Sides : goal.returns-in_ok-add_inside-in-Sides
returns-in_ok-add_inside-in-Sides t c =
    let fork = c.deref-fork.result.now in
    let at = at_fork c.args.self.now c.self.inside.top c.in-Sides.fork fork c.self.view_is c.in-Sides.is c.deref-fork.ensures c.self.invariant in
    let first = c.args.first in
    let lo = c.args.lo in
    let hi = c.args.hi in
    let had = c.args.places.now.items in
    let front = places_from first lo hi fork.before in
    let back = places_from (first + length fork.before) lo hi fork.behind in
    on_ok_is c.add_inside-in-Sides-2.result c.add_inside-in-Sides-2.ensures
    (λ more.
    more
    ∙ (ap (λ (l : List ℕ). l ++ places_from (first + c.len.result) lo hi fork.behind) c.in_ok-add_inside-in-Sides.ensures
    ∙ (ap (λ (n : ℕ). (had ++ front) ++ places_from (first + n) lo hi fork.behind) c.len.ensures.len
    ∙ (append_assoc had front back
    ∙ ap (λ (l : List ℕ). had ++ l) (sym (ap (places_from first lo hi) at.is ∙ places-append first lo hi fork.before fork.behind))))))
