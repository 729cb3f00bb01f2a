use Rattle.std.proofs.Common.{◌≡◌, ◌*◌, map}
use Rattle.covjson_ranges.specs.Orders.{below, places_at, value_in_tree}
use Rattle.covjson_ranges.proofs.orders.arranged.Given as goal

-- the values of the rows that came before
abbrev pub invariant-loop-number : goal.invariant-loop-number
invariant-loop-number l =
    l.found.items ≡ map (λ k. value_in_tree l.domain l.turned l.names l.values (places_at l.domain k)) (below (l.number * l.row.length))
