use Rattle.std.proofs.Common.{◌≡◌, ◌++◌, map, get_or, None}
use Rattle.covjson_ranges.specs.Orders.{below, in_row}
use Rattle.covjson_ranges.proofs.orders.push_row.Given as goal

-- the values of the places that came before
abbrev pub invariant-loop-place : goal.invariant-loop-place
invariant-loop-place l =
    l.found.items ≡ l.initial.found.items ++ map (λ k. get_or l.values (in_row l.row l.first k) None) (below l.place)
