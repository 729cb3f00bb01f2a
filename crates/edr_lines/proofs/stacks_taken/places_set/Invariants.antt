use Rattle.std.proofs.Common.{◌≡◌, get_or, false}
use Rattle.std.specs.List.{filter, range_with_len}
use Rattle.edr_lines.proofs.stacks_taken.places_set.Given as goal

abbrev pub invariant-loop-place : goal.invariant-loop-place
invariant-loop-place l = l.places.items ≡ filter (λ k. get_or l.set k false) (range_with_len 0 l.place)
