use Rattle.std.proofs.Common.{◌≡◌, ◌+◌, drop}
use Rattle.edr_samples.specs.Trees.{items_view}
use Rattle.covjson_checks.specs.Places.{failing_place}
use Rattle.covjson_domains.specs.TupleAnswers.{is_within_limits}
use Rattle.covjson_domains.proofs.tuples.place_beyond.Given as goal

-- the place among the rest, behind those that were passed, is that among all
abbrev pub invariant-loop-place : goal.invariant-loop-place
invariant-loop-place l =
    l.place + failing_place (is_within_limits l.names) (items_view (drop l.place l.items.items)) ≡ failing_place (is_within_limits l.names) (items_view l.items.items)
