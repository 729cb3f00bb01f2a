use Rattle.std.proofs.Common.{◌≡◌, drop}
use Rattle.edr_samples.specs.Trees.{items_view}
use Rattle.covjson_domains.specs.TupleAnswers as tuples
use Rattle.covjson_domains.proofs.tuples.value_of.Given as goal

-- the value is among the rest
abbrev pub invariant-loop-place : goal.invariant-loop-place
invariant-loop-place l =
    tuples.value_of l.name (drop l.place l.names) (items_view (drop l.place l.items.items)) ≡ tuples.value_of l.name l.names (items_view l.items.items)
