use Rattle.std.proofs.Common.{◌≡◌, drop}
use Rattle.edr_samples.specs.Trees.{items_view}
use Rattle.covjson_domains.specs.TupleAnswers as tuples
use Rattle.covjson_domains.proofs.tuples.tuples_pass.Given as goal

-- the rest pass where all do
abbrev pub invariant-loop-tuple : goal.invariant-loop-tuple
invariant-loop-tuple l =
    tuples.tuples_pass l.test l.names (items_view (drop l.tuple-index l.items.items)) ≡ tuples.tuples_pass l.test l.names (items_view l.items.items)
