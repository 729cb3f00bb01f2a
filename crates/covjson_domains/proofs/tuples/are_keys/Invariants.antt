use Rattle.std.proofs.Common.{◌≡◌, length, drop}
use Rattle.edr_samples.specs.Trees.{items_view}
use Rattle.covjson_domains.specs.TupleAnswers as tuples
use Rattle.covjson_domains.proofs.tuples.are_keys.Given as goal

-- the rest are keys where all are
abbrev pub invariant-loop-place : goal.invariant-loop-place
invariant-loop-place l = record {
  as_many : length l.items.items ≡ length l.names;
  rest : tuples.are_keys (drop l.place l.names) (items_view (drop l.place l.items.items)) ≡ tuples.are_keys l.names (items_view l.items.items);
}
