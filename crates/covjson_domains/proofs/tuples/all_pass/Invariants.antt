use Rattle.std.proofs.Common.{◌≡◌, length, drop}
use Rattle.edr_samples.specs.Trees.{items_view}
use Rattle.covjson_domains.specs.TupleAnswers as tuples
use Rattle.covjson_domains.proofs.tuples.all_pass.Given as goal

-- the rest pass where all do
abbrev pub invariant-loop-place : goal.invariant-loop-place
invariant-loop-place l = record {
  as_many : length l.items.items ≡ length l.names;
  rest : tuples.all_pass l.test (drop l.place l.names) (items_view (drop l.place l.items.items)) ≡ tuples.all_pass l.test l.names (items_view l.items.items);
}
