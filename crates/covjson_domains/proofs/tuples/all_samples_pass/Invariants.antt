use Rattle.std.proofs.Common.{◌≡◌, length, drop, map}
use Rattle.serde_json.specs.View.{items_of}
use Rattle.edr_samples.specs.Tokens.{sample_data}
use Rattle.covjson_domains.specs.TupleAnswers as tuples
use Rattle.covjson_domains.proofs.tuples.all_samples_pass.Given as goal

-- the rest pass where all do
abbrev pub invariant-loop-place : goal.invariant-loop-place
invariant-loop-place l = record {
  as_many : length l.samples ≡ length l.names;
  rest : tuples.all_pass l.test (drop l.place l.names) (items_of (map sample_data (drop l.place l.samples))) ≡ tuples.all_pass l.test l.names (items_of (map sample_data l.samples));
}
