use Rattle.std.proofs.Common.{◌≡◌, drop, map}
use Rattle.serde_json.specs.View.{items_of}
use Rattle.edr_samples.specs.Tokens.{sample_data}
use Rattle.covjson_domains.specs.TupleAnswers as tuples
use Rattle.covjson_domains.proofs.tuples.sample_of.Given as goal

-- the value is among the rest
abbrev pub invariant-loop-place : goal.invariant-loop-place
invariant-loop-place l =
    tuples.value_of l.name (drop l.place l.names) (items_of (map sample_data (drop l.place l.samples))) ≡ tuples.value_of l.name l.names (items_of (map sample_data l.samples))
