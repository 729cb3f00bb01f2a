use Rattle.std.proofs.Common.{◌≡◌, take, map}
use Rattle.serde_json.specs.View.{view}
use Rattle.covjson_value.specs.Trees.{sample_data}
use Rattle.covjson_value.proofs.leaves.put_samples.Given as goal

abbrev pub invariant-loop-sample : goal.invariant-loop-sample
invariant-loop-sample l = map view l.items.items ≡ map sample_data (take l.sample-index l.samples)
