use Rattle.std.proofs.Common.{◌≡◌, length, drop, map}
use Rattle.serde_json.specs.View.{items_of}
use Rattle.edr_samples.specs.Tokens.{sample_data}
use Rattle.covjson_ranges.specs.Ranges.{length_of}
use Rattle.covjson_ranges.specs.RangeAnswers.{lengths_are}
use Rattle.covjson_ranges.proofs.ranges.need_sample_lengths.Given as goal

-- the answer of the rest is that of all
abbrev pub invariant-loop-place : goal.invariant-loop-place
invariant-loop-place l = record {
  as_many : length l.samples ≡ length l.names;
  answer : lengths_are (map (length_of l.domain) (drop l.place l.names)) (items_of (map sample_data (drop l.place l.samples)))
      ≡ lengths_are (map (length_of l.domain) l.names) (items_of (map sample_data l.samples));
}
