use Rattle.std.proofs.Common.{◌≡◌, length, drop, map}
use Rattle.edr_samples.specs.Trees.{items_view}
use Rattle.covjson_ranges.specs.Ranges.{length_of}
use Rattle.covjson_ranges.specs.RangeAnswers.{lengths_are}
use Rattle.covjson_ranges.proofs.ranges.need_lengths.Given as goal

-- the answer of the rest is that of all
abbrev pub invariant-loop-place : goal.invariant-loop-place
invariant-loop-place l = record {
  as_many : length l.items.items ≡ length l.names;
  answer : lengths_are (map (length_of l.domain) (drop l.place l.names)) (items_view (drop l.place l.items.items))
      ≡ lengths_are (map (length_of l.domain) l.names) (items_view l.items.items);
}
