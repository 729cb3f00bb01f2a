use Rattle.covjson_ranges.proofs.ValidRanges as valid
use Rattle.covjson_ranges.proofs.laws.ranges_are_valid.Goals as goal

pub returns : goal.returns
returns c = valid.ranges_are_valid
