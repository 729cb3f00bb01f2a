use Rattle.covjson_ranges.proofs.WrittenRanges.{ranges_written}
use Rattle.covjson_ranges.proofs.laws.written_ranges_stand.Goals as goal

pub returns : goal.returns
returns c = ranges_written
