use Rattle.covjson_ranges.proofs.RangeLaws.{range_answers}
use Rattle.covjson_ranges.proofs.laws.ranges_are_what_stand.Goals as goal

pub returns : goal.returns
returns c = range_answers
