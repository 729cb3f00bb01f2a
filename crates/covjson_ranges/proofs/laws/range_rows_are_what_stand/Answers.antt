use Rattle.covjson_ranges.proofs.RangeLaws.{are_what_stands}
use Rattle.covjson_ranges.proofs.laws.range_rows_are_what_stand.Goals as goal

pub returns : goal.returns
returns c = are_what_stands
