use Rattle.covjson_ranges.proofs.RangeLaws.{answers_follow}
use Rattle.covjson_ranges.proofs.laws.range_answers_follow_rows.Goals as goal

pub returns : goal.returns
returns c = answers_follow
