use Rattle.covjson_ranges.proofs.RangeLaws.{one_answer}
use Rattle.covjson_ranges.proofs.laws.range_rows_have_one_answer.Goals as goal

pub returns : goal.returns
returns c = one_answer
