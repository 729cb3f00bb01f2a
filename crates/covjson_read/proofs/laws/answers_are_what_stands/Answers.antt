use Rattle.covjson_read.proofs.CoverageLaws.{answers_stand}
use Rattle.covjson_read.proofs.laws.answers_are_what_stands.Goals as goal

pub returns : goal.returns
returns c = answers_stand c.coverage_rows_have_one_answer.ensures c.coverage_answers_follow_rows.ensures c.coverage_rows_are_what_stands.ensures
