use Rattle.covjson_read.proofs.CoverageLaws.{coverage_one}
use Rattle.covjson_read.proofs.laws.trees_stand_for_one.Goals as goal

pub returns : goal.returns
returns c = coverage_one c.coverage_rows_have_one_answer.ensures c.coverage_rows_are_what_stands.ensures
