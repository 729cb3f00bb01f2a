use Rattle.covjson_checks.specs.RowLaws.{answer_is_one}
use Rattle.covjson_read.specs.Rows.{CoverageRows}
use Rattle.covjson_read.specs.CoverageAnswers.{coverage_in}
use Rattle.covjson_read.proofs.CollectedLaws.{RangesAnswered}
use Rattle.covjson_read.proofs.CoverageLaws.{PartsAnswered, coverage_rows}
use Rattle.covjson_read.proofs.laws.coverage_rows_have_one_answer.Goals as goal

pub returns : goal.returns
returns c =
    let ranges : RangesAnswered = record { one = c.range_rows_have_one_answer.ensures; follow = c.range_answers_follow_rows.ensures } in
    let parts : PartsAnswered = record { domains_one = c.domain_rows_have_one_answer.ensures; domains_follow = c.domain_answers_follow_rows.ensures; ranges = ranges } in
    λ collection tree. answer_is_one (CoverageRows collection tree) (coverage_in collection tree) (coverage_rows parts collection tree)
