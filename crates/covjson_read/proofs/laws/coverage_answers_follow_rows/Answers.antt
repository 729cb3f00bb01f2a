use Rattle.covjson_read.proofs.CollectedLaws.{RangesAnswered}
use Rattle.covjson_read.proofs.CoverageLaws.{PartsAnswered, coverage_rows}
use Rattle.covjson_read.proofs.laws.coverage_answers_follow_rows.Goals as goal

pub returns : goal.returns
returns c =
    let ranges : RangesAnswered = record { one = c.range_rows_have_one_answer.ensures; follow = c.range_answers_follow_rows.ensures } in
    let parts : PartsAnswered = record { domains_one = c.domain_rows_have_one_answer.ensures; domains_follow = c.domain_answers_follow_rows.ensures; ranges = ranges } in
    λ collection tree. (coverage_rows parts collection tree).follows
