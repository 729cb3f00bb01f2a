use Rattle.covjson_read.proofs.CoverageLaws.{PartsStand, coverage_tells, coverage_passes}
use Rattle.covjson_read.proofs.laws.coverage_rows_are_what_stands.Goals as goal

pub returns : goal.returns
returns c =
    let parts : PartsStand = record { domains = c.domain_rows_are_what_stands.ensures; ranges = c.range_rows_are_what_stand.ensures } in
    λ collection tree coverage. (coverage_tells parts collection tree coverage, coverage_passes parts collection tree coverage)
