use Rattle.covjson_value.proofs.PlainCoverages.{coverage_within}
use Rattle.covjson_value.proofs.laws.coverages_are_plain.Goals as goal

pub returns : goal.returns
returns c = λ coverage valid.
    let within = coverage_within c.times_are_written.ensures coverage valid in
    (within.plain, within.shallow)
