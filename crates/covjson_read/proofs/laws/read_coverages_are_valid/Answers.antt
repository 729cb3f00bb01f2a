use Rattle.covjson_read.proofs.ReadValidity.{coverages_valid}
use Rattle.covjson_read.proofs.laws.read_coverages_are_valid.Goals as goal

pub returns : goal.returns
returns c = coverages_valid c.ranges_are_valid.ensures
