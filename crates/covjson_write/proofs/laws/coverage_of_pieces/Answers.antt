use Rattle.covjson_write.specs.PieceLaws.{coverage_parts}
use Rattle.covjson_write.proofs.laws.coverage_of_pieces.Goals as goal

pub returns : goal.returns
returns c = coverage_parts
