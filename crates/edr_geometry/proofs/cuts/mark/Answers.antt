use Rattle.std.proofs.Common.{rules}
use Rattle.edr_geometry.proofs.Filled.{filled}
use Rattle.edr_geometry.proofs.cuts.mark.Goals as goal

pub returns : goal.returns
returns c = filled c.args.range.0 c.args.range.1 c.args.mask.now c.fill.new.self c.requires.0 c.requires.1 (search rules)
