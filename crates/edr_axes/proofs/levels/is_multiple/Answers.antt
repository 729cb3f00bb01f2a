use Rattle.edr_axes.proofs.SeriesLemmas.{multiple}
use Rattle.edr_axes.proofs.levels.is_multiple.Goals as goal

pub returns-then-distance-step-eq0 : goal.returns-then-distance-step-eq0
returns-then-distance-step-eq0 c = multiple c.args.distance c.args.step c.args.count c.requires c.if-distance-step-eq0.true
