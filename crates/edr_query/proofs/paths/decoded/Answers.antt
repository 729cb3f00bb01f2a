use Rattle.edr_query.proofs.PlainLemmas.{kept_part}
use Rattle.edr_query.proofs.paths.decoded.Goals as goal

pub returns-then-lacks : goal.returns-then-lacks
returns-then-lacks c = kept_part c.args.raw.now (c.lacks.ensures c.if-lacks.true)
