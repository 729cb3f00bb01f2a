use Rattle.edr_query.proofs.IdLemmas.{two_parts}
use Rattle.edr_query.proofs.paths.are_parts.Goals as goal

pub returns-then-is_part : goal.returns-then-is_part
returns-then-is_part c = two_parts c.is_part.result c.is_part-then-is_part.result c.args.one.now c.args.other.now c.if-is_part.true c.is_part.ensures c.is_part-then-is_part.ensures
