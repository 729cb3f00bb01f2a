use Rattle.std.proofs.Common.{ℕ, ◌*◌, ◌<◌, ◌^◌, ap, subst}
use Rattle.edr_chunk.specs.Tiles.{with_parameters}
use Rattle.edr_chunk.proofs.packers.with_one_more.Goals as goal

pub returns-in-Some-checked_mul-clause-more : goal.returns-in-Some-checked_mul-clause-more
returns-in-Some-checked_mul-clause-more c = ap (λ n. with_parameters c.args.shape n) c.in-Some.ensures.1

pub returns-in-Some-checked_mul-clause-fits : goal.returns-in-Some-checked_mul-clause-fits
returns-in-Some-checked_mul-clause-fits c = subst (λ (n : ℕ). c.in-Some.parameters * n < 2 ^ 64) c.nodes_of.ensures c.in-Some-checked_mul.ensures.0
