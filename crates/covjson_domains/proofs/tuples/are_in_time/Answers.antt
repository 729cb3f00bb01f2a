use Rattle.std.proofs.Common.{arith, sym, ◌∙◌}
use Rattle.covjson_domains.proofs.TupleLists.{ends_in_time}
use Rattle.covjson_domains.proofs.tuples.are_in_time.Goals as goal

pub returns : goal.returns
returns c = sym (ends_in_time c.args.positions.now c.loop-place.place (omega arith)) ∙ c.loop-place.invariant
