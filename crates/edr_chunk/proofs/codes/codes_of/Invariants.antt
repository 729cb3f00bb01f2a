use Rattle.std.proofs.Common.{◌≡◌, map, take}
use Rattle.edr_chunk.proofs.codes.codes_of.Given as goal

abbrev pub invariant-loop-value : goal.invariant-loop-value
invariant-loop-value g l = map (g.W.Width.sample l.floor) l.codes.items ≡ take l.value-index l.values
