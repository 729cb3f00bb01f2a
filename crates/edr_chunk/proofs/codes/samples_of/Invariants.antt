use Rattle.std.proofs.Common.{◌≡◌, map, take}
use Rattle.edr_chunk.proofs.codes.samples_of.Given as goal

abbrev pub invariant-loop-code : goal.invariant-loop-code
invariant-loop-code g l = l.values.items ≡ map (g.W.Width.sample l.floor) (take l.code-index l.codes)
