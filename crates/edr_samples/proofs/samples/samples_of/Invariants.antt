use Rattle.std.proofs.Common.{◌≡◌, map, take}
use Rattle.edr_samples.specs.Codes.{sample_of}
use Rattle.edr_samples.proofs.samples.samples_of.Given as goal

abbrev pub invariant-loop-code : goal.invariant-loop-code
invariant-loop-code l = l.found.items ≡ map sample_of (take l.code-index l.codes)
