use Rattle.std.proofs.Common.{◌≡◌, map, take}
use Rattle.edr_samples.specs.Codes.{sample_of}
use Rattle.edr_samples.specs.Tokens.{sample_data}
use Rattle.edr_samples.specs.Trees.{tree_view}
use Rattle.edr_samples.proofs.unpacking.unpacked.Given as goal

abbrev pub invariant-loop-code : goal.invariant-loop-code
invariant-loop-code l = map tree_view l.found.items ≡ map sample_data (map sample_of (take l.code-index l.codes))
