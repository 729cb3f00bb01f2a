use Rattle.std.proofs.Common.{take}
use Rattle.edr_base.specs.Limits.{IsSample}
use Rattle.edr_chunk.specs.Codes.{AreBetween}
use Rattle.edr_chunk.proofs.spans.span_of.Given as goal

abbrev pub invariant-loop-value : goal.invariant-loop-value
invariant-loop-value l = AreBetween l.span.least l.span.greatest (take l.value-index l.values) × IsSample l.span.least × IsSample l.span.greatest
