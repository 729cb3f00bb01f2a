use Rattle.std.proofs.Common.{◌≡◌, ℕ, ◌<◌, true, false, Some}
use Rattle.edr_geometry.specs.Masks.{spot_at}
use Rattle.edr_corridor.specs.Segments.{at_segment, segment_takes}
use Rattle.edr_corridor.proofs.segments.Segments.wants.Given as goal

abbrev pub invariant-loop-number : goal.invariant-loop-number
invariant-loop-number l = (k : ℕ) → k < l.number → at_segment (segment_takes l.self true true (Some l.fn.t) l.fn.z (spot_at l.fn.y l.fn.x)) l.self.line k ≡ false
