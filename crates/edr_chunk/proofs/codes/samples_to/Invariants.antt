use Rattle.std.proofs.Common.{◌≡◌, ◌+◌, ◌<◌, ℕ, length, map}
use Rattle.std.specs.Prelude.{None}
use Rattle.std.specs.List.{slice_index_or}
use Rattle.edr_chunk.proofs.codes.samples_to.Given as goal

abbrev pub invariant-loop-number : goal.invariant-loop-number
invariant-loop-number g l = (length l.into ≡ length l.fn.into) × ((k : ℕ) → k < l.number → slice_index_or l.into k None ≡ slice_index_or (map (g.W.Width.sample l.floor) l.codes) (l.place + k) None)
