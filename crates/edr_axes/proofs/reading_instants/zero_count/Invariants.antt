use Rattle.std.proofs.Common.{length, ◌-◌, ◌≡◌, ◌≤◌, All, take}
use Rattle.edr_axes.proofs.reading_instants.zero_count.Given as goal

abbrev pub invariant-loop-count : goal.invariant-loop-count
invariant-loop-count l = (l.count ≤ length l.text) × All (λ byte. byte ≡ 48) (take l.count l.text)

abbrev pub decreases-loop-count : goal.decreases-loop-count
decreases-loop-count l = length l.text - l.count
