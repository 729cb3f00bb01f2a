use Rattle.edr_import.specs.Times.{IsFirstOf}
use Rattle.edr_import.proofs.TimeLemmas.{IsRead}
use Rattle.std.proofs.Common.{ℕ, ◌-◌, length}
use Rattle.edr_import.proofs.times.times_of.Given as goal

abbrev pub invariant-loop-place : goal.invariant-loop-place
invariant-loop-place l = (first : ℕ) × IsFirstOf l.observations l.station first × IsRead l.observations l.station first l.place l.times.items

abbrev pub decreases-loop-place : goal.decreases-loop-place
decreases-loop-place l = length l.observations - l.place
