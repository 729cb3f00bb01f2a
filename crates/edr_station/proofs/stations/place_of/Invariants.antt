use Rattle.std.proofs.Common.{◌≤◌, ◌-◌, length}
use Rattle.edr_station.specs.Places.{AreBelow, AreAbove}
use Rattle.edr_station.proofs.stations.place_of.Given as goal

abbrev pub invariant-loop-low : goal.invariant-loop-low
invariant-loop-low l = (l.low ≤ l.high) × (l.high ≤ length l.shelf) × AreBelow l.id l.shelf l.low × AreAbove l.id l.shelf l.high

abbrev pub decreases-loop-low : goal.decreases-loop-low
decreases-loop-low l = l.high - l.low
