use Rattle.std.proofs.Common.{◌≡◌, ◌<◌, take}
use Rattle.edr_describe.specs.Extents.{coordinates_of_stations}
use Rattle.edr_describe.specs.Reaches.{reach_of, IsTimed}
use Rattle.edr_describe.proofs.reaches.Reach.of_some.Given as goal

-- the reach of the stations so far
abbrev pub invariant-loop-place : goal.invariant-loop-place
invariant-loop-place l = record {
  some : 0 < l.place;
  is : l.reach ≡ reach_of (coordinates_of_stations (take l.place l.stations.stations));
  timed : IsTimed l.reach;
}
