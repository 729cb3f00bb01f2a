use Rattle.std.proofs.Common.{◌≡◌, [], take}
use Rattle.edr_ids.specs.Ids.{without_id}
use Rattle.edr_station.specs.Stations.{station_id}
use Rattle.edr_edition.proofs.collections.other_than.Given as goal

-- no station so far has another id
abbrev pub invariant-loop-place : goal.invariant-loop-place
invariant-loop-place l = without_id station_id l.id (take l.place l.stations.stations) ≡ []
