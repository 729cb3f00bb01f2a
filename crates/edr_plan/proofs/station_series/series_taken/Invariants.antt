use Rattle.std.proofs.Common.{◌≡◌, length, take}
use Rattle.std.specs.List.{flat_map}
use Rattle.edr_plan.specs.StationPlans.{series_where_taken, IsGathered}
use Rattle.edr_plan.proofs.station_series.series_taken.Given as goal

abbrev pub invariant-loop-place : goal.invariant-loop-place
invariant-loop-place l = record {
  series : l.gathered.series ≡ flat_map (series_where_taken l.collection l.query) (take l.place-index l.places);
  gathered : IsGathered (length l.parameters) l.gathered;
}
