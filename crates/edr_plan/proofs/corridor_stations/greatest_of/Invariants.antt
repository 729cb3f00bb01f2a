use Rattle.std.proofs.Common.{All, take}
use Rattle.edr_geometry.specs.Limits.{IsSpot}
use Rattle.edr_plan.specs.CorridorPlans.{IsBehind}
use Rattle.edr_plan.proofs.corridor_stations.greatest_of.Given as goal

abbrev pub invariant-loop-position : goal.invariant-loop-position
invariant-loop-position l = record {
  spot : IsSpot l.greatest;
  behind : All (IsBehind l.greatest) (take l.position-index l.line);
}
