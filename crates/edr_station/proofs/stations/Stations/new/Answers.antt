use Rattle.std.proofs.Common.{List, sym, subst}
use Rattle.edr_station.specs.Stations.{StationValue}
use Rattle.edr_station.specs.Places.{AreKept}
use Rattle.edr_station.proofs.CellsOf.{none_these}
use Rattle.edr_station.proofs.KeptStations.{none_kept}
use Rattle.edr_station.proofs.stations.Stations.new.Goals as goal

pub invariant_of-result : goal.invariant_of-result
invariant_of-result c = (
  subst (λ (l : List StationValue). AreKept (record { parameters = c.args.parameters; stations = l })) (sym c.empty.ensures) (none_kept c.args.parameters),
  none_these c.empty-2.result c.empty.result c.empty-2.ensures c.empty.ensures,
)
