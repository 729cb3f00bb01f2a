use Rattle.std.proofs.Common.{subst}
use Rattle.edr_station.specs.Least.{HaveOwnIds}
use Rattle.edr_station.proofs.stations.Stations.of.Goals as goal

pub stations_of-requires-clause-once : goal.stations_of-requires-clause-once
stations_of-requires-clause-once c = subst HaveOwnIds c.deref.ensures.value c.in_ok-find_fault.ensures.once
