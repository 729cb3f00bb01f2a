use Rattle.edr_import.proofs.LineLemmas.{HasStations}
use Rattle.edr_import.proofs.stations.stations_of.Given as goal

abbrev pub invariant-loop-place : goal.invariant-loop-place
invariant-loop-place l = HasStations l.observations l.names l.sites l.place l.stations.items
