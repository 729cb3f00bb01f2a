use Rattle.std.proofs.Common.{◌≡◌, take}
use Rattle.edr_station.proofs.station.packed.Given as goal

abbrev pub invariant-loop-values : goal.invariant-loop-values
invariant-loop-values l = l.packed.items ≡ take l.values-index l.series
