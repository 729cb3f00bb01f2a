use Rattle.std.proofs.Common.{◌≡◌, ◌++◌, take}
use Rattle.edr_station.specs.Shelves.{stations_of}
use Rattle.edr_station.proofs.pages.share_all.Given as goal

abbrev pub invariant-loop-station : goal.invariant-loop-station
invariant-loop-station l = stations_of l.shared.items ≡ stations_of l.initial.shared.items ++ take l.station-index (stations_of l.stations)
