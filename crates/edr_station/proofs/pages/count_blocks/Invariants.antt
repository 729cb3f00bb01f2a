use Rattle.std.proofs.Common.{◌≡◌, ◌<◌, take}
use Rattle.edr_station.specs.Shelves.{stations_of, blocks_in}
use Rattle.edr_station.proofs.pages.count_blocks.Given as goal

abbrev pub invariant-loop-station : goal.invariant-loop-station
invariant-loop-station l = (l.blocks ≡ blocks_in (take l.station-index (stations_of l.stations))) × (l.blocks < 18_446_744_073_709_551_616)
