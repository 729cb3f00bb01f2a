use Rattle.std.proofs.Common.{◌≡◌, ◌++◌, map, take}
use Rattle.edr_feed.specs.Written.{entries_text}
use Rattle.edr_import.specs.Imports.{station_entry}
use Rattle.edr_import.proofs.lines.push_stations.Given as goal

abbrev pub invariant-loop-station : goal.invariant-loop-station
invariant-loop-station l = l.text.items ≡ l.fn.text.items ++ entries_text (map station_entry (take l.station-index l.stations))
