use Rattle.std.proofs.Common.{◌≡◌, take}
use Rattle.edr_station.specs.Tallies.{tally_of, and_of}
use Rattle.edr_feed.specs.Summaries.{series_of}
use Rattle.edr_feed.proofs.summaries.with_stations.Given as goal

abbrev pub invariant-loop-place : goal.invariant-loop-place
invariant-loop-place l = l.tally ≡ and_of l.fn.totals.tally (tally_of (series_of (take l.place l.stations.stations)))
