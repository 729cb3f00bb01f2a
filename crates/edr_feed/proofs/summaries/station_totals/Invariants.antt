use Rattle.std.proofs.Common.{◌≡◌, length, take}
use Rattle.edr_station.specs.Tallies.{tally_of}
use Rattle.edr_feed.specs.Summaries.{stations_of, series_of}
use Rattle.edr_feed.proofs.summaries.station_totals.Given as goal

abbrev pub invariant-loop-place : goal.invariant-loop-place
invariant-loop-place l =
    (l.totals.count ≡ length (stations_of (take l.place l.edition.collections)))
    × (l.totals.tally ≡ tally_of (series_of (stations_of (take l.place l.edition.collections))))
