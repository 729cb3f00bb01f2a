use Rattle.edr_import.proofs.ValueLemmas.{HasSeries}
use Rattle.edr_import.proofs.series.series_of.Given as goal

abbrev pub invariant-loop-place : goal.invariant-loop-place
invariant-loop-place l = HasSeries l.observations l.names l.site l.place l.ranges.items
