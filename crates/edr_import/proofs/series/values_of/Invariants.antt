use Rattle.edr_import.proofs.ValueLemmas.{HasValues}
use Rattle.edr_import.proofs.series.values_of.Given as goal

abbrev pub invariant-loop-place : goal.invariant-loop-place
invariant-loop-place l = HasValues l.observations l.site l.parameter l.place l.values.items
