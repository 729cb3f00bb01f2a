use Rattle.std.proofs.Common.{◌≡◌}
use Rattle.edr_make.specs.Made.{series_values}
use Rattle.edr_make.proofs.made_values.series_of.Given as goal

abbrev pub invariant-loop-time : goal.invariant-loop-time
invariant-loop-time l = l.values.items ≡ series_values l.number l.time l.station
