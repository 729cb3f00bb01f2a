use Rattle.std.proofs.Common.{◌≡◌}
use Rattle.edr_make.specs.Made.{row_values}
use Rattle.edr_make.proofs.made_values.fill_row.Given as goal

abbrev pub invariant-loop-column : goal.invariant-loop-column
invariant-loop-column l = l.values.items ≡ row_values l.number l.column l.row
