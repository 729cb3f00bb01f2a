use Rattle.std.proofs.Common.{◌≡◌, map, drop}
use Rattle.edr_query.specs.Parameters.{value_of}
use Rattle.edr_query.specs.Named.{named}
use Rattle.edr_query.proofs.pairs.Parameters.get.Given as goal

-- none of those so far is the parameter's
abbrev pub invariant-loop-entry : goal.invariant-loop-entry
invariant-loop-entry l = value_of l.parameter (map named (drop l.entry-index l.entry-items)) ≡ value_of l.parameter (map named l.entry-items)
