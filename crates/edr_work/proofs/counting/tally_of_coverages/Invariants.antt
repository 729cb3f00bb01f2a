use Rattle.std.proofs.Common.{◌≡◌, [], take}
use Rattle.std.specs.List.{flat_map}
use Rattle.edr_station.specs.Tallies.{tally_of, and_of}
use Rattle.edr_work.specs.Lines.{coverage_values}
use Rattle.edr_work.proofs.counting.tally_of_coverages.Given as goal

abbrev pub invariant-loop-coverage : goal.invariant-loop-coverage
invariant-loop-coverage l = l.tally ≡ and_of (tally_of []) (tally_of (flat_map coverage_values (take l.coverage-index l.coverages)))
