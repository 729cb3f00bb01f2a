use Rattle.std.proofs.Common.{◌≡◌, take}
use Rattle.edr_station.specs.Tallies.{tally_of, and_of}
use Rattle.edr_station.proofs.tallies.Tally.with_all.Given as goal

abbrev pub invariant-loop-sample : goal.invariant-loop-sample
invariant-loop-sample l = l.tally ≡ and_of l.fn.self (tally_of (take l.sample-index l.samples))
