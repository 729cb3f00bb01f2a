use Rattle.std.proofs.Common.{◌≡◌, drop}
use Rattle.covjson_ranges.specs.Ranges as axes
use Rattle.covjson_ranges.proofs.ranges.is_named.Given as goal

-- it isn't among those before
abbrev pub invariant-loop-other : goal.invariant-loop-other
invariant-loop-other l = axes.is_named l.name (drop l.other-index l.names) ≡ axes.is_named l.name l.names
