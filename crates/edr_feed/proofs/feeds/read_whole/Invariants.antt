use Rattle.std.proofs.Common.{◌≡◌, ℕ, ◌+◌, ◌-◌, List}
use Rattle.std.specs.Io.KnownBytes.{prepend_known}
use Rattle.edr_base.specs.Calls.{SourceLent}
use Rattle.edr_base.specs.Limits.{feed_limit}
use Rattle.edr_feed.specs.Readings.{HasRead}
use Rattle.edr_feed.proofs.feeds.read_whole.Given as goal

abbrev pub invariant-loop-now : goal.invariant-loop-now
invariant-loop-now g l = record {
  bytes : List ℕ;
  told : g.S.Source.left l.fn.source ≡ prepend_known bytes (g.S.Source.left l.source);
  read : HasRead bytes l.now;
  lent : SourceLent (g.S.Source.aside l.fn.source) (g.S.Source.aside l.source) (g.S.Faults.faults l.fn.source) (g.S.Faults.faults l.source);
}

abbrev pub decreases-loop-now : goal.decreases-loop-now
decreases-loop-now g l = feed_limit + 1 - (l.now.ended + l.now.length)
