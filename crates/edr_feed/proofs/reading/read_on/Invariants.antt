use Rattle.std.proofs.Common.{◌≡◌, ◌≤◌, ℕ, List, ◌++◌, length}
use Rattle.edr_feed.specs.Readings.{HasRead}
use Rattle.edr_feed.proofs.reading.read_on.Given as goal

abbrev pub invariant-loop-part : goal.invariant-loop-part
invariant-loop-part l = record {
  front : List ℕ;
  cut : l.piece ≡ front ++ l.rest;
  number : l.fn.now.number ≤ l.now.number;
  read : (bytes : List ℕ) → HasRead bytes l.fn.now → HasRead (bytes ++ front) l.now;
}

abbrev pub decreases-loop-part : goal.decreases-loop-part
decreases-loop-part l = length l.rest
