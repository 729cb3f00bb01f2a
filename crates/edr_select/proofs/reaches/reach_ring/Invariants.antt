use Rattle.std.proofs.Common.{take}
use Rattle.edr_select.specs.Masks.{IsReachedRing, IsWider}
use Rattle.edr_select.proofs.reaches.reach_ring.Given as goal

abbrev pub invariant-loop-position : goal.invariant-loop-position
invariant-loop-position l = record {
  wider : IsWider l.fn.reach l.reach;
  done : IsReachedRing l.reach (take l.position-index l.ring);
}
