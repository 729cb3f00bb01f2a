use Rattle.std.proofs.Common.{All, take}
use Rattle.edr_select.specs.Masks.{IsReachedRing, IsWider}
use Rattle.edr_select.proofs.reaches.reach_polygon.Given as goal

abbrev pub invariant-loop-ring : goal.invariant-loop-ring
invariant-loop-ring l = record {
  wider : IsWider l.fn.reach l.reach;
  done : All (IsReachedRing l.reach) (take l.ring-index l.polygon.rings);
}
