use Rattle.std.proofs.Common.{length}
use Rattle.edr_corridor.specs.Parts.{HaveNear, AreAlong}
use Rattle.edr_corridor.proofs.rectangles.lines_near.Given as goal

abbrev pub invariant-loop-line : goal.invariant-loop-line
invariant-loop-line l = record {
  near : HaveNear l.upright l.strip l.lines l.across (l.fn.range.0, l.line) l.rectangles.items;
  along : AreAlong l.upright (length l.lines) (length l.across) l.rectangles.items;
}
