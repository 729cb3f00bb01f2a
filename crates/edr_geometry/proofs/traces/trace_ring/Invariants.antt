use Rattle.std.proofs.Common.{length, take}
use Rattle.edr_geometry.specs.Lines.{AreCuts, Toggles, odd_crossed, on_edges}
use Rattle.edr_geometry.specs.Planar.{edges_along}
use Rattle.edr_geometry.specs.Rows.{Joins}
use Rattle.edr_geometry.proofs.traces.trace_ring.Given as goal

abbrev pub invariant-loop-place : goal.invariant-loop-place
invariant-loop-place l = record {
  cuts : AreCuts (length l.line.values) l.cuts.items;
  toggles : Toggles (length l.line.values) l.fn.cuts.items l.cuts.items (odd_crossed l.line (edges_along (take l.place l.ring)));
  joins : Joins l.fn.mask l.mask (on_edges l.line (edges_along (take l.place l.ring)));
}
