use Rattle.std.proofs.Common.{length, take}
use Rattle.std.specs.List.{flat_map}
use Rattle.edr_geometry.specs.Lines.{AreCuts, Toggles, odd_crossed, on_edges}
use Rattle.edr_geometry.specs.Planar.{edges_along}
use Rattle.edr_geometry.specs.Rows.{Joins}
use Rattle.edr_geometry.proofs.traces.trace_polygon.Given as goal

abbrev pub invariant-loop-ring : goal.invariant-loop-ring
invariant-loop-ring l = record {
  cuts : AreCuts (length l.line.values) l.cuts.items;
  toggles : Toggles (length l.line.values) l.fn.cuts.items l.cuts.items (odd_crossed l.line (flat_map edges_along (take l.ring-index l.rings)));
  joins : Joins l.fn.mask l.mask (on_edges l.line (flat_map edges_along (take l.ring-index l.rings)));
}
