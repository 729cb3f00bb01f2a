use Rattle.std.proofs.Common.{All, take}
use Rattle.edr_select.specs.Masks.{IsReachedPolygon}
use Rattle.edr_select.proofs.reaches.reach_of_polygons.Given as goal

abbrev pub invariant-loop-polygon : goal.invariant-loop-polygon
invariant-loop-polygon l = All (IsReachedPolygon l.reach) (take l.polygon-index l.polygons)
