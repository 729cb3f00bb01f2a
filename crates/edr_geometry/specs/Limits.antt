-- The limits of the numbers in the plane.
use Rattle.std.specs.Prelude.{Bool, List}
use Rattle.std.specs.List.{All}
use Rattle.edr_base.specs.Limits.{IsCoordinate}
use Rattle.edr_base.specs.declared.places.Position.{Position}
use Rattle.edr_base.specs.declared.places.Spot.{Spot}
use Rattle.edr_wkt.specs.Faults.{IsGeometry}
use Rattle.edr_wkt.specs.declared.geometry.Polygon.{Polygon}
use Rattle.edr_wkt.specs.declared.geometry.Geometry.TheVariants.{Polygons}
use Rattle.edr_geometry.specs.Planar.{spot_of}

-- a place
pub record IsSpot (s : Spot) : Type 0 where
  pub x : IsCoordinate s.x
  pub y : IsCoordinate s.y

-- a position in the plane
abbrev pub IsPlaced : Position → Type 0
IsPlaced p = IsSpot (spot_of p)

-- a ring in the plane
abbrev pub IsPlacedRing : List Position → Type 0
IsPlacedRing ring = All IsPlaced ring

-- a polygon in the plane
abbrev pub IsPlacedPolygon : Polygon → Type 0
IsPlacedPolygon polygon = All IsPlacedRing polygon.rings

-- the polygons of each geometry that is read or written are in the plane
abbrev pub GeometriesArePlaced : Type 0
GeometriesArePlaced = (multi has_z has_m : Bool) (polygons : List Polygon) → IsGeometry (Polygons multi has_z has_m polygons) → All IsPlacedPolygon polygons
