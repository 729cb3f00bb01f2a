-- The geometry of a position is points: a single one, or several.
use Rattle.std.proofs.Common.{◌≡◌, ◌≤◌, Bool, true, false, List, [], ◌∷◌, length, arith}
use Rattle.std.proofs.lemmas.Bool.{false≢true}
use Rattle.edr_base.specs.declared.places.Position.{Position}
use Rattle.edr_wkt.specs.declared.geometry.Geometry.{Geometry}
use Rattle.edr_wkt.specs.declared.geometry.Geometry.TheVariants.{Points, Line, Polygons}
use Rattle.edr_query.specs.declared.addresses.QueryKind.TheVariants as kind
use Rattle.edr_query.specs.Queries.{IsTaken}

-- a point, or a multi-point of one or more
pub data ArePoints : Geometry → Type 0 where
  one : (has_z : Bool) (point : Position) → ArePoints (Points false has_z false (point ∷ []))
  several : (positions : List Position) → 1 ≤ length positions → ArePoints (Points true false false positions)

single : (has_z : Bool) (positions : List Position) → length positions ≡ 1 → ArePoints (Points false has_z false positions)
single has_z [] h = absurd (omega (arith, h))
single has_z (point ∷ []) h = one has_z point
single has_z (point ∷ other ∷ positions) h = absurd (omega (arith, h))

pub position_points : (geometry : Geometry) → IsTaken kind.Position geometry → ArePoints geometry
position_points (Points false has_z false positions) h = single has_z positions h.0.counts
position_points (Points true false false positions) h = several positions h.0.counts
position_points (Points true true false positions) h = absurd (false≢true h.1)
position_points (Points false has_z true positions) h = absurd (false≢true h.1)
position_points (Points true has_z true positions) h = absurd (false≢true h.1)
position_points (Line has_z has_m positions) h = absurd (false≢true h.1)
position_points (Polygons multi has_z has_m polygons) h = absurd (false≢true h.1)
