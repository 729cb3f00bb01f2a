-- For private clauses: what the calls that read the brackets of a geometry answer.
use Rattle.std.specs.Prelude.{◌≡◌, ℕ, ◌≤◌, Bool, List, length, map}
use Rattle.edr_base.specs.Limits.{position_limit}
use Rattle.edr_wkt.specs.declared.headings.Kind.{Kind}
use Rattle.edr_wkt.specs.declared.geometry.Geometry.{Geometry}
use Rattle.edr_wkt.specs.declared.geometry.Geometry.TheVariants.{Points, Line, Polygons}
use Rattle.edr_wkt.specs.Kept.{kept, kept_polygon, counted}
use Rattle.edr_wkt.specs.Geometries.{positions_of}
use Rattle.edr_wkt.specs.Wkt.{kind_of, has_z_of, has_m_of, IsInside}

-- a geometry as it is kept
abbrev pub kept_geometry : Geometry → Geometry
kept_geometry (Points multi has_z has_m positions) = Points multi has_z has_m (map kept positions)
kept_geometry (Line has_z has_m positions) = Line has_z has_m (map kept positions)
kept_geometry (Polygons multi has_z has_m polygons) = Polygons multi has_z has_m (map kept_polygon polygons)

-- the geometry has this heading
pub record HasHeading (geometry : Geometry) (kind : Kind) (has_z has_m : Bool) : Type 0 where
  pub kind_is : kind_of geometry ≡ kind
  pub has_z_is : has_z_of geometry ≡ has_z
  pub has_m_is : has_m_of geometry ≡ has_m

-- the inside of the brackets of a geometry, as it is kept, and how many positions it has, up to one beyond the limit
pub record IsBodyRead (kind : Kind) (has_z has_m : Bool) (text : List ℕ) (before after : ℕ) (read : Geometry) (rest : List ℕ) : Type 0 where
  pub geometry : Geometry
  pub has_heading : HasHeading geometry kind has_z has_m
  pub is_inside : IsInside geometry text rest
  pub after_is : after ≡ counted before (length (positions_of geometry))
  pub read_is : after ≤ position_limit → read ≡ kept_geometry geometry

-- no geometry of this heading has such brackets
abbrev pub HasNoBody : Kind → Bool → Bool → List ℕ → Type 0
HasNoBody kind has_z has_m text = (geometry : Geometry) (rest : List ℕ) → HasHeading geometry kind has_z has_m → ¬ (IsInside geometry text rest)
