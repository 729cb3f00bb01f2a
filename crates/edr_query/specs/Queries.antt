-- What the parameters of a target say, the query that they make, and what every query is.
use Rattle.std.specs.Prelude.{◌≡◌, ◌≢◌, ⊤, ℕ, ◌==◌, ℤ, Bool, true, false, not, ◌&&◌, ◌||◌, bytes_eq, if◌then◌else◌, List, [], ◌∷◌, ◌++◌, Contains, Option, None, Some, option_map, is_some, IfSome, IsUtf8}
use Rattle.std.specs.List.{AllByRecursion, list_any, slice_split}
use Rattle.edr_base.specs.Limits.{IsMetres}
use Rattle.edr_axes.specs.declared.levels.Levels.{Levels}
use Rattle.edr_axes.specs.declared.levels.Levels.TheVariants as some_levels
use Rattle.edr_axes.specs.Times.{IsTimes, IsTimesText}
use Rattle.edr_axes.specs.Levels.{IsLevel, IsLevels, IsLevelsText}
use Rattle.edr_wkt.specs.declared.geometry.Geometry.{Geometry}
use Rattle.edr_wkt.specs.declared.geometry.Geometry.TheVariants.{Points, Line, Polygons}
use Rattle.edr_wkt.specs.Wkt.{IsWkt, has_z_of, has_m_of}
use Rattle.edr_wkt.specs.Faults.{IsGeometry}
use Rattle.edr_query.specs.declared.addresses.QueryKind.{QueryKind}
use Rattle.edr_query.specs.declared.addresses.QueryKind.TheVariants.{Position, Radius, Area, Cube, Trajectory, Corridor}
use Rattle.edr_query.specs.declared.addresses.Address.{Address}
use Rattle.edr_query.specs.declared.addresses.Address.TheVariants.{Location, Query}
use Rattle.edr_query.specs.declared.parameters.Parameter.TheVariants as p
use Rattle.edr_query.specs.declared.shapes.BoundingBox.{BoundingBox}
use Rattle.edr_query.specs.declared.shapes.Shape.{Shape}
use Rattle.edr_query.specs.declared.shapes.Shape.TheVariants as at
use Rattle.edr_query.specs.declared.said.Said.{Said}
use Rattle.edr_query.specs.Paths.{IsPart}
use Rattle.edr_query.specs.Parameters.{Pair, value_of, MaySay, MaySayBoth}
use Rattle.edr_axes.specs.Distances.{IsDistance}
use Rattle.edr_query.specs.Boxes.{IsBoxText, IsOrdered, IsRange}
use Rattle.edr_query.specs.Values.{QueryValue}

-- ---- what the parameters say

-- the text stands for the geometry, within the limits
abbrev pub IsGeometryText : List ℕ → Geometry → Type 0
IsGeometryText text geometry = IsWkt text geometry × IsGeometry geometry

-- each part is absent, or said by its parameter; distances by a number and a unit
pub record IsSaid (pairs : List Pair) (said : Said) : Type 0 where
  pub coords : MaySay IsGeometryText (value_of p.Coords pairs) said.coords
  pub within : MaySayBoth IsDistance (value_of p.Within pairs) (value_of p.WithinUnits pairs) said.within
  pub bbox : MaySay IsBoxText (value_of p.Bbox pairs) said.bbox
  pub width : MaySayBoth IsDistance (value_of p.CorridorWidth pairs) (value_of p.WidthUnits pairs) said.width
  pub height : MaySayBoth IsDistance (value_of p.CorridorHeight pairs) (value_of p.HeightUnits pairs) said.height
  pub times : MaySay IsTimesText (value_of p.Datetime pairs) said.times
  pub levels : MaySay IsLevelsText (value_of p.Z pairs) said.levels

-- the geometries that a query takes
abbrev pub takes : QueryKind → Geometry → Bool
takes Position (Points multi has_z has_m positions) = not has_m && not (multi && has_z)
takes Radius (Points multi has_z has_m positions) = not has_m && not multi
takes Area (Polygons multi has_z has_m polygons) = not has_m && not has_z
takes Trajectory (Line has_z has_m positions) = true
takes Corridor (Line has_z has_m positions) = true
takes kind geometry = false

-- ---- what contradicts itself

abbrev pub has_z : Option Geometry → Bool
has_z None = false
has_z (Some geometry) = has_z_of geometry

abbrev pub has_m : Option Geometry → Bool
has_m None = false
has_m (Some geometry) = has_m_of geometry

abbrev pub has_levels : Option BoundingBox → Bool
has_levels None = false
has_levels (Some box) = is_some box.levels

-- levels that aren't a single one
abbrev pub are_several : Option Levels → Bool
are_several None = false
are_several (Some (some_levels.At only)) = false
are_several (Some other) = true

-- m and times; z, or a box with levels, and levels; a height along a line without z, and levels that aren't a single one
abbrev pub conflicts : Said → Bool
conflicts said =
    (has_m said.coords && is_some said.times)
    || ((has_z said.coords && is_some said.levels)
    || ((has_levels said.bbox && is_some said.levels)
    || (is_some said.height && (not (has_z said.coords) && are_several said.levels))))

-- ---- the query

abbrev pub around : Option Geometry → Option ℤ → Option Shape
around (Some geometry) (Some within) = Some (at.Radius geometry within)
around coords within = None

abbrev pub along : Option Geometry → Option ℤ → Option ℤ → Option Shape
along (Some geometry) (Some width) height = Some (at.Corridor geometry width height)
along coords width height = None

abbrev pub inside : Option BoundingBox → Option Shape
inside None = None
inside (Some box) = Some (at.Cube box.lo box.hi box.levels)

-- where a query of a kind selects, by its parts
abbrev pub shape_of : QueryKind → Option Geometry → Option ℤ → Option BoundingBox → Option ℤ → Option ℤ → Option Shape
shape_of Position coords within bbox width height = option_map at.Position coords
shape_of Radius coords within bbox width height = around coords within
shape_of Area coords within bbox width height = option_map at.Area coords
shape_of Cube coords within bbox width height = inside bbox
shape_of Trajectory coords within bbox width height = option_map at.Trajectory coords
shape_of Corridor coords within bbox width height = along coords width height

-- a list of names with one more, unless it has that name
abbrev pub with_name : List (List ℕ) → List ℕ → List (List ℕ)
with_name names name = if list_any (bytes_eq name) names then names else names ++ name ∷ []

-- the names with each of the others once, at its first place
abbrev pub with_names : List (List ℕ) → List (List ℕ) → List (List ℕ)
with_names names [] = names
with_names names (other ∷ others) = with_names (with_name names other) others

-- names with commas between them, each once
abbrev pub names_in : List ℕ → List (List ℕ)
names_in text = with_names [] (slice_split (λ byte. byte == 44) text)

-- the query is of the collection and the instance that the path names, and selects where the parts say
abbrev pub IsPlaced : Address → Said → QueryValue → Type 0
IsPlaced (Query kind c i) said query = (query.collection ≡ c) × (query.instance ≡ i) × (shape_of kind said.coords said.within said.bbox said.width said.height ≡ Some query.shape)
IsPlaced (Location c s) said query = (query.collection ≡ c) × (query.instance ≡ None) × (query.shape ≡ at.Location s)
IsPlaced other said query = ⊥

-- the path and the pairs say the query
pub record Says (address : Address) (pairs : List Pair) (query : QueryValue) : Type 0 where
  pub said : Said
  pub is_said : IsSaid pairs said
  pub placed : IsPlaced address said query
  pub times : query.times ≡ said.times
  pub levels : query.levels ≡ said.levels
  pub parameters : query.parameters ≡ option_map names_in (value_of p.ParameterName pairs)
  pub crs : query.crs ≡ value_of p.Crs pairs

-- ---- what every query is

-- a geometry that queries of the kind take, within the limits
abbrev pub IsTaken : QueryKind → Geometry → Type 0
IsTaken kind geometry = IsGeometry geometry × (takes kind geometry ≡ true)

-- a box within the limits, in order
pub record IsBox (box : BoundingBox) : Type 0 where
  pub lo_in : IsLevel box.lo.x × IsLevel box.lo.y
  pub hi_in : IsLevel box.hi.x × IsLevel box.hi.y
  pub levels_in : IfSome box.levels (λ range. IsLevel range.0 × IsLevel range.1)
  pub ordered : IsOrdered box
  pub range : IsRange box.levels

-- a line with z has a height
abbrev pub IsHeight : Geometry → Option ℤ → Type 0
IsHeight geometry None = has_z_of geometry ≡ false
IsHeight geometry (Some height) = IsMetres height

abbrev pub IsShape : Shape → Type 0
IsShape (at.Position geometry) = IsTaken Position geometry
IsShape (at.Radius geometry within) = IsTaken Radius geometry × IsMetres within
IsShape (at.Area geometry) = IsTaken Area geometry
IsShape (at.Cube lo hi levels) = IsBox (record { lo = lo; hi = hi; levels = levels })
IsShape (at.Trajectory geometry) = IsTaken Trajectory geometry
IsShape (at.Corridor geometry width height) = IsTaken Corridor geometry × IsMetres width × IsHeight geometry height
IsShape (at.Location station) = IsPart station

-- the data of a station has no instance
abbrev pub IsInstanceOf : Shape → Option (List ℕ) → Type 0
IsInstanceOf (at.Location station) instance = instance ≡ None
IsInstanceOf shape None = ⊤
IsInstanceOf shape (Some instance) = IsPart instance

-- no name occurs twice
abbrev pub HasNoTwins : List (List ℕ) → Type 0
HasNoTwins [] = ⊤
HasNoTwins (name ∷ names) = (¬ (Contains names name)) × HasNoTwins names

-- one name or more, each once; names are UTF-8 and have no comma
pub record AreNames (names : List (List ℕ)) : Type 0 where
  pub some : names ≢ []
  pub once : HasNoTwins names
  pub utf8 : AllByRecursion IsUtf8 names
  pub no_comma : AllByRecursion (λ name. ¬ (Contains name 44)) names

-- levels that some text stands for
abbrev pub IsLevelsAsked : Levels → Type 0
IsLevelsAsked levels = IsLevels levels × (levels ≢ some_levels.All)

abbrev pub coords_of : Shape → Option Geometry
coords_of (at.Position geometry) = Some geometry
coords_of (at.Radius geometry within) = Some geometry
coords_of (at.Area geometry) = Some geometry
coords_of (at.Cube lo hi levels) = None
coords_of (at.Trajectory geometry) = Some geometry
coords_of (at.Corridor geometry width height) = Some geometry
coords_of (at.Location station) = None

abbrev pub within_of : Shape → Option ℤ
within_of (at.Radius geometry within) = Some within
within_of other = None

abbrev pub box_of : Shape → Option BoundingBox
box_of (at.Cube lo hi levels) = Some (record { lo = lo; hi = hi; levels = levels })
box_of other = None

abbrev pub width_of : Shape → Option ℤ
width_of (at.Corridor geometry width height) = Some width
width_of other = None

abbrev pub height_of : Shape → Option ℤ
height_of (at.Corridor geometry width height) = height
height_of other = None

-- the parts of a query that parameters say
abbrev pub said_of : QueryValue → Said
said_of query = record {
  coords = coords_of query.shape;
  within = within_of query.shape;
  bbox = box_of query.shape;
  width = width_of query.shape;
  height = height_of query.shape;
  times = query.times;
  levels = query.levels;
}

-- what every query is: none of its parts is at fault, and none contradicts another
pub record IsQuery (query : QueryValue) : Type 0 where
  pub collection : IsPart query.collection
  pub instance : IsInstanceOf query.shape query.instance
  pub shape : IsShape query.shape
  pub times : IfSome query.times IsTimes
  pub levels : IfSome query.levels IsLevelsAsked
  pub parameters : IfSome query.parameters AreNames
  pub crs : IfSome query.crs IsUtf8
  pub no_conflict : conflicts (said_of query) ≡ false
