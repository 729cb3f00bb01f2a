-- The written form of a query.
use Rattle.std.specs.Prelude.{ℕ, ℤ, List, [], ◌∷◌, ◌++◌, codes, Option, None, Some, option_map, Ok}
use Rattle.std.specs.List.{flat_map}
use Rattle.std.specs.Fmt.{signed_decimal}
use Rattle.form_urlencoded.specs.Form.{extend_pairs}
use Rattle.edr_axes.specs.declared.times.Times.{Times}
use Rattle.edr_axes.specs.declared.times.Times.TheVariants as times
use Rattle.edr_axes.specs.declared.levels.Levels.{Levels}
use Rattle.edr_axes.specs.declared.levels.Levels.TheVariants as levels
use Rattle.edr_axes.specs.Instants.{instant_text}
use Rattle.edr_wkt.specs.Spelling.{spelled, joined}
use Rattle.edr_query.specs.declared.addresses.QueryKind.TheVariants.{Position, Radius, Area, Cube, Trajectory, Corridor}
use Rattle.edr_query.specs.declared.addresses.Address.{Address}
use Rattle.edr_query.specs.declared.addresses.Address.TheVariants as to
use Rattle.edr_query.specs.declared.parameters.Parameter.{Parameter}
use Rattle.edr_query.specs.declared.parameters.Parameter.TheVariants as p
use Rattle.edr_query.specs.declared.pages.Page.TheVariants.{Ask}
use Rattle.edr_query.specs.declared.shapes.BoundingBox.{BoundingBox}
use Rattle.edr_query.specs.declared.shapes.Shape.{Shape}
use Rattle.edr_query.specs.declared.shapes.Shape.TheVariants as at
use Rattle.edr_query.specs.Paths.{path_text}
use Rattle.edr_query.specs.Parameters.{Pair, name_of}
use Rattle.edr_query.specs.Boxes.{numbers_of}
use Rattle.edr_query.specs.Values.{QueryValue}
use Rattle.edr_query.specs.Queries.{coords_of, within_of, box_of, width_of, height_of, IsQuery}
use Rattle.edr_query.specs.Targets.{IsTarget}

-- a side of an interval, `..` where it is open
abbrev pub side_text : Option ℤ → List ℕ
side_text None = codes ".."
side_text (Some time) = instant_text time

abbrev pub times_text : Times → List ℕ
times_text times.All = codes "../.."
times_text (times.At only) = instant_text only
times_text (times.Between first last) = side_text first ++ 47 ∷ side_text last

-- `min/max`, `a,b` or `Rn/min/step`; no text is written of all levels
abbrev pub levels_text : Levels → List ℕ
levels_text levels.All = []
levels_text (levels.At only) = signed_decimal only
levels_text (levels.Between low high) = signed_decimal low ++ 47 ∷ signed_decimal high
levels_text (levels.List list) = joined signed_decimal list
levels_text (levels.Series n first step) = 82 ∷ (signed_decimal n ++ 47 ∷ (signed_decimal first ++ 47 ∷ signed_decimal step))

abbrev pub box_text : BoundingBox → List ℕ
box_text box = joined signed_decimal (numbers_of box)

-- distances are written in metres
abbrev pub metres_unit : Option ℤ → Option (List ℕ)
metres_unit distance = option_map (λ (metres : ℤ). codes "m") distance

-- the parameters of a query in their order, each with its text where the query has it
abbrev pub written : QueryValue → List (Parameter × Option (List ℕ))
written query =
    (p.Coords, option_map spelled (coords_of query.shape))
    ∷ (p.Within, option_map signed_decimal (within_of query.shape))
    ∷ (p.WithinUnits, metres_unit (within_of query.shape))
    ∷ (p.Bbox, option_map box_text (box_of query.shape))
    ∷ (p.CorridorWidth, option_map signed_decimal (width_of query.shape))
    ∷ (p.WidthUnits, metres_unit (width_of query.shape))
    ∷ (p.CorridorHeight, option_map signed_decimal (height_of query.shape))
    ∷ (p.HeightUnits, metres_unit (height_of query.shape))
    ∷ (p.Datetime, option_map times_text query.times)
    ∷ (p.Z, option_map levels_text query.levels)
    ∷ (p.ParameterName, option_map (joined (λ name. name)) query.parameters)
    ∷ (p.Crs, query.crs)
    ∷ []

-- a pair, if there is a text
abbrev pub pair_with : Parameter → Option (List ℕ) → List Pair
pair_with parameter None = []
pair_with parameter (Some text) = (name_of parameter, text) ∷ []

abbrev pub pairs_of : QueryValue → List Pair
pairs_of query = flat_map (λ (entry : Parameter × Option (List ℕ)). pair_with entry.0 entry.1) (written query)

abbrev pub address_at : Shape → List ℕ → Option (List ℕ) → Address
address_at (at.Position geometry) c i = to.Query Position c i
address_at (at.Radius geometry within) c i = to.Query Radius c i
address_at (at.Area geometry) c i = to.Query Area c i
address_at (at.Cube lo hi levels) c i = to.Query Cube c i
address_at (at.Trajectory geometry) c i = to.Query Trajectory c i
address_at (at.Corridor geometry width height) c i = to.Query Corridor c i
address_at (at.Location station) c i = to.Location c station

-- where a query stands
abbrev pub address_of : QueryValue → Address
address_of query = address_at query.shape query.collection query.instance

-- the query text of pairs, behind its `?`; nothing where there is no pair
abbrev pub query_text : List Pair → List ℕ
query_text [] = []
query_text (pair ∷ pairs) = 63 ∷ extend_pairs [] (pair ∷ pairs)

-- the written form of a query: its path, and its parameters as a form writes them
abbrev pub spell : QueryValue → List ℕ
spell query = path_text (address_of query) ++ query_text (pairs_of query)

-- the written form of a query asks for that query
abbrev pub WrittenQueriesReadBack : Type 0
WrittenQueriesReadBack = (query : QueryValue) → IsQuery query → IsTarget (spell query) (Ok (Ask query))
