-- For private clauses: the pairs of a query in two parts, and a form with some pairs behind it.
use Rattle.std.specs.Prelude.{ℕ, List, [], ◌∷◌, Option, option_map}
use Rattle.std.specs.List.{flat_map}
use Rattle.std.specs.Fmt.{signed_decimal}
use Rattle.form_urlencoded.specs.Form.{extend_pairs}
use Rattle.edr_wkt.specs.Spelling.{spelled, joined}
use Rattle.edr_query.specs.declared.parameters.Parameter.{Parameter}
use Rattle.edr_query.specs.declared.parameters.Parameter.TheVariants as p
use Rattle.edr_query.specs.declared.shapes.Shape.{Shape}
use Rattle.edr_query.specs.Parameters.{Pair}
use Rattle.edr_query.specs.Queries.{coords_of, within_of, box_of, width_of, height_of}
use Rattle.edr_query.specs.Spelling.{times_text, levels_text, box_text, metres_unit, pair_with}
use Rattle.edr_query.specs.Values.{QueryValue}

-- a form with the pair of a parameter behind it, where the parameter has a text
abbrev pub with_pair : List ℕ → Parameter → Option (List ℕ) → List ℕ
with_pair form parameter text = extend_pairs form (pair_with parameter text)

abbrev pub pairs_with : List (Parameter × Option (List ℕ)) → List Pair
pairs_with entries = flat_map (λ (entry : Parameter × Option (List ℕ)). pair_with entry.0 entry.1) entries

-- where a query selects, as parameters
abbrev pub place_entries : Shape → List (Parameter × Option (List ℕ))
place_entries shape =
    (p.Coords, option_map spelled (coords_of shape))
    ∷ (p.Within, option_map signed_decimal (within_of shape))
    ∷ (p.WithinUnits, metres_unit (within_of shape))
    ∷ (p.Bbox, option_map box_text (box_of shape))
    ∷ (p.CorridorWidth, option_map signed_decimal (width_of shape))
    ∷ (p.WidthUnits, metres_unit (width_of shape))
    ∷ (p.CorridorHeight, option_map signed_decimal (height_of shape))
    ∷ (p.HeightUnits, metres_unit (height_of shape))
    ∷ []

-- what else it selects by
abbrev pub filter_entries : QueryValue → List (Parameter × Option (List ℕ))
filter_entries query =
    (p.Datetime, option_map times_text query.times)
    ∷ (p.Z, option_map levels_text query.levels)
    ∷ (p.ParameterName, option_map (joined (λ name. name)) query.parameters)
    ∷ (p.Crs, query.crs)
    ∷ []

abbrev pub with_place : List ℕ → Shape → List ℕ
with_place form shape = extend_pairs form (pairs_with (place_entries shape))

abbrev pub with_filters : List ℕ → QueryValue → List ℕ
with_filters form query = extend_pairs form (pairs_with (filter_entries query))
