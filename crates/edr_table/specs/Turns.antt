-- For private clauses: the lines of a parameter turn by turn, a turn being a time and a level.
use Rattle.std.specs.Prelude.{ℕ, ℤ, List, [], ◌∷◌, ◌++◌, map, Option, None, Some}
use Rattle.std.specs.List.{flat_map}
use Rattle.std.specs.Fmt.{signed_decimal}
use Rattle.edr_base.specs.declared.places.Position.{Position}
use Rattle.covjson_value.specs.declared.domains.CoordinateName.TheVariants.{Z, Y, X}
use Rattle.covjson_value.specs.declared.domains.Domain.{Domain}
use Rattle.covjson_value.specs.declared.coverages.Parameter.{Parameter}
use Rattle.covjson_value.specs.declared.coverages.NdArray.{NdArray}
use Rattle.covjson_value.specs.Domains.{axis_of, tuples_of, coordinates_of}
use Rattle.covjson_value.specs.Samples.{Node, node, values_or_absent, values_or_none, tuple_node, samples_along, samples_from}
use Rattle.edr_table.specs.Tables.{number_cell, time_cell, cells_of, line_text}

-- a line as far as its x
abbrev pub line_front : List ℕ → Option ℤ → Option ℤ → ℤ → List ℕ
line_front parameter t z y = parameter ++ 9 ∷ (time_cell t ++ 9 ∷ (number_cell z ++ 9 ∷ (signed_decimal y ++ 9 ∷ [])))

-- a line from its x on
abbrev pub line_back : ℤ → Option ℤ → List ℕ
line_back x value = signed_decimal x ++ 9 ∷ (number_cell value ++ 10 ∷ [])

-- the lines of a parameter at some nodes, as far as there are values
abbrev pub lines_along : List ℕ → List Node → List (Option ℤ) → List ℕ
lines_along parameter nodes values = flat_map line_text (map cells_of (samples_along parameter nodes values))

-- the lines of some parameters with their ranges
abbrev pub lines_from : List Node → List Parameter → List NdArray → List ℕ
lines_from nodes parameters ranges = flat_map line_text (map cells_of (samples_from nodes parameters ranges))

-- the nodes of a row
abbrev pub row_nodes : Option ℤ → Option ℤ → List ℤ → ℤ → List Node
row_nodes t z xs y = map (λ x. node t z y x) xs

-- the nodes of a turn
abbrev pub nodes_with_turn : Domain → Option ℤ → Option ℤ → Option (List Position) → List Node
nodes_with_turn domain t z None = flat_map (row_nodes t z (values_or_none (axis_of domain X))) (values_or_none (axis_of domain Y))
nodes_with_turn domain t z (Some tuples) = map (tuple_node (coordinates_of domain) t z) tuples

abbrev pub turn_nodes : Domain → Option ℤ → Option ℤ → List Node
turn_nodes domain t z = nodes_with_turn domain t z (tuples_of domain)

-- the nodes of a time, level by level
abbrev pub level_nodes : Domain → Option ℤ → List Node
level_nodes domain t = flat_map (turn_nodes domain t) (values_or_absent (axis_of domain Z))
