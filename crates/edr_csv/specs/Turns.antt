-- For private clauses: the records of a parameter turn by turn, a turn being a time and a level.
use Rattle.std.specs.Prelude.{ℕ, ℤ, List, map, Option, None, Some}
use Rattle.std.specs.List.{flat_map}
use Rattle.edr_base.specs.declared.places.Position.{Position}
use Rattle.covjson_value.specs.declared.domains.CoordinateName.TheVariants.{Z, Y, X}
use Rattle.covjson_value.specs.declared.domains.Domain.{Domain}
use Rattle.covjson_value.specs.declared.coverages.Parameter.{Parameter}
use Rattle.covjson_value.specs.declared.coverages.NdArray.{NdArray}
use Rattle.covjson_value.specs.declared.coverages.Coverage.{Coverage}
use Rattle.covjson_value.specs.declared.coverages.Document.{Document}
use Rattle.covjson_value.specs.Coverages.{coverages_in}
use Rattle.covjson_value.specs.Domains.{axis_of, tuples_of, coordinates_of}
use Rattle.covjson_value.specs.Samples.{Node, Sample, node, values_or_absent, values_or_none, tuple_node, samples_along, samples_from, samples_of}
use Rattle.edr_csv.specs.Tables.{table_text}
use Rattle.edr_csv.specs.Rows.{sample_records}

-- the text of the record of a sample, and nothing where its value is missing
abbrev pub sample_text : Option (List ℕ) → Sample → List ℕ
sample_text id sample = table_text (sample_records id sample)

-- a value of a parameter at a node
abbrev pub sample_at : List ℕ → Node → Option ℤ → Sample
sample_at parameter at value = record { parameter = parameter; at = at; value = value }

-- the records of a parameter at some nodes, as far as there are values
abbrev pub records_along : Option (List ℕ) → List ℕ → List Node → List (Option ℤ) → List ℕ
records_along id parameter nodes values = flat_map (sample_text id) (samples_along parameter nodes values)

-- the records of some parameters with their ranges
abbrev pub records_from : Option (List ℕ) → List Node → List Parameter → List NdArray → List ℕ
records_from id nodes parameters ranges = flat_map (sample_text id) (samples_from nodes parameters ranges)

-- the records of a coverage
abbrev pub coverage_text : Coverage → List ℕ
coverage_text coverage = flat_map (sample_text coverage.id) (samples_of coverage)

-- those of the coverages of a document
abbrev pub values_text : Document → List ℕ
values_text document = flat_map coverage_text (coverages_in document)

-- the nodes of a row
abbrev pub row_nodes : Option ℤ → Option ℤ → List ℤ → ℤ → List Node
row_nodes t z xs y = map (λ x. node t z y x) xs

-- the nodes of a turn
abbrev pub nodes_with_turn : Domain → Option ℤ → Option ℤ → Option (List Position) → List Node
nodes_with_turn domain t z None = flat_map (row_nodes t z (values_or_none (axis_of domain X))) (values_or_none (axis_of domain Y))
nodes_with_turn domain t z (Some tuples) = map (tuple_node (coordinates_of domain) t z) tuples

abbrev pub turn_nodes : Domain → Option ℤ → Option ℤ → List Node
turn_nodes domain t z = nodes_with_turn domain t z (tuples_of domain)

-- the nodes of a time, level by level
abbrev pub level_nodes : Domain → Option ℤ → List Node
level_nodes domain t = flat_map (turn_nodes domain t) (values_or_absent (axis_of domain Z))
