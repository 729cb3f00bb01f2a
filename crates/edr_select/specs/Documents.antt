-- The document that a query gets: the heads of its coverages, and one rule for all values (OGC 21-069r2).
use Rattle.std.specs.Prelude.{ℕ, ℤ, Bool, true, false, ◌&&◌, bytes_eq, if◌then◌else◌, List, length, map, Option, None, Some, option_map, unwrap_or}
use Rattle.std.specs.List.{filter, find, sum_by}
use Rattle.covjson_value.specs.declared.domains.CoordinateName.TheVariants.{Z}
use Rattle.covjson_value.specs.declared.domains.Domain.{Domain}
use Rattle.covjson_value.specs.declared.coverages.Parameter.{Parameter}
use Rattle.covjson_value.specs.declared.coverages.Referencing.{Referencing}
use Rattle.covjson_value.specs.declared.coverages.NdArray.{NdArray}
use Rattle.covjson_value.specs.declared.coverages.Coverage.{Coverage}
use Rattle.covjson_value.specs.declared.coverages.Document.{Document}
use Rattle.covjson_value.specs.declared.coverages.Document.TheVariants.{One, Many}
use Rattle.covjson_value.specs.Domains.{has_coordinate}
use Rattle.covjson_value.specs.Coverages.{coverages_in}
use Rattle.covjson_value.specs.Samples.{Node, nodes_of, is_of}
use Rattle.edr_edition.specs.Stores.{Subject}
use Rattle.edr_query.specs.Values.{QueryValue}
use Rattle.edr_select.specs.Samples.{Stored, parameters_in}
use Rattle.edr_select.specs.Selections.{is_asked, picked}
use Rattle.edr_select.specs.Heads.{Head, Heads, alone, together, heads_of}

-- the same station, or none on both sides
abbrev pub same_station : Option (List ℕ) → Option (List ℕ) → Bool
same_station None None = true
same_station None (Some other) = false
same_station (Some one) None = false
same_station (Some one) (Some other) = bytes_eq one other

-- the value of the selected sample of a station or a grid, and of a parameter, at a node; absent where none is selected
abbrev pub value_in : List Stored → Option (List ℕ) → List ℕ → Node → Option ℤ
value_in picks station parameter n =
    unwrap_or (option_map (λ (s : Stored). s.sample.value) (find (λ (s : Stored). same_station s.station station && is_of parameter n s.sample) picks)) None

-- the reference system of z stands only where the domain has z
abbrev pub referencing_over : Domain → Referencing → Referencing
referencing_over domain referencing = record { crs = referencing.crs; vertical = if has_coordinate domain Z then referencing.vertical else None }

-- the parameters that are asked, in the order of their ids
abbrev pub parameters_asked : Subject → QueryValue → List Parameter
parameters_asked subject q = filter (λ (p : Parameter). is_asked q.parameters p.id) (parameters_in subject.held)

-- a head with the values of each parameter that is asked, at each node of the domain
abbrev pub coverage_over : Subject → QueryValue → List Stored → Head → Coverage
coverage_over subject q picks head = record {
  id = head.id;
  domain = head.domain;
  referencing = referencing_over head.domain subject.collection.referencing;
  parameters = parameters_asked subject q;
  ranges = map (λ (p : Parameter). record { values = map (value_in picks head.id p.id) (nodes_of head.domain) }) (parameters_asked subject q);
}

abbrev pub document_over : (Head → Coverage) → Heads → Document
document_over cover (alone head) = One (cover head)
document_over cover (together heads) = Many (map cover heads)

-- the document of a query
abbrev pub document : Subject → QueryValue → Document
document subject q = document_over (coverage_over subject q (picked subject q)) (heads_of subject.held q (picked subject q))

-- ---- sizes

-- how many values all ranges have
abbrev pub values_in : Document → ℕ
values_in d = sum_by (λ (coverage : Coverage). sum_by (λ (range : NdArray). length range.values) coverage.ranges) (coverages_in d)
