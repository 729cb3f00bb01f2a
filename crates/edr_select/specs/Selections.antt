-- What a query selects: a plain filter of the flat list.
use Rattle.std.specs.Prelude.{ℕ, Bool, true, ◌&&◌, bytes_eq, List, map, Option, None, Some}
use Rattle.std.specs.List.{filter, list_any}
use Rattle.covjson_value.specs.Samples.{same_node}
use Rattle.edr_edition.specs.Stores.{Subject}
use Rattle.edr_query.specs.declared.shapes.Shape.{Shape}
use Rattle.edr_query.specs.declared.shapes.Shape.TheVariants as at
use Rattle.edr_query.specs.Values.{QueryValue}
use Rattle.edr_select.specs.Samples.{Stored, samples_in, chunks_in, ascending_once}
use Rattle.edr_select.specs.Wanted.{takes_time, takes_level, levels_asked, takes_place}
use Rattle.edr_select.specs.Lines.{in_corridor, route_in}

-- time, level and place are taken, each by itself
abbrev pub takes_each : Subject → QueryValue → Stored → Bool
takes_each subject q s = takes_time q.times s.sample.at.t && (takes_level (levels_asked q) s.sample.at.z && takes_place subject.held q.shape s)

-- the rule of each kind of query
abbrev pub takes : Subject → QueryValue → Shape → Stored → Bool
takes subject q (at.Position geometry) s = takes_each subject q s
takes subject q (at.Radius geometry within) s = takes_each subject q s
takes subject q (at.Area geometry) s = takes_each subject q s
takes subject q (at.Cube lo hi levels) s = takes_each subject q s
takes subject q (at.Trajectory line) s = list_any (list_any (same_node s.sample.at)) (route_in subject.held q line)
takes subject q (at.Corridor line width height) s = in_corridor q line width height s.sample.at
takes subject q (at.Location id) s = takes_each subject q s

-- a parameter is asked where no names are given, or its id is among them
abbrev pub is_asked : Option (List (List ℕ)) → List ℕ → Bool
is_asked None id = true
is_asked (Some names) id = list_any (bytes_eq id) names

-- the query selects the sample, whether or not its value is missing
abbrev pub wants : Subject → QueryValue → Stored → Bool
wants subject q s = is_asked q.parameters s.sample.parameter && takes subject q q.shape s

-- the samples that it selects
abbrev pub picked : Subject → QueryValue → List Stored
picked subject q = filter (wants subject q) (samples_in subject)

abbrev pub chunk_of : Stored → ℕ
chunk_of s = s.chunk

-- the numbers of the chunks that hold a selected sample: ascending, each once
abbrev pub needed : Subject → QueryValue → List ℕ
needed subject q = ascending_once (chunks_in subject.held) (map chunk_of (picked subject q))
