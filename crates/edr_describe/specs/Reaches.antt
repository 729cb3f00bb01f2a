-- From the least to the greatest: spans of coordinates, times and levels, and what an extent tells by them; for private clauses.
use Rattle.std.specs.Prelude.{ℕ, ℤ, List, [], ◌∷◌, Option, None, Some, option_map, codes}
use Rattle.serde_json.specs.Data.{Data, string, object, no_members, member}
use Rattle.edr_axes.specs.Instants.{IsTime}
use Rattle.covjson_value.specs.Trees.{member_if, array_of, integer}
use Rattle.edr_station.specs.Stations.{StationValue}
use Rattle.edr_edition.specs.Values.{InstanceValue}
use Rattle.edr_describe.specs.declared.reaches.Span.{Span}
use Rattle.edr_describe.specs.declared.reaches.Reach.{Reach}
use Rattle.edr_describe.specs.Extents.{lower, higher, least, greatest, Coordinates, time_data}

abbrev pub span_of : List ℤ → Span
span_of values = record { low = least values; high = greatest values }

abbrev pub reach_of : Coordinates → Reach
reach_of c = record { xs = span_of c.xs; ys = span_of c.ys; ts = span_of c.ts; zs = option_map span_of c.zs }

-- two spans and what lies between them
abbrev pub span_with : Span → Span → Span
span_with a b = record { low = lower a.low b.low; high = higher a.high b.high }

-- the same of spans that may be absent
abbrev pub span_with_given : Option Span → Option Span → Option Span
span_with_given None b = b
span_with_given (Some a) None = Some a
span_with_given (Some a) (Some b) = Some (span_with a b)

abbrev pub reach_with : Reach → Reach → Reach
reach_with a b = record { xs = span_with a.xs b.xs; ys = span_with a.ys b.ys; ts = span_with a.ts b.ts; zs = span_with_given a.zs b.zs }

-- its times are within their limits
pub record IsTimed (reach : Reach) : Type 0 where
  pub first : IsTime reach.ts.low
  pub last : IsTime reach.ts.high

abbrev pub coordinates_of_grid : InstanceValue → Coordinates
coordinates_of_grid i = record { xs = i.xs; ys = i.ys; ts = i.ts; zs = i.zs }

abbrev pub coordinates_of_station : StationValue → Coordinates
coordinates_of_station s = record { xs = s.x ∷ []; ys = s.y ∷ []; ts = s.ts; zs = s.zs }

-- ---- the members of an extent, by spans

abbrev pub span_data : (ℤ → Data) → Span → Data
span_data data_of span = object (member (codes "interval") (array_of (array_of data_of) ((span.low ∷ span.high ∷ []) ∷ [])) no_members)

abbrev pub box_data : List ℕ → Span → Span → Data
box_data crs xs ys =
    object (member (codes "bbox") (array_of (array_of integer) ((xs.low ∷ ys.low ∷ xs.high ∷ ys.high ∷ []) ∷ [])) (member (codes "crs") (string crs) no_members))

abbrev pub reach_data : List ℕ → Reach → Data
reach_data crs reach =
    object (member (codes "spatial") (box_data crs reach.xs reach.ys)
    (member (codes "temporal") (span_data time_data reach.ts)
    (member_if (codes "vertical") (option_map (span_data integer) reach.zs) no_members)))
