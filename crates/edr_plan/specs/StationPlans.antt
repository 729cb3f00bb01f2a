-- What is planned for the stations that a query takes; for private clauses.
use Rattle.std.specs.Prelude.{⊤, ◌≡◌, ◌≢◌, ◌⊎◌, ℕ, ◌+◌, ◌*◌, ◌<◌, ◌≤◌, nat_lt, nat_le, Bool, true, false, not, ◌&&◌, if◌then◌else◌, List, [], ◌∷◌, ◌++◌, map, length, All, sum_by, Option, None, Some, option_map}
use Rattle.std.specs.List.{filter, flat_map, range_with_len}
use Rattle.edr_axes.specs.Axes.{value_at, axis_length}
use Rattle.covjson_value.specs.declared.domains.Domain.{Domain}
use Rattle.covjson_value.specs.declared.coverages.Coverage.{Coverage}
use Rattle.covjson_value.specs.Coverages.{IsValidDocument}
use Rattle.edr_ids.specs.Ids.{item_of}
use Rattle.edr_station.specs.Stations.{StationValue, station_id, station_at}
use Rattle.edr_station.specs.Blocks.{blocks_of, first_block}
use Rattle.edr_edition.specs.declared.kinds.Kind.TheVariants.{Station}
use Rattle.edr_edition.specs.Values.{CollectionValue}
use Rattle.edr_edition.specs.Stores.{of_stations, stations_of}
use Rattle.edr_query.specs.declared.shapes.Shape.{Shape}
use Rattle.edr_query.specs.declared.shapes.Shape.TheVariants as at
use Rattle.edr_query.specs.Values.{QueryValue}
use Rattle.edr_select.specs.Choices.{parameter_places, time_places, level_places}
use Rattle.edr_select.specs.Wanted.{levels_asked}
use Rattle.edr_select.specs.Heads.{domain_at}
use Rattle.edr_select.specs.Planned as planned
use Rattle.edr_select.specs.Planned.{parameters_at}
use Rattle.edr_select.specs.Checks.{refused_query, stations_in}
use Rattle.edr_select.specs.Refusals.{asks_levels, have_levels}
use Rattle.edr_select.specs.Documents.{document}
use Rattle.edr_select.specs.Limits.{value_limit, coverage_limit}
use Rattle.edr_select.specs.Listings.{NumbersRise}
use Rattle.edr_select.specs.Series.{StationSeriesValue, SeriesReplyValue}
use Rattle.edr_select.specs.Plans.{IsOverStations}
use Rattle.edr_plan.specs.StationPlaces.{IsAmongStations, ChoiceValue, choice_by, cells_by, cell_of, takes_at, is_taken}

-- ---- what is asked

abbrev pub IsThere : Shape → List StationValue → Type 0
IsThere (at.Location id) stations = item_of station_id id stations ≢ None
IsThere other stations = ⊤

-- a query is asked of the stations of a collection
pub record AsksStations (collection : CollectionValue) (q : QueryValue) : Type 0 where
  pub kind : collection.kind ≡ Station
  pub shape : IsAmongStations q.shape
  pub there : IsThere q.shape collection.stations

-- levels are asked of stations without any
abbrev pub lacks_levels : QueryValue → CollectionValue → Bool
lacks_levels q collection = asks_levels q && not (have_levels (of_stations collection.parameters collection.stations))

-- only the reply to a query of one station isn't a collection
abbrev pub is_many : Shape → Bool
is_many (at.Location id) = false
is_many other = true

-- ---- what is taken of a station

-- of a station that the shape takes by its place or its id: each time and level by itself
abbrev pub choice_of : QueryValue → StationValue → ChoiceValue
choice_of q s = record { times = time_places q.times s.ts; levels = level_places (levels_asked q) s.zs }

-- the place of each of its values
abbrev pub cells_of : StationValue → ChoiceValue → List (Option ℕ)
cells_of s choice = flat_map (λ t. map (λ z. Some (cell_of s t z)) choice.levels) choice.times

-- some times and some levels
abbrev pub not_empty : List ℕ → Bool
not_empty [] = false
not_empty (place ∷ places) = true

abbrev pub are_some : ChoiceValue → Bool
are_some choice = not_empty choice.times && not_empty choice.levels

-- some of the times and levels of a station by their places, which rise, of both at least one
pub record IsChoiceOf (s : StationValue) (choice : ChoiceValue) : Type 0 where
  pub times_in : All (λ t. t < length s.ts) choice.times
  pub times_rise : NumbersRise choice.times
  pub times : choice.times ≢ []
  pub levels_in : All (λ z. z < axis_length s.zs) choice.levels
  pub levels_rise : NumbersRise choice.levels
  pub levels : choice.levels ≢ []

-- how many values some parameters have
abbrev pub value_count : ℕ → ℕ → ℕ → ℕ
value_count parameters times levels = parameters * (times * levels)

-- ---- the coverage of a station

abbrev pub domain_of : StationValue → ChoiceValue → Domain
domain_of s choice = domain_at (map (value_at s.ts) choice.times) (option_map (λ zs. map (value_at zs) choice.levels) s.zs) (s.y, s.x)

-- a head of an id
abbrev pub with_id : List ℕ → Coverage → Coverage
with_id id head = record { id = Some id; domain = head.domain; referencing = head.referencing; parameters = head.parameters; ranges = head.ranges }

abbrev pub head_of_station : CollectionValue → List ℕ → StationValue → ChoiceValue → Coverage
head_of_station collection parameters s choice =
    with_id s.id (planned.head_of collection.referencing (parameters_at collection.parameters parameters) (domain_of s choice))

-- of the station at a place, with some of its times and levels and their places
abbrev pub series_with : CollectionValue → List ℕ → ℕ → ChoiceValue → List (Option ℕ) → StationSeriesValue
series_with collection parameters k choice cells =
    let s = station_at collection.stations k in
    record {
      head = head_of_station collection parameters s choice;
      station = k;
      first = first_block (stations_of collection.parameters collection.stations) k;
      blocks = blocks_of s;
      cells = cells;
    }

-- with what is taken of it
abbrev pub series_of : CollectionValue → QueryValue → ℕ → StationSeriesValue
series_of collection q k =
    let s = station_at collection.stations k in
    series_with collection (parameter_places q.parameters collection.parameters) k (choice_by s (takes_at collection q k)) (cells_by s (takes_at collection q k))

-- where something is taken of it
abbrev pub series_where_taken : CollectionValue → QueryValue → ℕ → List StationSeriesValue
series_where_taken collection q k = if is_taken collection q k then series_of collection q k ∷ [] else []

-- of all stations of which something is taken
abbrev pub all_series : CollectionValue → QueryValue → List StationSeriesValue
all_series collection q = map (series_of collection q) (filter (is_taken collection q) (range_with_len 0 (length collection.stations)))

-- ---- sizes

-- how many values coverages have, of so many parameters
abbrev pub values_of_series : ℕ → List StationSeriesValue → ℕ
values_of_series parameters series = sum_by (λ (s : StationSeriesValue). parameters * length s.cells) series

-- more than a reply has
abbrev pub IsTooMany : ℕ → List StationSeriesValue → Type 0
IsTooMany parameters series = (value_limit < values_of_series parameters series) ⊎ (coverage_limit < length series)

pub record IsFew (parameters : ℕ) (series : List StationSeriesValue) : Type 0 where
  pub values : values_of_series parameters series ≤ value_limit
  pub coverages : length series ≤ coverage_limit

pub record GatheredValue : Type 0 where
  pub series : List StationSeriesValue
  pub values : ℕ

pub record IsGathered (parameters : ℕ) (gathered : GatheredValue) : Type 0 where
  pub values : gathered.values ≡ values_of_series parameters gathered.series
  pub few : IsFew parameters gathered.series

-- a coverage more, of so many values, is few still
abbrev pub has_room : GatheredValue → ℕ → Bool
has_room gathered values = nat_le (gathered.values + values) value_limit && nat_lt (length gathered.series) coverage_limit

abbrev pub with_series : GatheredValue → StationSeriesValue → ℕ → GatheredValue
with_series gathered series values = record { series = gathered.series ++ series ∷ []; values = gathered.values + values }

-- ---- the reply

-- no refusal applies to the query, its document is valid, and the reply is that to it
pub record IsPlanOfStations (collection : CollectionValue) (q : QueryValue) (reply : SeriesReplyValue) : Type 0 where
  pub none : refused_query collection q ≡ None
  pub valid : IsValidDocument (document (stations_in collection) q)
  pub stands : IsOverStations reply q (stations_in collection)
