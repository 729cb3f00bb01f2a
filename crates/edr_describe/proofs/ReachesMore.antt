-- The reach of stations, one more at a time.
use Rattle.std.proofs.Common.{◌≡◌, ℕ, ◌+◌, ◌<◌, ℤ, List, [], ◌∷◌, ◌++◌, length, take, map, All, Some, option_map, refl, ap, sym, ◌∙◌, arith}
use Rattle.std.specs.List.{flat_map}
use Rattle.std.proofs.lemmas.List.{append-nil, map-append, length-append, length-map, length-take, take_more}
use Rattle.std.proofs.lemmas.List.Concat.{flat_map-append}
use Rattle.std.proofs.lemmas.List.Elements.{All-head, All-take, All-weaker}
use Rattle.edr_station.specs.Stations.{StationValue, StationsValue, IsPlaced, IsStation, AreStations, station_at, nowhere}
use Rattle.edr_describe.specs.declared.reaches.Reach.{Reach}
use Rattle.edr_describe.specs.Extents.{coordinates_of_stations, coordinates_where_some}
use Rattle.edr_describe.specs.Reaches.{span_of, span_with, reach_of, reach_with, coordinates_of_station}
use Rattle.edr_describe.proofs.MoreLevels.{span_more, levels_more}

abbrev times_in : List StationValue → List ℤ
times_in stations = flat_map (λ (s : StationValue). s.ts) stations

some_times : (stations : List StationValue) → 0 < length stations → All IsPlaced stations → 0 < length (times_in stations)
some_times [] some placed = absurd (omega (arith, some))
some_times (s ∷ stations) some placed = omega (arith, length-append s.ts (times_in stations), (All-head IsPlaced s stations placed).ts.axis.some)

pub are_placed : (all : StationsValue) → AreStations all → All IsPlaced all.stations
are_placed all are = All-weaker (IsStation all.parameters) IsPlaced (λ s is. is.placed) all.stations are.each

-- a coordinate of stations and of one more
along_more : (along : StationValue → ℤ) (stations : List StationValue) (s : StationValue) → 0 < length stations
    → span_with (span_of (map along stations)) (span_of (along s ∷ [])) ≡ span_of (map along (stations ++ s ∷ []))
along_more along stations s some =
    span_more (map along stations) (along s ∷ []) (omega (arith, some, length-map stations along)) (omega arith)
    ∙ ap span_of (sym (map-append along stations (s ∷ [])))

times_more : (stations : List StationValue) (s : StationValue) → 0 < length stations → All IsPlaced stations → IsPlaced s
    → span_with (span_of (times_in stations)) (span_of s.ts) ≡ span_of (times_in (stations ++ s ∷ []))
times_more stations s some placed one =
    span_more (times_in stations) s.ts (some_times stations some placed) one.ts.axis.some
    ∙ ap span_of (sym (flat_map-append (λ (o : StationValue). o.ts) stations (s ∷ []) ∙ ap (λ l. times_in stations ++ l) (append-nil s.ts)))

stations_more : (stations : List StationValue) (s : StationValue) → 0 < length stations → All IsPlaced stations → IsPlaced s
    → reach_with (reach_of (coordinates_of_stations stations)) (reach_of (coordinates_of_station s)) ≡ reach_of (coordinates_of_stations (stations ++ s ∷ []))
stations_more stations s some placed one =
    rw (
      along_more (λ (o : StationValue). o.x) stations s some,
      along_more (λ (o : StationValue). o.y) stations s some,
      times_more stations s some placed one,
      levels_more stations s placed one,
    ) refl

-- the first so many stations and the next one
pub reach_more : (stations : List StationValue) (place : ℕ) → All IsPlaced stations → 0 < place → place < length stations → IsPlaced (station_at stations place)
    → reach_with (reach_of (coordinates_of_stations (take place stations))) (reach_of (coordinates_of_station (station_at stations place)))
    ≡ reach_of (coordinates_of_stations (take (place + 1) stations))
reach_more stations place placed some inside one =
    stations_more (take place stations) (station_at stations place) (omega (arith, some, inside, length-take place stations)) (All-take IsPlaced place stations placed) one
    ∙ ap (λ l. reach_of (coordinates_of_stations l)) (sym (take_more stations place nowhere inside))

-- ---- all stations

pub reach_where_some : (stations : List StationValue) (reach : Reach) → 0 < length stations → reach ≡ reach_of (coordinates_of_stations stations)
    → Some reach ≡ option_map reach_of (coordinates_where_some stations)
reach_where_some [] reach some is = absurd (omega (arith, some))
reach_where_some (s ∷ stations) reach some is = ap Some is
