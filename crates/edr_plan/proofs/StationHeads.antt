-- The heads of a reply's coverages of stations, by the stations' places.
use Rattle.std.proofs.Common.{Bool, List, Some, [], ap, ap₂, arith, get_or, length, map, refl, suc, sym, ℕ, ℤ, ◌+◌, ◌<◌, ◌∙◌, ◌∷◌, ◌≡◌, ◌≢◌}
use Rattle.std.specs.List.{filter, range_with_len}
use Rattle.std.specs.Prelude.{◌&&◌}
use Rattle.std.specs.declared.option.Option.{Option}
use Rattle.covjson_value.specs.declared.coverages.Parameter.{Parameter}
use Rattle.covjson_value.specs.declared.domains.Domain.{Domain}
use Rattle.edr_edition.specs.Editions.{IsCollection}
use Rattle.edr_edition.specs.Values.{CollectionValue}
use Rattle.edr_query.specs.Values.{QueryValue}
use Rattle.edr_query.specs.declared.shapes.Shape.{Shape}
use Rattle.edr_select.specs.Checks.{stations_in}
use Rattle.edr_select.specs.Choices.{parameter_places}
use Rattle.edr_select.specs.Heads.{Head, domain_at, heads_of_stations, is_some_stored, of_station}
use Rattle.edr_select.specs.KeptLaws.{kept_agree, kept_below}
use Rattle.edr_select.specs.ListLaws.{filter-map, map-map, map_agree_in}
use Rattle.edr_select.specs.Samples.{Stored, id_at}
use Rattle.edr_select.specs.Selections.{is_asked, picked, takes, takes_each}
use Rattle.edr_select.specs.Wanted.{levels_asked, takes_level, takes_place, takes_time}
use Rattle.edr_station.specs.Stations.{StationValue, nowhere, station_at}
use Rattle.edr_plan.specs.StationPlaces.{choice_by, is_taken, stored_in, takes_at}
use Rattle.edr_plan.specs.StationPlans.{domain_of}
use Rattle.edr_plan.proofs.SelectedAxes.{levels_are, some_own, times_are}
use Rattle.edr_plan.proofs.SelectedStations.{SelectsBy}
use Rattle.edr_query.specs.declared.shapes.Shape.TheVariants as at
use Rattle.edr_select.specs.Heads as heads

-- ---- lists by places

pub read_from : {V : Type 0} (d : V) (whole : List V) (a : ℕ) (xs : List V) → ((k : ℕ) → k < length xs → get_or whole (a + k) d ≡ get_or xs k d)
    → map (λ k. get_or whole k d) (range_with_len a (length xs)) ≡ xs
read_from d whole a [] same = refl
read_from d whole a (x ∷ xs) same =
    ap₂ (λ v r. v ∷ r) (ap (λ k. get_or whole k d) (none a) ∙ same 0 (omega arith)) (read_from d whole (a + 1) xs (λ k h. ap (λ m. get_or whole m d) (next a k) ∙ same (suc k) (omega arith)))
  where
    none : (a : ℕ) → a ≡ a + 0
    none a = omega arith

    next : (a k : ℕ) → (a + 1) + k ≡ a + suc k
    next a k = omega arith

-- the stations that pass a test, by their places
pub stations_by_places : (t : StationValue → Bool) (ss : List StationValue)
    → filter t ss ≡ map (station_at ss) (filter (λ k. t (station_at ss k)) (range_with_len 0 (length ss)))
stations_by_places t ss =
    ap (filter t) (sym (read_from nowhere ss 0 ss (λ k h. ap (station_at ss) (zero_more k)))) ∙ filter-map t (station_at ss) (range_with_len 0 (length ss))
  where
    zero_more : (k : ℕ) → 0 + k ≡ k
    zero_more k = omega arith

-- ---- what a query selects

module _ (c : CollectionValue) (q : QueryValue) (k p t z : ℕ) where
  abbrev sample : ℕ → Stored
  sample p = stored_in c.parameters c.stations k p t z

  -- the parameter doesn't matter to what is taken
  place_same : (shape : Shape) → takes_place (stations_in c).held shape (sample p) ≡ takes_place (stations_in c).held shape (sample 0)
  place_same (at.Position geometry) = refl
  place_same (at.Radius geometry within) = refl
  place_same (at.Area geometry) = refl
  place_same (at.Cube lo hi levels) = refl
  place_same (at.Trajectory geometry) = refl
  place_same (at.Corridor geometry width height) = refl
  place_same (at.Location id) = refl

  each_same : takes_each (stations_in c) q (sample p) ≡ takes_each (stations_in c) q (sample 0)
  each_same = ap (λ b. takes_time q.times (sample 0).sample.at.t && (takes_level (levels_asked q) (sample 0).sample.at.z && b)) (place_same q.shape)

  takes_same : (shape : Shape) → takes (stations_in c) q shape (sample p) ≡ takes (stations_in c) q shape (sample 0)
  takes_same (at.Position geometry) = each_same
  takes_same (at.Radius geometry within) = each_same
  takes_same (at.Area geometry) = each_same
  takes_same (at.Cube lo hi levels) = each_same
  takes_same (at.Trajectory geometry) = refl
  takes_same (at.Corridor geometry width height) = refl
  takes_same (at.Location id) = each_same

-- so it selects by its parameters and by this test
pub station_selects : (c : CollectionValue) (q : QueryValue) → SelectsBy (stations_in c) q c.parameters c.stations (takes_at c q)
station_selects c q k p t z = ap (λ b. is_asked q.parameters (id_at c.parameters p) && b) (takes_same c q k p t z q.shape)

-- ---- heads

-- the head of a station with what is taken of it
abbrev pub head_of_taken : CollectionValue → QueryValue → ℕ → Head
head_of_taken c q k =
    let s = station_at c.stations k in
    record { id = Some s.id; domain = domain_of s (choice_by s (takes_at c q k)) }

abbrev head_with : StationValue → Domain → Head
head_with station domain = record { id = Some station.id; domain = domain }

module _ (collection : CollectionValue) (q : QueryValue) (is : IsCollection collection) (some : parameter_places q.parameters collection.parameters ≢ []) where
  abbrev ps : List Parameter
  ps = collection.parameters

  abbrev ss : List StationValue
  ss = collection.stations

  abbrev picks : List Stored
  picks = picked (stations_in collection) q

  selects : SelectsBy (stations_in collection) q ps ss (takes_at collection q)
  selects = station_selects collection q

  -- the places of the stations that something is taken of
  abbrev pub places : List ℕ
  places = filter (is_taken collection q) (range_with_len 0 (length ss))

  some_is : (k : ℕ) → k < length ss → is_some_stored (of_station (station_at ss k).id picks) ≡ is_taken collection q k
  some_is k inside = some_own (stations_in collection) q ps ss refl is.stations.are.each (takes_at collection q) selects is.stations.are.ascending k inside some

  head_is : (k : ℕ) → k < length ss → heads.head_of_station picks (station_at ss k) ≡ head_of_taken collection q k
  head_is k inside =
      let station : StationValue = station_at ss k in
      ap₂ (λ (ts : List ℤ) (zs : Option (List ℤ)). head_with station (domain_at ts zs (station.y, station.x)))
      (times_are (stations_in collection) q ps ss refl is.stations.are.each (takes_at collection q) selects is.stations.are.ascending k inside some)
      (levels_are (stations_in collection) q ps ss refl is.stations.are.each (takes_at collection q) selects is.stations.are.ascending k inside some)

  -- the heads, by the stations' places
  pub heads_are : heads_of_stations ss picks ≡ map (head_of_taken collection q) places
  heads_are =
      ap (map (heads.head_of_station picks)) (stations_by_places (λ (station : StationValue). is_some_stored (of_station station.id picks)) ss)
      ∙ (map-map (heads.head_of_station picks) (station_at ss) (filter (λ k. is_some_stored (of_station (station_at ss k).id picks)) (range_with_len 0 (length ss)))
      ∙ (ap (map (λ k. heads.head_of_station picks (station_at ss k)))
      (kept_agree (λ k. is_some_stored (of_station (station_at ss k).id picks)) (is_taken collection q) 0 (length ss) (λ k low high. some_is k (omega (arith, high))))
      ∙ map_agree_in (λ k. heads.head_of_station picks (station_at ss k)) (head_of_taken collection q) places
      (λ k m. head_is k (kept_below (is_taken collection q) (length ss) k m))))
