-- The coverages of stations, one after the other.
use Rattle.std.proofs.Common.{All, List, [], ap, append-nil, ap₂, arith, cond, drop, false, get_or, length, subst, sym, take, true, ℕ, ◌*◌, ◌++◌, ◌+◌, ◌/◌, ◌<◌, ◌∙◌, ◌∷◌, ◌≡◌, ◌≢◌}
use Rattle.std.specs.List.{flat_map}
use Rattle.std.specs.declared.option.Option.{Option}
use Rattle.std.proofs.lemmas.Grind.{flat_map-append}
use Rattle.std.proofs.lemmas.List.{take-append-drop}
use Rattle.edr_axes.specs.Axes.{axis_length}
use Rattle.edr_edition.specs.Stores.{stations_of}
use Rattle.edr_edition.specs.Values.{CollectionValue}
use Rattle.edr_query.specs.Values.{QueryValue}
use Rattle.edr_select.specs.Choices.{parameter_places}
use Rattle.edr_select.specs.LevelLaws.{some_length}
use Rattle.edr_select.specs.Series.{StationSeriesValue}
use Rattle.edr_station.specs.Blocks.{Within, block_of, blocks_of, first_block, place_at}
use Rattle.edr_station.specs.Stations.{station_at}
use Rattle.edr_plan.specs.StationPlaces.{ChoiceValue, cells_by, choice_by, is_taken, takes_at}
use Rattle.edr_plan.specs.StationPlans.{GatheredValue, IsChoiceOf, IsGathered, IsTooMany, has_room, series_of, series_where_taken, series_with, value_count, with_series}
use Rattle.edr_plan.proofs.StationCells.{more_taken, passes_count}
use Rattle.edr_plan.proofs.StationHeads.{places}
use Rattle.edr_plan.proofs.StationSizes.{no_room, room_is, too_many_front}
use Rattle.edr_plan.proofs.StationStacks.{cells_are}

-- ---- the coverage of a station

some_below : (xs : List ℕ) (n : ℕ) → xs ≢ [] → All (λ x. x < n) xs → 0 < n
some_below xs n some below = omega (arith, below 0 0 (some_length xs some))

-- of a station of which something is taken the first parameter has a first value
pub first_within : (c : CollectionValue) (parameters : List ℕ) (k : ℕ) (choice : ChoiceValue) → parameters ≢ [] → All (λ p. p < length c.parameters) parameters
    → k < length c.stations → IsChoiceOf (station_at c.stations k) choice → Within (stations_of c.parameters c.stations) (place_at k 0 0 0)
first_within c parameters k choice some below inside is =
    record {
      station = inside;
      parameter = some_below parameters (length c.parameters) some below;
      time = some_below choice.times (length (station_at c.stations k).ts) is.times is.times_in;
      level = some_below choice.levels (axis_length (station_at c.stations k).zs) is.levels is.levels_in;
    }

-- its block is the station's first
pub first_is : (c : CollectionValue) (k : ℕ) → block_of (stations_of c.parameters c.stations) (place_at k 0 0 0) ≡ first_block (stations_of c.parameters c.stations) k
first_is c k = none (first_block (stations_of c.parameters c.stations) k) (blocks_of (station_at c.stations k)) (axis_length (station_at c.stations k).zs)
  where
    none : (first blocks levels : ℕ) → first + 0 * blocks + (0 * levels + 0) / 256 ≡ first
    none first blocks levels = omega arith

-- ---- a station more

-- nothing is taken of it
pub none_more : (collection : CollectionValue) (q : QueryValue) (k : ℕ) (old : List StationSeriesValue) → is_taken collection q k ≡ false
    → old ≡ old ++ series_where_taken collection q k
none_more collection q k old none =
    sym (append-nil old) ∙ ap (λ (more : List StationSeriesValue). old ++ more) (sym (ap (λ b. cond b (series_of collection q k ∷ []) []) none))

module _ (collection : CollectionValue) (q : QueryValue) (k : ℕ) (parameters : List ℕ) (asked : parameters ≡ parameter_places q.parameters collection.parameters)
    (taken : is_taken collection q k ≡ true) (choice : ChoiceValue) (is : choice ≡ choice_by (station_at collection.stations k) (takes_at collection q k)) where
  abbrev planned : StationSeriesValue
  planned = series_of collection q k

  where_is : planned ∷ [] ≡ series_where_taken collection q k
  where_is = sym (ap (λ b. cond b (planned ∷ []) []) taken)

  -- as many values as the times and levels say
  count_is : value_count (length parameters) (length choice.times) (length choice.levels) ≡ length parameters * length planned.cells
  count_is =
      ap (λ n. length parameters * n)
      (ap (λ (c : ChoiceValue). length c.times * length c.levels) is ∙ sym (passes_count (station_at collection.stations k) (takes_at collection q k)))

  module _ (gathered : GatheredValue) (values : ℕ) (so_far : IsGathered (length parameters) gathered)
      (counted : values ≡ value_count (length parameters) (length choice.times) (length choice.levels)) where
    -- there is no room for it
    pub too_many_with : has_room gathered values ≡ false → IsTooMany (length parameters) (gathered.series ++ series_where_taken collection q k)
    too_many_with full =
        subst (λ (more : List StationSeriesValue). IsTooMany (length parameters) (gathered.series ++ more)) where_is
        (no_room (length parameters) gathered planned values so_far full (counted ∙ count_is))

    -- there is
    pub added : (one : StationSeriesValue) (cells : List (Option ℕ)) (new : GatheredValue) → has_room gathered values ≡ true
        → one ≡ series_with collection parameters k choice cells → cells ≡ cells_by (station_at collection.stations k) (takes_at collection q k)
        → new ≡ with_series gathered one values
        → (new.series ≡ gathered.series ++ series_where_taken collection q k) × IsGathered (length parameters) new
    added one cells new room is_one cells_are is_new =
        let one_is : one ≡ planned =
        is_one
        ∙ (ap₂ (λ (ps : List ℕ) (c : ChoiceValue). series_with collection ps k c cells) asked is
        ∙ ap (series_with collection (parameter_places q.parameters collection.parameters) k (choice_by (station_at collection.stations k) (takes_at collection q k))) cells_are) in
        let new_is : new ≡ with_series gathered planned values = is_new ∙ ap (λ (s : StationSeriesValue). with_series gathered s values) one_is in (
          ap (λ (g : GatheredValue). g.series) new_is ∙ ap (λ (more : List StationSeriesValue). gathered.series ++ more) where_is,
          subst (IsGathered (length parameters)) (sym new_is) (room_is (length parameters) gathered planned values so_far room (counted ∙ count_is)),
        )

-- ---- one station after the other

-- what is too many at some of the places is too many at all of them
pub too_many_then : (n : ℕ) (f : ℕ → List StationSeriesValue) (places : List ℕ) (i d : ℕ) (old : List StationSeriesValue) → i < length places
    → old ≡ flat_map f (take i places) → IsTooMany n (old ++ f (get_or places i d)) → IsTooMany n (flat_map f places)
too_many_then n f places i d old inside so_far many =
    subst (IsTooMany n) (sym (flat_map-append f (take (i + 1) places) (drop (i + 1) places)) ∙ ap (flat_map f) (take-append-drop (i + 1) places))
    (too_many_front n (flat_map f (take (i + 1) places)) (flat_map f (drop (i + 1) places)) (subst (IsTooMany n) (more_taken f places i d old inside so_far) many))
