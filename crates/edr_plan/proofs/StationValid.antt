-- What is planned for stations is a reply of series, and its coverages are valid.
use Rattle.std.proofs.Common.{All, Bool, List, None, Some, [], ap, arith, false, get_or, inl, inr, length, map, refl, subst, sym, true, ℕ, ℤ, ◌<◌, ◌∙◌, ◌∷◌, ◌≡◌, ◌≢◌}
use Rattle.std.specs.List.{filter, range_with_len}
use Rattle.std.specs.Prelude.{IsUtf8, option_map}
use Rattle.std.specs.declared.option.Option.{Option}
use Rattle.std.proofs.lemmas.Bool.{cases_lt}
use Rattle.std.proofs.lemmas.List.{get_or_past, length-map}
use Rattle.std.proofs.lemmas.List.Elements.{All-filter, All-map, filter_passes}
use Rattle.covjson_value.specs.Coverages.{IsRange, IsValid}
use Rattle.covjson_value.specs.declared.coverages.Coverage.{Coverage}
use Rattle.covjson_value.specs.declared.coverages.Parameter.{Parameter}
use Rattle.covjson_value.specs.declared.domains.Domain.{Domain}
use Rattle.covjson_write.specs.Writers.{IsHead}
use Rattle.edr_axes.specs.Axes.{value_at}
use Rattle.edr_base.specs.Limits.{AreSamples, HasSample}
use Rattle.edr_edition.specs.Editions.{IsCollection}
use Rattle.edr_edition.specs.Stores.{stations_of}
use Rattle.edr_edition.specs.Values.{CollectionValue}
use Rattle.edr_query.specs.Values.{QueryValue}
use Rattle.edr_select.specs.Checks.{stations_in}
use Rattle.edr_select.specs.Choices.{parameter_places}
use Rattle.edr_select.specs.DomainLaws.{no_tuples_at}
use Rattle.edr_select.specs.HeadLaws.{asked_are, asked_ascend, head_is}
use Rattle.edr_select.specs.KeptLaws.{all_below}
use Rattle.edr_select.specs.LevelLaws.{some_length}
use Rattle.edr_select.specs.Listings.{NumbersRise}
use Rattle.edr_select.specs.ParameterLaws.{parameter_at}
use Rattle.edr_select.specs.Planned.{parameters_at}
use Rattle.edr_select.specs.ReplyLaws.{sample_at}
use Rattle.edr_select.specs.RiseLaws.{numbers_rise}
use Rattle.edr_select.specs.Samples.{id_at}
use Rattle.edr_select.specs.Selections.{is_asked}
use Rattle.edr_select.specs.Series.{IsOfStation, IsSeries, IsSeriesReply, StationSeriesValue, place_of, series_coverage, series_range, series_value}
use Rattle.edr_station.specs.Stations.{IsStation, StationValue, nowhere, station_at}
use Rattle.edr_plan.specs.StationPlaces.{ChoiceValue, cells_by, choice_by, is_taken, takes_at}
use Rattle.edr_plan.specs.StationPlans.{all_series, domain_of, series_of, with_id}
use Rattle.edr_plan.proofs.ChosenPlaces.{domain_axes, domain_count}
use Rattle.edr_plan.proofs.StationCells.{passes_below, passes_chosen, passes_count, passes_rise}

-- a head of an id is a head
pub id_head : (id : List ℕ) (head : Coverage) → IsUtf8 id → IsHead head → IsHead (with_id id head)
id_head id head utf8 is =
    let v = is.valid in
    record {
      ranges = is.ranges;
      valid = record {
        id = utf8;
        axes = v.axes;
        tuples = v.tuples;
        referencing = v.referencing;
        vertical = v.vertical;
        some = v.some;
        parameters = v.parameters;
        ascending = v.ascending;
        as_many = v.as_many;
        ranges = v.ranges;
      };
    }

pub asked_below : (c : CollectionValue) (q : QueryValue) → All (λ p. p < length c.parameters) (parameter_places q.parameters c.parameters)
asked_below c q =
    All-filter (λ p. is_asked q.parameters (id_at c.parameters p)) (λ p. p < length c.parameters) (range_with_len 0 (length c.parameters))
    (all_below (length c.parameters))

-- the values of a parameter are samples
values_sample : (s : StationValue) → All AreSamples s.series → (p cell : ℕ) → HasSample (series_value s p (Some cell))
values_sample s samples p cell =
    elim (cases_lt p (length s.series)) [
      | inl inside ↦ sample_at (get_or s.series p []) cell (samples p [] inside)
      | inr past ↦ subst (λ (values : List (Option ℤ)). HasSample (get_or values cell None)) (sym (get_or_past s.series p [] past)) tt
    ]

places_are : (collection : CollectionValue) (q : QueryValue) (ks : List ℕ) → map place_of (map (series_of collection q) ks) ≡ ks
places_are collection q [] = refl
places_are collection q (k ∷ ks) = ap (λ (rest : List ℕ). k ∷ rest) (places_are collection q ks)

module _ (collection : CollectionValue) (q : QueryValue) (is : IsCollection collection)
    (some : parameter_places q.parameters collection.parameters ≢ []) where
  abbrev ps : List Parameter
  ps = collection.parameters

  abbrev ss : List StationValue
  ss = collection.stations

  abbrev asked : List ℕ
  asked = parameter_places q.parameters ps

  station_is : (k : ℕ) → k < length ss → IsStation (length ps) (station_at ss k)
  station_is k inside = is.stations.are.each k nowhere inside

  -- ---- the coverage of a station

  module _ (k : ℕ) (inside : k < length ss) (taken : is_taken collection q k ≡ true) where
    abbrev s : StationValue
    s = station_at ss k

    abbrev choice : ChoiceValue
    choice = choice_by s (takes_at collection q k)

    abbrev domain : Domain
    domain = domain_of s choice

    head_of : IsHead (series_of collection q k).head
    head_of =
        let parameters : 0 < length (parameters_at ps asked) = omega (arith, some_length asked some, length-map asked (parameter_at ps)) in
        id_head s.id _ (station_is k inside).placed.id.utf8
        (head_is (stations_in collection) domain (parameters_at ps asked) is.referencing (domain_axes s choice (passes_chosen s (takes_at collection q k) taken) (station_is k inside).placed)
        (no_tuples_at (map (value_at s.ts) choice.times) (option_map (λ zs. map (value_at zs) choice.levels) s.zs) (s.y, s.x)) parameters
        (asked_are q.parameters ps is.parameters.each) (asked_ascend q.parameters ps is.parameters.ascending))

    -- what is planned for it
    pub is_series : IsSeries asked (series_of collection q k)
    is_series = record {
      head = head_of;
      bare = refl;
      as_many = length-map asked (parameter_at ps);
      count = domain_count s choice (passes_chosen s (takes_at collection q k) taken) ∙ sym (passes_count s (takes_at collection q k));
      rise = passes_rise s (takes_at collection q k);
    }

    -- its values are samples
    value_sample : (p : ℕ) (cell : Option ℕ) → HasSample (series_value s p cell)
    value_sample p None = tt
    value_sample p (Some cell) = values_sample s (station_is k inside).has.samples p cell

    pub coverage_valid : IsValid (series_coverage ss asked (series_of collection q k))
    coverage_valid =
        let v = is_series.head.valid in
        record {
          id = v.id;
          axes = v.axes;
          tuples = v.tuples;
          referencing = v.referencing;
          vertical = v.vertical;
          some = v.some;
          parameters = v.parameters;
          ascending = v.ascending;
          as_many = length-map asked (series_range s (cells_by s (takes_at collection q k))) ∙ sym is_series.as_many;
          ranges = All-map (IsRange domain) (series_range s (cells_by s (takes_at collection q k))) asked (λ i d l. record {
            count = length-map (cells_by s (takes_at collection q k)) (series_value s (get_or asked i d)) ∙ sym is_series.count;
            samples = All-map HasSample (series_value s (get_or asked i d)) (cells_by s (takes_at collection q k)) (λ j e m. value_sample (get_or asked i d) (get_or (cells_by s (takes_at collection q k)) j e));
          });
        }

  pub of_station : (k : ℕ) → k < length ss → IsOfStation (stations_of ps ss) (series_of collection q k)
  of_station k inside = record { station = inside; first = refl; blocks = refl; cells = passes_below (station_at ss k) (takes_at collection q k) }

  -- ---- the reply

  abbrev places : List ℕ
  places = filter (is_taken collection q) (range_with_len 0 (length ss))

  below : All (λ k. k < length ss) places
  below = All-filter (is_taken collection q) (λ k. k < length ss) (range_with_len 0 (length ss)) (all_below (length ss))

  each_taken : All (λ k. is_taken collection q k ≡ true) places
  each_taken = filter_passes (is_taken collection q) (range_with_len 0 (length ss))

  pub each_of_station : All (IsOfStation (stations_of ps ss)) (all_series collection q)
  each_of_station = All-map (IsOfStation (stations_of ps ss)) (series_of collection q) places (λ i d l. of_station (get_or places i d) (below i d l))

  -- a reply of these
  pub reply_is : (many : Bool) → (many ≡ false → length places ≡ 1) → IsSeriesReply (record { parameters = asked; many = many; series = all_series collection q })
  reply_is many one = record {
    parameters = numbers_rise (λ p. is_asked q.parameters (id_at ps p)) 0 (length ps);
    series = All-map (IsSeries asked) (series_of collection q) places (λ i d l. is_series (get_or places i d) (below i d l) (each_taken i d l));
    rise = subst NumbersRise (sym (places_are collection q places)) (numbers_rise (is_taken collection q) 0 (length ss));
    alone = λ e. length-map places (series_of collection q) ∙ one e;
  }

  -- its coverages are valid
  pub coverages_valid : All IsValid (map (series_coverage ss asked) (all_series collection q))
  coverages_valid =
      All-map IsValid (series_coverage ss asked) (all_series collection q)
      (All-map (λ (series : StationSeriesValue). IsValid (series_coverage ss asked series)) (series_of collection q) places
      (λ i d l. coverage_valid (get_or places i d) (below i d l) (each_taken i d l)))
