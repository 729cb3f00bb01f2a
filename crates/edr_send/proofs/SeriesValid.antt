-- The coverages of a reply over stations are valid.
use Rattle.std.proofs.Common.{ℕ, List, [], length, get_or, All, ℤ, Option, None, Some, sym, ◌∙◌, subst, inl, inr}
use Rattle.std.specs.Prelude.{map}
use Rattle.std.proofs.lemmas.Bool.{cases_lt}
use Rattle.std.proofs.lemmas.List.{length-map, get_or_past}
use Rattle.std.proofs.lemmas.List.Elements.{All-nil, All-map}
use Rattle.edr_base.specs.Limits.{AreSamples, HasSample}
use Rattle.covjson_value.specs.Coverages.{IsRange, IsValid}
use Rattle.edr_station.specs.Stations.{StationValue, StationsValue, IsStation, AreStations, nowhere}
use Rattle.edr_station.specs.Blocks.{series_at}
use Rattle.edr_select.specs.ReplyLaws.{sample_at}
use Rattle.edr_select.specs.Series.{StationSeriesValue, IsSeries, IsOfStation, series_value, series_range, series_coverage}
use Rattle.edr_send.specs.SeriesTexts.{station_of}

-- the samples of a station's parameter
samples_in : (parameters : ℕ) (s : StationValue) → IsStation parameters s → (p : ℕ) → AreSamples (series_at s p)
samples_in parameters s is p = elim (cases_lt p (length s.series)) [
  | inl inside ↦ is.has.samples p [] inside
  | inr past ↦ subst (λ (values : List (Option ℤ)). AreSamples values) (sym (get_or_past s.series p [] past)) (All-nil HasSample)
]

-- a value at a place, or at none, is one
value_sample : (parameters : ℕ) (s : StationValue) → IsStation parameters s → (p : ℕ) (cell : Option ℕ) → HasSample (series_value s p cell)
value_sample parameters s is p None = tt
value_sample parameters s is p (Some cell) = sample_at (series_at s p) cell (samples_in parameters s is p)

module _ (collection : StationsValue) (stand : AreStations collection) where
  range_valid : (parameters : List ℕ) (series : StationSeriesValue) → IsSeries parameters series → IsOfStation collection series → (p : ℕ)
      → IsRange series.head.domain (series_range (station_of collection series) series.cells p)
  range_valid parameters series is of p = record {
    count = length-map series.cells (series_value (station_of collection series) p) ∙ sym is.count;
    samples = All-map HasSample (series_value (station_of collection series) p) series.cells
        (λ k d l. value_sample collection.parameters (station_of collection series) (stand.each series.station nowhere of.station) p (get_or series.cells k d));
  }

  coverage_valid : (parameters : List ℕ) (series : StationSeriesValue) → IsSeries parameters series → IsOfStation collection series → IsValid (series_coverage collection.stations parameters series)
  coverage_valid parameters series is of =
      let v = is.head.valid in
      record {
        id = v.id;
        axes = v.axes;
        tuples = v.tuples;
        referencing = v.referencing;
        vertical = v.vertical;
        some = v.some;
        parameters = v.parameters;
        ascending = v.ascending;
        as_many = length-map parameters (series_range (station_of collection series) series.cells) ∙ sym is.as_many;
        ranges = All-map (IsRange series.head.domain) (series_range (station_of collection series) series.cells) parameters (λ k d l. range_valid parameters series is of (get_or parameters k d));
      }

  pub coverages_valid : (parameters : List ℕ) (all : List StationSeriesValue) → All (IsSeries parameters) all → All (IsOfStation collection) all → All IsValid (map (series_coverage collection.stations parameters) all)
  coverages_valid parameters all are of =
      All-map IsValid (series_coverage collection.stations parameters) all (λ k d l. coverage_valid parameters (get_or all k d) (are k d l) (of k d l))
