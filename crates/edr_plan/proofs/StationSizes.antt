-- How many values and coverages the stations along a corridor have that are gathered so far.
use Rattle.std.proofs.Common.{List, [], ap, ap₂, arith, false, inl, inr, length, length-append, map, refl, suc, sum_by, sym, true, zero-mul, ℕ, ◌*◌, ◌++◌, ◌+◌, ◌<◌, ◌∙◌, ◌∷◌, ◌≡◌}
use Rattle.std.specs.Prelude.{nat_le, nat_lt, ◌&&◌}
use Rattle.std.specs.declared.option.Option.{Option}
use Rattle.std.proofs.lemmas.Bool.{and_cases, and_parts, leb-false, leb-true, ltb-false, ltb-true}
use Rattle.std.proofs.lemmas.Bool.Decides.{nat_tests}
use Rattle.std.proofs.lemmas.List.{length-map}
use Rattle.std.proofs.lemmas.List.Sums.{sum_by-append, sum_by-cons, sum_by_push}
use Rattle.covjson_value.specs.declared.coverages.Coverage.{Coverage}
use Rattle.covjson_value.specs.declared.coverages.NdArray.{NdArray}
use Rattle.edr_select.specs.Limits.{coverage_limit, value_limit}
use Rattle.edr_select.specs.Series.{StationSeriesValue, series_coverage, series_range, series_value}
use Rattle.edr_station.specs.Stations.{StationValue, station_at}
use Rattle.edr_plan.specs.StationPlans.{GatheredValue, IsGathered, IsTooMany, has_room, values_of_series, with_series}

abbrev values_of_one : ℕ → StationSeriesValue → ℕ
values_of_one n s = n * length s.cells

-- ---- coverages one after the other

values_append : (n : ℕ) (xs ys : List StationSeriesValue) → values_of_series n (xs ++ ys) ≡ values_of_series n xs + values_of_series n ys
values_append n xs ys = sum_by-append (values_of_one n) xs ys

values_push : (n : ℕ) (xs : List StationSeriesValue) (s : StationSeriesValue) → values_of_series n (xs ++ s ∷ []) ≡ values_of_series n xs + n * length s.cells
values_push n xs s = sum_by_push (values_of_one n) xs s

-- the first of them have no more
pub too_many_front : (n : ℕ) (xs ys : List StationSeriesValue) → IsTooMany n xs → IsTooMany n (xs ++ ys)
too_many_front n xs ys (inl values) = inl (omega (arith, values, values_append n xs ys))
too_many_front n xs ys (inr coverages) = inr (omega (arith, coverages, length-append xs ys))

-- ---- a coverage more

push_length : (xs : List StationSeriesValue) (s : StationSeriesValue) → length (xs ++ s ∷ []) ≡ length xs + 1
push_length xs s = length-append xs (s ∷ [])

pub room_is : (n : ℕ) (g : GatheredValue) (s : StationSeriesValue) (v : ℕ) → IsGathered n g → has_room g v ≡ true → v ≡ n * length s.cells
    → IsGathered n (with_series g s v)
room_is n g s v is room same =
    let parts = and_parts (nat_le (g.values + v) value_limit) (nat_lt (length g.series) coverage_limit) room in
    let values : g.values + v ≡ values_of_series n (g.series ++ s ∷ []) = ap₂ (λ a b. a + b) is.values same ∙ sym (values_push n g.series s) in
    record {
      values = values;
      few = record {
        values = omega (arith, sym values, leb-true (g.values + v) value_limit parts.0);
        coverages = omega (arith, push_length g.series s, ltb-true (length g.series) coverage_limit parts.1);
      };
    }

pub no_room : (n : ℕ) (g : GatheredValue) (s : StationSeriesValue) (v : ℕ) → IsGathered n g → has_room g v ≡ false → v ≡ n * length s.cells
    → IsTooMany n (g.series ++ s ∷ [])
no_room n g s v is room same =
    let values : g.values + v ≡ values_of_series n (g.series ++ s ∷ []) = ap₂ (λ a b. a + b) is.values same ∙ sym (values_push n g.series s) in
    elim (and_cases (nat_le (g.values + v) value_limit) (nat_lt (length g.series) coverage_limit) room) [
      | inl above ↦ inl (omega (arith, sym values, leb-false (g.values + v) value_limit above))
      | inr full ↦ inr (omega (arith, push_length g.series s, ltb-false (length g.series) coverage_limit full))
    ]

-- more values than a reply has find no room
pub none_fit : (g : GatheredValue) (v : ℕ) → value_limit < v → has_room g v ≡ false
none_fit g v above = ap (λ b. b && nat_lt (length g.series) coverage_limit) (le_false (g.values + v) value_limit (omega (arith, above)))
  where
    le_false : (a b : ℕ) → b < a → nat_le a b ≡ false
    le_false a b h = grind (arith, nat_tests, h)

-- ---- the sizes of coverages

abbrev size_of_range : NdArray → ℕ
size_of_range range = length range.values

abbrev size_of_coverage : Coverage → ℕ
size_of_coverage coverage = sum_by size_of_range coverage.ranges

ranges_size : (s : StationValue) (cells : List (Option ℕ)) (parameters : List ℕ) → sum_by size_of_range (map (series_range s cells) parameters) ≡ length parameters * length cells
ranges_size s cells [] = sym (zero-mul (length cells))
ranges_size s cells (p ∷ parameters) =
    sum_by-cons size_of_range (series_range s cells p) (map (series_range s cells) parameters)
    ∙ (ap₂ (λ a b. a + b) (length-map cells (series_value s p)) (ranges_size s cells parameters) ∙ more (length cells) (length parameters))
  where
    more : (n m : ℕ) → n + m * n ≡ suc m * n
    more n m = omega arith

-- coverages of stations have a value for each parameter and cell
pub sizes_are : (stations : List StationValue) (parameters : List ℕ) (series : List StationSeriesValue)
    → sum_by (λ (coverage : Coverage). sum_by (λ (range : NdArray). length range.values) coverage.ranges) (map (series_coverage stations parameters) series)
    ≡ values_of_series (length parameters) series
sizes_are stations parameters [] = refl
sizes_are stations parameters (s ∷ series) =
    sum_by-cons size_of_coverage (series_coverage stations parameters s) (map (series_coverage stations parameters) series)
    ∙ (ap₂ (λ a b. a + b) (ranges_size (station_at stations s.station) s.cells parameters) (sizes_are stations parameters series)
    ∙ sym (sum_by-cons (values_of_one (length parameters)) s series))
