-- What the series of one place is as a station.
use Rattle.std.proofs.Common.{◌≡◌, ◌≢◌, ◌⊎◌, inl, inr, ℕ, suc, ◌*◌, ◌≤◌, ℤ, Bool, true, false, ◌==◌, ◌&&◌, is_some, List, [], ◌∷◌, length, All, Any, Contains, Option, Some, None, IfSome, IsSome, IsNone, IsTrue, MatchOption, ◌↔◌, IsUtf8, refl, sym, ap, ◌∙◌, subst, arith}
use denote.Ref.{Bor}
use Rattle.std.proofs.lemmas.Bool.{and_parts, eqb-true}
use Rattle.std.proofs.lemmas.List.{length-map}
use Rattle.std.proofs.lemmas.List.Elements.{All-nil, All-cons, All-map, All-weaker}
use Rattle.edr_base.specs.Limits.{node_limit, IsCoordinate, AreSamples}
use Rattle.edr_base.specs.Names.{IsName}
use Rattle.edr_axes.specs.Instants.{IsTime}
use Rattle.covjson_value.specs.declared.domains.CoordinateName.{CoordinateName}
use Rattle.covjson_value.specs.declared.domains.CoordinateName.TheVariants.{T, Z, Y, X}
use Rattle.covjson_value.specs.declared.domains.Domain.{Domain}
use Rattle.covjson_value.specs.declared.domains.Domain.TheVariants.{Grid, Point, PointSeries, VerticalProfile, MultiPoint, Trajectory}
use Rattle.covjson_value.specs.declared.coverages.NdArray.{NdArray}
use Rattle.covjson_value.specs.declared.coverages.Coverage.{Coverage}
use Rattle.covjson_value.specs.Domains.{axis_of, has_axis, tuples_of, count_of}
use Rattle.edr_axes.specs.Axes.{axis_length}
use Rattle.covjson_value.specs.Samples.{values_or_none}
use Rattle.covjson_value.specs.Coverages.{IsAxisValue, IsNamedAxis, IsRange, IsValid, range_values}
use Rattle.covjson_value.specs.CountLaws.{count_is}
use Rattle.edr_ids.specs.Ids.{without_id}
use Rattle.edr_station.specs.Stations.{StationValue, IsAxisWithin, IsStation, station_id, values_along}
use Rattle.edr_station.specs.declared.inputs.StationInput.{StationInput}
use Rattle.edr_station.specs.Inputs as inputs
use Rattle.edr_station.specs.Inputs.{IsInput, HasCounts}
use Rattle.edr_edition.specs.Values.{CollectionValue}
use Rattle.edr_edition.specs.Editions.{AreAlike}
use Rattle.edr_edition.specs.CollectionLaws.{All-without_id}
use Rattle.edr_draft.specs.Changes.{as_station}
use Rattle.edr_draft.specs.Steps.{Fits}
use Rattle.edr_draft.specs.Series.{is_at_one_place, IsTimedSeries, first_of, station_of, input_over}

-- ---- the axes of one place

-- each of x and y has one value, and times are there
pub record HasOnePlace (domain : Domain) : Type 0 where
  pub ts : List ℤ
  pub times : axis_of domain T ≡ Some ts
  pub rows : axis_length (axis_of domain Y) ≡ 1
  pub columns : axis_length (axis_of domain X) ≡ 1
  pub tuples : axis_length (tuples_of domain) ≡ 1

ones : (a b : ℕ) → ((a == 1) && (b == 1)) ≡ true → (a ≡ 1) × (b ≡ 1)
ones a b h = (let parts = and_parts (a == 1) (b == 1) h in (eqb-true a 1 parts.0, eqb-true b 1 parts.1))

one_place : (domain : Domain) → is_at_one_place domain ≡ true → has_axis domain T ≡ true → HasOnePlace domain
one_place (Grid (Some t) z y x) place times =
    let one = ones (length y) (length x) place in record { ts = t; times = refl; rows = one.0; columns = one.1; tuples = refl }
one_place (Grid None z y x) place times = cc
one_place (Point t z y x) place times = cc
one_place (PointSeries t z y x) place times = record { ts = t; times = refl; rows = refl; columns = refl; tuples = refl }
one_place (VerticalProfile t z y x) place times = cc
one_place (MultiPoint t has_z spots) place times = cc
one_place (Trajectory z has_z steps) place times = cc

-- of a grid of one y, x alone tells
pub one_row : (domain : Domain) (t z : Option (List ℤ)) (y x : List ℤ) (rows columns : ℕ) → domain ≡ Grid t z y x → rows ≡ length y → rows ≡ 1 → columns ≡ length x
    → (columns == 1) ≡ is_at_one_place domain
one_row domain t z y x rows columns is own one other =
    subst (λ (d : Domain). (columns == 1) ≡ is_at_one_place d) (sym is)
    (ap (λ n. n == 1) other ∙ ap (λ n. (n == 1) && (length x == 1)) (sym one ∙ own))

levels_same : (axis : Option (List ℤ)) → axis_length axis ≡ axis_length axis
levels_same None = refl
levels_same (Some zs) = refl

module _ (id label : List ℕ) (coverage : Coverage) (series : IsTimedSeries coverage) where
  abbrev domain : Domain
  domain = coverage.domain

  abbrev s : StationValue
  s = station_of id label coverage

  place : HasOnePlace domain
  place = one_place domain series.place series.times

  -- as many values as the domain has
  pub series_count : count_of domain ≡ values_along s
  series_count =
      let times : axis_length (axis_of domain T) ≡ length (values_or_none (axis_of domain T)) =
      subst (λ (o : Option (List ℤ)). axis_length o ≡ length (values_or_none o)) (sym place.times) refl in
      let product : (t z : ℕ) → t * (z * (1 * (1 * 1))) ≡ t * z = λ t z. omega arith in
      count_is domain
      ∙ (ap (λ n. axis_length (axis_of domain T) * (axis_length (axis_of domain Z) * (n * (axis_length (axis_of domain X) * axis_length (tuples_of domain))))) place.rows
      ∙ (ap (λ n. axis_length (axis_of domain T) * (axis_length (axis_of domain Z) * (1 * (n * axis_length (tuples_of domain))))) place.columns
      ∙ (ap (λ n. axis_length (axis_of domain T) * (axis_length (axis_of domain Z) * (1 * (1 * n)))) place.tuples
      ∙ (product (axis_length (axis_of domain T)) (axis_length (axis_of domain Z))
      ∙ (ap (λ t. t * axis_length (axis_of domain Z)) times ∙ ap (λ z. length (values_or_none (axis_of domain T)) * z) (sym (levels_same (axis_of domain Z))))))))

  first_is : (axis : Option (List ℤ)) → axis_length axis ≡ 1 → IfSome axis (λ values. All IsCoordinate values) → IsCoordinate (first_of axis)
  first_is None one all = omega arith
  first_is (Some (value ∷ values)) one all = all 0 value (omega (arith, one))
  first_is (Some []) one all = absurd (omega (arith, one))

  axis_within : (name : CoordinateName) (axis : Option (List ℤ)) → IfSome axis (IsNamedAxis name) → IfSome axis (λ values. All (IsAxisValue name) values)
  axis_within name None is = tt
  axis_within name (Some values) is = is.within

  times_within : (axis : Option (List ℤ)) (ts : List ℤ) → axis ≡ Some ts → IfSome axis (IsNamedAxis T) → IsAxisWithin IsTime (values_or_none axis)
  times_within None ts there is = cc
  times_within (Some values) ts there is = record { axis = is.ascending; within = is.within }

  levels_within : (axis : Option (List ℤ)) → IfSome axis (IsNamedAxis Z) → IfSome axis (IsAxisWithin IsCoordinate)
  levels_within None is = tt
  levels_within (Some values) is = record { axis = is.ascending; within = is.within }

  range_long : (range : NdArray) → IsRange domain range → length range.values ≡ values_along s
  range_long range is = is.count ∙ series_count

  -- it is a station of as many parameters
  pub series_is_station : IsName id → IsUtf8 label → IsStation (length coverage.parameters) s
  series_is_station named text = record {
    placed = record {
      id = named;
      label = text;
      x = first_is (axis_of domain X) place.columns (axis_within X (axis_of domain X) (series.valid.axes X));
      y = first_is (axis_of domain Y) place.rows (axis_within Y (axis_of domain Y) (series.valid.axes Y));
      ts = times_within (axis_of domain T) place.ts place.times (series.valid.axes T);
      zs = levels_within (axis_of domain Z) (series.valid.axes Z);
    };
    has = record {
      many = length-map coverage.ranges range_values ∙ series.valid.as_many;
      long = All-map (λ (values : List (Option ℤ)). length values ≡ values_along s) range_values coverage.ranges
          (All-weaker (IsRange domain) (λ (range : NdArray). length range.values ≡ values_along s) range_long coverage.ranges series.valid.ranges);
      samples = All-map AreSamples range_values coverage.ranges
          (All-weaker (IsRange domain) (λ (range : NdArray). AreSamples range.values) (λ range is. is.samples) coverage.ranges series.valid.ranges);
    };
  }

  pub series_few : values_along s ≤ node_limit
  series_few = subst (λ n. n ≤ node_limit) series_count series.few

-- ---- whether levels differ

same_or_not : (a b : Bool) → (a ≡ b) ⊎ (a ≢ b)
same_or_not true true = inl refl
same_or_not true false = inr (λ h. cc)
same_or_not false true = inr (λ h. cc)
same_or_not false false = inl refl

module _ (coverage : Coverage) where
  abbrev Differs : StationValue → Type 0
  Differs s = is_some s.zs ≢ has_axis coverage.domain Z

  abbrev Same : StationValue → Type 0
  Same s = is_some s.zs ≡ has_axis coverage.domain Z

  all_or_any : (stations : List StationValue) → All Same stations ⊎ Any Differs stations
  all_or_any [] = inl (All-nil Same)
  all_or_any (s ∷ stations) = elim (same_or_not (is_some s.zs) (has_axis coverage.domain Z)) [
    | inr differs ↦ inr (0, s, omega arith, refl, differs)
    | inl same ↦ elim (all_or_any stations) [
      | inl all ↦ inl (All-cons Same s stations same all)
      | inr any ↦ inr (suc any.0, any.1, omega (arith, any.2), any.3, any.4)
    ]
  ]

  never_differ : (stations : List StationValue) → All Same stations → ¬ (Any Differs stations)
  never_differ stations all any = any.4 (subst Same any.3 (all any.0 any.1 any.2))

  pub levels_differ_or_not : (stations : List StationValue) → Any Differs stations ⊎ (¬ (Any Differs stations))
  levels_differ_or_not stations = elim (all_or_any stations) [ inl all ↦ inr (never_differ stations all) | inr any ↦ inl any ]

  -- where one of them is as the coverage, all are
  pub one_tells : (stations : List StationValue) (s : StationValue) → AreAlike stations → Contains stations s → Same s → ¬ (Any Differs stations)
  one_tells stations s (inl have) there same any =
      any.4 (subst (λ (o : StationValue). IsSome o.zs) any.3 (have any.0 any.1 any.2) ∙ (sym (subst (λ (o : StationValue). IsSome o.zs) there.2 (have there.0 s there.1)) ∙ same))
  one_tells stations s (inr lack) there same any =
      any.4 (subst (λ (o : StationValue). IsNone o.zs) any.3 (lack any.0 any.1 any.2) ∙ (sym (subst (λ (o : StationValue). IsNone o.zs) there.2 (lack there.0 s there.1)) ∙ same))

  pub one_differs : (stations : List StationValue) (s : StationValue) → Contains stations s → Differs s → Any Differs stations
  one_differs stations s there differs = (there.0, s, there.1, there.2, differs)

  pub others_alike : (c : CollectionValue) (id : List ℕ) → ¬ ((as_station id).levels_differ c coverage)
      → All (λ (o : StationValue). is_some o.zs ≡ has_axis coverage.domain Z) (without_id station_id id c.stations)
  others_alike c id none = elim (all_or_any (without_id station_id id c.stations)) [ inl all ↦ all | inr any ↦ absurd (none any) ]

-- ---- what a look at others finds

-- there are others exactly where one is found
pub found_others : {V : Type 0} (others : List V) (found : Option (Bor V)) → MatchOption found (others ≡ []) (λ x. Contains others x.now) → IsTrue (is_some found) → others ≢ []
found_others others None none has = cc
found_others others (Some x) there has = λ none. omega (arith, there.1, ap length none)

pub others_found : {V : Type 0} (others : List V) (found : Option (Bor V)) → MatchOption found (others ≡ []) (λ x. Contains others x.now) → others ≢ [] → IsTrue (is_some found)
others_found others None none some = absurd (some none)
others_found others (Some x) there some = refl

module _ (coverage : Coverage) (stations : List StationValue) (found : Option (Bor StationValue)) (there : MatchOption found (stations ≡ []) (λ s. Contains stations s.now)) where
  -- they differ in levels where the one that is found does
  pub found_differs : (b : Bool) → b ≡ true → IfSome found (λ s. (b ≡ true) ↔ (is_some s.now.zs ≢ has_axis coverage.domain Z)) → (IsNone found → b ≡ false) → Any (Differs coverage) stations
  found_differs b h some none = by_found found there some none
    where
      by_found : (o : Option (Bor StationValue)) → MatchOption o (stations ≡ []) (λ s. Contains stations s.now) → IfSome o (λ s. (b ≡ true) ↔ (is_some s.now.zs ≢ has_axis coverage.domain Z)) → (IsNone o → b ≡ false) → Any (Differs coverage) stations
      by_found None is tells lacks = (let never = lacks refl in cc)
      by_found (Some s) is tells lacks = one_differs coverage stations s.now is (tells.0 h)

  pub found_alike : AreAlike stations → (b : Bool) → b ≡ false → IfSome found (λ s. (b ≡ true) ↔ (is_some s.now.zs ≢ has_axis coverage.domain Z)) → ¬ (Any (Differs coverage) stations)
  found_alike are b h some = by_found found there some
    where
      by_found : (o : Option (Bor StationValue)) → MatchOption o (stations ≡ []) (λ s. Contains stations s.now) → IfSome o (λ s. (b ≡ true) ↔ (is_some s.now.zs ≢ has_axis coverage.domain Z)) → ¬ (Any (Differs coverage) stations)
      by_found None is tells = λ any. omega (arith, any.2, ap length is)
      by_found (Some s) is tells = elim (same_or_not (is_some s.now.zs) (has_axis coverage.domain Z)) [
        | inl same ↦ one_tells coverage stations s.now are is same
        | inr differs ↦ (let told = tells.1 differs in cc)
      ]

pub alike_without : (id : List ℕ) (stations : List StationValue) → AreAlike stations → AreAlike (without_id station_id id stations)
alike_without id stations (inl have) = inl (All-without_id station_id (λ (s : StationValue). IsSome s.zs) id stations have)
alike_without id stations (inr lack) = inr (All-without_id station_id (λ (s : StationValue). IsNone s.zs) id stations lack)

-- ---- a series that fits

module _ (c : CollectionValue) (id label : List ℕ) (coverage : Coverage) (input : StationInput) (f : Fits (as_station id) c coverage) (valid : IsValid coverage) (named : IsName id) (text : IsUtf8 label)
    (is : input ≡ input_over id label coverage.domain coverage.ranges) where
  fitting : IsTimedSeries coverage
  fitting = record { valid = valid; place = f.domain; times = f.times; few = f.few }

  one : IsStation (length coverage.parameters) (station_of id label coverage)
  one = series_is_station id label coverage fitting named text

  pub fits_input : IsInput input
  fits_input = subst IsInput (sym is) (record { placed = one.placed; samples = one.has.samples })

  pub fits_counts : HasCounts (length coverage.parameters) input
  fits_counts = subst (HasCounts (length coverage.parameters)) (sym is) (record { many = one.has.many; long = one.has.long })

  pub fits_few : values_along (inputs.station_of input) ≤ node_limit
  fits_few = subst (λ i. values_along (inputs.station_of i) ≤ node_limit) (sym is) (series_few id label coverage fitting)

  pub fits_same : without_id station_id input.id c.stations ≢ [] → c.parameters ≡ coverage.parameters
  fits_same = subst (λ (i : StationInput). without_id station_id i.id c.stations ≢ [] → c.parameters ≡ coverage.parameters) (sym is) f.same

  pub fits_alike : All (λ (s : StationValue). is_some s.zs ≡ is_some input.levels) (without_id station_id input.id c.stations)
  fits_alike = subst (λ (i : StationInput). All (λ (s : StationValue). is_some s.zs ≡ is_some i.levels) (without_id station_id i.id c.stations)) (sym is)
      (others_alike coverage c id f.alike)
