-- The places of the times and levels that are taken of a station, and the axes of their values.
use Rattle.std.proofs.Common.{◌≡◌, ◌≢◌, ℕ, ◌+◌, ◌*◌, ◌<◌, ◌<ℤ◌, List, [], ◌∷◌, length, get_or, All, refl, ap, ap₂, sym, ◌∙◌, subst, arith, ℤ, pos, None, Some, IfSome}
use Rattle.std.specs.declared.option.Option.{Option}
use Rattle.std.specs.Prelude.{map, option_map}
use Rattle.std.proofs.lemmas.List.{length-map, get_or-map}
use Rattle.std.proofs.lemmas.List.Elements.{All-map}
use Rattle.edr_axes.specs.Axes.{value_at, IsAscending, IsAxis, axis_length}
use Rattle.edr_axes.specs.AxisLaws.{ascending_far}
use Rattle.covjson_value.specs.declared.domains.CoordinateName.{CoordinateName}
use Rattle.covjson_value.specs.declared.domains.CoordinateName.TheVariants.{T, Z, Y, X}
use Rattle.covjson_value.specs.Domains.{count_of}
use Rattle.covjson_value.specs.Coverages.{IsAxisValue, IsNamedAxis, HasAxes}
use Rattle.edr_base.specs.Limits.{IsCoordinate}
use Rattle.edr_station.specs.Stations.{StationValue, IsPlaced, IsAxisWithin}
use Rattle.edr_select.specs.Listings.{NumbersRise}
use Rattle.edr_select.specs.LevelLaws.{some_length}
use Rattle.edr_select.specs.DomainLaws.{count_at, has_axes_at, one_value}
use Rattle.edr_plan.specs.StationPlaces.{ChoiceValue}
use Rattle.edr_plan.specs.StationPlans.{IsChoiceOf, domain_of}

-- ---- some values of an axis

-- those at places that rise are an axis
part_is_axis : (values : List ℤ) (places : List ℕ) → IsAscending values → All (λ place. place < length values) places → NumbersRise places → places ≢ []
    → IsAxis (map (value_at values) places)
part_is_axis values places ascend inside rise some = record {
  some = omega (arith, some_length places some, length-map places (value_at values));
  ascending = λ k l.
      let next : k + 1 < length places = omega (arith, l, length-map places (value_at values)) in
      let here : value_at (map (value_at values) places) k ≡ value_at values (get_or places k 0) = get_or-map (value_at values) places k 0 (pos 0) (omega (arith, next)) in
      let there : value_at (map (value_at values) places) (k + 1) ≡ value_at values (get_or places (k + 1) 0) = get_or-map (value_at values) places (k + 1) 0 (pos 0) next in
      subst (λ (v : ℤ). v <ℤ value_at (map (value_at values) places) (k + 1)) (sym here)
      (subst (λ (v : ℤ). value_at values (get_or places k 0) <ℤ v) (sym there)
      (ascending_far values ascend (get_or places k 0) (get_or places (k + 1) 0) (rise k (k + 1) 0 (omega arith) next) (inside (k + 1) 0 next)));
}

part_is_named : (name : CoordinateName) (values : List ℤ) (places : List ℕ) → IsNamedAxis name values → All (λ place. place < length values) places → NumbersRise places
    → places ≢ [] → IsNamedAxis name (map (value_at values) places)
part_is_named name values places axis inside rise some = record {
  ascending = part_is_axis values places axis.ascending.ascending inside rise some;
  within = All-map (IsAxisValue name) (value_at values) places (λ k d l. axis.within (get_or places k d) (pos 0) (inside k d l));
}

-- without an axis of levels there is one place
only_level : (levels : List ℕ) → All (λ z. z < 1) levels → NumbersRise levels → levels ≢ [] → levels ≡ 0 ∷ []
only_level [] inside rise some = absurd (some refl)
only_level (z ∷ []) inside rise some = let none : z ≡ 0 = omega (arith, inside 0 0 (omega arith)) in ap (λ (z : ℕ). z ∷ []) none
only_level (z ∷ other ∷ levels) inside rise some = absurd (omega (arith, inside 1 0 (omega arith), rise 0 1 0 (omega arith) (omega arith)))

-- ---- the axes of a station

times_named : (s : StationValue) → IsPlaced s → IsNamedAxis T s.ts
times_named s h = record { ascending = h.ts.axis; within = h.ts.within }

levels_named : (zs : Option (List ℤ)) (levels : List ℕ) → IfSome zs (IsAxisWithin IsCoordinate) → All (λ z. z < axis_length zs) levels → NumbersRise levels → levels ≢ []
    → IfSome (option_map (λ values. map (value_at values) levels) zs) (IsNamedAxis Z)
levels_named None levels h inside rise some = tt
levels_named (Some values) levels h inside rise some = part_is_named Z values levels (record { ascending = h.axis; within = h.within }) inside rise some

levels_count : (zs : Option (List ℤ)) (levels : List ℕ) → (zs ≡ None → levels ≡ 0 ∷ []) → axis_length (option_map (λ values. map (value_at values) levels) zs) ≡ length levels
levels_count None levels one = sym (ap (λ (ls : List ℕ). length ls) (one refl))
levels_count (Some values) levels one = length-map levels (value_at values)

-- ---- what is taken lies in them

module _ (s : StationValue) (choice : ChoiceValue) (is : IsChoiceOf s choice) where
  -- of a station that is read
  module _ (read : StationValue) (same : read ≡ s) (places : List ℕ) where
    pub times_within : places ≡ choice.times → All (λ t. t < length read.ts) places
    times_within at =
        subst (λ (ps : List ℕ). All (λ t. t < length read.ts) ps) (sym at) (subst (λ (s : StationValue). All (λ t. t < length s.ts) choice.times) (sym same) is.times_in)

    pub levels_within : places ≡ choice.levels → All (λ z. z < axis_length read.zs) places
    levels_within at =
        subst (λ (ps : List ℕ). All (λ z. z < axis_length read.zs) ps) (sym at)
        (subst (λ (s : StationValue). All (λ z. z < axis_length s.zs) choice.levels) (sym same) is.levels_in)

  -- the times that are read at these places are an axis
  module _ (ts : List ℤ) (places : List ℕ) (same : ts ≡ s.ts) (at : places ≡ choice.times) where
    pub times_inside : All (λ t. t < length ts) places
    times_inside = subst (λ (ps : List ℕ). All (λ t. t < length ts) ps) (sym at) (subst (λ (vs : List ℤ). All (λ t. t < length vs) choice.times) (sym same) is.times_in)

    pub times_axis : IsPlaced s → (read : List ℤ) → read ≡ map (value_at ts) places → IsAxis read
    times_axis placed read is_read =
        subst IsAxis (sym (is_read ∙ ap₂ (λ (vs : List ℤ) (ps : List ℕ). map (value_at vs) ps) same at))
        (part_is_axis s.ts choice.times placed.ts.axis.ascending is.times_in is.times_rise is.times)

  -- and so are the levels
  module _ (zs : List ℤ) (places : List ℕ) (same : Some zs ≡ s.zs) (at : places ≡ choice.levels) where
    inside : All (λ z. z < length zs) choice.levels
    inside = subst (λ (o : Option (List ℤ)). All (λ z. z < axis_length o) choice.levels) (sym same) is.levels_in

    pub levels_inside : All (λ z. z < length zs) places
    levels_inside = subst (λ (ps : List ℕ). All (λ z. z < length zs) ps) (sym at) inside

    pub levels_axis : IsPlaced s → (read : List ℤ) → read ≡ map (value_at zs) places → IsAxis read
    levels_axis placed read is_read =
        let axis : IsAxisWithin IsCoordinate zs = subst (λ (o : Option (List ℤ)). IfSome o (IsAxisWithin IsCoordinate)) (sym same) placed.zs in
        subst IsAxis (sym (is_read ∙ ap (map (value_at zs)) at)) (part_is_axis zs choice.levels axis.axis.ascending inside is.levels_rise is.levels)

  -- ---- the domain over them

  pub one_level : s.zs ≡ None → choice.levels ≡ 0 ∷ []
  one_level none =
      only_level choice.levels (subst (λ (o : Option (List ℤ)). All (λ z. z < axis_length o) choice.levels) none is.levels_in) is.levels_rise is.levels

  pub domain_axes : IsPlaced s → HasAxes (domain_of s choice)
  domain_axes placed =
      has_axes_at (map (value_at s.ts) choice.times) (option_map (λ zs. map (value_at zs) choice.levels) s.zs) (s.y, s.x)
      (part_is_named T s.ts choice.times (times_named s placed) is.times_in is.times_rise is.times)
      (levels_named s.zs choice.levels placed.zs is.levels_in is.levels_rise is.levels) (one_value Y s.y placed.y) (one_value X s.x placed.x)

  pub domain_count : count_of (domain_of s choice) ≡ length choice.times * length choice.levels
  domain_count =
      count_at (map (value_at s.ts) choice.times) (option_map (λ zs. map (value_at zs) choice.levels) s.zs) (s.y, s.x)
      ∙ ap₂ (λ a b. a * b) (length-map choice.times (value_at s.ts)) (levels_count s.zs choice.levels one_level)
