-- The times and levels that are taken, as axes.
use Rattle.std.proofs.Common.{◌≡◌, ◌≢◌, ℕ, zero, suc, ◌<◌, ◌≤◌, Bool, true, false, cond, List, [], ◌∷◌, length, refl, ap, sym, subst, arith, IfSome, ℤ, pos, All}
use Rattle.std.specs.declared.option.Option.{Option}
use Rattle.std.specs.Prelude.{map, option_map, None, Some}
use Rattle.std.specs.List.{filter}
use Rattle.std.proofs.lemmas.List.{length-map}
use Rattle.edr_axes.specs.declared.levels.Levels.{Levels}
use Rattle.edr_axes.specs.declared.times.Times.{Times}
use Rattle.edr_axes.specs.Axes.{value_at, axis_length}
use Rattle.covjson_value.specs.declared.domains.CoordinateName.TheVariants.{T, Z}
use Rattle.covjson_value.specs.Coverages.{IsAxisValue, IsNamedAxis}
use Rattle.edr_select.specs.Wanted.{takes_time, takes_level}
use Rattle.edr_select.specs.Choices.{level_places, time_places}
use Rattle.edr_corridor.specs.Boxes.{level_at}
use Rattle.edr_select.specs.ListLaws.{Each}
use Rattle.edr_select.specs.KeptLaws.{filter_by_places}
use Rattle.edr_select.specs.NodeLaws.{one_level}
use Rattle.edr_select.specs.HeadLaws.{named_axis_filter}

-- ---- lists

pub some_length : {A : Type 0} (xs : List A) → xs ≢ [] → 0 < length xs
some_length [] some = absurd (some refl)
some_length (x ∷ xs) some = omega arith

pub all_from_each : {A : Type 0} (P : A → Type 0) (xs : List A) → Each P xs → All P xs
all_from_each P [] h k d l = absurd (omega arith)
all_from_each P (x ∷ xs) h zero d l = h.0
all_from_each P (x ∷ xs) h (suc k) d l = all_from_each P xs h.1 k d (omega arith)

pub kept_few : {A : Type 0} (t : A → Bool) (xs : List A) → length (filter t xs) ≤ length xs
kept_few t [] = omega arith
kept_few t (x ∷ xs) =
    let few : length (filter t xs) ≤ length xs = kept_few t xs in
    elim (t x) as (λ b. length (cond b (x ∷ filter t xs) (filter t xs)) ≤ length (x ∷ xs)) [ true ↦ omega (arith, few) | false ↦ omega (arith, few) ]

-- ---- times

pub time_axis : (asked : Option Times) (ts : List ℤ) → IsNamedAxis T ts → time_places asked ts ≢ [] → IsNamedAxis T (map (value_at ts) (time_places asked ts))
time_axis asked ts h some =
    let same = filter_by_places (λ t. takes_time asked (Some t)) ts in
    subst (IsNamedAxis T) same
    (named_axis_filter T (λ t. takes_time asked (Some t)) ts h
    (omega (arith, some_length (time_places asked ts) some, ap (λ (vs : List ℤ). length vs) same, length-map (time_places asked ts) (value_at ts))))

-- ---- levels

pub level_axis : (asked : Option Levels) (zs : Option (List ℤ)) → IfSome zs (IsNamedAxis Z) → level_places asked zs ≢ []
    → IfSome (option_map (λ values. map (value_at values) (level_places asked zs)) zs) (IsNamedAxis Z)
level_axis asked None h some = tt
level_axis asked (Some values) h some =
    let same = filter_by_places (λ l. takes_level asked (Some l)) values in
    subst (IsNamedAxis Z) same
    (named_axis_filter Z (λ l. takes_level asked (Some l)) values h
    (omega (arith, some_length (level_places asked (Some values)) some, ap (λ (vs : List ℤ). length vs) same, length-map (level_places asked (Some values)) (value_at values))))

pub level_count : (asked : Option Levels) (zs : Option (List ℤ)) → level_places asked zs ≢ []
    → axis_length (option_map (λ values. map (value_at values) (level_places asked zs)) zs) ≡ length (level_places asked zs)
level_count asked None some = sym (ap (λ (ls : List ℕ). length ls) (one_level asked None refl some))
level_count asked (Some values) some = length-map (level_places asked (Some values)) (value_at values)

pub level_value : (zs : Option (List ℤ)) (z : ℕ) → IfSome zs (IsNamedAxis Z) → z < axis_length zs → IfSome (level_at zs z) (IsAxisValue Z)
level_value None z h below = tt
level_value (Some values) z h below = h.within z (pos 0) below
