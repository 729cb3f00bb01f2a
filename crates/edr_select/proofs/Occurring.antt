-- The times, levels and places that occur in what a query picks are those that are chosen.
use Rattle.std.proofs.Common.{◌≡◌, ℕ, ◌*◌, ◌<◌, Bool, true, false, List, length, get_or, refl, ap, ap₂, sym, ◌∙◌, arith, ℤ, pos, Some, None}
use Rattle.std.specs.declared.option.Option.{Option}
use Rattle.std.specs.Prelude.{map, ◌&&◌, option_map}
use Rattle.std.specs.Ordering.{int_eq}
use Rattle.std.specs.List.{filter, list_any, range_with_len}
use Rattle.std.proofs.lemmas.Bool.Decides.{Decides-int_eq}
use Rattle.std.proofs.lemmas.List.{get_or_default}
use Rattle.edr_axes.specs.Axes.{value_at, axis_length}
use Rattle.edr_axes.specs.AxisLaws.{ascending_once}
use Rattle.covjson_value.specs.Samples.{same_where_given}
use Rattle.edr_edition.specs.Values.{InstanceValue}
use Rattle.edr_query.specs.Values.{QueryValue}
use Rattle.edr_select.specs.Samples.{Stored}
use Rattle.edr_select.specs.Wanted.{takes_time, takes_level, levels_asked}
use Rattle.edr_select.specs.Heads.{Spot, times_in, levels_in, spots_in, stands_at}
use Rattle.edr_select.specs.Choices.{TakesEach, takes_node, Chosen, chosen, IsSome, row_of, column_of, times_of, levels_of, spot_of}
use Rattle.edr_corridor.specs.Boxes.{level_at}
use Rattle.edr_select.specs.ListLaws.{filter_at, filter-map, both}
use Rattle.edr_select.specs.KeptLaws.{contains_kept, kept_agree, filter_by_places, pairs_numbered}
use Rattle.edr_select.specs.GridLaws.{IsGrid}
use Rattle.edr_select.proofs.Picks.{picks_at, pick_found}
use Rattle.edr_select.proofs.ChosenLaws as laws
use Rattle.edr_select.proofs.ChosenLaws.{OneOfEach, each_of}

same_given : (v : Option ℤ) (l : ℤ) → same_where_given v (Some l) ≡ true → v ≡ Some l
same_given None l h = cc
same_given (Some v) l h = ap Some ((Decides-int_eq v l).0 h)

first_true : (b c : Bool) → (b && c) ≡ true → b ≡ true
first_true true c h = refl
first_true false c h = h

second_true : (b c : Bool) → (b && c) ≡ true → c ≡ true
second_true true c h = h
second_true false c h = cc

pair_true : (b c : Bool) → b ≡ true → c ≡ true → (b && c) ≡ true
pair_true b c e f = rw (e, f) refl

-- the levels of an axis that pass, where there is an axis, by their places
levels_by_places : (zs : Option (List ℤ)) (picks : List Stored) (t : Option ℤ → Bool)
    → ((values : List ℤ) → zs ≡ Some values → levels_in picks values ≡ filter (λ l. t (Some l)) values)
    → option_map (levels_in picks) zs ≡ option_map (λ values. map (value_at values) (filter (λ z. t (level_at zs z)) (range_with_len 0 (axis_length zs)))) zs
levels_by_places None picks t are = refl
levels_by_places (Some values) picks t are = ap Some (are values refl ∙ filter_by_places (λ l. t (Some l)) values)

module _ (i : InstanceValue) (q : QueryValue) (each : TakesEach q.shape) (g : IsGrid i) (some : IsSome (chosen i q)) where
  abbrev c : Chosen
  c = chosen i q

  abbrev picks : List Stored
  picks = picks_at i q

  one : OneOfEach c
  one = each_of c some

  takes_times : times_in picks i.ts ≡ filter (λ t. takes_time q.times (Some t)) i.ts
  takes_times = filter_at (λ t. list_any (λ (s : Stored). same_where_given s.sample.at.t (Some t)) picks) (λ t. takes_time q.times (Some t)) i.ts (λ k d inside.
      let time : ℤ = get_or i.ts k d in
      let here : value_at i.ts k ≡ time = get_or_default i.ts k (pos 0) d inside in
      both (list_any (λ (s : Stored). same_where_given s.sample.at.t (Some time)) picks) (takes_time q.times (Some time))
      (λ e. let f = pick_found i q each (λ (s : Stored). same_where_given s.sample.at.t (Some time)) e in
      let same : value_at i.ts f.place.t ≡ time = (Decides-int_eq (value_at i.ts f.place.t) time).0 f.passes in
      sym (ap (λ (v : ℤ). takes_time q.times (Some v)) same) ∙ f.taken.time)
      (λ e. laws.pick_at i q each g (λ (s : Stored). same_where_given s.sample.at.t (Some time)) one.parameter k one.level one.spot
      one.parameter_in
      (contains_kept (λ t. takes_time q.times (Some (value_at i.ts t))) (length i.ts) k inside (ap (λ (v : ℤ). takes_time q.times (Some v)) here ∙ e))
      one.level_in one.spot_in ((Decides-int_eq (value_at i.ts k) time).1 here)))

  -- the times
  pub times_are : times_in picks i.ts ≡ times_of i c
  times_are = takes_times ∙ filter_by_places (λ t. takes_time q.times (Some t)) i.ts

  takes_levels : (values : List ℤ) → i.zs ≡ Some values → levels_in picks values ≡ filter (λ l. takes_level (levels_asked q) (Some l)) values
  takes_levels values zs =
      filter_at (λ l. list_any (λ (s : Stored). same_where_given s.sample.at.z (Some l)) picks) (λ l. takes_level (levels_asked q) (Some l)) values (λ k d inside.
      let level : ℤ = get_or values k d in
      let here : level_at i.zs k ≡ Some level = ap (λ o. level_at o k) zs ∙ ap Some (get_or_default values k (pos 0) d inside) in
      let inner : k < axis_length i.zs = omega (arith, inside, ap (λ (o : Option (List ℤ)). axis_length o) zs) in
      both (list_any (λ (s : Stored). same_where_given s.sample.at.z (Some level)) picks) (takes_level (levels_asked q) (Some level))
      (λ e. let f = pick_found i q each (λ (s : Stored). same_where_given s.sample.at.z (Some level)) e in
      let same : level_at i.zs f.place.z ≡ Some level = same_given (level_at i.zs f.place.z) level f.passes in
      sym (ap (λ (v : Option ℤ). takes_level (levels_asked q) v) same) ∙ f.taken.level)
      (λ e. laws.pick_at i q each g (λ (s : Stored). same_where_given s.sample.at.z (Some level)) one.parameter one.time k one.spot
      one.parameter_in one.time_in
      (contains_kept (λ z. takes_level (levels_asked q) (level_at i.zs z)) (axis_length i.zs) k inner (ap (λ (v : Option ℤ). takes_level (levels_asked q) v) here ∙ e))
      one.spot_in
      (ap (λ (v : Option ℤ). same_where_given v (Some level)) here ∙ (Decides-int_eq level level).1 refl)))

  -- the levels
  pub levels_are : option_map (levels_in picks) i.zs ≡ levels_of i c
  levels_are = levels_by_places i.zs picks (takes_level (levels_asked q)) takes_levels

  spot_test : (k : ℕ) → k < length i.ys * length i.xs
      → list_any (stands_at (spot_of i k)) picks ≡ takes_node i q.shape (row_of i.xs k) (column_of i.xs k)
  spot_test k inside =
      both (list_any (stands_at (spot_of i k)) picks) (takes_node i q.shape (row_of i.xs k) (column_of i.xs k))
      (λ e. let f = pick_found i q each (stands_at (spot_of i k)) e in
      let y : f.place.y ≡ row_of i.xs k = ascending_once i.ys g.ys.ascending f.place.y (row_of i.xs k) (omega (arith, f.within.y, g.rows)) (laws.row_below i q each g k inside)
      ((Decides-int_eq (value_at i.ys f.place.y) (value_at i.ys (row_of i.xs k))).0
      (first_true (int_eq (value_at i.ys f.place.y) (value_at i.ys (row_of i.xs k))) (int_eq (value_at i.xs f.place.x) (value_at i.xs (column_of i.xs k))) f.passes)) in
      let x : f.place.x ≡ column_of i.xs k = ascending_once i.xs g.xs.ascending f.place.x (column_of i.xs k) (omega (arith, f.within.x, g.columns)) (laws.column_below i q each g k)
      ((Decides-int_eq (value_at i.xs f.place.x) (value_at i.xs (column_of i.xs k))).0
      (second_true (int_eq (value_at i.ys f.place.y) (value_at i.ys (row_of i.xs k))) (int_eq (value_at i.xs f.place.x) (value_at i.xs (column_of i.xs k))) f.passes)) in
      sym (ap₂ (λ a b. takes_node i q.shape a b) y x) ∙ f.taken.near)
      (λ e. laws.pick_at i q each g (stands_at (spot_of i k)) one.parameter one.time one.level k one.parameter_in one.time_in one.level_in
      (contains_kept (λ spot. takes_node i q.shape (row_of i.xs spot) (column_of i.xs spot)) (length i.ys * length i.xs) k inside e)
      (pair_true (int_eq (value_at i.ys (row_of i.xs k)) (value_at i.ys (row_of i.xs k))) (int_eq (value_at i.xs (column_of i.xs k)) (value_at i.xs (column_of i.xs k)))
      ((Decides-int_eq (value_at i.ys (row_of i.xs k)) (value_at i.ys (row_of i.xs k))).1 refl)
      ((Decides-int_eq (value_at i.xs (column_of i.xs k)) (value_at i.xs (column_of i.xs k))).1 refl)))

  -- the places
  pub spots_are : spots_in picks i.ys i.xs ≡ map (spot_of i) c.spots
  spots_are =
      ap (filter (λ (spot : Spot). list_any (stands_at spot) picks)) (pairs_numbered i.ys i.xs)
      ∙ (filter-map (λ (spot : Spot). list_any (stands_at spot) picks) (spot_of i) (range_with_len 0 (length i.ys * length i.xs))
      ∙ ap (map (spot_of i)) (kept_agree (λ k. list_any (stands_at (spot_of i k)) picks)
      (λ k. takes_node i q.shape (row_of i.xs k) (column_of i.xs k)) 0 (length i.ys * length i.xs)
      (λ k low high. spot_test k (omega (arith, high)))))
