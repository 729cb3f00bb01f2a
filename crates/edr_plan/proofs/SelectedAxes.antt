-- The times and levels that occur in what a query picks of a station, where it selects by its parameters and a test of times and levels.
use Rattle.std.proofs.Common.{◌≡◌, ◌≢◌, ℕ, ◌<◌, Bool, true, List, [], length, refl, ap, sym, ◌∙◌, subst, arith, ℤ, Some, None, All}
use Rattle.std.specs.declared.option.Option.{Option}
use Rattle.std.specs.Prelude.{map, ◌&&◌, option_map, bytes_eq, IfSome}
use Rattle.std.specs.Ordering.{int_eq}
use Rattle.std.specs.List.{filter, list_any, range_with_len}
use Rattle.std.proofs.lemmas.Bool.{and_parts, and_from}
use Rattle.std.proofs.lemmas.Bool.Decides.{Decides-int_eq}
use Rattle.std.proofs.lemmas.Slice.Eq.{bytes_eq-Decides}
use Rattle.edr_axes.specs.Axes.{value_at, IsAscending, axis_length}
use Rattle.edr_axes.specs.AxisLaws.{ascending_once}
use Rattle.covjson_value.specs.declared.coverages.Parameter.{Parameter}
use Rattle.covjson_value.specs.Samples.{same_where_given}
use Rattle.edr_ids.specs.Ids.{AscendBy}
use Rattle.edr_base.specs.Limits.{IsCoordinate}
use Rattle.edr_station.specs.Stations.{StationValue, IsStation, IsAxisWithin, station_id, station_at, nowhere}
use Rattle.edr_edition.specs.Stores.{of_stations, Subject}
use Rattle.edr_query.specs.Values.{QueryValue}
use Rattle.edr_select.specs.Samples.{Stored, id_at}
use Rattle.edr_select.specs.Wanted.{is_station}
use Rattle.edr_select.specs.Selections.{is_asked, picked}
use Rattle.edr_select.specs.Heads.{of_station, is_some_stored, times_in, levels_in}
use Rattle.edr_select.specs.Choices.{parameter_places}
use Rattle.edr_corridor.specs.Boxes.{level_at}
use Rattle.edr_select.specs.ListLaws.{any-filter, passes_at, any_range, both, some_member}
use Rattle.edr_select.specs.KeptLaws.{kept_agree, kept_below, kept_passes, filter_by_places}
use Rattle.edr_plan.specs.StationPlaces.{stored_in}
use Rattle.edr_plan.proofs.StationIds.{one_station}
use Rattle.edr_plan.proofs.SelectedSamples.{IsPlace, some_stored}
use Rattle.edr_plan.proofs.SelectedStations.{StationTest, SelectsBy, Pick, pick_found, found_pick}

-- some sample of a time, of a level, and of a station passes
abbrev pub some_at_time : List StationValue → StationTest → ℕ → ℕ → Bool
some_at_time ss takes k t = list_any (λ z. takes k t z) (range_with_len 0 (axis_length (station_at ss k).zs))

abbrev pub some_at_level : List StationValue → StationTest → ℕ → ℕ → Bool
some_at_level ss takes k z = list_any (λ t. takes k t z) (range_with_len 0 (length (station_at ss k).ts))

abbrev pub some_of : List StationValue → StationTest → ℕ → Bool
some_of ss takes k = list_any (some_at_time ss takes k) (range_with_len 0 (length (station_at ss k).ts))

module _ (s : Subject) (q : QueryValue) (ps : List Parameter) (ss : List StationValue) (held : s.held ≡ of_stations ps ss) (are : All (IsStation (length ps)) ss)
    (takes : StationTest) (selects : SelectsBy s q ps ss takes) (up : AscendBy station_id ss) where
  abbrev levels_of : ℕ → List ℕ
  levels_of k = range_with_len 0 (axis_length (station_at ss k).zs)

  abbrev times_of : ℕ → List ℕ
  times_of k = range_with_len 0 (length (station_at ss k).ts)

  module _ (k : ℕ) (inside : k < length ss) where
    abbrev pub own : List Stored
    own = of_station (station_at ss k).id (picked s q)

    abbrev is_own : Stored → Bool
    is_own x = is_station (station_at ss k).id x.station

    -- a picked sample of it
    pub own_found : (u : Stored → Bool) → list_any u own ≡ true → Pick q ps ss takes u k
    own_found u h =
        let f = pick_found s q ps ss held are takes selects (λ x. is_own x && u x) (sym (any-filter u is_own (picked s q)) ∙ h) in
        let parts = and_parts (bytes_eq (station_at ss k).id (station_at ss f.0).id) (u (stored_in ps ss f.0 f.1.parameter f.1.time f.1.level)) f.1.passes in
        subst (Pick q ps ss takes u) (sym (one_station ss up k f.0 inside f.1.place.station ((bytes_eq-Decides (station_at ss k).id (station_at ss f.0).id).0 parts.0)))
        (record { parameter = f.1.parameter; time = f.1.time; level = f.1.level; place = f.1.place; asked = f.1.asked; taken = f.1.taken; passes = parts.1 })

    pub found_own : (u : Stored → Bool) (p t z : ℕ) → IsPlace ps ss k p t z → is_asked q.parameters (id_at ps p) ≡ true → takes k t z ≡ true
        → u (stored_in ps ss k p t z) ≡ true → list_any u own ≡ true
    found_own u p t z at asked taken passes =
        any-filter u is_own (picked s q)
        ∙ found_pick s q ps ss held are takes selects (λ x. is_own x && u x) k p t z at asked taken (and_from _ _ ((bytes_eq-Decides (station_at ss k).id (station_at ss k).id).1 refl) passes)

    -- where some parameter is asked
    module _ (some : parameter_places q.parameters ps ≢ []) where
      -- a sample of a time and a level that are taken
      found_at : (u : Stored → Bool) (t z : ℕ) → t < length (station_at ss k).ts → z < axis_length (station_at ss k).zs → takes k t z ≡ true
          → ((p : ℕ) → u (stored_in ps ss k p t z) ≡ true) → list_any u own ≡ true
      found_at u t z ht hz taken passes =
          let one = some_member (parameter_places q.parameters ps) some in
          let below : one.item < length ps = kept_below (λ p. is_asked q.parameters (id_at ps p)) (length ps) one.item one.among in
          found_own u one.item t z (record { station = inside; parameter = below; time = ht; level = hz })
          (kept_passes (λ p. is_asked q.parameters (id_at ps p)) (length ps) one.item one.among) taken (passes one.item)

      -- something is picked of it where some time and level is taken
      pub some_own : is_some_stored own ≡ some_of ss takes k
      some_own =
          some_stored own
          ∙ both (list_any (λ x. true) own) (some_of ss takes k)
          (λ h. let f = own_found (λ x. true) h in
          any_range (some_at_time ss takes k) 0 (length (station_at ss k).ts) f.time (omega arith) (omega (arith, f.place.time))
          (any_range (takes k f.time) 0 (axis_length (station_at ss k).zs) f.level (omega arith) (omega (arith, f.place.level)) f.taken))
          (λ h. let ft = passes_at (some_at_time ss takes k) 0 (length (station_at ss k).ts) h in
          let fz = passes_at (takes k ft.place) 0 (axis_length (station_at ss k).zs) ft.passes in
          found_at (λ x. true) ft.place fz.place (omega (arith, ft.high)) (omega (arith, fz.high)) fz.passes (λ p. refl))

      same_values : (u v : ℤ) → int_eq u v ≡ true → u ≡ v
      same_values u v h = (Decides-int_eq u v).0 h

      time_test : (t : ℕ) → t < length (station_at ss k).ts
          → list_any (λ (x : Stored). same_where_given x.sample.at.t (Some (value_at (station_at ss k).ts t))) own ≡ some_at_time ss takes k t
      time_test t ht =
          let ts : List ℤ = (station_at ss k).ts in
          let at_time : Stored → Bool = λ (x : Stored). same_where_given x.sample.at.t (Some (value_at ts t)) in
          both (list_any at_time own) (some_at_time ss takes k t)
          (λ h. let f = own_found at_time h in
          let same : f.time ≡ t = ascending_once ts (are k nowhere inside).placed.ts.axis.ascending f.time t f.place.time ht (same_values (value_at ts f.time) (value_at ts t) f.passes) in
          subst (λ (t : ℕ). some_at_time ss takes k t ≡ true) same
          (any_range (takes k f.time) 0 (axis_length (station_at ss k).zs) f.level (omega arith) (omega (arith, f.place.level)) f.taken))
          (λ h. let fz = passes_at (takes k t) 0 (axis_length (station_at ss k).zs) h in
          found_at at_time t fz.place ht (omega (arith, fz.high)) fz.passes (λ p. (Decides-int_eq (value_at ts t) (value_at ts t)).1 refl))

      -- the times that occur
      pub times_are : times_in own (station_at ss k).ts ≡ map (value_at (station_at ss k).ts) (filter (some_at_time ss takes k) (times_of k))
      times_are =
          let ts : List ℤ = (station_at ss k).ts in
          filter_by_places (λ v. list_any (λ (x : Stored). same_where_given x.sample.at.t (Some v)) own) ts
          ∙ ap (map (value_at ts)) (kept_agree (λ t. list_any (λ (x : Stored). same_where_given x.sample.at.t (Some (value_at ts t))) own) (some_at_time ss takes k) 0 (length ts)
          (λ t low high. time_test t (omega (arith, high))))

      same_given : (v : Option ℤ) (l : ℤ) → same_where_given v (Some l) ≡ true → v ≡ Some l
      same_given None l h = cc
      same_given (Some v) l h = ap Some (same_values v l h)

      -- those of the levels, where there is an axis of them
      module _ (values : List ℤ) (zs : (station_at ss k).zs ≡ Some values) where
        count : axis_length (station_at ss k).zs ≡ length values
        count = ap axis_length zs

        shown : (z : ℕ) → level_at (station_at ss k).zs z ≡ Some (value_at values z)
        shown z = ap (λ (o : Option (List ℤ)). level_at o z) zs

        one_value : (u v : ℤ) → Some u ≡ Some v → u ≡ v
        one_value u v e = cc

        level_test : (z : ℕ) → z < length values
            → list_any (λ (x : Stored). same_where_given x.sample.at.z (Some (value_at values z))) own ≡ some_at_level ss takes k z
        level_test z hz =
            let at_level : Stored → Bool = λ (x : Stored). same_where_given x.sample.at.z (Some (value_at values z)) in
            both (list_any at_level own) (some_at_level ss takes k z)
            (λ h. let f = own_found at_level h in
            let level : value_at values f.level ≡ value_at values z = one_value (value_at values f.level) (value_at values z)
            (sym (shown f.level) ∙ same_given (level_at (station_at ss k).zs f.level) (value_at values z) f.passes) in
            let same : f.level ≡ z = ascending_once values ascending f.level z (omega (arith, f.place.level, count)) hz level in
            subst (λ (z : ℕ). some_at_level ss takes k z ≡ true) same
            (any_range (λ t. takes k t f.level) 0 (length (station_at ss k).ts) f.time (omega arith) (omega (arith, f.place.time)) f.taken))
            (λ h. let ft = passes_at (λ t. takes k t z) 0 (length (station_at ss k).ts) h in
            found_at at_level ft.place z (omega (arith, ft.high)) (omega (arith, hz, count)) ft.passes
            (λ p. ap (λ (v : Option ℤ). same_where_given v (Some (value_at values z))) (shown z) ∙ (Decides-int_eq (value_at values z) (value_at values z)).1 refl))
          where
            ascending : IsAscending values
            ascending = (subst (λ (o : Option (List ℤ)). IfSome o (IsAxisWithin IsCoordinate)) zs (are k nowhere inside).placed.zs).axis.ascending

        levels_on : levels_in own values ≡ map (value_at values) (filter (some_at_level ss takes k) (levels_of k))
        levels_on =
            filter_by_places (λ v. list_any (λ (x : Stored). same_where_given x.sample.at.z (Some v)) own) values
            ∙ (ap (map (value_at values)) (kept_agree (λ z. list_any (λ (x : Stored). same_where_given x.sample.at.z (Some (value_at values z))) own) (some_at_level ss takes k) 0 (length values)
            (λ z low high. level_test z (omega (arith, high))))
            ∙ ap (λ n. map (value_at values) (filter (some_at_level ss takes k) (range_with_len 0 n))) (sym count))

      levels_if : (zs : Option (List ℤ)) → (station_at ss k).zs ≡ zs
          → option_map (levels_in own) zs ≡ option_map (λ values. map (value_at values) (filter (some_at_level ss takes k) (levels_of k))) zs
      levels_if None e = refl
      levels_if (Some values) e = ap Some (levels_on values e)

      -- the levels that occur
      pub levels_are : option_map (levels_in own) (station_at ss k).zs
          ≡ option_map (λ values. map (value_at values) (filter (some_at_level ss takes k) (levels_of k))) (station_at ss k).zs
      levels_are = levels_if (station_at ss k).zs refl
