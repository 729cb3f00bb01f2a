-- What a query picks of stations, by the places of stations, parameters, times and levels.
use Rattle.std.proofs.Common.{◌≡◌, ℕ, ◌<◌, Bool, true, List, [], ◌∷◌, length, refl, ap, sym, ◌∙◌, subst, arith, All}
use Rattle.std.specs.Prelude.{map, ◌&&◌}
use Rattle.std.specs.List.{filter, flat_map, list_any, range_with_len}
use Rattle.std.proofs.lemmas.Bool.{and_parts, and_from}
use Rattle.covjson_value.specs.declared.coverages.Parameter.{Parameter}
use Rattle.edr_station.specs.Stations.{StationValue, IsStation, station_at}
use Rattle.edr_axes.specs.Axes.{axis_length}
use Rattle.edr_edition.specs.Stores.{of_stations, Subject}
use Rattle.edr_query.specs.Values.{QueryValue}
use Rattle.edr_select.specs.Samples.{Stored, samples_of}
use Rattle.edr_select.specs.Selections.{wants, picked}
use Rattle.edr_select.specs.Heads.{is_some_stored}
use Rattle.edr_select.specs.ListLaws.{any-filter, any-map, any-flat_map, passes_at, any_range, Each, each-filter, each-map_range, each-flat_map_range}
use Rattle.edr_plan.specs.StationPlaces.{stored_in}
use Rattle.edr_plan.proofs.StationSamples.{samples_by_places}

-- a station, a parameter, a time and a level that there are
pub record IsPlace (ps : List Parameter) (ss : List StationValue) (k p t z : ℕ) : Type 0 where
  pub station : k < length ss
  pub parameter : p < length ps
  pub time : t < length (station_at ss k).ts
  pub level : z < axis_length (station_at ss k).zs

-- a picked sample that passes
pub record Wanted (s : Subject) (q : QueryValue) (ps : List Parameter) (ss : List StationValue) (u : Stored → Bool) : Type 0 where
  pub station : ℕ
  pub parameter : ℕ
  pub time : ℕ
  pub level : ℕ
  pub place : IsPlace ps ss station parameter time level
  pub wanted : wants s q (stored_in ps ss station parameter time level) ≡ true
  pub passes : u (stored_in ps ss station parameter time level) ≡ true

pub some_stored : (xs : List Stored) → is_some_stored xs ≡ list_any (λ x. true) xs
some_stored [] = refl
some_stored (x ∷ xs) = refl

module _ (s : Subject) (q : QueryValue) (ps : List Parameter) (ss : List StationValue) (held : s.held ≡ of_stations ps ss) (are : All (IsStation (length ps)) ss) where
  abbrev picks : List Stored
  picks = picked s q

  abbrev levels_of : ℕ → List ℕ
  levels_of k = range_with_len 0 (axis_length (station_at ss k).zs)

  abbrev times_of : ℕ → List ℕ
  times_of k = range_with_len 0 (length (station_at ss k).ts)

  abbrev samples : List Stored
  samples = flat_map (λ k. flat_map (λ p. flat_map (λ t. map (stored_in ps ss k p t) (levels_of k)) (times_of k)) (range_with_len 0 (length ps))) (range_with_len 0 (length ss))

  picks_are : picks ≡ filter (wants s q) samples
  picks_are = ap (filter (wants s q)) (ap samples_of held ∙ samples_by_places ps ss are)

  -- some sample passes: of a parameter and a time, of a parameter, of a station, and of all
  abbrev any_level : (Stored → Bool) → ℕ → ℕ → ℕ → Bool
  any_level u k p t = list_any (λ z. u (stored_in ps ss k p t z)) (levels_of k)

  abbrev any_time : (Stored → Bool) → ℕ → ℕ → Bool
  any_time u k p = list_any (any_level u k p) (times_of k)

  abbrev any_parameter : (Stored → Bool) → ℕ → Bool
  any_parameter u k = list_any (any_time u k) (range_with_len 0 (length ps))

  abbrev any_station : (Stored → Bool) → Bool
  any_station u = list_any (any_parameter u) (range_with_len 0 (length ss))

  any_sample : (u : Stored → Bool) → list_any u samples ≡ any_station u
  any_sample u = simp (any-flat_map, any-map)

  abbrev wanted : (Stored → Bool) → Stored → Bool
  wanted u x = wants s q x && u x

  any_pick : (u : Stored → Bool) → list_any u picks ≡ any_station (wanted u)
  any_pick u = ap (list_any u) picks_are ∙ (any-filter u (wants s q) samples ∙ any_sample (wanted u))

  -- a picked sample that passes is one of some places
  pub wanted_found : (u : Stored → Bool) → list_any u picks ≡ true → Wanted s q ps ss u
  wanted_found u h =
      let fk = passes_at (any_parameter (wanted u)) 0 (length ss) (sym (any_pick u) ∙ h) in
      let k : ℕ = fk.place in
      let fp = passes_at (any_time (wanted u) k) 0 (length ps) fk.passes in
      let p : ℕ = fp.place in
      let ft = passes_at (any_level (wanted u) k p) 0 (length (station_at ss k).ts) fp.passes in
      let t : ℕ = ft.place in
      let fz = passes_at (λ (z : ℕ). wanted u (stored_in ps ss k p t z)) 0 (axis_length (station_at ss k).zs) ft.passes in
      let parts = and_parts (wants s q (stored_in ps ss k p t fz.place)) (u (stored_in ps ss k p t fz.place)) fz.passes in
      record {
        station = k;
        parameter = p;
        time = t;
        level = fz.place;
        place = record {
          station = omega (arith, fk.high);
          parameter = omega (arith, fp.high);
          time = omega (arith, ft.high);
          level = omega (arith, fz.high);
        };
        wanted = parts.0;
        passes = parts.1;
      }

  pub found_wanted : (u : Stored → Bool) (k p t z : ℕ) → IsPlace ps ss k p t z → wants s q (stored_in ps ss k p t z) ≡ true → u (stored_in ps ss k p t z) ≡ true
      → list_any u picks ≡ true
  found_wanted u k p t z at wanted_here passes =
      any_pick u
      ∙ any_range (any_parameter (wanted u)) 0 (length ss) k (omega arith) (omega (arith, at.station))
      (any_range (any_time (wanted u) k) 0 (length ps) p (omega arith) (omega (arith, at.parameter))
      (any_range (any_level (wanted u) k p) 0 (length (station_at ss k).ts) t (omega arith) (omega (arith, at.time))
      (any_range (λ z. wanted u (stored_in ps ss k p t z)) 0 (axis_length (station_at ss k).zs) z (omega arith) (omega (arith, at.level))
      (and_from _ _ wanted_here passes))))

  -- what holds of each sample holds of each that is picked
  pub each_pick : (P : Stored → Type 0) → ((k p t z : ℕ) → IsPlace ps ss k p t z → P (stored_in ps ss k p t z)) → Each P picks
  each_pick P h =
      subst (λ (xs : List Stored). Each P xs) (sym picks_are)
      (each-filter P (wants s q) samples
      (each-flat_map_range P _ 0 (length ss) (λ k lk hk. each-flat_map_range P _ 0 (length ps) (λ p lp hp.
      each-flat_map_range P _ 0 (length (station_at ss k).ts) (λ t lt ht. each-map_range P (stored_in ps ss k p t) 0 (axis_length (station_at ss k).zs) (λ z lz hz.
      h k p t z (record { station = omega (arith, hk); parameter = omega (arith, hp); time = omega (arith, ht); level = omega (arith, hz) })))))))
