-- What a query picks of stations that selects by its parameters and a test of times and levels, and the values that are found at its nodes.
use Rattle.std.proofs.Common.{◌≡◌, ℕ, ◌<◌, Bool, true, false, List, length, ap, ap₂, sym, ◌∙◌, subst, arith, Some, None, All}
use Rattle.std.specs.declared.option.Option.{Option}
use Rattle.std.specs.Prelude.{◌&&◌, option_map, unwrap_or, bytes_eq}
use Rattle.std.specs.List.{list_any}
use Rattle.std.proofs.lemmas.Bool.{false≢true, false_from_ne_true, and_parts, and_from}
use Rattle.std.proofs.lemmas.Slice.Eq.{bytes_eq-Decides}
use Rattle.covjson_value.specs.declared.coverages.Parameter.{Parameter}
use Rattle.covjson_value.specs.Coverages.{AscendById}
use Rattle.edr_ids.specs.Ids.{AscendBy}
use Rattle.edr_station.specs.Stations.{StationValue, IsStation, station_id, station_at, nowhere}
use Rattle.edr_edition.specs.Stores.{of_stations, Subject}
use Rattle.edr_query.specs.Values.{QueryValue}
use Rattle.edr_select.specs.Samples.{Stored, id_at}
use Rattle.edr_select.specs.Selections.{is_asked, wants, picked}
use Rattle.edr_select.specs.Documents.{value_in}
use Rattle.edr_select.specs.Series.{series_value}
use Rattle.edr_select.specs.ListLaws.{find_each, find_none}
use Rattle.edr_plan.specs.StationPlaces.{cell_of, stored_in}
use Rattle.edr_plan.proofs.StationSamples.{levels_are_axis}
use Rattle.edr_plan.proofs.StationIds.{one_station, is_there, itself, same_place}
use Rattle.edr_plan.proofs.SelectedSamples.{IsPlace, wanted_found, found_wanted, each_pick}

-- a test of a station, a time and a level, by their places
abbrev pub StationTest : Type 0
StationTest = ℕ → ℕ → ℕ → Bool

-- a query selects of stations by its parameters and a test
abbrev pub SelectsBy : Subject → QueryValue → List Parameter → List StationValue → StationTest → Type 0
SelectsBy s q ps ss takes = (k p t z : ℕ) → wants s q (stored_in ps ss k p t z) ≡ (is_asked q.parameters (id_at ps p) && takes k t z)

-- one of a station, where the query selects by a test
pub record Pick (q : QueryValue) (ps : List Parameter) (ss : List StationValue) (takes : StationTest) (u : Stored → Bool) (k : ℕ) : Type 0 where
  pub parameter : ℕ
  pub time : ℕ
  pub level : ℕ
  pub place : IsPlace ps ss k parameter time level
  pub asked : is_asked q.parameters (id_at ps parameter) ≡ true
  pub taken : takes k time level ≡ true
  pub passes : u (stored_in ps ss k parameter time level) ≡ true

module _ (s : Subject) (q : QueryValue) (ps : List Parameter) (ss : List StationValue) (held : s.held ≡ of_stations ps ss) (are : All (IsStation (length ps)) ss)
    (takes : StationTest) (selects : SelectsBy s q ps ss takes) where
  abbrev picks : List Stored
  picks = picked s q

  pub pick_found : (u : Stored → Bool) → list_any u picks ≡ true → (k : ℕ) × Pick q ps ss takes u k
  pick_found u h =
      let f = wanted_found s q ps ss held are u h in
      let taken = and_parts (is_asked q.parameters (id_at ps f.parameter)) (takes f.station f.time f.level) (sym (selects f.station f.parameter f.time f.level) ∙ f.wanted) in (
        f.station,
        record {
          parameter = f.parameter;
          time = f.time;
          level = f.level;
          place = f.place;
          asked = taken.0;
          taken = taken.1;
          passes = f.passes;
        },
      )

  pub found_pick : (u : Stored → Bool) (k p t z : ℕ) → IsPlace ps ss k p t z → is_asked q.parameters (id_at ps p) ≡ true → takes k t z ≡ true
      → u (stored_in ps ss k p t z) ≡ true → list_any u picks ≡ true
  found_pick u k p t z at asked taken passes = found_wanted s q ps ss held are u k p t z at (selects k p t z ∙ and_from _ _ asked taken) passes

  module _ (up : AscendBy station_id ss) where
    same_id : (j k : ℕ) → j < length ss → k < length ss → bytes_eq (station_at ss j).id (station_at ss k).id ≡ true → j ≡ k
    same_id j k hj hk h = one_station ss up j k hj hk ((bytes_eq-Decides (station_at ss j).id (station_at ss k).id).0 h)

    -- ---- values

    module _ (ids : AscendById ps) (k p t z : ℕ) (at : IsPlace ps ss k p t z) where
      abbrev there : Stored → Bool
      there = is_there ps ss k p t z

      abbrev StandsThere : ℕ → Type 0
      StandsThere j = (a b c : ℕ) → IsPlace ps ss j a b c → there (stored_in ps ss j a b c) ≡ true → (a ≡ p) × (b ≡ t) × (c ≡ z)

      own_stands : StandsThere k
      own_stands a b c in_k h =
          same_place ps ss k p t z (are k nowhere at.station) ids at.parameter at.time (omega (arith, at.level, levels_are_axis (station_at ss k).zs)) a b c in_k.parameter in_k.time
          (omega (arith, in_k.level, levels_are_axis (station_at ss k).zs)) h

      -- a sample that is there stands at these places
      own_station : (j a b c : ℕ) → IsPlace ps ss j a b c → there (stored_in ps ss j a b c) ≡ true → j ≡ k
      own_station j a b c in_j h = same_id j k in_j.station at.station (and_parts (bytes_eq (station_at ss j).id (station_at ss k).id) _ h).0

      stands : (j : ℕ) → j ≡ k → StandsThere j
      stands j same = subst StandsThere (sym same) own_stands

      -- the value of a sample that is taken is found at its node
      pub value_at_place : is_asked q.parameters (id_at ps p) ≡ true → takes k t z ≡ true
          → value_in picks (Some (station_at ss k).id) (id_at ps p) (stored_in ps ss k p t z).sample.at ≡ series_value (station_at ss k) p (Some (cell_of (station_at ss k) t z))
      value_at_place asked taken =
          ap (λ v. unwrap_or v None)
          (find_each there (λ (x : Stored). x.sample.value) (stored_in ps ss k p t z).sample.value picks (each_pick s q ps ss held are (λ x. there x ≡ true → x.sample.value ≡ (stored_in ps ss k p t z).sample.value) same_value)
          (found_pick there k p t z at asked taken (itself ps ss k p t z)))
        where
          same_value : (j a b c : ℕ) → IsPlace ps ss j a b c → there (stored_in ps ss j a b c) ≡ true → (stored_in ps ss j a b c).sample.value ≡ (stored_in ps ss k p t z).sample.value
          same_value j a b c in_j h =
              let station : j ≡ k = own_station j a b c in_j h in
              let same = stands j station a b c in_j h in
              ap₂ (λ j a. (stored_in ps ss j a b c).sample.value) station same.0 ∙ ap₂ (λ b c. (stored_in ps ss k p b c).sample.value) same.1 same.2

      -- and none is found where it isn't taken
      pub absent_at_place : takes k t z ≡ false → value_in picks (Some (station_at ss k).id) (id_at ps p) (stored_in ps ss k p t z).sample.at ≡ None
      absent_at_place none =
          ap (λ (o : Option Stored). unwrap_or (option_map (λ (x : Stored). x.sample.value) o) None)
          (find_none there picks (false_from_ne_true (list_any there picks) (λ h.
          let f = pick_found there h in
          let station : f.0 ≡ k = own_station f.0 f.1.parameter f.1.time f.1.level f.1.place f.1.passes in
          let same = stands f.0 station f.1.parameter f.1.time f.1.level f.1.place f.1.passes in
          absurd (false≢true (sym none ∙ (sym (ap₂ (λ j b. takes j b f.1.level) station same.1 ∙ ap (takes k t) same.2) ∙ f.1.taken))))))
