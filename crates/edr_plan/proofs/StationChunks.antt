-- The blocks that the coverages of a corridor of stations are read from are those that are needed.
use Rattle.std.proofs.Common.{Bool, List, length, map, refl, sym, true, ℕ, ◌*◌, ◌+◌, ◌/◌, ◌==◌, ◌∙◌, ◌≡◌}
use Rattle.std.specs.List.{filter, list_any, range_with_len}
use Rattle.std.specs.Prelude.{◌&&◌}
use Rattle.std.proofs.lemmas.Bool.{and_from, and_parts}
use Rattle.covjson_value.specs.declared.coverages.Parameter.{Parameter}
use Rattle.edr_axes.specs.Axes.{axis_length}
use Rattle.edr_edition.specs.Editions.{IsCollection}
use Rattle.edr_edition.specs.Stores.{Subject, stations_of}
use Rattle.edr_edition.specs.Values.{CollectionValue}
use Rattle.edr_query.specs.Values.{QueryValue}
use Rattle.edr_select.specs.Checks.{stations_in}
use Rattle.edr_select.specs.Choices.{parameter_places}
use Rattle.edr_select.specs.KeptLaws.{contains_kept, kept_agree, kept_below, kept_passes}
use Rattle.edr_select.specs.ListLaws.{any-flat_map, any-map, any_agree, any_member, both, passing}
use Rattle.edr_select.specs.Samples.{Stored, ascending_once, id_at}
use Rattle.edr_select.specs.Selections.{chunk_of, is_asked, needed, picked}
use Rattle.edr_select.specs.Series.{blocks_of_coverage, blocks_of_series, cells_taken}
use Rattle.edr_station.specs.Blocks.{blocks, blocks_of, first_block}
use Rattle.edr_station.specs.Stations.{StationValue, station_at}
use Rattle.edr_plan.specs.StationPlaces.{cell_of, cells_by, choice_by, has_level, has_time, is_taken, takes_at}
use Rattle.edr_plan.specs.StationPlans.{all_series, series_of}
use Rattle.edr_plan.proofs.SelectedStations.{SelectsBy, found_pick, pick_found}
use Rattle.edr_plan.proofs.StationCells.{any_cell, level_occurs, some_taken_at, time_occurs}
use Rattle.edr_plan.proofs.StationHeads.{station_selects}

-- ascending, each once, are the same those among which each number is as well
same_once : (count : ℕ) (ms ns : List ℕ) → ((b : ℕ) → list_any (λ n. n == b) ms ≡ list_any (λ n. n == b) ns) → ascending_once count ms ≡ ascending_once count ns
same_once count ms ns same = kept_agree (λ b. list_any (λ n. n == b) ms) (λ b. list_any (λ n. n == b) ns) 0 count (λ b low high. same b)

module _ (collection : CollectionValue) (q : QueryValue) (is : IsCollection collection) where
  abbrev ps : List Parameter
  ps = collection.parameters

  abbrev ss : List StationValue
  ss = collection.stations

  abbrev s : Subject
  s = stations_in collection

  abbrev asked : List ℕ
  asked = parameter_places q.parameters ps

  abbrev taken : List ℕ
  taken = filter (is_taken collection q) (range_with_len 0 (length ss))

  selects : SelectsBy s q ps ss (takes_at collection q)
  selects = station_selects collection q

  -- the number of the block of a parameter and a cell of a station
  abbrev block_at : ℕ → ℕ → ℕ → ℕ
  block_at k p cell = first_block (stations_of ps ss) k + p * blocks_of (station_at ss k) + cell / 256

  module _ (b : ℕ) where
    abbrev is_number : ℕ → Bool
    is_number n = n == b

    -- it is that of a level of a time, of a time, of a parameter and of a station
    abbrev of_level : ℕ → ℕ → ℕ → ℕ → Bool
    of_level k p t z = takes_at collection q k t z && is_number (block_at k p (cell_of (station_at ss k) t z))

    abbrev of_time : ℕ → ℕ → ℕ → Bool
    of_time k p t = list_any (of_level k p t) (choice_by (station_at ss k) (takes_at collection q k)).levels

    abbrev of_parameter : ℕ → ℕ → Bool
    of_parameter k p = list_any (of_time k p) (choice_by (station_at ss k) (takes_at collection q k)).times

    abbrev of_station : ℕ → Bool
    of_station k = list_any (of_parameter k) asked

    of_blocks : list_any is_number (blocks_of_series asked (all_series collection q)) ≡ list_any of_station taken
    of_blocks =
        any-flat_map is_number (blocks_of_coverage asked) (all_series collection q)
        ∙ (any-map (λ series. list_any is_number (blocks_of_coverage asked series)) (series_of collection q) taken
        ∙ any_agree (λ k. list_any is_number (blocks_of_coverage asked (series_of collection q k))) of_station here taken)
      where
        here : (k : ℕ) → list_any is_number (blocks_of_coverage asked (series_of collection q k)) ≡ of_station k
        here k =
            any-flat_map is_number (λ p. map (block_at k p) (cells_taken (cells_by (station_at ss k) (takes_at collection q k)))) asked
            ∙ any_agree (λ p. list_any is_number (map (block_at k p) (cells_taken (cells_by (station_at ss k) (takes_at collection q k))))) (of_parameter k)
            (λ p. any-map is_number (block_at k p) (cells_taken (cells_by (station_at ss k) (takes_at collection q k))) ∙ any_cell (station_at ss k) (takes_at collection q k) (λ cell. is_number (block_at k p cell))) asked

    abbrev has_chunk : Stored → Bool
    has_chunk x = is_number (chunk_of x)

    picked_from : list_any has_chunk (picked s q) ≡ true → list_any of_station taken ≡ true
    picked_from h =
        let f = pick_found s q ps ss refl is.stations.are.each (takes_at collection q) selects has_chunk h in
        let k : ℕ = f.0 in
        let station : StationValue = station_at ss k in
        let at = f.1.place in
        any_member of_station taken k (contains_kept (is_taken collection q) (length ss) k at.station (some_taken_at station (takes_at collection q k) f.1.time f.1.level at.time at.level f.1.taken))
        (any_member (of_parameter k) asked f.1.parameter (contains_kept (λ p. is_asked q.parameters (id_at ps p)) (length ps) f.1.parameter at.parameter f.1.asked)
        (any_member (of_time k f.1.parameter) (choice_by station (takes_at collection q k)).times f.1.time (time_occurs station (takes_at collection q k) f.1.time f.1.level at.time at.level f.1.taken)
        (any_member (of_level k f.1.parameter f.1.time) (choice_by station (takes_at collection q k)).levels f.1.level (level_occurs station (takes_at collection q k) f.1.time f.1.level at.time at.level f.1.taken)
        (and_from _ _ f.1.taken f.1.passes))))

    from_picked : list_any of_station taken ≡ true → list_any has_chunk (picked s q) ≡ true
    from_picked h =
        let fk = passing of_station taken h in
        let k : ℕ = fk.item in
        let station : StationValue = station_at ss k in
        let fp = passing (of_parameter k) asked fk.passes in
        let ft = passing (of_time k fp.item) (choice_by station (takes_at collection q k)).times fp.passes in
        let fz = passing (of_level k fp.item ft.item) (choice_by station (takes_at collection q k)).levels ft.passes in
        let parts = and_parts (takes_at collection q k ft.item fz.item) (is_number (block_at k fp.item (cell_of station ft.item fz.item))) fz.passes in
        found_pick s q ps ss refl is.stations.are.each (takes_at collection q) selects has_chunk k fp.item ft.item fz.item
        (record {
          station = kept_below (is_taken collection q) (length ss) k fk.among;
          parameter = kept_below (λ p. is_asked q.parameters (id_at ps p)) (length ps) fp.item fp.among;
          time = kept_below (has_time station (takes_at collection q k)) (length station.ts) ft.item ft.among;
          level = kept_below (has_level station (takes_at collection q k)) (axis_length station.zs) fz.item fz.among;
        }) (kept_passes (λ p. is_asked q.parameters (id_at ps p)) (length ps) fp.item fp.among) parts.0 parts.1

    same_number : list_any is_number (blocks_of_series asked (all_series collection q)) ≡ list_any is_number (map chunk_of (picked s q))
    same_number = of_blocks ∙ (both (list_any of_station taken) (list_any has_chunk (picked s q)) from_picked picked_from ∙ sym (any-map is_number chunk_of (picked s q)))

  pub chunks_are : ascending_once (blocks (length ps) ss) (blocks_of_series asked (all_series collection q)) ≡ needed s q
  chunks_are = same_once (blocks (length ps) ss) (blocks_of_series asked (all_series collection q)) (map chunk_of (picked s q)) same_number
