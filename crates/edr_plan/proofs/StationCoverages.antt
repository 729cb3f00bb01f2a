-- The coverages of stations, by what is taken of them.
use Rattle.std.proofs.Common.{Bool, Contains, List, None, Some, [], ap, false, length, map, refl, sym, true, ℕ, ℤ, ◌<◌, ◌∙◌, ◌∷◌, ◌≡◌, ◌≢◌}
use Rattle.std.specs.List.{flat_map}
use Rattle.std.specs.Prelude.{option_map}
use Rattle.std.specs.declared.option.Option.{Option}
use Rattle.covjson_value.specs.Samples.{Node, node, nodes_of}
use Rattle.covjson_value.specs.declared.coverages.Coverage.{Coverage}
use Rattle.covjson_value.specs.declared.coverages.NdArray.{NdArray}
use Rattle.covjson_value.specs.declared.coverages.Parameter.{Parameter}
use Rattle.edr_axes.specs.Axes.{axis_length, value_at}
use Rattle.edr_corridor.specs.Boxes.{level_at}
use Rattle.edr_edition.specs.Editions.{IsCollection}
use Rattle.edr_edition.specs.Stores.{Subject}
use Rattle.edr_edition.specs.Values.{CollectionValue}
use Rattle.edr_query.specs.Values.{QueryValue}
use Rattle.edr_select.specs.Checks.{stations_in}
use Rattle.edr_select.specs.Choices.{parameter_places}
use Rattle.edr_select.specs.Documents.{coverage_over, referencing_over, value_in}
use Rattle.edr_select.specs.KeptLaws.{kept_below, kept_passes}
use Rattle.edr_select.specs.ListLaws.{map-flat_map, map-map, map_agree_in}
use Rattle.edr_select.specs.NodeLaws.{levels_shown, nodes_at, place_nodes, place_nodes_chosen}
use Rattle.edr_select.specs.ParameterLaws.{asked_by_places, parameter_at, same_id}
use Rattle.edr_select.specs.Samples.{id_at}
use Rattle.edr_select.specs.Selections.{is_asked, picked}
use Rattle.edr_select.specs.Series.{series_coverage, series_range, series_value}
use Rattle.edr_station.specs.Stations.{StationValue, station_at}
use Rattle.edr_plan.specs.StationPlaces.{ChoiceValue, cell_if, cell_of, cells_by, choice_by, has_level, has_time, is_taken, takes_at}
use Rattle.edr_plan.specs.StationPlans.{domain_of, series_of}
use Rattle.edr_plan.proofs.ChosenPlaces.{one_level}
use Rattle.edr_plan.proofs.SelectedSamples.{IsPlace}
use Rattle.edr_plan.proofs.SelectedStations.{SelectsBy, absent_at_place, value_at_place}
use Rattle.edr_plan.proofs.StationCells.{flat_map_agree_in, passes_chosen}
use Rattle.edr_plan.proofs.StationHeads.{head_of_taken, places, station_selects}

-- the nodes of the domain of a station, by the times and levels that are taken
abbrev pub node_of : StationValue → ℕ → ℕ → Node
node_of s t z = node (Some (value_at s.ts t)) (level_at s.zs z) s.y s.x

pub nodes_of_station : (s : StationValue) (choice : ChoiceValue) → (s.zs ≡ None → choice.levels ≡ 0 ∷ [])
    → nodes_of (domain_of s choice) ≡ flat_map (λ t. map (node_of s t) choice.levels) choice.times
nodes_of_station s choice one =
    nodes_at (map (value_at s.ts) choice.times) (option_map (λ zs. map (value_at zs) choice.levels) s.zs) (s.y, s.x)
    ∙ (ap (λ zs. place_nodes (map (value_at s.ts) choice.times) zs (s.y, s.x)) (levels_shown s.zs choice.levels one)
    ∙ place_nodes_chosen (value_at s.ts) (level_at s.zs) choice.times choice.levels (s.y, s.x))

abbrev pub range_with : List (Option ℤ) → NdArray
range_with values = record { values = values }

module _ (collection : CollectionValue) (q : QueryValue) (is : IsCollection collection)
    (some : parameter_places q.parameters collection.parameters ≢ []) (k : ℕ) (m : Contains (places collection q is some) k) where
  abbrev ps : List Parameter
  ps = collection.parameters

  abbrev ss : List StationValue
  ss = collection.stations

  abbrev s : Subject
  s = stations_in collection

  abbrev station : StationValue
  station = station_at ss k

  abbrev choice : ChoiceValue
  choice = choice_by station (takes_at collection q k)

  abbrev asked : List ℕ
  asked = parameter_places q.parameters ps

  inside : k < length ss
  inside = kept_below (is_taken collection q) (length ss) k m

  taken : is_taken collection q k ≡ true
  taken = kept_passes (is_taken collection q) (length ss) k m

  selects : SelectsBy s q ps ss (takes_at collection q)
  selects = station_selects collection q

  abbrev found : ℕ → Node → Option ℤ
  found p = value_in (picked s q) (Some station.id) (id_at ps p)

  -- what is found at a node is the station's value where it is taken, and else none
  module _ (p t z : ℕ) (mp : Contains asked p) (mt : Contains choice.times t) (mz : Contains choice.levels z) where
    place : IsPlace ps ss k p t z
    place = record {
      station = inside;
      parameter = kept_below (λ p. is_asked q.parameters (id_at ps p)) (length ps) p mp;
      time = kept_below (has_time station (takes_at collection q k)) (length station.ts) t mt;
      level = kept_below (has_level station (takes_at collection q k)) (axis_length station.zs) z mz;
    }

    value_if : (b : Bool) → takes_at collection q k t z ≡ b → found p (node_of station t z) ≡ series_value station p (cell_if b (cell_of station t z))
    value_if true e =
        value_at_place s q ps ss refl is.stations.are.each (takes_at collection q) selects is.stations.are.ascending is.parameters.ascending k p t z place
        (kept_passes (λ p. is_asked q.parameters (id_at ps p)) (length ps) p mp) e
    value_if false e =
        absent_at_place s q ps ss refl is.stations.are.each (takes_at collection q) selects is.stations.are.ascending is.parameters.ascending k p t z place e

    value_at_node : found p (node_of station t z) ≡ series_value station p (cell_if (takes_at collection q k t z) (cell_of station t z))
    value_at_node = value_if (takes_at collection q k t z) refl

  abbrev cell_at : ℕ → ℕ → Option ℕ
  cell_at t z = cell_if (takes_at collection q k t z) (cell_of station t z)

  values_are : (p : ℕ) → Contains asked p → map (found p) (nodes_of (domain_of station choice)) ≡ map (series_value station p) (cells_by station (takes_at collection q k))
  values_are p mp =
      ap (map (found p)) (nodes_of_station station choice (one_level station choice (passes_chosen station (takes_at collection q k) taken)))
      ∙ (map-flat_map (found p) (λ t. map (node_of station t) choice.levels) choice.times
      ∙ (flat_map_agree_in (λ t. map (found p) (map (node_of station t) choice.levels)) (λ t. map (series_value station p) (map (cell_at t) choice.levels)) choice.times
      (λ t mt. map-map (found p) (node_of station t) choice.levels
      ∙ (map_agree_in (λ z. found p (node_of station t z)) (λ z. series_value station p (cell_at t z)) choice.levels (λ z mz. value_at_node p t z mp mt mz)
      ∙ sym (map-map (series_value station p) (cell_at t) choice.levels)))
      ∙ sym (map-flat_map (series_value station p) (λ t. map (cell_at t) choice.levels) choice.times)))

  abbrev coverage_of_station : List Parameter → List NdArray → Coverage
  coverage_of_station parameters ranges = record {
    id = Some station.id;
    domain = domain_of station choice;
    referencing = referencing_over (domain_of station choice) collection.referencing;
    parameters = parameters;
    ranges = ranges;
  }

  abbrev range_of : Parameter → NdArray
  range_of p = range_with (map (value_in (picked s q) (Some station.id) p.id) (nodes_of (domain_of station choice)))

  -- the coverage of a station is that of its cells
  pub coverage_is : coverage_over s q (picked s q) (head_of_taken collection q k) ≡ series_coverage ss asked (series_of collection q k)
  coverage_is =
      ap (λ (parameters : List Parameter). coverage_of_station parameters (map range_of parameters)) (asked_by_places q.parameters ps)
      ∙ ap (coverage_of_station (map (parameter_at ps) asked))
      (map-map range_of (parameter_at ps) asked
      ∙ map_agree_in (λ p. range_of (parameter_at ps p)) (series_range station (cells_by station (takes_at collection q k))) asked
      (λ p mp. ap range_with (ap (λ (id : List ℕ). map (value_in (picked s q) (Some station.id) id) (nodes_of (domain_of station choice))) (same_id ps p) ∙ values_are p mp)))
