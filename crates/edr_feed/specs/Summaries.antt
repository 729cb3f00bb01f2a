-- The line that tells what an edition has.
use Rattle.std.specs.Prelude.{ℕ, ℤ, codes, List, ◌++◌, length, Option}
use Rattle.std.specs.List.{flat_map}
use Rattle.std.specs.Fmt.{decimal, signed_decimal}
use Rattle.edr_station.specs.Stations.{StationValue}
use Rattle.edr_edition.specs.Values.{InstanceValue, CollectionValue, EditionValue}
use Rattle.edr_station.specs.declared.tallies.Tally.{Tally}
use Rattle.edr_station.specs.Tallies.{tally_of}

-- the instances of all collections
abbrev pub instances_of : List CollectionValue → List InstanceValue
instances_of collections = flat_map (λ (collection : CollectionValue). collection.instances) collections

-- the samples of all instances
abbrev pub samples_of : List InstanceValue → List (Option ℤ)
samples_of instances = flat_map (λ (instance : InstanceValue). instance.grid.values) instances

-- the stations of all collections
abbrev pub stations_of : List CollectionValue → List StationValue
stations_of collections = flat_map (λ (collection : CollectionValue). collection.stations) collections

-- the samples of a station, and of all stations
abbrev pub station_samples : StationValue → List (Option ℤ)
station_samples station = flat_map (λ (values : List (Option ℤ)). values) station.series

abbrev pub series_of : List StationValue → List (Option ℤ)
series_of stations = flat_map station_samples stations

-- what is said of samples, behind a beginning of the line
abbrev pub tally_text : List ℕ → Tally → List ℕ
tally_text front tally =
    front ++ codes ", samples " ++ decimal tally.samples ++ codes ", present " ++ decimal tally.present ++ codes ", sum " ++ signed_decimal tally.sum
    ++ codes "\n"

-- the line of an edition: its number, how many collections, instances and stations it has, and the tally of the samples of
-- them all
abbrev pub summary_line : EditionValue → List ℕ
summary_line edition =
    let instances = instances_of edition.collections in
    let stations = stations_of edition.collections in
    tally_text
    (codes "edition " ++ decimal edition.number ++ codes ": collections " ++ decimal (length edition.collections) ++ codes ", instances "
    ++ decimal (length instances) ++ codes ", stations " ++ decimal (length stations))
    (tally_of (samples_of instances ++ series_of stations))
