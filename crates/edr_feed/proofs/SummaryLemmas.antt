-- Tallies of instance after instance, of station after station, and of collection after collection.
use Rattle.std.proofs.Common.{◌≡◌, ℕ, ◌+◌, ◌<◌, List, [], ◌∷◌, ◌++◌, length, take, get_or, sym, ap, ◌∙◌, append-nil}
use Rattle.std.proofs.lemmas.Grind.{flat_map-append}
use Rattle.std.proofs.lemmas.List.{length-append, take_more}
use Rattle.edr_station.specs.declared.tallies.Tally.{Tally}
use Rattle.edr_station.specs.Stations.{StationValue}
use Rattle.edr_edition.specs.Values.{InstanceValue, CollectionValue}
use Rattle.edr_station.specs.Tallies.{tally_of, and_of, TalliesAddUp}
use Rattle.edr_station.specs.TallyLaws.{and-assoc}
use Rattle.edr_feed.specs.Summaries.{instances_of, samples_of, stations_of, station_samples, series_of}

samples_more : (instances : List InstanceValue) (i : ℕ) (d : InstanceValue) → i < length instances
    → samples_of (take (i + 1) instances) ≡ samples_of (take i instances) ++ (get_or instances i d).grid.values
samples_more instances i d inside =
    ap samples_of (take_more instances i d inside)
    ∙ (flat_map-append (λ (instance : InstanceValue). instance.grid.values) (take i instances) (get_or instances i d ∷ [])
    ∙ ap (λ list. samples_of (take i instances) ++ list) (append-nil (get_or instances i d).grid.values))

-- one instance more
pub instance_step : TalliesAddUp → (self now next : Tally) (instances : List InstanceValue) (i : ℕ) (d : InstanceValue) → now ≡ and_of self (tally_of (samples_of (take i instances))) → i < length instances
    → next ≡ and_of now (tally_of (get_or instances i d).grid.values) → next ≡ and_of self (tally_of (samples_of (take (i + 1) instances)))
instance_step adds self now next instances i d before inside step =
    let values = (get_or instances i d).grid.values in
    let sofar = samples_of (take i instances) in
    step ∙ (ap (λ t. and_of t (tally_of values)) before
    ∙ (and-assoc self (tally_of sofar) (tally_of values)
    ∙ (ap (and_of self) (sym (adds sofar values))
    ∙ ap (λ list. and_of self (tally_of list)) (sym (samples_more instances i d inside)))))

-- one station more
series_more : (stations : List StationValue) (i : ℕ) (d : StationValue) → i < length stations
    → series_of (take (i + 1) stations) ≡ series_of (take i stations) ++ station_samples (get_or stations i d)
series_more stations i d inside =
    ap series_of (take_more stations i d inside)
    ∙ (flat_map-append station_samples (take i stations) (get_or stations i d ∷ [])
    ∙ ap (λ list. series_of (take i stations) ++ list) (append-nil (station_samples (get_or stations i d))))

pub station_step : TalliesAddUp → (self now next : Tally) (stations : List StationValue) (i : ℕ) (d : StationValue) → now ≡ and_of self (tally_of (series_of (take i stations))) → i < length stations
    → next ≡ and_of now (tally_of (station_samples (get_or stations i d))) → next ≡ and_of self (tally_of (series_of (take (i + 1) stations)))
station_step adds self now next stations i d before inside step =
    let values = station_samples (get_or stations i d) in
    let sofar = series_of (take i stations) in
    step ∙ (ap (λ t. and_of t (tally_of values)) before
    ∙ (and-assoc self (tally_of sofar) (tally_of values)
    ∙ (ap (and_of self) (sym (adds sofar values))
    ∙ ap (λ list. and_of self (tally_of list)) (sym (series_more stations i d inside)))))

instances_more : (collections : List CollectionValue) (i : ℕ) (d : CollectionValue) → i < length collections
    → instances_of (take (i + 1) collections) ≡ instances_of (take i collections) ++ (get_or collections i d).instances
instances_more collections i d inside =
    ap instances_of (take_more collections i d inside)
    ∙ (flat_map-append (λ (collection : CollectionValue). collection.instances) (take i collections) (get_or collections i d ∷ [])
    ∙ ap (λ list. instances_of (take i collections) ++ list) (append-nil (get_or collections i d).instances))

-- one collection more
pub collection_counts : (now next : ℕ) (collections : List CollectionValue) (i : ℕ) (d : CollectionValue) → now ≡ length (instances_of (take i collections)) → i < length collections
    → next ≡ now + length (get_or collections i d).instances → next ≡ length (instances_of (take (i + 1) collections))
collection_counts now next collections i d before inside step =
    step ∙ (ap (λ n. n + length (get_or collections i d).instances) before
    ∙ (sym (length-append (instances_of (take i collections)) (get_or collections i d).instances) ∙ ap (λ list. length list) (sym (instances_more collections i d inside))))

pub collection_tallies : TalliesAddUp → (now next : Tally) (collections : List CollectionValue) (i : ℕ) (d : CollectionValue) → now ≡ tally_of (samples_of (instances_of (take i collections))) → i < length collections
    → next ≡ and_of now (tally_of (samples_of (get_or collections i d).instances)) → next ≡ tally_of (samples_of (instances_of (take (i + 1) collections)))
collection_tallies adds now next collections i d before inside step =
    let more = (get_or collections i d).instances in
    let sofar = instances_of (take i collections) in
    step ∙ (ap (λ t. and_of t (tally_of (samples_of more))) before
    ∙ (sym (adds (samples_of sofar) (samples_of more))
    ∙ (ap tally_of (sym (flat_map-append (λ (instance : InstanceValue). instance.grid.values) sofar more))
    ∙ ap (λ list. tally_of (samples_of list)) (sym (instances_more collections i d inside)))))

-- the stations of one collection more
stations_more : (collections : List CollectionValue) (i : ℕ) (d : CollectionValue) → i < length collections
    → stations_of (take (i + 1) collections) ≡ stations_of (take i collections) ++ (get_or collections i d).stations
stations_more collections i d inside =
    ap stations_of (take_more collections i d inside)
    ∙ (flat_map-append (λ (collection : CollectionValue). collection.stations) (take i collections) (get_or collections i d ∷ [])
    ∙ ap (λ list. stations_of (take i collections) ++ list) (append-nil (get_or collections i d).stations))

pub station_counts : (now next : ℕ) (collections : List CollectionValue) (i : ℕ) (d : CollectionValue) → now ≡ length (stations_of (take i collections)) → i < length collections
    → next ≡ now + length (get_or collections i d).stations → next ≡ length (stations_of (take (i + 1) collections))
station_counts now next collections i d before inside step =
    step ∙ (ap (λ n. n + length (get_or collections i d).stations) before
    ∙ (sym (length-append (stations_of (take i collections)) (get_or collections i d).stations) ∙ ap (λ list. length list) (sym (stations_more collections i d inside))))

pub station_tallies : TalliesAddUp → (now next : Tally) (collections : List CollectionValue) (i : ℕ) (d : CollectionValue) → now ≡ tally_of (series_of (stations_of (take i collections))) → i < length collections
    → next ≡ and_of now (tally_of (series_of (get_or collections i d).stations)) → next ≡ tally_of (series_of (stations_of (take (i + 1) collections)))
station_tallies adds now next collections i d before inside step =
    let more = (get_or collections i d).stations in
    let sofar = stations_of (take i collections) in
    step ∙ (ap (λ t. and_of t (tally_of (series_of more))) before
    ∙ (sym (adds (series_of sofar) (series_of more))
    ∙ (ap tally_of (sym (flat_map-append station_samples sofar more))
    ∙ ap (λ list. tally_of (series_of list)) (sym (stations_more collections i d inside)))))
