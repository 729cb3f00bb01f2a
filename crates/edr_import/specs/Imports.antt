-- The feed of a table, or why a table makes none.
use Rattle.std.specs.Prelude.{◌≡◌, ◌⊎◌, ℕ, ◌*◌, ◌≤◌, codes, List, [], ◌∷◌, ◌++◌, length, map, sum_by, Result, Ok, Err, Option, None}
use Rattle.std.specs.Io.KnownBytes.{append_known}
use Rattle.edr_base.specs.Calls.{WrittenInPart}
use Rattle.edr_base.specs.FirstThatApplies.{Check, With, Then, Gives}
use Rattle.edr_edition.specs.declared.kinds.Kind.TheVariants as kinds
use Rattle.edr_draft.specs.declared.changes.Change.TheVariants as changes
use Rattle.edr_feed.specs.declared.entries.Entry.{Entry}
use Rattle.edr_feed.specs.declared.entries.Entry.TheVariants.{Change, Publish}
use Rattle.edr_csv.specs.Observations.{IsTableReadAs}
use Rattle.edr_csv.specs.declared.observations.Observation.{Observation}
use Rattle.edr_csv.specs.declared.observations.TableFault.{TableFault}
use Rattle.edr_import.specs.declared.names.Name.{Name}
use Rattle.edr_import.specs.declared.sites.Site.{Site}
use Rattle.edr_import.specs.declared.stations.Station.{Station}
use Rattle.edr_import.specs.declared.refusals.TableRefusal.{TableRefusal}
use Rattle.edr_import.specs.declared.refusals.TableRefusal.TheVariants.{TooManyParameters, TooManySamples}
use Rattle.edr_import.specs.declared.refusals.ImportFault.{ImportFault}
use Rattle.edr_import.specs.declared.refusals.ImportFault.TheVariants.{Refused, WriteFault, OutOfMemory}
use Rattle.edr_import.specs.Faults.{of_table}
use Rattle.edr_import.specs.Limits.{parameter_limit, samples_limit}
use Rattle.edr_feed.specs.Written.{entries_text}
use Rattle.edr_import.specs.Tables.{AreParameters, AreSites, AreStations}

-- ---- the feed

-- the collection `sites`, a station with its coverage, and the publish
abbrev pub sites_entry : Entry
sites_entry = Change (changes.Collection (codes "sites") kinds.Station (codes "sites") (codes "local") None)

abbrev pub station_entry : Station → Entry
station_entry station = Change (changes.Station (codes "sites") station.id station.label station.coverage)

-- the text of a feed of stations
abbrev pub feed_text : List Station → List ℕ
feed_text stations = entries_text (sites_entry ∷ (map station_entry stations ++ Publish ∷ []))

-- ---- the table

-- the bytes are read as these observations, or are refused
abbrev pub TableReads : List ℕ → Result (List Observation) TableRefusal → Type 0
TableReads bytes (Ok observations) = IsTableReadAs bytes (Ok observations)
TableReads bytes (Err refusal) = (fault : TableFault) × IsTableReadAs bytes (Err fault) × (of_table fault ≡ Refused refusal)

-- how many times stations have together, and how many samples: one for each time and each parameter
abbrev pub times_in : List Site → ℕ
times_in sites = sum_by (λ (site : Site). length site.times) sites

abbrev pub samples_in : List Name → List Site → ℕ
samples_in names sites = times_in sites * length names

-- the feed of observations, or the first limit that they pass
abbrev pub ObservationsStand : List Observation → Result (List ℕ) TableRefusal → Type 0
ObservationsStand observations =
    With (AreParameters observations) (λ names.
    Check (length names ≤ parameter_limit) (TooManyParameters (length names)) (
    With (AreSites observations) (λ sites.
    Check (samples_in names sites ≤ samples_limit) (TooManySamples (samples_in names sites)) (
    With (AreStations observations names sites) (λ stations.
    Gives (feed_text stations))))))

-- the bytes are a table whose feed is the text, or the first refusal applies to them
abbrev pub TableStands : List ℕ → Result (List ℕ) TableRefusal → Type 0
TableStands bytes = Then (TableReads bytes) ObservationsStand

-- ---- what importing writes: the whole feed; nothing where the table is refused; and else a beginning of the feed
abbrev pub Imports : {T : Type 0} → Result T ImportFault → (Result (List ℕ) TableRefusal → Type 0) → Option (List ℕ) → Option (List ℕ) → Type 0
Imports (Ok done) IsThe old new = (text : List ℕ) × IsThe (Ok text) × (new ≡ append_known old text)
Imports (Err (Refused refusal)) IsThe old new = IsThe (Err refusal) × (new ≡ old)
Imports (Err WriteFault) IsThe old new = WrittenInPart (λ text. IsThe (Ok text)) old new
Imports (Err OutOfMemory) IsThe old new = (new ≡ old) ⊎ WrittenInPart (λ text. IsThe (Ok text)) old new
