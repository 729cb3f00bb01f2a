-- For private clauses: what is answered on the way to the feed of a table; it is free where memory is wanting.
use Rattle.std.specs.Prelude.{ℕ, ⊤, List, All, Result, Ok, Err, Vec}
use Rattle.std.specs.declared.alloc.Global.{Global}
use Rattle.edr_csv.specs.declared.observations.Observation.{Observation}
use Rattle.edr_import.specs.declared.stations.Station.{Station}
use Rattle.edr_import.specs.declared.refusals.TableRefusal.{TableRefusal}
use Rattle.edr_import.specs.declared.refusals.ImportFault.{ImportFault}
use Rattle.edr_import.specs.declared.refusals.ImportFault.TheVariants.{Refused, WriteFault, OutOfMemory}
use Rattle.edr_import.specs.Imports.{ObservationsStand, TableStands, feed_text}
use Rattle.edr_import.specs.Stations.{IsWritable}

-- an answer as the rows have it
abbrev pub MatchRows : {T : Type 0} → (T → Type 0) → (TableRefusal → Type 0) → Result T ImportFault → Type 0
MatchRows IsGiven IsRefused (Ok given) = IsGiven given
MatchRows IsGiven IsRefused (Err (Refused refusal)) = IsRefused refusal
MatchRows IsGiven IsRefused (Err WriteFault) = ⊥
MatchRows IsGiven IsRefused (Err OutOfMemory) = ⊤

-- the stations of observations
abbrev pub MatchStations : Result (Vec Station Global) ImportFault → List Observation → Type 0
MatchStations result observations =
    MatchRows (λ stations. ObservationsStand observations (Ok (feed_text stations.items)) × All IsWritable stations.items) (λ refusal. ObservationsStand observations (Err refusal)) result

-- the feed of observations, and of a table
abbrev pub MatchFeed : Result (Vec ℕ Global) ImportFault → List Observation → Type 0
MatchFeed result observations = MatchRows (λ text. ObservationsStand observations (Ok text.items)) (λ refusal. ObservationsStand observations (Err refusal)) result

abbrev pub MatchTable : Result (Vec ℕ Global) ImportFault → List ℕ → Type 0
MatchTable result bytes = MatchRows (λ text. TableStands bytes (Ok text.items)) (λ refusal. TableStands bytes (Err refusal)) result
