-- For private clauses: what is noted of observations, to find those that differ from earlier ones, or repeat them.
use Rattle.std.specs.Prelude.{◌≡◌, ℕ, ◌⊎◌, ◌+◌, List, [], ◌∷◌, ◌++◌}
use Rattle.edr_base.specs.FirstThatApplies.{IsFirstPlace}
use Rattle.edr_base.specs.Names.{IsName}
use Rattle.edr_csv.specs.Observations.{DiffersAt, RepeatsAt}
use Rattle.edr_axes.specs.Instants.{IsTime, instant_text}
use Rattle.edr_csv.specs.declared.observations.Observation.{Observation}
use Rattle.edr_csv.specs.declared.observations.TableFault.{TableFault}
use Rattle.edr_csv.specs.declared.observations.TableFault.TheVariants.{PlaceDiffers, SameSample, NoRecords, OutOfMemory}
use Rattle.edr_csv.specs.declared.sites.Site.{Site}
use Rattle.edr_csv.specs.declared.keys.Key.{Key}

-- the station of an observation, where it is the station's first
abbrev pub site_id : Site → List ℕ
site_id site = site.id

abbrev pub site_of : Observation → Site
site_of o = record { id = o.station; label = o.label; x = o.x; y = o.y }

abbrev pub IsAtSite : Site → Observation → Type 0
IsAtSite site o = (site.label ≡ o.label) × (site.x ≡ o.x) × (site.y ≡ o.y)

-- the key of an observation: its time, its station and its parameter
abbrev pub key_id : Key → List ℕ
key_id key = key.text

abbrev pub key_of : Observation → Key
key_of o = record { text = instant_text o.t ++ (o.station ++ 44 ∷ o.parameter) }

-- its key tells these three
pub record IsKeyed (o : Observation) : Type 0 where
  pub t : IsTime o.t
  pub station : IsName o.station
  pub parameter : IsName o.parameter

abbrev pub IsFirstDiffering : List Observation → TableFault → Type 0
IsFirstDiffering observations fault = (place : ℕ) × (fault ≡ PlaceDiffers (place + 2)) × IsFirstPlace (DiffersAt observations) place

abbrev pub IsFirstRepeating : List Observation → TableFault → Type 0
IsFirstRepeating observations fault = (place : ℕ) × (fault ≡ SameSample (place + 2)) × ((k : ℕ) → ¬ (DiffersAt observations k)) × IsFirstPlace (RepeatsAt observations) place

abbrev pub IsNone : List Observation → TableFault → Type 0
IsNone observations fault = (fault ≡ NoRecords) × (observations ≡ [])

-- the first fault of observations, or that memory was wanting
abbrev pub IsOwnFault : List Observation → TableFault → Type 0
IsOwnFault observations fault = (fault ≡ OutOfMemory) ⊎ (IsFirstDiffering observations fault ⊎ (IsFirstRepeating observations fault ⊎ IsNone observations fault))
