-- Tables of observations: a header, and one record for each value of a parameter at a station and a time.
use Rattle.std.specs.Prelude.{◌≡◌, ◌⊎◌, ℕ, ◌+◌, ◌<◌, ◌≤◌, ℤ, List, [], ◌∷◌, codes, length, get_or, take, All, IsUtf8, Option, None, Some, Result, Err, MatchResult}
use Rattle.edr_base.specs.Limits.{IsCoordinate, IsSample}
use Rattle.edr_base.specs.Names.{IsName}
use Rattle.edr_base.specs.Numbers.{IsWhole}
use Rattle.edr_base.specs.FirstThatApplies.{IsLeast, IsFirstPlace}
use Rattle.edr_axes.specs.InstantGrammar.{IsInstant}
use Rattle.edr_ids.specs.Ids.{item_of}
use Rattle.edr_csv.specs.Tables.{IsTable}
use Rattle.edr_csv.specs.declared.observations.Observation.{Observation}
use Rattle.edr_csv.specs.declared.observations.Column.{Column}
use Rattle.edr_csv.specs.declared.observations.Column.TheVariants as column
use Rattle.edr_csv.specs.declared.observations.TableFault.{TableFault}
use Rattle.edr_csv.specs.declared.observations.TableFault.TheVariants.{NotHeader, BadRecord, BadField, PlaceDiffers, SameSample, NoRecords, OutOfMemory}

-- the header
abbrev pub columns : List (List ℕ)
columns = codes "station" ∷ codes "label" ∷ codes "x" ∷ codes "y" ∷ codes "t" ∷ codes "parameter" ∷ codes "value" ∷ []

-- the place of a column in a record, from 0
abbrev pub place_of : Column → ℕ
place_of column.Station = 0
place_of column.Label = 1
place_of column.X = 2
place_of column.Y = 3
place_of column.T = 4
place_of column.Parameter = 5
place_of column.Value = 6

abbrev pub field_of : Column → List (List ℕ) → List ℕ
field_of column fields = get_or fields (place_of column) []

-- the bytes of a label
abbrev pub label_limit : ℕ
label_limit = 128

-- the text of a coordinate
abbrev pub IsCoordinateText : List ℕ → ℤ → Type 0
IsCoordinateText text value = IsWhole text value × IsCoordinate value

-- nothing where the value is missing, else the text of a sample
abbrev pub IsValueText : List ℕ → Option ℤ → Type 0
IsValueText text None = text ≡ []
IsValueText text (Some value) = IsWhole text value × IsSample value

-- a field is of the form that its column wants
abbrev pub HasForm : Column → List ℕ → Type 0
HasForm column.Station text = IsName text
HasForm column.Label text = length text ≤ label_limit
HasForm column.X text = (x : ℤ) × IsCoordinateText text x
HasForm column.Y text = (y : ℤ) × IsCoordinateText text y
HasForm column.T text = (t : ℤ) × IsInstant text t
HasForm column.Parameter text = IsName text
HasForm column.Value text = (value : Option ℤ) × IsValueText text value

-- seven fields of text
pub record IsSeven (fields : List (List ℕ)) : Type 0 where
  pub seven : length fields ≡ 7
  pub texts : All IsUtf8 fields

-- a record stands for an observation
pub record IsObservation (fields : List (List ℕ)) (observation : Observation) : Type 0 where
  pub seven : IsSeven fields
  pub station : (observation.station ≡ field_of column.Station fields) × IsName observation.station
  pub label : (observation.label ≡ field_of column.Label fields) × (length observation.label ≤ label_limit)
  pub x : IsCoordinateText (field_of column.X fields) observation.x
  pub y : IsCoordinateText (field_of column.Y fields) observation.y
  pub t : IsInstant (field_of column.T fields) observation.t
  pub parameter : (observation.parameter ≡ field_of column.Parameter fields) × IsName observation.parameter
  pub value : IsValueText (field_of column.Value fields) observation.value

-- the first record is the header
abbrev pub IsHeaded : List (List (List ℕ)) → Type 0
IsHeaded records = get_or records 0 [] ≡ columns

-- so many records are a header and the records of these observations, in their order
pub record AreBehind (records : List (List (List ℕ))) (count : ℕ) (observations : List Observation) : Type 0 where
  pub as_many : count ≡ length observations + 1
  pub each : (place : ℕ) (d : Observation) → place < length observations → IsObservation (get_or records (place + 1) []) (get_or observations place d)

abbrev pub AreObservations : List (List (List ℕ)) → List Observation → Type 0
AreObservations records observations = IsHeaded records × AreBehind records (length records) observations

-- the record at a place, from 0, that isn't the header
pub record IsBehindHeader (records : List (List (List ℕ))) (place : ℕ) : Type 0 where
  pub behind : 0 < place
  pub within : place < length records

-- it hasn't seven fields of text
abbrev pub IsBadRecord : List (List (List ℕ)) → ℕ → Type 0
IsBadRecord records place = IsBehindHeader records place × ¬ (IsSeven (get_or records place []))

-- its field of a column isn't of the form
abbrev pub HasBadField : List (List (List ℕ)) → ℕ → Column → Type 0
HasBadField records place column = IsBehindHeader records place × ¬ (HasForm column (field_of column (get_or records place [])))

abbrev pub HasBadFields : List (List (List ℕ)) → ℕ → Type 0
HasBadFields records place = (column : Column) × HasBadField records place column

-- they have the label, the x and the y of a station
abbrev pub IsSamePlace : Observation → Observation → Type 0
IsSamePlace a b = (a.label ≡ b.label) × (a.x ≡ b.x) × (a.y ≡ b.y)

abbrev pub station_of : Observation → List ℕ
station_of observation = observation.station

-- the observation at a place, from 0, isn't where the first one of its station is
pub record DiffersAt (observations : List Observation) (place : ℕ) : Type 0 where
  pub within : place < length observations
  pub first : Observation
  pub first_is : item_of station_of (station_of (get_or observations place first)) (take place observations) ≡ Some first
  pub differs : ¬ (IsSamePlace first (get_or observations place first))

-- they are of one station, time and parameter
abbrev pub IsSameSample : Observation → Observation → Type 0
IsSameSample a b = (a.station ≡ b.station) × (a.t ≡ b.t) × (a.parameter ≡ b.parameter)

-- the observation at a place is of the station, the time and the parameter of an earlier one
pub record RepeatsAt (observations : List Observation) (place : ℕ) : Type 0 where
  pub within : place < length observations
  pub earlier : ℕ
  pub before : earlier < place
  pub same : (d : Observation) → IsSameSample (get_or observations earlier d) (get_or observations place d)

-- there are some, each where the first one of its station is, and none of them repeats another
pub record AreOwn (observations : List Observation) : Type 0 where
  pub some : 0 < length observations
  pub placed : (place : ℕ) → ¬ (DiffersAt observations place)
  pub single : (place : ℕ) → ¬ (RepeatsAt observations place)

-- which faults apply; a record is named by its number, which is 1 for the header
abbrev pub Applies : List (List (List ℕ)) → TableFault → Type 0
Applies records NotHeader = ¬ (IsHeaded records)
Applies records (BadRecord number) = (place : ℕ) × IsFirstPlace (IsBadRecord records) place × (number ≡ place + 1)
Applies records (BadField number column) = (place : ℕ) × IsFirstPlace (HasBadFields records) place × IsLeast place_of (HasBadField records place) column × (number ≡ place + 1)
Applies records (PlaceDiffers number) = (observations : List Observation) × AreObservations records observations × (place : ℕ) × IsFirstPlace (DiffersAt observations) place × (number ≡ place + 2)
Applies records (SameSample number) = (observations : List Observation) × AreObservations records observations × (place : ℕ) × IsFirstPlace (RepeatsAt observations) place × (number ≡ place + 2)
Applies records NoRecords = AreObservations records []
Applies records OutOfMemory = ⊥

-- their order
abbrev pub rank : TableFault → ℕ
rank NotHeader = 1
rank (BadRecord number) = 2
rank (BadField number column) = 3
rank (PlaceDiffers number) = 4
rank (SameSample number) = 5
rank NoRecords = 6
rank OutOfMemory = 9

-- what records are read as: their observations, or the first fault that applies, or that memory was wanting
abbrev pub IsReadAs : List (List (List ℕ)) → Result (List Observation) TableFault → Type 0
IsReadAs records answer = MatchResult answer (λ observations. AreObservations records observations × AreOwn observations) (λ fault. (fault ≡ OutOfMemory) ⊎ IsLeast rank (Applies records) fault)

-- what some bytes are read as: what their records are
abbrev pub IsTableReadAs : List ℕ → Result (List Observation) TableFault → Type 0
IsTableReadAs bytes answer = (answer ≡ Err OutOfMemory) ⊎ ((records : List (List (List ℕ))) × IsTable bytes records × IsReadAs records answer)
