-- Which inputs are the stations of a collection, and why others aren't.
use Rattle.std.specs.Prelude.{◌≡◌, ◌↔◌, ℕ, pos, ◌<◌, List, [], length, map, All, Contains, None}
use Rattle.std.specs.List.{slice_index_or}
use Rattle.edr_base.specs.FirstThatApplies.{IsLeastId}
use Rattle.edr_base.specs.Limits.{AreSamples}
use Rattle.edr_station.specs.declared.inputs.StationInput.{StationInput}
use Rattle.edr_station.specs.declared.inputs.StationFault.{StationFault}
use Rattle.edr_station.specs.declared.inputs.StationFault.TheVariants.{SameId, WrongCount, OutOfMemory}
use Rattle.edr_station.specs.Stations.{StationValue, IsPlaced, values_along}

-- the station that an input describes
abbrev pub station_of : StationInput → StationValue
station_of input = record {
  id = input.id;
  label = input.label;
  x = input.x;
  y = input.y;
  ts = input.times;
  zs = input.levels;
  series = input.series;
}

-- what is asked of each input: a name, a label, a place, times and levels within the limits, and samples
pub record IsInput (input : StationInput) : Type 0 where
  pub placed : IsPlaced (station_of input)
  pub samples : All AreSamples input.series

-- it has a list for each parameter, with one value for each time and level
pub record HasCounts (parameters : ℕ) (input : StationInput) : Type 0 where
  pub many : length input.series ≡ parameters
  pub long : All (λ values. length values ≡ values_along (station_of input)) input.series

-- no input: what stands past the last one
abbrev pub no_input : StationInput
no_input = record { id = []; label = []; x = pos 0; y = pos 0; times = []; levels = None; series = [] }

-- the input at a place, and its id
abbrev pub input_at : List StationInput → ℕ → StationInput
input_at inputs place = slice_index_or inputs place no_input

abbrev pub id_at : List StationInput → ℕ → List ℕ
id_at inputs place = (input_at inputs place).id

-- two inputs have the id
pub record IsRepeated (inputs : List StationInput) (id : List ℕ) : Type 0 where
  pub first : ℕ
  pub second : ℕ
  pub apart : first < second
  pub inside : second < length inputs
  pub first_has : id_at inputs first ≡ id
  pub second_has : id_at inputs second ≡ id

-- an input of the id hasn't the counts of so many parameters
pub record IsMiscounted (parameters : ℕ) (inputs : List StationInput) (id : List ℕ) : Type 0 where
  pub place : ℕ
  pub inside : place < length inputs
  pub has : id_at inputs place ≡ id
  pub differs : ¬ (HasCounts parameters (input_at inputs place))

-- the place of a fault in their order
abbrev pub rank : StationFault → ℕ
rank (SameId id) = 1
rank (WrongCount id) = 2
rank OutOfMemory = 3

-- the fault applies to inputs as stations of so many parameters
abbrev pub Applies : ℕ → List StationInput → StationFault → Type 0
Applies parameters inputs (SameId id) = IsLeastId (IsRepeated inputs) id
Applies parameters inputs (WrongCount id) = IsLeastId (IsMiscounted parameters inputs) id
Applies parameters inputs OutOfMemory = ⊥

-- the stations are those of the inputs, and no others
abbrev pub AreOf : List StationInput → List StationValue → Type 0
AreOf inputs stations = (s : StationValue) → Contains stations s ↔ Contains (map station_of inputs) s
