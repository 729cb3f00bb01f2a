-- For private clauses: the fields of one record.
use Rattle.std.specs.Prelude.{◌≡◌, ◌≤◌, ◌+◌, ◌⊎◌, ℕ, ℤ, List, [], codes, get_or, length}
use Rattle.edr_base.specs.FirstThatApplies.{IsLeast, IsFirstPlace}
use Rattle.edr_base.specs.Limits.{IsSample}
use Rattle.edr_base.specs.Names.{IsName}
use Rattle.edr_base.specs.Numbers.{IsWhole}
use Rattle.edr_axes.specs.InstantGrammar.{IsInstant}
use Rattle.edr_csv.specs.declared.forms.Numbers.{Numbers}
use Rattle.edr_csv.specs.declared.observations.Column.{Column}
use Rattle.edr_csv.specs.declared.observations.Column.TheVariants as column
use Rattle.edr_csv.specs.declared.observations.TableFault.{TableFault}
use Rattle.edr_csv.specs.declared.observations.TableFault.TheVariants.{BadField, OutOfMemory}
use Rattle.edr_csv.specs.Observations.{HasForm, IsCoordinateText, IsValueText, field_of, place_of, label_limit, HasBadField, HasBadFields, IsBehindHeader, IsSeven}

-- seven fields, which are those of the header
abbrev pub HasColumns : List (List ℕ) → Type 0
HasColumns fields =
    (length fields ≡ 7)
    × (get_or fields 0 [] ≡ codes "station")
    × (get_or fields 1 [] ≡ codes "label")
    × (get_or fields 2 [] ≡ codes "x")
    × (get_or fields 3 [] ≡ codes "y")
    × (get_or fields 4 [] ≡ codes "t")
    × (get_or fields 5 [] ≡ codes "parameter")
    × (get_or fields 6 [] ≡ codes "value")

-- the text of a sample
abbrev pub IsSampleText : List ℕ → ℤ → Type 0
IsSampleText text value = IsWhole text value × IsSample value

-- the field of a column isn't of its form
abbrev pub IsWrong : List (List ℕ) → Column → Type 0
IsWrong fields column = ¬ (HasForm column (field_of column fields))

-- all fields are of their forms, and these are their numbers
pub record AreNumbers (fields : List (List ℕ)) (numbers : Numbers) : Type 0 where
  pub station : IsName (field_of column.Station fields)
  pub label : length (field_of column.Label fields) ≤ label_limit
  pub x : IsCoordinateText (field_of column.X fields) numbers.x
  pub y : IsCoordinateText (field_of column.Y fields) numbers.y
  pub t : IsInstant (field_of column.T fields) numbers.t
  pub parameter : IsName (field_of column.Parameter fields)
  pub value : IsValueText (field_of column.Value fields) numbers.value

-- the fault of a record: its first field that isn't of its form, or that memory was wanting
abbrev pub IsFieldFault : List (List ℕ) → ℕ → TableFault → Type 0
IsFieldFault fields number fault = (fault ≡ OutOfMemory) ⊎ ((column : Column) × (fault ≡ BadField number column) × IsLeast place_of (IsWrong fields) column)

-- the fault of the first record that has one
abbrev pub IsFirstFieldFault : List (List (List ℕ)) → TableFault → Type 0
IsFirstFieldFault records fault = (fault ≡ OutOfMemory)
    ⊎ ((place : ℕ) × (column : Column) × (fault ≡ BadField (place + 1) column) × IsFirstPlace (HasBadFields records) place × IsLeast place_of (HasBadField records place) column)

-- the records behind the header have seven fields of text
abbrev pub AreSevens : List (List (List ℕ)) → Type 0
AreSevens records = (place : ℕ) → IsBehindHeader records place → IsSeven (get_or records place [])
