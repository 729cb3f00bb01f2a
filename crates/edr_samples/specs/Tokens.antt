-- Samples, which are whole numbers and nulls: as data, and as tokens of JSON.
use Rattle.std.specs.Prelude.{◌≡◌, ℤ, Option, Some, None, ⊤}
use Rattle.json.specs.Token as json
use Rattle.serde_json.specs.Data.{Data, null, number}
use Rattle.serde_json.specs.Find.{of_integer}
use Rattle.serde_json.specs.Read.{number_of}

-- the data of a sample: the whole number, or null
abbrev pub sample_data : Option ℤ → Data
sample_data None = null
sample_data (Some z) = number (of_integer z)

-- the token is that number, or null
abbrev pub IsSample : json.Token → Option ℤ → Type 0
IsSample (json.number text) (Some z) = number_of text ≡ Some (of_integer z)
IsSample json.null None = ⊤
IsSample _ _ = ⊥
