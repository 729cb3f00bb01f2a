-- The values of documents as records: a header, and one record for each value that isn't missing.
use Rattle.std.specs.Prelude.{ℕ, ℤ, List, [], ◌∷◌, codes, Option, None, Some}
use Rattle.std.specs.List.{flat_map}
use Rattle.std.specs.Fmt.{signed_decimal}
use Rattle.edr_axes.specs.Instants.{instant_text}
use Rattle.covjson_value.specs.declared.coverages.Coverage.{Coverage}
use Rattle.covjson_value.specs.declared.coverages.Document.{Document}
use Rattle.covjson_value.specs.Coverages.{coverages_in}
use Rattle.covjson_value.specs.Samples.{Sample, samples_of}
use Rattle.edr_csv.specs.Tables.{IsTable, table_text}

-- the names of the fields
abbrev pub header : List (List ℕ)
header = codes "parameter" ∷ codes "t" ∷ codes "z" ∷ codes "y" ∷ codes "x" ∷ codes "id" ∷ codes "value" ∷ []

-- a time, or nothing where there is none
abbrev pub time_field : Option ℤ → List ℕ
time_field None = []
time_field (Some time) = instant_text time

-- a number, or nothing where there is none
abbrev pub number_field : Option ℤ → List ℕ
number_field None = []
number_field (Some number) = signed_decimal number

-- a text, or nothing where there is none
abbrev pub text_field : Option (List ℕ) → List ℕ
text_field None = []
text_field (Some text) = text

-- the record of a value, in a coverage of this id
abbrev pub record_of : Option (List ℕ) → Sample → ℤ → List (List ℕ)
record_of id sample value =
    sample.parameter
    ∷ time_field sample.at.t
    ∷ number_field sample.at.z
    ∷ signed_decimal sample.at.y
    ∷ signed_decimal sample.at.x
    ∷ text_field id
    ∷ signed_decimal value
    ∷ []

-- the record of a sample whose value is this, and none where it is missing
abbrev pub record_with : Option (List ℕ) → Sample → Option ℤ → List (List (List ℕ))
record_with id sample None = []
record_with id sample (Some value) = record_of id sample value ∷ []

abbrev pub sample_records : Option (List ℕ) → Sample → List (List (List ℕ))
sample_records id sample = record_with id sample sample.value

-- the records of a coverage: those of all its samples, in their order
abbrev pub coverage_records : Coverage → List (List (List ℕ))
coverage_records coverage = flat_map (sample_records coverage.id) (samples_of coverage)

-- the records of a document: the header, and those of its coverages, in their order
abbrev pub document_records : Document → List (List (List ℕ))
document_records document = header ∷ flat_map coverage_records (coverages_in document)

-- the text of the records of a document has these records
abbrev pub WrittenValuesAreRead : Type 0
WrittenValuesAreRead = (document : Document) → IsTable (table_text (document_records document)) (document_records document)
