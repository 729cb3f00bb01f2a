-- Tables of comma-separated values (RFC 4180): records of fields, as the library `csv` reads and writes them.
use Rattle.std.specs.Prelude.{◌≡◌, ℕ, List}
use Rattle.std.specs.List.{flat_map}
use Rattle.csv.specs.Reading.{AreRecords, default_config, strip_bom}
use Rattle.csv.specs.Writing.{default_writer, row_text}
use Rattle.csv.specs.declared.parser.State.TheVariants as st

-- these are the records of the bytes, each a list of fields; a byte order mark at the front and empty lines aren't among them
abbrev pub IsTable : List ℕ → List (List (List ℕ)) → Type 0
IsTable bytes records = AreRecords default_config st.StartRecord (strip_bom bytes) records

-- the text of records: commas between fields, quotes where a field wants them, and a line feed behind each record
abbrev pub table_text : List (List (List ℕ)) → List ℕ
table_text records = flat_map (row_text default_writer) records

-- some bytes have one list of records
abbrev pub TablesAreUnique : Type 0
TablesAreUnique = (bytes : List ℕ) (records others : List (List (List ℕ))) → IsTable bytes records → IsTable bytes others → records ≡ others
