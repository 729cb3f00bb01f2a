-- Tables that are imported: in the input.
use Rattle.std.specs.Prelude.{ℕ, ◌<◌, ◌≤◌, List, length, Ok, Err}
use Rattle.std.specs.declared.option.Option.{Option}
use Rattle.edr_import.specs.Imports.{TableStands}
use Rattle.edr_import.specs.Limits.{table_limit}
use Rattle.edr.specs.declared.endings.ImportRefusal.{ImportRefusal}
use Rattle.edr.specs.declared.endings.ImportRefusal.TheVariants.{TooLong, Refused}
use Rattle.edr.specs.Documents.{OfInput}

-- the input is a table within the limit, and this its feed
abbrev pub IsFeedOfTable : Option (List ℕ) → List ℕ → Type 0
IsFeedOfTable input text = OfInput (λ bytes. (length bytes ≤ table_limit) × TableStands bytes (Ok text)) input

-- the bytes are more than a table may have, or it makes no feed
abbrev pub IsNoTableBy : ImportRefusal → List ℕ → Type 0
IsNoTableBy TooLong bytes = table_limit < length bytes
IsNoTableBy (Refused refusal) bytes = (length bytes ≤ table_limit) × TableStands bytes (Err refusal)

abbrev pub IsNoTableIn : Option (List ℕ) → ImportRefusal → Type 0
IsNoTableIn input refusal = OfInput (IsNoTableBy refusal) input
