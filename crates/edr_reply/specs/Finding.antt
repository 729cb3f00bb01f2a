-- For private clauses: what looking at some bytes says of them, and what one part takes of the rest.
use Rattle.std.specs.Prelude.{◌≡◌, ℕ, ◌<◌, ◌≤◌, ◌^◌, List, ◌++◌, length}
use Rattle.std.specs.Char.{is_ascii_digit}
use Rattle.std.specs.List.{AllPass}
use Rattle.std.specs.Str.Parse.{digits_value}
use Rattle.httparse.specs.Grammar.{ResponseHead, print_response, status_code, ChunkLine, print_chunk_line, chunk_size}
use Rattle.edr_http.specs.Chunks.{crlf}
use Rattle.edr_http.specs.Heads.{head_limit}
use Rattle.edr_http.specs.Checks.{Field}
use Rattle.edr_reply.specs.declared.numbers.Number.{Number}
use Rattle.edr_reply.specs.declared.numbers.Number.TheVariants as number
use Rattle.edr_reply.specs.declared.heads.Opening.{Opening}
use Rattle.edr_reply.specs.declared.heads.FoundHead.{FoundHead}
use Rattle.edr_reply.specs.declared.heads.FoundHead.TheVariants as head
use Rattle.edr_reply.specs.declared.lines.FoundLine.{FoundLine}
use Rattle.edr_reply.specs.declared.lines.FoundLine.TheVariants as line
use Rattle.edr_reply.specs.declared.lines.FoundEnd.{FoundEnd}
use Rattle.edr_reply.specs.declared.lines.FoundEnd.TheVariants as end
use Rattle.edr_reply.specs.Messages.{BeginsWithHead, fields_of, HasNumber, IsEdition, IsFraming, size_line_limit}
use Rattle.edr_reply.specs.BrokenParts.{LacksHead, BeginsWithLine, LacksLine, LacksEnd}

-- ---- numbers

-- digits, at least one
abbrev pub AreDigits : List ℕ → Type 0
AreDigits text = (0 < length text) × AllPass is_ascii_digit text

-- what a text is as a number
abbrev pub TellsNumber : List ℕ → Number → Type 0
TellsNumber text (number.Value n) = AreDigits text × (n ≡ digits_value 10 text) × (n < 2 ^ 64)
TellsNumber text number.TooLarge = AreDigits text × (2 ^ 64 ≤ digits_value 10 text)
TellsNumber text number.NoNumber = ¬ (AreDigits text)

-- what the one field of a name is as a number
abbrev pub TellsField : List ℕ → List Field → Number → Type 0
TellsField name fields (number.Value n) = HasNumber name fields n × (n < 2 ^ 64)
TellsField name fields number.TooLarge = (n : ℕ) × HasNumber name fields n × (2 ^ 64 ≤ n)
TellsField name fields number.NoNumber = (n : ℕ) → ¬ (HasNumber name fields n)

-- ---- heads and lines at the front of some bytes

-- what is known of a head
pub record Opens (head : ResponseHead) (opening : Opening) : Type 0 where
  pub len : opening.len ≡ length (print_response head)
  pub status : opening.status ≡ status_code head
  pub edition : IsEdition (fields_of head) opening.edition
  pub framed : IsFraming (fields_of head) opening.framing

abbrev pub TellsHead : List ℕ → FoundHead → Type 0
TellsHead bytes (head.Got opening) = (h : ResponseHead) × (rest : List ℕ) × BeginsWithHead bytes h rest × Opens h opening
TellsHead bytes head.NeedMore = LacksHead bytes × (length bytes < head_limit)
TellsHead bytes head.Bad = (more : List ℕ) → LacksHead (bytes ++ more)

abbrev pub TellsLine : ℕ → List ℕ → FoundLine → Type 0
TellsLine room bytes (line.Got found) =
    (l : ChunkLine) × (rest : List ℕ) × BeginsWithLine bytes l rest × (found.len ≡ length (print_chunk_line l)) × (found.size ≡ chunk_size l) × (found.size ≤ room)
TellsLine room bytes line.NeedMore = LacksLine room bytes × (length bytes < size_line_limit)
TellsLine room bytes line.Bad = (more : List ℕ) → LacksLine room (bytes ++ more)

abbrev pub TellsEnd : List ℕ → FoundEnd → Type 0
TellsEnd bytes end.Got = (rest : List ℕ) × (bytes ≡ crlf ++ rest)
TellsEnd bytes end.NeedMore = LacksEnd bytes × (length bytes < 2)
TellsEnd bytes end.Bad = (more : List ℕ) → LacksEnd (bytes ++ more)
