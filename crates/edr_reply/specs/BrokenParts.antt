-- Where bytes that begin with no reply break off: the first part of one that isn't there, or isn't there whole.
use Rattle.std.specs.Prelude.{◌≡◌, ◌⊎◌, ℕ, ◌+◌, ◌-◌, ◌<◌, ◌≤◌, List, ◌++◌, length}
use Rattle.httparse.specs.Grammar.{ResponseHead, print_response, ChunkLine, print_chunk_line, chunk_size}
use Rattle.edr_base.specs.FirstThatApplies.{IsFirstPlace}
use Rattle.edr_http.specs.Chunks.{crlf}
use Rattle.edr_reply.specs.declared.framing.Framing.{Framing}
use Rattle.edr_reply.specs.declared.framing.Framing.TheVariants.{Chunked, Sized, TooLong, ToEnd}
use Rattle.edr_reply.specs.Messages.{BeginsWithHead, fields_of, IsFraming, IsSizeLine, Chunk, AreChunks, print_chunks, joined, body_limit}

-- the bytes begin with no head
abbrev pub LacksHead : List ℕ → Type 0
LacksHead bytes = (head : ResponseHead) (rest : List ℕ) → ¬ (BeginsWithHead bytes head rest)

-- the bytes begin with a line that gives a size, and the rest follows it
abbrev pub BeginsWithLine : List ℕ → ChunkLine → List ℕ → Type 0
BeginsWithLine bytes line rest = IsSizeLine line × (bytes ≡ print_chunk_line line ++ rest)

-- the bytes begin with no line that gives a size of at most so many bytes
abbrev pub LacksLine : ℕ → List ℕ → Type 0
LacksLine room bytes = (line : ChunkLine) (rest : List ℕ) → BeginsWithLine bytes line rest → room < chunk_size line

-- the bytes begin with no line end
abbrev pub LacksEnd : List ℕ → Type 0
LacksEnd bytes = (rest : List ℕ) → ¬ (bytes ≡ crlf ++ rest)

-- the next chunk of a body, which may still grow by `room` bytes, breaks off at a place of these bytes: at its line, at its
-- bytes, at the line end behind them, or at the empty line behind the line of the last chunk
pub data BreaksChunk (room : ℕ) (bytes : List ℕ) (place : ℕ) : Type 0 where
  at_line : LacksLine room bytes → place ≡ 0 → BreaksChunk room bytes place
  at_piece : (line : ChunkLine) (rest : List ℕ) → BeginsWithLine bytes line rest → chunk_size line ≤ room
      → length rest < chunk_size line → place ≡ length (print_chunk_line line) → BreaksChunk room bytes place
  at_end : (line : ChunkLine) (piece rest : List ℕ) → BeginsWithLine bytes line (piece ++ rest) → chunk_size line ≤ room
      → length piece ≡ chunk_size line → 0 < chunk_size line → LacksEnd rest
      → place ≡ length (print_chunk_line line) + length piece → BreaksChunk room bytes place
  at_last : (line : ChunkLine) (rest : List ℕ) → BeginsWithLine bytes line rest → chunk_size line ≡ 0
      → LacksEnd rest → place ≡ length (print_chunk_line line) → BreaksChunk room bytes place

-- a body in chunks breaks off behind the first of them
pub record BreaksChunks (bytes : List ℕ) (place : ℕ) : Type 0 where
  pub chunks : List Chunk
  pub rest : List ℕ
  pub within : ℕ
  pub are_chunks : AreChunks chunks
  pub bytes_are : bytes ≡ print_chunks chunks ++ rest
  pub breaks : BreaksChunk (body_limit - length (joined chunks)) rest within
  pub place_is : place ≡ length (print_chunks chunks) + within

-- a body breaks off; one that isn't in chunks does so at its first byte
abbrev pub BreaksBody : Framing → List ℕ → ℕ → Type 0
BreaksBody Chunked bytes place = BreaksChunks bytes place
BreaksBody (Sized size) bytes place = (length bytes < size) × (place ≡ 0)
BreaksBody TooLong bytes place = place ≡ 0
BreaksBody ToEnd bytes place = (body_limit < length bytes) × (place ≡ 0)

-- a body behind its head breaks off
pub record BreaksBehindHead (bytes : List ℕ) (place : ℕ) : Type 0 where
  pub head : ResponseHead
  pub rest : List ℕ
  pub framing : Framing
  pub within : ℕ
  pub begins : BeginsWithHead bytes head rest
  pub framed : IsFraming (fields_of head) framing
  pub breaks : BreaksBody framing rest within
  pub place_is : place ≡ length (print_response head) + within

-- a reply breaks off at a place: what stands before it are whole parts, and the part that has to come there doesn't
abbrev pub BreaksAt : List ℕ → ℕ → Type 0
BreaksAt bytes place = (LacksHead bytes × (place ≡ 0)) ⊎ BreaksBehindHead bytes place

-- the first such place
abbrev pub IsFirstBreak : List ℕ → ℕ → Type 0
IsFirstBreak bytes place = IsFirstPlace (BreaksAt bytes) place
