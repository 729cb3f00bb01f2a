-- For private clauses: what one part takes of the rest, which is what is held and what is left of the source.
use Rattle.std.specs.Prelude.{◌≡◌, ℕ, ◌+◌, ◌*◌, ◌<◌, ◌≤◌, List, ◌++◌, length, IfSome, ⊤}
use Rattle.std.specs.declared.option.Option.{Option}
use Rattle.std.specs.Prelude.{None, Some}
use Rattle.std.specs.Io.KnownBytes.{prepend_known, IsAtEnd}
use Rattle.httparse.specs.Grammar.{ResponseHead, print_response, ChunkLine, print_chunk_line, chunk_size}
use Rattle.edr_base.specs.Calls.{ReadsAtMost}
use Rattle.edr_http.specs.Chunks.{crlf}
use Rattle.edr_http.specs.Heads.{head_limit}
use Rattle.edr_reply.specs.declared.framing.Framing.{Framing}
use Rattle.edr_reply.specs.declared.framing.Framing.TheVariants.{Chunked, Sized, TooLong, ToEnd}
use Rattle.edr_reply.specs.declared.heads.Opening.{Opening}
use Rattle.edr_reply.specs.declared.lines.SizeLine.{SizeLine}
use Rattle.edr_reply.specs.declared.held.PartFault.{PartFault}
use Rattle.edr_reply.specs.declared.held.PartFault.TheVariants as part
use Rattle.edr_reply.specs.declared.messages.MessageFault.{MessageFault}
use Rattle.edr_reply.specs.declared.messages.MessageFault.TheVariants as message
use Rattle.edr_reply.specs.Messages.{IsHead, IsSizeLine, Chunk, IsChunk, AreChunks, print_chunk, print_chunks, joined, IsChunkedBody, body_limit, size_line_limit, longest_chunk}
use Rattle.edr_reply.specs.BrokenParts.{BreaksChunk, BreaksChunks, BreaksBody}
use Rattle.edr_reply.specs.Finding.{Opens}

-- some bytes were taken, of which this holds
pub record TakesSome (P : List ℕ → Type 0) (old new : Option (List ℕ)) : Type 0 where
  pub bytes : List ℕ
  pub read : old ≡ prepend_known bytes new
  pub holds : P bytes

-- a head was taken that says this
abbrev pub TakesHead : Opening → Option (List ℕ) → Option (List ℕ) → Type 0
TakesHead opening old new = (head : ResponseHead) × IsHead head × Opens head opening × (old ≡ prepend_known (print_response head) new)

-- a line was taken that gives a size with room
abbrev pub TakesLine : ℕ → SizeLine → Option (List ℕ) → Option (List ℕ) → Type 0
TakesLine room found old new =
    (line : ChunkLine) × IsSizeLine line × (found.len ≡ length (print_chunk_line line)) × (found.size ≡ chunk_size line) × (found.size ≤ room)
    × (old ≡ prepend_known (print_chunk_line line) new)

-- so many bytes were taken, and put behind a body
pub record TakesOnto (n : ℕ) (body body' : List ℕ) (old new : Option (List ℕ)) : Type 0 where
  pub bytes : List ℕ
  pub count : length bytes ≡ n
  pub body_is : body' ≡ body ++ bytes
  pub rest_is : old ≡ prepend_known bytes new

-- the same of at most so many bytes, and of fewer only where there are no more
pub record TakesUpTo (most n : ℕ) (body body' : List ℕ) (old new : Option (List ℕ)) : Type 0 where
  pub takes : TakesOnto n body body' old new
  pub few : n ≤ most
  pub ended : n < most → IsAtEnd new

-- a chunk was taken, and its bytes put behind a body
pub record TakesNext (place next : ℕ) (body body' : List ℕ) (old new : Option (List ℕ)) : Type 0 where
  pub chunk : Chunk
  pub is_chunk : IsChunk chunk
  pub within : length body' ≤ body_limit
  pub body_is : body' ≡ body ++ chunk.piece
  pub rest_is : old ≡ prepend_known (print_chunk chunk) new
  pub place_is : next ≡ place + length (print_chunk chunk)

-- the line of the last chunk was taken, and the empty line behind it
pub record TakesLast (body body' : List ℕ) (old new : Option (List ℕ)) : Type 0 where
  pub line : ChunkLine
  pub is_line : IsSizeLine line
  pub ends : chunk_size line ≡ 0
  pub body_is : body' ≡ body
  pub rest_is : old ≡ prepend_known (print_chunk_line line ++ crlf) new

-- a chunk and the place behind it, or the last
abbrev pub TakesChunk : ℕ → Option ℕ → List ℕ → List ℕ → Option (List ℕ) → Option (List ℕ) → Type 0
TakesChunk place None body body' old new = TakesLast body body' old new
TakesChunk place (Some next) body body' old new = TakesNext place next body body' old new

-- where a part at a place isn't there, the reply breaks off at the place
abbrev pub at_place : PartFault → ℕ → MessageFault
at_place part.Lacking place = message.Broken place
at_place part.ReadFault place = message.ReadFault
at_place part.OutOfMemory place = message.OutOfMemory

-- the greatest place behind the chunks of so many bytes: a chunk has a byte, a line end and its line
abbrev pub latest_place : ℕ → ℕ
latest_place size = head_limit + size * longest_chunk

-- what is read of a chunk at most where it isn't taken
abbrev pub most_of_chunk : ℕ
most_of_chunk = size_line_limit + body_limit + 2

-- the chunk that stands at a place breaks off at another; at most so many bytes were read
pub record ChunkBreaks (place at room : ℕ) (old new : Option (List ℕ)) : Type 0 where
  pub within : ℕ
  pub at_is : at ≡ place + within
  pub breaks : IfSome old (λ bytes. BreaksChunk room bytes within)
  pub read : ReadsAtMost (within + body_limit) old new

-- a body in chunks was taken
pub record TakesChunks (body : List ℕ) (old new : Option (List ℕ)) : Type 0 where
  pub bytes : List ℕ
  pub is_body : (rest : List ℕ) → IsChunkedBody (bytes ++ rest) body rest
  pub rest_is : old ≡ prepend_known bytes new

-- in the midst of a body in chunks: the first of them were taken, and what stood at a place `start` is taken up to `place`
pub record Going (start place : ℕ) (body : List ℕ) (old now : Option (List ℕ)) : Type 0 where
  pub chunks : List Chunk
  pub are_chunks : AreChunks chunks
  pub body_is : body ≡ joined chunks
  pub rest_is : old ≡ prepend_known (print_chunks chunks) now
  pub place_is : place ≡ start + length (print_chunks chunks)

-- the body that stands at a place breaks off at another; at most so many bytes were read
pub record BodyBreaks (framing : Framing) (place at : ℕ) (old new : Option (List ℕ)) : Type 0 where
  pub within : ℕ
  pub at_is : at ≡ place + within
  pub breaks : IfSome old (λ bytes. BreaksBody framing bytes within)
  pub read : ReadsAtMost (within + (body_limit + 1)) old new

abbrev pub ChunksBreak : ℕ → ℕ → Option (List ℕ) → Option (List ℕ) → Type 0
ChunksBreak place at old new = BodyBreaks Chunked place at old new

-- what is read of a body at most where it isn't taken
abbrev pub most_of_body : ℕ
most_of_body = latest_place body_limit + most_of_chunk

-- the bytes end in the midst of a chunk, where the body may still grow by `room` bytes
abbrev pub IsCutChunk : ℕ → List ℕ → Type 0
IsCutChunk room bytes = (place : ℕ) × BreaksChunk room bytes place

-- the bytes end in the midst of a body in chunks
abbrev pub IsCutChunks : List ℕ → Type 0
IsCutChunks bytes = (place : ℕ) × BreaksChunks bytes place

-- the bytes end in the midst of a body; one that is too long, or goes on to the end of the input, goes on behind any
abbrev pub IsCutBody : Framing → List ℕ → Type 0
IsCutBody Chunked bytes = IsCutChunks bytes
IsCutBody (Sized size) bytes = length bytes < size
IsCutBody TooLong bytes = ⊤
IsCutBody ToEnd bytes = ⊤

-- the size of a body is within the limit
abbrev pub FramingFits : Framing → Type 0
FramingFits Chunked = ⊤
FramingFits (Sized size) = size ≤ body_limit
FramingFits TooLong = ⊤
FramingFits ToEnd = ⊤
