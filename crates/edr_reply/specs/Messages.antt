-- The reply of a server as a client takes it (RFC 9112, sections 2 and 4 to 7), in the grammar of `httparse`.
use Rattle.std.specs.Prelude.{◌≡◌, ℕ, ◌+◌, ◌*◌, ◌<◌, ◌≤◌, ◌^◌, List, [], ◌∷◌, ◌++◌, length, map, filter, codes, All, MatchOption}
use Rattle.std.specs.declared.option.Option.{Option}
use Rattle.std.specs.Char.{is_ascii_digit}
use Rattle.std.specs.List.{AllPass, flat_map}
use Rattle.std.specs.Str.Parse.{digits_value}
use Rattle.std.specs.Io.KnownBytes.{prepend_known}
use Rattle.httparse.specs.Grammar.{ResponseHead, IsResponseHead, print_response, status_code, ChunkLine, IsChunkLine, print_chunk_line, chunk_size}
use Rattle.httparse.specs.Spans.{name_and_value}
use Rattle.edr_base.specs.Calls.{buffer_size}
use Rattle.edr_http.specs.Chunks.{crlf}
use Rattle.edr_http.specs.Checks.{Field, is_named}
use Rattle.edr_http.specs.Heads.{field_limit, head_limit}
use Rattle.edr_reply.specs.declared.framing.Framing.{Framing}
use Rattle.edr_reply.specs.declared.framing.Framing.TheVariants.{Chunked, Sized, TooLong, ToEnd}
use Rattle.edr_reply.specs.declared.messages.Message.{Message}

-- the bytes of a body
abbrev pub body_limit : ℕ
body_limit = 67_108_864

-- the bytes of the line that stands before a chunk, with its end
abbrev pub size_line_limit : ℕ
size_line_limit = 16_384

-- ---- the head (RFC 9112, sections 2 to 5)

-- a head of HTTP/1.1 within the limits
pub record IsHead (head : ResponseHead) : Type 0 where
  pub reads : IsResponseHead head
  pub version : head.minor ≡ 1
  pub few_fields : length head.fields ≤ field_limit
  pub short : length (print_response head) ≤ head_limit

-- the bytes begin with this head, and the rest follows it
abbrev pub BeginsWithHead : List ℕ → ResponseHead → List ℕ → Type 0
BeginsWithHead bytes head rest = IsHead head × (bytes ≡ print_response head ++ rest)

-- its fields: the name and the value of each
abbrev pub fields_of : ResponseHead → List Field
fields_of head = map name_and_value head.fields

-- ---- what fields say

-- the values of the fields of a name, which is in small letters
abbrev pub values_of : List ℕ → List Field → List (List ℕ)
values_of name fields = map (λ field. field.1) (filter (is_named name) fields)

-- exactly one field has the name, and its value is digits, which write the number
pub record HasNumber (name : List ℕ) (fields : List Field) (number : ℕ) : Type 0 where
  pub value : List ℕ
  pub one : values_of name fields ≡ value ∷ []
  pub some : 0 < length value
  pub digits : AllPass is_ascii_digit value
  pub number_is : number ≡ digits_value 10 value

-- the edition that the reply is from: a number that 64 bits hold
abbrev pub IsEdition : List Field → Option ℕ → Type 0
IsEdition fields edition =
    MatchOption edition
    ((number : ℕ) → number < 2 ^ 64 → ¬ (HasNumber (codes "x-edr-edition") fields number))
    (λ number. HasNumber (codes "x-edr-edition") fields number × (number < 2 ^ 64))

-- exactly one field names codings, and it names the one of chunks and no other
abbrev pub IsInChunks : List Field → Type 0
IsInChunks fields = values_of (codes "transfer-encoding") fields ≡ codes "chunked" ∷ []

-- how the end of the body is known (RFC 9112, section 6.3): by chunks, else by the number of its bytes, else by the end of input
abbrev pub IsFraming : List Field → Framing → Type 0
IsFraming fields Chunked = IsInChunks fields
IsFraming fields (Sized size) = ¬ (IsInChunks fields) × HasNumber (codes "content-length") fields size × (size ≤ body_limit)
IsFraming fields TooLong = ¬ (IsInChunks fields) × (size : ℕ) × HasNumber (codes "content-length") fields size × (body_limit < size)
IsFraming fields ToEnd = ¬ (IsInChunks fields) × ((size : ℕ) → ¬ (HasNumber (codes "content-length") fields size))

-- ---- bodies in chunks (RFC 9112, section 7.1)

-- the line that stands before a chunk and gives its size, perhaps with an extension
pub record IsSizeLine (line : ChunkLine) : Type 0 where
  pub reads : IsChunkLine line
  pub short : length (print_chunk_line line) ≤ size_line_limit

-- a chunk: its line, and its bytes
pub record Chunk : Type 0 where
  pub line : ChunkLine
  pub piece : List ℕ

-- the line gives their number, and there are some
pub record IsChunk (chunk : Chunk) : Type 0 where
  pub is_line : IsSizeLine chunk.line
  pub size : chunk_size chunk.line ≡ length chunk.piece
  pub some : 0 < length chunk.piece

abbrev pub print_chunk : Chunk → List ℕ
print_chunk chunk = print_chunk_line chunk.line ++ (chunk.piece ++ crlf)

abbrev pub print_chunks : List Chunk → List ℕ
print_chunks chunks = flat_map print_chunk chunks

-- their bytes, joined
abbrev pub joined : List Chunk → List ℕ
joined chunks = flat_map (λ chunk. chunk.piece) chunks

-- the chunks of a body, or the first of them
pub record AreChunks (chunks : List Chunk) : Type 0 where
  pub each : All IsChunk chunks
  pub within : length (joined chunks) ≤ body_limit

-- the bytes begin with a body in chunks: these, a line that gives the size 0, and an empty line; the rest follows it
pub record IsChunkedBody (bytes body rest : List ℕ) : Type 0 where
  pub chunks : List Chunk
  pub last : ChunkLine
  pub are_chunks : AreChunks chunks
  pub is_last : IsSizeLine last
  pub ends : chunk_size last ≡ 0
  pub bytes_are : bytes ≡ print_chunks chunks ++ (print_chunk_line last ++ (crlf ++ rest))
  pub body_is : body ≡ joined chunks

-- ---- the message

-- the bytes begin with a body whose end is known so, and the rest follows it
abbrev pub IsBody : Framing → List ℕ → List ℕ → List ℕ → Type 0
IsBody Chunked bytes body rest = IsChunkedBody bytes body rest
IsBody (Sized size) bytes body rest = (bytes ≡ body ++ rest) × (length body ≡ size)
IsBody TooLong bytes body rest = ⊥
IsBody ToEnd bytes body rest = (body ≡ bytes) × (rest ≡ []) × (length bytes ≤ body_limit)

-- the bytes begin with a head and its body, which say this, and the rest follows them
pub record IsMessage (bytes : List ℕ) (message : Message) (rest : List ℕ) : Type 0 where
  pub head : ResponseHead
  pub behind : List ℕ
  pub framing : Framing
  pub begins : BeginsWithHead bytes head behind
  pub status : message.status ≡ status_code head
  pub edition : IsEdition (fields_of head) message.edition
  pub framed : IsFraming (fields_of head) framing
  pub body : IsBody framing behind message.body rest

-- the bytes begin with none
abbrev pub HasNoMessage : List ℕ → Type 0
HasNoMessage bytes = (message : Message) (rest : List ℕ) → ¬ (IsMessage bytes message rest)

-- the bytes begin with no reply that ends within them: none but one that goes on to the end of the input
abbrev pub HasNoEnd : List ℕ → Type 0
HasNoEnd bytes = (message : Message) (rest : List ℕ) (is : IsMessage bytes message rest) → is.framing ≡ ToEnd

-- a call took some bytes, and broke off in the midst of a reply
pub record BreaksOff (old new : Option (List ℕ)) : Type 0 where
  pub bytes : List ℕ
  pub read : old ≡ prepend_known bytes new
  pub unfinished : HasNoEnd bytes

-- what a call that takes a message leaves: at most so many bytes of the rest were read with it
abbrev pub TakesMessage : Message → List ℕ → List ℕ → Type 0
TakesMessage message bytes left = (more : List ℕ) × IsMessage bytes message (more ++ left) × (length more ≤ buffer_size)

-- what is read at most behind the place at which a reply breaks off: a body that is too long by one byte, and what was read with it
abbrev pub most_beyond : ℕ
most_beyond = (body_limit + 1) + buffer_size

-- the bytes of a line's end, and of the longest chunk of one byte: its line, the byte, and a line's end
abbrev pub line_end : ℕ
line_end = 2

abbrev pub longest_chunk : ℕ
longest_chunk = size_line_limit + 3

-- what is read at most: a head, a body of which each byte is a chunk with the longest line, and once more a line, a body and
-- what was read with it
abbrev pub most_read : ℕ
most_read = (head_limit + (head_limit + body_limit * longest_chunk) + (size_line_limit + body_limit + line_end)) + buffer_size
