-- Bodies in chunks (RFC 9112 section 7.1).
use Rattle.std.specs.Prelude.{ℕ, zero, suc, ◌+◌, ◌-◌, ◌/◌, false, List, [], ◌∷◌, ◌++◌, length, take, drop, codes}
use Rattle.std.specs.Fmt.{digits}

-- the end of a line
abbrev pub crlf : List ℕ
crlf = 13 ∷ 10 ∷ []

-- a chunk: how many bytes it holds in hexadecimal, and the bytes
abbrev pub chunk : List ℕ → List ℕ
chunk piece = digits 16 false (length piece) ++ (crlf ++ (piece ++ crlf))

-- how many bytes a chunk holds at most
abbrev pub chunk_length : ℕ
chunk_length = 4_096

-- the chunks of the first n pieces of a body
abbrev pub first_chunks : ℕ → List ℕ → List ℕ
first_chunks zero body = []
first_chunks (suc n) body = chunk (take chunk_length body) ++ first_chunks n (drop chunk_length body)

-- the chunks of a body, each of that many bytes but for the last, which may hold fewer
abbrev pub chunks : List ℕ → List ℕ
chunks body = first_chunks ((length body + (chunk_length - 1)) / chunk_length) body

-- the chunk of no bytes that stands behind all others
abbrev pub last_chunk : List ℕ
last_chunk = codes "0\r\n"

-- a body as it is sent: its chunks, the last chunk, no trailers, and a line end
abbrev pub chunked : List ℕ → List ℕ
chunked body = chunks body ++ (last_chunk ++ crlf)
