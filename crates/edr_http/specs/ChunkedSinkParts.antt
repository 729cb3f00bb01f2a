-- What a sink that sends chunks keeps; for private clauses. Of the bytes of the sink inside, the last came from it: the chunks of `n` full pieces,
-- and the first `b` bytes of the chunk of the piece `p` that it holds. `body_known` and `bottom_known` are what the layer's
-- `written` and `bottom` are; what they mean is said without these parts, by `EndsBody` and `BeginsBody` in ChunkedSinks, and
-- of whole calls in ChunkedSinkLaws.
use Rattle.std.specs.Prelude.{◌≡◌, ℕ, zero, suc, ◌+◌, ◌-◌, ◌*◌, ◌≤◌, nat_le, Bool, true, false, List, [], ◌++◌, length, take, drop, codes, option_map}
use Rattle.std.specs.declared.option.Option.{Option}
use Rattle.std.specs.Prelude.{None, Some}
use Rattle.edr_base.specs.Outside.{TellsBottom}
use Rattle.edr_http.specs.Chunks.{chunk, chunk_length, first_chunks}

-- the array that a piece is gathered in is its chunk already, as one of a full piece, with the end of a body behind it
pub record IsFrame (frame : List ℕ) : Type 0 where
  pub size : take 6 frame ≡ codes "1000\r\n"
  pub end : drop 4102 frame ≡ codes "\r\n0\r\n\r\n"

-- the bytes of the piece that is gathered
abbrev pub piece_in : List ℕ → ℕ → List ℕ
piece_in frame used = take used (drop 6 frame)

-- how many bytes the chunk of a full piece has: the line before it, the piece and a line end
abbrev pub full_chunk_length : ℕ
full_chunk_length = chunk_length + 8

-- how many bytes came from here
abbrev pub size_of : ℕ → ℕ → ℕ
size_of n b = full_chunk_length * n + b

-- what stands before them
abbrev pub bottom_of : ℕ → ℕ → List ℕ → List ℕ
bottom_of n b bytes = take (length bytes - size_of n b) bytes

abbrev pub sent_of : ℕ → ℕ → List ℕ → List ℕ
sent_of n b bytes = drop (length bytes - size_of n b) bytes

-- the n pieces, taken from their chunks
abbrev pub payload : ℕ → List ℕ → List ℕ
payload zero sent = []
payload (suc n) sent = take chunk_length (drop 6 sent) ++ payload n (drop full_chunk_length sent)

-- what stands before, the chunks of the pieces, and the beginning of the next
abbrev pub rebuilt : ℕ → ℕ → List ℕ → List ℕ → List ℕ
rebuilt n b p bytes = bottom_of n b bytes ++ (first_chunks n (payload n (sent_of n b bytes)) ++ take b (chunk p))

-- so many bytes are there, until the body is ended
abbrev pub has_room : Bool → ℕ → ℕ → Option (List ℕ) → Bool
has_room true n b known = true
has_room false n b None = true
has_room false n b (Some bytes) = nat_le (size_of n b) (length bytes)

-- the bytes of the sink inside, built again of their parts, until the body is ended
abbrev pub rebuilt_known : Bool → ℕ → ℕ → List ℕ → Option (List ℕ) → Option (List ℕ)
rebuilt_known true n b p known = known
rebuilt_known false n b p known = option_map (rebuilt n b p) known

-- what was written to the layer
abbrev pub body_known : ℕ → ℕ → List ℕ → Option (List ℕ) → Option (List ℕ)
body_known n b p known = option_map (λ bytes. payload n (sent_of n b bytes) ++ p) known

-- what stood in the sink inside before
abbrev pub bottom_known : ℕ → ℕ → Option (List ℕ) → Option (List ℕ)
bottom_known n b known = option_map (bottom_of n b) known

-- both are told or neither
pub both_told : (n b : ℕ) (p : List ℕ) (known : Option (List ℕ)) → TellsBottom (body_known n b p known) (bottom_known n b known)
both_told n b p None = tt
both_told n b p (Some bytes) = tt

-- the same bytes with names for their parts: before, the n pieces and the beginning of the next chunk
pub record Built (n b : ℕ) (p bytes before pieces : List ℕ) : Type 0 where
  pub full : length pieces ≡ chunk_length * n
  pub part : b ≤ length (chunk p)
  pub text : bytes ≡ before ++ (first_chunks n pieces ++ take b (chunk p))

-- the sink inside has more bytes, and what was written to the layer and what stood before are the same
pub record Moves (ended : Bool) (n b : ℕ) (p : List ℕ) (n' b' : ℕ) (p' : List ℕ) (old new : Option (List ℕ)) : Type 0 where
  pub room : has_room ended n' b' new ≡ true
  pub kept : new ≡ rebuilt_known ended n' b' p' new
  pub body : body_known n' b' p' new ≡ body_known n b p old
  pub bottom : bottom_known n' b' new ≡ bottom_known n b old
