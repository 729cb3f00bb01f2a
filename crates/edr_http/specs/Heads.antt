-- The head of a request at the front of some bytes (RFC 9112, sections 2 to 5), in the grammar of `httparse`.
use Rattle.std.specs.Prelude.{◌≡◌, ◌≢◌, ◌⊎◌, ℕ, ◌+◌, ◌-◌, ◌≤◌, max, List, [], length, map, take, ⊤}
use Rattle.std.specs.declared.option.Option.{Option}
use Rattle.std.specs.Prelude.{None, Some, Result, Ok, Err}
use Rattle.std.specs.Io.KnownBytes.{prepend_known}
use Rattle.httparse.specs.Grammar.{RequestHead, ReadsRequest, print_request}
use Rattle.httparse.specs.Spans.{name_and_value}
use Rattle.edr_base.specs.declared.refusals.Refusal.TheVariants.{BadHead}
use Rattle.edr_http.specs.declared.heads.Head.{Head}
use Rattle.edr_http.specs.declared.heads.HeadOutcome.{HeadOutcome}
use Rattle.edr_http.specs.declared.heads.HeadOutcome.TheVariants.{Got, EndOfInput, Refused}

-- the fields of a head
abbrev pub field_limit : ℕ
field_limit = 64

-- the bytes of a head
abbrev pub head_limit : ℕ
head_limit = 16_384

-- the bytes that are read at once
abbrev pub block_size : ℕ
block_size = 4_096

-- the bytes that are held after a call, where so many were held before: at most those, or less than a head and one block
abbrev pub most_held : ℕ → ℕ
most_held before = max before ((head_limit - 1) + block_size)

-- what a head says: its method, its target, 1 of HTTP/1.1, and its fields by name and value
abbrev pub head_of : RequestHead → Head
head_of tree = record { method = tree.method; target = tree.target; minor = tree.minor; fields = map name_and_value tree.fields }

-- the bytes begin with this head, which is within the limits, and the rest follows it
pub record BeginsWith (bytes : List ℕ) (tree : RequestHead) (rest : List ℕ) : Type 0 where
  pub reads : ReadsRequest bytes tree rest
  pub few_fields : length tree.fields ≤ field_limit
  pub short : length (print_request tree) ≤ head_limit

-- the bytes begin with a head that says this, and the rest follows it
pub record HeadOf (bytes : List ℕ) (head : Head) (rest : List ℕ) : Type 0 where
  pub tree : RequestHead
  pub begins : BeginsWith bytes tree rest
  pub says : head ≡ head_of tree

-- the bytes begin with a head
abbrev pub HasHead : List ℕ → Type 0
HasHead bytes = (head : Head) × (rest : List ℕ) × HeadOf bytes head rest

-- the bytes begin with no head
abbrev pub HasNoHead : List ℕ → Type 0
HasNoHead bytes = (head : Head) (rest : List ℕ) → ¬ (HeadOf bytes head rest)

-- ---- a call that reads a head: the rest of a connection is what is held and what is left of the source

-- a fact of the bytes before and after a call, where they are told
abbrev pub Told : (List ℕ → List ℕ → Type 0) → Option (List ℕ) → Option (List ℕ) → Type 0
Told P None after = ⊤
Told P (Some bytes) None = ⊥
Told P (Some bytes) (Some rest) = P bytes rest

-- what is answered, by the rest before and after
abbrev pub Finds : HeadOutcome → Option (List ℕ) → Option (List ℕ) → Type 0
Finds (Got head) before after = Told (λ bytes rest. HeadOf bytes head rest) before after
Finds EndOfInput before after = Told (λ bytes rest. (bytes ≡ []) × (rest ≡ [])) before after
Finds (Refused refusal) before after = (refusal ≡ BadHead) × Told (λ bytes rest. (bytes ≢ []) × HasNoHead bytes × (rest ≡ bytes)) before after

-- a head was found
abbrev pub IsGot : {E : Type 0} → Result HeadOutcome E → Type 0
IsGot (Ok (Got head)) = ⊤
IsGot (Ok EndOfInput) = ⊥
IsGot (Ok (Refused refusal)) = ⊥
IsGot (Err fault) = ⊥

-- the end of the bytes was found
abbrev pub IsEnd : {E : Type 0} → Result HeadOutcome E → Type 0
IsEnd (Ok (Got head)) = ⊥
IsEnd (Ok EndOfInput) = ⊤
IsEnd (Ok (Refused refusal)) = ⊥
IsEnd (Err fault) = ⊥

-- the rest after a call is an end of the rest before it
abbrev pub IsBehind : Option (List ℕ) → Option (List ℕ) → Type 0
IsBehind before after = (front : List ℕ) × (before ≡ prepend_known front after)

-- ---- laws

-- some bytes begin with one head at most, and one rest follows it
abbrev pub HeadIsOne : Type 0
HeadIsOne = (bytes : List ℕ) (one other : Head) (rest rest' : List ℕ)
    → HeadOf bytes one rest → HeadOf bytes other rest' → (one ≡ other) × (rest ≡ rest')

-- some bytes begin with a head, or with none
abbrev pub IsDecided : List ℕ → Type 0
IsDecided bytes = HasHead bytes ⊎ HasNoHead bytes

-- whether some bytes begin with a head is decided by the first of them
abbrev pub DecidedEarly : Type 0
DecidedEarly = (bytes : List ℕ) → (HasHead bytes → HasHead (take head_limit bytes)) × (HasHead (take head_limit bytes) → HasHead bytes)
