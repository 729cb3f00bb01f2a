-- For private clauses: what looking for a head at the front of some bytes says of them.
use Rattle.std.specs.Prelude.{◌≡◌, ◌≢◌, ℕ, ◌<◌, ◌≤◌, List, [], ◌++◌, length, take}
use Rattle.std.specs.declared.option.Option.{Option}
use Rattle.std.specs.Prelude.{None, Some, ⊤}
use Rattle.std.specs.Io.KnownBytes.{IsAtEnd}
use Rattle.httparse.specs.Grammar.{RequestHead, print_request}
use Rattle.httparse.specs.declared.spans.HeaderSpan.{HeaderSpan}
use Rattle.httparse.specs.declared.spans.RequestSpans.{RequestSpans}
use Rattle.httparse.specs.Spans.{IsRequestWithin, IsRequestAt}
use Rattle.edr_http.specs.Heads.{BeginsWith, head_limit, block_size}
use Rattle.edr_http.specs.declared.finding.Found.{Found}
use Rattle.edr_http.specs.declared.finding.Found.TheVariants as found
use Rattle.edr_http.specs.declared.filling.Front.{Front}
use Rattle.edr_http.specs.declared.filling.Front.TheVariants as front

-- a head of so many bytes is at the front
abbrev pub HasTree : List ℕ → ℕ → Type 0
HasTree bytes n = (tree : RequestHead) × (rest : List ℕ) × BeginsWith bytes tree rest × (n ≡ length (print_request tree))

-- a head is at the front, and the spans cover its parts
pub record HasParts (bytes : List ℕ) (fields : List HeaderSpan) (spans : RequestSpans) : Type 0 where
  pub tree : RequestHead
  pub rest : List ℕ
  pub begins : BeginsWith bytes tree rest
  pub within : IsRequestWithin (take head_limit bytes) fields spans
  pub at : IsRequestAt (take head_limit bytes) fields spans tree

-- no head is at the front
abbrev pub HasNoTree : List ℕ → Type 0
HasNoTree bytes = (tree : RequestHead) (rest : List ℕ) → ¬ (BeginsWith bytes tree rest)

-- whatever follows, no head is at the front
abbrev pub NeverHasTree : List ℕ → Type 0
NeverHasTree bytes = (more : List ℕ) → HasNoTree (bytes ++ more)

-- what an answer says of the bytes
abbrev pub Tells : List ℕ → List HeaderSpan → Found → Type 0
Tells bytes fields (found.Got spans) = HasParts bytes fields spans
Tells bytes fields found.NeedMore = HasNoTree bytes × (length bytes < head_limit)
Tells bytes fields found.Bad = NeverHasTree bytes

-- the same, where no bytes aren't bad
abbrev pub Looks : List ℕ → List HeaderSpan → Found → Type 0
Looks bytes fields (found.Got spans) = HasParts bytes fields spans
Looks bytes fields found.NeedMore = HasNoTree bytes × (length bytes < head_limit)
Looks bytes fields found.Bad = NeverHasTree bytes × (bytes ≢ [])

-- ---- what is held grows by what is read

-- what was read behind what was held; no bytes are read only at the end
pub record Grew (old new : List ℕ) (n : ℕ) (left : Option (List ℕ)) : Type 0 where
  pub block : List ℕ
  pub grew : new ≡ old ++ block
  pub count : length block ≡ n
  pub end : n ≡ 0 → IsAtEnd left

-- the rest has no head
abbrev pub NoHeadIn : List ℕ → Option (List ℕ) → Type 0
NoHeadIn held None = ⊤
NoHeadIn held (Some bytes) = HasNoTree (held ++ bytes)

-- what is at the front of the rest
abbrev pub IsFront : Front → List ℕ → List HeaderSpan → Option (List ℕ) → Type 0
IsFront (front.Got spans) held fields left = HasParts held fields spans
IsFront front.EndOfInput held fields left = (held ≡ []) × IsAtEnd left
IsFront front.BadHead held fields left = (held ≢ []) × NoHeadIn held left

-- what is held has no head before its last block
pub record LastBlock (held : List ℕ) : Type 0 where
  pub before : List ℕ
  pub block : List ℕ
  pub joined : held ≡ before ++ block
  pub none : HasNoTree before
  pub short : length block ≤ block_size
