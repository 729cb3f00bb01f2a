-- The requests that the bytes of a connection hold (RFC 9112, section 9.3).
use Rattle.std.specs.Prelude.{◌≡◌, ◌≢◌, ◌⊎◌, ℕ, ◌-◌, ◌==◌, nat_le, Bool, true, false, if◌then◌else◌, List, [], ◌∷◌, Result, Ok, Err, Option, None, Some, is_some, unwrap_or, ⊤}
use Rattle.edr_base.specs.declared.refusals.Refusal.{Refusal}
use Rattle.edr_base.specs.declared.refusals.Refusal.TheVariants.{BadHead}
use Rattle.edr_base.specs.RefusalTable.{line_of}
use Rattle.edr_query.specs.declared.pages.Page.{Page}
use Rattle.edr_query.specs.Targets.{IsTarget}
use Rattle.edr_http.specs.declared.heads.Head.{Head}
use Rattle.edr_http.specs.Heads.{HeadOf, HasNoHead}
use Rattle.edr_http.specs.Checks.{Refuses, is_head, says_close}
use Rattle.edr_serve.specs.declared.ends.End.{End}
use Rattle.edr_serve.specs.declared.ends.End.TheVariants.{EndOfInput, ClosedByPeer, ClosedByRefusal, RequestLimit}

-- a session may be given so many requests at most
abbrev pub request_limit : ℕ
request_limit = 1_000

-- what a request is answered by
pub record Request : Type 0 where
  pub is_head : Bool  -- its method is HEAD: the reply has no body
  pub asked : Result Page Refusal  -- the page that it asks for, or the first refusal that its bytes have
  pub end : Option End  -- how the session ends with its reply, where it does

-- ---- how a session ends

-- the refusals after which the connection is closed: those of the head, but for that of its method
abbrev pub closes : Refusal → Bool
closes refusal = nat_le (line_of refusal).number 4

-- the peer closes, or the last of the turns that are left is used up
abbrev pub end_by_turns : ℕ → Bool → Option End
end_by_turns turns true = Some ClosedByPeer
end_by_turns turns false = if turns == 1 then Some RequestLimit else None

-- the end with a request that has so many turns left, itself among them, and whether it says `close`
abbrev pub end_of : ℕ → Bool → Result Page Refusal → Option End
end_of turns close (Ok page) = end_by_turns turns close
end_of turns close (Err refusal) = if closes refusal then Some (ClosedByRefusal (line_of refusal).number) else end_by_turns turns close

-- ---- from bytes to requests

-- what a head asks for, by the first refusal of the head itself: that refusal, and where there is none what its target asks for
abbrev pub AsksUnless : Option Refusal → List ℕ → Result Page Refusal → Type 0
AsksUnless (Some refusal) target asked = asked ≡ Err refusal
AsksUnless None target asked = IsTarget target asked

-- the request that a head makes
pub record IsOf (turns : ℕ) (head : Head) (request : Request) : Type 0 where
  pub refusal : Option Refusal
  pub refused : Refuses head refusal
  pub asks : AsksUnless refusal head.target request.asked
  pub is_head_is : request.is_head ≡ is_head head
  pub end_is : request.end ≡ end_of turns (says_close head) request.asked

-- a head at the front of the bytes makes the request, and the rest follows it
pub record FromHead (turns : ℕ) (bytes : List ℕ) (request : Request) (rest : List ℕ) : Type 0 where
  pub head : Head
  pub begins : HeadOf bytes head rest
  pub is_of : IsOf turns head request

-- the request of bytes that have no head: they are refused, and it is the last
abbrev pub no_head : Request
no_head = record { is_head = false; asked = Err BadHead; end = Some (ClosedByRefusal 1) }

pub record WithoutHead (bytes : List ℕ) (request : Request) (rest : List ℕ) : Type 0 where
  pub some : bytes ≢ []
  pub none : HasNoHead bytes
  pub request_is : request ≡ no_head
  pub rest_is : rest ≡ bytes

-- the first request of the bytes, and what follows it
abbrev pub IsFirstRequest : ℕ → List ℕ → Request → List ℕ → Type 0
IsFirstRequest turns bytes request rest = FromHead turns bytes request rest ⊎ WithoutHead bytes request rest

-- the first requests of the bytes, one after another, and what follows them; it doesn't stop at one that ends the session, as
-- `Requests` and `Begun` do
abbrev pub AreFirst : ℕ → List ℕ → List Request → List ℕ → Type 0
AreFirst turns bytes [] rest = rest ≡ bytes
AreFirst turns bytes (request ∷ requests) rest = (others : List ℕ) × IsFirstRequest turns bytes request others × AreFirst (turns - 1) others requests rest

-- the requests of the bytes, up to the one that ends the session or to the end of the bytes
abbrev pub Requests : ℕ → List ℕ → List Request → Type 0
Requests turns bytes [] = bytes ≡ []
Requests turns bytes (request ∷ requests) =
    (rest : List ℕ) × IsFirstRequest turns bytes request rest
    × (is_some request.end ≡ true → requests ≡ [])
    × (is_some request.end ≡ false → Requests (turns - 1) rest requests)

-- the first of them
abbrev pub Begun : ℕ → List ℕ → List Request → Type 0
Begun turns bytes [] = ⊤
Begun turns bytes (request ∷ requests) =
    (rest : List ℕ) × IsFirstRequest turns bytes request rest
    × (is_some request.end ≡ true → requests ≡ [])
    × (is_some request.end ≡ false → Begun (turns - 1) rest requests)

-- how a session of these requests ends
abbrev pub session_end : List Request → End
session_end [] = EndOfInput
session_end (request ∷ requests) = unwrap_or request.end (session_end requests)
