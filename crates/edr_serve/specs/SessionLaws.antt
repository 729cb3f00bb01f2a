-- Laws of sessions.
use Rattle.std.specs.Prelude.{◌≡◌, ℕ, suc, List, ◌++◌, length, Option, Result}
use Rattle.edr_base.specs.Calls.{Begins}
use Rattle.edr_base.specs.declared.refusals.Refusal.{Refusal}
use Rattle.edr_edition.specs.Values.{EditionValue}
use Rattle.edr_query.specs.declared.pages.Page.{Page}
use Rattle.edr_query.specs.Targets.{IsTarget}
use Rattle.edr_http.specs.declared.heads.Head.{Head}
use Rattle.edr_http.specs.Heads.{IsDecided}
use Rattle.edr_http.specs.Checks.{Refuses}
use Rattle.edr_serve.specs.Requests.{Request, Requests, Begun}
use Rattle.edr_serve.specs.Replies.{readers, output}

-- some bytes hold one list of requests at most
abbrev pub RequestsAreOne : Type 0
RequestsAreOne = (turns : ℕ) (bytes : List ℕ) (one other : List Request) → Requests turns bytes one → Requests turns bytes other → one ≡ other

-- requests that were begun are the first of those that the bytes hold
abbrev pub BegunAreFirst : Type 0
BegunAreFirst = (turns : ℕ) (bytes : List ℕ) (begun all : List Request) → Begun turns bytes begun → Requests turns bytes all
    → (more : List Request) × (all ≡ begun ++ more)

-- what is written for the first requests begins what is written for all
abbrev pub OutputBegins : Type 0
OutputBegins = (requests more : List Request) (editions : List EditionValue) → Begins (output requests editions) (output (requests ++ more) editions)

-- what is written for some requests, each that reads an edition with one, goes on by what is written for those behind
abbrev pub OutputGoesOn : Type 0
OutputGoesOn = (requests more : List Request) (editions others : List EditionValue) → length editions ≡ readers requests
    → output (requests ++ more) (editions ++ others) ≡ output requests editions ++ output more others

-- all bytes hold some requests, where it is decided of all bytes whether they begin with a head, and each head and each target
-- has an answer
abbrev pub RequestsExist : Type 0
RequestsExist = ((bytes : List ℕ) → IsDecided bytes) → ((head : Head) → (refusal : Option Refusal) × Refuses head refusal)
    → ((target : List ℕ) → (asked : Result Page Refusal) × IsTarget target asked)
    → (turns : ℕ) (bytes : List ℕ) → (requests : List Request) × Requests (suc turns) bytes requests
