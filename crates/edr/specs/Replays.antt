-- What a replay writes: the replies to the requests of a connection, from the editions of a feed.
use Rattle.std.specs.Prelude.{◌≡◌, ◌⊎◌, ℕ, ◌+◌, ◌++◌, Bool, true, false, List, [], ◌∷◌, Result, Ok, Err, Some, IfSome}
use Rattle.std.specs.declared.option.Option.{Option}
use Rattle.std.specs.Io.KnownBytes.{append_known, IsAtEnd}
use Rattle.edr_base.specs.Calls.{IsFlushed}
use Rattle.edr_base.specs.declared.refusals.Refusal.{Refusal}
use Rattle.edr_edition.specs.Values.{EditionValue}
use Rattle.edr_edition.specs.Shelves.{edition_after}
use Rattle.edr_feed.specs.Feeds.{FeedStandsIn}
use Rattle.edr_http.specs.Heads.{Told, IsBehind, HasNoHead, most_held}
use Rattle.edr_query.specs.declared.pages.Page.{Page}
use Rattle.edr_serve.specs.declared.ends.End.TheVariants.{EndOfInput}
use Rattle.edr_serve.specs.Requests.{Request, Requests, Begun, session_end, request_limit}
use Rattle.edr_serve.specs.Replies.{output}
use Rattle.edr_serve.specs.Sessions.{ReadsAhead, AtMost, most_behind}

-- the edition that stands on the shelf after so many requests: the first for ever, or where each request advances the shelf
-- the next, and the last where there are no more
abbrev pub edition_at : Bool → List EditionValue → ℕ → EditionValue
edition_at false editions before = edition_after 0 editions
edition_at true editions before = edition_after before editions

-- only a request for a page reads the edition
abbrev pub if_page : Result Page Refusal → EditionValue → List EditionValue → List EditionValue
if_page (Ok page) edition others = edition ∷ others
if_page (Err refusal) edition others = others

-- the editions that requests read, in their order, behind so many requests; those that read none are counted too
abbrev pub editions_read : (ℕ → EditionValue) → ℕ → List Request → List EditionValue
editions_read standing before [] = []
editions_read standing before (request ∷ requests) =
    if_page request.asked (standing before) (editions_read standing (before + 1) requests)

-- the replies to requests from the editions of a feed
abbrev pub replayed : Bool → List EditionValue → List Request → List ℕ
replayed advances editions requests = output requests (editions_read (edition_at advances editions) 0 requests)

-- the replies to all requests of the input, from the editions of a feed
pub record AreReplies (advances : Bool) (editions : List EditionValue) (input : Option (List ℕ)) (text : List ℕ) : Type 0 where
  pub requests : List Request
  pub all : IfSome input (λ bytes. Requests request_limit bytes requests)
  pub text_is : text ≡ replayed advances editions requests

-- the replies to those that were begun, which are the first of the input's
pub record AreBegun (advances : Bool) (editions : List EditionValue) (input : Option (List ℕ)) (text : List ℕ) : Type 0 where
  pub requests : List Request
  pub begun : IfSome input (λ bytes. Begun request_limit bytes requests)
  pub text_is : text ≡ replayed advances editions requests

-- the file is a feed, and this the replies from its editions
pub record IsReplayOf (advances : Bool) (feed input : Option (List ℕ)) (text : List ℕ) : Type 0 where
  pub editions : List EditionValue
  pub published : FeedStandsIn feed (Ok editions)
  pub replies : AreReplies advances editions input text

pub record IsReplayBegun (advances : Bool) (feed input : Option (List ℕ)) (text : List ℕ) : Type 0 where
  pub editions : List EditionValue
  pub published : FeedStandsIn feed (Ok editions)
  pub replies : AreBegun advances editions input text

-- all requests of the input were read, and behind them no more than a session that ends so reads; where none of them ends the
-- session the input was read to its end
pub record IsServed (input left : Option (List ℕ)) : Type 0 where
  pub requests : List Request
  pub all : IfSome input (λ bytes. Requests request_limit bytes requests)
  pub ahead : Told (λ bytes others. ReadsAhead (AtMost (most_behind (Some (session_end requests)))) request_limit requests bytes others) input left
  pub ended : session_end requests ≡ EndOfInput → IsAtEnd left

-- some requests of the input were read whose replies were written whole, and behind them no more than a session holds; `new` is
-- what became of the output `old`
pub record IsReadFor (advances : Bool) (editions : List EditionValue) (input left old new : Option (List ℕ)) : Type 0 where
  pub requests : List Request
  pub ahead : Told (λ bytes others. ReadsAhead (AtMost (most_held 0)) request_limit requests bytes others) input left
  pub more : List ℕ
  pub whole : new ≡ append_known old (replayed advances editions requests ++ more)

-- the file is a feed, and so much was read
pub record IsReadFrom (advances : Bool) (feed input left old new : Option (List ℕ)) : Type 0 where
  pub editions : List EditionValue
  pub published : FeedStandsIn feed (Ok editions)
  pub read : IsReadFor advances editions input left old new

-- how far the input is read, however a replay ends
pub record ReplayReads (advances : Bool) (feed input left old new : Option (List ℕ)) : Type 0 where
  pub behind : IsBehind input left
  pub ahead : (left ≡ input) ⊎ IsReadFrom advances feed input left old new

-- a read of the input failed: all requests that had come were answered, and their replies are flushed; none of them ends the
-- session, and no head was read behind them
pub record Waits (advances : Bool) (editions : List EditionValue) (input left old new : Option (List ℕ)) (flushed : Option ℕ) : Type 0 where
  pub requests : List Request
  pub begun : IfSome input (λ bytes. Begun request_limit bytes requests)
  pub open_ : session_end requests ≡ EndOfInput
  pub ahead : Told (λ bytes others. ReadsAhead (λ held. AtMost (most_held 0) held × HasNoHead held) request_limit requests bytes others) input left
  pub whole : new ≡ append_known old (replayed advances editions requests)
  pub settled : (new ≡ old) ⊎ IsFlushed new flushed

-- the file is a feed, and so a read of the input failed
pub record WaitsFrom (advances : Bool) (feed input left old new : Option (List ℕ)) (flushed : Option ℕ) : Type 0 where
  pub editions : List EditionValue
  pub published : FeedStandsIn feed (Ok editions)
  pub waits : Waits advances editions input left old new flushed

-- a read failed: of the file, before anything was read or written, or of the input
abbrev pub ReplayWaits : Bool → Option (List ℕ) → Option (List ℕ) → Option (List ℕ) → Option (List ℕ) → Option (List ℕ) → Option ℕ → Type 0
ReplayWaits advances feed input left old new flushed = ((left ≡ input) × (new ≡ old)) ⊎ WaitsFrom advances feed input left old new flushed
