-- What is said of a fault explains the ending.
use Rattle.std.proofs.Common.{◌≡◌, ℕ, Bool, true, false, List, [], ◌++◌, Err, None, Some}
use Rattle.std.specs.declared.option.Option.{Option}
use Rattle.covjson_checks.specs.declared.faults.CovFault.{CovFault}
use Rattle.covjson_read.specs.Rows.{DocumentRows}
use Rattle.edr_base.specs.Calls.{ReadsAll}
use Rattle.edr_feed.specs.Feeds.{InnerStandsIn}
use Rattle.edr_feed.specs.declared.faults.FeedFault.{FeedFault}
use Rattle.edr_feed.specs.declared.faults.FeedFault.TheVariants as feeds
use Rattle.edr_client.specs.Replies.{IsNotData, IsNoDocument, IsLeft}
use Rattle.edr_fetch.specs.declared.fetching.FetchFault.{FetchFault}
use Rattle.edr_fetch.specs.declared.fetching.FetchFault.TheVariants as fetches
use Rattle.edr_fetch.specs.Exchanges.{Heard}
use Rattle.edr.specs.declared.endings.Ending.TheVariants.{NoDocument}
use Rattle.edr.specs.declared.endings.DocumentRefusal.TheVariants.{Cov}
use Rattle.edr.specs.Checking.{fault_ends}
use Rattle.edr.specs.Fetching.{fetch_ends}
use Rattle.edr.specs.Explaining.{IfAsked, ExplainsFeed, ExplainsDocument, ExplainsReply}
use Rattle.edr.specs.Said.{document_said, feed_explained, reply_explained}
use Rattle.edr.proofs.ShowLemmas.{of_all, told_some}

-- nothing is said, and there is nothing to say
pub if_asked : (why : Bool) (P : List ℕ → Type 0) (text : List ℕ) → text ≡ [] → P text → IfAsked why P text
if_asked true P text e p = p
if_asked false P text e p = e

-- of a feed
pub feed_is_explained : (why : Bool) (fault : FeedFault) (input : Option (List ℕ)) (text : List ℕ) → InnerStandsIn input fault → text ≡ feed_explained why fault
    → IfAsked why (ExplainsFeed (fault_ends fault) input) text
feed_is_explained false fault input text inner e = e
feed_is_explained true feeds.ReadFault input text inner e = e
feed_is_explained true feeds.TooLong input text inner e = e
feed_is_explained true (feeds.LineTooLong line) input text inner e = e
feed_is_explained true (feeds.NotJson line) input text inner e = e
feed_is_explained true (feeds.NotFeedLine line) input text inner e = e
feed_is_explained true (feeds.Cov line fault) input text inner e = (fault, inner, e)
feed_is_explained true (feeds.Change line fault) input text inner e = (fault, inner, e)
feed_is_explained true feeds.NothingPublished input text inner e = e
feed_is_explained true feeds.OutOfMemory input text inner e = e

-- of a document
pub document_is_explained : (why : Bool) (fault : CovFault) (bytes : List ℕ) (limit : ℕ) (old new : Option (List ℕ)) (text : List ℕ) → ReadsAll bytes limit old new
    → DocumentRows bytes (Err fault) → text ≡ document_said why fault → IfAsked why (ExplainsDocument (NoDocument Cov) old) text
document_is_explained false fault bytes limit old new text read rows e = e
document_is_explained true fault bytes limit old new text read rows e =
    of_all (λ all. (found : CovFault) × DocumentRows all (Err found) × (text ≡ document_said true found)) bytes limit old new read (fault, rows, e)

-- of a reply
pub reply_is_explained : (why : Bool) (fault : FetchFault) (incoming left : Option (List ℕ)) (text : List ℕ) → Heard (Err fault) incoming left → text ≡ reply_explained why fault
    → IfAsked why (ExplainsReply (fetch_ends fault) incoming) text
reply_is_explained false fault incoming left text heard e = e
reply_is_explained true fetches.ConnectFault incoming left text heard e = e
reply_is_explained true fetches.WriteFault incoming left text heard e = e
reply_is_explained true fetches.ReadFault incoming left text heard e = e
reply_is_explained true (fetches.BadReply place) None left text heard e = (place, tt, e)
reply_is_explained true (fetches.BadReply place) (Some bytes) left text heard e = (place, heard.0, e)
reply_is_explained true (fetches.NotData status code) incoming left text heard e = (
  code,
  told_some (λ bytes rest. IsLeft (IsNotData bytes status code) rest) _ incoming left (λ bytes rest l. (l.0 ++ rest, l.1)) heard,
  e,
)
reply_is_explained true (fetches.Cov inner) incoming left text heard e = (
  inner,
  told_some (λ bytes rest. IsLeft (IsNoDocument bytes inner) rest) _ incoming left (λ bytes rest l. (l.0 ++ rest, l.1)) heard,
  e,
)
reply_is_explained true fetches.OutOfMemory incoming left text heard e = e
