-- What is said of a fault; for private clauses.
use Rattle.std.specs.Prelude.{ℕ, Bool, true, false, List, [], ◌++◌, codes}
use Rattle.std.specs.Fmt.{decimal}
use Rattle.covjson_checks.specs.declared.faults.CovFault.{CovFault}
use Rattle.edr_feed.specs.declared.faults.FeedFault.{FeedFault}
use Rattle.edr_feed.specs.declared.faults.FeedFault.TheVariants as feeds
use Rattle.edr_fetch.specs.declared.fetching.FetchFault.{FetchFault}
use Rattle.edr_fetch.specs.declared.fetching.FetchFault.TheVariants as fetches
use Rattle.edr.specs.Explaining.{cov_said, change_said, shown}

-- of a document
abbrev pub document_said : Bool → CovFault → List ℕ
document_said false fault = []
document_said true fault = codes ": " ++ cov_said fault

-- of a feed: the fault inside the line
abbrev pub line_said : FeedFault → List ℕ
line_said (feeds.Cov line fault) = codes ": " ++ cov_said fault
line_said (feeds.Change line fault) = codes ": " ++ change_said fault
line_said other = []

abbrev pub feed_explained : Bool → FeedFault → List ℕ
feed_explained false fault = []
feed_explained true fault = line_said fault

-- of a reply
abbrev pub fault_said : FetchFault → List ℕ
fault_said (fetches.BadReply place) = codes ": place " ++ decimal place
fault_said (fetches.NotData status code) = shown code
fault_said (fetches.Cov fault) = codes ": " ++ cov_said fault
fault_said other = []

abbrev pub reply_explained : Bool → FetchFault → List ℕ
reply_explained false fault = []
reply_explained true fault = fault_said fault
