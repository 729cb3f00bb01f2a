-- Why bytes are no feed, by the fault that is answered.
use Rattle.std.specs.Prelude.{ℕ, Option, None, Some}
use Rattle.edr_feed.specs.declared.faults.FeedFault.{FeedFault}
use Rattle.edr_feed.specs.declared.faults.FeedFault.TheVariants as faults
use Rattle.edr_feed.specs.declared.refusals.FeedRefusal.{FeedRefusal}
use Rattle.edr_feed.specs.declared.refusals.FeedRefusal.TheVariants.{TooLong, LineTooLong, NotJson, NotFeedLine, Cov, Change, NothingPublished}

-- the fault without the fault inside the line; a fault of the outside says nothing of the bytes
abbrev pub refusal_of : FeedFault → Option FeedRefusal
refusal_of faults.ReadFault = None
refusal_of faults.TooLong = Some TooLong
refusal_of (faults.LineTooLong line) = Some (LineTooLong line)
refusal_of (faults.NotJson line) = Some (NotJson line)
refusal_of (faults.NotFeedLine line) = Some (NotFeedLine line)
refusal_of (faults.Cov line fault) = Some (Cov line)
refusal_of (faults.Change line fault) = Some (Change line)
refusal_of faults.NothingPublished = Some NothingPublished
refusal_of faults.OutOfMemory = None

-- the number of the line that a fault names
abbrev pub line_of : FeedFault → Option ℕ
line_of (faults.LineTooLong line) = Some line
line_of (faults.NotJson line) = Some line
line_of (faults.NotFeedLine line) = Some line
line_of (faults.Cov line fault) = Some line
line_of (faults.Change line fault) = Some line
line_of other = None
