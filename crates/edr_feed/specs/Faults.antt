-- The faults of a line, where others lead to them; for private clauses.
use Rattle.std.specs.Prelude.{ℕ}
use Rattle.edr_samples.specs.declared.faults.JsonFault.{JsonFault}
use Rattle.edr_samples.specs.declared.faults.JsonFault.TheVariants as json
use Rattle.covjson_checks.specs.declared.faults.CovFault.{CovFault}
use Rattle.covjson_checks.specs.declared.faults.CovFault.TheVariants as covjson
use Rattle.edr_draft.specs.declared.changes.ChangeFault.{ChangeFault}
use Rattle.edr_draft.specs.declared.changes.ChangeFault.TheVariants as changes
use Rattle.edr_feed.specs.declared.faults.LineFault.{LineFault}
use Rattle.edr_feed.specs.declared.faults.LineFault.TheVariants.{LineTooLong, NotJson, NotFeedLine, Cov, Change, OutOfMemory}
use Rattle.edr_feed.specs.declared.faults.FeedFault.{FeedFault}
use Rattle.edr_feed.specs.declared.faults.FeedFault.TheVariants as feed

abbrev pub of_json : JsonFault → LineFault
of_json json.NotJson = NotJson
of_json json.OutOfMemory = OutOfMemory

abbrev pub of_cov : CovFault → LineFault
of_cov covjson.OutOfMemory = OutOfMemory
of_cov fault = Cov fault

abbrev pub of_change : ChangeFault → LineFault
of_change changes.OutOfMemory = OutOfMemory
of_change fault = Change fault

-- the fault of a line with its number
abbrev pub at_line : ℕ → LineFault → FeedFault
at_line line LineTooLong = feed.LineTooLong line
at_line line NotJson = feed.NotJson line
at_line line NotFeedLine = feed.NotFeedLine line
at_line line (Cov fault) = feed.Cov line fault
at_line line (Change fault) = feed.Change line fault
at_line line OutOfMemory = feed.OutOfMemory
