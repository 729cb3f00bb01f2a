-- The faults of a run, where others lead to them; for private clauses.
use Rattle.std.specs.Prelude.{Option, None, Some}
use Rattle.edr_feed.specs.Refusals.{refusal_of}
use Rattle.edr_feed.specs.declared.faults.FeedFault.{FeedFault}
use Rattle.edr_feed.specs.declared.refusals.FeedRefusal.{FeedRefusal}
use Rattle.edr_query.specs.declared.reading.TargetFault.{TargetFault}
use Rattle.edr_query.specs.declared.reading.TargetFault.TheVariants as target
use Rattle.edr_select.specs.declared.planning.PlanFault.{PlanFault}
use Rattle.edr_select.specs.declared.planning.PlanFault.TheVariants as plan
use Rattle.edr_work.specs.declared.faults.WorkFault.{WorkFault}
use Rattle.edr_work.specs.declared.faults.WorkFault.TheVariants.{NotFeed, Refused, OutOfMemory}

-- why the bytes are no feed; a source that never fails leaves only want of memory besides
abbrev pub of_refusal : Option FeedRefusal → WorkFault
of_refusal None = OutOfMemory
of_refusal (Some refusal) = NotFeed refusal

abbrev pub of_feed : FeedFault → WorkFault
of_feed fault = of_refusal (refusal_of fault)

abbrev pub of_target : TargetFault → WorkFault
of_target (target.Refused refusal) = Refused refusal
of_target target.OutOfMemory = OutOfMemory

abbrev pub of_plan : PlanFault → WorkFault
of_plan (plan.Refused refusal) = Refused refusal
of_plan plan.OutOfMemory = OutOfMemory
