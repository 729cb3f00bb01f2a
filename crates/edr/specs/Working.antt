-- How a run ends that makes a feed and reads it; for private clauses.
use Rattle.std.specs.Prelude.{ℕ, ⊤}
use Rattle.edr_base.specs.Outside.{Rose}
use Rattle.edr_work.specs.Working.{IsMadeNoFeed, IsWorkRefused}
use Rattle.edr_work.specs.declared.faults.WorkFault.{WorkFault}
use Rattle.edr_work.specs.declared.faults.WorkFault.TheVariants as faults
use Rattle.edr.specs.declared.endings.Ending.{Ending}
use Rattle.edr.specs.declared.endings.Ending.TheVariants.{Done, NotFeed, WriteFault, OutOfMemory, Refused}

-- how a run ends that has no text
abbrev pub work_ends : WorkFault → Ending
work_ends (faults.NotFeed refusal) = NotFeed refusal
work_ends (faults.Refused refusal) = Refused refusal
work_ends faults.OutOfMemory = OutOfMemory

-- the cause of an ending: the feed that is made is none, its edition refuses a target, or a count rose
abbrev pub WorkCause : Ending → ℕ → ℕ → ℕ → Type 0
WorkCause Done number before after = ⊤
WorkCause (NotFeed refusal) number before after = IsMadeNoFeed number refusal
WorkCause WriteFault number before after = Rose before after
WorkCause OutOfMemory number before after = ⊤
WorkCause (Refused refusal) number before after = IsWorkRefused number refusal
WorkCause ending number before after = ⊥
