-- What the objects in memory were made with: how much they give or take at once, and which of their calls fail.
use Rattle.std.specs.Prelude.{◌≡◌, ℕ, ◌+◌, min}
use Rattle.edr_base.specs.declared.fault_plan.FaultPlan.{FaultPlan}
use Rattle.edr_base.specs.declared.memory_source.MemorySource.{MemorySource}
use Rattle.edr_base.specs.declared.memory_sink.MemorySink.{MemorySink}
use Rattle.edr_base.specs.declared.memory_files.MemoryFiles.{MemoryFiles}
use Rattle.edr_base.specs.declared.memory_link.MemoryLink.{MemoryLink}
use Rattle.edr_base.specs.Limits.{count_limit}

abbrev pub cut_of_source : MemorySource → ℕ
cut_of_source s = s.cut

abbrev pub plan_of_source : MemorySource → FaultPlan
plan_of_source s = s.plan

abbrev pub cut_of_sink : MemorySink → ℕ
cut_of_sink s = s.cut

abbrev pub plan_of_sink : MemorySink → FaultPlan
plan_of_sink s = s.plan

abbrev pub cut_of_files : MemoryFiles → ℕ
cut_of_files s = s.cut

abbrev pub plan_of_files : MemoryFiles → FaultPlan
plan_of_files s = s.plan

abbrev pub cut_of_link : MemoryLink → ℕ
cut_of_link s = s.cut

abbrev pub plan_of_link : MemoryLink → FaultPlan
plan_of_link s = s.plan

-- the plan after a call, of which is given whether it failed: one call more, and where it failed one fault more
pub record IsNextPlan (Failed : Type 0) (old new : FaultPlan) : Type 0 where
  pub fails : new.fails ≡ old.fails
  pub calls : new.calls ≡ min (old.calls + 1) count_limit
  pub fault : Failed → new.faults ≡ min (old.faults + 1) count_limit
  pub none : ¬ Failed → new.faults ≡ old.faults
