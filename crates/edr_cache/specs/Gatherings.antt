-- What is in a sink that gathers.
use Rattle.std.specs.Prelude.{ℕ, List}
use Rattle.edr_base.specs.declared.outside.Faults as Faults
use Rattle.edr_base.specs.declared.outside.Sink as Sink
use Rattle.edr_cache.specs.declared.gathering.Gathering.{Gathering}

-- the sink that it hands on to
abbrev pub sink_within : {K : Type 0} {sink : Sink.Ghosts K} {faults : Faults.Ghosts K} → Gathering K sink faults → K
sink_within layer = layer.sink

-- what was written to it
abbrev pub gathered_in : {K : Type 0} {sink : Sink.Ghosts K} {faults : Faults.Ghosts K} → Gathering K sink faults → List ℕ
gathered_in layer = layer.gathered
