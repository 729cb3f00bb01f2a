-- The standard library's readers and writers, as sources and sinks.
use Rattle.std.specs.Prelude.{◌≡◌, ℕ, ◌+◌, min}
use Rattle.std.specs.declared.io.traits.Read as Read
use Rattle.std.specs.declared.io.traits.Write as Write
use Rattle.edr_base.specs.declared.adapters.RealSource.{RealSource}
use Rattle.edr_base.specs.declared.adapters.RealSink.{RealSink}
use Rattle.edr_base.specs.Limits.{count_limit}

-- the reader that a source reads from
abbrev pub reader_of : {T : Type 0} {ghosts : Read.Ghosts T} → RealSource T ghosts → T
reader_of source = source.reader

-- the writer that a sink writes to
abbrev pub writer_of : {T : Type 0} {ghosts : Write.Ghosts T} → RealSink T ghosts → T
writer_of sink = sink.writer

-- a fault is counted exactly where the call failed: one more, up to the greatest value
pub record Counts (Failed : Type 0) (before after : ℕ) : Type 0 where
  pub fault : Failed → after ≡ min (before + 1) count_limit
  pub none : ¬ Failed → after ≡ before
