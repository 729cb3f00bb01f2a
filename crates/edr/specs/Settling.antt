-- How a run ends where all was written; for private clauses.
use Rattle.std.specs.Prelude.{ℕ, List, ⊤}
use Rattle.std.specs.declared.option.Option.{Option}
use Rattle.edr_base.specs.Outside.{Rose}
use Rattle.edr_base.specs.Calls.{IsFlushed}
use Rattle.edr.specs.declared.endings.Ending.{Ending}
use Rattle.edr.specs.declared.endings.Ending.TheVariants.{Done, WriteFault, OutOfMemory}

-- how a run ends where all was written, and is flushed
abbrev pub Settles : Ending → ℕ → ℕ → Option (List ℕ) → Option ℕ → Type 0
Settles Done before after written flushed = IsFlushed written flushed
Settles WriteFault before after written flushed = Rose before after
Settles OutOfMemory before after written flushed = ⊤
Settles ending before after written flushed = ⊥
