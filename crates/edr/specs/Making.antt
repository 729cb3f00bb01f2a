-- How a run ends that makes a feed; for private clauses.
use Rattle.std.specs.Prelude.{ℕ, ⊤}
use Rattle.edr_base.specs.Outside.{Rose}
use Rattle.edr.specs.declared.endings.Ending.{Ending}
use Rattle.edr.specs.declared.endings.Ending.TheVariants.{Done, WriteFault, OutOfMemory}

-- the cause of an ending where a text is written that hangs on no input
abbrev pub MakeCause : Ending → ℕ → ℕ → Type 0
MakeCause Done before after = ⊤
MakeCause WriteFault before after = Rose before after
MakeCause OutOfMemory before after = ⊤
MakeCause ending before after = ⊥
