-- How a table is imported; for private clauses.
use Rattle.std.specs.Prelude.{ℕ, List, ⊤, Result, Err}
use Rattle.std.specs.declared.option.Option.{Option}
use Rattle.edr_base.specs.Outside.{Rose}
use Rattle.edr_import.specs.declared.refusals.TableRefusal.{TableRefusal}
use Rattle.edr.specs.declared.endings.ImportRefusal.TheVariants as imports
use Rattle.edr.specs.declared.endings.Ending.{Ending}
use Rattle.edr.specs.declared.endings.Ending.TheVariants.{Done, ReadFault, WriteFault, OutOfMemory, NoTable}
use Rattle.edr.specs.Tables.{IsNoTableIn}

-- the cause of an ending where the feed of a table is written: its refusal, or a count that rose
abbrev pub TableCause : Ending → (Result (List ℕ) TableRefusal → Type 0) → ℕ → ℕ → Type 0
TableCause Done IsThe before after = ⊤
TableCause WriteFault IsThe before after = Rose before after
TableCause OutOfMemory IsThe before after = ⊤
TableCause (NoTable (imports.Refused refusal)) IsThe before after = IsThe (Err refusal)
TableCause ending IsThe before after = ⊥

-- the same where the table is read before: the input makes no feed, or a count rose
abbrev pub ImportCause : Ending → Option (List ℕ) → ℕ → ℕ → ℕ → ℕ → Type 0
ImportCause Done input read_before read_after written_before written_after = ⊤
ImportCause ReadFault input read_before read_after written_before written_after = Rose read_before read_after
ImportCause WriteFault input read_before read_after written_before written_after = Rose written_before written_after
ImportCause OutOfMemory input read_before read_after written_before written_after = ⊤
ImportCause (NoTable refusal) input read_before read_after written_before written_after = IsNoTableIn input refusal
ImportCause ending input read_before read_after written_before written_after = ⊥
