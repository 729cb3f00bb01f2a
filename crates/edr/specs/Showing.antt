-- How a document in the input is shown; for private clauses.
use Rattle.std.specs.Prelude.{ℕ, List, ⊤}
use Rattle.std.specs.declared.option.Option.{Option}
use Rattle.edr_base.specs.Outside.{Rose}
use Rattle.edr.specs.declared.endings.Ending.{Ending}
use Rattle.edr.specs.declared.endings.Ending.TheVariants.{Done, ReadFault, WriteFault, OutOfMemory, NoDocument}
use Rattle.edr.specs.Documents.{IsNoDocumentIn}

-- the cause of an ending: the input is no document, or a count rose
abbrev pub ShowCause : Ending → Option (List ℕ) → ℕ → ℕ → ℕ → ℕ → Type 0
ShowCause Done input read_before read_after written_before written_after = ⊤
ShowCause ReadFault input read_before read_after written_before written_after = Rose read_before read_after
ShowCause WriteFault input read_before read_after written_before written_after = Rose written_before written_after
ShowCause OutOfMemory input read_before read_after written_before written_after = ⊤
ShowCause (NoDocument refusal) input read_before read_after written_before written_after = IsNoDocumentIn input refusal
ShowCause ending input read_before read_after written_before written_after = ⊥
