-- Laws of lines that are told.
use Rattle.std.specs.Prelude.{ℕ, List, [], refl, Ok}
use Rattle.std.specs.declared.option.Option.{Option}
use Rattle.edr_base.specs.KnownBytes.{append_nothing, front_none}
use Rattle.edr_program.specs.Lines.{Tells}

-- nothing is told where there is nothing to tell
pub tells_nothing : (written : Option (List ℕ)) (faults : ℕ) → Tells [] written written faults faults
tells_nothing written faults = record { outcome = Ok tt; writes = record { whole = append_nothing written; front = front_none written written [] refl }; cause = λ e. cc }
