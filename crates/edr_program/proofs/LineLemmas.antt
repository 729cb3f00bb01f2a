-- A line that was written.
use Rattle.std.proofs.Common.{◌≡◌, ℕ, ◌≤◌, List, Result, arith}
use Rattle.std.specs.declared.option.Option.{Option}
use Rattle.std.specs.Prelude.{IsErrOf}
use Rattle.edr_base.specs.Outside.{Rose}
use Rattle.edr_base.specs.Calls.{Writes}
use Rattle.edr_base.specs.declared.sending.SendFault.{SendFault}
use Rattle.edr_base.specs.declared.sending.SendFault.TheVariants.{WriteFault}
use Rattle.edr_program.specs.Lines.{Tells}

-- a fault that was counted stays counted
pub tells_later : (r : Result (Unit {0}) SendFault) (text : List ℕ) (old mid new : Option (List ℕ)) (before then after : ℕ)
    → Writes r text old mid → new ≡ mid → (IsErrOf r WriteFault → Rose before then) → then ≤ after → Tells text old new before after
tells_later r text old mid new before then after writes same cause later =
    record { outcome = r; writes = rw same writes; cause = λ e. let h : Rose before then = cause e in omega (arith, h) }
