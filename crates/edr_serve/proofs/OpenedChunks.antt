-- What is opened where the body in chunks is ended behind what was sent.
use Rattle.std.proofs.Common.{◌≡◌, ℕ, List}
use Rattle.std.specs.Prelude.{Result, OnOk}
use Rattle.edr_base.specs.declared.sending.SendFault.{SendFault}
use Rattle.edr_send.specs.Sending.{Opens}

-- the chunks were opened for the text, whether or not its end could be sent; where the text couldn't be, nothing more is answered
pub opens_as : {T U : Type 0} (outcome : Result T SendFault) (result : Result U SendFault) (wanted numbers : List ℕ)
    → (OnOk result (numbers ≡ wanted)) → Opens outcome wanted numbers → Opens result wanted numbers
opens_as outcome result wanted numbers all x = record { all = all; begun = x.begun }
