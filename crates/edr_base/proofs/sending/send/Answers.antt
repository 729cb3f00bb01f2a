use Rattle.std.proofs.Common.{◌∙◌}
use Rattle.std.proofs.lemmas.Result.{err_from_is_err_and}
use Rattle.edr_base.proofs.KnownBytes.{front_of}
use Rattle.edr_base.proofs.sending.send.Goals as goal

pub returns-in_err-sent-clause-bytes : goal.returns-in_err-sent-clause-bytes
returns-in_err-sent-clause-bytes g c =
    let fault = err_from_is_err_and c.from_residual.result c.from_residual.ensures.1 in
    rw fault.1 (record { whole = tt; front = front_of _ _ _ c.loop-sent.sent (c.in_err-sent.ensures.bytes ∙ c.loop-sent.invariant.bytes) })
