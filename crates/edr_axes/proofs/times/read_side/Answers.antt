use Rattle.edr_axes.proofs.InstantTexts.{small_back}
use Rattle.jiff_core.proofs.SignedLemmas.{signed_arith}
use Rattle.std.proofs.Common.{arith}
use Rattle.edr_axes.proofs.times.read_side.Goals as goal

pub returns-in-Some-clause-value : goal.returns-in-Some-clause-value
returns-in-Some-clause-value c =
    let time_in = c.in-Some.ensures.time_in in
    rw (small_back c.in-Some.time (omega (arith, signed_arith, time_in))) c.in-Some.ensures
