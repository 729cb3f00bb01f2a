use Rattle.std.proofs.Common.{rules, ◌<◌, get_or}
use Rattle.std.proofs.lemmas.Bool.{false≢true}
use Rattle.edr_send.proofs.BandTests.{numbers_fall}
use Rattle.edr_send.proofs.bands.parameters_rise.Goals as goal

pub returns-then-parameter-least : goal.returns-then-parameter-least
returns-then-parameter-least c =
    let low : get_or c.args.parameters.now c.loop-parameter.parameter-index 0 < c.loop-parameter.least = search rules in (
      (λ e. absurd (false≢true e)),
      (λ rise. absurd (numbers_fall c.args.parameters.now c.loop-parameter.parameter-index c.loop-parameter.least 0 c.loop-parameter-test.true c.loop-parameter.invariant.none c.loop-parameter.invariant.last low rise)),
    )
