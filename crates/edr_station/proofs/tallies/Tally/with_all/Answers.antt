use Rattle.std.proofs.Common.{rules, ◌≡◌, [], ◌∷◌, get_or, None}
use Rattle.edr_station.specs.Tallies.{tally_of, and_of}
use Rattle.edr_station.proofs.TallySteps.{tally_step}
use Rattle.edr_station.proofs.tallies.Tally.with_all.Goals as goal

pub loop-sample-preserved : goal.loop-sample-preserved
loop-sample-preserved c =
    let samples = c.args.samples.now in
    let at = c.loop-sample.sample-index in
    let step : c.in_ok-tally.tally ≡ and_of c.loop-sample.tally (tally_of (get_or samples at None ∷ [])) = search rules in
    tally_step c.args.self c.loop-sample.tally c.in_ok-tally.tally samples at None c.loop-sample.invariant c.loop-sample-test.true step
