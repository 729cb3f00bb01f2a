use Rattle.std.proofs.Common.{rules, ◌<◌, ◌∙◌, ap, [], List, Option, length}
use Rattle.std.specs.Prelude.{ℤ}
use Rattle.edr_station.specs.Tallies.{tally_of, and_of}
use Rattle.edr_station.proofs.TallySteps.{part_step}
use Rattle.edr_station.proofs.series.Series.tally.Goals as goal

pub loop-block-preserved : goal.loop-block-preserved
loop-block-preserved c =
    let now = c.loop-block.tally in
    let values = c.deref.ensures.value ∙ c.in_ok-values.ensures in
    let inside : c.loop-block.block < length c.self.inside.blocks = search rules in
    part_step now c.in_ok-tally.tally c.self.inside.blocks c.loop-block.block c.at.result.now c.loop-block.invariant inside
    (c.at.ensures []) (c.in_ok-tally.ensures ∙ ap (λ (vs : List (Option ℤ)). and_of now (tally_of vs)) values)
