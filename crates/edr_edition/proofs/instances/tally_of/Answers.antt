use Rattle.std.proofs.Common.{ap, ◌∙◌}
use Rattle.covjson_value.specs.declared.coverages.NdArray.{NdArray}
use Rattle.edr_station.specs.Tallies.{tally_of, and_of}
use Rattle.edr_edition.proofs.TallySteps.{range_step}
use Rattle.edr_edition.proofs.instances.tally_of.Goals as goal

pub loop-range-preserved : goal.loop-range-preserved
loop-range-preserved c =
    let now = c.loop-range.tally in
    let values = c.items.ensures ∙ ap (λ (range : NdArray). range.values) c.range-item.is in
    range_step now c.in_ok-tally.tally c.args.ranges.now c.loop-range.range-index c.range-item.result c.loop-range.invariant c.loop-range-test.true
    (c.in_ok-tally.ensures ∙ ap (λ vs. and_of now (tally_of vs)) values)
