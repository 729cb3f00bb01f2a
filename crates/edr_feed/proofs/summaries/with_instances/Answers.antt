use Rattle.std.proofs.Common.{◌<◌, length, ap, ◌∙◌, arith}
use Rattle.edr_edition.specs.Values.{InstanceValue}
use Rattle.edr_station.specs.Tallies.{tally_of, and_of}
use Rattle.edr_feed.proofs.SummaryLemmas.{instance_step}
use Rattle.edr_feed.proofs.summaries.with_instances.Goals as goal

pub loop-place-preserved : goal.loop-place-preserved
loop-place-preserved c =
    let instances = c.args.collection.now.instances in
    let now = c.loop-place.tally in
    let inside : c.loop-place.place < length instances = omega (arith, c.loop-place-test.true, c.instances-place-end.ensures.instances) in
    let values = c.tally.ensures ∙ ap (λ (i : InstanceValue). tally_of i.grid.values) (c.instance_at.ensures.at c.instance_at.result.now) in
    instance_step c.tallies_add_up.ensures c.args.totals.tally now c.in_ok-tally.tally instances c.loop-place.place c.instance_at.result.now c.loop-place.invariant inside
    (c.in_ok-tally.ensures ∙ ap (and_of now) values)
