use Rattle.std.proofs.Common.{length, sym, ap, ◌∙◌, subst}
use Rattle.covjson_value.specs.declared.coverages.NdArray.{NdArray}
use Rattle.edr_chunk.specs.Grids.{Values}
use Rattle.edr_chunk.specs.Places.{nodes}
use Rattle.edr_edition.proofs.PackedGrids.{packer_step}
use Rattle.edr_edition.proofs.instances.packed.Goals as goal
use Rattle.edr_base.specs.Limits.{AreSamples}

pub add-requires-clause-whole : goal.add-requires-clause-whole
add-requires-clause-whole c =
    let fills = c.requires.ranges c.loop-range.range-index c.range-item.result c.loop-range-test.true in
    ap (λ values. length values) (c.items.ensures ∙ ap (λ (range : NdArray). range.values) c.range-item.is)
    ∙ (fills.0 ∙ sym (ap (λ (grid : Values). nodes grid.shape) c.loop-range.invariant))

pub add-requires-clause-samples : goal.add-requires-clause-samples
add-requires-clause-samples c =
    let fills = c.requires.ranges c.loop-range.range-index c.range-item.result c.loop-range-test.true in
    subst AreSamples (sym (c.items.ensures ∙ ap (λ (range : NdArray). range.values) c.range-item.is)) fills.1

pub loop-range-preserved : goal.loop-range-preserved
loop-range-preserved c =
    let values = c.items.ensures ∙ ap (λ (range : NdArray). range.values) c.range-item.is in
    packer_step c.args.shape c.loop-range.packer c.add.new.self c.args.ranges.now c.loop-range.range-index c.range-item.result c.items.result.now c.loop-range.invariant c.loop-range-test.true values
    c.in_ok-add.ensures.shape c.in_ok-add.ensures.values
