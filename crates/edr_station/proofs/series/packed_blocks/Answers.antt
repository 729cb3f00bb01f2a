use Rattle.std.proofs.Common.{◌+◌, List, sym, ◌∙◌, subst}
use Rattle.edr_station.specs.KeptBlocks.{Filled}
use Rattle.edr_station.proofs.BlockLists.{Values, filled_more}
use Rattle.edr_station.proofs.series.packed_blocks.Goals as goal

pub loop-block-preserved : goal.loop-block-preserved
loop-block-preserved c =
    let values : Values = c.args.values.now in
    let blocks : List Values = c.loop-block.blocks.items in
    subst (λ (l : List Values). Filled values l (c.loop-block.block + 1)) (sym c.in_ok-push.ensures.items)
    (filled_more values blocks c.loop-block.block c.in_ok-pack.field-0 c.loop-block.invariant (c.in_ok-pack.ensures ∙ c.part_of.ensures))
