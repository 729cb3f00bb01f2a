use Rattle.std.proofs.Common.{List, length, sym, ap, ◌∙◌, subst}
use Rattle.edr_station.specs.Blocks.{blocks_along}
use Rattle.edr_station.specs.KeptBlocks.{values_of, Filled, AreBlocks}
use Rattle.edr_station.proofs.BlockLists.{Values, whole_values}
use Rattle.edr_station.proofs.series.Series.pack.Goals as goal

pub invariant_of-result : goal.invariant_of-result
invariant_of-result c =
    let blocks : List Values = c.in_ok-blocks.blocks.items in
    let whole = whole_values c.args.values.now blocks c.in_ok-blocks.ensures in
    subst AreBlocks (sym c.of.ensures)
    (subst (λ (values : Values). Filled values blocks (blocks_along (length values))) (sym whole) c.in_ok-blocks.ensures)

pub returns : goal.returns
returns c =
    let blocks : List Values = c.in_ok-blocks.blocks.items in
    ap values_of c.of.ensures ∙ whole_values c.args.values.now blocks c.in_ok-blocks.ensures
