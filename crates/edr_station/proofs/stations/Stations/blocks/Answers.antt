use Rattle.std.proofs.Common.{◌*◌, sym, ap, ◌∙◌, arith}
use Rattle.edr_station.specs.Stations.{StationsValue}
use Rattle.edr_station.specs.Blocks.{blocks}
use Rattle.edr_station.proofs.BlockNumbers.{blocks_scaled}
use Rattle.edr_station.proofs.stations.Stations.blocks.Goals as goal

pub overflow_mul-result : goal.overflow_mul-result
overflow_mul-result c =
    let i = c.self.inside in
    omega (arith, blocks_scaled i.parameters i.shelf, ap (λ n. i.parameters * n) c.blocks-2.ensures, c.self.invariant.0.counted)

pub returns : goal.returns
returns c =
    let i = c.self.inside in
    ap (λ n. i.parameters * n) c.blocks-2.ensures ∙ (sym (blocks_scaled i.parameters i.shelf) ∙ ap (λ (v : StationsValue). blocks v.parameters v.stations) c.self.view_is)
