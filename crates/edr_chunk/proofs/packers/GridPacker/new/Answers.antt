use Rattle.std.proofs.Common.{ap, List, Option}
use Rattle.std.specs.Prelude.{ℤ}
use Rattle.edr_chunk.specs.Grids.{Values}
use Rattle.edr_chunk.specs.Tiles.{with_parameters}
use Rattle.edr_chunk.proofs.ParameterLaws.{no_values}
use Rattle.edr_chunk.proofs.packers.GridPacker.new.Goals as goal

pub returns : goal.returns
returns c =
    ap (λ (v : List (Option ℤ)). let g : Values = record { shape = with_parameters c.args.shape 0; values = v } in g) (no_values c.args.shape c.new.result.items)
