use Rattle.std.proofs.Common.{◌*◌, ap, arith}
use Rattle.edr_station.proofs.BlockNumbers.{blocks_scaled}
use Rattle.edr_station.proofs.stations.counted.Goals as goal

pub returns-in-Some-clause-counted : goal.returns-in-Some-clause-counted
returns-in-Some-clause-counted c =
    omega (arith, blocks_scaled c.args.parameters c.args.shelf, ap (λ n. c.args.parameters * n) c.blocks-2.ensures, c.in-Some.ensures.0)
