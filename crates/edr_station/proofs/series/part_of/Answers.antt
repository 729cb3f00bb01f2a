use Rattle.std.proofs.Common.{◌≡◌, ◌*◌, ◌-◌, length, min, rules}
use Rattle.edr_station.proofs.BlockLists.{part_is}
use Rattle.edr_station.proofs.series.part_of.Goals as goal

pub returns : goal.returns
returns c =
    let m : c.min.result ≡ min (length c.args.values.now - c.args.block * 256) 256 = search rules in
    part_is c.args.values.now (c.args.block * 256) 256 c.min.result m
