use Rattle.std.proofs.Common.{w64}
use Rattle.std.proofs.lemmas.Int.{to_z-of_z}
use Rattle.covjson_write.proofs.HeadTextLemmas.{plain_time}
use Rattle.covjson_write.proofs.leaves.push_time.Goals as goal

pub push_plain-requires : goal.push_plain-requires
push_plain-requires c =
    rw (c.write_instant.ensures, to_z-of_z w64 c.args.time c.ranges.time) (plain_time _ c.args.time (c.times_are_written.ensures c.args.time c.requires))
