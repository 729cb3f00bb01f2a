use Rattle.std.proofs.Common.{w64}
use Rattle.std.proofs.lemmas.Int.{to_z-of_z}
use Rattle.covjson_value.proofs.TimeTexts.{IsUtf8-IsWritten}
use Rattle.covjson_value.proofs.leaves.time_tree.Goals as goal

pub text_of-requires : goal.text_of-requires
text_of-requires c =
    rw (c.write_instant-bytes.ensures, to_z-of_z w64 c.args.time c.ranges.time)
    (IsUtf8-IsWritten _ c.args.time (c.times_are_written.ensures c.args.time c.requires))
