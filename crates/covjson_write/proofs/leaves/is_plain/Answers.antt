use Rattle.covjson_write.proofs.HeadTextLemmas.{plain_more}
use Rattle.covjson_write.proofs.leaves.is_plain.Goals as goal

pub loop-byte-preserved : goal.loop-byte-preserved
loop-byte-preserved c =
    plain_more c.args.bytes.now c.loop-byte.byte-index _ c.loop-byte-test.true c.if-byte-lt32.false c.if-byte-eq34.false c.if-byte-eq92.false c.loop-byte.invariant
