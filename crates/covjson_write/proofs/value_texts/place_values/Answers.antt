use Rattle.std.proofs.Common.{arith}
use Rattle.json.proofs.Printed.Places.{Placed-then}
use Rattle.covjson_write.proofs.PlaceLemmas.{value_placed}
use Rattle.covjson_write.proofs.value_texts.place_values.Goals as goal

pub loop-sample-preserved : goal.loop-sample-preserved
loop-sample-preserved c = record {
  text = value_placed c.loop-sample.sample-index c.args.samples.now c.loop-sample-test.true c.loop-sample.invariant.text (Placed-then c.place_byte-next.ensures c.place_value-at.ensures.text);
  short = omega (arith, c.loop-sample.invariant.short, c.place_byte-next.ensures.moved, c.place_value-at.ensures.short);
}
