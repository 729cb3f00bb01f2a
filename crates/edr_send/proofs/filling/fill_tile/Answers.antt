use Rattle.std.proofs.Common.{◌∙◌, arith}
use Rattle.std.proofs.lemmas.List.{length-set}
use Rattle.edr_send.specs.declared.slots.Slot.{Slot}
use Rattle.edr_send.proofs.TileSteps.{same_next, values_next}
use Rattle.edr_send.proofs.filling.fill_tile.Goals as goal

pub loop-at-preserved : goal.loop-at-preserved
loop-at-preserved c =
    let d : Slot = record { tile = 0; number = 0; place = record { parameter = 0; t = 0; z = 0; y = 0; x = 0 } } in
    record {
      low = omega arith;
      high = omega (arith, c.loop-at-test.true);
      long = length-set _ _ _ ∙ c.loop-at.invariant.long;
      same = same_next c.args.slots.now c.args.from c.loop-at.at d c.requires.from c.loop-at-test.true c.loop-at.invariant.same c.if-slots-at.true;
      values = values_next c.args.tile c.args.slots.now c.args.from c.loop-at.at d c.args.values.now c.loop-at.values c.get.result c.loop-at.invariant.low c.loop-at-test.true c.loop-at.invariant.values c.get.ensures;
    }
