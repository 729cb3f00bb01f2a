use Rattle.std.proofs.Common.{◌∙◌, arith}
use Rattle.std.proofs.lemmas.List.{take_all}
use Rattle.edr_wkt.proofs.PushLemmas.{copied_more}
use Rattle.edr_wkt.proofs.copying.copy_rings.Goals as goal

pub loop-ring-preserved : goal.loop-ring-preserved
loop-ring-preserved c =
    copied_more c.args.rings.now c.loop-ring.ring-index c.ring-item.result _ c.loop-ring.copies.items c.push.new.self.items c.loop-ring-test.true c.ring-item.is c.in_ok-copy_positions.ensures c.loop-ring.invariant c.in_ok-push.ensures.items

pub returns : goal.returns
returns c = c.of.ensures ∙ (c.loop-ring.invariant ∙ take_all c.loop-ring.ring-index c.args.rings.now (omega arith))
