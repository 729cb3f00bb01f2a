use Rattle.std.proofs.lemmas.List.Elements.{All-more}
use Rattle.std.proofs.Common.{◌≡◌, arith}
use Rattle.edr_axes.proofs.reading_instants.zero_count.Goals as goal

pub loop-count-preserved : goal.loop-count-preserved
loop-count-preserved c =
    (omega arith, All-more (λ byte. byte ≡ 48) c.args.text.now c.loop-count.count 0 c.loop-count-test.true c.loop-count.invariant.1 c.if-text-count-eq48.true)
