use Rattle.std.proofs.Common.{arith}
use Rattle.std.proofs.lemmas.List.{take_rest}
use Rattle.edr_base.proofs.CutLemmas.{IsCut-at, none_all}
use Rattle.edr_base.proofs.cuts.cut_at.Goals as goal

pub returns-then-byte-mark : goal.returns-then-byte-mark
returns-then-byte-mark c =
    rw take_rest (IsCut-at c.args.text.now c.args.mark c.loop-place.place (omega arith) c.if-byte-mark.true c.loop-place.invariant)

pub returns : goal.returns
returns c = none_all c.args.text.now c.args.mark c.loop-place.place (omega arith) c.loop-place.invariant
