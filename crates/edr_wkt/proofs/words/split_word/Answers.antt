use Rattle.std.proofs.Common.{arith, ◌∙◌, sym}
use Rattle.edr_base.specs.SplitLaws.{IsSplit-at, IsSplit-all}
use Rattle.edr_wkt.specs.Grammar.{is_end}
use Rattle.edr_wkt.proofs.words.split_word.Goals as goal

pub returns-then-is_end : goal.returns-then-is_end
returns-then-is_end c =
    rw (c.split_at.ensures.front, c.split_at.ensures.back) (IsSplit-at is_end c.args.text.now c.loop-i.i (omega arith) c.loop-i.invariant (λ h. sym c.is_end.ensures ∙ c.if-is_end.true))

pub returns : goal.returns
returns c = IsSplit-all is_end c.args.text.now c.loop-i.i (omega arith) c.loop-i.invariant
