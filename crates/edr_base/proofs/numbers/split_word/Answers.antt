use Rattle.std.proofs.Common.{arith, ◌==◌}
use Rattle.std.proofs.lemmas.Bool.Decides.{nat_tests}
use Rattle.edr_base.specs.SplitLaws.{IsSplit-at, IsSplit-all}
use Rattle.edr_base.proofs.numbers.split_word.Goals as goal

pub returns-then-byte-eq32 : goal.returns-then-byte-eq32
returns-then-byte-eq32 c =
    rw (c.split_at.ensures.front, c.split_at.ensures.back) (IsSplit-at (λ b. b == 32) c.args.text.now c.loop-i.i (omega arith) c.loop-i.invariant (λ h. grind (arith, nat_tests)))

pub returns : goal.returns
returns c = IsSplit-all (λ b. b == 32) c.args.text.now c.loop-i.i (omega arith) c.loop-i.invariant
