use Rattle.std.proofs.Common.{arith, ◌==◌, not}
use Rattle.std.proofs.lemmas.List.{take_rest}
use Rattle.std.proofs.lemmas.Bool.Decides.{nat_tests}
use Rattle.edr_base.specs.SplitLaws.{IsSplit-at, IsSplit-all}
use Rattle.edr_base.proofs.NumberLemmas.{spaces-split}
use Rattle.edr_base.proofs.numbers.without_spaces.Goals as goal

pub returns-then-byte-ne32 : goal.returns-then-byte-ne32
returns-then-byte-ne32 c =
    rw take_rest (spaces-split c.args.text.now _ _ (IsSplit-at (λ b. not (b == 32)) c.args.text.now c.loop-i.i (omega arith) c.loop-i.invariant (λ h. grind (arith, nat_tests))))

pub returns : goal.returns
returns c = spaces-split c.args.text.now _ _ (IsSplit-all (λ b. not (b == 32)) c.args.text.now c.loop-i.i (omega arith) c.loop-i.invariant)
