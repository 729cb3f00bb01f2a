use Rattle.std.proofs.Common.{arith, sym, ap, ◌∙◌, not}
use Rattle.std.specs.Char.{is_ascii_digit}
use Rattle.edr_base.specs.SplitLaws.{IsSplit-at, IsSplit-all}
use Rattle.edr_base.proofs.numbers.split_digits.Goals as goal

pub returns-then-not-is_ascii_digit : goal.returns-then-not-is_ascii_digit
returns-then-not-is_ascii_digit c =
    rw (c.split_at.ensures.front, c.split_at.ensures.back) (IsSplit-at (λ b. not (is_ascii_digit b)) c.args.text.now c.loop-i.i (omega arith) c.loop-i.invariant (λ h. ap not (sym c.is_ascii_digit.ensures.value ∙ c.if-not-is_ascii_digit.true)))

pub returns : goal.returns
returns c = IsSplit-all (λ b. not (is_ascii_digit b)) c.args.text.now c.loop-i.i (omega arith) c.loop-i.invariant
