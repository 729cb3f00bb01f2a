use Rattle.std.proofs.Common.{ℕ, arith, sym, subst}
use Rattle.std.proofs.lemmas.Bool.Decides.{nat_tests}
use Rattle.edr_base.specs.Numbers.{IsUnsigned}
use Rattle.edr_base.proofs.NumberTexts.{digits-all, unsigned-not_point, unsigned-short, unsigned-from, some-else}
use Rattle.edr_base.specs.TestLaws.{holds, fails}
use Rattle.edr_base.proofs.numbers.without_sign.Goals as goal

pub returns-then-not-is_point : goal.returns-then-not-is_point
returns-then-not-is_point c = unsigned-not_point c.args.text.now _ _ c.split_digits.ensures (fails _ _ c.is_point.ensures c.if-not-is_point.true)

pub returns-then-point-lt2 : goal.returns-then-point-lt2
returns-then-point-lt2 c = unsigned-short c.args.text.now _ _ c.split_digits.ensures (grind (arith, nat_tests)) c.if-point-lt2.true

pub size_within-requires : goal.size_within-requires
size_within-requires c = digits-all _ c.split_digits.ensures.before

pub returns-in-Some : goal.returns-in-Some
returns-in-Some c =
    let is = unsigned-from c.args.text.now _ _ c.split_digits.ensures (holds _ _ c.is_point.ensures c.if-not-is_point.false) (some-else _ _ _ c.is_empty.ensures c.else-is_empty.either) in
    (let P : ℕ → Type 0 = λ n. IsUnsigned c.args.text.now n in subst P (sym c.in-Some.ensures.0) is, c.in-Some.ensures.1)

pub returns-in-None : goal.returns-in-None
returns-in-None c =
    (_, unsigned-from c.args.text.now _ _ c.split_digits.ensures (holds _ _ c.is_point.ensures c.if-not-is_point.false) (some-else _ _ _ c.is_empty.ensures c.else-is_empty.either), c.in-None.ensures)
