use Rattle.std.proofs.Common.{◌≡◌, ℤ, arith, length, subst, w64}
use Rattle.std.proofs.lemmas.Int.{to_z-of_z}
use Rattle.std.proofs.lemmas.Bool.Decides.{nat_tests}
use Rattle.edr_base.specs.Numbers.{IsNumeral, IsWhole, MatchWhole}
use Rattle.edr_base.specs.NumberLaws.{whole-parts}
use Rattle.edr_base.proofs.NumberWords.{match-same, whole-from, whole-end}
use Rattle.edr_base.proofs.numbers.whole_number.Goals as goal

pub returns-then-is_empty : goal.returns-then-is_empty
returns-then-is_empty c =
    let s1 = c.without_spaces.ensures in
    let s3 = c.without_spaces-2.ensures in
    let s2 = c.split_word.ensures in
    let end : length c.without_spaces-2.result.now ≡ 0 = grind (arith, nat_tests) in
    match-same c.numeral.result (IsNumeral c.split_word.result.0.now) (IsWhole c.args.text.now) c.args.limit
    (λ v n. whole-from c.args.text.now s1.0 s3.0 _ _ _ _ v s1.1 s2 s3.1 end n)
    (λ v w. (whole-parts c.args.text.now s1.0 _ _ _ v s1.1 s2 w).0)
    (let P : ℤ → Type 0 = λ l. MatchWhole c.numeral.result (IsNumeral c.split_word.result.0.now) l in subst P (to_z-of_z w64 c.args.limit c.ranges.limit) c.numeral.ensures)

pub returns-else-is_empty : goal.returns-else-is_empty
returns-else-is_empty c =
    let s1 = c.without_spaces.ensures in
    let s3 = c.without_spaces-2.ensures in
    λ v w. let end : length c.without_spaces-2.result.now ≡ 0 = whole-end c.args.text.now s1.0 s3.0 _ _ _ _ v s1.1 c.split_word.ensures s3.1 w in grind (arith, nat_tests)
