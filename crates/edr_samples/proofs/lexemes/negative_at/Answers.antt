use Rattle.std.proofs.Common.{◌≡◌, ◌<◌, ◌∷◌, ◌++◌, drop, decimal, neg_ℤ, pos, ◌-ℤ◌, w64, to_z, of_z, sym, ap, ◌∙◌, subst, arith, rules}
use Rattle.edr_samples.specs.Lexemes.{GivesWhole}
use Rattle.edr_samples.proofs.LexemeLemmas.{at_byte, gives_minus, ended_by}
use Rattle.edr_samples.proofs.lexemes.negative_at.Goals as goal

pub returns-then-is_delimiter-clause-number : goal.returns-then-is_delimiter-clause-number
returns-then-is_delimiter-clause-number c =
    let d = c.args.text.now in
    let from = c.args.from in
    let n = c.in-Some.number in
    let rest = drop c.in-Some.end d in
    let some : 0 < n = omega arith in
    let same : neg_ℤ (pos n) ≡ to_z w64 (of_z w64 (pos 0 -ℤ to_z w64 n)) = search rules in
    let ended = ended_by rest c.byte_at.result c.byte_at.ensures.value (sym c.is_delimiter.ensures ∙ c.if-is_delimiter.true) in
    let here : drop from d ≡ 45 ∷ (decimal n ++ rest) = at_byte d from 45 c.requires.inside c.requires.minus ∙ ap (λ r. 45 ∷ r) c.in-Some.ensures.digits in
    subst (λ z. GivesWhole (drop from d) z rest) same (gives_minus n _ rest some c.in-Some.ensures.few here ended)
