use Rattle.std.proofs.Common.{◌≡◌, ℕ, ◌+◌, ◌-◌, ◌*◌, ◌<◌, ◌≤◌, ◌∷◌, ◌++◌, [], length, get_or, drop, decimal, sym, ap, ◌∙◌, arith, rules, append_assoc}
use Rattle.std.proofs.lemmas.List.{drop_more}
use Rattle.std.proofs.lemmas.Fmt.{decimal_digit}
use Rattle.edr_samples.proofs.LexemeLemmas.{at_byte, decimal_more}
use Rattle.edr_samples.proofs.lexemes.digits_at.Goals as goal

pub digits-init : goal.digits-init
digits-init c =
    let d = c.args.text.now in
    let b = c.byte_at-first.result in
    let low : 48 ≤ b = search rules in
    let high : b ≤ 57 = search rules in
    let inside : c.args.from < length d = c.byte_at-first.ensures.inside (λ e. omega (arith, low, e)) in
    let here : drop c.args.from d ≡ b ∷ drop (c.args.from + 1) d = at_byte d c.args.from b inside (sym c.byte_at-first.ensures.value) in
    let back : 48 + (b - 48) ≡ b = omega (arith, low) in
    let digit : decimal (b - 48) ≡ b ∷ [] = decimal_digit (b - 48) (omega (arith, high)) ∙ ap (λ x. x ∷ []) back in
    (omega (arith, inside), omega (arith, high), here ∙ ap (λ s. s ++ drop (c.args.from + 1) d) (sym digit))

pub digits-preserved : goal.digits-preserved
digits-preserved c =
    let d = c.args.text.now in
    let l = c.digits in
    let b : ℕ = get_or d l.at 0 in
    let inside : l.at < length d = search rules in
    let low : 48 ≤ b = search rules in
    let high : b ≤ 57 = search rules in
    let some : 0 < l.number = omega arith in
    let few : l.number < 100000000000000000 = search rules in
    let back : 48 + (b - 48) ≡ b = omega (arith, low) in
    let more : decimal (l.number * 10 + (b - 48)) ≡ decimal l.number ++ b ∷ [] =
    decimal_more l.number (b - 48) some (omega (arith, high)) (omega (arith, high, few)) ∙ ap (λ x. decimal l.number ++ x ∷ []) back in (
      omega (arith, inside),
      omega (arith, high, few),
      l.invariant.2 ∙ ap (λ r. decimal l.number ++ r) (drop_more d l.at 0 inside) ∙ sym (append_assoc (decimal l.number) (b ∷ []) _) ∙ ap (λ s. s ++ drop (l.at + 1) d) (sym more),
    )
