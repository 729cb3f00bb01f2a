use Rattle.std.proofs.Common.{◌≡◌, ◌∷◌, [], ◌+◌, ◌%◌, ℕ, Some, pos, w64, to_z, ap, ◌∙◌, arith, rules}
use Rattle.serde_json.specs.Find.{of_integer}
use Rattle.serde_json.specs.Read.{number_of}
use Rattle.edr_samples.proofs.Digits.{digit_number}
use Rattle.edr_samples.proofs.numbers.digit_of.Goals as goal

pub returns-then-digit-le9 : goal.returns-then-digit-le9
returns-then-digit-le9 c =
    let d : ℕ = (c.args.byte + 208) % 256 in
    let is : c.args.byte ≡ 48 + d = omega (arith, c.if-digit-le9.true) in
    let same : pos d ≡ to_z w64 d = search rules in
    ap (λ b. number_of (b ∷ [])) is ∙ digit_number d c.if-digit-le9.true ∙ ap (λ z. Some (of_integer z)) same
