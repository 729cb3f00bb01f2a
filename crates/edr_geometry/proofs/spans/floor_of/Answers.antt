use Rattle.std.proofs.Common.{◌≡◌, ◌∙◌, ap, ap₂, rules, int_le, to_z, of_z, w64}
use Rattle.std.specs.Int.{int_div_euclid}
use Rattle.edr_geometry.proofs.SpanLemmas.{quotient_is}
use Rattle.edr_geometry.proofs.spans.floor_of.Goals as goal

pub returns-clause-most : goal.returns-clause-most
returns-clause-most c =
    let limit : to_z w64 (of_z w64 c.args.limit) ≡ c.args.limit = search rules in
    let divisor : to_z w64 (of_z w64 c.args.divisor) ≡ c.args.divisor = search rules in
    let quotient : to_z w64 (of_z w64 c.div_euclid.result) ≡ c.div_euclid.result = search rules in
    λ v. ap (λ q. int_le v q) quotient
    ∙ quotient_is c.args.limit c.args.divisor c.div_euclid.result (c.div_euclid.ensures ∙ ap₂ int_div_euclid limit divisor) c.requires.some v
