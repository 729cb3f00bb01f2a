use Rattle.std.proofs.Common.{◌≡◌, ◌∙◌, ap₂, rules, to_z, of_z, w64}
use Rattle.std.specs.Int.{int_min, int_max}
use Rattle.edr_geometry.proofs.SpanLemmas.{both_between}
use Rattle.edr_geometry.proofs.spans.Span.with.Goals as goal

pub returns : goal.returns
returns c =
    let a = c.args.self in let b = c.args.other in
    let least : to_z w64 (of_z w64 c.max.result) ≡ c.max.result = search rules in
    let greatest : to_z w64 (of_z w64 c.min.result) ≡ c.min.result = search rules in
    let low : to_z w64 (of_z w64 a.low) ≡ a.low = search rules in
    let high : to_z w64 (of_z w64 a.high) ≡ a.high = search rules in
    let other_low : to_z w64 (of_z w64 b.low) ≡ b.low = search rules in
    let other_high : to_z w64 (of_z w64 b.high) ≡ b.high = search rules in
    both_between a.low a.high b.low b.high (to_z w64 (of_z w64 c.max.result)) (to_z w64 (of_z w64 c.min.result))
    (least ∙ c.max.ensures.value ∙ ap₂ int_max low other_low) (greatest ∙ c.min.ensures.value ∙ ap₂ int_min high other_high)
