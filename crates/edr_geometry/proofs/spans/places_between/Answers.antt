use Rattle.std.proofs.Common.{◌≡◌, ◌∙◌, ap, rules, count_by, int_lt, int_le, max, to_z, of_z, w64}
use Rattle.edr_geometry.proofs.SpanLemmas.{lies_between}
use Rattle.edr_geometry.proofs.spans.places_between.Goals as goal

pub returns-clause-lies : goal.returns-clause-lies
returns-clause-lies c =
    let values = c.args.axis.now in let split = c.bounds_split_axes.ensures in let ascends = c.values-ascending.ensures.axis.ascending in
    let low : to_z w64 (of_z w64 c.args.low) ≡ c.args.low = search rules in
    let high : to_z w64 (of_z w64 c.args.high) ≡ c.args.high = search rules in
    lies_between values c.args.low c.args.high c.range.result.0 c.range.result.1 (split values c.args.low ascends) (split values c.args.high ascends)
    (c.range.ensures.first ∙ ap (λ b. count_by (λ v. int_lt v b) values) low) (c.range.ensures.end ∙ ap (λ b. max c.range.result.0 (count_by (λ v. int_le v b) values)) high)
