use Rattle.std.proofs.Common.{◌≡◌, ◌∙◌, ap, rules, max, w64, of_z, to_z, count_by, int_lt, int_le}
use Rattle.edr_select.proofs.AxisPlaces.{between_is}
use Rattle.edr_select.proofs.Vectors.{items_equal}
use Rattle.edr_select.proofs.axis_places.places_between.Goals as goal

pub returns : goal.returns
returns c =
    let low : to_z w64 (of_z w64 c.args.low) ≡ c.args.low = search rules in
    let high : to_z w64 (of_z w64 c.args.high) ≡ c.args.high = search rules in
    items_equal c.numbers_between.result _ _
    (between_is c.args.axis.now c.args.low c.args.high c.range-first.result.0 c.range-first.result.1 c.requires
    (c.range-first.ensures.first ∙ ap (λ b. count_by (λ value. int_lt value b) c.args.axis.now) low)
    (c.range-first.ensures.end ∙ ap (λ b. max c.range-first.result.0 (count_by (λ value. int_le value b) c.args.axis.now)) high))
    c.numbers_between.ensures
