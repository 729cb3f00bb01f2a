use Rattle.std.proofs.Common.{◌≡◌, ◌∙◌, ◌<◌, ℕ, List, length, sym, ap, subst, rules, int_le, ℤ, Some, w64, of_z, to_z}
use Rattle.edr_axes.specs.Axes.{value_at}
use Rattle.edr_select.specs.Wanted.{is_from, is_until}
use Rattle.edr_select.specs.Choices.{time_places}
use Rattle.edr_select.proofs.TimeChoices.{all_times_had, between_sides}
use Rattle.edr_select.proofs.Vectors.{items_equal}
use Rattle.edr_select.proofs.chosen_times.places_of_times.Goals as goal

pub returns-in-All : goal.returns-in-All
returns-in-All c =
    items_equal c.numbers_between.result _ _ (all_times_had c.args.times c.args.axis.now (length c.values-values.result.now) c.in-All.is (ap (λ (vs : List ℤ). length vs) c.values-values.ensures.same)) c.numbers_between.ensures

pub returns-in-Between : goal.returns-in-Between
returns-in-Between c =
    let same = c.values-values.ensures.same in
    let low : to_z w64 (of_z w64 c.first_from.result) ≡ c.first_from.result = search rules in
    let high : to_z w64 (of_z w64 c.last_until.result) ≡ c.last_until.result = search rules in
    let from = subst (λ (vs : List ℤ). (k : ℕ) → k < length vs → int_le c.first_from.result (value_at vs k) ≡ is_from c.in-Between.first (value_at vs k)) same c.first_from.ensures in
    let until = subst (λ (vs : List ℤ). (k : ℕ) → k < length vs → int_le (value_at vs k) c.last_until.result ≡ is_until c.in-Between.last (value_at vs k)) same c.last_until.ensures in
    items_equal c.places_between.result _ _
    (between_sides c.args.axis.now (to_z w64 (of_z w64 c.first_from.result)) (to_z w64 (of_z w64 c.last_until.result)) c.in-Between.first c.in-Between.last
    (λ k inside. ap (λ v. int_le v (value_at c.args.axis.now k)) low ∙ from k inside)
    (λ k inside. ap (λ v. int_le (value_at c.args.axis.now k) v) high ∙ until k inside)
    ∙ ap (λ times. time_places (Some times) c.args.axis.now) (sym c.in-Between.is))
    c.places_between.ensures
