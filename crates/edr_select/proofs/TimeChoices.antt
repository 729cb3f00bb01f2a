-- The places of times that are asked.
use Rattle.std.proofs.Common.{◌≡◌, ℕ, ◌-◌, ◌<◌, List, length, ap, ap₂, sym, ◌∙◌, arith, Option, Some, None, ℤ, int_le}
use Rattle.std.specs.Prelude.{◌&&◌}
use Rattle.std.specs.List.{filter, range_with_len}
use Rattle.edr_axes.specs.declared.times.Times.{Times}
use Rattle.edr_axes.specs.declared.times.Times.TheVariants as variants
use Rattle.edr_axes.specs.Axes.{value_at}
use Rattle.edr_select.specs.Wanted.{is_from, is_until}
use Rattle.edr_select.specs.Choices.{time_places}
use Rattle.edr_select.proofs.AscendingOnce.{filter_range_agree}
use Rattle.edr_select.proofs.FoundPlaces.{all_taken}

pub all_times : (asked : Option Times) (values : List ℤ) (count : ℕ) → asked ≡ None → count ≡ length values → range_with_len 0 (count - 0) ≡ time_places asked values
all_times None values count none is = ap (range_with_len 0) (omega (arith, is)) ∙ all_taken 0 (length values)
all_times (Some times) values count none is = cc

pub all_times_had : (times : Times) (values : List ℤ) (count : ℕ) → times ≡ variants.All → count ≡ length values → range_with_len 0 (count - 0) ≡ time_places (Some times) values
all_times_had times values count all is =
    ap (range_with_len 0) (omega (arith, is)) ∙ all_taken 0 (length values) ∙ ap (λ asked. time_places (Some asked) values) (sym all)

-- sides that take a value alike
pub between_sides : (values : List ℤ) (low high : ℤ) (first last : Option ℤ) → ((k : ℕ) → k < length values → int_le low (value_at values k) ≡ is_from first (value_at values k))
    → ((k : ℕ) → k < length values → int_le (value_at values k) high ≡ is_until last (value_at values k))
    → filter (λ k. int_le low (value_at values k) && int_le (value_at values k) high) (range_with_len 0 (length values))
    ≡ filter (λ k. is_from first (value_at values k) && is_until last (value_at values k)) (range_with_len 0 (length values))
between_sides values low high first last from until =
    filter_range_agree (λ k. int_le low (value_at values k) && int_le (value_at values k) high) (λ k. is_from first (value_at values k) && is_until last (value_at values k)) 0 (length values)
    (λ k h inside. ap₂ (λ b c. b && c) (from k (omega (arith, inside))) (until k (omega (arith, inside))))
