-- Which places of an axis have a value, and the values from one to another.
use Rattle.std.proofs.Common.{◌≡◌, ℕ, ◌+◌, ◌-◌, ◌<◌, ◌≤◌, max, Bool, true, false, List, [], ◌∷◌, length, count_by, Contains, refl, ap, sym, ◌∙◌, arith, inl, inr, ℤ, pos, ◌≤ℤ◌, int_lt, int_le}
use Rattle.std.specs.Prelude.{◌&&◌}
use Rattle.std.specs.Ordering.{int_eq}
use Rattle.std.specs.List.{filter, range_with_len}
use Rattle.std.proofs.lemmas.Bool.{cases_lt}
use Rattle.std.proofs.lemmas.Bool.Decides.{Decides-int_eq}
use Rattle.std.proofs.lemmas.Int.{ints}
use Rattle.std.proofs.lemmas.List.{get_or_default}
use Rattle.std.proofs.lemmas.List.Sums.{count_by-le-length}
use Rattle.edr_axes.specs.Axes.{value_at, IsAscending, IsAxis}
use Rattle.edr_axes.specs.CountLaws.{point_of_count}
use Rattle.edr_axes.specs.AxisLaws.{ascending_once, ascending_parted, at_most_parted}
use Rattle.edr_axes.specs.AxisLaws.{ascending_at_most}
use Rattle.edr_select.proofs.RunsOfPlaces.{run_is}

-- ---- one value

-- a value stands at one place
pub value_told : (values : List ℤ) (only : ℤ) (place : ℕ) → IsAscending values → place < length values → value_at values place ≡ only → (k : ℕ) → k < length values
    → int_eq (value_at values k) only ≡ true → k ≡ place
value_told values only place up in_place is k in_k passes =
    ascending_once values up k place in_k in_place ((Decides-int_eq (value_at values k) only).0 passes ∙ sym is)

pub value_found : (values : List ℤ) (only : ℤ) (place : ℕ) → IsAscending values → place < length values → value_at values place ≡ only
    → place ∷ [] ≡ filter (λ k. int_eq (value_at values k) only) (range_with_len 0 (length values))
value_found values only place up inside is =
    run_is (λ k. int_eq (value_at values k) only) (length values) place 1 (omega (arith, inside))
    (λ k within passes. let same = value_told values only place up inside is k within passes in (omega (arith, same), omega (arith, same)))
    (λ k low high. let same : k ≡ place = omega (arith, low, high) in (Decides-int_eq (value_at values k) only).1 (ap (value_at values) same ∙ is))

is_contained : (values : List ℤ) (only : ℤ) (k : ℕ) → k < length values → int_eq (value_at values k) only ≡ true → Contains values only
is_contained values only k inside passes =
    (k, inside, get_or_default values k only (pos 0) inside ∙ (Decides-int_eq (value_at values k) only).0 passes)

pub value_lacks : (values : List ℤ) (only : ℤ) → (Contains values only → ⊥) → (k : ℕ) → k < length values → int_eq (value_at values k) only ≡ false
value_lacks values only none k inside = not_true (int_eq (value_at values k) only) (λ e. none (is_contained values only k inside e))
  where
    not_true : (b : Bool) → (b ≡ true → ⊥) → b ≡ false
    not_true true h = absurd (h refl)
    not_true false h = refl

pub value_missing : (values : List ℤ) (only : ℤ) → (Contains values only → ⊥) → [] ≡ filter (λ k. int_eq (value_at values k) only) (range_with_len 0 (length values))
value_missing values only none =
    run_is (λ k. int_eq (value_at values k) only) (length values) 0 0 (omega arith)
    (λ k within passes. absurd (none (is_contained values only k within passes))) (λ k low high. absurd (omega (arith, high)))

-- ---- the values between two

abbrev is_within : List ℤ → ℤ → ℤ → ℕ → Bool
is_within values low high k = int_le low (value_at values k) && int_le (value_at values k) high

pair_true : (b c : Bool) → b ≡ true → c ≡ true → (b && c) ≡ true
pair_true b c e f = rw (e, f) refl

first_true : (b c : Bool) → (b && c) ≡ true → b ≡ true
first_true true c e = refl
first_true false c e = e

second_true : (b c : Bool) → (b && c) ≡ true → c ≡ true
second_true true c e = e
second_true false c e = cc

not_below : (a b : ℤ) → int_lt a b ≡ false → int_le b a ≡ true
not_below a b h = grind (arith, ints)

is_not_below : (a b : ℤ) → int_le b a ≡ true → int_lt a b ≡ true → ⊥
is_not_below a b h e = omega (arith, ints, h, e)

not_both : (b : Bool) → b ≡ true → b ≡ false → ⊥
not_both b t f = cc

-- of ascending values those that are below a bound come first, and so do those that are at most it
split_low : (values : List ℤ) (bound : ℤ) → IsAscending values → (k : ℕ) → k < count_by (λ value. int_lt value bound) values → int_lt (value_at values k) bound ≡ true
split_low values bound up k h = (point_of_count (λ value. int_lt value bound) values (ascending_parted values bound up)).0 k (pos 0) (omega arith) h

split_rest : (values : List ℤ) (bound : ℤ) → IsAscending values → (k : ℕ) → count_by (λ value. int_lt value bound) values ≤ k → k < length values → int_lt (value_at values k) bound ≡ false
split_rest values bound up k h inside = (point_of_count (λ value. int_lt value bound) values (ascending_parted values bound up)).1 k (pos 0) h inside

split_to : (values : List ℤ) (bound : ℤ) → IsAscending values → (k : ℕ) → k < count_by (λ value. int_le value bound) values → int_le (value_at values k) bound ≡ true
split_to values bound up k h = (point_of_count (λ value. int_le value bound) values (at_most_parted values bound up)).0 k (pos 0) (omega arith) h

split_behind : (values : List ℤ) (bound : ℤ) → IsAscending values → (k : ℕ) → count_by (λ value. int_le value bound) values ≤ k → k < length values → int_le (value_at values k) bound ≡ false
split_behind values bound up k h inside = (point_of_count (λ value. int_le value bound) values (at_most_parted values bound up)).1 k (pos 0) h inside

-- the places that `Axis::range` answers
pub between_is : (values : List ℤ) (low high : ℤ) (first end : ℕ) → IsAscending values → first ≡ count_by (λ value. int_lt value low) values
    → end ≡ max first (count_by (λ value. int_le value high) values) → range_with_len first (end - first) ≡ filter (is_within values low high) (range_with_len 0 (length values))
between_is values low high first end up first_is end_is =
    let below = count_by-le-length (λ value. int_lt value low) values in
    let to = count_by-le-length (λ value. int_le value high) values in
    run_is (is_within values low high) (length values) first (end - first) (omega (arith, first_is, end_is, below, to))
    (λ k inside passes. (
      elim (cases_lt k first) [
        | inl lt ↦ absurd (is_not_below (value_at values k) low (first_true (int_le low (value_at values k)) (int_le (value_at values k) high) passes) (split_low values low up k (omega (arith, lt, first_is))))
        | inr ge ↦ ge
      ],
      elim (cases_lt k (first + (end - first))) [
        | inl lt ↦ lt
        | inr ge ↦ absurd (not_both (int_le (value_at values k) high) (second_true (int_le low (value_at values k)) (int_le (value_at values k) high) passes) (split_behind values high up k (omega (arith, ge, end_is)) inside))
      ],
    ))
    (λ k from until. pair_true (int_le low (value_at values k)) (int_le (value_at values k) high)
    (not_below (value_at values k) low (split_rest values low up k (omega (arith, from, first_is)) (omega (arith, from, until, end_is, to))))
    (split_to values high up k (omega (arith, from, until, end_is))))

-- ---- the whole axis

least_is : (a b : ℤ) → a ≤ℤ b → int_le a b ≡ true
least_is a b h = grind (arith, ints)

pub above_least : (values : List ℤ) → IsAxis values → (k : ℕ) → k < length values → int_le (value_at values 0) (value_at values k) ≡ true
above_least values axis k inside = least_is (value_at values 0) (value_at values k) (ascending_at_most values axis.ascending 0 k (omega arith) inside)

pub below_greatest : (values : List ℤ) → IsAxis values → (k : ℕ) → k < length values → int_le (value_at values k) (value_at values (length values - 1)) ≡ true
below_greatest values axis k inside = least_is (value_at values k) (value_at values (length values - 1)) (ascending_at_most values axis.ascending k (length values - 1) (omega (arith, inside)) (omega (arith, inside)))
