-- Ascending values, as a test finds them and as an axis has them.
use Rattle.std.proofs.Common.{◌≡◌, inl, inr, ℕ, zero, suc, ◌-◌, ℤ, ◌<ℤ◌, int_lt, List, [], ◌∷◌, reverse, arith, true, false, Ok, Err, refl, add-one}
use Rattle.std.proofs.lemmas.Bool.{and_parts, and_from, cases_Bool}
use Rattle.std.proofs.lemmas.Int.{ints}
use Rattle.serde_json.specs.Data.{Items, no_items, item}
use Rattle.edr_json.specs.Trees.{count_items}
use Rattle.edr_axes.specs.Axes.{value_at, IsAscending, FallsAt}
use Rattle.covjson_checks.specs.declared.faults.Member.{Member}
use Rattle.covjson_checks.specs.declared.faults.CovFault.TheVariants.{NotMonotonic}
use Rattle.covjson_domains.specs.AxisAnswers.{has_some, ascends, in_direction}
use Rattle.covjson_domains.proofs.OrderTests.{below_tells, below_given}

-- a list of no items is empty
pub has_some-empty : (ds : Items) → count_items ds ≡ 0 → has_some ds ≡ false
has_some-empty no_items h = refl
has_some-empty (item d ds) h = absurd (omega arith)

-- a list of some items has some
pub has_some-more : (ds : Items) → ¬ (count_items ds ≡ 0) → has_some ds ≡ true
has_some-more no_items h = absurd (h refl)
has_some-more (item d ds) h = refl

-- values that are tested to ascend do
pub ascends_tells : (values : List ℤ) → ascends values ≡ true → IsAscending values
ascends_tells [] h place inside = absurd (omega arith)
ascends_tells (v ∷ []) h place inside = absurd (omega arith)
ascends_tells (v ∷ (w ∷ ws)) h zero inside = below_tells v w (and_parts (int_lt v w) (ascends (w ∷ ws)) h).0
ascends_tells (v ∷ (w ∷ ws)) h (suc place) inside =
    let up : value_at (w ∷ ws) place <ℤ value_at (w ∷ ws) (suc place) = rw add-one at (ascends_tells (w ∷ ws) (and_parts (int_lt v w) (ascends (w ∷ ws)) h).1 place (omega arith)) in
    rw add-one up

-- and ascending values pass the test
pub ascends_given : (values : List ℤ) → IsAscending values → ascends values ≡ true
ascends_given [] h = refl
ascends_given (v ∷ []) h = refl
ascends_given (v ∷ (w ∷ ws)) h =
    and_from (int_lt v w) (ascends (w ∷ ws)) (below_given v w (h 0 (omega arith))) (ascends_given (w ∷ ws) (λ place inside.
    let up : value_at (w ∷ ws) place <ℤ value_at (w ∷ ws) (suc place) = rw add-one at (h (suc place) (omega arith)) in
    rw add-one up))

-- of ascending values none is at most the one before
no_fall : (values : List ℤ) (place : ℕ) → IsAscending values → ¬ (FallsAt values place)
no_fall values zero h fall = absurd (omega (arith, fall.inside.0))
no_fall values (suc place) h fall =
    let up : value_at values place <ℤ value_at values (suc place) = rw add-one at (h place (omega (arith, fall.inside.1))) in
    let back : suc place - 1 ≡ place = omega arith in
    omega (arith, ints, up, rw back at fall.falls)

-- values of which one is at most the one before don't ascend
pub fall_not : (values : List ℤ) (place : ℕ) → FallsAt values place → ascends values ≡ false
fall_not values place fall = elim (cases_Bool (ascends values)) [
  | inl up ↦ absurd (no_fall values place (ascends_tells values up) fall)
  | inr other ↦ other
]

-- ascending values are read as they stand
pub read_ahead : (m : Member) (values : List ℤ) → IsAscending values → in_direction m values ≡ Ok (record { axis = values; turned = false })
read_ahead m values h = rw (ascends_given values h) refl

-- descending values are read turned round
pub read_turned : (m : Member) (values : List ℤ) → ascends values ≡ false → IsAscending (reverse values)
    → in_direction m values ≡ Ok (record { axis = reverse values; turned = true })
read_turned m values falls h = rw (falls, ascends_given (reverse values) h) refl

-- and of values that neither ascend nor descend that is said
pub read_neither : (m : Member) (values : List ℤ) (place : ℕ) → ascends values ≡ false → FallsAt (reverse values) place
    → in_direction m values ≡ Err (NotMonotonic m)
read_neither m values place falls h = rw (falls, fall_not (reverse values) place h) refl
