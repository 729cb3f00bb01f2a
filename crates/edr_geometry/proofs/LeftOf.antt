-- The places left of a bound come first.
use Rattle.std.proofs.Common.{◌≡◌, arith, true, subst, inl, inr, ℤ, pos, ◌<ℤ◌, int_lt, List, get_or}
use Rattle.std.proofs.lemmas.Bool.{cases_lt}
use Rattle.std.proofs.lemmas.Int.{ints}
use Rattle.std.specs.List.Sorted.{IsPartitionedBy}
use Rattle.std.proofs.lemmas.List.{get_or_default}
use Rattle.edr_axes.specs.Axes.{IsAscending}
use Rattle.edr_axes.specs.AxisLaws.{ascending_far}

left_too : (a b bound : ℤ) → a <ℤ b → int_lt b bound ≡ true → int_lt a bound ≡ true
left_too a b bound h left = grind (arith, ints)

pub left_parted : (xs : List ℤ) (bound : ℤ) → IsAscending xs → IsPartitionedBy (λ x. int_lt x bound) xs
left_parted xs bound ascends i j d along inside passes =
    elim (cases_lt i j) [
      | inl lt ↦ (let far : get_or xs i d <ℤ get_or xs j d = rw (get_or_default xs i d (pos 0) (omega arith), get_or_default xs j d (pos 0) inside) (ascending_far xs ascends i j lt inside) in
          left_too (get_or xs i d) (get_or xs j d) bound far passes)
      | inr ge ↦ (let same : j ≡ i = omega arith in subst (λ k. int_lt (get_or xs k d) bound ≡ true) same passes)
    ]
