-- Laws of the first that applies, for the proofs of callers.
use Rattle.std.proofs.Common.{◌≡◌, ℕ, inl, inr, arith}
use Rattle.std.proofs.lemmas.Bool.{cases_lt}
use Rattle.edr_base.specs.FirstThatApplies.{IsLeast}

-- two that are the least have one place in the order
pub least_rank : {F : Type 0} (rank : F → ℕ) (Applies : F → Type 0) (one other : F) → IsLeast rank Applies one → IsLeast rank Applies other → rank one ≡ rank other
least_rank rank Applies one other x y = elim (cases_lt (rank one) (rank other)) [
  | inl below ↦ absurd (y.none_before one below x.applies)
  | inr above ↦ elim (cases_lt (rank other) (rank one)) [
    | inl below ↦ absurd (x.none_before other below y.applies)
    | inr same ↦ omega (arith, above, same)
  ]
]
