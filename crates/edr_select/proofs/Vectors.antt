-- A call that gives a vector, whose items are told in another way.
use Rattle.std.proofs.Common.{◌≡◌, ◌∙◌, List, ℕ, Vec, Global}
use Rattle.std.specs.Prelude.{IfOk, Result}
use Rattle.std.proofs.lemmas.Result.{IfOk-weaker}

pub items_equal : {E : Type 0} (r : Result (Vec ℕ Global) E) (xs ys : List ℕ) → xs ≡ ys → IfOk r (λ v. v.items ≡ xs) → IfOk r (λ v. v.items ≡ ys)
items_equal r xs ys same h = IfOk-weaker r (λ v. v.items ≡ xs) (λ v. v.items ≡ ys) (λ v e. e ∙ same) h
