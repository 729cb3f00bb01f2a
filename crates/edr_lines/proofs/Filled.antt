-- A list of one value, as long as is asked.
use Rattle.std.proofs.Common.{◌≡◌, ℕ, ◌-◌, ◌++◌, Bool, List, [], take, take_all, replicate, ap, ap₂, ◌∙◌, arith}

pub filled : (value : Bool) (count many was : ℕ) (old items : List Bool) → old ≡ [] → was ≡ 0 → count ≡ many → items ≡ take count old ++ replicate (count - was) value → items ≡ replicate many value
filled value count many was old items empty none same is =
    is ∙ ap₂ (λ (l : List Bool) (n : ℕ). l ++ replicate n value) (ap (take count) empty ∙ take_all count [] (omega arith)) (omega (arith, none, same))
