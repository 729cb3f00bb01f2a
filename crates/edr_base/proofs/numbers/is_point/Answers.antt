use Rattle.std.proofs.Common.{◌≡◌, ℕ, ◌<◌, ◌≤◌, List, [], ◌∷◌, length, get_or, refl, arith}
use Rattle.std.proofs.lemmas.Bool.{eqb-true}
use Rattle.edr_base.specs.Numbers.{IsPoint}
use Rattle.edr_base.proofs.numbers.is_point.Goals as goal

point_first : (text : List ℕ) → 1 ≤ length text → IsPoint text → get_or text 0 0 ≡ 46
point_first [] some is = absurd (omega (arith, some))
point_first (point ∷ zeros) some is = is.0

no_point : (text : List ℕ) → length text < 1 → IsPoint text
no_point [] none = tt
no_point (point ∷ zeros) none = absurd (omega (arith, none))

pub returns-else-point-eq46 : goal.returns-else-point-eq46
returns-else-point-eq46 c =
    (λ e. absurd (c.if-point-eq46.false (eqb-true _ _ e)), λ is. absurd (c.if-point-eq46.false (point_first c.args.text.now c.in-len1-up.len_at_least is)))

pub returns-in-empty : goal.returns-in-empty
returns-in-empty c = (λ _. no_point c.args.text.now c.in-empty.len_below, λ _. refl)
