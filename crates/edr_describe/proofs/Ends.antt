-- The least and the greatest value of an axis stand at its ends.
use Rattle.std.proofs.Common.{◌≡◌, ℕ, suc, ◌+◌, ◌-◌, ℤ, pos, ◌<ℤ◌, List, [], ◌∷◌, length, All, refl, ap, sym, ◌∙◌, subst, arith}
use Rattle.std.proofs.lemmas.Int.{ints}
use Rattle.std.proofs.lemmas.List.Elements.{All-get_or}
use Rattle.edr_axes.specs.Axes.{value_at, IsAscending, IsAxis}
use Rattle.edr_axes.specs.Instants.{IsTime}
use Rattle.edr_axes.specs.AxisLaws.{ascending_far}
use Rattle.edr_edition.specs.Values.{InstanceValue}
use Rattle.edr_edition.specs.Instances.{IsInstance, InstancesHaveGrids}
use Rattle.edr_describe.specs.Extents.{lower, higher, least, greatest}

-- the values behind the first ascend too
behind : (v : ℤ) (values : List ℤ) → IsAscending (v ∷ values) → IsAscending values
behind v values ascend place inside =
    let Next : ℕ → Type 0 = λ k. value_at values place <ℤ value_at (v ∷ values) k in
    let same : suc place + 1 ≡ suc (place + 1) = omega arith in
    subst Next same (ascend (suc place) (omega (arith, inside)))

lower_is : (a b : ℤ) → a <ℤ b → lower a b ≡ a
lower_is a b h = grind (arith, ints)

higher_is : (a b : ℤ) → a <ℤ b → higher a b ≡ b
higher_is a b h = grind (arith, ints)

pub least_first : (values : List ℤ) → IsAxis values → least values ≡ value_at values 0
least_first [] axis = absurd (omega (arith, axis.some))
least_first (v ∷ []) axis = refl
least_first (v ∷ (w ∷ values)) axis =
    let rest : IsAxis (w ∷ values) = record { some = omega arith; ascending = behind v (w ∷ values) axis.ascending } in
    ap (lower v) (least_first (w ∷ values) rest) ∙ lower_is v w (axis.ascending 0 (omega arith))

pub greatest_last : (values : List ℤ) → IsAxis values → greatest values ≡ value_at values (length values - 1)
greatest_last [] axis = absurd (omega (arith, axis.some))
greatest_last (v ∷ []) axis = refl
greatest_last (v ∷ (w ∷ values)) axis =
    let rest : IsAxis (w ∷ values) = record { some = omega arith; ascending = behind v (w ∷ values) axis.ascending } in
    let inner : length (w ∷ values) - 1 ≡ length values = omega arith in
    let outer : length (v ∷ (w ∷ values)) - 1 ≡ suc (length values) = omega arith in
    let last : greatest (w ∷ values) ≡ value_at (w ∷ values) (length values) =
    greatest_last (w ∷ values) rest ∙ ap (value_at (w ∷ values)) inner in
    let above : v <ℤ value_at (w ∷ values) (length values) =
    ascending_far (v ∷ (w ∷ values)) axis.ascending 0 (suc (length values)) (omega arith) (omega arith) in
    ap (higher v) last ∙ higher_is v (value_at (w ∷ values) (length values)) above ∙ sym (ap (value_at (v ∷ (w ∷ values))) outer)

-- an instance's times are within their limits
pub times_within : InstancesHaveGrids → (i : InstanceValue) → IsInstance i → All IsTime i.ts
times_within law i is = (law i is).ts.within

-- ---- times within their limits

pub least_time : (values : List ℤ) → IsAxis values → All IsTime values → IsTime (least values)
least_time values axis all = rw (least_first values axis) (All-get_or IsTime values 0 (pos 0) axis.some all)

pub greatest_time : (values : List ℤ) → IsAxis values → All IsTime values → IsTime (greatest values)
greatest_time values axis all = rw (greatest_last values axis) (All-get_or IsTime values (length values - 1) (pos 0) (omega (arith, axis.some)) all)
