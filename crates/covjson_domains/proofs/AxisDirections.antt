-- Axes as they stand and turned round: the answer is the ascending one of the two.
use Rattle.std.proofs.Common.{◌≡◌, ◌+◌, ◌-◌, if◌then◌else◌, ◌<◌, ◌<ℤ◌, ℤ, pos, List, [], ◌∷◌, length, reverse, All, Bool, true, false, Ok, Err, refl, ap, ◌∙◌, subst, arith}
use Rattle.std.proofs.lemmas.Bool.{false_from_ne_true}
use Rattle.std.proofs.lemmas.Int.{ints}
use Rattle.std.proofs.lemmas.List.{get_or-reverse, length-reverse, reverse-reverse}
use Rattle.std.proofs.lemmas.List.Elements.{All-get_or, All-from_get_or}
use Rattle.edr_axes.specs.Axes.{value_at, IsAscending, IsAxis}
use Rattle.covjson_domains.specs.declared.axes.ReadAxis.{ReadAxis}
use Rattle.covjson_checks.specs.declared.faults.Member.{Member}
use Rattle.covjson_checks.specs.declared.faults.CovFault.TheVariants.{NotMonotonic}
use Rattle.covjson_domains.specs.Axes.{turned_if}
use Rattle.covjson_domains.specs.AxisAnswers.{ascends, in_direction}
use Rattle.covjson_domains.proofs.AscendLemmas.{ascends_tells, ascends_given}

-- ---- turned round

-- what holds of each value holds of each from the last to the first
All-reverse : {V : Type 0} (P : V → Type 0) (vs : List V) (d : V) → All P vs → All P (reverse vs)
All-reverse P vs d h = All-from_get_or P (reverse vs) d (λ k inside.
    let within : k < length vs = omega (arith, length-reverse vs) in
    rw (get_or-reverse vs k d within) (All-get_or P vs (length vs - 1 - k) d (omega arith) h))

-- what holds of each value holds of each where they are turned round
pub all_turned : (P : ℤ → Type 0) (turned : Bool) (values : List ℤ) → All P values → All P (turned_if turned values)
all_turned P false values h = h
all_turned P true values h = All-reverse P values (pos 0) h

-- and there are as many
pub length_turned : (turned : Bool) (values : List ℤ) → length (turned_if turned values) ≡ length values
length_turned false values = refl
length_turned true values = length-reverse values

-- turned round twice they are as they were
pub turned_back : (turned : Bool) (values : List ℤ) → turned_if turned (turned_if turned values) ≡ values
turned_back false values = refl
turned_back true values = reverse-reverse values

-- several ascending values don't ascend when they are turned round
not_both : (v : List ℤ) → 1 < length v → IsAscending v → IsAscending (reverse v) → ⊥
not_both v several a b =
    let n = length v in
    let first : value_at (reverse v) 0 ≡ value_at v (n - 2 + 1) = get_or-reverse v 0 (pos 0) (omega arith) ∙ ap (value_at v) (omega arith) in
    let second : value_at (reverse v) (0 + 1) ≡ value_at v (n - 2) = get_or-reverse v (0 + 1) (pos 0) (omega arith) ∙ ap (value_at v) (omega arith) in
    let rises : value_at v (n - 2) <ℤ value_at v (n - 2 + 1) = a (n - 2) (omega arith) in
    let turned : value_at (reverse v) 0 <ℤ value_at (reverse v) (0 + 1) = b 0 (omega (arith, length-reverse v)) in
    absurd (omega (arith, ints))

-- values that don't ascend are several
falls_several : (values : List ℤ) → ascends values ≡ false → 1 < length values
falls_several [] h = cc
falls_several (a ∷ []) h = cc
falls_several (a ∷ (b ∷ values)) h = omega arith

-- ---- the answer

-- an axis that is read: ascending values, those of the tree as they stand or turned round
pub record IsInDirection (values : List ℤ) (r : ReadAxis) : Type 0 where
  pub ascending : IsAxis r.axis
  pub several : r.turned ≡ true → 1 < length r.axis
  pub held : turned_if r.turned r.axis ≡ values

-- an axis, and whether it was turned round
abbrev pub read_as : List ℤ → Bool → ReadAxis
read_as values turned = record { axis = values; turned = turned }

-- by the two tests
directed : (b c : Bool) (m : Member) (values : List ℤ) (r : ReadAxis) → ascends values ≡ b → ascends (reverse values) ≡ c → 0 < length values
    → (if b then Ok (read_as values false) else if c then Ok (read_as (reverse values) true) else Err (NotMonotonic m)) ≡ Ok r
    → IsInDirection values r
directed true c m values r rises turned some h =
    let same : read_as values false ≡ r = cc in
    subst (IsInDirection values) same (record { ascending = record { some = some; ascending = ascends_tells values rises }; several = λ no. cc; held = refl })
directed false true m values r falls rises some h =
    let same : read_as (reverse values) true ≡ r = cc in
    let several : 1 < length (reverse values) = omega (arith, length-reverse values, falls_several values falls) in
    subst (IsInDirection values) same (record {
      ascending = record { some = omega arith; ascending = ascends_tells (reverse values) rises };
      several = λ yes. several;
      held = reverse-reverse values;
    })
directed false false m values r falls falls_too some h = cc

-- the answer holds the values in that direction
pub direction_tells : (m : Member) (values : List ℤ) (r : ReadAxis) → 0 < length values → in_direction m values ≡ Ok r → IsInDirection values r
direction_tells m values r some h = directed (ascends values) (ascends (reverse values)) m values r refl refl some h

-- and values that ascend in one of the two directions are the answer
pub direction_given : (m : Member) (turned : Bool) (values : List ℤ) → IsAxis values → (turned ≡ true → 1 < length values)
    → in_direction m (turned_if turned values) ≡ Ok (record { axis = values; turned = turned })
direction_given m false values axis several = rw (ascends_given values axis.ascending)
direction_given m true values axis several =
    let rises : ascends (reverse (reverse values)) ≡ true = rw (reverse-reverse values) (ascends_given values axis.ascending) in
    let falls : ascends (reverse values) ≡ false = false_from_ne_true (ascends (reverse values)) (λ up. not_both values (several refl) axis.ascending (ascends_tells (reverse values) up)) in
    rw (falls, rises, reverse-reverse values)
