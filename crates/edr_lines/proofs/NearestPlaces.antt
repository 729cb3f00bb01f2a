-- The place of the nearest value of an axis: there is one, it holds that value, and it never falls where numbers don't.
use Rattle.std.proofs.Common.{◌≡◌, ℕ, zero, suc, ◌+◌, ◌-◌, ◌<◌, ◌≤◌, Bool, true, false, cond, List, [], ◌∷◌, length, refl, ap, sym, ◌∙◌, arith, inl, inr, ℤ, pos, ◌<ℤ◌, ◌≤ℤ◌, int_le, Some, None}
use Rattle.std.specs.declared.option.Option.{Option}
use Rattle.std.specs.Prelude.{◌&&◌, ◌⊎◌, unwrap_or, option_map}
use Rattle.std.specs.List.{find, range_with_len}
use Rattle.std.proofs.lemmas.Bool.{cases_lt, false_from_ne_true}
use Rattle.std.proofs.lemmas.Int.{ints}
use Rattle.std.proofs.lemmas.List.{get_or_default}
use Rattle.edr_axes.specs.Axes.{value_at, distance, IsAxis, IsAscending, IsNearest}
use Rattle.edr_axes.specs.AxisLaws.{ascending_far, nearest_is_there}
use Rattle.edr_select.specs.AlongLaws.{along_is}
use Rattle.edr_select.specs.NearestLaws.{test_from_nearest, only_nearest}
use Rattle.edr_select.specs.Lines.{nearest, is_along_if}
use Rattle.edr_select.specs.Wanted.{is_along, is_nearest}
use Rattle.edr_select.specs.ListLaws.{Each, find_each, any_member}
use Rattle.edr_lines.specs.Vertices.{nearest_place, place_along, place_where}

-- ---- the only number that passes is found

pub find_only : (t : ℕ → Bool) (a n k : ℕ) → a ≤ k → k < a + n → t k ≡ true → ((l : ℕ) → a ≤ l → l < a + n → t l ≡ true → l ≡ k)
    → find t (range_with_len a n) ≡ Some k
find_only t a zero k low high h only = absurd (omega arith)
find_only t a (suc n) k low high h only =
    elim (order a k low) [
      | inl e ↦ ap (λ b. cond b (Some a) (find t (range_with_len (a + 1) n))) (ap t e ∙ h) ∙ ap Some e
      | inr lt ↦ ap (λ b. cond b (Some a) (find t (range_with_len (a + 1) n)))
          (false_from_ne_true (t a) (λ p. absurd (omega (arith, lt, only a (omega arith) (omega arith) p))))
          ∙ find_only t (a + 1) n k (omega arith) (omega arith) h (λ l low high. only l (omega arith) (omega arith))
    ]
  where
    order : (a k : ℕ) → a ≤ k → (a ≡ k) ⊎ (a < k)
    order a k h = grind arith

each_at : (P : ℤ → Type 0) (xs : List ℤ) → ((k : ℕ) → k < length xs → P (value_at xs k)) → Each P xs
each_at P [] h = tt
each_at P (x ∷ xs) h = (h 0 (omega arith), each_at P xs (λ k inside. h (suc k) (omega arith)))

-- ---- the nearest

pub nearest_place_is : (values : List ℤ) (c : ℤ) (place : ℕ) → IsAscending values → IsNearest values c place → nearest_place values c ≡ place
nearest_place_is values c place ascend n =
    ap (λ (o : Option ℕ). unwrap_or o 0)
    (find_only (λ k. is_nearest values c (value_at values k)) 0 (length values) place (omega arith) (omega (arith, n.inside)) (test_from_nearest values c place ascend n)
    (λ l low high h. only_nearest values c place l ascend n (omega (arith, high)) h))

-- it is the nearest
pub is_the_nearest : (values : List ℤ) (c : ℤ) → IsAxis values → IsNearest values c (nearest_place values c)
is_the_nearest values c axis =
    let (place, n) = nearest_is_there values c axis in
    at_place place n
  where
    at_place : (place : ℕ) → IsNearest values c place → IsNearest values c (nearest_place values c)
    at_place place n = rw (nearest_place_is values c place axis.ascending n) n

pub nearest_inside : (values : List ℤ) (c : ℤ) → IsAxis values → nearest_place values c < length values
nearest_inside values c axis = (is_the_nearest values c axis).inside

-- the value at it is the nearest value
pub nearest_value : (values : List ℤ) (c : ℤ) → IsAxis values → nearest values c ≡ value_at values (nearest_place values c)
nearest_value values c axis =
    unwrapped (find (is_nearest values c) values)
    (find_each (is_nearest values c) (λ v. v) (value_at values place) values each
    (any_member (is_nearest values c) values (value_at values place) (place, n.inside, get_or_default values place (value_at values place) (pos 0) n.inside) (test_from_nearest values c place axis.ascending n)))
  where
    place : ℕ
    place = nearest_place values c

    n : IsNearest values c place
    n = is_the_nearest values c axis

    unwrapped : (o : Option ℤ) → option_map (λ v. v) o ≡ Some (value_at values place) → unwrap_or o c ≡ value_at values place
    unwrapped None e = cc
    unwrapped (Some v) e = some_same e
      where
        some_same : {a b : ℤ} → Some a ≡ Some b → a ≡ b
        some_same e = cc

    each : Each (λ v. is_nearest values c v ≡ true → v ≡ value_at values place) values
    each = each_at (λ v. is_nearest values c v ≡ true → v ≡ value_at values place) values (λ k inside h. ap (value_at values) (only_nearest values c place k axis.ascending n inside h))

-- ---- it never falls

apart : (low high c d : ℤ) → low <ℤ high → c ≤ℤ d → distance high c < distance low c → distance low d ≤ distance high d → ⊥
apart low high c d lt le near far = omega (arith, ints)

pub nearest_rises : (values : List ℤ) (c d : ℤ) → IsAxis values → c ≤ℤ d → nearest_place values c ≤ nearest_place values d
nearest_rises values c d axis le =
    let n = is_the_nearest values c axis in
    let m = is_the_nearest values d axis in
    elim (cases_lt (nearest_place values d) (nearest_place values c)) [
      | inl lt ↦ absurd (apart (value_at values (nearest_place values d)) (value_at values (nearest_place values c)) c d
          (ascending_far values axis.ascending (nearest_place values d) (nearest_place values c) lt n.inside) le (n.lower (nearest_place values d) lt) (m.least (nearest_place values c) n.inside))
      | inr ge ↦ ge
    ]

-- ---- where vertices have the coordinate

-- the nearest place, and 0 where they don't have it or there is no axis
abbrev pub place_if : Bool → Option (List ℤ) → ℤ → ℕ
place_if false axis c = 0
place_if true None c = 0
place_if true (Some values) c = nearest_place values c

pub where_is : (has : Bool) (axis : Option (List ℤ)) (c : ℤ) → place_where has axis c ≡ cond (is_along_if has axis c) (Some (place_if has axis c)) None
where_is false axis c = refl
where_is true None c = refl
where_is true (Some values) c = refl

-- ---- what the code tests

pub from_first : (values : List ℤ) (c : ℤ) → IsAxis values → int_le (value_at values 0) c ≡ true → int_le c (value_at values (length values - 1)) ≡ is_along values c
from_first values c axis h = sym (ap (λ b. b && int_le c (value_at values (length values - 1))) h) ∙ along_is values c axis

pub before_first : (values : List ℤ) (c : ℤ) → IsAxis values → int_le (value_at values 0) c ≡ false → int_le (value_at values 0) c ≡ is_along values c
before_first values c axis h = h ∙ (sym (ap (λ b. b && int_le c (value_at values (length values - 1))) h) ∙ along_is values c axis)

pub place_found : (values : List ℤ) (c : ℤ) (place : ℕ) → IsAxis values → IsNearest values c place → is_along values c ≡ true → Some place ≡ place_along values c
place_found values c place axis n h =
    ap Some (sym (nearest_place_is values c place axis.ascending n)) ∙ sym (ap (λ b. cond b (Some (nearest_place values c)) None) h)
