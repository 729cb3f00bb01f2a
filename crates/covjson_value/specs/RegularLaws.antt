-- Laws of regular axes: what the test of `is_regular` tells of the values.
use Rattle.std.proofs.Common.{◌≡◌, ℕ, zero, suc, add-one, ◌+◌, ◌-◌, ◌*◌, ◌<◌, ◌≤◌, ℤ, pos, negsuc, neg_ℤ, ◌-ℤ◌, ◌*ℤ◌, true, List, [], ◌∷◌, length, zip, drop, All, refl, sym, ap, ◌∙◌, arith}
use Rattle.std.specs.Prelude.{nat_le, ◌&&◌}
use Rattle.std.specs.Ordering.{int_eq}
use Rattle.std.proofs.lemmas.Bool.{false≢true, and_parts, and_from, le-leb, leb-true}
use Rattle.std.proofs.lemmas.Bool.Decides.{Decides-int_eq}
use Rattle.std.proofs.lemmas.Grind.{get_or_after_one}
use Rattle.std.proofs.lemmas.Int.{ints}
use Rattle.std.proofs.lemmas.List.{ext_get_or, get_or-map, length-map, length-drop}
use Rattle.std.proofs.lemmas.List.Sums.{AllPass-from_list_all, list_all-from_AllPass}
use Rattle.std.proofs.lemmas.List.Elements.{All-from_get_or}
use Rattle.std.proofs.lemmas.Slice.Zip.{get_or-zip, length-zip}
use Rattle.std.proofs.Math.IntN.{*ℤ_comm}
use Rattle.std.proofs.Math.Nat.{eq_of_mul-eq-mul_right}
use borrow.Author.Differences.{up, down, same_in}
use Rattle.edr_base.specs.Limits.{node_limit, IsCoordinate}
use Rattle.edr_axes.specs.Axes.{value_at}
use Rattle.covjson_value.specs.declared.domains.CoordinateName.{CoordinateName}
use Rattle.covjson_value.specs.declared.domains.CoordinateName.TheVariants.{T, Z, Y, X}
use Rattle.covjson_value.specs.Coverages.{IsAxisValue}
use Rattle.covjson_value.specs.Trees.{gap, gaps, are_equal, is_regular, is_spanned}

-- three values or more, and no more than may be read from a span, all neighbours as far apart as the first two
pub record AreRegular (values : List ℤ) : Type 0 where
  pub several : 3 ≤ length values
  pub few : length values ≤ node_limit
  pub even : (place : ℕ) → place + 1 < length values → value_at values (place + 1) -ℤ value_at values place ≡ value_at values 1 -ℤ value_at values 0

-- ---- gaps

length-gaps : (values : List ℤ) → length (gaps values) ≡ length values - 1
length-gaps values = omega (arith, length-map (zip values (drop 1 values)) gap, length-zip values (drop 1 values), length-drop 1 values)

-- the gap at a place is how far the next value is from the value there
gap_at : (values : List ℤ) (place : ℕ) → place + 1 < length values → value_at (gaps values) place ≡ value_at values (place + 1) -ℤ value_at values place
gap_at values place inside =
    let after = drop 1 values in
    let next : value_at after place ≡ value_at values (place + 1) = get_or_after_one values place (pos 0) ∙ ap (value_at values) (omega arith) in
    let within : place < length (zip values after) = omega (arith, length-zip values after, length-drop 1 values) in
    let none : ℤ × ℤ = (pos 0, pos 0) in
    get_or-map gap (zip values after) place none (pos 0) within
    ∙ ap gap (get_or-zip values after place none (omega arith) (omega (arith, length-drop 1 values)))
    ∙ ap (λ (v : ℤ). v -ℤ value_at values place) next

-- of equal numbers each is the first
equal_tells : (numbers : List ℤ) → are_equal numbers ≡ true → (place : ℕ) → place < length numbers → value_at numbers place ≡ value_at numbers 0
equal_tells [] h place inside = absurd (omega arith)
equal_tells (first ∷ others) h zero inside = refl
equal_tells (first ∷ others) h (suc place) inside =
    sym ((Decides-int_eq first (value_at others place)).0 (AllPass-from_list_all (int_eq first) others h place (pos 0) (omega arith)))

equal_given : (numbers : List ℤ) → ((place : ℕ) → place < length numbers → value_at numbers place ≡ value_at numbers 0) → are_equal numbers ≡ true
equal_given [] same = refl
equal_given (first ∷ others) same =
    list_all-from_AllPass (int_eq first) others
    (All-from_get_or (λ v. int_eq first v ≡ true) others (pos 0) (λ place inside. (Decides-int_eq first (value_at others place)).1 (sym (same (suc place) (omega arith)))))

-- ---- what the test tells

pub regular_tells : (values : List ℤ) → is_regular values ≡ true → AreRegular values
regular_tells values h =
    let all = and_parts (nat_le 3 (length values) && nat_le (length values) node_limit) (are_equal (gaps values)) h in
    let counts = and_parts (nat_le 3 (length values)) (nat_le (length values) node_limit) all.0 in
    let several : 3 ≤ length values = leb-true 3 (length values) counts.0 in
    record {
      several = several;
      few = leb-true (length values) node_limit counts.1;
      even = λ place inside.
          sym (gap_at values place inside)
          ∙ equal_tells (gaps values) all.1 place (omega (arith, length-gaps values))
          ∙ gap_at values 0 (omega arith);
    }

pub regular_given : (values : List ℤ) → AreRegular values → is_regular values ≡ true
regular_given values h =
    and_from (nat_le 3 (length values) && nat_le (length values) node_limit) (are_equal (gaps values))
    (and_from (nat_le 3 (length values)) (nat_le (length values) node_limit) (le-leb 3 (length values) h.several) (le-leb (length values) node_limit h.few))
    (equal_given (gaps values) (λ place inside.
    let further : place + 1 < length values = omega (arith, length-gaps values) in
    let several = h.several in
    gap_at values place further ∙ h.even place further ∙ sym (gap_at values 0 (omega arith))))

-- a spanned axis is one of numbers, and they are regular
pub record IsSpanned (name : CoordinateName) (values : List ℤ) : Type 0 where
  pub regular : is_regular values ≡ true
  pub numbers : All (IsAxisValue name) values → All IsCoordinate values

pub spanned_tells : (name : CoordinateName) (values : List ℤ) → is_spanned name values ≡ true → IsSpanned name values
spanned_tells T values h = absurd (false≢true h)
spanned_tells Z values h = record { regular = h; numbers = λ within. within }
spanned_tells Y values h = record { regular = h; numbers = λ within. within }
spanned_tells X values h = record { regular = h; numbers = λ within. within }

-- ---- how far each value is

-- where neighbours are so far apart, the value at a place is so many steps from the first
far : (values : List ℤ) (step : ℤ) → ((place : ℕ) → place + 1 < length values → value_at values (place + 1) -ℤ value_at values place ≡ step)
    → (place : ℕ) → place < length values → value_at values place -ℤ value_at values 0 ≡ pos place *ℤ step
far values step even zero inside = omega (arith, ints)
far values step even (suc place) inside =
    let before = far values step even place (omega arith) in
    let here = rw add-one at (even place (omega arith)) in
    omega (arith, ints, before, here)

neg_mul : (m n : ℕ) → neg_ℤ (pos m) *ℤ pos n ≡ neg_ℤ (pos (m * n))
neg_mul zero n = omega (arith, ints)
neg_mul (suc m) n = omega (arith, ints)

mul_neg : (a m : ℕ) → pos a *ℤ neg_ℤ (pos m) ≡ neg_ℤ (pos (a * m))
mul_neg a zero = omega (arith, ints)
mul_neg a (suc m) = omega (arith, ints)

product_assoc : (a : ℕ) (s : ℤ) (n : ℕ) → (pos a *ℤ s) *ℤ pos n ≡ pos a *ℤ (s *ℤ pos n)
product_assoc a (pos s) n = omega (arith, ints)
product_assoc a (negsuc s) n =
    let same : a * suc s * n ≡ a * (suc s * n) = omega arith in
    neg_mul (a * suc s) n ∙ ap (λ (k : ℕ). neg_ℤ (pos k)) same ∙ sym (mul_neg a (suc s * n))

-- the value at each place is as far along from the first to the last as its place
pub regular_is_even : (values : List ℤ) → is_regular values ≡ true → (place : ℕ) → place < length values
    → (value_at values place -ℤ value_at values 0) *ℤ pos (length values - 1) ≡ pos place *ℤ (value_at values (length values - 1) -ℤ value_at values 0)
regular_is_even values h place inside =
    let regular = regular_tells values h in
    let several = regular.several in
    let step : ℤ = value_at values 1 -ℤ value_at values 0 in
    let last : ℕ = length values - 1 in
    let whole : step *ℤ pos last ≡ value_at values last -ℤ value_at values 0 = *ℤ_comm step (pos last) ∙ sym (far values step regular.even last (omega arith)) in
    ap (λ (v : ℤ). v *ℤ pos last) (far values step regular.even place inside) ∙ product_assoc place step last ∙ ap (λ (v : ℤ). pos place *ℤ v) whole

-- ---- what tells a regular list

cancel : (a b : ℤ) (n : ℕ) → 0 < n → a *ℤ pos n ≡ b *ℤ pos n → a ≡ b
cancel a b n some h =
    let same : (up a + down b) * n ≡ (up b + down a) * n = omega (arith, ints) in
    same_in a b (eq_of_mul-eq-mul_right n some (up a + down b) (up b + down a) same)

module _ (one other : List ℤ) (h : is_regular one ≡ true) (k : is_regular other ≡ true) (counts : length one ≡ length other)
    (firsts : value_at one 0 ≡ value_at other 0) (lasts : value_at one (length one - 1) ≡ value_at other (length other - 1)) where
  same_at : (place : ℕ) → place < length one → value_at one place ≡ value_at other place
  same_at place inside =
      let several = (regular_tells one h).several in
      let ours = regular_is_even one h place inside in
      let theirs = regular_is_even other k place (omega (arith, counts)) in
      let spans : value_at one (length one - 1) -ℤ value_at one 0 ≡ value_at other (length other - 1) -ℤ value_at other 0 = omega (arith, ints, firsts, lasts) in
      let turned : (value_at other place -ℤ value_at other 0) *ℤ pos (length other - 1) ≡ (value_at other place -ℤ value_at other 0) *ℤ pos (length one - 1) =
      ap (λ (n : ℕ). (value_at other place -ℤ value_at other 0) *ℤ pos (n - 1)) (sym counts) in
      let same = cancel (value_at one place -ℤ value_at one 0) (value_at other place -ℤ value_at other 0) (length one - 1) (omega arith)
      (ours ∙ ap (λ (v : ℤ). pos place *ℤ v) spans ∙ sym theirs ∙ turned) in
      omega (arith, ints, same, firsts)

  -- regular lists of one count, one first and one last value are equal
  pub regular_is_one : one ≡ other
  regular_is_one = ext_get_or (pos 0) one other counts same_at
