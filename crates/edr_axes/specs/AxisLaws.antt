-- Laws of ascending values, for the proofs of callers.
use Rattle.std.proofs.Common.{◌≡◌, inl, inr, ℕ, zero, suc, ◌+◌, ◌-◌, ◌<◌, ◌≤◌, Bool, true, ℤ, pos, negsuc, ◌<ℤ◌, ◌≤ℤ◌, int_lt, int_le, List, length, get_or, sym, subst, add-one, arith}
use Rattle.std.specs.List.{filter}
use Rattle.std.specs.List.Sorted.{IsPartitionedBy}
use Rattle.std.proofs.Math.Dec.{ltb→lt, lt→ltb}
use Rattle.std.proofs.Math.Nat.{lt_trans, le_of_suc-le, le_of_suc-le-suc, not-suc-le-zero, eq-or-lt_of_le}
use Rattle.std.proofs.lemmas.Bool.{cases_lt}
use Rattle.std.proofs.lemmas.Int.{ints}
use Rattle.std.proofs.lemmas.List.{get_or_default}
use Rattle.std.proofs.lemmas.List.Kept.{AllPairs-filter}
use Rattle.std.proofs.lemmas.List.Sums.{count_by-le-length}
use Rattle.std.specs.Int.Signed.{lt_z_yes, <ℤ_irrefl}
use Rattle.jiff_core.proofs.SignedLemmas.{signed_arith}
use Rattle.edr_axes.specs.Axes.{value_at, IsAscending, IsAxis, distance, NearestIsThere, NearestIsOne, BoundsSplitAxes}
use Rattle.edr_axes.specs.CountLaws.{passes_before, before_passes}

pub <ℤ_trans : (a b c : ℤ) → a <ℤ b → b <ℤ c → a <ℤ c
<ℤ_trans (pos a) (pos b) (pos c) h k = lt_z_yes (lt→ltb a c (lt_trans (ltb→lt a b h.lt) (ltb→lt b c k.lt)))
<ℤ_trans (pos a) (pos b) (negsuc c) h k = absurd k.lt
<ℤ_trans (pos a) (negsuc b) c h k = absurd h.lt
<ℤ_trans (negsuc a) b (pos c) h k = lt_z_yes tt
<ℤ_trans (negsuc a) (pos b) (negsuc c) h k = absurd k.lt
<ℤ_trans (negsuc a) (negsuc b) (negsuc c) h k = lt_z_yes (lt→ltb c a (lt_trans (ltb→lt c b k.lt) (ltb→lt b a h.lt)))

-- each value is below those after it
pub ascending_far : (values : List ℤ) → IsAscending values → (low high : ℕ) → low < high → high < length values → value_at values low <ℤ value_at values high
ascending_far values ascend low zero h inside = absurd (not-suc-le-zero h)
ascending_far values ascend low (suc high) h inside =
    let Inside : ℕ → Type 0 = λ k. k < length values in
    let Above : ℕ → Type 0 = λ k. value_at values high <ℤ value_at values k in
    let Below : ℕ → Type 0 = λ k. value_at values k <ℤ value_at values (suc high) in
    let step : value_at values high <ℤ value_at values (suc high) = subst Above (add-one high) (ascend high (subst Inside (sym (add-one high)) inside)) in
    elim (eq-or-lt_of_le (le_of_suc-le-suc h)) [
      | inl same ↦ subst Below (sym same) step
      | inr below ↦ <ℤ_trans (value_at values low) (value_at values high) (value_at values (suc high)) (ascending_far values ascend low high below (le_of_suc-le inside)) step
    ]

-- and at most those at its place or after it
pub ascending_at_most : (values : List ℤ) → IsAscending values → (low high : ℕ) → low ≤ high → high < length values → value_at values low ≤ℤ value_at values high
ascending_at_most values steps low high h inside =
    elim (cases_lt low high) [
      | inl lt ↦ omega (arith, signed_arith, ascending_far values steps low high lt inside)
      | inr ge ↦ (let same : high ≡ low = omega arith in rw same (omega (arith, signed_arith)))
    ]

-- a value stands at one place
pub ascending_once : (values : List ℤ) → IsAscending values → (one other : ℕ) → one < length values → other < length values → value_at values one ≡ value_at values other → one ≡ other
ascending_once values ascend one other in_one in_other same =
    elim (cases_lt one other) [
      | inl below ↦ absurd (<ℤ_irrefl (subst (λ (v : ℤ). v <ℤ value_at values other) same (ascending_far values ascend one other below in_other)))
      | inr from ↦ elim (eq-or-lt_of_le from) [
        | inl equal ↦ sym equal
        | inr above ↦ absurd (<ℤ_irrefl (subst (λ (v : ℤ). value_at values other <ℤ v) same (ascending_far values ascend other one above in_one)))
      ]
    ]

-- ---- the values that a bound splits

-- where a test that a value passes is passed by each lower one, those that pass come first
pub passing_parted : (values : List ℤ) (p : ℤ → Bool) → IsAscending values → ((a b : ℤ) → a <ℤ b → p b ≡ true → p a ≡ true) → IsPartitionedBy p values
passing_parted values p steps lower i j d along inside passes =
    elim (cases_lt i j) [
      | inl lt ↦ (let far : get_or values i d <ℤ get_or values j d = rw (get_or_default values i d (pos 0) (omega arith), get_or_default values j d (pos 0) inside) (ascending_far values steps i j lt inside) in
          lower (get_or values i d) (get_or values j d) far passes)
      | inr ge ↦ (let same : j ≡ i = omega arith in subst (λ k. p (get_or values k d) ≡ true) same passes)
    ]

below_too : (a b bound : ℤ) → a <ℤ b → int_lt b bound ≡ true → int_lt a bound ≡ true
below_too a b bound h below = grind (arith, ints)

pub ascending_parted : (values : List ℤ) (bound : ℤ) → IsAscending values → IsPartitionedBy (λ value. int_lt value bound) values
ascending_parted values bound steps = passing_parted values (λ value. int_lt value bound) steps (λ a b h below. below_too a b bound h below)

at_most_too : (a b bound : ℤ) → a <ℤ b → int_le b bound ≡ true → int_le a bound ≡ true
at_most_too a b bound h within = grind (arith, ints)

pub at_most_parted : (values : List ℤ) (bound : ℤ) → IsAscending values → IsPartitionedBy (λ value. int_le value bound) values
at_most_parted values bound steps = passing_parted values (λ value. int_le value bound) steps (λ a b h within. at_most_too a b bound h within)

pub test_below : (a bound : ℤ) → a <ℤ bound → int_lt a bound ≡ true
test_below a bound h = grind (arith, ints)

below_test : (a bound : ℤ) → int_lt a bound ≡ true → a <ℤ bound
below_test a bound h = grind (arith, ints)

pub test_at_most : (a bound : ℤ) → a ≤ℤ bound → int_le a bound ≡ true
test_at_most a bound h = grind (arith, ints)

pub at_most_test : (a bound : ℤ) → int_le a bound ≡ true → a ≤ℤ bound
at_most_test a bound h = grind (arith, ints)

-- those below a bound stand first, and so do those that are at most it
pub bounds_split_axes : BoundsSplitAxes
bounds_split_axes values bound ascend =
    let below : ℤ → Bool = λ value. int_lt value bound in
    let at_most : ℤ → Bool = λ value. int_le value bound in
    let below_first = ascending_parted values bound ascend in
    let at_most_first = at_most_parted values bound ascend in
    record {
      below = λ place. (
        λ h. passes_before below values place (pos 0) below_first h.0 (test_below (value_at values place) bound h.1),
        λ lt. (omega (arith, lt, count_by-le-length below values), below_test (value_at values place) bound (before_passes below values place (pos 0) below_first lt)),
      );
      at_most = λ place. (
        λ h. passes_before at_most values place (pos 0) at_most_first h.0 (test_at_most (value_at values place) bound h.1),
        λ lt. (omega (arith, lt, count_by-le-length at_most values), at_most_test (value_at values place) bound (before_passes at_most values place (pos 0) at_most_first lt)),
      );
    }

-- ---- some of the values

-- those that pass a test ascend
pub ascending_filter : (test : ℤ → Bool) (values : List ℤ) → IsAscending values → IsAscending (filter test values)
ascending_filter test values ascend place inside =
    AllPairs-filter (λ a b. a <ℤ b) test values (λ low high d lt within. rw (get_or_default values low d (pos 0) (omega arith), get_or_default values high d (pos 0) within) (ascending_far values ascend low high lt within))
    place (place + 1) (pos 0) (omega arith) inside

-- and are an axis, where there are some
pub axis_filter : (test : ℤ → Bool) (values : List ℤ) → IsAxis values → 0 < length (filter test values) → IsAxis (filter test values)
axis_filter test values axis some = record { some = some; ascending = ascending_filter test values axis.ascending }

-- ---- the nearest value

-- the nearest of the first so many values
record IsNearestOf (values : List ℤ) (c : ℤ) (many place : ℕ) : Type 0 where
  inside : place < many
  least : (other : ℕ) → other < many → distance (value_at values place) c ≤ distance (value_at values other) c
  lower : (other : ℕ) → other < place → distance (value_at values place) c < distance (value_at values other) c

nearest_first : (values : List ℤ) (c : ℤ) → IsNearestOf values c 1 0
nearest_first values c = record {
  inside = omega arith;
  least = λ other inside. (let same : other ≡ 0 = omega arith in rw same (omega arith));
  lower = λ other lower. absurd (omega arith);
}

-- the next value is nearer than those before it
nearer_next : (values : List ℤ) (c : ℤ) (many place : ℕ) → IsNearestOf values c many place
    → distance (value_at values many) c < distance (value_at values place) c → IsNearestOf values c (suc many) many
nearer_next values c many place near nearer = record {
  inside = omega arith;
  least = λ other inside. elim (cases_lt other many) [
    | inl lt ↦ omega (arith, nearer, near.least other lt)
    | inr ge ↦ (let same : other ≡ many = omega arith in rw same (omega arith))
  ];
  lower = λ other lt. omega (arith, nearer, near.least other lt);
}

-- or it isn't
as_near_next : (values : List ℤ) (c : ℤ) (many place : ℕ) → IsNearestOf values c many place
    → distance (value_at values place) c ≤ distance (value_at values many) c → IsNearestOf values c (suc many) place
as_near_next values c many place near farther = record {
  inside = omega (arith, near.inside);
  least = λ other inside. elim (cases_lt other many) [
    | inl lt ↦ near.least other lt
    | inr ge ↦ (let same : other ≡ many = omega arith in rw same farther)
  ];
  lower = near.lower;
}

nearest_of : (values : List ℤ) (c : ℤ) (many : ℕ) → (place : ℕ) × IsNearestOf values c (suc many) place
nearest_of values c zero = (0, nearest_first values c)
nearest_of values c (suc many) =
    let (place, near) = nearest_of values c many in
    elim (cases_lt (distance (value_at values (suc many)) c) (distance (value_at values place) c)) [
      | inl nearer ↦ (suc many, nearer_next values c (suc many) place near nearer)
      | inr farther ↦ (place, as_near_next values c (suc many) place near farther)
    ]

-- there is one
pub nearest_is_there : NearestIsThere
nearest_is_there values c axis =
    let some = axis.some in
    let many : suc (length values - 1) ≡ length values = omega arith in
    let (place, near) = subst (λ (n : ℕ). (place : ℕ) × IsNearestOf values c n place) many (nearest_of values c (length values - 1)) in
    (place, record { inside = near.inside; least = near.least; lower = near.lower })

-- and only one
pub nearest_is_one : NearestIsOne
nearest_is_one values c place other x y =
    elim (cases_lt place other) [
      | inl lt ↦ absurd (omega (arith, x.least other y.inside, y.lower place lt))
      | inr ge ↦ elim (cases_lt other place) [
        | inl lt ↦ absurd (omega (arith, y.least place x.inside, x.lower other lt))
        | inr le ↦ omega arith
      ]
    ]
