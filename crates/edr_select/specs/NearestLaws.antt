-- The nearest value of an axis: from its place to the test, and only its place passes.
use Rattle.std.proofs.Common.{◌≡◌, ℕ, zero, suc, ◌<◌, ◌≤◌, Bool, true, false, List, [], ◌∷◌, length, refl, ap, sym, ◌∙◌, arith, inl, inr, ℤ, ◌≤ℤ◌, int_lt}
use Rattle.std.specs.Prelude.{◌&&◌, ◌||◌, not, nat_lt, nat_le}
use Rattle.std.specs.List.{list_all}
use Rattle.std.proofs.lemmas.Bool.{cases_lt}
use Rattle.std.proofs.lemmas.Bool.Decides.{nat_tests}
use Rattle.std.proofs.lemmas.Int.{ints}
use Rattle.edr_axes.specs.Axes.{value_at, distance, IsAscending, IsNearest}
use Rattle.edr_axes.specs.AxisLaws.{ascending_far, test_below}
use Rattle.edr_axes.specs.AxisLaws.{nearest_is_one}
use Rattle.edr_select.specs.Wanted.{is_nearest}

abbrev closer : ℤ → ℤ → ℤ → Bool
closer c value other = nat_le (distance value c) (distance other c) && (not (int_lt other value) || nat_lt (distance value c) (distance other c))

all_at : (t : ℤ → Bool) (xs : List ℤ) → list_all t xs ≡ true → (k : ℕ) → k < length xs → t (value_at xs k) ≡ true
all_at t [] h k inside = absurd (omega arith)
all_at t (x ∷ xs) h zero inside = first (t x) (list_all t xs) h
  where
    first : (b c : Bool) → (b && c) ≡ true → b ≡ true
    first true c e = refl
    first false c e = e
all_at t (x ∷ xs) h (suc k) inside = all_at t xs (second (t x) (list_all t xs) h) k (omega arith)
  where
    second : (b c : Bool) → (b && c) ≡ true → c ≡ true
    second true c e = e
    second false c e = cc

all_from : (t : ℤ → Bool) (xs : List ℤ) → ((k : ℕ) → k < length xs → t (value_at xs k) ≡ true) → list_all t xs ≡ true
all_from t [] h = refl
all_from t (x ∷ xs) h = both (t x) (list_all t xs) (h 0 (omega arith)) (all_from t xs (λ k inside. h (suc k) (omega arith)))
  where
    both : (b c : Bool) → b ≡ true → c ≡ true → (b && c) ≡ true
    both b c e f = rw (e, f) refl

least_of : (a b : ℕ) (lower : Bool) → (nat_le a b && (not lower || nat_lt a b)) ≡ true → a ≤ b
least_of a b lower h = grind (arith, nat_tests)

lower_of : (a b : ℕ) (lower : Bool) → lower ≡ true → (nat_le a b && (not lower || nat_lt a b)) ≡ true → a < b
lower_of a b lower e h = grind (arith, nat_tests)

closer_from : (a b : ℕ) (lower : Bool) → a ≤ b → (lower ≡ true → a < b) → (nat_le a b && (not lower || nat_lt a b)) ≡ true
closer_from a b true le lt = let l = lt refl in grind (arith, nat_tests)
closer_from a b false le lt = grind (arith, nat_tests)

not_lower : (a b : ℤ) → b ≤ℤ a → int_lt a b ≡ true → ⊥
not_lower a b h e = omega (arith, ints, h, e)

-- a value that passes is the nearest
pub nearest_from_test : (values : List ℤ) (c : ℤ) (k : ℕ) → IsAscending values → k < length values → is_nearest values c (value_at values k) ≡ true → IsNearest values c k
nearest_from_test values c k ascend inside h = record {
  inside = inside;
  least = λ other inner. least_of (distance (value_at values k) c) (distance (value_at values other) c) (int_lt (value_at values other) (value_at values k)) (all_at (closer c (value_at values k)) values h other inner);
  lower = λ other lt. lower_of (distance (value_at values k) c) (distance (value_at values other) c) (int_lt (value_at values other) (value_at values k))
      (test_below (value_at values other) (value_at values k) (ascending_far values ascend other k lt inside)) (all_at (closer c (value_at values k)) values h other (omega arith));
}

-- the nearest value passes
pub test_from_nearest : (values : List ℤ) (c : ℤ) (k : ℕ) → IsAscending values → IsNearest values c k → is_nearest values c (value_at values k) ≡ true
test_from_nearest values c k ascend n =
    all_from (closer c (value_at values k)) values (λ other inner.
    closer_from (distance (value_at values k) c) (distance (value_at values other) c) (int_lt (value_at values other) (value_at values k)) (n.least other inner) (λ e. elim (cases_lt other k) [
      | inl lt ↦ n.lower other lt
      | inr ge ↦ absurd (later values c k other ascend inner ge e)
    ]))
  where
    later : (values : List ℤ) (c : ℤ) (k other : ℕ) → IsAscending values → other < length values → k ≤ other → int_lt (value_at values other) (value_at values k) ≡ true → ⊥
    later values c k other ascend inner ge e = elim (cases_lt k other) [
      | inl lt ↦ not_lower (value_at values other) (value_at values k) (omega (arith, ints, ascending_far values ascend k other lt inner)) e
      | inr le ↦ (let same : other ≡ k = omega arith in not_lower (value_at values k) (value_at values k) (omega (arith, ints)) (sym (ap (λ j. int_lt (value_at values j) (value_at values k)) same) ∙ e))
    ]

-- only the nearest passes
pub only_nearest : (values : List ℤ) (c : ℤ) (place k : ℕ) → IsAscending values → IsNearest values c place → k < length values → is_nearest values c (value_at values k) ≡ true → k ≡ place
only_nearest values c place k ascend n inside h = nearest_is_one values c k place (nearest_from_test values c k ascend inside h) n
