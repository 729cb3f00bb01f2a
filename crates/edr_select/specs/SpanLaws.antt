-- The values of an axis from the least to the greatest that occurs, by their places.
use Rattle.std.proofs.Common.{◌≡◌, ℕ, ◌+◌, ◌-◌, ◌<◌, ◌≤◌, Bool, true, false, List, [], ◌∷◌, ◌++◌, length, refl, ap, ap₂, ◌∙◌, arith, inl, inr, zero-add, ℤ, int_le, append-nil}
use Rattle.std.specs.Prelude.{map, ◌&&◌}
use Rattle.std.specs.List.{filter, list_any, range_with_len}
use Rattle.std.proofs.lemmas.Bool.{cases_lt, false_from_ne_true}
use Rattle.std.proofs.lemmas.Int.{ints}
use Rattle.std.proofs.lemmas.List.Elements.{filter-append}
use Rattle.edr_axes.specs.Axes.{value_at, IsAscending}
use Rattle.edr_axes.specs.AxisLaws.{ascending_at_most, ascending_far, test_at_most}
use Rattle.edr_select.specs.ListLaws.{filter_none, range-append}
use Rattle.edr_select.specs.KeptLaws.{kept_agree, filter_by_places}

-- ---- what is kept of a run of numbers

filter_all : {X : Type 0} (xs : List X) → filter (λ x. true) xs ≡ xs
filter_all [] = refl
filter_all (x ∷ xs) = ap (λ r. x ∷ r) (filter_all xs)

-- a test that passes exactly the numbers from one on, of so many
pub kept_between : (t : ℕ → Bool) (first many rest : ℕ) → ((k : ℕ) → k < first → t k ≡ false) → ((k : ℕ) → first ≤ k → k < first + many → t k ≡ true)
    → ((k : ℕ) → first + many ≤ k → k < first + many + rest → t k ≡ false)
    → filter t (range_with_len 0 (first + many + rest)) ≡ range_with_len first many
kept_between t first many rest low mid high =
    ap (filter t) (range-append 0 (first + many) rest ∙ ap₂ (λ r m. r ++ range_with_len m rest) (range-append 0 first many ∙ ap (λ m. range_with_len 0 first ++ range_with_len m many) (zero-add first)) (zero-add (first + many)))
    ∙ (filter-append t (range_with_len 0 first ++ range_with_len first many) (range_with_len (first + many) rest)
    ∙ (ap₂ (λ r s. r ++ s) (filter-append t (range_with_len 0 first) (range_with_len first many)) after
    ∙ (append-nil (filter t (range_with_len 0 first) ++ filter t (range_with_len first many))
    ∙ ap₂ (λ r s. r ++ s) before within)))
  where
    before : filter t (range_with_len 0 first) ≡ []
    before = kept_agree t (λ k. false) 0 first (λ k l h. low k (omega (arith, h))) ∙ filter_none (range_with_len 0 first)

    within : filter t (range_with_len first many) ≡ range_with_len first many
    within = kept_agree t (λ k. true) first many (λ k l h. mid k l h) ∙ filter_all (range_with_len first many)

    after : filter t (range_with_len (first + many) rest) ≡ []
    after = kept_agree t (λ k. false) (first + many) rest (λ k l h. high k l h) ∙ filter_none (range_with_len (first + many) rest)

-- ---- what occurs along an axis

-- a value at one of the places passes
pub record OccursAt (t : ℤ → Bool) (values : List ℤ) (first many : ℕ) : Type 0 where
  pub place : ℕ
  pub low : first ≤ place
  pub high : place < first + many
  pub passes : t (value_at values place) ≡ true

-- the values that occur stand at places from the first to the last of so many, and those two occur
pub record Spans {S : Type 0} (along : S → ℤ) (picks : List S) (values : List ℤ) (first many : ℕ) : Type 0 where
  pub some : 1 ≤ many
  pub inside : first + many ≤ length values
  pub only : (t : ℤ → Bool) → list_any (λ s. t (along s)) picks ≡ true → OccursAt t values first many
  pub least : (t : ℤ → Bool) → t (value_at values first) ≡ true → list_any (λ s. t (along s)) picks ≡ true
  pub greatest : (t : ℤ → Bool) → t (value_at values (first + many - 1)) ≡ true → list_any (λ s. t (along s)) picks ≡ true

-- a value that isn't above another doesn't stand behind it
in_order : (values : List ℤ) → IsAscending values → (low high : ℕ) → low < length values → int_le (value_at values low) (value_at values high) ≡ true → low ≤ high
in_order values ascend low high inside h =
    elim (cases_lt high low) [
      | inl lt ↦ absurd (omega (arith, ints, h, ascending_far values ascend high low lt inside))
      | inr ge ↦ ge
    ]

module _ {S : Type 0} (along : S → ℤ) (picks : List S) (values : List ℤ) (ascend : IsAscending values) (first many : ℕ) (h : Spans along picks values first many) where
  -- some value that occurs is at most the value of a place, and some at least it
  abbrev from_least : ℕ → Bool
  from_least k = list_any (λ s. int_le (along s) (value_at values k)) picks

  abbrev to_greatest : ℕ → Bool
  to_greatest k = list_any (λ s. int_le (value_at values k) (along s)) picks

  below : (k : ℕ) → k < first → (from_least k && to_greatest k) ≡ false
  below k lt = ap (λ b. b && to_greatest k) (false_from_ne_true (from_least k) (λ e.
      let o = h.only (λ v. int_le v (value_at values k)) e in
      let at_most : o.place ≤ k = in_order values ascend o.place k (omega (arith, o.high, h.inside)) o.passes in
      absurd (omega (arith, at_most, o.low, lt))))

  between : (k : ℕ) → first ≤ k → k < first + many → (from_least k && to_greatest k) ≡ true
  between k low high =
      let up : from_least k ≡ true = h.least (λ v. int_le v (value_at values k))
      (test_at_most (value_at values first) (value_at values k) (ascending_at_most values ascend first k low (omega (arith, high, h.inside)))) in
      let down : to_greatest k ≡ true = h.greatest (λ v. int_le (value_at values k) v)
      (test_at_most (value_at values k) (value_at values (first + many - 1)) (ascending_at_most values ascend k (first + many - 1) (omega (arith, high)) (omega (arith, h.some, h.inside)))) in
      ap₂ (λ a b. a && b) up down

  and_false : (b c : Bool) → c ≡ false → (b && c) ≡ false
  and_false true c e = e
  and_false false c e = refl

  above : (k : ℕ) → first + many ≤ k → k < length values → (from_least k && to_greatest k) ≡ false
  above k low inside = and_false (from_least k) (to_greatest k) (false_from_ne_true (to_greatest k) (λ e.
      let o = h.only (λ v. int_le (value_at values k) v) e in
      let at_least : k ≤ o.place = in_order values ascend k o.place inside o.passes in
      absurd (omega (arith, at_least, o.high, low))))

  pub spanned_is : filter (λ v. list_any (λ s. int_le (along s) v) picks && list_any (λ s. int_le v (along s)) picks) values
      ≡ map (value_at values) (range_with_len first many)
  spanned_is =
      filter_by_places (λ v. list_any (λ s. int_le (along s) v) picks && list_any (λ s. int_le v (along s)) picks) values
      ∙ ap (map (value_at values)) (ap (λ n. filter (λ k. from_least k && to_greatest k) (range_with_len 0 n)) whole
      ∙ kept_between (λ k. from_least k && to_greatest k) first many (length values - (first + many)) below between (λ k low high. above k low (omega (arith, high, h.inside))))
    where
      whole : length values ≡ first + many + (length values - (first + many))
      whole = omega (arith, h.inside)
