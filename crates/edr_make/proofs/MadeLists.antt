-- The numbers and the values of the made feed, one more at a time.
use Rattle.std.proofs.Common.{◌≡◌, ℕ, suc, ◌+◌, ◌-◌, ◌*◌, ◌<◌, ◌≤◌, List, [], ◌∷◌, ◌++◌, pos, refl, ap, zero-add, arith}
use Rattle.std.specs.List.{flat_map, range_with_len}
use Rattle.std.proofs.lemmas.List.FromFn.{map-range_with_len_more}
use Rattle.edr_make.specs.Made.{spaced, node_value, row_values, station_value, series_values}

pub spaced_more : (first step n : ℕ) → spaced first step (n + 1) ≡ spaced first step n ++ pos (first + step * n) ∷ []
unfolding spaced
spaced_more first step n = map-range_with_len_more (λ (k : ℕ). pos (first + step * k)) 0 n n (zero-add n)

pub no_spaced : (first step : ℕ) → [] ≡ spaced first step 0
unfolding spaced
no_spaced first step = refl

pub row_more : (number row n : ℕ) → row_values number (n + 1) row ≡ row_values number n row ++ node_value number row n ∷ []
unfolding row_values
row_more number row n = map-range_with_len_more (node_value number row) 0 n n (zero-add n)

pub no_row : (number row : ℕ) → [] ≡ row_values number 0 row
unfolding row_values
no_row number row = refl

pub series_more : (number station n : ℕ) → series_values number (n + 1) station ≡ series_values number n station ++ station_value number station n ∷ []
unfolding series_values
series_more number station n = map-range_with_len_more (station_value number station) 0 n n (zero-add n)

pub no_series : (number station : ℕ) → [] ≡ series_values number 0 station
unfolding series_values
no_series number station = refl

-- of lists from a place on, the first and those behind it
pub next_list : {X : Type 0} (f : ℕ → List X) (k n : ℕ) → k < n → flat_map f (range_with_len k (n - k)) ≡ f k ++ flat_map f (range_with_len (k + 1) (n - (k + 1)))
next_list f k n inside = ap (λ (m : ℕ). flat_map f (range_with_len k m)) (more k n inside)
  where
    more : (k n : ℕ) → k < n → n - k ≡ suc (n - (k + 1))
    more k n inside = omega arith

pub no_list : {X : Type 0} (f : ℕ → List X) (k n : ℕ) → n ≤ k → flat_map f (range_with_len k (n - k)) ≡ []
no_list f k n past = ap (λ (m : ℕ). flat_map f (range_with_len k m)) (none k n past)
  where
    none : (k n : ℕ) → n ≤ k → n - k ≡ 0
    none k n past = omega arith
