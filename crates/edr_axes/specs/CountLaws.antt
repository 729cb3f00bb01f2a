-- Laws of how many elements pass a test, where those that pass come first, for the proofs of callers.
use Rattle.std.proofs.Common.{◌≡◌, inl, inr, ℕ, zero, suc, ◌<◌, ◌≤◌, Bool, true, false, cond, List, [], ◌∷◌, length, count_by, get_or, refl, sym, ap, ◌∙◌, subst, arith}
use Rattle.std.specs.List.{AllWithin}
use Rattle.std.specs.List.Sorted.{IsPartitionedBy, IsPartitionPoint}
use Rattle.std.proofs.lemmas.Bool.{cases_lt, cases_Bool}
use Rattle.std.proofs.lemmas.List.Sums.{sum_by-cons, count_by-le-length}

module _ {X : Type 0} (p : X → Bool) where
  count-yes : (x : X) (xs : List X) → p x ≡ true → count_by p (x ∷ xs) ≡ suc (count_by p xs)
  count-yes x xs passes = let step = sum_by-cons (λ y. cond (p y) 1 0) x xs in let one = ap {B = ℕ} (λ b. cond b 1 0) passes in omega (arith, step, one)

  count-no : (x : X) (xs : List X) → p x ≡ false → count_by p (x ∷ xs) ≡ count_by p xs
  count-no x xs fails = let step = sum_by-cons (λ y. cond (p y) 1 0) x xs in let none = ap {B = ℕ} (λ b. cond b 1 0) fails in omega (arith, step, none)

  abbrev Point : List X → ℕ → Type 0
  Point xs n = IsPartitionPoint (λ y. p y ≡ true) (λ y. p y ≡ false) xs n

  before_cons : (x : X) (xs : List X) (n : ℕ) → p x ≡ true → AllWithin (λ y. p y ≡ true) xs 0 n → AllWithin (λ y. p y ≡ true) (x ∷ xs) 0 (suc n)
  before_cons x xs n passes h zero d low high = passes
  before_cons x xs n passes h (suc k) d low high = h k d (omega arith) (omega arith)

  after_cons : (x : X) (xs : List X) (n : ℕ) → AllWithin (λ y. p y ≡ false) xs n (length xs) → AllWithin (λ y. p y ≡ false) (x ∷ xs) (suc n) (suc (length xs))
  after_cons x xs n h zero d low high = absurd (omega arith)
  after_cons x xs n h (suc k) d low high = h k d (omega arith) (omega arith)

  none_cons : (x : X) (xs : List X) → p x ≡ false → AllWithin (λ y. p y ≡ false) xs 0 (length xs) → AllWithin (λ y. p y ≡ false) (x ∷ xs) 0 (suc (length xs))
  none_cons x xs fails h zero d low high = fails
  none_cons x xs fails h (suc k) d low high = h k d (omega arith) (omega arith)

  none_before : (xs : List X) → AllWithin (λ y. p y ≡ true) xs 0 0
  none_before xs k d low high = absurd (omega arith)

  Point-no : (x : X) (xs : List X) (n : ℕ) → n ≤ length xs → IsPartitionedBy p (x ∷ xs) → p x ≡ false → Point xs n → (n ≡ 0) × Point (x ∷ xs) 0
  Point-no x xs zero inside h fails point = (refl, (none_before (x ∷ xs), none_cons x xs fails point.1))
  Point-no x xs (suc n) inside h fails point =
      let first = h 0 1 x (omega arith) (omega arith) (point.0 0 x (omega arith) (omega arith)) in
      absurd (cc (fails, first))

  pub point_of_count : (xs : List X) → IsPartitionedBy p xs → Point xs (count_by p xs)
  point_of_count [] h = (none_before [], λ k d low high. absurd (omega arith))
  point_of_count (x ∷ xs) h =
      let tail = point_of_count xs (λ i j d along inside e. h (suc i) (suc j) d (omega arith) (omega arith) e) in
      elim (cases_Bool (p x)) [
        | inl passes ↦ subst (Point (x ∷ xs)) (sym (count-yes x xs passes)) (before_cons x xs _ passes tail.0, after_cons x xs _ tail.1)
        | inr fails ↦ (let none = Point-no x xs _ (count_by-le-length p xs) h fails tail in
            subst (Point (x ∷ xs)) (sym (count-no x xs fails ∙ none.0)) none.1)
      ]

  pub count_of_point : (xs : List X) (point : ℕ) → point ≤ length xs → Point xs point → count_by p xs ≡ point
  count_of_point [] point inside h = omega arith
  count_of_point (x ∷ xs) zero inside h =
      count-no x xs (h.1 0 x (omega arith) (omega arith)) ∙ count_of_point xs zero (omega arith) (none_before xs, λ k d low high. h.1 (suc k) d (omega arith) (omega arith))
  count_of_point (x ∷ xs) (suc point) inside h =
      count-yes x xs (h.0 0 x (omega arith) (omega arith))
      ∙ ap suc (count_of_point xs point (omega arith) (λ k d low high. h.0 (suc k) d (omega arith) (omega arith), λ k d low high. h.1 (suc k) d (omega arith) (omega arith)))

  -- an element passes exactly where its place is among so many
  pub passes_before : (xs : List X) (place : ℕ) (d : X) → IsPartitionedBy p xs → place < length xs → p (get_or xs place d) ≡ true → place < count_by p xs
  passes_before xs place d parted inside passes =
      elim (cases_lt place (count_by p xs)) [
        | inl lt ↦ lt
        | inr ge ↦ (let fails = (point_of_count xs parted).1 place d ge inside in absurd (cc (fails, passes)))
      ]

  pub before_passes : (xs : List X) (place : ℕ) (d : X) → IsPartitionedBy p xs → place < count_by p xs → p (get_or xs place d) ≡ true
  before_passes xs place d parted lt = (point_of_count xs parted).0 place d (omega arith) lt
