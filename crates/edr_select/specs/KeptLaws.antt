-- The numbers below a count that pass a test, and nodes of a plane by row and column.
use Rattle.std.proofs.Common.{◌≡◌, ℕ, zero, suc, ◌+◌, ◌*◌, ◌/◌, ◌%◌, ◌<◌, ◌≤◌, Bool, true, false, cond, List, [], ◌∷◌, ◌++◌, length, refl, ap, ap₂, sym, ◌∙◌, subst, arith, zero-add, zero-mul, add-zero, ℤ, Contains, All, inl, inr}
use Rattle.std.specs.Prelude.{map, ◌⊎◌}
use Rattle.std.proofs.lemmas.Bool.{false_from_ne_true}
use Rattle.std.specs.List.{range_with_len, filter, flat_map, slice_index_or}
use Rattle.std.proofs.lemmas.List.{map-append}
use Rattle.std.proofs.lemmas.List.Elements.{All-filter, filter_passes}
use Rattle.std.proofs.lemmas.List.FromFn.{length-range_with_len, get_or-range_with_len}
use Rattle.std.proofs.lemmas.List.Folds.{flat_map-map}
use Rattle.std.proofs.lemmas.Nat.{div-mul-add, mod-mul-add}
use Rattle.edr_axes.specs.Axes.{value_at}
use Rattle.edr_select.specs.ListLaws.{range-append, flat_map_agree, map-map, filter-map, member_later, all_member}

pub contains_filter : {X : Type 0} (t : X → Bool) (xs : List X) (x : X) → Contains xs x → t x ≡ true → Contains (filter t xs) x
contains_filter t [] x c h = absurd (omega (arith, c.1))
contains_filter {X} t (y ∷ ys) x c h = step c.0 c.1 c.2 (λ k l e. contains_filter t ys x (k, l, e) h)
  where
    step : (k : ℕ) → k < length (y ∷ ys) → slice_index_or (y ∷ ys) k x ≡ x → ((j : ℕ) → j < length ys → slice_index_or ys j x ≡ x → Contains (filter t ys) x)
        → Contains (cond (t y) (y ∷ filter t ys) (filter t ys)) x
    step zero l e later =
        let here : Contains (y ∷ filter t ys) x = (0, omega arith, e) in
        subst (λ b. Contains (cond b (y ∷ filter t ys) (filter t ys)) x) (sym (ap t e ∙ h)) here
    step (suc k) l e later =
        let rest : Contains (filter t ys) x = later k (omega arith) e in
        elim (t y) as (λ b. Contains (cond b (y ∷ filter t ys) (filter t ys)) x) [ true ↦ member_later y x (filter t ys) rest | false ↦ rest ]

pub contains_range : (n k : ℕ) → k < n → Contains (range_with_len 0 n) k
contains_range n k h = (k, omega (arith, length-range_with_len 0 n, h), get_or-range_with_len 0 n k k h ∙ zero-add k)

pub all_below : (n : ℕ) → All (λ k. k < n) (range_with_len 0 n)
all_below n k d l =
    let inside : k < n = omega (arith, length-range_with_len 0 n, l) in
    omega (arith, get_or-range_with_len 0 n k d inside, inside)

-- a number is kept where it is below the count and passes
pub contains_kept : (t : ℕ → Bool) (n k : ℕ) → k < n → t k ≡ true → Contains (filter t (range_with_len 0 n)) k
contains_kept t n k below passes = contains_filter t (range_with_len 0 n) k (contains_range n k below) passes

pub kept_below : (t : ℕ → Bool) (n k : ℕ) → Contains (filter t (range_with_len 0 n)) k → k < n
kept_below t n k c = all_member (λ j. j < n) (filter t (range_with_len 0 n)) k (All-filter t (λ j. j < n) (range_with_len 0 n) (all_below n)) c

pub kept_passes : (t : ℕ → Bool) (n k : ℕ) → Contains (filter t (range_with_len 0 n)) k → t k ≡ true
kept_passes t n k c = all_member (λ j. t j ≡ true) (filter t (range_with_len 0 n)) k (filter_passes t (range_with_len 0 n)) c

-- tests that agree below the count keep the same
pub kept_agree : (t u : ℕ → Bool) (a n : ℕ) → ((k : ℕ) → a ≤ k → k < a + n → t k ≡ u k) → filter t (range_with_len a n) ≡ filter u (range_with_len a n)
kept_agree t u a zero same = refl
kept_agree t u a (suc n) same =
    ap₂ (λ b r. cond b (a ∷ r) r) (same a (omega arith) (omega arith)) (kept_agree t u (a + 1) n (λ k low high. same k (omega arith) (omega arith)))

-- ---- the values of an axis by their places

read_from : (xs : List ℤ) (a : ℕ) (ys : List ℤ) → ((k : ℕ) → k < length ys → value_at xs (a + k) ≡ value_at ys k)
    → map (value_at xs) (range_with_len a (length ys)) ≡ ys
read_from xs a [] same = refl
read_from xs a (y ∷ ys) same =
    ap (λ v. v ∷ map (value_at xs) (range_with_len (a + 1) (length ys))) (ap (value_at xs) (sym (add-zero a)) ∙ same 0 (omega arith))
    ∙ ap (λ r. y ∷ r) (read_from xs (a + 1) ys (λ k h. ap (value_at xs) (next a k) ∙ same (suc k) (omega arith)))
  where
    next : (a k : ℕ) → (a + 1) + k ≡ a + suc k
    next a k = omega arith

pub values_read : (xs : List ℤ) → map (value_at xs) (range_with_len 0 (length xs)) ≡ xs
values_read xs = read_from xs 0 xs (λ k h. ap (value_at xs) (zero-add k))

-- a filter of an axis, by its places
pub filter_by_places : (t : ℤ → Bool) (xs : List ℤ) → filter t xs ≡ map (value_at xs) (filter (λ k. t (value_at xs k)) (range_with_len 0 (length xs)))
filter_by_places t xs = ap (filter t) (sym (values_read xs)) ∙ filter-map t (value_at xs) (range_with_len 0 (length xs))

-- ---- rows one after the other

map_agree_below : {X : Type 0} (f g : ℕ → X) (a n : ℕ) → ((k : ℕ) → a ≤ k → k < a + n → f k ≡ g k) → map f (range_with_len a n) ≡ map g (range_with_len a n)
map_agree_below f g a zero same = refl
map_agree_below f g a (suc n) same =
    ap₂ (λ x xs. x ∷ xs) (same a (omega arith) (omega arith)) (map_agree_below f g (a + 1) n (λ k low high. same k (omega arith) (omega arith)))

map_shift : {X : Type 0} (f : ℕ → X) (n a w : ℕ) → map f (range_with_len (n + a) w) ≡ map (λ b. f (n + b)) (range_with_len a w)
map_shift f n a zero = refl
map_shift f n a (suc w) = ap (λ r. f (n + a) ∷ r) (ap (λ m. map f (range_with_len m w)) (next n a) ∙ map_shift f n (a + 1) w)
  where
    next : (n a : ℕ) → (n + a) + 1 ≡ n + (a + 1)
    next n a = omega arith

row_numbered : {X : Type 0} (f : ℕ → ℕ → X) (w a : ℕ) → map (f a) (range_with_len 0 w) ≡ map (λ k. f (k / w) (k % w)) (range_with_len (a * w) w)
row_numbered f w a =
    sym (ap (λ m. map (λ k. f (k / w) (k % w)) (range_with_len m w)) (sym (add-zero (a * w)))
    ∙ map_shift (λ k. f (k / w) (k % w)) (a * w) 0 w
    ∙ map_agree_below (λ b. f ((a * w + b) / w) ((a * w + b) % w)) (f a) 0 w (λ b low high.
    let inside : b < w = omega (arith, high) in ap₂ f (div-mul-add a w b inside) (mod-mul-add a w b inside)))

pub rows_numbered : {X : Type 0} (f : ℕ → ℕ → X) (w a h : ℕ)
    → flat_map (λ r. map (f r) (range_with_len 0 w)) (range_with_len a h) ≡ map (λ k. f (k / w) (k % w)) (range_with_len (a * w) (h * w))
rows_numbered f w a zero = sym (ap (λ m. map (λ k. f (k / w) (k % w)) (range_with_len (a * w) m)) (zero-mul w))
rows_numbered f w a (suc h) =
    ap₂ (λ r rs. r ++ rs) (row_numbered f w a) (rows_numbered f w (a + 1) h)
    ∙ (sym (map-append (λ k. f (k / w) (k % w)) (range_with_len (a * w) w) (range_with_len ((a + 1) * w) (h * w)))
    ∙ ap (map (λ k. f (k / w) (k % w))) (joined w a h))
  where
    next : (w a : ℕ) → (a + 1) * w ≡ a * w + w
    next w a = omega arith

    more : (w h : ℕ) → w + h * w ≡ suc h * w
    more w h = omega arith

    joined : (w a h : ℕ) → range_with_len (a * w) w ++ range_with_len ((a + 1) * w) (h * w) ≡ range_with_len (a * w) (suc h * w)
    joined w a h =
        ap (λ m. range_with_len (a * w) w ++ range_with_len m (h * w)) (next w a)
        ∙ (sym (range-append (a * w) w (h * w)) ∙ ap (range_with_len (a * w)) (more w h))

abbrev pub pair : ℤ → ℤ → ℤ × ℤ
pair y x = (y, x)

abbrev pub pairs : List ℤ → List ℤ → List (ℤ × ℤ)
pairs vs us = flat_map (λ (y : ℤ). map (λ (x : ℤ). pair y x) us) vs

-- the pairs of two axes, by their numbers
pub pairs_numbered : (ys xs : List ℤ)
    → pairs ys xs ≡ map (λ k. pair (value_at ys (k / length xs)) (value_at xs (k % length xs))) (range_with_len 0 (length ys * length xs))
pairs_numbered ys xs =
    ap₂ (λ vs us. pairs vs us) (sym (values_read ys)) (sym (values_read xs))
    ∙ (flat_map-map (λ (y : ℤ). map (λ (x : ℤ). pair y x) (map (value_at xs) (range_with_len 0 (length xs)))) (value_at ys) (range_with_len 0 (length ys))
    ∙ (flat_map_agree (λ k. map (λ (x : ℤ). pair (value_at ys k) x) (map (value_at xs) (range_with_len 0 (length xs)))) (λ k. map (λ l. pair (value_at ys k) (value_at xs l)) (range_with_len 0 (length xs)))
    (λ k. map-map (λ (x : ℤ). pair (value_at ys k) x) (value_at xs) (range_with_len 0 (length xs))) (range_with_len 0 (length ys))
    ∙ (rows_numbered (λ k l. pair (value_at ys k) (value_at xs l)) (length xs) 0 (length ys)
    ∙ ap (λ m. map (λ k. pair (value_at ys (k / length xs)) (value_at xs (k % length xs))) (range_with_len m (length ys * length xs))) (zero-mul (length xs)))))

-- ---- one number that passes

kept_none : (t : ℕ → Bool) (a n : ℕ) → ((k : ℕ) → a ≤ k → k < a + n → t k ≡ false) → filter t (range_with_len a n) ≡ []
kept_none t a zero h = refl
kept_none t a (suc n) h =
    ap (λ b. cond b (a ∷ filter t (range_with_len (a + 1) n)) (filter t (range_with_len (a + 1) n))) (h a (omega arith) (omega arith))
    ∙ kept_none t (a + 1) n (λ k low high. h k (omega arith) (omega arith))

pub one_kept : (t : ℕ → Bool) (a n k : ℕ) → a ≤ k → k < a + n → t k ≡ true → ((l : ℕ) → a ≤ l → l < a + n → t l ≡ true → l ≡ k)
    → filter t (range_with_len a n) ≡ k ∷ []
one_kept t a zero k low high h only = absurd (omega arith)
one_kept t a (suc n) k low high h only =
    elim (order a k low) [
      | inl e ↦ ap (λ b. cond b (a ∷ filter t (range_with_len (a + 1) n)) (filter t (range_with_len (a + 1) n))) (ap t e ∙ h)
          ∙ ap₂ (λ x xs. x ∷ xs) e (kept_none t (a + 1) n (λ l low high. false_from_ne_true (t l) (λ p. absurd (omega (arith, e, low, only l (omega arith) (omega arith) p)))))
      | inr lt ↦ ap (λ b. cond b (a ∷ filter t (range_with_len (a + 1) n)) (filter t (range_with_len (a + 1) n)))
          (false_from_ne_true (t a) (λ p. absurd (omega (arith, lt, only a (omega arith) (omega arith) p))))
          ∙ one_kept t (a + 1) n k (omega arith) (omega arith) h (λ l low high. only l (omega arith) (omega arith))
    ]
  where
    order : (a k : ℕ) → a ≤ k → (a ≡ k) ⊎ (a < k)
    order a k h = grind arith
