-- Numbers ascending, each once, piece by piece.
use Rattle.std.proofs.Common.{◌≡◌, ℕ, zero, suc, ◌+◌, ◌-◌, ◌<◌, ◌≤◌, Bool, true, false, cond, eqb, List, [], ◌∷◌, ◌++◌, length, All, refl, ap, sym, ◌∙◌, arith, inl, inr, append-nil, zero-add}
use Rattle.std.specs.Prelude.{◌||◌}
use Rattle.std.specs.List.{filter, list_any, range_with_len}
use Rattle.std.proofs.lemmas.Bool.{eqb-true, cases_Bool, eq-eqb}
use Rattle.std.proofs.lemmas.List.Elements.{All-head, All-tail, All-weaker, filter-append, filter_agree}
use Rattle.std.proofs.lemmas.List.Folds.{list_any-append}
use Rattle.std.proofs.lemmas.List.Sorted.{list_any-IsPermutation}
use Rattle.std.specs.List.Sorted.{IsPermutation}
use Rattle.edr_select.specs.Samples.{ascending_once}

range_split : (a m n : ℕ) → range_with_len a (m + n) ≡ range_with_len a m ++ range_with_len (a + m) n
range_split a zero n = grind arith
range_split a (suc m) n =
    ap (λ (k : ℕ). range_with_len a k) (shift m n) ∙ ap (λ (xs : List ℕ). a ∷ xs) (range_split (a + 1) m n ∙ ap (λ (k : ℕ). range_with_len (a + 1) m ++ range_with_len k n) (next a m))
  where
    shift : (m n : ℕ) → suc m + n ≡ suc (m + n)
    shift m n = omega arith

    next : (a m : ℕ) → a + 1 + m ≡ a + suc m
    next a m = omega arith

-- tests that agree on a range keep the same of it
filter_range : (p q : ℕ → Bool) (a n : ℕ) → ((k : ℕ) → a ≤ k → k < a + n → p k ≡ q k) → filter p (range_with_len a n) ≡ filter q (range_with_len a n)
filter_range p q a zero same = refl
filter_range p q a (suc n) same =
    ap (λ (b : Bool). cond b (a ∷ filter p (range_with_len (a + 1) n)) (filter p (range_with_len (a + 1) n))) (same a (omega arith) (omega arith))
    ∙ ap (λ (rest : List ℕ). cond (q a) (a ∷ rest) rest) (filter_range p q (a + 1) n (λ k low high. same k (omega arith) (omega arith)))

filter_none : (p : ℕ → Bool) (a n : ℕ) → ((k : ℕ) → a ≤ k → k < a + n → p k ≡ false) → filter p (range_with_len a n) ≡ []
filter_none p a zero none = refl
filter_none p a (suc n) none =
    ap (λ (b : Bool). cond b (a ∷ filter p (range_with_len (a + 1) n)) (filter p (range_with_len (a + 1) n))) (none a (omega arith) (omega arith))
    ∙ filter_none p (a + 1) n (λ k low high. none k (omega arith) (omega arith))

eqb_differ : (x k : ℕ) → (x ≡ k → ⊥) → eqb x k ≡ false
eqb_differ x k differ = elim (cases_Bool (eqb x k)) [ inl same ↦ absurd (differ (eqb-true x k same)) | inr other ↦ other ]

any_above : (xs : List ℕ) (b k : ℕ) → All (λ x. x < b) xs → b ≤ k → list_any (λ n. eqb n k) xs ≡ false
any_above [] b k all low = refl
any_above (x ∷ xs) b k all low =
    let here : x < b = All-head (λ x. x < b) x xs all in
    ap (λ (c : Bool). c || list_any (λ n. eqb n k) xs) (eqb_differ x k (λ e. omega arith)) ∙ any_above xs b k (All-tail (λ x. x < b) x xs all) low

any_below : (xs : List ℕ) (b k : ℕ) → All (λ x. b ≤ x) xs → k < b → list_any (λ n. eqb n k) xs ≡ false
any_below [] b k all high = refl
any_below (x ∷ xs) b k all high =
    let here : b ≤ x = All-head (λ x. b ≤ x) x xs all in
    ap (λ (c : Bool). c || list_any (λ n. eqb n k) xs) (eqb_differ x k (λ e. omega arith)) ∙ any_below xs b k (All-tail (λ x. b ≤ x) x xs all) high

or_false : (b : Bool) → (b || false) ≡ b
or_false true = refl
or_false false = refl

-- the numbers among some, of the n from a on
abbrev among : List ℕ → ℕ → ℕ → List ℕ
among xs a n = filter (λ k. list_any (λ n. eqb n k) xs) (range_with_len a n)

among_split : (xs : List ℕ) (m n : ℕ) → ascending_once (m + n) xs ≡ among xs 0 m ++ among xs m n
among_split xs m n =
    ap (filter (λ k. list_any (λ n. eqb n k) xs)) (range_split 0 m n ∙ ap (λ (k : ℕ). range_with_len 0 m ++ range_with_len k n) (zero-add m))
    ∙ filter-append (λ k. list_any (λ n. eqb n k) xs) (range_with_len 0 m) (range_with_len m n)

any_first : (xs ys : List ℕ) (b k : ℕ) → All (λ y. b ≤ y) ys → k < b → list_any (λ n. eqb n k) (xs ++ ys) ≡ list_any (λ n. eqb n k) xs
any_first xs ys b k later high =
    list_any-append (λ n. eqb n k) xs ys
    ∙ ap (λ (c : Bool). list_any (λ n. eqb n k) xs || c) (any_below ys b k later high)
    ∙ or_false (list_any (λ n. eqb n k) xs)

any_last : (xs ys : List ℕ) (b k : ℕ) → All (λ x. x < b) xs → b ≤ k → list_any (λ n. eqb n k) (xs ++ ys) ≡ list_any (λ n. eqb n k) ys
any_last xs ys b k earlier low =
    list_any-append (λ n. eqb n k) xs ys
    ∙ ap (λ (c : Bool). c || list_any (λ n. eqb n k) ys) (any_above xs b k earlier low)

whole_from : (b n : ℕ) → b ≤ n → n ≡ b + (n - b)
whole_from b n l = omega arith

-- where all of some numbers stand below all others, theirs come first
pub once_append : (n b : ℕ) (xs ys : List ℕ) → b ≤ n → All (λ x. x < b) xs → All (λ y. b ≤ y) ys → ascending_once n (xs ++ ys) ≡ ascending_once n xs ++ ascending_once n ys
once_append n b xs ys inside earlier later =
    ap (λ (k : ℕ). ascending_once k (xs ++ ys)) (whole_from b n inside)
    ∙ among_split (xs ++ ys) b (n - b)
    ∙ ap (λ (l : List ℕ). l ++ among (xs ++ ys) b (n - b)) (low_part ∙ sym first)
    ∙ ap (λ (l : List ℕ). ascending_once n xs ++ l) (high_part ∙ sym second)
  where
    low_part : among (xs ++ ys) 0 b ≡ among xs 0 b
    low_part = filter_range (λ k. list_any (λ n. eqb n k) (xs ++ ys)) (λ k. list_any (λ n. eqb n k) xs) 0 b (λ k low high. any_first xs ys b k later (omega arith))

    high_part : among (xs ++ ys) b (n - b) ≡ among ys b (n - b)
    high_part = filter_range (λ k. list_any (λ n. eqb n k) (xs ++ ys)) (λ k. list_any (λ n. eqb n k) ys) b (n - b) (λ k low high. any_last xs ys b k earlier low)

    first : ascending_once n xs ≡ among xs 0 b
    first =
        ap (λ (k : ℕ). ascending_once k xs) (whole_from b n inside) ∙ among_split xs b (n - b)
        ∙ ap (λ (l : List ℕ). among xs 0 b ++ l) (filter_none (λ k. list_any (λ n. eqb n k) xs) b (n - b) (λ k low high. any_above xs b k earlier low))
        ∙ append-nil (among xs 0 b)

    second : ascending_once n ys ≡ among ys b (n - b)
    second =
        ap (λ (k : ℕ). ascending_once k ys) (whole_from b n inside) ∙ among_split ys b (n - b)
        ∙ ap (λ (l : List ℕ). l ++ among ys b (n - b)) (filter_none (λ k. list_any (λ n. eqb n k) ys) 0 b (λ k low high. any_below ys b k later (omega arith)))

any_equal : (x k : ℕ) (xs : List ℕ) → x ≡ k → list_any (λ n. eqb n k) (x ∷ xs) ≡ true
any_equal x k xs same = ap (λ (c : Bool). c || list_any (λ n. eqb n k) xs) (eq-eqb x k same)

below_next : (xs : List ℕ) (k : ℕ) → All (λ x. x ≡ k) xs → All (λ x. x < k + 1) xs
below_next xs k all = All-weaker (λ x. x ≡ k) (λ x. x < k + 1) (λ x e. omega arith) xs all

from_here : (xs : List ℕ) (k : ℕ) → All (λ x. x ≡ k) xs → All (λ x. k ≤ x) xs
from_here xs k all = All-weaker (λ x. x ≡ k) (λ x. k ≤ x) (λ x e. omega arith) xs all

once_one : (n k x : ℕ) (xs : List ℕ) → k < n → All (λ x. x ≡ k) (x ∷ xs) → ascending_once n (x ∷ xs) ≡ k ∷ []
once_one n k x xs inside all =
    ap (λ (m : ℕ). ascending_once m (x ∷ xs)) (whole_from k n (omega arith))
    ∙ among_split (x ∷ xs) k (n - k)
    ∙ ap (λ (l : List ℕ). l ++ among (x ∷ xs) k (n - k)) (filter_none (λ m. list_any (λ n. eqb n m) (x ∷ xs)) 0 k (λ m low high. any_below (x ∷ xs) k m (from_here (x ∷ xs) k all) (omega arith)))
    ∙ ap (λ (m : ℕ). among (x ∷ xs) k m) (rest k n inside)
    ∙ ap (λ (b : Bool). cond b (k ∷ among (x ∷ xs) (k + 1) (n - k - 1)) (among (x ∷ xs) (k + 1) (n - k - 1))) (any_equal x k xs (All-head (λ x. x ≡ k) x xs all))
    ∙ ap (λ (l : List ℕ). k ∷ l) (filter_none (λ m. list_any (λ n. eqb n m) (x ∷ xs)) (k + 1) (n - k - 1) (λ m low high. any_above (x ∷ xs) (k + 1) m (below_next (x ∷ xs) k all) low))
  where
    rest : (k n : ℕ) → k < n → n - k ≡ suc (n - k - 1)
    rest k n l = omega arith

pub once_permuted : (n : ℕ) (xs ys : List ℕ) → IsPermutation xs ys → ascending_once n xs ≡ ascending_once n ys
once_permuted n xs ys moved =
    filter_agree (λ k. list_any (λ n. eqb n k) xs) (λ k. list_any (λ n. eqb n k) ys) (λ k. list_any-IsPermutation (λ n. eqb n k) xs ys moved) (range_with_len 0 n)

-- of equal numbers there is one
pub once_equal : (n k : ℕ) (xs : List ℕ) → k < n → 0 < length xs → All (λ x. x ≡ k) xs → ascending_once n xs ≡ k ∷ []
once_equal n k [] inside some all = absurd (omega arith)
once_equal n k (x ∷ xs) inside some all = once_one n k x xs inside all

pub once_none : (n : ℕ) → ascending_once n [] ≡ []
once_none n = filter_none (λ k. list_any (λ n. eqb n k) []) 0 n (λ k low high. refl)
