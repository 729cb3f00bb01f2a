-- Values that are put in place one after another.
use Rattle.std.proofs.Common.{◌≡◌, ℕ, zero, suc, ◌+◌, ◌<◌, List, [], ◌∷◌, ◌++◌, length, take, drop, get_or, set, All, refl, ap, sym, ◌∙◌, subst, arith, inl, inr, append-nil, zero-add}
use Rattle.std.specs.Prelude.{map}
use Rattle.std.specs.List.{Contains, range_with_len}
use Rattle.std.proofs.lemmas.Bool.{cases_order}
use Rattle.std.proofs.lemmas.List.{get_or-set_same, get_or-set_other, length-set, take_all, drop_all, length-map, get_or-map, get_or_default}
use Rattle.std.proofs.lemmas.List.Elements.{All-nil, All-head, All-tail, All-from_get_or, Contains-get_or}
use Rattle.std.proofs.lemmas.List.FromFn.{length-range_with_len, get_or-range_with_len}
use Rattle.std.specs.List.Sorted.{IsPermutation}
use Rattle.std.proofs.lemmas.List.Sorted.{All-permutation, Contains-permutation, IsPermutation-map}
use Rattle.edr_send.specs.Filling.{put_all}

pub put_append : {S V : Type 0} (number : S → ℕ) (value : S → V) (xs ys : List S) (vs : List V) → put_all number value (xs ++ ys) vs ≡ put_all number value ys (put_all number value xs vs)
put_append number value [] ys vs = refl
put_append number value (x ∷ xs) ys vs = put_append number value xs ys (set vs (number x) (value x))

pub put_length : {S V : Type 0} (number : S → ℕ) (value : S → V) (xs : List S) (vs : List V) → length (put_all number value xs vs) ≡ length vs
put_length number value [] vs = refl
put_length number value (x ∷ xs) vs = put_length number value xs (set vs (number x) (value x)) ∙ length-set vs (number x) (value x)

-- the same values, told in two ways
pub put_agree : {S V : Type 0} (number : S → ℕ) (value other : S → V) (xs : List S) (vs : List V) → All (λ x. value x ≡ other x) xs → put_all number value xs vs ≡ put_all number other xs vs
put_agree number value other [] vs same = refl
put_agree number value other (x ∷ xs) vs same =
    ap (λ v. put_all number value xs (set vs (number x) v)) (All-head (λ x. value x ≡ other x) x xs same)
    ∙ put_agree number value other xs (set vs (number x) (other x)) (All-tail (λ x. value x ≡ other x) x xs same)

-- what a number already has stays, and where nothing is put nothing changes
put_kept : {S V : Type 0} (number : S → ℕ) (of_number : ℕ → V) (xs : List S) (vs : List V) (n : ℕ) (d : V) → n < length vs → get_or vs n d ≡ of_number n
    → get_or (put_all number (λ x. of_number (number x)) xs vs) n d ≡ of_number n
put_kept number of_number [] vs n d inside here = here
put_kept number of_number (x ∷ xs) vs n d inside here =
    put_kept number of_number xs (set vs (number x) (of_number (number x))) n d (omega (arith, length-set vs (number x) (of_number (number x))))
    (elim (cases_order n (number x)) [
      | inl e ↦ subst (λ (m : ℕ). get_or (set vs m (of_number m)) n d ≡ of_number n) e (get_or-set_same vs n (of_number n) d inside)
      | inr (inl lt) ↦ get_or-set_other vs (number x) n (of_number (number x)) d (λ e. omega arith) ∙ here
      | inr (inr gt) ↦ get_or-set_other vs (number x) n (of_number (number x)) d (λ e. omega arith) ∙ here
    ])

-- where the value hangs on the number alone, each number that occurs has its value
pub put_found : {S V : Type 0} (number : S → ℕ) (of_number : ℕ → V) (xs : List S) (vs : List V) (n : ℕ) (d : V) → n < length vs → Contains (map number xs) n
    → get_or (put_all number (λ x. of_number (number x)) xs vs) n d ≡ of_number n
put_found number of_number [] vs n d inside (i, h, e) = absurd (omega arith)
put_found number of_number (x ∷ xs) vs n d inside (zero, h, e) =
    put_kept number of_number xs (set vs (number x) (of_number (number x))) n d (omega (arith, length-set vs (number x) (of_number (number x))))
    (subst (λ (m : ℕ). get_or (set vs m (of_number m)) n d ≡ of_number n) (sym e) (get_or-set_same vs n (of_number n) d inside))
put_found number of_number (x ∷ xs) vs n d inside (suc i, h, e) =
    put_found number of_number xs (set vs (number x) (of_number (number x))) n d (omega (arith, length-set vs (number x) (of_number (number x)))) (i, (omega arith), e)

-- a list is told by its items
pub told_by_items : {V : Type 0} (of_number : ℕ → V) (vs : List V) (a : ℕ) → ((n : ℕ) (d : V) → n < length vs → get_or vs n d ≡ of_number (a + n)) → vs ≡ map of_number (range_with_len a (length vs))
told_by_items of_number [] a told = refl
told_by_items of_number (v ∷ vs) a told =
    ap (λ w. w ∷ vs) (told 0 v (omega arith) ∙ ap of_number (same a))
    ∙ ap (λ ws. of_number a ∷ ws) (told_by_items of_number vs (a + 1) (λ n d h. told (suc n) d (omega arith) ∙ ap of_number (next a n)))
  where
    same : (a : ℕ) → a + 0 ≡ a
    same a = omega arith

    next : (a n : ℕ) → a + suc n ≡ a + 1 + n
    next a n = omega arith

-- ---- items that are numbered from 0 on, in whatever order they stand

numbered_at : {S : Type 0} (number : S → ℕ) (xs : List S) (i : ℕ) (d : S) → map number xs ≡ range_with_len 0 (length xs) → i < length xs → number (get_or xs i d) ≡ i
numbered_at number xs i d e l = sym (get_or-map number xs i d 0 l) ∙ ap (λ (ns : List ℕ). get_or ns i 0) e ∙ get_or-range_with_len 0 (length xs) i 0 l ∙ zero-add i

pub numbers_below : {S : Type 0} (number : S → ℕ) (xs : List S) → map number xs ≡ range_with_len 0 (length xs) → All (λ x. number x < length xs) xs
numbers_below number [] e = All-nil (λ x. number x < 0)
numbers_below number (x ∷ xs) e = All-from_get_or (λ y. number y < length (x ∷ xs)) (x ∷ xs) x (λ i l. let n = numbered_at number (x ∷ xs) i x e l in omega arith)

by_number : {S V : Type 0} (number : S → ℕ) (value : S → V) (v : V) (xs : List S) → map number xs ≡ range_with_len 0 (length xs) → All (λ x. value x ≡ get_or (map value xs) (number x) v) xs
by_number number value v [] e = All-nil (λ x. value x ≡ v)
by_number number value v (x ∷ xs) e = All-from_get_or (λ y. value y ≡ get_or (map value (x ∷ xs)) (number y) v) (x ∷ xs) x (λ i l.
    sym (get_or-map value (x ∷ xs) i x v l) ∙ ap (λ (k : ℕ). get_or (map value (x ∷ xs)) k v) (sym (numbered_at number (x ∷ xs) i x e l)))

number_there : {S : Type 0} (number : S → ℕ) (xs ys : List S) (n : ℕ) → IsPermutation xs ys → map number xs ≡ range_with_len 0 (length xs) → n < length xs → Contains (map number ys) n
number_there number xs ys n moved e l =
    Contains-permutation (map number xs) (map number ys) n (IsPermutation-map number xs ys moved)
    (subst (λ (ns : List ℕ). Contains ns n) (sym e)
    (subst (λ (k : ℕ). Contains (range_with_len 0 (length xs)) k) (get_or-range_with_len 0 (length xs) n 0 l ∙ zero-add n)
    (Contains-get_or (range_with_len 0 (length xs)) n 0 (omega (arith, length-range_with_len 0 (length xs))))))

-- each value has come to its number
pub put_numbered : {S V : Type 0} (number : S → ℕ) (value : S → V) (v : V) (xs ys : List S) (vs : List V) → IsPermutation xs ys → map number xs ≡ range_with_len 0 (length xs) → length vs ≡ length xs
    → put_all number value ys vs ≡ map value xs
put_numbered number value v xs ys vs moved e long =
    put_agree number value (λ x. get_or (map value xs) (number x) v) ys vs (All-permutation (λ x. value x ≡ get_or (map value xs) (number x) v) xs ys moved (by_number number value v xs e))
    ∙ told_by_items (λ n. get_or (map value xs) n v) (put_all number (λ x. get_or (map value xs) (number x) v) ys vs) 0 (λ n d l.
    let inside : n < length vs = omega (arith, put_length number (λ x. get_or (map value xs) (number x) v) ys vs) in
    put_found number (λ n. get_or (map value xs) n v) ys vs n d inside (number_there number xs ys n moved e (omega arith))
    ∙ ap (λ (k : ℕ). get_or (map value xs) k v) (sym (zero-add n)))
    ∙ ap (λ (k : ℕ). map (λ n. get_or (map value xs) n v) (range_with_len 0 k)) (put_length number (λ x. get_or (map value xs) (number x) v) ys vs ∙ long ∙ sym (length-map xs value))
    ∙ sym (told_by_items (λ n. get_or (map value xs) n v) (map value xs) 0 (λ n d l. get_or_default (map value xs) n d v l ∙ ap (λ (k : ℕ). get_or (map value xs) k v) (sym (zero-add n))))

-- a slice that was written back
pub written_back : {V : Type 0} (n : ℕ) (vs ws : List V) → length vs ≡ length ws → n ≡ length ws → take n (vs ++ drop (length vs) ws) ≡ vs
written_back n vs ws e f =
    ap (λ l. take n (vs ++ l)) (drop_all (length vs) ws (omega arith)) ∙ ap (take n) (append-nil vs) ∙ take_all n vs (omega arith)
