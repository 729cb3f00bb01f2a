-- Truth values in blocks of one size, of which one was set.
use Rattle.std.proofs.Common.{◌≡◌, ℕ, ◌+◌, ◌-◌, ◌*◌, ◌<◌, ◌≤◌, ◌≢◌, Bool, false, List, length, get_or, take, drop, eqb, ap, ap₂, sym, ◌∙◌, arith, inl, inr, get_or-take, get_or-drop, length-drop, length-take}
use Rattle.std.proofs.Math.Bool.{or-false}
use Rattle.std.specs.Prelude.{◌&&◌, ◌||◌}
use Rattle.std.proofs.lemmas.Bool.{cases_lt, eq-eqb, cases_eq, ne_eqb}
use Rattle.std.proofs.lemmas.Slice.{take-put_mid_below, drop-put_mid, between-put_mid}
use borrow.Rule.Slice.PartMut.{put_mid, mid_of, same_len_mid}

pub block_end : (a count size : ℕ) → a < count → a * size + size ≤ count * size
block_end a count size h = grind arith

-- ---- a part that was put back

module _ (xs ws : List Bool) (start end : ℕ) (order : start ≤ end) (inside : end ≤ length xs) (long : length ws ≡ end - start) where
  abbrev put : List Bool
  put = put_mid start (end - start) xs ws

  pub put_full : length put ≡ length xs
  put_full = same_len_mid start (end - start) xs ws (long ∙ sym mid)
    where
      mid : length (mid_of start (end - start) xs) ≡ end - start
      mid = omega (arith, length-take (end - start) (drop start xs), length-drop start xs, order, inside)

  pub put_before : (k : ℕ) → k < start → get_or put k false ≡ get_or xs k false
  put_before k h =
      sym (get_or-take start put k false h) ∙ ap (λ (l : List Bool). get_or l k false) (take-put_mid_below start (end - start) xs ws start (omega arith) (omega (arith, order, inside))) ∙ get_or-take start xs k false h

  pub put_behind : (k : ℕ) → end ≤ k → get_or put k false ≡ get_or xs k false
  put_behind k h =
      let at : end + (k - end) ≡ k = omega (arith, h) in
      ap (λ n. get_or put n false) (sym at) ∙ sym (get_or-drop end put (k - end) false)
      ∙ ap (λ (l : List Bool). get_or l (k - end) false) (drop-put_mid start (end - start) xs ws end (omega (arith, order)) (omega (arith, order, inside)) long)
      ∙ get_or-drop end xs (k - end) false ∙ ap (λ n. get_or xs n false) at

  pub put_at : (k : ℕ) → k < end - start → get_or put (start + k) false ≡ get_or ws k false
  put_at k h =
      sym (get_or-drop start put k false) ∙ sym (get_or-take (end - start) (drop start put) k false h)
      ∙ ap (λ (l : List Bool). get_or l k false) (between-put_mid start (end - start) xs ws end (omega (arith, order, inside)) long)

-- ---- blocks

module _ (old ws : List Bool) (size count number : ℕ) (many : length old ≡ count * size) (among : number < count)
    (long : length ws ≡ length (take (number * size + size - number * size) (drop (number * size) old))) where
  abbrev start : ℕ
  start = number * size

  abbrev new : List Bool
  new = put_mid start (start + size - start) old ws

  inside : start + size ≤ length old
  inside = omega (arith, many, block_end number count size among)

  as_long : length ws ≡ start + size - start
  as_long = omega (arith, long, length-take (start + size - start) (drop start old), length-drop start old, inside)

  pub block_full : length new ≡ length old
  block_full = put_full old ws start (start + size) (omega arith) inside as_long

  here : (k : ℕ) → k < size → (b : Bool) → get_or ws k false ≡ (get_or (take (start + size - start) (drop start old)) k false || b) → get_or new (start + k) false ≡ (get_or old (start + k) false || b)
  here k low b is =
      put_at old ws start (start + size) (omega arith) inside as_long k (omega (arith, low)) ∙ is
      ∙ ap (λ c. c || b) (get_or-take (start + size - start) (drop start old) k false (omega (arith, low)) ∙ get_or-drop start old k false)

  elsewhere : (a k : ℕ) → k < size → a ≢ number → get_or new (a * size + k) false ≡ get_or old (a * size + k) false
  elsewhere a k low differs = elim (cases_lt a number) [
    | inl lt ↦ put_before old ws start (start + size) (omega arith) inside as_long (a * size + k) (omega (arith, low, block_end a number size lt))
    | inr ge ↦ elim (cases_lt number a) [
      | inl gt ↦ put_behind old ws start (start + size) (omega arith) inside as_long (a * size + k) (omega (arith, block_end number a size gt))
      | inr le ↦ absurd (differs (omega (arith, ge, le)))
    ]
  ]

  -- what was set in one of them
  pub block_set : (a k : ℕ) → k < size → (b : Bool) → get_or ws k false ≡ (get_or (take (start + size - start) (drop start old)) k false || b)
      → get_or new (a * size + k) false ≡ (get_or old (a * size + k) false || (eqb a number && b))
  block_set a k low b is = elim (cases_eq a number) [
    | inl e ↦ ap (λ n. get_or new (n * size + k) false) e ∙ here k low b is
        ∙ ap₂ (λ n c. get_or old (n * size + k) false || (c && b)) (sym e) (sym (eq-eqb a number e))
    | inr differs ↦ elsewhere a k low differs
        ∙ sym (ap (λ c. get_or old (a * size + k) false || (c && b)) (ne_eqb a number differs) ∙ or-false (get_or old (a * size + k) false))
  ]
