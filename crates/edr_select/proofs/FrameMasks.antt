-- Where some node is taken there is a least box with all nodes that are taken.
use Rattle.std.proofs.Common.{◌≡◌, ℕ, zero, suc, ◌+◌, ◌-◌, ◌*◌, ◌/◌, ◌%◌, ◌<◌, ◌≤◌, Bool, true, false, List, length, refl, ap, ap₂, sym, ◌∙◌, arith, inl, inr}
use Rattle.std.specs.Prelude.{map, ◌⊎◌}
use Rattle.std.specs.List.{list_any, range_with_len, slice_index_or}
use Rattle.std.proofs.lemmas.Bool.{false≢true}
use Rattle.std.proofs.lemmas.Nat.{div-mul-add, mod-mul-add, mul-add-lt}
use Rattle.std.proofs.lemmas.List.FromFn.{length-map-range_with_len, get_or-map-range_with_len}
use Rattle.edr_edition.specs.Values.{InstanceValue}
use Rattle.edr_query.specs.declared.shapes.Shape.{Shape}
use Rattle.edr_select.specs.Choices.{takes_node}
use Rattle.edr_select.specs.Masks.{MaskValue, TakesInRow, TakesInColumn, IsMask}
use Rattle.edr_select.specs.ListLaws.{any_range, passes_at}

-- the first and the last number below a count that pass
record Ends (t : ℕ → Bool) (n : ℕ) : Type 0 where
  first : ℕ
  last : ℕ
  first_passes : t first ≡ true
  last_passes : t last ≡ true
  ordered : first ≤ last
  inside : last < n
  low : (k : ℕ) → k < n → t k ≡ true → first ≤ k
  high : (k : ℕ) → k < n → t k ≡ true → k ≤ last

abbrev NoneBelow : (ℕ → Bool) → ℕ → Type 0
NoneBelow t n = (k : ℕ) → k < n → t k ≡ true → ⊥

last_or_before : (k n : ℕ) → k < suc n → (k ≡ n) ⊎ (k < n)
last_or_before k n lt = grind arith

ends_below : (t : ℕ → Bool) (n : ℕ) → NoneBelow t n ⊎ Ends t n
ends_below t zero = inl (λ k lt h. absurd (omega (arith, lt)))
ends_below t (suc n) = here (t n) refl (ends_below t n)
  where
    at_last : (k : ℕ) → k ≡ n → (b : Bool) → t n ≡ b → t k ≡ true → b ≡ true
    at_last k same b e h = sym e ∙ (ap t (sym same) ∙ h)

    here : (b : Bool) → t n ≡ b → NoneBelow t n ⊎ Ends t n → NoneBelow t (suc n) ⊎ Ends t (suc n)
    here true e (inl none) = inr (record {
      first = n;
      last = n;
      first_passes = e;
      last_passes = e;
      ordered = omega arith;
      inside = omega arith;
      low = λ k lt h. elim (last_or_before k n lt) [ inl same ↦ omega (arith, same) | inr before ↦ absurd (none k before h) ];
      high = λ k lt h. omega (arith, lt);
    })
    here true e (inr ends) = inr (record {
      first = ends.first;
      last = n;
      first_passes = ends.first_passes;
      last_passes = e;
      ordered = omega (arith, ends.ordered, ends.inside);
      inside = omega arith;
      low = λ k lt h. elim (last_or_before k n lt) [ inl same ↦ omega (arith, same, ends.ordered, ends.inside) | inr before ↦ ends.low k before h ];
      high = λ k lt h. omega (arith, lt);
    })
    here false e (inl none) = inl (λ k lt h. elim (last_or_before k n lt) [ inl same ↦ false≢true (at_last k same false e h) | inr before ↦ none k before h ])
    here false e (inr ends) = inr (record {
      first = ends.first;
      last = ends.last;
      first_passes = ends.first_passes;
      last_passes = ends.last_passes;
      ordered = ends.ordered;
      inside = omega (arith, ends.inside);
      low = λ k lt h. elim (last_or_before k n lt) [ inl same ↦ absurd (false≢true (at_last k same false e h)) | inr before ↦ ends.low k before h ];
      high = λ k lt h. elim (last_or_before k n lt) [ inl same ↦ absurd (false≢true (at_last k same false e h)) | inr before ↦ ends.high k before h ];
    })

ends_of : (t : ℕ → Bool) (n k : ℕ) → k < n → t k ≡ true → Ends t n
ends_of t n k below h = elim (ends_below t n) [
  | inl none ↦ absurd (none k below h)
  | inr ends ↦ ends
]

module _ (i : InstanceValue) (shape : Shape) where
  abbrev takes_in_row : ℕ → Bool
  takes_in_row y = list_any (λ x. takes_node i shape y x) (range_with_len 0 (length i.xs))

  abbrev takes_in_column : ℕ → Bool
  takes_in_column x = list_any (λ y. takes_node i shape y x) (range_with_len 0 (length i.ys))

  in_row : (y x : ℕ) → x < length i.xs → takes_node i shape y x ≡ true → takes_in_row y ≡ true
  in_row y x below h = any_range (λ x. takes_node i shape y x) 0 (length i.xs) x (omega arith) (omega (arith, below)) h

  in_column : (y x : ℕ) → y < length i.ys → takes_node i shape y x ≡ true → takes_in_column x ≡ true
  in_column y x below h = any_range (λ y. takes_node i shape y x) 0 (length i.ys) y (omega arith) (omega (arith, below)) h

  -- the truth values of so many rows from one on
  abbrev bits_from : ℕ → ℕ → List Bool
  bits_from row rows = map (λ k. takes_node i shape (row + k / length i.xs) (k % length i.xs)) (range_with_len 0 (rows * length i.xs))

  bit_is : (row rows y x : ℕ) → row ≤ y → y < row + rows → x < length i.xs
      → slice_index_or (bits_from row rows) ((y - row) * length i.xs + x) false ≡ takes_node i shape y x
  bit_is row rows y x low high inside =
      get_or-map-range_with_len (λ k. takes_node i shape (row + k / length i.xs) (k % length i.xs)) 0 (rows * length i.xs) ((y - row) * length i.xs + x) ((y - row) * length i.xs + x) false
      (omega (arith, mul-add-lt (y - row) (length i.xs) x rows (omega (arith, low, high)) inside)) (omega arith)
      ∙ ap₂ (λ a b. takes_node i shape a b) (ap (λ n. row + n) (div-mul-add (y - row) (length i.xs) x inside) ∙ omega (arith, low)) (mod-mul-add (y - row) (length i.xs) x inside)

  pub mask_of : (y x : ℕ) → y < length i.ys → x < length i.xs → takes_node i shape y x ≡ true → (mask : MaskValue) × IsMask i shape mask
  mask_of y x hy hx h =
      let r = ends_of takes_in_row (length i.ys) y hy (in_row y x hx h) in
      let c = ends_of takes_in_column (length i.xs) x hx (in_column y x hy h) in
      let rows : ℕ = r.last + 1 - r.first in
      let columns : ℕ = c.last + 1 - c.first in (
        record { row = r.first; rows = rows; column = c.first; columns = columns; left = 0; width = length i.xs; bits = bits_from r.first rows },
        record {
          rows = omega (arith, r.ordered, r.inside);
          columns = omega (arith, c.ordered, c.inside);
          some_rows = omega (arith, r.ordered);
          some_columns = omega (arith, c.ordered);
          full = length-map-range_with_len (λ k. takes_node i shape (r.first + k / length i.xs) (k % length i.xs)) 0 (rows * length i.xs);
          left = omega arith;
          right = omega (arith, c.ordered, c.inside);
          bits = λ y x low high from to.
              ap (λ n. slice_index_or (bits_from r.first rows) ((y - r.first) * length i.xs + n) false) (whole x) ∙ bit_is r.first rows y x low high (omega (arith, to));
          outside = λ y x hy hx h. record {
            low = r.low y hy (in_row y x hx h);
            high = omega (arith, r.ordered, r.high y hy (in_row y x hx h));
            left = c.low x hx (in_column y x hy h);
            right = omega (arith, c.ordered, c.high x hx (in_column y x hy h));
          };
          first_row = row_at r.first r.first (omega arith) r.first_passes;
          last_row = row_at (r.first + rows - 1) r.last (omega (arith, r.ordered)) r.last_passes;
          first_column = column_at c.first c.first (omega arith) c.first_passes;
          last_column = column_at (c.first + columns - 1) c.last (omega (arith, c.ordered)) c.last_passes;
        },
      )
    where
      whole : (x : ℕ) → x - 0 ≡ x
      whole x = omega arith

      row_at : (y z : ℕ) → z ≡ y → takes_in_row z ≡ true → TakesInRow i shape y
      row_at y z same h =
          let f = passes_at (λ x. takes_node i shape y x) 0 (length i.xs) (ap takes_in_row (sym same) ∙ h) in
          record { column = f.place; inside = omega (arith, f.high); takes = f.passes }

      column_at : (x z : ℕ) → z ≡ x → takes_in_column z ≡ true → TakesInColumn i shape x
      column_at x z same h =
          let f = passes_at (λ y. takes_node i shape y x) 0 (length i.ys) (ap takes_in_column (sym same) ∙ h) in
          record { row = f.place; inside = omega (arith, f.high); takes = f.passes }
