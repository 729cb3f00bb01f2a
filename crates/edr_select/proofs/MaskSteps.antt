-- A mask that grows row by row.
use Rattle.std.proofs.Common.{◌≡◌, ℕ, suc, ◌+◌, ◌-◌, ◌*◌, ◌<◌, ◌≤◌, Bool, true, false, List, ◌++◌, length, get_or, take, refl, ap, sym, ◌∙◌, subst, arith, inl, inr, get_or-take}
use Rattle.std.specs.Prelude.{min, max, Option, Some, None, MatchOption}
use Rattle.std.proofs.Math.Nat.{mul-le-mul, mul-le-mul_right}
use Rattle.std.proofs.lemmas.Bool.{cases_lt}
use Rattle.std.proofs.lemmas.List.{length-append, length-take-le, get_or_append_left, get_or-append_right}
use Rattle.edr_edition.specs.Values.{InstanceValue}
use Rattle.edr_query.specs.declared.shapes.Shape.{Shape}
use Rattle.edr_select.specs.declared.mask_rows.RowEnds.{RowEnds}
use Rattle.edr_select.specs.Choices.{takes_node}
use Rattle.edr_select.specs.Masks.{MaskValue, ColumnsValue, TakesInRow, TakesInColumn, InBox, IsMask, IsArea, NoneTaken, NoneIn, LiesInColumns, Takes, IsTakenRow, IsMaskBefore, bits_at, mask_of_row, right_of, with_bits, with_row}
use Rattle.edr_select.proofs.MaskBits.{as_long, bit_at, from_left, to_right}

true_not_false : true ≡ false → ⊥
true_not_false e = cc

-- rows of one width, one after the other
rows_fit : (k n w x : ℕ) → k < n → x < w → k * w + x < n * w
rows_fit k n w x h inside = let more : suc k * w ≤ n * w = mul-le-mul h (omega arith) in omega (arith, more)

-- a row behind those that stood there
one_row_more : (a b w : ℕ) → a ≤ b → (b + 1 - a) * w ≡ (b - a) * w + w
one_row_more a b w h = let more : b + 1 - a ≡ suc (b - a) = omega (arith, h) in rw more (omega arith)

module _ (i : InstanceValue) (shape : Shape) where
  in_row : (n y x : ℕ) → n ≡ y → Takes i shape y x → TakesInRow i shape n
  in_row n y x same t = subst (TakesInRow i shape) (sym same) (record { column = x; inside = t.inside; takes = t.takes })

  in_column : (n x y : ℕ) → n ≡ x → y < length i.ys → Takes i shape y x → TakesInColumn i shape n
  in_column n x y same inside t = subst (TakesInColumn i shape) (sym same) (record { row = y; inside = inside; takes = t.takes })

  same_column : (n m : ℕ) → n ≡ m → TakesInColumn i shape m → TakesInColumn i shape n
  same_column n m same t = subst (TakesInColumn i shape) (sym same) t

  not_taken : (y x : ℕ) → takes_node i shape y x ≡ false → takes_node i shape y x ≡ true → ⊥
  not_taken y x none some = true_not_false (sym some ∙ none)

  takes_at : (y z x v : ℕ) → y ≡ z → x ≡ v → takes_node i shape y x ≡ takes_node i shape z v
  takes_at y z x v same along = ap (λ k. takes_node i shape k x) same ∙ ap (takes_node i shape z) along

  -- what is found of a row
  pub some_row : (y : ℕ) (found : Option RowEnds) (ends : RowEnds) → found ≡ Some ends → MatchOption found (NoneIn i shape y (y + 1)) (λ e. IsTakenRow i shape y e) → IsTakenRow i shape y ends
  some_row y found ends is h = subst (λ f. MatchOption f (NoneIn i shape y (y + 1)) (λ e. IsTakenRow i shape y e)) is h

  pub no_row_found : (y : ℕ) (found : Option RowEnds) → found ≡ None → MatchOption found (NoneIn i shape y (y + 1)) (λ e. IsTakenRow i shape y e) → NoneIn i shape y (y + 1)
  no_row_found y found is h = subst (λ f. MatchOption f (NoneIn i shape y (y + 1)) (λ e. IsTakenRow i shape y e)) is h

  pub ordered : (y : ℕ) (ends : RowEnds) → IsTakenRow i shape y ends → ends.first ≤ ends.last
  ordered y ends t = t.least ends.last t.last

  module _ (area : IsArea shape) (columns : ColumnsValue) (lies : LiesInColumns i shape columns) where
    abbrev w : ℕ
    w = length columns.xs

    -- the first row
    pub begins : (y : ℕ) (ends : RowEnds) (bits : List Bool) → y < length i.ys → NoneIn i shape 0 y → IsTakenRow i shape y ends → bits ≡ bits_at i shape columns y
        → IsMaskBefore i shape columns (y + 1) (mask_of_row columns y ends bits)
    begins y ends bits inside none t is =
        let order = ordered y ends t in
        let long : length bits ≡ w = ap length is ∙ as_long i shape area columns lies y in
        record {
          inside = omega arith;
          rows = omega arith;
          left_is = refl;
          width_is = refl;
          left = from_left i shape area columns lies y ends.first t.first;
          right = omega (arith, order, to_right i shape area columns lies y ends.last t.last);
          some_rows = omega arith;
          some_columns = omega (arith, order);
          full = long ∙ first_rows (y + 1 - y) w (omega arith);
          bits = λ k x small inner.
              (let at : k * w + x ≡ x = first_row k w x (omega arith) in
              ap (λ n. get_or bits n false) at ∙ ap (λ l. get_or l x false) is ∙ bit_at i shape area columns lies y x inner
              ∙ takes_at y (y + k) (columns.left + x) (columns.left + x) (omega arith) refl);
          outside = λ other x before inner taken.
              elim (cases_lt other y) [
                | inl lt ↦ absurd (not_taken other x (none other x (omega arith) lt inner) taken)
                | inr ge ↦ (let same : other ≡ y = omega arith in
                    let here : Takes i shape y x = record { inside = inner; takes = sym (takes_at other y x x same refl) ∙ taken } in
                    record { low = omega arith; high = omega arith; left = t.least x here; right = omega (arith, order, t.greatest x here) })
              ];
          first_row = in_row y y ends.first refl t.first;
          last_row = in_row (y + 1 - 1) y ends.first (omega arith) t.first;
          first_column = in_column ends.first ends.first y refl inside t.first;
          last_column = in_column (ends.first + (ends.last + 1 - ends.first) - 1) ends.last y (omega (arith, order)) inside t.last;
        }
      where
        first_row : (k w x : ℕ) → k ≡ 0 → k * w + x ≡ x
        first_row k w x e = rw e (omega arith)

        first_rows : (k w : ℕ) → k ≡ 1 → w ≡ k * w
        first_rows k w e = rw e (omega arith)

    module _ (end : ℕ) (mask : MaskValue) (bits : List Bool) (inside : end < length i.ys) (m : IsMaskBefore i shape columns end mask) (is : bits ≡ mask.bits ++ bits_at i shape columns end) where
      begun : mask.row ≤ end
      begun = omega (arith, m.rows)

      longer_full : length bits ≡ (end + 1 - mask.row) * w
      longer_full =
          let long : length (mask.bits ++ bits_at i shape columns end) ≡ (end - mask.row) * w + w =
          length-append mask.bits (bits_at i shape columns end) ∙ ap (λ n. n + length (bits_at i shape columns end)) m.full ∙ ap (λ n. (end - mask.row) * w + n) (as_long i shape area columns lies end) in
          ap length is ∙ long ∙ sym (one_row_more mask.row end w begun)

      longer_bits : (k x : ℕ) → k < end + 1 - mask.row → x < w → get_or bits (k * w + x) false ≡ takes_node i shape (mask.row + k) (columns.left + x)
      longer_bits k x small inner =
          ap (λ l. get_or l (k * w + x) false) is
          ∙ elim (cases_lt k (end - mask.row)) [
            | inl lt ↦ (let before : k * w + x < length mask.bits = omega (arith, m.full, rows_fit k (end - mask.row) w x lt inner) in
                get_or_append_left mask.bits (bits_at i shape columns end) false (k * w + x) before ∙ m.bits k x lt inner)
            | inr ge ↦ (let last : k ≡ end - mask.row = omega (arith, small, ge, begun) in
                let place : k * w + x ≡ length mask.bits + x = ap (λ n. n * w + x) last ∙ ap (λ n. n + x) (sym m.full) in
                let rest : k * w + x - length mask.bits ≡ x = omega (arith, place) in
                get_or-append_right mask.bits (bits_at i shape columns end) (length mask.bits) (k * w + x) false refl (omega (arith, place))
                ∙ ap (λ n. get_or (bits_at i shape columns end) n false) rest ∙ bit_at i shape area columns lies end x inner
                ∙ takes_at end (mask.row + k) (columns.left + x) (columns.left + x) (omega (arith, last, begun)) refl)
          ]

      -- a row without a node that is taken
      pub stays : NoneIn i shape end (end + 1) → IsMaskBefore i shape columns (end + 1) (with_bits mask bits)
      stays none = record {
        inside = omega arith;
        rows = omega (arith, m.rows);
        left_is = m.left_is;
        width_is = m.width_is;
        left = m.left;
        right = m.right;
        some_rows = m.some_rows;
        some_columns = m.some_columns;
        full = longer_full;
        bits = longer_bits;
        outside = λ y x before inner taken.
            elim (cases_lt y end) [
              | inl lt ↦ same_box y x (m.outside y x lt inner taken)
              | inr ge ↦ absurd (not_taken y x (none y x ge before inner) taken)
            ];
        first_row = m.first_row;
        last_row = m.last_row;
        first_column = m.first_column;
        last_column = m.last_column;
      }
        where
          same_box : (y x : ℕ) → InBox mask y x → InBox (with_bits mask bits) y x
          same_box y x box = record { low = box.low; high = box.high; left = box.left; right = box.right }

      module _ (ends : RowEnds) (t : IsTakenRow i shape end ends) where
        abbrev grown : MaskValue
        grown = with_row (with_bits mask bits) end ends

        left_side : TakesInColumn i shape (min mask.column ends.first)
        left_side =
            elim (cases_lt ends.first mask.column) [
              | inl lt ↦ in_column (min mask.column ends.first) ends.first end (omega arith) inside t.first
              | inr ge ↦ same_column (min mask.column ends.first) mask.column (omega arith) m.first_column
            ]

        right_side : TakesInColumn i shape (min mask.column ends.first + (max (right_of mask) (ends.last + 1) - min mask.column ends.first) - 1)
        right_side =
            elim (cases_lt ends.last (right_of mask)) [
              | inl lt ↦ same_column (min mask.column ends.first + (max (right_of mask) (ends.last + 1) - min mask.column ends.first) - 1) (right_of mask - 1) (omega (arith, m.some_columns)) m.last_column
              | inr ge ↦ in_column (min mask.column ends.first + (max (right_of mask) (ends.last + 1) - min mask.column ends.first) - 1) ends.last end (omega (arith, m.some_columns)) inside t.last
            ]

        box_grows : (other x : ℕ) → InBox mask other x → other < end → InBox grown other x
        box_grows other x box before = record {
          low = box.low;
          high = omega (arith, m.rows);
          left = omega (arith, box.left);
          right = omega (arith, box.right, m.some_columns);
        }

        in_last_row : (x : ℕ) → Takes i shape end x → InBox grown end x
        in_last_row x here = record {
          low = omega (arith, m.rows);
          high = omega (arith, m.rows);
          left = omega (arith, t.least x here);
          right = omega (arith, t.greatest x here, m.some_columns);
        }

        -- a row with a node that is taken
        pub grows : IsMaskBefore i shape columns (end + 1) grown
        grows = record {
          inside = omega arith;
          rows = omega (arith, m.rows);
          left_is = m.left_is;
          width_is = m.width_is;
          left = omega (arith, m.left, from_left i shape area columns lies end ends.first t.first);
          right = omega (arith, m.right, to_right i shape area columns lies end ends.last t.last, m.some_columns);
          some_rows = omega (arith, m.rows);
          some_columns = omega (arith, m.some_columns);
          full = longer_full;
          bits = longer_bits;
          outside = λ other x before inner taken.
              elim (cases_lt other end) [
                | inl lt ↦ box_grows other x (m.outside other x lt inner taken) lt
                | inr ge ↦ (let same : end ≡ other = omega arith in
                    subst (λ k. InBox grown k x) same (in_last_row x (record { inside = inner; takes = takes_at end other x x same refl ∙ taken })))
              ];
          first_row = m.first_row;
          last_row = in_row (mask.row + (end + 1 - mask.row) - 1) end ends.first (omega (arith, m.rows)) t.first;
          first_column = left_side;
          last_column = right_side;
        }

    -- all rows
    module _ (end : ℕ) (mask : MaskValue) (bits : List Bool) (m : IsMaskBefore i shape columns end mask) (is : bits ≡ take (mask.rows * mask.width) mask.bits) where
      cut : bits ≡ take (mask.rows * w) mask.bits
      cut = is ∙ ap (λ n. take (mask.rows * n) mask.bits) m.width_is

      fewer : mask.rows * w ≤ length mask.bits
      fewer = let part : mask.rows * w ≤ (end - mask.row) * w = mul-le-mul_right w (omega (arith, m.rows)) in omega (arith, part, m.full)

      whole_bits : (y x : ℕ) → mask.row ≤ y → y < mask.row + mask.rows → mask.left ≤ x → x < mask.left + mask.width
          → get_or bits ((y - mask.row) * mask.width + (x - mask.left)) false ≡ takes_node i shape y x
      whole_bits y x low high from to =
          let inner : x - columns.left < w = omega (arith, from, to, m.left_is, m.width_is) in
          let k : ℕ = y - mask.row in
          let place : k * mask.width + (x - mask.left) ≡ k * w + (x - columns.left) = ap (λ n. k * n + (x - mask.left)) m.width_is ∙ ap (λ n. k * w + (x - n)) m.left_is in
          ap (λ n. get_or bits n false) place ∙ ap (λ l. get_or l (k * w + (x - columns.left)) false) cut
          ∙ get_or-take (mask.rows * w) mask.bits (k * w + (x - columns.left)) false (rows_fit k mask.rows w (x - columns.left) (omega (arith, low, high)) inner)
          ∙ m.bits k (x - columns.left) (omega (arith, low, high, m.rows)) inner
          ∙ takes_at (mask.row + k) y (columns.left + (x - columns.left)) x (omega (arith, low)) (omega (arith, from, m.left_is))

      pub whole : NoneIn i shape end (length i.ys) → IsMask i shape (with_bits mask bits)
      whole none = record {
        rows = omega (arith, m.rows, m.inside);
        columns = omega (arith, m.right, lies.inside);
        some_rows = m.some_rows;
        some_columns = m.some_columns;
        left = omega (arith, m.left_is, m.left);
        right = omega (arith, m.left_is, m.width_is, m.right);
        full = ap length cut ∙ length-take-le (mask.rows * w) mask.bits fewer ∙ ap (λ n. mask.rows * n) (sym m.width_is);
        bits = whole_bits;
        outside = λ y x before inner taken.
            elim (cases_lt y end) [
              | inl lt ↦ same_box y x (m.outside y x lt inner taken)
              | inr ge ↦ absurd (not_taken y x (none y x ge before inner) taken)
            ];
        first_row = m.first_row;
        last_row = m.last_row;
        first_column = m.first_column;
        last_column = m.last_column;
      }
        where
          same_box : (y x : ℕ) → InBox mask y x → InBox (with_bits mask bits) y x
          same_box y x box = record { low = box.low; high = box.high; left = box.left; right = box.right }

  -- rows without one, before a place and behind it
  pub no_rows : (end : ℕ) → NoneIn i shape 0 end → NoneIn i shape end (length i.ys) → NoneTaken i shape
  no_rows end before behind y x inside inner =
      elim (cases_lt y end) [
        | inl lt ↦ before y x (omega arith) lt inner
        | inr ge ↦ behind y x ge inside inner
      ]

  -- one row more without one
  pub none_more : (from end : ℕ) → NoneIn i shape from end → NoneIn i shape end (end + 1) → NoneIn i shape from (end + 1)
  none_more from end before here y x low high inner =
      elim (cases_lt y end) [
        | inl lt ↦ before y x low lt inner
        | inr ge ↦ here y x ge high inner
      ]
