-- The sides of what is taken, from how far it spreads.
use Rattle.std.proofs.Common.{◌≡◌, ℕ, ◌+◌, ◌-◌, ◌<◌, ◌≤◌, Bool, true, false, List, length, get_or, ap, sym, ◌∙◌, subst, arith}
use Rattle.std.specs.List.{filter, range_with_len}
use Rattle.std.proofs.lemmas.Bool.{false_from_ne_true}
use Rattle.edr_select.specs.KeptLaws.{kept_agree}
use Rattle.edr_select.specs.Stacks.{SidesValue}
use Rattle.edr_lines.specs.declared.spreads.Extent.{Extent}
use Rattle.edr_lines.specs.Taken.{Counts, NodeTest, NoneTaken, AreSidesOf, IsSpan, some_at_time, some_at_level, some_in_row, some_in_column}
use Rattle.edr_lines.specs.Boxes.{AreEnds, IsExtentOf, IsSpreadOf, NonePasses, SpreadValue, some_at, some_in, some_along}
use Rattle.edr_lines.proofs.Tests.{some_pair, row_turned, column_turned}

-- ends are a span
span_of : (t u : ℕ → Bool) (count first last : ℕ) → ((k : ℕ) → t k ≡ u k) → AreEnds t count first last → IsSpan u count first (last + 1 - first)
span_of t u count first last same e =
    let order : first ≤ last = e.low last e.inside e.last_passes in
    let end : first + (last + 1 - first) - 1 ≡ last = omega (arith, order) in
    record {
      some = omega (arith, order);
      inside = omega (arith, order, e.inside);
      first_passes = sym (same first) ∙ e.first_passes;
      last_passes = ap u end ∙ sym (same last) ∙ e.last_passes;
      low = λ k below h. e.low k below (same k ∙ h);
      high = λ k below h. omega (arith, order, e.high k below (same k ∙ h));
    }

places_are : (t : ℕ → Bool) (set : List Bool) (n : ℕ) → length set ≡ n → ((k : ℕ) → k < n → get_or set k false ≡ t k)
    → filter (λ k. get_or set k false) (range_with_len 0 (length set)) ≡ filter t (range_with_len 0 n)
places_are t set n long same =
    ap (λ m. filter (λ k. get_or set k false) (range_with_len 0 m)) long ∙ kept_agree (λ k. get_or set k false) t 0 n (λ k low high. same k (omega (arith, high)))

module _ (n : Counts) (takes : NodeTest) (spread : SpreadValue) (s : IsSpreadOf n takes spread) where
  -- without nodes nothing is taken
  pub none_taken : NonePasses n (some_at n takes) → NoneTaken n takes
  none_taken none t z y x at level row column = false_from_ne_true (takes t z y x) (λ h.
      let some : some_at n takes y x ≡ true = some_pair (λ t z. takes t z y x) n.times n.levels t z at level h in
      let both : true ≡ false = sym some ∙ none y x row column in cc)

  -- with nodes, the sides
  pub sides_of : (extent : Extent) → IsExtentOf n (some_at n takes) extent → (sides : SidesValue)
      → sides.times ≡ filter (λ k. get_or spread.times k false) (range_with_len 0 (length spread.times))
      → sides.levels ≡ filter (λ k. get_or spread.levels k false) (range_with_len 0 (length spread.levels))
      → sides.row ≡ extent.top → sides.rows ≡ extent.bottom + 1 - extent.top → sides.column ≡ extent.left → sides.columns ≡ extent.right + 1 - extent.left
      → AreSidesOf n takes sides
  sides_of extent e sides times levels row rows column columns = record {
    times = times ∙ places_are (some_at_time n takes) spread.times n.times s.times_full s.times;
    levels = levels ∙ places_are (some_at_level n takes) spread.levels n.levels s.levels_full s.levels;
    rows = subst (λ k. IsSpan (some_in_row n takes) n.rows k sides.rows) (sym row)
        (subst (λ k. IsSpan (some_in_row n takes) n.rows extent.top k) (sym rows)
        (span_of (some_in (some_at n takes) n.columns) (some_in_row n takes) n.rows extent.top extent.bottom (row_turned n takes) e.rows));
    columns = subst (λ k. IsSpan (some_in_column n takes) n.columns k sides.columns) (sym column)
        (subst (λ k. IsSpan (some_in_column n takes) n.columns extent.left k) (sym columns)
        (span_of (some_along (some_at n takes) n.rows) (some_in_column n takes) n.columns extent.left extent.right (column_turned n takes) e.columns));
  }
