-- What the first segments of a corridor take: with one segment more, and of all of them.
use Rattle.std.proofs.Common.{◌≡◌, ℕ, ◌+◌, Bool, true, false, length, refl, ap, sym, ◌∙◌, arith, zero-add}
use Rattle.std.proofs.Math.Bool.{and-false, or-false}
use Rattle.std.specs.Prelude.{Some, ◌&&◌, ◌||◌}
use Rattle.std.specs.List.{list_any, range_with_len}
use Rattle.std.proofs.lemmas.List.Folds.{list_any-append}
use Rattle.edr_axes.specs.Axes.{value_at}
use Rattle.edr_corridor.specs.declared.boxes.SegmentBox.{SegmentBox}
use Rattle.edr_corridor.specs.Segments.{at_segment}
use Rattle.edr_corridor.specs.Boxes.{AddsNothing, GridAxes, TakesNodes, level_at, takes_node, box_takes}
use Rattle.edr_select.specs.ListLaws.{range-append}
use Rattle.edr_lines.specs.Taken.{counts_of, either}
use Rattle.edr_lines.specs.Corridors.{CorridorValue, is_asked, takes, takes_first}
use Rattle.edr_lines.specs.Boxes.{box_passes}
use Rattle.edr_lines.proofs.SegmentNumbers.{any_number}
use Rattle.edr_lines.proofs.Tests.{Agree}

-- a number more
pub any_more : (f : ℕ → Bool) (n : ℕ) → list_any f (range_with_len 0 (n + 1)) ≡ (list_any f (range_with_len 0 n) || f n)
any_more f n = ap (list_any f) (range-append 0 n 1) ∙ list_any-append f (range_with_len 0 n) (range_with_len (0 + n) 1)
    ∙ ap (λ b. list_any f (range_with_len 0 n) || b) (ap (λ k. f k || false) (zero-add n) ∙ or-false (f n))

apart : (a b c : Bool) → (a && (b || c)) ≡ ((a && b) || (a && c))
apart true b c = refl
apart false b c = refl

absorbed : (a b : Bool) → (b ≡ true → a ≡ true) → (a || b) ≡ a
absorbed true b h = refl
absorbed false true h = sym (h refl)
absorbed false false h = refl

module _ (c : CorridorValue) (axes : GridAxes) where
  -- of no segment
  pub none_first : Agree (counts_of axes) (λ t z y x. false) (takes_first c axes 0)
  none_first t z y x at level row column = sym (and-false (is_asked c t z))

  -- of one more, whose box is known
  pub first_more : (number : ℕ) (box : SegmentBox) → TakesNodes c.segments number axes box
      → Agree (counts_of axes) (either (takes_first c axes number) (box_passes c box)) (takes_first c axes (number + 1))
  first_more number box taken t z y x at level row column =
      let test = at_segment (takes_node c.segments axes t z y x) c.segments.line in
      sym (ap (λ b. is_asked c t z && b) (any_more test number ∙ ap (λ b. list_any test (range_with_len 0 number) || b) (sym (taken t z y x (record { t_in = at; z_in = level; y_in = row; x_in = column }))))
      ∙ apart (is_asked c t z) (list_any test (range_with_len 0 number)) (box_takes box t z y x))

  -- of one more that adds nothing
  pub first_same : (number : ℕ) → AddsNothing c.segments number axes.ys axes.xs → Agree (counts_of axes) (takes_first c axes number) (takes_first c axes (number + 1))
  first_same number nothing t z y x at level row column =
      let test = at_segment (takes_node c.segments axes t z y x) c.segments.line in
      sym (ap (λ b. is_asked c t z && b) (any_more test number ∙ absorbed (list_any test (range_with_len 0 number)) (test number) (nothing (Some (value_at axes.ts t)) (level_at axes.zs z) y x row column)))

  -- of all
  pub all_first : (count : ℕ) → count + 1 ≡ length c.segments.line → (t z y x : ℕ) → takes_first c axes count t z y x ≡ takes c axes t z y x
  all_first count all t z y x =
      let test = takes_node c.segments axes t z y x in
      ap (λ n. is_asked c t z && list_any (at_segment test c.segments.line) (range_with_len 0 n)) (omega (arith, all)) ∙ ap (λ b. is_asked c t z && b) (sym (any_number test c.segments.line))
