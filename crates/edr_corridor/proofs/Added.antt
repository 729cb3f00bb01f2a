-- Segments that are the same as one before, and those that are far from some places.
use Rattle.std.proofs.Common.{◌≡◌, ℕ, suc, ◌+◌, add-one, ◌<◌, arith, Bool, true, false, List, length, get_or, ap, ap₂, sym, ◌∙◌, ℤ, zero-add}
use Rattle.std.specs.Prelude.{◌&&◌}
use Rattle.std.specs.List.{range_with_len}
use Rattle.std.proofs.Math.Bool.{and-false}
use Rattle.std.proofs.lemmas.List.FromFn.{length-range_with_len, get_or-range_with_len}
use Rattle.std.proofs.lemmas.List.Folds.{list_any_at}
use Rattle.edr_base.specs.declared.places.Position.{Position}
use Rattle.edr_axes.specs.Axes.{value_at}
use Rattle.edr_geometry.specs.Masks.{spot_at}
use Rattle.edr_corridor.specs.declared.segment.Segment.{Segment}
use Rattle.edr_corridor.specs.Values.{SegmentsValue}
use Rattle.edr_corridor.specs.Segments.{at_segment, first_takes}
use Rattle.edr_corridor.specs.Boxes.{AddsNothing}
use Rattle.edr_corridor.specs.Parts.{HasNone, IsSegmentAt, has_time, has_height}
use Rattle.edr_corridor.specs.Repeats.{IsRepeat}
use Rattle.edr_corridor.proofs.Lines.{ends_at, taken_at}

-- a segment that passes is one of the first
any_first : (test : Position → Position → Bool) (line : List Position) (count k : ℕ) → k < count → at_segment test line k ≡ true → first_takes test line count ≡ true
any_first test line count k low is =
    list_any_at (at_segment test line) (range_with_len 0 count) k 0 (omega (arith, low, length-range_with_len 0 count))
    (ap (at_segment test line) (get_or-range_with_len 0 count k 0 low ∙ zero-add k) ∙ is)

-- two segments with the same ends
pub same_ends : (line : List Position) (before number : ℕ) (d : Position) → before < number → number + 1 < length line → get_or line before d ≡ get_or line number d
    → get_or line (before + 1) d ≡ get_or line (number + 1) d → IsRepeat line number
same_ends line before number d low inside start end = λ test passes.
    let next : get_or line (suc before) d ≡ get_or line (suc number) d = ap (λ k. get_or line k d) (sym (add-one before)) ∙ end ∙ ap (λ k. get_or line k d) (add-one number) in
    any_first test line number before low
    (ends_at test line before d (omega (arith, low, inside)) ∙ ap₂ test start next ∙ sym (ends_at test line number d (omega (arith, inside))) ∙ passes)

-- a segment that is far from all places takes none of them
pub far_adds : (s : SegmentsValue) (number : ℕ) (segment : Segment) (ys xs : List ℤ) → IsSegmentAt s number segment → HasNone segment ys xs → AddsNothing s number ys xs
far_adds s number segment ys xs is none t z y x y_in x_in passes =
    let both : true ≡ false =
    sym passes ∙ taken_at s number segment t z (spot_at (value_at ys y) (value_at xs x)) is
    ∙ ap (λ near. has_time segment t && (has_height segment z && near)) (none y x y_in x_in)
    ∙ ap (λ b. has_time segment t && b) (and-false (has_height segment z)) ∙ and-false (has_time segment t) in cc
