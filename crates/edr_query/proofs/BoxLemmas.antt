-- The box of some numbers.
use Rattle.std.proofs.Common.{◌≡◌, ℕ, ℤ, ◌<◌, ◌≤◌, List, [], ◌∷◌, length, refl, ap, sym, ◌∙◌, subst, arith, Some, None, pos}
use Rattle.std.specs.Prelude.{MatchOption}
use Rattle.std.specs.List.{slice_index_or}
use Rattle.std.specs.declared.option.Option.{Option}
use Rattle.edr_query.specs.declared.shapes.BoundingBox.{BoundingBox}
use Rattle.edr_query.specs.Boxes.{numbers_of, IsOrdered, IsRange}
use Rattle.edr_query.specs.Reads.{IsBoxOf}
use Rattle.edr_query.proofs.SaidLemmas.{box_from}

abbrev pub number_at : List ℤ → ℕ → ℤ
number_at xs k = slice_index_or xs k (pos 0)

abbrev pub four_of : List ℤ → BoundingBox
four_of xs = record {
  lo = record { x = number_at xs 0; y = number_at xs 1 };
  hi = record { x = number_at xs 2; y = number_at xs 3 };
  levels = None;
}

abbrev pub six_of : List ℤ → BoundingBox
six_of xs = record {
  lo = record { x = number_at xs 0; y = number_at xs 1 };
  hi = record { x = number_at xs 3; y = number_at xs 4 };
  levels = Some (number_at xs 2, number_at xs 5);
}

abbrev pub Ordered : Option BoundingBox → BoundingBox → Type 0
Ordered r box = MatchOption r (¬ (IsOrdered box)) (λ found. (found ≡ box) × IsOrdered found)

box_is : (xs : List ℤ) (box : BoundingBox) (r : Option BoundingBox) → xs ≡ numbers_of box → IsRange box.levels → Ordered r box → IsBoxOf xs r
box_is xs box (Some found) e range h =
    let P : BoundingBox → Type 0 = λ k. IsRange k.levels in
    (e ∙ ap numbers_of (sym h.0), h.1, subst P (sym h.0) range)
box_is xs box None e range h = λ other same ordered range'. h (subst IsOrdered (sym (box_from box other (sym e ∙ same))) ordered)

list_four : (xs : List ℤ) → 4 ≤ length xs → length xs < 5 → xs ≡ numbers_of (four_of xs)
list_four [] l h = absurd (omega (arith, l))
list_four (a ∷ []) l h = absurd (omega (arith, l))
list_four (a ∷ b ∷ []) l h = absurd (omega (arith, l))
list_four (a ∷ b ∷ c ∷ []) l h = absurd (omega (arith, l))
list_four (a ∷ b ∷ c ∷ d ∷ []) l h = refl
list_four (a ∷ b ∷ c ∷ d ∷ e ∷ xs) l h = absurd (omega (arith, h))

list_six : (xs : List ℤ) → 6 ≤ length xs → length xs < 7 → xs ≡ numbers_of (six_of xs)
list_six [] l h = absurd (omega (arith, l))
list_six (a ∷ []) l h = absurd (omega (arith, l))
list_six (a ∷ b ∷ []) l h = absurd (omega (arith, l))
list_six (a ∷ b ∷ c ∷ []) l h = absurd (omega (arith, l))
list_six (a ∷ b ∷ c ∷ d ∷ []) l h = absurd (omega (arith, l))
list_six (a ∷ b ∷ c ∷ d ∷ e ∷ []) l h = absurd (omega (arith, l))
list_six (a ∷ b ∷ c ∷ d ∷ e ∷ f ∷ []) l h = refl
list_six (a ∷ b ∷ c ∷ d ∷ e ∷ f ∷ g ∷ xs) l h = absurd (omega (arith, h))

pub box_four : (xs : List ℤ) (r : Option BoundingBox) → 4 ≤ length xs → length xs < 5 → Ordered r (four_of xs) → IsBoxOf xs r
box_four xs r l h o = box_is xs (four_of xs) r (list_four xs l h) tt o

pub box_six : (xs : List ℤ) (r : Option BoundingBox) → 6 ≤ length xs → length xs < 7 → IsRange (Some (number_at xs 2, number_at xs 5)) → Ordered r (six_of xs) → IsBoxOf xs r
box_six xs r l h range o = box_is xs (six_of xs) r (list_six xs l h) range o
