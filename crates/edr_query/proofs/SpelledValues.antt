-- Written values read back.
use Rattle.std.proofs.Common.{◌≡◌, inl, inr, ℕ, ℤ, pos, negsuc, ◌<◌, ◌≤◌, ◌^◌, ◌*◌, List, [], ◌∷◌, ◌++◌, length, All, refl, ap, sym, ◌∙◌, subst, arith, append-nil, Some, None, codes}
use Rattle.std.specs.Prelude.{IfSome, unsigned_abs}
use Rattle.std.specs.Fmt.{decimal, signed_decimal}
use Rattle.std.specs.List.{AllByRecursion}
use Rattle.std.specs.Str.Parse.{AllDigits, digits_value}
use Rattle.std.specs.declared.option.Option.{Option}
use Rattle.std.proofs.lemmas.Fmt.{decimal_is_IsNumeral}
use Rattle.std.proofs.lemmas.Int.{ints}
use Rattle.std.proofs.lemmas.List.Elements.{recursion_from_All}
use Rattle.edr_base.specs.Limits.{distance_limit, IsMetres}
use Rattle.edr_base.specs.Numbers.{IsWhole}
use Rattle.edr_base.specs.NumberLaws.{numeral-decimal}
use Rattle.edr_axes.specs.declared.times.Times.{Times}
use Rattle.edr_axes.specs.declared.times.Times.TheVariants as some_times
use Rattle.edr_axes.specs.declared.levels.Levels.{Levels}
use Rattle.edr_axes.specs.declared.levels.Levels.TheVariants as some_levels
use Rattle.edr_axes.specs.InstantGrammar.{WrittenTimesAreInstants}
use Rattle.edr_axes.specs.Times.{IsTimes, IsTimesText, IsSideText, IsSideTime}
use Rattle.edr_axes.specs.Levels.{IsLevel, IsLevelText, AreLevelTexts, IsLevelsText}
use Rattle.edr_wkt.specs.Spelling.{joined}
use Rattle.edr_query.specs.declared.shapes.BoundingBox.{BoundingBox}
use Rattle.edr_axes.specs.Distances.{IsUnit, IsDistance}
use Rattle.edr_query.specs.Boxes.{IsBoxText, numbers_with}
use Rattle.edr_query.specs.Queries.{IsBox, IsLevelsAsked}
use Rattle.edr_query.specs.Spelling.{side_text, times_text, levels_text, box_text}

-- ---- numbers

whole_back : (z : ℤ) → unsigned_abs z < 2 ^ 64 → IsWhole (signed_decimal z) z
whole_back z h = record { before = 0; numeral = signed_decimal z; after = 0; text_is = sym (append-nil (signed_decimal z)); is_numeral = numeral-decimal z h }

level_back : (z : ℤ) → IsLevel z → IsLevelText (signed_decimal z) z
level_back z h = record { whole = whole_back z (omega (arith, h)); within = h }

levels_back_list : (z : ℤ) (zs : List ℤ) → AllByRecursion IsLevel (z ∷ zs) → AreLevelTexts (joined signed_decimal (z ∷ zs)) (z ∷ zs)
levels_back_list z [] all = subst (λ (t : List ℕ). IsLevelText t z) (sym (append-nil (signed_decimal z))) (level_back z all.0)
levels_back_list z (y ∷ ys) all = (signed_decimal z, joined signed_decimal (y ∷ ys), refl, level_back z all.0, levels_back_list y ys all.1)

unit_m : IsUnit (codes "m") 1
unit_m = inl (refl, refl)

distance_at : (n : ℕ) → n ≤ distance_limit → IsDistance (signed_decimal (pos n)) (codes "m") (pos n)
distance_at n small =
    let d = decimal_is_IsNumeral n (omega (arith, small)) in
    let P : List ℕ → Type 0 = λ l. AllDigits 10 l in
    let value : digits_value 10 (decimal n ++ []) ≡ n = ap (digits_value 10) (append-nil (decimal n)) ∙ d.1 in
    record {
      whole = decimal n;
      fraction = [];
      scale = 1;
      size = n;
      unit_is = unit_m;
      number_is = inr (refl, refl);
      some = d.0.0;
      are_digits = subst P (sym (append-nil (decimal n))) d.0.1;
      size_is = ap (λ x. x * 1) (sym value);
      within = small;
      metres_is = refl;
    }

pub distance_back : (d : ℤ) → IsMetres d → IsDistance (signed_decimal d) (codes "m") d
distance_back (pos n) m = let h = m.greatest in distance_at n (omega (arith, ints, h))
distance_back (negsuc n) m = let h = m.least in absurd (omega (arith, ints, h))

box_at : (box : BoundingBox) (l : Option (ℤ × ℤ)) → IsBox box → IfSome l (λ range. IsLevel range.0 × IsLevel range.1) → AreLevelTexts (joined signed_decimal (numbers_with box.lo box.hi l)) (numbers_with box.lo box.hi l)
box_at box None is h = levels_back_list box.lo.x (box.lo.y ∷ box.hi.x ∷ box.hi.y ∷ []) (is.lo_in.0, (is.lo_in.1, (is.hi_in.0, (is.hi_in.1, tt))))
box_at box (Some (low, high)) is h =
    levels_back_list box.lo.x (box.lo.y ∷ low ∷ box.hi.x ∷ box.hi.y ∷ high ∷ []) (is.lo_in.0, (is.lo_in.1, (h.0, (is.hi_in.0, (is.hi_in.1, (h.1, tt))))))

pub box_back : (box : BoundingBox) → IsBox box → IsBoxText (box_text box) box
box_back box is = record { numbers = box_at box box.levels is is.levels_in; ordered = is.ordered; range = is.range }

-- ---- times and levels

side_back : WrittenTimesAreInstants → (side : Option ℤ) → IsSideTime side → IsSideText (side_text side) side
side_back written None h = inr refl
side_back written (Some t) h = written t h

pub times_back : WrittenTimesAreInstants → (t : Times) → IsTimes t → IsTimesText (times_text t) t
times_back written some_times.All h = record { front = codes ".."; back = codes ".."; text_is = refl; first_is = inr refl; last_is = inr refl; in_order = tt }
times_back written (some_times.At t) h = written t h
times_back written (some_times.Between first last) h =
    (h.0, record { front = side_text first; back = side_text last; text_is = refl; first_is = side_back written first h.2; last_is = side_back written last h.3; in_order = h.1 })

list_back : (ls : List ℤ) → 2 ≤ length ls → All IsLevel ls → AreLevelTexts (joined signed_decimal ls) ls
list_back [] two all = absurd (omega (arith, two))
list_back (l ∷ ls) two all = levels_back_list l ls (recursion_from_All IsLevel (l ∷ ls) all)

pub levels_back : (l : Levels) → IsLevelsAsked l → IsLevelsText (levels_text l) l
levels_back some_levels.All h = absurd (h.1 refl)
levels_back (some_levels.At l) h = level_back l h.0
levels_back (some_levels.Between low high) h =
    record { front = signed_decimal low; back = signed_decimal high; text_is = refl; low_is = level_back low h.0.0; high_is = level_back high h.0.1; in_order = h.0.2 }
levels_back (some_levels.List ls) h = (h.0.0, list_back ls h.0.0 h.0.1)
levels_back (some_levels.Series n first step) h =
    record {
      count = signed_decimal n;
      start = signed_decimal first;
      rise = signed_decimal step;
      text_is = refl;
      count_is = level_back n h.0.0;
      first_is = level_back first h.0.1;
      step_is = level_back step h.0.2;
      series = h.0.3;
    }
