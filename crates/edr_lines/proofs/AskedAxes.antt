-- The places of times and levels that a corridor asks for, as truth values.
use Rattle.std.proofs.Common.{◌≡◌, ℕ, ◌+◌, ◌<◌, Bool, true, false, List, [], ◌∷◌, length, get_or, take, eqb, refl, ap, sym, ◌∙◌, subst, arith, inl, inr, ℤ, All}
use Rattle.std.proofs.Math.Bool.{or-false}
use Rattle.std.specs.Prelude.{◌||◌, Option, None, Some, length}
use Rattle.std.specs.List.{filter, list_any, range_with_len}
use Rattle.std.proofs.Math.ListN.{set}
use Rattle.std.proofs.lemmas.Bool.{eq-eqb, eqb-true, cases_eq, or_right, ne_eqb}
use Rattle.std.proofs.lemmas.List.{take_more, get_or-set_same, get_or-set_other}
use Rattle.std.proofs.lemmas.List.Elements.{All-filter}
use Rattle.std.proofs.lemmas.List.Folds.{list_any-append}
use Rattle.std.specs.Option.{option_or}
use Rattle.edr_axes.specs.Axes.{axis_length}
use Rattle.edr_query.specs.declared.shapes.Shape.{Shape}
use Rattle.edr_query.specs.declared.shapes.Shape.TheVariants as at
use Rattle.edr_query.specs.Values.{QueryValue}
use Rattle.edr_select.specs.ListLaws.{both, passing, any_member}
use Rattle.edr_select.specs.KeptLaws.{all_below, contains_kept, kept_passes}
use Rattle.edr_select.specs.Wanted.{levels_asked, levels_of}
use Rattle.edr_lines.specs.Corridors.{IsCorridor}

-- ---- places of a list

-- a number is among some
abbrev pub is_among : List ℕ → ℕ → Bool
is_among places k = list_any (λ place. eqb place k) places

-- among one place more
pub among_more : (places : List ℕ) (i k : ℕ) → i < length places → is_among (take (i + 1) places) k ≡ (is_among (take i places) k || eqb (get_or places i 0) k)
among_more places i k inside =
    ap (λ (l : List ℕ). is_among l k) (take_more places i 0 inside) ∙ list_any-append (λ place. eqb place k) (take i places) (get_or places i 0 ∷ [])
    ∙ ap (λ b. is_among (take i places) k || b) (or-false (eqb (get_or places i 0) k))

-- which was set
pub set_among : (places : List ℕ) (i : ℕ) (old : List Bool) → i < length places → get_or places i 0 < length old → ((k : ℕ) → k < length old → get_or old k false ≡ is_among (take i places) k)
    → (k : ℕ) → k < length old → get_or (set old (get_or places i 0) true) k false ≡ is_among (take (i + 1) places) k
set_among places i old inside within before k low = elim (cases_eq k (get_or places i 0)) [
  | inl e ↦ ap (λ n. get_or (set old (get_or places i 0) true) n false) e ∙ get_or-set_same old (get_or places i 0) true false within
      ∙ sym (among_more places i k inside ∙ or_right (is_among (take i places) k) (eqb (get_or places i 0) k) (eq-eqb (get_or places i 0) k (sym e)))
  | inr differs ↦ get_or-set_other old (get_or places i 0) k true false differs ∙ before k low
      ∙ sym (among_more places i k inside ∙ ap (λ b. is_among (take i places) k || b) (ne_eqb (get_or places i 0) k (λ h. differs (sym h)))
      ∙ or-false (is_among (take i places) k))
]

-- ---- places that pass

kept_low : (t : ℕ → Bool) (n : ℕ) → All (λ k. k < n) (filter t (range_with_len 0 n))
kept_low t n = All-filter t (λ k. k < n) (range_with_len 0 n) (all_below n)

kept_among : (t : ℕ → Bool) (n k : ℕ) → k < n → is_among (filter t (range_with_len 0 n)) k ≡ t k
kept_among t n k low =
    both (is_among (filter t (range_with_len 0 n)) k) (t k)
    (λ h. let p = passing (λ place. eqb place k) (filter t (range_with_len 0 n)) h in ap t (sym (eqb-true p.item k p.passes)) ∙ kept_passes t n p.item p.among)
    (λ h. any_member (λ place. eqb place k) (filter t (range_with_len 0 n)) k (contains_kept t n k low h) (eq-eqb k k refl))

-- truth values that tell whether a place is among those that pass tell whether it passes
pub told : (t : ℕ → Bool) (n many : ℕ) (places : List ℕ) (bits : List Bool) → many ≡ n → places ≡ filter t (range_with_len 0 n)
    → ((k : ℕ) → k < many → get_or bits k false ≡ is_among places k) → (k : ℕ) → k < n → get_or bits k false ≡ t k
told t n many places bits same is h k low = h k (omega (arith, same, low)) ∙ ap (λ (l : List ℕ). is_among l k) is ∙ kept_among t n k low

pub all_low : (t : ℕ → Bool) (n many : ℕ) (places : List ℕ) → many ≡ n → places ≡ filter t (range_with_len 0 n) → All (λ k. k < many) places
all_low t n many places same is = subst (λ (l : List ℕ). All (λ k. k < many) l) (sym is) (subst (λ m. All (λ k. k < m) (filter t (range_with_len 0 n))) (sym same) (kept_low t n))

-- ---- levels

pub same_count : (zs : Option (List ℤ)) → axis_length zs ≡ axis_length zs
same_count None = refl
same_count (Some values) = refl

either_none : {V : Type 0} (asked : Option V) → option_or asked None ≡ asked
either_none None = refl
either_none (Some one) = refl

none_of_shape : (shape : Shape) → IsCorridor shape → levels_of shape ≡ None
none_of_shape (at.Corridor geometry width height) h = refl
none_of_shape (at.Position geometry) h = elim h [ ]
none_of_shape (at.Radius geometry within) h = elim h [ ]
none_of_shape (at.Area geometry) h = elim h [ ]
none_of_shape (at.Cube lo hi levels) h = elim h [ ]
none_of_shape (at.Trajectory geometry) h = elim h [ ]
none_of_shape (at.Location station) h = elim h [ ]

-- a corridor asks for levels by its query alone
pub corridor_levels : (q : QueryValue) → IsCorridor q.shape → levels_asked q ≡ q.levels
corridor_levels q h = ap (option_or q.levels) (none_of_shape q.shape h) ∙ either_none q.levels
