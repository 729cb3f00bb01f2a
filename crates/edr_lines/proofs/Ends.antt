-- The first and the last number that pass, and the least box of rows and columns: of two tests together.
use Rattle.std.proofs.Common.{◌≡◌, ℕ, ◌<◌, ◌≤◌, Bool, true, false, List, [], ◌∷◌, refl, ap₂, sym, ◌∙◌, subst, arith, inl, inr}
use Rattle.std.specs.Prelude.{◌||◌, min, max, Option, None, Some}
use Rattle.std.specs.List.{list_any, range_with_len}
use Rattle.std.proofs.lemmas.Bool.{cases_lt, or_left, or_right, or_cases}
use Rattle.edr_select.specs.ListLaws.{both, passes_at, any_range}
use Rattle.edr_lines.specs.declared.spreads.Extent.{Extent}
use Rattle.edr_lines.specs.Taken.{Counts}
use Rattle.edr_lines.specs.Boxes.{AreEnds, some_in, some_along, IsExtentOf, NonePasses, MatchPlane, extent_with, joined_extent}

-- ---- truth values

or_four : (a b c d : Bool) → ((a || b) || (c || d)) ≡ ((a || c) || (b || d))
or_four true b c d = refl
or_four false true true d = refl
or_four false true false d = refl
or_four false false c d = refl

pub any_or : {X : Type 0} (t u : X → Bool) (xs : List X) → list_any (λ x. t x || u x) xs ≡ (list_any t xs || list_any u xs)
any_or t u [] = refl
any_or t u (x ∷ xs) = ap₂ (λ b c. b || c) refl (any_or t u xs) ∙ or_four (t x) (u x) (list_any t xs) (list_any u xs)

pub any_none : (t : ℕ → Bool) (n : ℕ) → ((k : ℕ) → k < n → t k ≡ false) → list_any t (range_with_len 0 n) ≡ false
any_none t n none = here (list_any t (range_with_len 0 n)) refl
  where
    here : (b : Bool) → list_any t (range_with_len 0 n) ≡ b → list_any t (range_with_len 0 n) ≡ false
    here false e = e
    here true e = let f = passes_at t 0 n e in absurd (false_true (sym (none f.place (omega (arith, f.high))) ∙ f.passes))
      where
        false_true : false ≡ true → ⊥
        false_true e = cc

-- ---- ends

module _ (t u : ℕ → Bool) (n : ℕ) where
  pub ends_with : (f l g m : ℕ) → AreEnds t n f l → AreEnds u n g m → AreEnds (λ k. t k || u k) n (min f g) (max l m)
  ends_with f l g m one other = record {
    inside = omega (arith, one.inside, other.inside);
    first_passes = elim (cases_lt g f) [
      | inl lt ↦ subst (λ (k : ℕ). (t k || u k) ≡ true) (omega (arith, lt)) (or_right (t g) (u g) other.first_passes)
      | inr ge ↦ subst (λ (k : ℕ). (t k || u k) ≡ true) (omega (arith, ge)) (or_left (t f) (u f) one.first_passes)
    ];
    last_passes = elim (cases_lt l m) [
      | inl lt ↦ subst (λ (k : ℕ). (t k || u k) ≡ true) (omega (arith, lt)) (or_right (t m) (u m) other.last_passes)
      | inr ge ↦ subst (λ (k : ℕ). (t k || u k) ≡ true) (omega (arith, ge)) (or_left (t l) (u l) one.last_passes)
    ];
    low = λ k below h. elim (or_cases (t k) (u k) h) [
      | inl a ↦ omega (arith, one.low k below a)
      | inr b ↦ omega (arith, other.low k below b)
    ];
    high = λ k below h. elim (or_cases (t k) (u k) h) [
      | inl a ↦ omega (arith, one.high k below a)
      | inr b ↦ omega (arith, other.high k below b)
    ];
  }

  pub ends_same : ((k : ℕ) → k < n → t k ≡ u k) → (f l : ℕ) → AreEnds t n f l → AreEnds u n f l
  ends_same same f l e =
      let order : f ≤ l = e.low l e.inside e.last_passes in
      record {
        inside = e.inside;
        first_passes = sym (same f (omega (arith, order, e.inside))) ∙ e.first_passes;
        last_passes = sym (same l e.inside) ∙ e.last_passes;
        low = λ k below h. e.low k below (same k below ∙ h);
        high = λ k below h. e.high k below (same k below ∙ h);
      }

-- ---- extents

pub any_same : (f g : ℕ → Bool) (m : ℕ) → ((k : ℕ) → k < m → f k ≡ g k) → list_any f (range_with_len 0 m) ≡ list_any g (range_with_len 0 m)
any_same f g m agree =
    both (list_any f (range_with_len 0 m)) (list_any g (range_with_len 0 m))
    (λ h. let p = passes_at f 0 m h in any_range g 0 m p.place (omega arith) (omega (arith, p.high)) (sym (agree p.place (omega (arith, p.high))) ∙ p.passes))
    (λ h. let p = passes_at g 0 m h in any_range f 0 m p.place (omega arith) (omega (arith, p.high)) (agree p.place (omega (arith, p.high)) ∙ p.passes))

-- tests that agree on a plane
module _ (n : Counts) (t u : ℕ → ℕ → Bool) (same : (y x : ℕ) → y < n.rows → x < n.columns → t y x ≡ u y x) where
  pub extent_same : (one : Extent) → IsExtentOf n t one → IsExtentOf n u one
  extent_same one e = record {
    rows = ends_same (some_in t n.columns) (some_in u n.columns) n.rows (λ y below. any_same (t y) (u y) n.columns (λ x inside. same y x below inside)) one.top one.bottom e.rows;
    columns = ends_same (some_along t n.rows) (some_along u n.rows) n.columns (λ x inside. any_same (λ y. t y x) (λ y. u y x) n.rows (λ y below. same y x below inside)) one.left one.right e.columns;
  }

  pub plane_same : (found : Option Extent) → MatchPlane n t found → MatchPlane n u found
  plane_same None none = λ y x hy hx. sym (same y x hy hx) ∙ none y x hy hx
  plane_same (Some one) e = extent_same one e

or_false : (b c : Bool) → c ≡ false → (b || c) ≡ b
or_false true c h = refl
or_false false c h = h

false_or : (b c : Bool) → b ≡ false → (b || c) ≡ c
false_or true c h = cc
false_or false c h = refl

module _ (n : Counts) (t u : ℕ → ℕ → Bool) where
  abbrev both_of : ℕ → ℕ → Bool
  both_of y x = t y x || u y x

  extents_with : (one other : Extent) → IsExtentOf n t one → IsExtentOf n u other → IsExtentOf n both_of (extent_with one other)
  extents_with one other e f = record {
    rows = ends_same (λ y. some_in t n.columns y || some_in u n.columns y) (some_in both_of n.columns) n.rows (λ y below. sym (any_or (t y) (u y) (range_with_len 0 n.columns)))
        (min one.top other.top) (max one.bottom other.bottom)
        (ends_with (some_in t n.columns) (some_in u n.columns) n.rows one.top one.bottom other.top other.bottom e.rows f.rows);
    columns = ends_same (λ x. some_along t n.rows x || some_along u n.rows x) (some_along both_of n.rows) n.columns (λ x below. sym (any_or (λ y. t y x) (λ y. u y x) (range_with_len 0 n.rows)))
        (min one.left other.left) (max one.right other.right)
        (ends_with (some_along t n.rows) (some_along u n.rows) n.columns one.left one.right other.left other.right e.columns f.columns);
  }

  -- with an extent more
  pub plane_with : (found : Option Extent) (other : Extent) → MatchPlane n t found → IsExtentOf n u other → IsExtentOf n both_of (joined_extent found other)
  plane_with None other none f = extent_same n u both_of (λ y x hy hx. sym (false_or (t y x) (u y x) (none y x hy hx))) other f
  plane_with (Some one) other e f = extents_with one other e f

  -- with no more nodes
  pub plane_none : (found : Option Extent) → MatchPlane n t found → NonePasses n u → MatchPlane n both_of found
  plane_none found e none = plane_same n t both_of (λ y x hy hx. sym (or_false (t y x) (u y x) (none y x hy hx))) found e
