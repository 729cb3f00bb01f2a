-- Levels of a list, by their places on an axis.
use Rattle.std.proofs.Common.{◌≡◌, ℕ, ◌+◌, ◌-◌, ◌<◌, Bool, true, List, [], ◌∷◌, ◌++◌, length, get_or, take, Contains, Some, None, ap, sym, ◌∙◌, arith, eqb, ℤ}
use Rattle.std.specs.Prelude.{◌||◌}
use Rattle.std.specs.Ordering.{int_eq}
use Rattle.std.specs.List.{list_any, range_with_len}
use Rattle.edr_axes.specs.declared.levels.Levels.{Levels}
use Rattle.edr_axes.specs.declared.levels.Levels.TheVariants as levels
use Rattle.std.proofs.lemmas.Bool.Decides.{nat_tests, Decides-int_eq}
use Rattle.std.proofs.lemmas.List.Folds.{list_any_more}
use Rattle.edr_axes.specs.Axes.{value_at, IsAscending}
use Rattle.edr_select.specs.ListLaws.{both}
use Rattle.edr_select.proofs.AxisPlaces.{value_told, value_lacks}
use Rattle.edr_select.specs.Choices.{level_places}
use Rattle.edr_select.proofs.FoundPlaces.{Found, found_more, found_same, all_taken}

abbrev pub listed : List ℤ → List ℤ → ℕ → Bool
listed values levels k = list_any (int_eq (value_at values k)) levels

equal_test : (a b : ℕ) → a ≡ b → eqb a b ≡ true
equal_test a b e = grind (arith, nat_tests)

test_equal : (a b : ℕ) → eqb a b ≡ true → a ≡ b
test_equal a b e = grind (arith, nat_tests)

-- a level of the list is found
pub level_more : (values levels : List ℤ) (places : List ℕ) (i place : ℕ) (level : ℤ) → IsAscending values → i < length levels → get_or levels i level ≡ level
    → place < length values → value_at values place ≡ level → Found (length values) places (listed values (take i levels)) → Found (length values) (places ++ place ∷ []) (listed values (take (i + 1) levels))
level_more values levels places i place level up inside at in_place is so_far =
    found_more (length values) place places (listed values (take i levels)) (λ k. int_eq (value_at values k) level) (listed values (take (i + 1) levels)) so_far in_place
    (λ k within. both (int_eq (value_at values k) level) (eqb place k)
    (λ e. equal_test place k (sym (value_told values level place up in_place is k within e)))
    (λ e. (Decides-int_eq (value_at values k) level).1 (ap (value_at values) (sym (test_equal place k e)) ∙ is)))
    (λ k. list_any_more (int_eq (value_at values k)) levels i level inside ∙ ap (λ v. listed values (take i levels) k || int_eq (value_at values k) v) at)

-- a level of the list isn't on the axis
pub level_same : (values levels : List ℤ) (places : List ℕ) (i : ℕ) (level : ℤ) → i < length levels → get_or levels i level ≡ level
    → (Contains values level → ⊥) → Found (length values) places (listed values (take i levels)) → Found (length values) places (listed values (take (i + 1) levels))
level_same values levels places i level inside at none so_far =
    found_same (length values) places (listed values (take i levels)) (λ k. int_eq (value_at values k) level) (listed values (take (i + 1) levels)) so_far
    (λ k within. value_lacks values level none k within)
    (λ k. list_any_more (int_eq (value_at values k)) levels i level inside ∙ ap (λ v. listed values (take i levels) k || int_eq (value_at values k) v) at)

-- ---- all of them

pub all_levels : (asked : Levels) (values : List ℤ) (count : ℕ) → asked ≡ levels.All → count ≡ length values → range_with_len 0 (count - 0) ≡ level_places (Some asked) (Some values)
all_levels asked values count all is = ap (range_with_len 0) (omega (arith, is)) ∙ all_taken 0 (length values) ∙ ap (λ l. level_places (Some l) (Some values)) (sym all)

pub none_asked : (values : List ℤ) (count : ℕ) → count ≡ length values → range_with_len 0 (count - 0) ≡ level_places None (Some values)
none_asked values count is = ap (range_with_len 0) (omega (arith, is)) ∙ all_taken 0 (length values)
