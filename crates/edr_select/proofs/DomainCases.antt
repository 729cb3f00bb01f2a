-- The domain of one place, by how many times and levels there are.
use Rattle.std.proofs.Common.{◌≡◌, List, [], ◌∷◌, length, refl, arith, Some, None, ℤ}
use Rattle.edr_axes.specs.Axes.{value_at}
use Rattle.covjson_value.specs.declared.domains.Domain.TheVariants.{Grid, Point, PointSeries, VerticalProfile}
use Rattle.edr_select.specs.Heads.{domain_at}

pub point : (ts : List ℤ) (y x : ℤ) → length ts ≡ 1 → Point (Some (value_at ts 0)) None y x ≡ domain_at ts None (y, x)
point [] y x h = absurd (omega (arith, h))
point (t ∷ []) y x h = refl
point (t ∷ u ∷ ts) y x h = absurd (omega (arith, h))

pub series : (ts : List ℤ) (y x : ℤ) → ¬ (length ts ≡ 1) → PointSeries ts None y x ≡ domain_at ts None (y, x)
series [] y x h = refl
series (t ∷ []) y x h = absurd (h refl)
series (t ∷ u ∷ ts) y x h = refl

pub point_with_level : (ts zs : List ℤ) (y x : ℤ) → length ts ≡ 1 → length zs ≡ 1
    → Point (Some (value_at ts 0)) (Some (value_at zs 0)) y x ≡ domain_at ts (Some zs) (y, x)
point_with_level [] zs y x h k = absurd (omega (arith, h))
point_with_level (t ∷ []) [] y x h k = absurd (omega (arith, k))
point_with_level (t ∷ []) (z ∷ []) y x h k = refl
point_with_level (t ∷ []) (z ∷ w ∷ zs) y x h k = absurd (omega (arith, k))
point_with_level (t ∷ u ∷ ts) zs y x h k = absurd (omega (arith, h))

pub profile : (ts zs : List ℤ) (y x : ℤ) → length ts ≡ 1 → ¬ (length zs ≡ 1) → VerticalProfile (Some (value_at ts 0)) zs y x ≡ domain_at ts (Some zs) (y, x)
profile [] zs y x h k = absurd (omega (arith, h))
profile (t ∷ []) [] y x h k = refl
profile (t ∷ []) (z ∷ []) y x h k = absurd (k refl)
profile (t ∷ []) (z ∷ w ∷ zs) y x h k = refl
profile (t ∷ u ∷ ts) zs y x h k = absurd (omega (arith, h))

pub series_with_level : (ts zs : List ℤ) (y x : ℤ) → ¬ (length ts ≡ 1) → length zs ≡ 1 → PointSeries ts (Some (value_at zs 0)) y x ≡ domain_at ts (Some zs) (y, x)
series_with_level [] [] y x h k = absurd (omega (arith, k))
series_with_level [] (z ∷ []) y x h k = refl
series_with_level [] (z ∷ w ∷ zs) y x h k = absurd (omega (arith, k))
series_with_level (t ∷ []) zs y x h k = absurd (h refl)
series_with_level (t ∷ u ∷ ts) [] y x h k = absurd (omega (arith, k))
series_with_level (t ∷ u ∷ ts) (z ∷ []) y x h k = refl
series_with_level (t ∷ u ∷ ts) (z ∷ w ∷ zs) y x h k = absurd (omega (arith, k))

pub grid : (ts zs : List ℤ) (y x : ℤ) → ¬ (length ts ≡ 1) → ¬ (length zs ≡ 1) → Grid (Some ts) (Some zs) (y ∷ []) (x ∷ []) ≡ domain_at ts (Some zs) (y, x)
grid [] [] y x h k = refl
grid [] (z ∷ []) y x h k = absurd (k refl)
grid [] (z ∷ w ∷ zs) y x h k = refl
grid (t ∷ []) zs y x h k = absurd (h refl)
grid (t ∷ u ∷ ts) [] y x h k = refl
grid (t ∷ u ∷ ts) (z ∷ []) y x h k = absurd (k refl)
grid (t ∷ u ∷ ts) (z ∷ w ∷ zs) y x h k = refl
