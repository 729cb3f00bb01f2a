-- Between the least and the greatest value of an axis.
use Rattle.std.proofs.Common.{◌≡◌, ℕ, zero, suc, ◌-◌, ◌<◌, Bool, true, false, List, [], ◌∷◌, length, refl, ap₂, arith, ℤ, ◌≤ℤ◌, int_le}
use Rattle.std.specs.Prelude.{◌&&◌, ◌||◌}
use Rattle.std.specs.List.{list_any}
use Rattle.std.proofs.lemmas.Int.{ints}
use Rattle.edr_axes.specs.Axes.{value_at, IsAxis}
use Rattle.edr_axes.specs.AxisLaws.{ascending_at_most}
use Rattle.edr_select.specs.Wanted.{is_along}
use Rattle.edr_select.specs.ListLaws.{both}

pub record At (t : ℤ → Bool) (values : List ℤ) : Type 0 where
  pub place : ℕ
  pub inside : place < length values
  pub passes : t (value_at values place) ≡ true

any_at : (t : ℤ → Bool) (values : List ℤ) → list_any t values ≡ true → At t values
any_at t [] h = cc
any_at t (v ∷ vs) h = here (t v) refl h (any_at t vs)
  where
    here : (b : Bool) → t v ≡ b → (b || list_any t vs) ≡ true → (list_any t vs ≡ true → At t vs) → At t (v ∷ vs)
    here true e h later = record { place = 0; inside = omega arith; passes = e }
    here false e h later = let f = later h in record { place = suc f.place; inside = omega (arith, f.inside); passes = f.passes }

any_from : (t : ℤ → Bool) (values : List ℤ) (k : ℕ) → k < length values → t (value_at values k) ≡ true → list_any t values ≡ true
any_from t [] k inside h = absurd (omega arith)
any_from t (v ∷ vs) zero inside h = rw h refl
any_from t (v ∷ vs) (suc k) inside h = later (t v) (list_any t vs) (any_from t vs k (omega arith) h)
  where
    later : (b c : Bool) → c ≡ true → (b || c) ≡ true
    later true c e = refl
    later false c e = e

lower : (a b c : ℤ) → a ≤ℤ b → int_le b c ≡ true → int_le a c ≡ true
lower a b c h e = grind (arith, ints)

upper : (a b c : ℤ) → b ≤ℤ a → int_le c b ≡ true → int_le c a ≡ true
upper a b c h e = grind (arith, ints)

pub along_is : (values : List ℤ) (c : ℤ) → IsAxis values → (int_le (value_at values 0) c && int_le c (value_at values (length values - 1))) ≡ is_along values c
along_is values c axis = ap₂ (λ b d. b && d)
    (both (int_le (value_at values 0) c) (list_any (λ v. int_le v c) values)
    (λ e. any_from (λ v. int_le v c) values 0 axis.some e)
    (λ e. let f = any_at (λ v. int_le v c) values e in lower (value_at values 0) (value_at values f.place) c (ascending_at_most values axis.ascending 0 f.place (omega arith) f.inside) f.passes))
    (both (int_le c (value_at values (length values - 1))) (list_any (λ v. int_le c v) values)
    (λ e. any_from (λ v. int_le c v) values (length values - 1) (omega (arith, axis.some)) e)
    (λ e. let f = any_at (λ v. int_le c v) values e in upper (value_at values (length values - 1)) (value_at values f.place) c (ascending_at_most values axis.ascending f.place (length values - 1) (omega (arith, f.inside)) (omega (arith, axis.some))) f.passes))
