-- Rows of a grid whose columns are told.
use Rattle.std.proofs.Common.{◌≡◌, ℕ, suc, ◌+◌, ◌<◌, Bool, false, List, [], ◌∷◌, ◌++◌, length, get_or, take, map, ℤ, pos, refl, ap, ap₂, sym, ◌∙◌, subst, arith}
use Rattle.std.proofs.Math.Seq.{take-suc}
use Rattle.std.proofs.lemmas.List.{get_or-map, map-append, length-map}
use Rattle.edr_base.specs.declared.places.Spot.{Spot}
use Rattle.edr_axes.specs.Axes.{value_at}
use Rattle.edr_geometry.specs.Masks.{row_of, column_of, spot_at}

-- one item more
pub map_more : {X Y : Type 0} (f : X → Y) (xs : List X) (k : ℕ) (d : X) → k < length xs → map f (take (k + 1) xs) ≡ map f (take k xs) ++ f (get_or xs k d) ∷ []
map_more f xs k d inside =
    let next : k + 1 ≡ suc k = omega arith in
    ap (λ n. map f (take n xs)) next ∙ ap (map f) (take-suc xs k d inside) ∙ map-append f (take k xs) (get_or xs k d ∷ [])

-- tests that agree make one column
pub column_agrees : (t u : Spot → Bool) (x : ℤ) (ys : List ℤ) → ((spot : Spot) → t spot ≡ u spot) → column_of t x ys ≡ column_of u x ys
column_agrees t u x [] same = refl
column_agrees t u x (y ∷ ys) same = ap₂ (λ b bs. b ∷ bs) (same (spot_at y x)) (column_agrees t u x ys same)

module _ (test : Spot → Bool) (ys : List ℤ) (y : ℕ) (inside : y < length ys) where
  -- what the columns have of a row is the row
  pub row_across : (xs : List ℤ) → map (λ mask. get_or mask y false) (map (λ x. column_of test x ys) xs) ≡ row_of test (value_at ys y) xs
  row_across [] = refl
  row_across (x ∷ xs) =
      ap₂ (λ b bs. b ∷ bs) (get_or-map (λ v. test (spot_at v x)) ys y (pos 0) false inside) (row_across xs)

  -- each column has the row
  pub has_row : (xs : List ℤ) (k : ℕ) (d : List Bool) → k < length (map (λ x. column_of test x ys) xs) → y < length (get_or (map (λ x. column_of test x ys) xs) k d)
  has_row xs k d low =
      subst (λ (mask : List Bool). y < length mask) (sym (get_or-map (λ x. column_of test x ys) xs k (pos 0) d (omega (arith, low, length-map xs (λ x. column_of test x ys)))))
      (omega (arith, inside, length-map ys (λ v. test (spot_at v (get_or xs k (pos 0))))))
