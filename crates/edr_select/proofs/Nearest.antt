-- One value of an axis is nearest, and so one node is nearest to a point.
use Rattle.std.proofs.Common.{◌≡◌, ◌≢◌, ℕ, zero, suc, ◌+◌, ◌*◌, ◌<◌, ◌≤◌, Bool, true, false, List, [], ◌∷◌, length, refl, ap, ap₂, sym, ◌∙◌, arith, inl, inr, ℤ, int_lt, Contains, div-add-mod'}
use Rattle.std.specs.Prelude.{◌&&◌, ◌||◌, not, nat_lt, nat_le}
use Rattle.std.specs.List.{list_all, list_any}
use Rattle.std.proofs.lemmas.Bool.{cases_lt}
use Rattle.std.proofs.lemmas.Bool.Decides.{nat_tests}
use Rattle.edr_base.specs.declared.places.Position.{Position}
use Rattle.edr_axes.specs.Axes.{value_at, distance, IsAscending, IsNearest}
use Rattle.edr_axes.specs.AxisLaws.{ascending_far, test_below}
use Rattle.edr_wkt.specs.declared.geometry.Geometry.{Geometry}
use Rattle.edr_wkt.specs.Geometries.{positions_of}
use Rattle.edr_edition.specs.Values.{InstanceValue}
use Rattle.edr_query.specs.declared.shapes.Shape.{Shape}
use Rattle.edr_select.specs.KeptLaws.{one_kept}
use Rattle.edr_query.specs.declared.shapes.Shape.TheVariants as at
use Rattle.edr_query.specs.Values.{QueryValue}
use Rattle.edr_select.specs.Wanted.{is_along, is_nearest}
use Rattle.edr_select.specs.Choices.{TakesEach, takes_node, Chosen, chosen, is_nearest_place, row_of, column_of}
use Rattle.edr_select.specs.ListLaws.{some_member}
use Rattle.edr_select.specs.GridLaws.{IsGrid}
use Rattle.edr_select.proofs.Picks.{takes_position}
use Rattle.edr_select.proofs.ChosenLaws as laws

abbrev closer : ℤ → ℤ → ℤ → Bool
closer c value other = nat_le (distance value c) (distance other c) && (not (int_lt other value) || nat_lt (distance value c) (distance other c))

first_true : (b c : Bool) → (b && c) ≡ true → b ≡ true
first_true true c h = refl
first_true false c h = h

second_true : (b c : Bool) → (b && c) ≡ true → c ≡ true
second_true true c h = h
second_true false c h = cc

all_at : (t : ℤ → Bool) (xs : List ℤ) → list_all t xs ≡ true → (k : ℕ) → k < length xs → t (value_at xs k) ≡ true
all_at t [] h k inside = absurd (omega arith)
all_at t (x ∷ xs) h zero inside = first_true (t x) (list_all t xs) h
all_at t (x ∷ xs) h (suc k) inside = all_at t xs (second_true (t x) (list_all t xs) h) k (omega arith)

least_of : (a b : ℕ) (lower : Bool) → (nat_le a b && (not lower || nat_lt a b)) ≡ true → a ≤ b
least_of a b lower h = grind (arith, nat_tests)

lower_of : (a b : ℕ) (lower : Bool) → lower ≡ true → (nat_le a b && (not lower || nat_lt a b)) ≡ true → a < b
lower_of a b lower e h = grind (arith, nat_tests)

-- a value that passes is the nearest
pub nearest_from_test : (values : List ℤ) (c : ℤ) (k : ℕ) → IsAscending values → k < length values → is_nearest values c (value_at values k) ≡ true
    → IsNearest values c k
nearest_from_test values c k ascend inside h = record {
  inside = inside;
  least = λ other inner. least_of (distance (value_at values k) c) (distance (value_at values other) c) (int_lt (value_at values other) (value_at values k)) (all_at (closer c (value_at values k)) values h other inner);
  lower = λ other lt. lower_of (distance (value_at values k) c) (distance (value_at values other) c) (int_lt (value_at values other) (value_at values k))
      (test_below (value_at values other) (value_at values k) (ascending_far values ascend other k lt inside)) (all_at (closer c (value_at values k)) values h other (omega arith));
}

one_nearest : (values : List ℤ) (c : ℤ) (k l : ℕ) → IsNearest values c k → IsNearest values c l → k ≡ l
one_nearest values c k l a b =
    elim (cases_lt k l) [
      | inl lt ↦ absurd (omega (arith, b.lower k lt, a.least l b.inside))
      | inr ge ↦ elim (cases_lt l k) [
        | inl lt ↦ absurd (omega (arith, a.lower l lt, b.least k a.inside))
        | inr le ↦ omega arith
      ]
    ]

-- of two values that pass, each is the other
pub one_passes : (values : List ℤ) (c : ℤ) → IsAscending values → (k l : ℕ) → k < length values → l < length values
    → is_nearest values c (value_at values k) ≡ true → is_nearest values c (value_at values l) ≡ true → k ≡ l
one_passes values c ascend k l hk hl a b = one_nearest values c k l (nearest_from_test values c k ascend hk a) (nearest_from_test values c l ascend hl b)

-- ---- one point

near_parts : (a b c d : Bool) → ((a && b && c && d) || false) ≡ true → (c ≡ true) × (d ≡ true)
near_parts true true true true h = (refl, refl)
near_parts true true true false h = cc
near_parts true true false d h = cc
near_parts true false c d h = cc
near_parts false b c d h = cc

module _ (i : InstanceValue) (q : QueryValue) (geometry : Geometry) (shape : q.shape ≡ at.Position geometry) (g : IsGrid i) (point : Position)
    (alone : positions_of geometry ≡ point ∷ []) where
  abbrev c : Chosen
  c = chosen i q

  each : TakesEach q.shape
  each = takes_position q geometry shape

  -- the node of a number is taken where it is the nearest to the point
  taken_is : (spot : ℕ) → takes_node i q.shape (row_of i.xs spot) (column_of i.xs spot) ≡ list_any (is_nearest_place i.ys i.xs (row_of i.xs spot) (column_of i.xs spot)) (point ∷ [])
  taken_is spot =
      ap (λ (k : Shape). takes_node i k (row_of i.xs spot) (column_of i.xs spot)) shape
      ∙ ap (list_any (is_nearest_place i.ys i.xs (row_of i.xs spot) (column_of i.xs spot))) alone

  parts : (spot : ℕ) → takes_node i q.shape (row_of i.xs spot) (column_of i.xs spot) ≡ true
      → (is_nearest i.ys point.y (value_at i.ys (row_of i.xs spot)) ≡ true) × (is_nearest i.xs point.x (value_at i.xs (column_of i.xs spot)) ≡ true)
  parts spot h =
      near_parts (is_along i.ys point.y) (is_along i.xs point.x) (is_nearest i.ys point.y (value_at i.ys (row_of i.xs spot))) (is_nearest i.xs point.x (value_at i.xs (column_of i.xs spot)))
      (sym (taken_is spot) ∙ h)

  same_spot : (k l : ℕ) → k < length i.ys * length i.xs → l < length i.ys * length i.xs
      → takes_node i q.shape (row_of i.xs k) (column_of i.xs k) ≡ true → takes_node i q.shape (row_of i.xs l) (column_of i.xs l) ≡ true → l ≡ k
  same_spot k l hk hl near_k near_l =
      let a = parts k near_k in
      let b = parts l near_l in
      let row : row_of i.xs l ≡ row_of i.xs k = one_passes i.ys point.y g.ys.ascending (row_of i.xs l) (row_of i.xs k) (laws.row_below i q each g l hl) (laws.row_below i q each g k hk) b.0 a.0 in
      let column : column_of i.xs l ≡ column_of i.xs k = one_passes i.xs point.x g.xs.ascending (column_of i.xs l) (column_of i.xs k) (laws.column_below i q each g l) (laws.column_below i q each g k) b.1 a.1 in
      sym (div-add-mod' l (length i.xs)) ∙ (ap₂ (λ r x. r * length i.xs + x) row column ∙ div-add-mod' k (length i.xs))

  -- a spot that is chosen is the only one
  pub only_spot : (spot : ℕ) → Contains c.spots spot → c.spots ≡ spot ∷ []
  only_spot spot m =
      let below = laws.spot_below i q each g spot m in
      one_kept (λ k. takes_node i q.shape (row_of i.xs k) (column_of i.xs k)) 0 (length i.ys * length i.xs) spot
      (omega arith) (omega (arith, below)) (laws.spot_taken i q each g spot m)
      (λ l low high near. same_spot spot l below (omega (arith, high)) (laws.spot_taken i q each g spot m) near)

  -- where there is one, it is alone
  pub one_spot : c.spots ≢ [] → (spot : ℕ) × (c.spots ≡ spot ∷ [])
  one_spot some = let m = some_member c.spots some in (m.item, only_spot m.item m.among)
