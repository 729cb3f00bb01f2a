-- The nodes of a plane that are nearest to points, by their numbers.
use Rattle.std.proofs.Common.{◌≡◌, ℕ, zero, suc, ◌+◌, ◌*◌, ◌/◌, ◌%◌, ◌<◌, Bool, true, false, List, [], ◌∷◌, ◌++◌, length, get_or, take, refl, ap, ap₂, sym, ◌∙◌, arith, eqb, ℤ, Some}
use Rattle.std.specs.Prelude.{◌||◌, ◌&&◌}
use Rattle.std.specs.List.{list_any}
use Rattle.std.proofs.lemmas.Bool.Decides.{nat_tests}
use Rattle.std.proofs.Math.Nat.{mod-lt, div-lt_iff_lt-mul}
use Rattle.std.proofs.lemmas.Nat.{div-add-mod', same_from_place}
use Rattle.std.proofs.lemmas.List.Folds.{list_any_more}
use Rattle.edr_base.specs.declared.places.Position.{Position}
use Rattle.edr_axes.specs.Axes.{value_at, IsAxis, IsNearest}
use Rattle.edr_wkt.specs.declared.geometry.Geometry.{Geometry}
use Rattle.edr_wkt.specs.Geometries.{positions_of}
use Rattle.edr_edition.specs.Values.{InstanceValue}
use Rattle.edr_query.specs.declared.shapes.Shape.TheVariants as at
use Rattle.edr_query.specs.Values.{QueryValue}
use Rattle.edr_select.specs.Wanted.{is_along, is_nearest}
use Rattle.edr_select.specs.Choices.{is_nearest_place, is_number, row_of, column_of, spot_places, spots_in}
use Rattle.edr_select.specs.ListLaws.{both}
use Rattle.edr_select.proofs.FoundPlaces.{Found, found_more, found_same}
use Rattle.edr_select.specs.NearestLaws.{test_from_nearest, only_nearest}

abbrev pub nearest_to : List ℤ → List ℤ → List Position → ℕ → Bool
nearest_to ys xs points k = list_any (is_nearest_place ys xs (row_of xs k) (column_of xs k)) points

-- a point's node is found
pub spot_more : (ys xs : List ℤ) (points : List Position) (places : List ℕ) (i spot : ℕ) (point : Position) → i < length points → get_or points i point ≡ point
    → spot < length ys * length xs → ((k : ℕ) → k < length ys * length xs → is_nearest_place ys xs (row_of xs k) (column_of xs k) point ≡ is_number (Some spot) k)
    → Found (length ys * length xs) places (nearest_to ys xs (take i points)) → Found (length ys * length xs) (places ++ spot ∷ []) (nearest_to ys xs (take (i + 1) points))
spot_more ys xs points places i spot point inside at in_plane is so_far =
    found_more (length ys * length xs) spot places (nearest_to ys xs (take i points)) (λ k. is_nearest_place ys xs (row_of xs k) (column_of xs k) point) (nearest_to ys xs (take (i + 1) points)) so_far in_plane is
    (λ k. list_any_more (is_nearest_place ys xs (row_of xs k) (column_of xs k)) points i point inside
    ∙ ap (λ p. nearest_to ys xs (take i points) k || is_nearest_place ys xs (row_of xs k) (column_of xs k) p) at)

-- a point outside has none
pub spot_same : (ys xs : List ℤ) (points : List Position) (places : List ℕ) (i : ℕ) (point : Position) → i < length points → get_or points i point ≡ point
    → ((k : ℕ) → k < length ys * length xs → is_nearest_place ys xs (row_of xs k) (column_of xs k) point ≡ false)
    → Found (length ys * length xs) places (nearest_to ys xs (take i points)) → Found (length ys * length xs) places (nearest_to ys xs (take (i + 1) points))
spot_same ys xs points places i point inside at none so_far =
    found_same (length ys * length xs) places (nearest_to ys xs (take i points)) (λ k. is_nearest_place ys xs (row_of xs k) (column_of xs k) point) (nearest_to ys xs (take (i + 1) points)) so_far none
    (λ k. list_any_more (is_nearest_place ys xs (row_of xs k) (column_of xs k)) points i point inside
    ∙ ap (λ p. nearest_to ys xs (take i points) k || is_nearest_place ys xs (row_of xs k) (column_of xs k) p) at)

-- ---- outside

pub outside_rows : (ys xs : List ℤ) (y x : ℕ) (p : Position) → is_along ys p.y ≡ false → is_nearest_place ys xs y x p ≡ false
outside_rows ys xs y x p out = rw out refl

pub outside_columns : (ys xs : List ℤ) (y x : ℕ) (p : Position) → is_along xs p.x ≡ false → is_nearest_place ys xs y x p ≡ false
outside_columns ys xs y x p out = last (is_along ys p.y) (is_along xs p.x) (is_nearest ys p.y (value_at ys y)) (is_nearest xs p.x (value_at xs x)) out
  where
    last : (a b c d : Bool) → b ≡ false → (((a && b) && c) && d) ≡ false
    last true b c d e = rw e refl
    last false b c d e = refl

-- ---- the node of a row and a column

equal_test : (a b : ℕ) → a ≡ b → eqb a b ≡ true
equal_test a b e = grind (arith, nat_tests)

test_equal : (a b : ℕ) → eqb a b ≡ true → a ≡ b
test_equal a b e = grind (arith, nat_tests)

four : (a b c d : Bool) → a ≡ true → b ≡ true → c ≡ true → d ≡ true → (((a && b) && c) && d) ≡ true
four a b c d ea eb ec ed = rw (ea, eb, ec, ed) refl

third : (a b c d : Bool) → (((a && b) && c) && d) ≡ true → c ≡ true
third true true true d h = refl
third true true false d h = cc
third true false c d h = cc
third false b c d h = cc

fourth : (a b c d : Bool) → (((a && b) && c) && d) ≡ true → d ≡ true
fourth true true true d h = h
fourth true true false d h = cc
fourth true false c d h = cc
fourth false b c d h = cc

some_columns : (k h w : ℕ) → k < h * w → 0 < w
some_columns k h zero inside = absurd (omega (arith, inside))
some_columns k h (suc w) inside = omega arith

-- the number of a row and a column is told by both
pub places_told : (row column k w : ℕ) → column < w → 0 < w → row * w + column ≡ k → (k / w ≡ row) × (k % w ≡ column)
places_told row column k w inside some is =
    same_from_place (k / w) (k % w) row column w (mod-lt k some) inside (div-add-mod' k w ∙ sym is)

pub spot_is : (ys xs : List ℤ) (p : Position) (row column k : ℕ) → IsAxis ys → IsAxis xs → is_along ys p.y ≡ true → is_along xs p.x ≡ true
    → IsNearest ys p.y row → IsNearest xs p.x column → k < length ys * length xs
    → is_nearest_place ys xs (row_of xs k) (column_of xs k) p ≡ is_number (Some (row * length xs + column)) k
spot_is ys xs p row column k rows columns in_y in_x near_y near_x within =
    let some : 0 < length xs = some_columns k (length ys) (length xs) within in
    both (is_nearest_place ys xs (row_of xs k) (column_of xs k) p) (eqb (row * length xs + column) k)
    (λ e.
    let row_is : row_of xs k ≡ row = only_nearest ys p.y row (row_of xs k) rows.ascending near_y ((div-lt_iff_lt-mul some).1 within)
    (third (is_along ys p.y) (is_along xs p.x) (is_nearest ys p.y (value_at ys (row_of xs k))) (is_nearest xs p.x (value_at xs (column_of xs k))) e) in
    let column_is : column_of xs k ≡ column = only_nearest xs p.x column (column_of xs k) columns.ascending near_x (mod-lt k some)
    (fourth (is_along ys p.y) (is_along xs p.x) (is_nearest ys p.y (value_at ys (row_of xs k))) (is_nearest xs p.x (value_at xs (column_of xs k))) e) in
    equal_test (row * length xs + column) k (sym (ap₂ (λ a b. a * length xs + b) row_is column_is) ∙ div-add-mod' k (length xs)))
    (λ e.
    let told = places_told row column k (length xs) near_x.inside some (test_equal (row * length xs + column) k e) in
    four (is_along ys p.y) (is_along xs p.x) (is_nearest ys p.y (value_at ys (row_of xs k))) (is_nearest xs p.x (value_at xs (column_of xs k))) in_y in_x
    (ap (λ r. is_nearest ys p.y (value_at ys r)) told.0 ∙ test_from_nearest ys p.y row rows.ascending near_y)
    (ap (λ c. is_nearest xs p.x (value_at xs c)) told.1 ∙ test_from_nearest xs p.x column columns.ascending near_x))

-- ---- the nodes that a position takes

pub spots_of_position : (i : InstanceValue) (q : QueryValue) (geometry : Geometry) (points : List Position) → q.shape ≡ at.Position geometry → points ≡ positions_of geometry
    → spot_places i.ys i.xs points ≡ spots_in i q.shape
spots_of_position i q geometry points shape are = ap (spot_places i.ys i.xs) are ∙ sym (ap (spots_in i) shape)
