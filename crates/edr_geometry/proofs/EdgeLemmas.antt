-- Where an edge crosses for the places of a row or a column, and where they are on it, by a product and a number of the edge's line.
use Rattle.std.proofs.Common.{◌≡◌, ◌≤◌, arith, Bool, true, false, ◌&&◌, ◌||◌, refl, ap, ◌∙◌, ℤ, pos, ◌+ℤ◌, ◌-ℤ◌, ◌*ℤ◌, ◌<ℤ◌, ◌≤ℤ◌, int_le, int_lt}
use Rattle.std.specs.Ordering.{int_eq}
use Rattle.std.specs.Int.RustNames.{unsigned_abs}
use Rattle.std.proofs.lemmas.Int.{ints}
use Rattle.jiff_core.proofs.SignedLemmas.{signed_arith, one_part, product_within}
use Rattle.edr_base.specs.Limits.{IsCoordinate}
use Rattle.edr_base.specs.declared.places.Spot.{Spot}
use Rattle.edr_geometry.specs.Limits.{IsSpot}
use Rattle.edr_geometry.specs.Masks.{spot_at}
use Rattle.edr_geometry.specs.Planar.{cross, is_among, on_segment}
use Rattle.edr_geometry.specs.Ranges.{exchanged}
use Rattle.edr_geometry.proofs.Products.{times-sub}
use Rattle.edr_geometry.proofs.StripNumbers.{away_small}

-- what an x of a row, times the height of an edge, is on the edge's line
abbrev pub line_of : ℤ → Spot → Spot → ℤ
line_of y a b = (b.x -ℤ a.x) *ℤ (y -ℤ a.y) +ℤ (b.y -ℤ a.y) *ℤ a.x

pub line_of_small : (y : ℤ) (a b : Spot) → IsCoordinate y → IsSpot a → IsSpot b → unsigned_abs (line_of y a b) ≤ 60_000_000_000_000_000
line_of_small y a b y_in a_in b_in =
    let one = product_within (b.x -ℤ a.x) (y -ℤ a.y) 200_000_000 200_000_000 (away_small b.x a.x b_in.x a_in.x) (away_small y a.y y_in a_in.y) in
    let two = product_within (b.y -ℤ a.y) a.x 200_000_000 100_000_000 (away_small b.y a.y b_in.y a_in.y) a_in.x in
    omega (arith, signed_arith, one, two, one_part ((b.x -ℤ a.x) *ℤ (y -ℤ a.y)), one_part ((b.y -ℤ a.y) *ℤ a.x), one_part (line_of y a b))

pub cross_in_row : (y x : ℤ) (a b : Spot) → cross (spot_at y x) a b ≡ line_of y a b -ℤ (b.y -ℤ a.y) *ℤ x
cross_in_row y x a b = let spread = times-sub (b.y -ℤ a.y) x a.x in omega (arith, signed_arith, spread)

pub cross_in_column : (y x : ℤ) (a b : Spot) → cross (spot_at y x) a b ≡ (b.x -ℤ a.x) *ℤ y -ℤ line_of x (exchanged a) (exchanged b)
cross_in_column y x a b = let spread = times-sub (b.x -ℤ a.x) y a.y in omega (arith, signed_arith, spread)

-- ---- comparisons that go together

abbrev crosses_by : ℤ → ℤ → ℤ → ℤ → Bool
crosses_by ay by y s = ((int_le ay y && int_lt y by) && int_lt (pos 0) s) || ((int_le by y && int_lt y ay) && int_lt s (pos 0))

pub up_in_row : (ay by y s l p : ℤ) → (int_le ay y && int_lt y by) ≡ true → s ≡ l -ℤ p → int_lt p l ≡ crosses_by ay by y s
up_in_row ay by y s l p up is = grind (arith, ints)

pub down_in_row : (ay by y s l p : ℤ) → (int_le by y && int_lt y ay) ≡ true → s ≡ l -ℤ p → int_lt l p ≡ crosses_by ay by y s
down_in_row ay by y s l p down is = grind (arith, ints)

pub past_row : (ay by y s : ℤ) → (int_le ay y && int_lt y by) ≡ false → (int_le by y && int_lt y ay) ≡ false → false ≡ crosses_by ay by y s
past_row ay by y s up down = grind (arith, ints)

pub up_in_column : (ay by y s l p : ℤ) → ay <ℤ by → s ≡ p -ℤ l → ((int_le ay y && int_lt y by) && int_lt l p) ≡ crosses_by ay by y s
up_in_column ay by y s l p up is = grind (arith, ints)

pub down_in_column : (ay by y s l p : ℤ) → by ≤ℤ ay → s ≡ p -ℤ l → ((int_le by y && int_lt y ay) && int_lt p l) ≡ crosses_by ay by y s
down_in_column ay by y s l p down is = grind (arith, ints)

pub on_by : (s l p : ℤ) (columns rows : Bool) → s ≡ l -ℤ p → rows ≡ true → (columns && (int_le p l && int_le l p)) ≡ (int_eq s (pos 0) && (columns && rows))
on_by s l p columns rows is h = rw h (on_line columns)
  where
    on_line : (columns : Bool) → (columns && (int_le p l && int_le l p)) ≡ (int_eq s (pos 0) && (columns && true))
    on_line true = grind (arith, ints)
    on_line false = grind (arith, ints)

off_rows : (on columns : Bool) → false ≡ (on && (columns && false))
off_rows true true = refl
off_rows true false = refl
off_rows false columns = refl

pub off_by : (on columns rows : Bool) → rows ≡ false → false ≡ (on && (columns && rows))
off_by on columns rows h = rw h (off_rows on columns)

-- ---- x and y exchanged

swapped : (on columns rows : Bool) → (on && (rows && columns)) ≡ (on && (columns && rows))
swapped true true true = refl
swapped true true false = refl
swapped true false true = refl
swapped true false false = refl
swapped false columns rows = refl

zeros : (s t : ℤ) → s +ℤ t ≡ pos 0 → int_eq t (pos 0) ≡ int_eq s (pos 0)
zeros s t h = grind (arith, ints)

pub on_exchanged : (p a b : Spot) → on_segment (exchanged p) (exchanged a) (exchanged b) ≡ on_segment p a b
on_exchanged p a b =
    ap (λ on. on && (is_among a.y b.y p.y && is_among a.x b.x p.x)) (zeros (cross p a b) (cross (exchanged p) (exchanged a) (exchanged b)) (omega (arith, signed_arith)))
    ∙ swapped (int_eq (cross p a b) (pos 0)) (is_among a.x b.x p.x) (is_among a.y b.y p.y)

-- ---- whole numbers

pub below_is : (p l : ℤ) → int_le p (l -ℤ pos 1) ≡ int_lt p l
below_is p l = grind (arith, ints)

pub above_is : (p l : ℤ) → int_le (l +ℤ pos 1) p ≡ int_lt l p
above_is p l = grind (arith, ints)
