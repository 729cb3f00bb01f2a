-- A geometry as it is kept has the faults of the geometry, and where its numbers are within the limits it is the geometry.
use Rattle.std.proofs.Common.{◌≡◌, ℕ, subst, ◌-◌, ◌≤◌, Option, None, Some, List, [], ◌∷◌, ◌++◌, length, map, refl, sym, ap, ap₂, ◌∙◌, arith, ℤ, pos, negsuc, neg_ℤ, ◌≤ℤ◌}
use Rattle.std.specs.Int.RustNames.{unsigned_abs}
use Rattle.std.specs.List.{flat_map, AllByRecursion, slice_get}
use Rattle.std.specs.Option.{option_map}
use Rattle.std.proofs.lemmas.Option.{none-some, same_Some, slice_get-map}
use Rattle.edr_base.specs.FirstThatApplies.{IsFirstPlace}
use Rattle.std.proofs.lemmas.List.{length-map, map-append}
use Rattle.std.proofs.lemmas.Int.{ints, by_lt_z}
use Rattle.edr_base.specs.declared.places.Position.{Position}
use Rattle.edr_wkt.specs.declared.geometry.Polygon.{Polygon}
use Rattle.edr_wkt.specs.declared.geometry.Geometry.{Geometry}
use Rattle.edr_wkt.specs.declared.geometry.Geometry.TheVariants.{Points, Line, Polygons}
use Rattle.edr_wkt.specs.Kept.{kept_number, kept, kept_polygon}
use Rattle.edr_wkt.specs.Geometries.{positions_of, rings_of}
use Rattle.edr_wkt.specs.Faults.{IsInRange, IsBadAt}
use Rattle.edr_wkt.specs.BodyReads.{kept_geometry}
use Rattle.edr_wkt.proofs.PositionLemmas.{kept_number-inside, kept_number-outside}

flat_map-map : (rings : List (List Position)) → flat_map (λ (r : List Position). r) (map (map kept) rings) ≡ map kept (flat_map (λ (r : List Position). r) rings)
flat_map-map [] = refl
flat_map-map (r ∷ rings) = ap (λ l. map kept r ++ l) (flat_map-map rings) ∙ sym (map-append kept r (flat_map (λ (r : List Position). r) rings))

abbrev of_polygon : Polygon → List Position
of_polygon p = flat_map (λ (r : List Position). r) p.rings

flat_map-polygons : (polygons : List Polygon) → flat_map of_polygon (map kept_polygon polygons) ≡ map kept (flat_map of_polygon polygons)
flat_map-polygons [] = refl
flat_map-polygons (p ∷ polygons) = ap₂ (λ a b. a ++ b) (flat_map-map p.rings) (flat_map-polygons polygons) ∙ sym (map-append kept (of_polygon p) (flat_map of_polygon polygons))

-- the positions of a kept geometry are the kept positions
pub positions_of-kept : (g : Geometry) → positions_of (kept_geometry g) ≡ map kept (positions_of g)
positions_of-kept (Points multi z m ps) = refl
positions_of-kept (Line z m ps) = refl
positions_of-kept (Polygons multi z m ps) = flat_map-polygons ps

flat_map-rings : (polygons : List Polygon) → flat_map (λ (p : Polygon). p.rings) (map kept_polygon polygons) ≡ map (map kept) (flat_map (λ (p : Polygon). p.rings) polygons)
flat_map-rings [] = refl
flat_map-rings (p ∷ polygons) = ap (λ l. map (map kept) p.rings ++ l) (flat_map-rings polygons) ∙ sym (map-append (map kept) p.rings (flat_map (λ (p : Polygon). p.rings) polygons))

pub rings_of-kept : (g : Geometry) → rings_of (kept_geometry g) ≡ map (map kept) (rings_of g)
rings_of-kept (Points multi z m ps) = refl
rings_of-kept (Line z m ps) = refl
rings_of-kept (Polygons multi z m ps) = flat_map-rings ps

pub length-kept : (g : Geometry) → length (positions_of (kept_geometry g)) ≡ length (positions_of g)
length-kept g = ap length (positions_of-kept g) ∙ length-map (positions_of g) kept

pub length-rings_kept : (g : Geometry) → length (rings_of (kept_geometry g)) ≡ length (rings_of g)
length-rings_kept g = ap length (rings_of-kept g) ∙ length-map (rings_of g) (map kept)

-- a number that is kept within a limit is itself

same-small : (z : ℤ) → unsigned_abs (kept_number z) ≤ 100000000 → kept_number z ≡ z
same-small z h = by_lt_z (pos 253402300799) (pos (unsigned_abs z))
    (λ lt. let e = kept_number-outside z lt in absurd (omega (arith, ap unsigned_abs e, h)))
    (λ le. kept_number-inside z le)

same-time : (z : ℤ) → kept_number z ≤ℤ pos 253402300799 → kept_number z ≡ z
same-time z h = by_lt_z (pos 253402300799) (pos (unsigned_abs z))
    (λ lt. let e : kept_number z ≡ pos 253402300800 = kept_number-outside z lt in let P : ℤ → Type 0 = λ n. n ≤ℤ pos 253402300799 in absurd (let f : pos 253402300800 ≤ℤ pos 253402300799 = subst P e h in omega (arith, ints, f)))
    (λ le. kept_number-inside z le)

kept-small : (z : ℤ) → unsigned_abs z ≤ 100000000 → kept_number z ≡ z
kept-small z h = kept_number-inside z (omega (arith, ints, h))

abs-bound : (z : ℤ) → neg_ℤ (pos 62167219200) ≤ℤ z → z ≤ℤ pos 253402300799 → unsigned_abs z ≤ 253402300799
abs-bound (pos n) low high = omega (arith, ints, high)
abs-bound (negsuc n) low high = omega (arith, ints, low)

kept-time : (z : ℤ) → neg_ℤ (pos 62167219200) ≤ℤ z → z ≤ℤ pos 253402300799 → kept_number z ≡ z
kept-time z low high = kept_number-inside z (omega (arith, ints, abs-bound z low high))

at : ℤ → ℤ → ℤ → ℤ → Position
at x y z m = record { x = x; y = y; z = z; m = m }

same-at : (p q : Position) → p.x ≡ q.x → p.y ≡ q.y → p.z ≡ q.z → p.m ≡ q.m → p ≡ q
unfolding at
same-at p q ex ey ez em = let e : at p.x p.y p.z p.m ≡ at q.x q.y q.z q.m = rw (ex, ey, ez, em) refl in e

pub kept-same : (p : Position) → IsInRange (kept p) → kept p ≡ p
kept-same p r = same-at (kept p) p (same-small p.x r.x) (same-small p.y r.y) (same-small p.z r.z) (same-time p.m r.m_to)

pub kept-back : (p : Position) → IsInRange p → kept p ≡ p
kept-back p r = same-at (kept p) p (kept-small p.x r.x) (kept-small p.y r.y) (kept-small p.z r.z) (kept-time p.m r.m_from r.m_to)

range-from_kept : (p : Position) → IsInRange (kept p) → IsInRange p
range-from_kept p r = subst IsInRange (kept-same p r) r

range-to_kept : (p : Position) → IsInRange p → IsInRange (kept p)
range-to_kept p r = subst IsInRange (sym (kept-back p r)) r

pub map-kept_same : (ps : List Position) → AllByRecursion IsInRange (map kept ps) → map kept ps ≡ ps
map-kept_same [] all = refl
map-kept_same (p ∷ ps) all = ap₂ (λ a b. a ∷ b) (kept-same p all.0) (map-kept_same ps all.1)

all-left : (a b : List Position) → AllByRecursion IsInRange (a ++ b) → AllByRecursion IsInRange a
all-left [] b all = tt
all-left (p ∷ a) b all = (all.0, all-left a b all.1)

all-right : (a b : List Position) → AllByRecursion IsInRange (a ++ b) → AllByRecursion IsInRange b
all-right [] b all = all
all-right (p ∷ a) b all = all-right a b all.1

rings-kept_same : (rings : List (List Position)) → AllByRecursion IsInRange (flat_map (λ (r : List Position). r) (map (map kept) rings)) → map (map kept) rings ≡ rings
rings-kept_same [] all = refl
rings-kept_same (r ∷ rings) all =
    let rest = flat_map (λ (r : List Position). r) (map (map kept) rings) in
    ap₂ (λ a b. a ∷ b) (map-kept_same r (all-left (map kept r) rest all)) (rings-kept_same rings (all-right (map kept r) rest all))

polygons-kept_same : (polygons : List Polygon) → AllByRecursion IsInRange (flat_map of_polygon (map kept_polygon polygons)) → map kept_polygon polygons ≡ polygons
polygons-kept_same [] all = refl
polygons-kept_same (p ∷ polygons) all =
    let rest = flat_map of_polygon (map kept_polygon polygons) in
    let f : List (List Position) → Polygon = λ l. record { rings = l } in
    ap₂ (λ a b. a ∷ b) (ap f (rings-kept_same p.rings (all-left (of_polygon (kept_polygon p)) rest all))) (polygons-kept_same polygons (all-right (of_polygon (kept_polygon p)) rest all))

-- within the limits a kept geometry is the geometry
pub geometry-kept_same : (g : Geometry) → AllByRecursion IsInRange (positions_of (kept_geometry g)) → kept_geometry g ≡ g
geometry-kept_same (Points multi z m ps) all = ap (Points multi z m) (map-kept_same ps all)
geometry-kept_same (Line z m ps) all = ap (Line z m) (map-kept_same ps all)
geometry-kept_same (Polygons multi z m ps) all = ap (Polygons multi z m) (polygons-kept_same ps all)

-- the first kept position beyond the limits is the first one

from_mapped : {A B : Type 0} (f : A → B) (seen : Option A) (y : B) → option_map f seen ≡ Some y → (x : A) × (seen ≡ Some x) × (f x ≡ y)
from_mapped f None y e = absurd (none-some y e)
from_mapped f (Some x) y e = (x, refl, same_Some (f x) y e)

bad-to_kept : (ps : List Position) (place : ℕ) → IsBadAt IsInRange ps place → IsBadAt IsInRange (map kept ps) place
bad-to_kept ps place bad =
    record { item = kept bad.item; counted = bad.counted; here = slice_get-map kept ps (place - 1) ∙ ap (option_map kept) bad.here; is_bad = λ r. bad.is_bad (range-from_kept bad.item r) }

bad-from_kept : (ps : List Position) (place : ℕ) → IsBadAt IsInRange (map kept ps) place → IsBadAt IsInRange ps place
bad-from_kept ps place bad =
    let from = from_mapped kept (slice_get ps (place - 1)) bad.item (sym (slice_get-map kept ps (place - 1)) ∙ bad.here) in
    record { item = from.0; counted = bad.counted; here = from.1; is_bad = λ r. bad.is_bad (subst IsInRange from.2 (range-to_kept from.0 r)) }

pub first_bad-kept : (ps : List Position) (place : ℕ) → IsFirstPlace (IsBadAt IsInRange (map kept ps)) place → IsFirstPlace (IsBadAt IsInRange ps) place
first_bad-kept ps place f = record { applies = bad-from_kept ps place f.applies; none_before = λ other before bad. f.none_before other before (bad-to_kept ps other bad) }
