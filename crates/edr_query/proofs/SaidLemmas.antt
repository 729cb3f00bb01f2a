-- What the parameters say is one, and what a query is made of.
use Rattle.std.proofs.Common.{◌≡◌, ℕ, ℤ, List, [], ◌∷◌, length, refl, ap, ◌∙◌, arith, Some, None, pos}
use Rattle.std.specs.declared.option.Option.{Option}
use Rattle.edr_base.specs.declared.places.Spot.{Spot}
use Rattle.edr_axes.specs.declared.times.Times.{Times}
use Rattle.edr_axes.specs.declared.levels.Levels.{Levels}
use Rattle.edr_axes.specs.declared.levels.Levels.TheVariants as some_levels
use Rattle.edr_axes.specs.Times.{IsTimesText, TimesAreUnique}
use Rattle.edr_axes.specs.Levels.{IsLevelsText, LevelsAreUnique}
use Rattle.edr_wkt.specs.declared.geometry.Geometry.{Geometry}
use Rattle.edr_query.specs.declared.parameters.Parameter.TheVariants as p
use Rattle.edr_query.specs.declared.shapes.BoundingBox.{BoundingBox}
use Rattle.edr_query.specs.declared.said.Said.{Said}
use Rattle.edr_query.specs.Parameters.{Pair, value_of, MaySay, MaySayBoth}
use Rattle.edr_axes.specs.Distances.{DistancesAreUnique, IsDistance}
use Rattle.edr_query.specs.Boxes.{IsBoxText, numbers_of, numbers_with}
use Rattle.edr_query.specs.Queries.{IsGeometryText, IsSaid}
use Rattle.edr_query.specs.Reads.{list_in}
use Rattle.edr_query.proofs.CoordsLemmas.{WktIsOne, box_levels}

-- ---- one value

may_same : {V : Type 0} (Says : List ℕ → V → Type 0) → ((t : List ℕ) (v w : V) → Says t v → Says t w → v ≡ w) → (o : Option (List ℕ)) (a b : Option V) → MaySay Says o a → MaySay Says o b → a ≡ b
may_same Says one None None None x y = refl
may_same Says one None None (Some w) x y = absurd y
may_same Says one None (Some v) b x y = absurd x
may_same Says one (Some t) None b x y = absurd x
may_same Says one (Some t) (Some v) None x y = absurd y
may_same Says one (Some t) (Some v) (Some w) x y = ap Some (one t v w x y)

both_same : {V : Type 0} (Says : List ℕ → List ℕ → V → Type 0) → ((t u : List ℕ) (v w : V) → Says t u v → Says t u w → v ≡ w) → (o q : Option (List ℕ)) (a b : Option V) → MaySayBoth Says o q a → MaySayBoth Says o q b → a ≡ b
both_same Says one (Some t) (Some u) None b x y = absurd x
both_same Says one (Some t) (Some u) (Some v) None x y = absurd y
both_same Says one (Some t) (Some u) (Some v) (Some w) x y = ap Some (one t u v w x y)
both_same Says one (Some t) None None None x y = refl
both_same Says one (Some t) None None (Some w) x y = absurd y
both_same Says one (Some t) None (Some v) b x y = absurd x
both_same Says one None q None None x y = refl
both_same Says one None q None (Some w) x y = absurd y
both_same Says one None q (Some v) b x y = absurd x

abbrev first : List ℤ → ℤ
first [] = pos 0
first (x ∷ xs) = x

abbrev others : List ℤ → List ℤ
others [] = []
others (x ∷ xs) = xs

head : {x y : ℤ} {xs ys : List ℤ} → x ∷ xs ≡ y ∷ ys → x ≡ y
head e = ap first e

tail : {x y : ℤ} {xs ys : List ℤ} → x ∷ xs ≡ y ∷ ys → xs ≡ ys
tail e = ap others e

abbrev spot_with : ℤ → ℤ → Spot
spot_with x y = record { x = x; y = y }

two : (x y z w : ℤ) → x ≡ z → y ≡ w → spot_with x y ≡ spot_with z w
two x y z w e f = ap (λ v. spot_with v y) e ∙ ap (λ v. spot_with z v) f

abbrev range : ℤ → ℤ → Option (ℤ × ℤ)
range a b = Some (a, b)

level : (a b c d : ℤ) → a ≡ c → b ≡ d → range a b ≡ range c d
level a b c d e f = ap (λ v. range v b) e ∙ ap (λ v. range c v) f

abbrev box_with : Spot → Spot → Option (ℤ × ℤ) → BoundingBox
box_with lo hi levels = record { lo = lo; hi = hi; levels = levels }

list_same : (a b : List ℤ) → some_levels.List a ≡ some_levels.List b → a ≡ b
list_same a b e = ap list_in e

box_at : (lo hi lo' hi' : Spot) (l m : Option (ℤ × ℤ)) → numbers_with lo hi l ≡ numbers_with lo' hi' m → (lo ≡ lo') × (hi ≡ hi') × (l ≡ m)
box_at lo hi lo' hi' None None e =
    (two lo.x lo.y lo'.x lo'.y (head e) (head (tail e)), two hi.x hi.y hi'.x hi'.y (head (tail (tail e))) (head (tail (tail (tail e)))), refl)
box_at lo hi lo' hi' None (Some (low, high)) e = absurd (omega (arith, ap length e))
box_at lo hi lo' hi' (Some (low, high)) None e = absurd (omega (arith, ap length e))
box_at lo hi lo' hi' (Some (a, b)) (Some (c, d)) e =
    (two lo.x lo.y lo'.x lo'.y (head e) (head (tail e)), two hi.x hi.y hi'.x hi'.y (head (tail (tail (tail e)))) (head (tail (tail (tail (tail e))))), level a b c d (head (tail (tail e))) (head (tail (tail (tail (tail (tail e)))))))

-- boxes with the same numbers are equal
pub box_from : (a b : BoundingBox) → numbers_of a ≡ numbers_of b → a ≡ b
box_from a b e =
    let h = box_at a.lo a.hi b.lo b.hi a.levels b.levels e in
    ap (λ l. box_with l a.hi a.levels) h.0 ∙ ap (λ l. box_with b.lo l a.levels) h.1 ∙ ap (λ l. box_with b.lo b.hi l) h.2

box_same : LevelsAreUnique → (text : List ℕ) (a b : BoundingBox) → IsBoxText text a → IsBoxText text b → a ≡ b
box_same unique text a b x y = box_from a b (list_same (numbers_of a) (numbers_of b) (unique text (some_levels.List (numbers_of a)) (some_levels.List (numbers_of b)) (box_levels text a x) (box_levels text b y)))

abbrev said_mk : Option Geometry → Option ℤ → Option BoundingBox → Option ℤ → Option ℤ → Option Times → Option Levels → Said
said_mk a b c d e f g = record { coords = a; within = b; bbox = c; width = d; height = e; times = f; levels = g }

-- what the parameters say is one
pub said_same : WktIsOne → TimesAreUnique → LevelsAreUnique → DistancesAreUnique → (pairs : List Pair) (a b : Said) → IsSaid pairs a → IsSaid pairs b → a ≡ b
said_same wkt times levels distances pairs a b x y =
    let e0 = may_same IsGeometryText (λ t v w h k. wkt t v w h.0 k.0) (value_of p.Coords pairs) a.coords b.coords x.coords y.coords in
    let e1 = both_same IsDistance distances (value_of p.Within pairs) (value_of p.WithinUnits pairs) a.within b.within x.within y.within in
    let e2 = may_same IsBoxText (box_same levels) (value_of p.Bbox pairs) a.bbox b.bbox x.bbox y.bbox in
    let e3 = both_same IsDistance distances (value_of p.CorridorWidth pairs) (value_of p.WidthUnits pairs) a.width b.width x.width y.width in
    let e4 = both_same IsDistance distances (value_of p.CorridorHeight pairs) (value_of p.HeightUnits pairs) a.height b.height x.height y.height in
    let e5 = may_same IsTimesText times (value_of p.Datetime pairs) a.times b.times x.times y.times in
    let e6 = may_same IsLevelsText levels (value_of p.Z pairs) a.levels b.levels x.levels y.levels in
    ap (λ v. said_mk v a.within a.bbox a.width a.height a.times a.levels) e0
    ∙ ap (λ v. said_mk b.coords v a.bbox a.width a.height a.times a.levels) e1
    ∙ ap (λ v. said_mk b.coords b.within v a.width a.height a.times a.levels) e2
    ∙ ap (λ v. said_mk b.coords b.within b.bbox v a.height a.times a.levels) e3
    ∙ ap (λ v. said_mk b.coords b.within b.bbox b.width v a.times a.levels) e4
    ∙ ap (λ v. said_mk b.coords b.within b.bbox b.width b.height v a.levels) e5
    ∙ ap (λ v. said_mk b.coords b.within b.bbox b.width b.height b.times v) e6
