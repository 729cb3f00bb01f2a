-- The texts of a written query are UTF-8.
use Rattle.std.proofs.Common.{◌≡◌, ℕ, ℤ, pos, negsuc, ◌<◌, ◌≤◌, ◌+◌, ◌/◌, ◌%◌, ◌^◌, List, [], ◌∷◌, ◌++◌, IsUtf8, Bool, true, false, cond, refl, sym, subst, arith, Some, None, codes, ltb}
use Rattle.std.specs.Prelude.{unsigned_abs, IfSome, ◌&&◌, ◌≤ℤ◌}
use Rattle.std.specs.Fmt.{signed_decimal}
use Rattle.std.specs.List.{flat_map, AllByRecursion}
use Rattle.std.proofs.lemmas.Bool.{ltb-true, and_parts}
use Rattle.std.proofs.lemmas.Int.{ints}
use Rattle.std.proofs.lemmas.List.Elements.{recursion_from_All}
use Rattle.std.specs.declared.option.Option.{Option}
use Rattle.std.proofs.lemmas.Str.{IsUtf8-append, IsUtf8-nil}
use Rattle.edr_base.specs.Limits.{earliest_time, latest_time, IsMetres}
use Rattle.edr_base.specs.declared.places.Position.{Position as Place}
use Rattle.edr_axes.specs.declared.times.Times.{Times}
use Rattle.edr_axes.specs.declared.times.Times.TheVariants as some_times
use Rattle.edr_axes.specs.declared.levels.Levels.{Levels}
use Rattle.edr_axes.specs.declared.levels.Levels.TheVariants as some_levels
use Rattle.edr_axes.specs.Instants.{IsTime, IsCivil, Civil, pad2, civil_text, instant_text, TimesAreWritten}
use Rattle.edr_axes.specs.Times.{IsTimes, IsSideTime}
use Rattle.edr_axes.specs.Levels.{IsLevel, IsLevels}
use Rattle.edr_wkt.specs.declared.geometry.Geometry.{Geometry}
use Rattle.edr_wkt.specs.declared.geometry.Geometry.TheVariants.{Points, Line, Polygons}
use Rattle.edr_wkt.specs.declared.geometry.Polygon.{Polygon}
use Rattle.edr_wkt.specs.Wkt.{kind_of, has_z_of, has_m_of}
use Rattle.edr_wkt.specs.Geometries.{positions_of}
use Rattle.edr_wkt.specs.Faults.{IsInRange as PositionIn, IsGeometry}
use Rattle.edr_wkt.specs.Spelling.{number_text, position_text, member_text, ring_text, polygon_text, joined, in_brackets, dims_part, heading_text, body_text, spelled}
use Rattle.edr_query.specs.declared.addresses.QueryKind.{QueryKind}
use Rattle.edr_query.specs.declared.addresses.QueryKind.TheVariants.{Position, Radius, Area, Cube, Trajectory, Corridor}
use Rattle.edr_query.specs.declared.parameters.Parameter.{Parameter}
use Rattle.edr_query.specs.declared.parameters.Parameter.TheVariants as q
use Rattle.edr_query.specs.declared.shapes.BoundingBox.{BoundingBox}
use Rattle.edr_query.specs.Paths.{kind_text, IsPart}
use Rattle.edr_query.specs.Parameters.{name_of}
use Rattle.edr_query.specs.Boxes.{numbers_with, numbers_of}
use Rattle.edr_query.specs.Queries.{IsBox, AreNames}
use Rattle.edr_query.specs.Spelling.{side_text, times_text, levels_text, box_text}
use Rattle.edr_query.proofs.SpelledNames.{plain, byte_utf8, number_utf8, joined_utf8}

pub small : List ℕ → Bool
small [] = true
small (b ∷ bs) = ltb b 128 && small bs

pub text_utf8 : (bs : List ℕ) → small bs ≡ true → IsUtf8 bs
unfolding small
text_utf8 [] e = IsUtf8-nil
text_utf8 (b ∷ bs) e = let p = and_parts (ltb b 128) (small bs) e in byte_utf8 b bs (ltb-true b 128 p.0) (text_utf8 bs p.1)

-- ---- geometries

m_small : (z : ℤ) → earliest_time ≤ℤ z → z ≤ℤ latest_time → unsigned_abs z < 2 ^ 64
m_small (pos n) from to = omega (arith, ints, to)
m_small (negsuc n) from to = omega (arith, ints, from)

if_utf8 : (has : Bool) (z : ℤ) → unsigned_abs z < 2 ^ 64 → IsUtf8 (number_text has z)
if_utf8 true z h = byte_utf8 32 (signed_decimal z) (omega arith) (number_utf8 z h)
if_utf8 false z h = IsUtf8-nil

position_utf8 : (z m : Bool) (p : Place) → PositionIn p → IsUtf8 (position_text z m p)
position_utf8 z m p in_ =
    let x = in_.x in let y = in_.y in let w = in_.z in
    IsUtf8-append (signed_decimal p.x) _ (number_utf8 p.x (omega (arith, x)))
    (IsUtf8-append (number_text true p.y) _ (if_utf8 true p.y (omega (arith, y)))
    (IsUtf8-append (number_text z p.z) _ (if_utf8 z p.z (omega (arith, w))) (if_utf8 m p.m (m_small p.m in_.m_from in_.m_to))))

brackets_utf8 : (text : List ℕ) → IsUtf8 text → IsUtf8 (in_brackets text)
brackets_utf8 text u = byte_utf8 40 (text ++ 41 ∷ []) (omega arith) (IsUtf8-append text (41 ∷ []) u (byte_utf8 41 [] (omega arith) IsUtf8-nil))

member_utf8 : (multi z m : Bool) (p : Place) → PositionIn p → IsUtf8 (member_text multi z m p)
member_utf8 true z m p in_ = brackets_utf8 (position_text z m p) (position_utf8 z m p in_)
member_utf8 false z m p in_ = position_utf8 z m p in_

each : {A : Type 0} (P Q : A → Type 0) → ((x : A) → P x → Q x) → (xs : List A) → AllByRecursion P xs → AllByRecursion Q xs
each P Q f [] all = tt
each P Q f (x ∷ xs) all = (f x all.0, each P Q f xs all.1)

all_front : {A : Type 0} (P : A → Type 0) (xs ys : List A) → AllByRecursion P (xs ++ ys) → AllByRecursion P xs
all_front P [] ys all = tt
all_front P (x ∷ xs) ys all = (all.0, all_front P xs ys all.1)

all_back : {A : Type 0} (P : A → Type 0) (xs ys : List A) → AllByRecursion P (xs ++ ys) → AllByRecursion P ys
all_back P [] ys all = all
all_back P (x ∷ xs) ys all = all_back P xs ys all.1

all_flat : {A B : Type 0} (P : A → Type 0) (f : B → List A) (xs : List B) → AllByRecursion P (flat_map f xs) → AllByRecursion (λ x. AllByRecursion P (f x)) xs
all_flat P f [] all = tt
all_flat P f (x ∷ xs) all = (all_front P (f x) (flat_map f xs) all, all_flat P f xs (all_back P (f x) (flat_map f xs) all))

ring_utf8 : (z m : Bool) (ring : List Place) → AllByRecursion PositionIn ring → IsUtf8 (ring_text z m ring)
ring_utf8 z m ring all = brackets_utf8 (joined (position_text z m) ring) (joined_utf8 (position_text z m) ring (each PositionIn (λ p. IsUtf8 (position_text z m p)) (position_utf8 z m) ring all))

polygon_utf8 : (z m : Bool) (polygon : Polygon) → AllByRecursion PositionIn (flat_map (λ r. r) polygon.rings) → IsUtf8 (polygon_text z m polygon)
polygon_utf8 z m polygon all =
    brackets_utf8 (joined (ring_text z m) polygon.rings)
    (joined_utf8 (ring_text z m) polygon.rings (each (λ (r : List Place). AllByRecursion PositionIn r) (λ r. IsUtf8 (ring_text z m r)) (ring_utf8 z m) polygon.rings (all_flat PositionIn (λ r. r) polygon.rings all)))

polygons_utf8 : (z m : Bool) (polygons : List Polygon) → AllByRecursion PositionIn (flat_map (λ (p : Polygon). flat_map (λ r. r) p.rings) polygons) → IsUtf8 (joined (polygon_text z m) polygons)
polygons_utf8 z m polygons all =
    joined_utf8 (polygon_text z m) polygons
    (each (λ (p : Polygon). AllByRecursion PositionIn (flat_map (λ r. r) p.rings)) (λ p. IsUtf8 (polygon_text z m p)) (polygon_utf8 z m) polygons (all_flat PositionIn (λ (p : Polygon). flat_map (λ r. r) p.rings) polygons all))

body_utf8 : (g : Geometry) → AllByRecursion PositionIn (positions_of g) → IsUtf8 (body_text g)
body_utf8 (Points multi z m ps) all = brackets_utf8 (joined (member_text multi z m) ps) (joined_utf8 (member_text multi z m) ps (each PositionIn (λ p. IsUtf8 (member_text multi z m p)) (member_utf8 multi z m) ps all))
body_utf8 (Line z m ps) all = brackets_utf8 (joined (member_text false z m) ps) (joined_utf8 (member_text false z m) ps (each PositionIn (λ p. IsUtf8 (member_text false z m p)) (member_utf8 false z m) ps all))
body_utf8 (Polygons false z m polygons) all = polygons_utf8 z m polygons all
body_utf8 (Polygons true z m polygons) all = brackets_utf8 (joined (polygon_text z m) polygons) (polygons_utf8 z m polygons all)

dims_utf8 : (z m : Bool) → IsUtf8 (dims_part z m)
unfolding small
dims_utf8 false false = text_utf8 [] refl
dims_utf8 true false = text_utf8 (codes " Z") refl
dims_utf8 false true = text_utf8 (codes " M") refl
dims_utf8 true true = text_utf8 (codes " ZM") refl

heading_utf8 : (g : Geometry) → IsUtf8 (heading_text (kind_of g) (has_z_of g) (has_m_of g))
unfolding small
heading_utf8 (Points false z m ps) = IsUtf8-append (codes "POINT") (dims_part z m) (text_utf8 (codes "POINT") refl) (dims_utf8 z m)
heading_utf8 (Points true z m ps) = IsUtf8-append (codes "MULTIPOINT") (dims_part z m) (text_utf8 (codes "MULTIPOINT") refl) (dims_utf8 z m)
heading_utf8 (Line z m ps) = IsUtf8-append (codes "LINESTRING") (dims_part z m) (text_utf8 (codes "LINESTRING") refl) (dims_utf8 z m)
heading_utf8 (Polygons false z m ps) = IsUtf8-append (codes "POLYGON") (dims_part z m) (text_utf8 (codes "POLYGON") refl) (dims_utf8 z m)
heading_utf8 (Polygons true z m ps) = IsUtf8-append (codes "MULTIPOLYGON") (dims_part z m) (text_utf8 (codes "MULTIPOLYGON") refl) (dims_utf8 z m)

pub geometry_utf8 : (g : Geometry) → IsGeometry g → IsUtf8 (spelled g)
geometry_utf8 g is = IsUtf8-append (heading_text (kind_of g) (has_z_of g) (has_m_of g)) (body_text g) (heading_utf8 g) (body_utf8 g is.faultless.in_range)

-- ---- instants

pad_utf8 : (n : ℕ) → n < 100 → IsUtf8 (pad2 n)
pad_utf8 n h = byte_utf8 (48 + n / 10) ((48 + n % 10) ∷ []) (omega (arith, h)) (byte_utf8 (48 + n % 10) [] (omega (arith, h)) IsUtf8-nil)

month_at : (u v w : Bool) → cond u (cond v 29 28) (cond w 30 31) ≤ 31
month_at true true w = omega arith
month_at true false w = omega arith
month_at false v true = omega arith
month_at false v false = omega arith

civil_utf8 : (c : Civil) → IsCivil c → (last : ℕ) → last ≤ 31 → c.day ≤ last → IsUtf8 (civil_text c)
civil_utf8 c is last short day =
    let y = is.date.year_in in let mo = is.date.month_in in let h = is.clock.hour_in in let mi = is.clock.minute_in in let s = is.clock.second_in in
    let mark : (b : ℕ) → b < 128 → IsUtf8 (b ∷ []) = λ b small. byte_utf8 b [] small IsUtf8-nil in
    IsUtf8-append _ _ (IsUtf8-append _ _ (IsUtf8-append _ _ (IsUtf8-append _ _ (IsUtf8-append _ _ (IsUtf8-append _ _ (IsUtf8-append _ _ (IsUtf8-append _ _ (IsUtf8-append _ _ (IsUtf8-append _ _ (IsUtf8-append _ _ (IsUtf8-append _ _
    (pad_utf8 (c.year / 100) (omega (arith, y))) (pad_utf8 (c.year % 100) (omega arith))) (mark 45 (omega arith))) (pad_utf8 c.month (omega (arith, mo)))) (mark 45 (omega arith))) (pad_utf8 c.day (omega (arith, short, day)))) (mark 84 (omega arith)))
    (pad_utf8 c.hour (omega (arith, h)))) (mark 58 (omega arith))) (pad_utf8 c.minute (omega (arith, mi)))) (mark 58 (omega arith))) (pad_utf8 c.second (omega (arith, s)))) (mark 90 (omega arith))

pub instant_utf8 : TimesAreWritten → (t : ℤ) → IsTime t → IsUtf8 (instant_text t)
instant_utf8 written t h =
    let w = written t h in
    subst IsUtf8 (sym w.2) (civil_utf8 w.0 w.1 _ (month_at _ _ _) w.1.date.day_in.1)

side_utf8 : TimesAreWritten → (side : Option ℤ) → IsSideTime side → IsUtf8 (side_text side)
unfolding small
side_utf8 written None h = text_utf8 (codes "..") refl
side_utf8 written (Some t) h = instant_utf8 written t h

pub times_utf8 : TimesAreWritten → (t : Times) → IsTimes t → IsUtf8 (times_text t)
unfolding small
times_utf8 written some_times.All h = text_utf8 (codes "../..") refl
times_utf8 written (some_times.At t) h = instant_utf8 written t h
times_utf8 written (some_times.Between first last) h = IsUtf8-append (side_text first) (47 ∷ side_text last) (side_utf8 written first h.2) (byte_utf8 47 (side_text last) (omega arith) (side_utf8 written last h.3))

-- ---- levels and names

level_utf8 : (z : ℤ) → IsLevel z → IsUtf8 (signed_decimal z)
level_utf8 z h = number_utf8 z (omega (arith, h))

pub levels_list_utf8 : (ls : List ℤ) → AllByRecursion IsLevel ls → IsUtf8 (joined signed_decimal ls)
levels_list_utf8 ls all = joined_utf8 signed_decimal ls (each IsLevel (λ z. IsUtf8 (signed_decimal z)) level_utf8 ls all)

pub levels_utf8 : (l : Levels) → IsLevels l → IsUtf8 (levels_text l)
levels_utf8 some_levels.All h = IsUtf8-nil
levels_utf8 (some_levels.At l) h = level_utf8 l h
levels_utf8 (some_levels.Between low high) h = IsUtf8-append (signed_decimal low) (47 ∷ signed_decimal high) (level_utf8 low h.0) (byte_utf8 47 (signed_decimal high) (omega arith) (level_utf8 high h.1))
levels_utf8 (some_levels.List ls) h = levels_list_utf8 ls (recursion_from_All IsLevel ls h.1)
levels_utf8 (some_levels.Series n first step) h =
    byte_utf8 82 _ (omega arith) (IsUtf8-append (signed_decimal n) _ (level_utf8 n h.0)
    (byte_utf8 47 _ (omega arith) (IsUtf8-append (signed_decimal first) _ (level_utf8 first h.1) (byte_utf8 47 (signed_decimal step) (omega arith) (level_utf8 step h.2)))))

-- ---- names, distances, boxes and parts of paths

pub name_utf8 : (p : Parameter) → IsUtf8 (name_of p)
unfolding small
name_utf8 q.Format = text_utf8 (codes "f") refl
name_utf8 q.Coords = text_utf8 (codes "coords") refl
name_utf8 q.Within = text_utf8 (codes "within") refl
name_utf8 q.WithinUnits = text_utf8 (codes "within-units") refl
name_utf8 q.Bbox = text_utf8 (codes "bbox") refl
name_utf8 q.CorridorWidth = text_utf8 (codes "corridor-width") refl
name_utf8 q.WidthUnits = text_utf8 (codes "width-units") refl
name_utf8 q.CorridorHeight = text_utf8 (codes "corridor-height") refl
name_utf8 q.HeightUnits = text_utf8 (codes "height-units") refl
name_utf8 q.Datetime = text_utf8 (codes "datetime") refl
name_utf8 q.Z = text_utf8 (codes "z") refl
name_utf8 q.ParameterName = text_utf8 (codes "parameter-name") refl
name_utf8 q.Crs = text_utf8 (codes "crs") refl

pub unit_utf8 : IsUtf8 (codes "m")
unfolding small
unit_utf8 = text_utf8 (codes "m") refl

pub metres_utf8 : (d : ℤ) → IsMetres d → IsUtf8 (signed_decimal d)
metres_utf8 (pos n) m = let h = m.greatest in number_utf8 (pos n) (omega (arith, ints, h))
metres_utf8 (negsuc n) m = let h = m.least in absurd (omega (arith, ints, h))

numbers_in : (box : BoundingBox) (l : Option (ℤ × ℤ)) → IsBox box → IfSome l (λ range. IsLevel range.0 × IsLevel range.1) → AllByRecursion IsLevel (numbers_with box.lo box.hi l)
numbers_in box None is h = (is.lo_in.0, (is.lo_in.1, (is.hi_in.0, (is.hi_in.1, tt))))
numbers_in box (Some (low, high)) is h = (is.lo_in.0, (is.lo_in.1, (h.0, (is.hi_in.0, (is.hi_in.1, (h.1, tt))))))

pub box_utf8 : (box : BoundingBox) → IsBox box → IsUtf8 (box_text box)
box_utf8 box is = levels_list_utf8 (numbers_of box) (numbers_in box box.levels is is.levels_in)

pub names_utf8 : (names : List (List ℕ)) → AreNames names → IsUtf8 (joined plain names)
names_utf8 names are = joined_utf8 plain names are.utf8

cons_some : (b : ℕ) (bs : List ℕ) → b ∷ bs ≡ [] → ⊥
cons_some b bs e = cc

pub conformance_part : IsPart (codes "conformance")
unfolding small
conformance_part = ((λ e. cons_some _ _ e), text_utf8 (codes "conformance") refl)

pub collections_part : IsPart (codes "collections")
unfolding small
collections_part = ((λ e. cons_some _ _ e), text_utf8 (codes "collections") refl)

pub instances_part : IsPart (codes "instances")
unfolding small
instances_part = ((λ e. cons_some _ _ e), text_utf8 (codes "instances") refl)

pub locations_part : IsPart (codes "locations")
unfolding small
locations_part = ((λ e. cons_some _ _ e), text_utf8 (codes "locations") refl)

pub kind_part : (kind : QueryKind) → IsPart (kind_text kind)
unfolding small
kind_part Position = ((λ e. cons_some _ _ e), text_utf8 (codes "position") refl)
kind_part Radius = ((λ e. cons_some _ _ e), text_utf8 (codes "radius") refl)
kind_part Area = ((λ e. cons_some _ _ e), text_utf8 (codes "area") refl)
kind_part Cube = ((λ e. cons_some _ _ e), text_utf8 (codes "cube") refl)
kind_part Trajectory = ((λ e. cons_some _ _ e), text_utf8 (codes "trajectory") refl)
kind_part Corridor = ((λ e. cons_some _ _ e), text_utf8 (codes "corridor") refl)
