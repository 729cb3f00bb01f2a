-- A text has at most one geometry.
use Rattle.std.proofs.Common.{◌≡◌, ℕ, subst, Bool, true, false, List, [], ◌∷◌, sym, ap, ◌∙◌}
use Rattle.edr_base.specs.declared.places.Position.{Position}
use Rattle.edr_wkt.specs.declared.headings.Kind.{Kind}
use Rattle.edr_wkt.specs.declared.headings.Kind.TheVariants as k
use Rattle.edr_wkt.specs.declared.headings.Kind.TheVariants.{Point, MultiPoint, LineString, MultiPolygon}
use Rattle.edr_wkt.specs.declared.geometry.Polygon.{Polygon}
use Rattle.edr_wkt.specs.declared.geometry.Geometry.{Geometry}
use Rattle.edr_wkt.specs.declared.geometry.Geometry.TheVariants.{Points, Line, Polygons}
use Rattle.edr_wkt.specs.Grammar.{AreBlanks, IsPosition, IsMember, AreItems, IsRing, IsPolygon}
use Rattle.edr_wkt.specs.Wkt.{kind_of, has_z_of, has_m_of, IsInside, IsWkt}
use Rattle.edr_wkt.specs.HeadingReads.{BeginsWithHeading, HasNoHeading}
use Rattle.edr_wkt.specs.BodyReads.{HasHeading, IsBodyRead, HasNoBody}
use Rattle.edr_wkt.proofs.ListLemmas.{items-unique}
use Rattle.edr_wkt.proofs.MemberLemmas.{unique_position, unique_member, unique_ring, unique_polygon}
use Rattle.edr_wkt.proofs.HeadingLemmas.{heading-unique}

along : (z m y l : Bool) (P : Bool → Bool → Type 0) → z ≡ y → m ≡ l → P z m → P y l
along z m y l P e f h = let Q : Bool → Type 0 = λ b. P b l in let R : Bool → Type 0 = λ b. P z b in subst Q e (subst R f h)

-- the inside of brackets is that of one geometry of a heading
pub inside-unique : (g h : Geometry) (text r s : List ℕ) → kind_of g ≡ kind_of h → has_z_of g ≡ has_z_of h → has_m_of g ≡ has_m_of h → IsInside g text r → IsInside h text s → (g ≡ h) × (r ≡ s)
inside-unique (Points false z m xs) (Points false y l ys) text r s kind zs ms i j =
    let moved = along z m y l (λ p q. AreItems (IsPosition p q) text xs r) zs ms i.0 in
    let same = items-unique (IsPosition y l) (unique_position y l) text xs ys r s moved j.0 in
    (ap (λ p. Points false p m xs) zs ∙ ap (λ q. Points false y q xs) ms ∙ ap (Points false y l) same.0, same.1)
inside-unique (Points false z m xs) (Points true y l ys) text r s kind zs ms i j = let e : Point ≡ MultiPoint = kind in cc
inside-unique (Points false z m xs) (Line y l ys) text r s kind zs ms i j = let e : Point ≡ LineString = kind in cc
inside-unique (Points false z m xs) (Polygons false y l ys) text r s kind zs ms i j = let e : Point ≡ k.Polygon = kind in cc
inside-unique (Points false z m xs) (Polygons true y l ys) text r s kind zs ms i j = let e : Point ≡ MultiPolygon = kind in cc
inside-unique (Points true z m xs) (Points false y l ys) text r s kind zs ms i j = let e : MultiPoint ≡ Point = kind in cc
inside-unique (Points true z m xs) (Points true y l ys) text r s kind zs ms i j =
    let moved = along z m y l (λ p q. AreItems (IsMember true p q) text xs r) zs ms i in
    let same = items-unique (IsMember true y l) (unique_member true y l) text xs ys r s moved j in
    (ap (λ p. Points true p m xs) zs ∙ ap (λ q. Points true y q xs) ms ∙ ap (Points true y l) same.0, same.1)
inside-unique (Points true z m xs) (Line y l ys) text r s kind zs ms i j = let e : MultiPoint ≡ LineString = kind in cc
inside-unique (Points true z m xs) (Polygons false y l ys) text r s kind zs ms i j = let e : MultiPoint ≡ k.Polygon = kind in cc
inside-unique (Points true z m xs) (Polygons true y l ys) text r s kind zs ms i j = let e : MultiPoint ≡ MultiPolygon = kind in cc
inside-unique (Line z m xs) (Points false y l ys) text r s kind zs ms i j = let e : LineString ≡ Point = kind in cc
inside-unique (Line z m xs) (Points true y l ys) text r s kind zs ms i j = let e : LineString ≡ MultiPoint = kind in cc
inside-unique (Line z m xs) (Line y l ys) text r s kind zs ms i j =
    let moved = along z m y l (λ p q. AreItems (IsPosition p q) text xs r) zs ms i.0 in
    let same = items-unique (IsPosition y l) (unique_position y l) text xs ys r s moved j.0 in
    (ap (λ p. Line p m xs) zs ∙ ap (λ q. Line y q xs) ms ∙ ap (Line y l) same.0, same.1)
inside-unique (Line z m xs) (Polygons false y l ys) text r s kind zs ms i j = let e : LineString ≡ k.Polygon = kind in cc
inside-unique (Line z m xs) (Polygons true y l ys) text r s kind zs ms i j = let e : LineString ≡ MultiPolygon = kind in cc
inside-unique (Polygons false z m xs) (Points false y l ys) text r s kind zs ms i j = let e : k.Polygon ≡ Point = kind in cc
inside-unique (Polygons false z m xs) (Points true y l ys) text r s kind zs ms i j = let e : k.Polygon ≡ MultiPoint = kind in cc
inside-unique (Polygons false z m xs) (Line y l ys) text r s kind zs ms i j = let e : k.Polygon ≡ LineString = kind in cc
inside-unique (Polygons false z m xs) (Polygons false y l ys) text r s kind zs ms i j =
    let moved = along z m y l (λ p q. AreItems (IsRing p q) text i.0.rings r) zs ms i.2 in
    let same = items-unique (IsRing y l) (unique_ring y l) text i.0.rings j.0.rings r s moved j.2 in
    let one : List (List Position) → List Polygon = λ rings. record { rings = rings } ∷ [] in
    (ap (λ p. Polygons false p m xs) zs ∙ ap (λ q. Polygons false y q xs) ms ∙ ap (Polygons false y l) (i.1 ∙ ap one same.0 ∙ sym j.1), same.1)
inside-unique (Polygons false z m xs) (Polygons true y l ys) text r s kind zs ms i j = let e : k.Polygon ≡ MultiPolygon = kind in cc
inside-unique (Polygons true z m xs) (Points false y l ys) text r s kind zs ms i j = let e : MultiPolygon ≡ Point = kind in cc
inside-unique (Polygons true z m xs) (Points true y l ys) text r s kind zs ms i j = let e : MultiPolygon ≡ MultiPoint = kind in cc
inside-unique (Polygons true z m xs) (Line y l ys) text r s kind zs ms i j = let e : MultiPolygon ≡ LineString = kind in cc
inside-unique (Polygons true z m xs) (Polygons false y l ys) text r s kind zs ms i j = let e : MultiPolygon ≡ k.Polygon = kind in cc
inside-unique (Polygons true z m xs) (Polygons true y l ys) text r s kind zs ms i j =
    let moved = along z m y l (λ p q. AreItems (IsPolygon p q) text xs r) zs ms i in
    let same = items-unique (IsPolygon y l) (unique_polygon y l) text xs ys r s moved j in
    (ap (λ p. Polygons true p m xs) zs ∙ ap (λ q. Polygons true y q xs) ms ∙ ap (Polygons true y l) same.0, same.1)

wkt-heading : (text : List ℕ) (g : Geometry) → (w : IsWkt text g) → BeginsWithHeading text (kind_of g) (has_z_of g) (has_m_of g) w.inside
wkt-heading text g w = (w.body, w.heading, w.opens)

pub wkt-unique : (text : List ℕ) (g h : Geometry) → IsWkt text g → IsWkt text h → g ≡ h
wkt-unique text g h v w =
    let same = heading-unique text _ _ _ _ _ _ v.inside w.inside (wkt-heading text g v) (wkt-heading text h w) in
    let P : List ℕ → Type 0 = λ l. IsInside g l v.end in
    (inside-unique g h w.inside v.end w.end same.0 same.1 same.2 (subst P same.3 v.is_inside) w.is_inside).0

-- a text without a heading and a bracket behind it stands for nothing
pub wkt-no_heading : (text : List ℕ) → HasNoHeading text → (g : Geometry) → ¬ (IsWkt text g)
wkt-no_heading text none g w = none _ _ _ w.inside (wkt-heading text g w)

pub wkt-no_body : (text : List ℕ) (kind : Kind) (z m : Bool) (inside : List ℕ) → BeginsWithHeading text kind z m inside → HasNoBody kind z m inside → (g : Geometry) → ¬ (IsWkt text g)
wkt-no_body text kind z m inside h none g w =
    let same = heading-unique text _ _ _ _ _ _ w.inside inside (wkt-heading text g w) h in
    let P : List ℕ → Type 0 = λ l. IsInside g l w.end in
    none g w.end (record { kind_is = same.0; has_z_is = same.1; has_m_is = same.2 }) (subst P same.3 w.is_inside)

-- what stands behind the brackets is one rest
pub wkt-end : (text : List ℕ) (kind : Kind) (z m : Bool) (inside : List ℕ) (before after : ℕ) (read : Geometry) (rest : List ℕ) → BeginsWithHeading text kind z m inside → IsBodyRead kind z m inside before after read rest
    → (g : Geometry) → IsWkt text g → AreBlanks rest
wkt-end text kind z m inside before after read rest h b g w =
    let same = heading-unique text _ _ _ _ _ _ w.inside inside (wkt-heading text g w) h in
    let P : List ℕ → Type 0 = λ l. IsInside g l w.end in
    let e = inside-unique g b.geometry inside w.end rest (same.0 ∙ sym b.has_heading.kind_is) (same.1 ∙ sym b.has_heading.has_z_is) (same.2 ∙ sym b.has_heading.has_m_is) (subst P same.3 w.is_inside) b.is_inside in
    subst AreBlanks e.1 w.are_blanks

wkt-headed : (text inside : List ℕ) (kind : Kind) (z m : Bool) (g : Geometry) → HasHeading g kind z m → BeginsWithHeading text kind z m inside → BeginsWithHeading text (kind_of g) (has_z_of g) (has_m_of g) inside
wkt-headed text inside kind z m g e h =
    let P : Kind → Type 0 = λ x. BeginsWithHeading text x z m inside in
    let Q : Bool → Type 0 = λ x. BeginsWithHeading text (kind_of g) x m inside in
    let R : Bool → Type 0 = λ x. BeginsWithHeading text (kind_of g) (has_z_of g) x inside in
    subst R (sym e.has_m_is) (subst Q (sym e.has_z_is) (subst P (sym e.kind_is) h))

pub wkt-from : (text : List ℕ) (kind : Kind) (z m : Bool) (inside : List ℕ) (before after : ℕ) (read : Geometry) (rest : List ℕ) → BeginsWithHeading text kind z m inside → (b : IsBodyRead kind z m inside before after read rest)
    → AreBlanks rest → IsWkt text b.geometry
wkt-from text kind z m inside before after read rest h b all =
    let head = wkt-headed text inside kind z m b.geometry b.has_heading h in
    record { body = head.0; inside = inside; end = rest; heading = head.1; opens = head.2; is_inside = b.is_inside; are_blanks = all }
