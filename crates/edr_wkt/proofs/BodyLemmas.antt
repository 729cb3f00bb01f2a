-- The insides of the brackets of each kind.
use Rattle.std.proofs.Common.{◌≡◌, ℕ, subst, ◌+◌, ◌<◌, ◌≤◌, min, Bool, true, false, List, [], ◌∷◌, if◌then◌else◌, length, map, refl, sym, ap, ap₂, ◌∙◌, arith}
use Rattle.std.specs.List.{flat_map, sum_by}
use Rattle.std.proofs.lemmas.Bool.{false≢true}
use Rattle.std.proofs.lemmas.List.{length-append}
use Rattle.std.proofs.lemmas.List.Sums.{sum_by-cons}
use Rattle.edr_base.specs.declared.places.Position.{Position}
use Rattle.edr_wkt.specs.declared.headings.Kind.TheVariants as k
use Rattle.edr_wkt.specs.declared.headings.Kind.TheVariants.{Point, MultiPoint, LineString, MultiPolygon}
use Rattle.edr_wkt.specs.declared.geometry.Polygon.{Polygon}
use Rattle.edr_wkt.specs.declared.geometry.Geometry.TheVariants.{Points, Line, Polygons}
use Rattle.edr_wkt.specs.Kept.{kept, kept_polygon, counted}
use Rattle.edr_wkt.specs.Geometries.{positions_of, polygon_size}
use Rattle.edr_wkt.specs.Grammar.{IsPosition, IsMember, AreItems, IsRing, IsPolygon}
use Rattle.edr_wkt.specs.Reads.{ArePositions, AreRead, HasNoItems}
use Rattle.edr_wkt.specs.BodyReads.{IsBodyRead, HasNoBody}
use Rattle.edr_wkt.proofs.ListLemmas.{items-unique}
use Rattle.edr_wkt.proofs.MemberLemmas.{unique_position}

pub length-flat_map : {A B : Type 0} (f : A → List B) (xs : List A) → length (flat_map f xs) ≡ sum_by (λ x. length (f x)) xs
length-flat_map f [] = refl
length-flat_map f (x ∷ xs) = length-append (f x) (flat_map f xs) ∙ ap (λ n. length (f x) + n) (length-flat_map f xs) ∙ sym (sum_by-cons (λ y. length (f y)) x xs)

sum_by-same : {A : Type 0} (f g : A → ℕ) (xs : List A) → ((x : A) → f x ≡ g x) → sum_by f xs ≡ sum_by g xs
sum_by-same f g [] e = refl
sum_by-same f g (x ∷ xs) e = sum_by-cons f x xs ∙ ap₂ (λ a b. a + b) (e x) (sum_by-same f g xs e) ∙ sym (sum_by-cons g x xs)

-- how many positions polygons have
pub length-polygons : (multi z m : Bool) (polygons : List Polygon) → length (positions_of (Polygons multi z m polygons)) ≡ sum_by polygon_size polygons
length-polygons multi z m polygons =
    length-flat_map (λ (p : Polygon). flat_map (λ (r : List Position). r) p.rings) polygons
    ∙ sum_by-same (λ (p : Polygon). length (flat_map (λ (r : List Position). r) p.rings)) polygon_size polygons (λ p. length-flat_map (λ (r : List Position). r) p.rings)

along : (z m y l : Bool) (P : Bool → Bool → Type 0) → z ≡ y → m ≡ l → P z m → P y l
along z m y l P e f h = let Q : Bool → Type 0 = λ b. P b l in let R : Bool → Type 0 = λ b. P z b in subst Q e (subst R f h)

-- a point

pub point-none : (z m : Bool) (text : List ℕ) → ((ps : List Position) (rest : List ℕ) → AreItems (IsPosition z m) text ps rest → length ps ≡ 1 → ⊥) → HasNoBody Point z m text
point-none z m text none (Points false y l ps) rest h b =
    none ps rest (along y l z m (λ i j. AreItems (IsPosition i j) text ps rest) h.has_z_is h.has_m_is b.0) b.1
point-none z m text none (Points true y l ps) rest h b = let e : MultiPoint ≡ Point = h.kind_is in cc
point-none z m text none (Line y l ps) rest h b = let e : LineString ≡ Point = h.kind_is in cc
point-none z m text none (Polygons false y l ps) rest h b = let e : k.Polygon ≡ Point = h.kind_is in cc
point-none z m text none (Polygons true y l ps) rest h b = let e : MultiPolygon ≡ Point = h.kind_is in cc

pub multi_point-none : (z m : Bool) (text : List ℕ) → HasNoItems (IsMember true z m) text → HasNoBody MultiPoint z m text
multi_point-none z m text none (Points true y l ps) rest h b = none ps rest (along y l z m (λ i j. AreItems (IsMember true i j) text ps rest) h.has_z_is h.has_m_is b)
multi_point-none z m text none (Points false y l ps) rest h b = let e : Point ≡ MultiPoint = h.kind_is in cc
multi_point-none z m text none (Line y l ps) rest h b = let e : LineString ≡ MultiPoint = h.kind_is in cc
multi_point-none z m text none (Polygons false y l ps) rest h b = let e : k.Polygon ≡ MultiPoint = h.kind_is in cc
multi_point-none z m text none (Polygons true y l ps) rest h b = let e : MultiPolygon ≡ MultiPoint = h.kind_is in cc

pub line-none : (z m : Bool) (text : List ℕ) → ((ps : List Position) (rest : List ℕ) → AreItems (IsPosition z m) text ps rest → 2 ≤ length ps → ⊥) → HasNoBody LineString z m text
line-none z m text none (Line y l ps) rest h b = none ps rest (along y l z m (λ i j. AreItems (IsPosition i j) text ps rest) h.has_z_is h.has_m_is b.0) b.1
line-none z m text none (Points false y l ps) rest h b = let e : Point ≡ LineString = h.kind_is in cc
line-none z m text none (Points true y l ps) rest h b = let e : MultiPoint ≡ LineString = h.kind_is in cc
line-none z m text none (Polygons false y l ps) rest h b = let e : k.Polygon ≡ LineString = h.kind_is in cc
line-none z m text none (Polygons true y l ps) rest h b = let e : MultiPolygon ≡ LineString = h.kind_is in cc

pub polygon-none : (z m : Bool) (text : List ℕ) → HasNoItems (IsRing z m) text → HasNoBody k.Polygon z m text
polygon-none z m text none (Polygons false y l ps) rest h b = none b.0.rings rest (along y l z m (λ i j. AreItems (IsRing i j) text b.0.rings rest) h.has_z_is h.has_m_is b.2)
polygon-none z m text none (Points false y l ps) rest h b = let e : Point ≡ k.Polygon = h.kind_is in cc
polygon-none z m text none (Points true y l ps) rest h b = let e : MultiPoint ≡ k.Polygon = h.kind_is in cc
polygon-none z m text none (Line y l ps) rest h b = let e : LineString ≡ k.Polygon = h.kind_is in cc
polygon-none z m text none (Polygons true y l ps) rest h b = let e : MultiPolygon ≡ k.Polygon = h.kind_is in cc

pub multi_polygon-none : (z m : Bool) (text : List ℕ) → HasNoItems (IsPolygon z m) text → HasNoBody MultiPolygon z m text
multi_polygon-none z m text none (Polygons true y l ps) rest h b = none ps rest (along y l z m (λ i j. AreItems (IsPolygon i j) text ps rest) h.has_z_is h.has_m_is b)
multi_polygon-none z m text none (Points false y l ps) rest h b = let e : Point ≡ MultiPolygon = h.kind_is in cc
multi_polygon-none z m text none (Points true y l ps) rest h b = let e : MultiPoint ≡ MultiPolygon = h.kind_is in cc
multi_polygon-none z m text none (Line y l ps) rest h b = let e : LineString ≡ MultiPolygon = h.kind_is in cc
multi_polygon-none z m text none (Polygons false y l ps) rest h b = let e : k.Polygon ≡ MultiPolygon = h.kind_is in cc

-- any other list of the same text is as long
same-length : (z m : Bool) (text : List ℕ) (before after : ℕ) (read : List Position) (len : ℕ) (rest : List ℕ) → ArePositions false z m text before after read len rest
    → (ps : List Position) (end : List ℕ) → AreItems (IsPosition z m) text ps end → len ≡ min (length ps) 4
same-length z m text before after read len rest a ps end h =
    a.len_is ∙ ap (λ (l : List Position). min (length l) 4) (items-unique (IsPosition z m) (unique_position z m) text a.positions ps rest end a.are_items h).0

pub point-other : (z m : Bool) (text : List ℕ) (before after : ℕ) (read : List Position) (len : ℕ) (rest : List ℕ) → ArePositions false z m text before after read len rest → (len ≡ 1 → ⊥) → HasNoBody Point z m text
point-other z m text before after read len rest a other = point-none z m text (λ ps end h one. other (omega (arith, same-length z m text before after read len rest a ps end h, one)))

pub line-short : (z m : Bool) (text : List ℕ) (before after : ℕ) (read : List Position) (len : ℕ) (rest : List ℕ) → ArePositions false z m text before after read len rest → len < 2 → HasNoBody LineString z m text
line-short z m text before after read len rest a short = line-none z m text (λ ps end h two. omega (arith, same-length z m text before after read len rest a ps end h, two))

pub point-read : (z m : Bool) (text : List ℕ) (before after : ℕ) (read : List Position) (len : ℕ) (rest : List ℕ) → ArePositions false z m text before after read len rest → len ≡ 1
    → IsBodyRead Point z m text before after (Points false z m read) rest
point-read z m text before after read len rest a one = record {
  geometry = Points false z m a.positions;
  has_heading = record { kind_is = refl; has_z_is = refl; has_m_is = refl };
  is_inside = (a.are_items, omega (arith, a.len_is, one));
  after_is = a.after_is;
  read_is = λ h. ap (Points false z m) (a.read_is h);
}

pub multi_point-read : (z m : Bool) (text : List ℕ) (before after : ℕ) (read : List Position) (len : ℕ) (rest : List ℕ) → ArePositions true z m text before after read len rest
    → IsBodyRead MultiPoint z m text before after (Points true z m read) rest
multi_point-read z m text before after read len rest a = record
    { geometry = Points true z m a.positions; has_heading = record { kind_is = refl; has_z_is = refl; has_m_is = refl }; is_inside = a.are_items; after_is = a.after_is; read_is = λ h. ap (Points true z m) (a.read_is h) }

-- a point, or several

pub points-none : (multi z m : Bool) (text : List ℕ) → HasNoItems (IsMember multi z m) text → HasNoBody (if multi then MultiPoint else Point) z m text
points-none true z m text none = multi_point-none z m text none
points-none false z m text none = point-none z m text (λ ps rest h one. none ps rest h)

pub points-other : (multi z m : Bool) (text : List ℕ) (before after : ℕ) (read : List Position) (len : ℕ) (rest : List ℕ) → ArePositions multi z m text before after read len rest → multi ≡ false → (len ≡ 1 → ⊥)
    → HasNoBody (if multi then MultiPoint else Point) z m text
points-other true z m text before after read len rest a one other = absurd (false≢true (sym one))
points-other false z m text before after read len rest a one other = point-other z m text before after read len rest a other

pub points-read : (multi z m : Bool) (text : List ℕ) (before after : ℕ) (read : List Position) (len : ℕ) (rest : List ℕ) → ArePositions multi z m text before after read len rest → (multi ≡ false → len ≡ 1)
    → IsBodyRead (if multi then MultiPoint else Point) z m text before after (Points multi z m read) rest
points-read true z m text before after read len rest a one = multi_point-read z m text before after read len rest a
points-read false z m text before after read len rest a one = point-read z m text before after read len rest a (one refl)

pub line-read : (z m : Bool) (text : List ℕ) (before after : ℕ) (read : List Position) (len : ℕ) (rest : List ℕ) → ArePositions false z m text before after read len rest → 2 ≤ len
    → IsBodyRead LineString z m text before after (Line z m read) rest
line-read z m text before after read len rest a two = record {
  geometry = Line z m a.positions;
  has_heading = record { kind_is = refl; has_z_is = refl; has_m_is = refl };
  is_inside = (a.are_items, omega (arith, a.len_is, two));
  after_is = a.after_is;
  read_is = λ h. ap (Line z m) (a.read_is h);
}

pub multi_polygon-read : (z m : Bool) (text : List ℕ) (before after : ℕ) (read : List Polygon) (rest : List ℕ) → AreRead (IsPolygon z m) polygon_size kept_polygon text before after read rest
    → IsBodyRead MultiPolygon z m text before after (Polygons true z m read) rest
multi_polygon-read z m text before after read rest a = record {
  geometry = Polygons true z m a.items;
  has_heading = record { kind_is = refl; has_z_is = refl; has_m_is = refl };
  is_inside = a.are_items;
  after_is = a.after_is ∙ ap (counted before) (sym (length-polygons true z m a.items));
  read_is = λ h. ap (Polygons true z m) (a.read_is h);
}

sum_by-one : (p : Polygon) → sum_by polygon_size (p ∷ []) ≡ polygon_size p
sum_by-one p = sum_by-cons polygon_size p [] ∙ omega arith

pub polygon-body_read : (z m : Bool) (text : List ℕ) (before after : ℕ) (rings : List (List Position)) (read : List Polygon) (rest : List ℕ) → AreRead (IsRing z m) length (map kept) text before after rings rest
    → read ≡ record { rings = rings } ∷ [] → IsBodyRead k.Polygon z m text before after (Polygons false z m read) rest
polygon-body_read z m text before after rings read rest a e =
    let polygon : Polygon = record { rings = a.items } in
    let one : List (List Position) → List Polygon = λ l. record { rings = l } ∷ [] in
    record {
      geometry = Polygons false z m (polygon ∷ []);
      has_heading = record { kind_is = refl; has_z_is = refl; has_m_is = refl };
      is_inside = (polygon, refl, a.are_items);
      after_is = a.after_is ∙ ap (counted before) (sym (length-polygons false z m (polygon ∷ []) ∙ sum_by-one polygon));
      read_is = λ h. ap (Polygons false z m) (e ∙ ap one (a.read_is h));
    }
