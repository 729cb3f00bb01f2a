-- The written form is in the grammar, and stands for its geometry.
use Rattle.std.proofs.Common.{◌≡◌, ℕ, subst, ◌<◌, ◌≤◌, ◌^◌, Bool, true, false, List, [], ◌∷◌, ◌++◌, length, refl, sym, ap, ◌∙◌, arith, ℤ, pos, negsuc, inr, append_assoc, neg_ℤ, ◌≤ℤ◌}
use Rattle.std.specs.Int.RustNames.{unsigned_abs}
use Rattle.std.specs.Fmt.{signed_decimal}
use Rattle.std.specs.List.{flat_map, AllByRecursion}
use Rattle.std.proofs.lemmas.Int.{ints}
use Rattle.std.proofs.lemmas.List.{append-nil}
use Rattle.edr_base.specs.declared.places.Position.{Position}
use Rattle.edr_base.specs.NumberLaws.{numeral-decimal}
use Rattle.edr_base.specs.NumberParts.{Stops}
use Rattle.edr_wkt.specs.declared.headings.Kind.{Kind}
use Rattle.edr_wkt.specs.declared.geometry.Polygon.{Polygon}
use Rattle.edr_wkt.specs.declared.geometry.Geometry.{Geometry}
use Rattle.edr_wkt.specs.declared.geometry.Geometry.TheVariants.{Points, Line, Polygons}
use Rattle.edr_wkt.specs.Geometries.{positions_of}
use Rattle.edr_wkt.specs.Grammar.{is_end, IsMark, IsNumber, IsNumberIf, IsPosition, IsMember, IsMore, AreItems, IsList, IsRing, IsPolygon}
use Rattle.edr_wkt.specs.Headings.{tag_text, dims_text, IsHeading}
use Rattle.edr_wkt.specs.Wkt.{kind_of, has_z_of, has_m_of, IsInside, IsWkt}
use Rattle.edr_wkt.specs.Faults.{IsInRange, IsAbsent, HasOnly, IsLong, HasRings, IsGeometry}
use Rattle.edr_wkt.specs.Spelling.{number_text, position_text, joined, in_brackets, member_text, ring_text, polygon_text, dims_part, heading_text, body_text, spelled}

pub four-parts : (a b c d e x y z m : List ℕ) → b ≡ a ++ x → c ≡ b ++ y → d ≡ c ++ z → e ≡ d ++ m → e ≡ a ++ (x ++ (y ++ (z ++ m)))
four-parts a b c d e x y z m p q r s =
    s ∙ ap (λ l. l ++ m) (r ∙ ap (λ l. l ++ z) (q ∙ ap (λ l. l ++ y) p)) ∙ append_assoc ((a ++ x) ++ y) z m ∙ append_assoc (a ++ x) y (z ++ m) ∙ append_assoc a x (y ++ (z ++ m))

-- ---- numbers and positions

number-spelled : (z : ℤ) (rest : List ℕ) → unsigned_abs z < 2 ^ 64 → Stops is_end rest → IsNumber (signed_decimal z ++ rest) z rest
number-spelled z rest h stops = record { blanks = []; numeral = signed_decimal z; are_blanks = tt; is_numeral = numeral-decimal z h; text_is = refl; ends = stops }

number_if-spelled : (has : Bool) (z : ℤ) (rest : List ℕ) → IsAbsent has z → unsigned_abs z < 2 ^ 64 → Stops is_end rest → IsNumberIf has (number_text has z ++ rest) z rest
number_if-spelled true z rest absent h stops = record { blanks = 32 ∷ []; numeral = signed_decimal z; are_blanks = (refl, tt); is_numeral = numeral-decimal z h; text_is = refl; ends = stops }
number_if-spelled false z rest absent h stops = (absent, refl)

number_if-stops : (has : Bool) (z : ℤ) (rest : List ℕ) → Stops is_end rest → Stops is_end (number_text has z ++ rest)
number_if-stops true z rest stops = refl
number_if-stops false z rest stops = stops

-- a position that can be written
abbrev pub IsPlain : Bool → Bool → Position → Type 0
IsPlain has_z has_m p = HasOnly has_z has_m p × IsInRange p

abs-time : (z : ℤ) → neg_ℤ (pos 62167219200) ≤ℤ z → z ≤ℤ pos 253402300799 → unsigned_abs z < 2 ^ 64
abs-time (pos n) low high = omega (arith, ints, high)
abs-time (negsuc n) low high = omega (arith, ints, low)

position-spelled : (has_z has_m : Bool) (p : Position) (rest : List ℕ) → IsPlain has_z has_m p → Stops is_end rest → IsPosition has_z has_m (position_text has_z has_m p ++ rest) p rest
position-spelled has_z has_m p rest plain stops =
    let only = plain.0 in
    let range = plain.1 in
    let m = number_text has_m p.m ++ rest in
    let z = number_text has_z p.z ++ m in
    let y = number_text true p.y ++ z in
    let ms = number_if-stops has_m p.m rest stops in
    let zs = number_if-stops has_z p.z m ms in
    let whole : position_text has_z has_m p ++ rest ≡ signed_decimal p.x ++ y =
    append_assoc (signed_decimal p.x) (number_text true p.y ++ (number_text has_z p.z ++ number_text has_m p.m)) rest
    ∙ ap (λ l. signed_decimal p.x ++ l) (append_assoc (number_text true p.y) (number_text has_z p.z ++ number_text has_m p.m) rest
    ∙ ap (λ l. number_text true p.y ++ l) (append_assoc (number_text has_z p.z) (number_text has_m p.m) rest)) in
    let P : List ℕ → Type 0 = λ l. IsNumber l p.x y in
    record {
      after_x = y;
      after_y = z;
      after_z = m;
      x = subst P (sym whole) (number-spelled p.x y (omega (arith, range.x)) (number_if-stops true p.y z zs));
      y = number_if-spelled true p.y z tt (omega (arith, range.y)) zs;
      z = number_if-spelled has_z p.z m only.0 (omega (arith, range.z)) ms;
      m = number_if-spelled has_m p.m rest only.1 (abs-time p.m range.m_from range.m_to) stops;
    }

-- ---- lists

-- the text of an item is in the grammar, and stands for the item
pub record Spells {A : Type 0} (Item : List ℕ → A → List ℕ → Type 0) (text : A → List ℕ) (P : A → Type 0) : Type 0 where
  pub spells : (x : A) (rest : List ℕ) → P x → Stops is_end rest → Item (text x ++ rest) x rest

bare : (mark : ℕ) (rest : List ℕ) → IsMark mark (mark ∷ rest) rest
bare mark rest = record { blanks = []; are_blanks = tt; text_is = refl }

more-stops : {A : Type 0} (text : A → List ℕ) (xs : List A) (rest : List ℕ) → Stops is_end (flat_map (λ y. 44 ∷ text y) xs ++ 41 ∷ rest)
more-stops text [] rest = refl
more-stops text (x ∷ xs) rest = refl

more-spelled : {A : Type 0} (Item : List ℕ → A → List ℕ → Type 0) (text : A → List ℕ) (P : A → Type 0) → Spells Item text P → (xs : List A) (rest : List ℕ) → AllByRecursion P xs
    → IsMore Item (flat_map (λ y. 44 ∷ text y) xs ++ 41 ∷ rest) xs rest
more-spelled Item text P s [] rest all = bare 41 rest
more-spelled Item text P s (x ∷ xs) rest all =
    let after = flat_map (λ y. 44 ∷ text y) xs ++ 41 ∷ rest in
    let Q : List ℕ → Type 0 = λ l. IsMark 44 l (text x ++ after) in
    (text x ++ after, after, subst Q (sym (append_assoc (44 ∷ text x) (flat_map (λ y. 44 ∷ text y) xs) (41 ∷ rest))) (bare 44 (text x ++ after)), s.spells x after all.0 (more-stops text xs rest), more-spelled Item text P s xs rest all.1)

pub items-spelled : {A : Type 0} (Item : List ℕ → A → List ℕ → Type 0) (text : A → List ℕ) (P : A → Type 0) → Spells Item text P → (xs : List A) (rest : List ℕ) → 1 ≤ length xs → AllByRecursion P xs
    → AreItems Item (joined text xs ++ 41 ∷ rest) xs rest
items-spelled Item text P s [] rest some all = absurd (omega (arith, some))
items-spelled Item text P s (x ∷ xs) rest some all =
    let after = flat_map (λ y. 44 ∷ text y) xs ++ 41 ∷ rest in
    let Q : List ℕ → Type 0 = λ l. Item l x after in
    (after, subst Q (sym (append_assoc (text x) (flat_map (λ y. 44 ∷ text y) xs) (41 ∷ rest))) (s.spells x after all.0 (more-stops text xs rest)), more-spelled Item text P s xs rest all.1)

pub list-spelled : {A : Type 0} (Item : List ℕ → A → List ℕ → Type 0) (text : A → List ℕ) (P : A → Type 0) → Spells Item text P → (xs : List A) (rest : List ℕ) → 1 ≤ length xs → AllByRecursion P xs
    → IsList Item (in_brackets (joined text xs) ++ rest) xs rest
list-spelled Item text P s xs rest some all =
    let inside = joined text xs ++ 41 ∷ rest in
    let Q : List ℕ → Type 0 = λ l. IsMark 40 (40 ∷ l) inside in
    (inside, subst Q (sym (append_assoc (joined text xs) (41 ∷ []) rest)) (bare 40 inside), items-spelled Item text P s xs rest some all)

-- ---- the items of each kind

spells_position : (z m : Bool) → Spells (IsPosition z m) (position_text z m) (IsPlain z m)
spells_position z m = record { spells = position-spelled z m }

bracketed-spelled : (z m : Bool) (p : Position) (rest : List ℕ) → IsPlain z m p → IsList (IsPosition z m) (in_brackets (position_text z m p) ++ rest) (p ∷ []) rest
bracketed-spelled z m p rest plain =
    let P : List ℕ → Type 0 = λ l. IsList (IsPosition z m) (in_brackets l ++ rest) (p ∷ []) rest in
    subst P (append-nil (position_text z m p)) (list-spelled (IsPosition z m) (position_text z m) (IsPlain z m) (spells_position z m) (p ∷ []) rest (omega arith) (plain, tt))

spells_member : (z m : Bool) → Spells (IsMember true z m) (member_text true z m) (IsPlain z m)
spells_member z m = record { spells = λ p rest plain stops. inr (bracketed-spelled z m p rest plain) }

-- a ring and a polygon that can be written
abbrev pub IsPlainRing : Bool → Bool → List Position → Type 0
IsPlainRing z m ring = AllByRecursion (IsPlain z m) ring × IsLong ring

abbrev pub IsPlainPolygon : Bool → Bool → Polygon → Type 0
IsPlainPolygon z m polygon = (1 ≤ length polygon.rings) × AllByRecursion (IsPlainRing z m) polygon.rings

spells_ring : (z m : Bool) → Spells (IsRing z m) (ring_text z m) (IsPlainRing z m)
spells_ring z m = record {
  spells = λ ring rest plain stops.
      (list-spelled (IsPosition z m) (position_text z m) (IsPlain z m) (spells_position z m) ring rest (omega (arith, plain.1)) plain.0, plain.1);
}

polygon-spelled : (z m : Bool) (polygon : Polygon) (rest : List ℕ) → IsPlainPolygon z m polygon → IsPolygon z m (polygon_text z m polygon ++ rest) polygon rest
polygon-spelled z m polygon rest plain = list-spelled (IsRing z m) (ring_text z m) (IsPlainRing z m) (spells_ring z m) polygon.rings rest plain.0 plain.1

spells_polygon : (z m : Bool) → Spells (IsPolygon z m) (polygon_text z m) (IsPlainPolygon z m)
spells_polygon z m = record { spells = λ polygon rest plain stops. polygon-spelled z m polygon rest plain }

-- ---- geometries

all-both : {A : Type 0} (P Q : A → Type 0) (xs : List A) → AllByRecursion P xs → AllByRecursion Q xs → AllByRecursion (λ x. P x × Q x) xs
all-both P Q [] a b = tt
all-both P Q (x ∷ xs) a b = ((a.0, b.0), all-both P Q xs a.1 b.1)

all-first : {A : Type 0} (P : A → Type 0) (a b : List A) → AllByRecursion P (a ++ b) → AllByRecursion P a
all-first P [] b all = tt
all-first P (x ∷ a) b all = (all.0, all-first P a b all.1)

all-second : {A : Type 0} (P : A → Type 0) (a b : List A) → AllByRecursion P (a ++ b) → AllByRecursion P b
all-second P [] b all = all
all-second P (x ∷ a) b all = all-second P a b all.1

plain-rings : (z m : Bool) (rings : List (List Position)) → AllByRecursion (IsPlain z m) (flat_map (λ (r : List Position). r) rings) → AllByRecursion IsLong rings → AllByRecursion (IsPlainRing z m) rings
plain-rings z m [] all long = tt
plain-rings z m (r ∷ rings) all long =
    let rest = flat_map (λ (r : List Position). r) rings in
    ((all-first (IsPlain z m) r rest all, long.0), plain-rings z m rings (all-second (IsPlain z m) r rest all) long.1)

plain-polygons : (z m : Bool) (polygons : List Polygon) → AllByRecursion (IsPlain z m) (flat_map (λ (p : Polygon). flat_map (λ (r : List Position). r) p.rings) polygons) → AllByRecursion HasRings polygons
    → AllByRecursion (IsPlainPolygon z m) polygons
plain-polygons z m [] all rings = tt
plain-polygons z m (p ∷ polygons) all rings =
    let first = flat_map (λ (r : List Position). r) p.rings in
    let rest = flat_map (λ (p : Polygon). flat_map (λ (r : List Position). r) p.rings) polygons in
    ((rings.0.0, plain-rings z m p.rings (all-first (IsPlain z m) first rest all) rings.0.1), plain-polygons z m polygons (all-second (IsPlain z m) first rest all) rings.1)

plain : (g : Geometry) → IsGeometry g → AllByRecursion (IsPlain (has_z_of g) (has_m_of g)) (positions_of g)
plain g is = all-both (HasOnly (has_z_of g) (has_m_of g)) IsInRange (positions_of g) is.only is.faultless.in_range

-- the inside of the brackets of a geometry, as it is written
record Written (g : Geometry) : Type 0 where
  inside : List ℕ
  opens : IsMark 40 (body_text g) inside
  is_inside : IsInside g inside []

one-list : (polygons : List Polygon) → length polygons ≡ 1 → (p : Polygon) × (polygons ≡ p ∷ [])
one-list [] e = absurd (omega (arith, e))
one-list (p ∷ []) e = (p, refl)
one-list (p ∷ (q ∷ polygons)) e = absurd (omega (arith, e))

one-polygon : (z m : Bool) (polygons : List Polygon) (p : Polygon) → polygons ≡ p ∷ [] → IsPlainPolygon z m p → Written (Polygons false z m polygons)
one-polygon z m polygons p e plain =
    let h = polygon-spelled z m p [] plain in
    let P : List ℕ → Type 0 = λ l. IsMark 40 l h.0 in
    let Q : List Polygon → Type 0 = λ l. IsMark 40 (joined (polygon_text z m) l) h.0 in
    record { inside = h.0; opens = subst Q (sym e) h.1; is_inside = (p, e, h.2) }

written : (g : Geometry) → IsGeometry g → Written g
written (Points false z m ps) is = record {
  inside = joined (position_text z m) ps ++ 41 ∷ [];
  opens = bare 40 (joined (position_text z m) ps ++ 41 ∷ []);
  is_inside = (items-spelled (IsPosition z m) (position_text z m) (IsPlain z m) (spells_position z m) ps [] (omega (arith, is.counts)) (plain (Points false z m ps) is), is.counts);
}
written (Points true z m ps) is = record {
  inside = joined (member_text true z m) ps ++ 41 ∷ [];
  opens = bare 40 (joined (member_text true z m) ps ++ 41 ∷ []);
  is_inside = items-spelled (IsMember true z m) (member_text true z m) (IsPlain z m) (spells_member z m) ps [] is.counts (plain (Points true z m ps) is);
}
written (Line z m ps) is = record {
  inside = joined (position_text z m) ps ++ 41 ∷ [];
  opens = bare 40 (joined (position_text z m) ps ++ 41 ∷ []);
  is_inside = (items-spelled (IsPosition z m) (position_text z m) (IsPlain z m) (spells_position z m) ps [] (omega (arith, is.counts)) (plain (Line z m ps) is), is.counts);
}
written (Polygons false z m ps) is =
    let one = one-list ps is.counts.0 in
    let P : List Polygon → Type 0 = λ l. AllByRecursion (IsPlainPolygon z m) l in
    one-polygon z m ps one.0 one.1 (subst P one.1 (plain-polygons z m ps (plain (Polygons false z m ps) is) is.counts.1)).0
written (Polygons true z m ps) is = record {
  inside = joined (polygon_text z m) ps ++ 41 ∷ [];
  opens = bare 40 (joined (polygon_text z m) ps ++ 41 ∷ []);
  is_inside = items-spelled (IsPolygon z m) (polygon_text z m) (IsPlainPolygon z m) (spells_polygon z m) ps [] is.counts.0 (plain-polygons z m ps (plain (Polygons true z m ps) is) is.counts.1);
}

-- a heading as it is written
heading-spelled : (kind : Kind) (z m : Bool) (body : List ℕ) → IsHeading kind z m (heading_text kind z m ++ body) body
heading-spelled kind false false body = record
    { before = []; tag = tag_text kind; between = []; dims = []; are_before = tt; is_tag = refl; are_between = tt; are_dims = refl; text_is = append_assoc (tag_text kind) [] body }
heading-spelled kind true false body = record
    { before = []; tag = tag_text kind; between = 32 ∷ []; dims = dims_text true false; are_before = tt; is_tag = refl; are_between = (refl, tt); are_dims = refl; text_is = append_assoc (tag_text kind) (dims_part true false) body }
heading-spelled kind false true body = record
    { before = []; tag = tag_text kind; between = 32 ∷ []; dims = dims_text false true; are_before = tt; is_tag = refl; are_between = (refl, tt); are_dims = refl; text_is = append_assoc (tag_text kind) (dims_part false true) body }
heading-spelled kind true true body = record
    { before = []; tag = tag_text kind; between = 32 ∷ []; dims = dims_text true true; are_before = tt; is_tag = refl; are_between = (refl, tt); are_dims = refl; text_is = append_assoc (tag_text kind) (dims_part true true) body }

-- the written form of a geometry stands for it
pub spelled-wkt : (g : Geometry) → IsGeometry g → IsWkt (spelled g) g
spelled-wkt g is =
    let w = written g is in
    record { body = body_text g; inside = w.inside; end = []; heading = heading-spelled (kind_of g) (has_z_of g) (has_m_of g) (body_text g); opens = w.opens; is_inside = w.is_inside; are_blanks = tt }
