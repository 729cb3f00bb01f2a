-- What is read is a geometry, and the faults of what is kept are those of the text.
use Rattle.std.proofs.Common.{◌≡◌, ℕ, subst, ◌<◌, ◌≤◌, Bool, true, false, List, [], ◌∷◌, length, refl, sym, ap, ◌∙◌, arith, ℤ, inl, inr, Result, Ok, Err}
use Rattle.std.specs.List.{flat_map, AllByRecursion}
use Rattle.std.proofs.lemmas.List.{length-append, append-nil}
use Rattle.edr_base.specs.FirstThatApplies.{IsFirstPlace}
use Rattle.edr_base.specs.declared.places.Position.{Position}
use Rattle.edr_base.specs.NumberParts.{IsSplit}
use Rattle.edr_base.specs.SplitLaws.{IsSplit-unique}
use Rattle.edr_wkt.specs.declared.headings.Kind.{Kind}
use Rattle.edr_wkt.specs.declared.geometry.Polygon.{Polygon}
use Rattle.edr_wkt.specs.declared.geometry.Geometry.{Geometry}
use Rattle.edr_wkt.specs.declared.geometry.Geometry.TheVariants.{Points, Line, Polygons}
use Rattle.edr_wkt.specs.declared.faults.WktFault.{WktFault}
use Rattle.edr_wkt.specs.declared.faults.WktFault.TheVariants.{NotWkt, TooManyPositions, OutOfRange, OpenRing, DecreasingM, OutOfMemory}
use Rattle.edr_wkt.specs.Kept.{counted}
use Rattle.edr_wkt.specs.Geometries.{positions_of, rings_of}
use Rattle.edr_wkt.specs.Grammar.{AreBlanks, IsNumberIf, IsPosition, IsMember, IsMore, AreItems, IsRing, IsPolygon}
use Rattle.edr_wkt.specs.Wkt.{has_z_of, has_m_of, IsInside, IsWkt}
use Rattle.edr_wkt.specs.Reads.{not_blank}
use Rattle.edr_wkt.specs.HeadingReads.{BeginsWithHeading}
use Rattle.edr_wkt.specs.BodyReads.{kept_geometry, IsBodyRead}
use Rattle.edr_wkt.specs.Faults.{IsInRange, IsBadAt, IsFaultless, IsAbsent, HasOnly, IsLong, HasRings, HasCounts, IsGeometry, MatchWkt}
use Rattle.edr_wkt.specs.Checks.{IsFound}
use Rattle.edr_wkt.specs.declared.lists.Stop.{Stop}
use Rattle.edr_wkt.specs.declared.lists.Stop.TheVariants as stops
use Rattle.edr_wkt.specs.Stops.{fault_of}
use Rattle.std.specs.Prelude.{IsErr}
use Rattle.std.specs.Result.{IsErrAnd}
use Rattle.edr_wkt.proofs.GatherLemmas.{passed_on}
use Rattle.edr_wkt.proofs.FaultLemmas.{found_least}
use Rattle.edr_wkt.proofs.WordLemmas.{blanks-none, blanks-all}
use Rattle.edr_wkt.proofs.CheckLemmas.{all-append}
use Rattle.edr_wkt.proofs.KeptLemmas.{positions_of-kept, length-kept, length-rings_kept, geometry-kept_same, first_bad-kept}
use Rattle.edr_wkt.proofs.WktLemmas.{wkt-from}

pub items-some : {A : Type 0} (Item : List ℕ → A → List ℕ → Type 0) (text : List ℕ) (xs : List A) (rest : List ℕ) → AreItems Item text xs rest → 1 ≤ length xs
items-some Item text [] rest h = absurd h
items-some Item text (x ∷ xs) rest h = omega arith

more-all : {A : Type 0} (Item : List ℕ → A → List ℕ → Type 0) (P : A → Type 0) → ((t : List ℕ) (x : A) (r : List ℕ) → Item t x r → P x) → (text : List ℕ) (xs : List A) (rest : List ℕ) → IsMore Item text xs rest → AllByRecursion P xs
more-all Item P f text [] rest h = tt
more-all Item P f text (x ∷ xs) rest h = (f h.0 x h.1 h.3, more-all Item P f h.1 xs rest h.4)

-- what each item is, all are
pub items-all : {A : Type 0} (Item : List ℕ → A → List ℕ → Type 0) (P : A → Type 0) → ((t : List ℕ) (x : A) (r : List ℕ) → Item t x r → P x) → (text : List ℕ) (xs : List A) (rest : List ℕ) → AreItems Item text xs rest → AllByRecursion P xs
items-all Item P f text [] rest h = absurd h
items-all Item P f text (x ∷ xs) rest h = (f text x h.0 h.1, more-all Item P f h.0 xs rest h.2)

number-absent : (has : Bool) (text : List ℕ) (v : ℤ) (rest : List ℕ) → IsNumberIf has text v rest → IsAbsent has v
number-absent true text v rest n = tt
number-absent false text v rest n = n.0

position-only : (z m : Bool) (text : List ℕ) (p : Position) (rest : List ℕ) → IsPosition z m text p rest → HasOnly z m p
position-only z m text p rest a = (number-absent z a.after_y p.z a.after_z a.z, number-absent m a.after_z p.m rest a.m)

member-only : (multi z m : Bool) (text : List ℕ) (p : Position) (rest : List ℕ) → IsMember multi z m text p rest → HasOnly z m p
member-only false z m text p rest a = position-only z m text p rest a
member-only true z m text p rest (inl a) = position-only z m text p rest a
member-only true z m text p rest (inr a) = position-only z m a.0 p a.2.0 a.2.1

list-only : (z m : Bool) (text : List ℕ) (ps : List Position) (rest : List ℕ) → AreItems (IsPosition z m) text ps rest → AllByRecursion (HasOnly z m) ps
list-only z m text ps rest h = items-all (IsPosition z m) (HasOnly z m) (position-only z m) text ps rest h

ring-only : (z m : Bool) (text : List ℕ) (ps : List Position) (rest : List ℕ) → IsRing z m text ps rest → AllByRecursion (HasOnly z m) ps
ring-only z m text ps rest r = list-only z m r.0.0 ps rest r.0.2

pub all-flat : {A B : Type 0} (P : B → Type 0) (f : A → List B) (xs : List A) → AllByRecursion (λ x. AllByRecursion P (f x)) xs → AllByRecursion P (flat_map f xs)
all-flat P f [] all = tt
all-flat P f (x ∷ xs) all = all-append P (f x) (flat_map f xs) all.0 (all-flat P f xs all.1)

rings-only : (z m : Bool) (text : List ℕ) (rings : List (List Position)) (rest : List ℕ) → AreItems (IsRing z m) text rings rest → AllByRecursion (HasOnly z m) (flat_map (λ (r : List Position). r) rings)
rings-only z m text rings rest h =
    all-flat (HasOnly z m) (λ (r : List Position). r) rings (items-all (IsRing z m) (λ r. AllByRecursion (HasOnly z m) r) (ring-only z m) text rings rest h)

polygon-only : (z m : Bool) (text : List ℕ) (p : Polygon) (rest : List ℕ) → IsPolygon z m text p rest → AllByRecursion (HasOnly z m) (flat_map (λ (r : List Position). r) p.rings)
polygon-only z m text p rest h = rings-only z m h.0 p.rings rest h.2

ring-long : (z m : Bool) (text : List ℕ) (ps : List Position) (rest : List ℕ) → IsRing z m text ps rest → IsLong ps
ring-long z m text ps rest r = r.1

rings-counted : (z m : Bool) (text : List ℕ) (p : Polygon) (rest : List ℕ) → AreItems (IsRing z m) text p.rings rest → HasRings p
rings-counted z m text p rest h = (items-some (IsRing z m) text p.rings rest h, items-all (IsRing z m) IsLong (ring-long z m) text p.rings rest h)

polygon-counted : (z m : Bool) (text : List ℕ) (p : Polygon) (rest : List ℕ) → IsPolygon z m text p rest → HasRings p
polygon-counted z m text p rest h = rings-counted z m h.0 p rest h.2

abbrev of_polygon : Polygon → List Position
of_polygon p = flat_map (λ (r : List Position). r) p.rings

-- what the grammar says of the counts
pub inside-counts : (g : Geometry) (text rest : List ℕ) → IsInside g text rest → HasCounts g
inside-counts (Points false z m ps) text rest i = i.1
inside-counts (Points true z m ps) text rest i = items-some (IsMember true z m) text ps rest i
inside-counts (Line z m ps) text rest i = i.1
inside-counts (Polygons false z m ps) text rest i =
    let P : List Polygon → Type 0 = λ l. (length l ≡ 1) × AllByRecursion HasRings l in
    subst P (sym i.1) (refl, (rings-counted z m text i.0 rest i.2, tt))
inside-counts (Polygons true z m ps) text rest i = (items-some (IsPolygon z m) text ps rest i, items-all (IsPolygon z m) HasRings (polygon-counted z m) text ps rest i)

-- what the grammar says of z and m
pub inside-only : (g : Geometry) (text rest : List ℕ) → IsInside g text rest → AllByRecursion (HasOnly (has_z_of g) (has_m_of g)) (positions_of g)
inside-only (Points false z m ps) text rest i = list-only z m text ps rest i.0
inside-only (Points true z m ps) text rest i = items-all (IsMember true z m) (HasOnly z m) (member-only true z m) text ps rest i
inside-only (Line z m ps) text rest i = list-only z m text ps rest i.0
inside-only (Polygons false z m ps) text rest i =
    let P : List Polygon → Type 0 = λ l. AllByRecursion (HasOnly z m) (flat_map of_polygon l) in
    subst P (sym i.1) (all-append (HasOnly z m) (of_polygon i.0) [] (rings-only z m text i.0.rings rest i.2) tt)
inside-only (Polygons true z m ps) text rest i =
    all-flat (HasOnly z m) of_polygon ps (items-all (IsPolygon z m) (λ p. AllByRecursion (HasOnly z m) (of_polygon p)) (polygon-only z m) text ps rest i)

rings-few : (rings : List (List Position)) → AllByRecursion IsLong rings → length rings ≤ length (flat_map (λ (r : List Position). r) rings)
rings-few [] all = omega arith
rings-few (r ∷ rings) all = omega (arith, rings-few rings all.1, all.0, length-append r (flat_map (λ (r : List Position). r) rings))

polygons-few : (ps : List Polygon) → AllByRecursion HasRings ps → length (flat_map (λ (p : Polygon). p.rings) ps) ≤ length (flat_map of_polygon ps)
polygons-few [] all = omega arith
polygons-few (p ∷ ps) all =
    omega (arith, polygons-few ps all.1, rings-few p.rings all.0.1, length-append p.rings (flat_map (λ (p : Polygon). p.rings) ps), length-append (of_polygon p) (flat_map of_polygon ps))

-- there are no more rings than positions
pub rings-le-positions : (g : Geometry) → HasCounts g → length (rings_of g) ≤ length (positions_of g)
rings-le-positions (Points multi z m ps) h = omega arith
rings-le-positions (Line z m ps) h = omega arith
rings-le-positions (Polygons false z m ps) h = polygons-few ps h.1
rings-le-positions (Polygons true z m ps) h = polygons-few ps h.1

pub counted-few : (n after : ℕ) → after ≡ counted 0 n → after ≤ 10000 → n ≤ 10000
counted-few n after e h = omega (arith, e)

pub counted-many : (n after : ℕ) → after ≡ counted 0 n → 10000 < after → 10000 < n
counted-many n after e h = omega (arith, e)

-- blanks alone have nothing behind their blanks
pub blanks-end : (text blanks front : List ℕ) → IsSplit not_blank text blanks front → AreBlanks text → length front ≡ 0
blanks-end text blanks front s all =
    let whole : IsSplit not_blank text text [] = record { text_is = sym (append-nil text); before = blanks-none text all; stops = tt } in
    ap length (IsSplit-unique not_blank text _ _ _ _ s whole).1

pub blanks-from : (text blanks front : List ℕ) → IsSplit not_blank text blanks front → length front ≡ 0 → AreBlanks text
blanks-from text blanks [] s e = subst AreBlanks (sym (s.text_is ∙ append-nil blanks)) (blanks-all blanks s.before)
blanks-from text blanks (c ∷ front) s e = absurd (omega (arith, e))

few-kept : (g : Geometry) → length (positions_of (kept_geometry g)) ≤ 10000 → length (positions_of g) ≤ 10000
few-kept g h = omega (arith, length-kept g, h)

found-along : (fault : WktFault) (g h : Geometry) → g ≡ h → IsFound fault g → IsFound fault h
found-along fault g h e f = let P : Geometry → Type 0 = λ x. IsFound fault x in subst P e f

-- what is found of what is kept is found of the text's geometry
found-kept : (fault : WktFault) (g : Geometry) → IsFound fault (kept_geometry g) → IsFound fault g
found-kept NotWkt g f = f
found-kept OutOfMemory g f = f
found-kept TooManyPositions g f = omega (arith, length-kept g, f)
found-kept (OutOfRange place) g f =
    let P : List Position → Type 0 = λ l. IsFirstPlace (IsBadAt IsInRange l) place in
    (few-kept g f.0, first_bad-kept (positions_of g) place (subst P (positions_of-kept g) f.1))
found-kept (OpenRing place) g f = found-along (OpenRing place) (kept_geometry g) g (geometry-kept_same g f.1) f
found-kept (DecreasingM place) g f = found-along (DecreasingM place) (kept_geometry g) g (geometry-kept_same g f.1) f

-- and answered
pub wkt-fault : (fault : WktFault) (g : Geometry) (text : List ℕ) → IsWkt text g → IsFound fault g → MatchWkt (Err fault) text
wkt-fault NotWkt g text w f = absurd f
wkt-fault OutOfMemory g text w f = absurd f
wkt-fault TooManyPositions g text w f = (g, w, found_least TooManyPositions g f)
wkt-fault (OutOfRange place) g text w f = (g, w, found_least (OutOfRange place) g f)
wkt-fault (OpenRing place) g text w f = (g, w, found_least (OpenRing place) g f)
wkt-fault (DecreasingM place) g text w f = (g, w, found_least (DecreasingM place) g f)

-- without a fault what is kept is the text's geometry
pub wkt-sound : (g : Geometry) (text : List ℕ) → IsWkt text g → IsFaultless (kept_geometry g) → MatchWkt (Ok (kept_geometry g)) text
wkt-sound g text w f =
    let same = geometry-kept_same g f.in_range in
    let P : Geometry → Type 0 = λ h. IsWkt text h × IsGeometry h in
    subst P (sym same) (w, record { counts = inside-counts g w.inside w.end w.is_inside; only = inside-only g w.inside w.end w.is_inside; faultless = subst IsFaultless same f })

body-few : (kind : Kind) (z m : Bool) (inside : List ℕ) (after : ℕ) (read : Geometry) (rest : List ℕ) → (b : IsBodyRead kind z m inside 0 after read rest) → after ≤ 10000 → length (positions_of b.geometry) ≤ 10000
body-few kind z m inside after read rest b h = omega (arith, b.after_is, h)

pub read-few : (kind : Kind) (z m : Bool) (inside : List ℕ) (after : ℕ) (read : Geometry) (rest : List ℕ) → IsBodyRead kind z m inside 0 after read rest → after ≤ 10000 → length (positions_of read) ≤ 10000
read-few kind z m inside after read rest b h =
    omega (arith, ap (λ g. length (positions_of g)) (b.read_is h), length-kept b.geometry, body-few kind z m inside after read rest b h)

pub read-few_rings : (kind : Kind) (z m : Bool) (inside : List ℕ) (after : ℕ) (read : Geometry) (rest : List ℕ) → IsBodyRead kind z m inside 0 after read rest → after ≤ 10000 → length (rings_of read) ≤ 10000
read-few_rings kind z m inside after read rest b h =
    omega (arith, ap (λ g. length (rings_of g)) (b.read_is h), length-rings_kept b.geometry, rings-le-positions b.geometry (inside-counts b.geometry inside rest b.is_inside), body-few kind z m inside after read rest b h)

pub read-many : (text : List ℕ) (kind : Kind) (z m : Bool) (inside : List ℕ) (after : ℕ) (read : Geometry) (rest : List ℕ) → BeginsWithHeading text kind z m inside → IsBodyRead kind z m inside 0 after read rest → AreBlanks rest
    → 10000 < after → MatchWkt (Err TooManyPositions) text
read-many text kind z m inside after read rest h b all many = wkt-fault TooManyPositions b.geometry text (wkt-from text kind z m inside 0 after read rest h b all) (omega (arith, b.after_is, many))

pub read-fault : (text : List ℕ) (kind : Kind) (z m : Bool) (inside : List ℕ) (after : ℕ) (read : Geometry) (rest : List ℕ) (fault : WktFault) → BeginsWithHeading text kind z m inside
    → IsBodyRead kind z m inside 0 after read rest → AreBlanks rest → after ≤ 10000 → IsFound fault read → MatchWkt (Err fault) text
read-fault text kind z m inside after read rest fault h b all few f =
    wkt-fault fault b.geometry text (wkt-from text kind z m inside 0 after read rest h b all) (found-kept fault b.geometry (found-along fault read (kept_geometry b.geometry) (b.read_is few) f))

pub read-sound : (text : List ℕ) (kind : Kind) (z m : Bool) (inside : List ℕ) (after : ℕ) (read : Geometry) (rest : List ℕ) → BeginsWithHeading text kind z m inside → IsBodyRead kind z m inside 0 after read rest → AreBlanks rest
    → after ≤ 10000 → IsFaultless read → MatchWkt (Ok read) text
read-sound text kind z m inside after read rest h b all few f =
    let same = b.read_is few in
    let P : Geometry → Type 0 = λ g. MatchWkt (Ok g) text in
    subst P (sym same) (wkt-sound b.geometry text (wkt-from text kind z m inside 0 after read rest h b all) (subst IsFaultless same f))

-- where the brackets weren't read, the text stands for nothing, or memory was wanting
pub answer-stopped : (r : Result Geometry WktFault) (stop : Stop) (text : List ℕ) → IsErr r × IsErrAnd r (λ f. f ≡ fault_of stop) → (stop ≡ stops.NotWkt → (g : Geometry) → ¬ (IsWkt text g)) → MatchWkt r text
answer-stopped r stops.NotWkt text h none = rw (passed_on r NotWkt h) (none refl)
answer-stopped r stops.OutOfMemory text h none = rw (passed_on r OutOfMemory h) tt
