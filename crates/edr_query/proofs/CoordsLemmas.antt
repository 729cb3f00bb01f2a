-- Coordinates, heights along them, and boxes.
use Rattle.std.proofs.Common.{◌≡◌, inl, inr, ⊎_elim, ℕ, ℤ, ◌≤◌, List, [], length, true, false, refl, ap, sym, ◌∙◌, subst, arith, Some, None}
use Rattle.std.specs.Prelude.{is_some}
use Rattle.std.specs.declared.option.Option.{Option}
use Rattle.edr_axes.specs.declared.levels.Levels.{Levels}
use Rattle.edr_axes.specs.declared.levels.Levels.TheVariants as some_levels
use Rattle.edr_axes.specs.Levels.{IsLevelsText, HasNoLevels, LevelsAreUnique, AreLevelTexts}
use Rattle.edr_base.specs.declared.places.Spot.{Spot}
use Rattle.edr_wkt.specs.declared.geometry.Geometry.{Geometry}
use Rattle.edr_wkt.specs.declared.geometry.Geometry.TheVariants.{Points, Line, Polygons}
use Rattle.edr_wkt.specs.Wkt.{IsWkt, has_z_of}
use Rattle.std.specs.Prelude.{Err}
use Rattle.edr_base.specs.FirstThatApplies.{NoneApplies}
use Rattle.edr_wkt.specs.declared.faults.WktFault.{WktFault}
use Rattle.edr_wkt.specs.declared.faults.WktFault.TheVariants as wkt
use Rattle.edr_wkt.specs.Faults.{IsFaultless, MatchWkt, Applies as WktApplies}
use Rattle.edr_query.specs.declared.addresses.QueryKind.{QueryKind}
use Rattle.edr_query.specs.declared.addresses.QueryKind.TheVariants.{Corridor}
use Rattle.edr_query.specs.declared.addresses.PageKind.{PageKind}
use Rattle.edr_query.specs.declared.addresses.PageKind.TheVariants.{Query}
use Rattle.edr_query.specs.declared.parameters.Parameter.{Parameter}
use Rattle.edr_query.specs.declared.parameters.Parameter.TheVariants as p
use Rattle.edr_query.specs.declared.shapes.BoundingBox.{BoundingBox}
use Rattle.edr_query.specs.Parameters.{Pair, value_of, Given, MaySay}
use Rattle.edr_query.specs.Boxes.{numbers_with, numbers_of, IsBoxText, HasNoBox}
use Rattle.edr_query.specs.Queries.{IsGeometryText, takes}
use Rattle.edr_query.specs.Targets.{Coords, IsAlongZ, LacksRequired, LacksHeight, IsMissing, HasBadCoords, HasWrongGeometry}
use Rattle.edr_query.specs.Reads.{IsHeightPaired, is_along_z, is_corridor, query_kind, list_in, IsBoxOf}
use Rattle.edr_query.proofs.ListLemmas.{true_false, some_same, none_some, given, absent}

abbrev pub WktIsOne : Type 0
WktIsOne = (text : List ℕ) (g h : Geometry) → IsWkt text g → IsWkt text h → g ≡ h

-- ---- what is given

pub value_given : (q : Parameter) (P : List ℕ → Type 0) (pairs : List Pair) (text : List ℕ) → value_of q pairs ≡ Some text → Given q P pairs → P text
value_given q P pairs text e g = subst P (some_same g.0 text (sym g.1 ∙ e)) g.2

pub none_given : (q : Parameter) (P : List ℕ → Type 0) (pairs : List Pair) → value_of q pairs ≡ None → ¬ (Given q P pairs)
none_given q P pairs e g = none_some g.0 (sym e ∙ g.1)

pub said_some : {V : Type 0} (Says : List ℕ → V → Type 0) (o : Option (List ℕ)) (v : V) → MaySay Says o (Some v) → (text : List ℕ) × (o ≡ Some text) × Says text v
said_some Says None v h = absurd h
said_some Says (Some text) v h = (text, refl, h)

pub said_none : {V : Type 0} (Says : List ℕ → V → Type 0) (o : Option (List ℕ)) → MaySay Says o None → o ≡ None
said_none Says None h = refl
said_none Says (Some text) h = absurd h

-- the geometry that is said is the one that is given
pub coords_same : WktIsOne → (pairs : List Pair) (g h : Geometry) → MaySay IsGeometryText (value_of p.Coords pairs) (Some g) → Coords h pairs → g ≡ h
coords_same one pairs g h said coords =
    let s = said_some IsGeometryText (value_of p.Coords pairs) g said in
    let same : IsGeometryText s.0 h = value_given p.Coords (λ text. IsGeometryText text h) pairs s.0 s.1 coords in
    one s.0 g h s.2.0 same.0

pub coords_there : (pairs : List Pair) (g : Geometry) → MaySay IsGeometryText (value_of p.Coords pairs) (Some g) → Coords g pairs
coords_there pairs g said = let s = said_some IsGeometryText (value_of p.Coords pairs) g said in (s.0, s.1, s.2)

coords_none : (pairs : List Pair) (h : Geometry) → MaySay IsGeometryText (value_of p.Coords pairs) None → ¬ (Coords h pairs)
coords_none pairs h said coords = none_some coords.0 (sym (said_none IsGeometryText (value_of p.Coords pairs) said) ∙ coords.1)

-- ---- the geometry that a query takes

pub no_kind : (page : PageKind) (pairs : List Pair) → query_kind page ≡ None → ¬ (HasWrongGeometry page pairs)
no_kind (Query kind) pairs e = absurd (none_some kind (sym e))
no_kind _ pairs e = λ h. h

kind_is : (page : PageKind) (kind : QueryKind) → query_kind page ≡ Some kind → page ≡ Query kind
kind_is (Query k) kind e = ap Query (some_same k kind e)
kind_is _ kind e = absurd (none_some kind e)

pub no_coords : (page : PageKind) (kind : QueryKind) (pairs : List Pair) → query_kind page ≡ Some kind → MaySay IsGeometryText (value_of p.Coords pairs) None → ¬ (HasWrongGeometry page pairs)
no_coords page kind pairs e said =
    let P : PageKind → Type 0 = λ k. ¬ (HasWrongGeometry k pairs) in
    subst P (sym (kind_is page kind e)) (λ h. coords_none pairs h.0 said h.1)

pub taken_coords : WktIsOne → (page : PageKind) (kind : QueryKind) (g : Geometry) (pairs : List Pair) → query_kind page ≡ Some kind → MaySay IsGeometryText (value_of p.Coords pairs) (Some g)
    → takes kind g ≡ true → ¬ (HasWrongGeometry page pairs)
taken_coords one page kind g pairs e said taken =
    let P : PageKind → Type 0 = λ k. ¬ (HasWrongGeometry k pairs) in
    subst P (sym (kind_is page kind e)) (λ h. true_false (sym taken ∙ ap (takes kind) (coords_same one pairs g h.0 said h.1) ∙ h.2))

pub wrong_coords : (page : PageKind) (kind : QueryKind) (g : Geometry) (pairs : List Pair) → query_kind page ≡ Some kind → MaySay IsGeometryText (value_of p.Coords pairs) (Some g)
    → takes kind g ≡ false → HasWrongGeometry page pairs
wrong_coords page kind g pairs e said other =
    let P : PageKind → Type 0 = λ k. HasWrongGeometry k pairs in
    subst P (sym (kind_is page kind e)) (g, coords_there pairs g said, other)

-- ---- heights

pub no_corridor : (page : PageKind) (pairs : List Pair) → is_corridor page ≡ false → ¬ (LacksHeight page pairs)
no_corridor (Query Corridor) pairs e = absurd (true_false e)
no_corridor _ pairs e = λ h. h

pub unpaired : (page : PageKind) (pairs : List Pair) → is_corridor page ≡ false → IsHeightPaired page pairs
unpaired (Query Corridor) pairs e = absurd (true_false e)
unpaired _ pairs e = tt

corridor_is : (page : PageKind) → is_corridor page ≡ true → page ≡ Query Corridor
corridor_is (Query Corridor) e = refl
corridor_is _ e = absurd (true_false (sym e))

at_corridor : (P : PageKind → Type 0) (page : PageKind) → is_corridor page ≡ true → P (Query Corridor) → P page
at_corridor P page e h = subst P (sym (corridor_is page e)) h

pub paired_both : (page : PageKind) (pairs : List Pair) → is_corridor page ≡ true → is_some (value_of p.CorridorHeight pairs) ≡ true → is_some (value_of p.HeightUnits pairs) ≡ true → IsHeightPaired page pairs
paired_both page pairs e one other = at_corridor (λ k. IsHeightPaired k pairs) page e (inl (given _ one, given _ other))

pub paired_none : (page : PageKind) (pairs : List Pair) → is_corridor page ≡ true → is_some (value_of p.CorridorHeight pairs) ≡ false → is_some (value_of p.HeightUnits pairs) ≡ false → IsHeightPaired page pairs
paired_none page pairs e one other = at_corridor (λ k. IsHeightPaired k pairs) page e (inr (absent _ one, absent _ other))

pub lacks_units : (page : PageKind) (pairs : List Pair) → is_corridor page ≡ true → is_some (value_of p.CorridorHeight pairs) ≡ true → is_some (value_of p.HeightUnits pairs) ≡ false → IsMissing page pairs
lacks_units page pairs e one other = at_corridor (λ k. IsMissing k pairs) page e (inr (inl (given _ one), inr (absent _ other)))

pub lacks_height : (page : PageKind) (pairs : List Pair) → is_corridor page ≡ true → is_some (value_of p.CorridorHeight pairs) ≡ false → is_some (value_of p.HeightUnits pairs) ≡ true → IsMissing page pairs
lacks_height page pairs e one other = at_corridor (λ k. IsMissing k pairs) page e (inr (inr (inl (given _ other)), inl (absent _ one)))

line_z : (g : Geometry) → is_along_z (Some g) ≡ true → (takes Corridor g ≡ true) × (has_z_of g ≡ true)
line_z (Line has_z has_m positions) e = (refl, e)
line_z (Points multi has_z has_m positions) e = absurd (true_false (sym e))
line_z (Polygons multi has_z has_m polygons) e = absurd (true_false (sym e))

no_line_z : (g : Geometry) → is_along_z (Some g) ≡ false → takes Corridor g ≡ true → has_z_of g ≡ true → ⊥
no_line_z (Line has_z has_m positions) e t z = true_false (sym z ∙ e)
no_line_z (Points multi has_z has_m positions) e t z = true_false (sym t)
no_line_z (Polygons multi has_z has_m polygons) e t z = true_false (sym t)

pub lacks_along : (page : PageKind) (pairs : List Pair) (coords : Option Geometry) → is_corridor page ≡ true → MaySay IsGeometryText (value_of p.Coords pairs) coords → is_along_z coords ≡ true
    → is_some (value_of p.CorridorHeight pairs) ≡ false → IsMissing page pairs
lacks_along page pairs None e said z absent_ = absurd (true_false (sym z))
lacks_along page pairs (Some g) e said z absent_ =
    let l = line_z g z in
    at_corridor (λ k. IsMissing k pairs) page e (inr (inr (inr (g, coords_there pairs g said, l.0, l.1)), inl (absent _ absent_)))

-- where both are given, or neither and no line has z, no height is wanting
paired_at : WktIsOne → (pairs : List Pair) → IsHeightPaired (Query Corridor) pairs → (IsAlongZ pairs → is_some (value_of p.CorridorHeight pairs) ≡ true) → ¬ (LacksHeight (Query Corridor) pairs)
paired_at one pairs (inl both) z (wants, inl none) = none_some both.0.0 (sym none ∙ both.0.1)
paired_at one pairs (inl both) z (wants, inr none) = none_some both.1.0 (sym none ∙ both.1.1)
paired_at one pairs (inr none) z (inl g, lacks) = none_some g.0 (sym none.0 ∙ g.1)
paired_at one pairs (inr none) z (inr (inl g), lacks) = none_some g.0 (sym none.1 ∙ g.1)
paired_at one pairs (inr none) z (inr (inr along), lacks) = let g = given _ (z along) in none_some g.0 (sym none.0 ∙ g.1)

pub height_given : WktIsOne → (page : PageKind) (pairs : List Pair) → is_corridor page ≡ true → IsHeightPaired page pairs → is_some (value_of p.CorridorHeight pairs) ≡ true → ¬ (LacksHeight page pairs)
height_given one page pairs e paired there =
    let P : PageKind → Type 0 = λ k. IsHeightPaired k pairs in
    at_corridor (λ k. ¬ (LacksHeight k pairs)) page e (paired_at one pairs (subst P (corridor_is page e) paired) (λ along. there))

not_along : WktIsOne → (pairs : List Pair) (coords : Option Geometry) → MaySay IsGeometryText (value_of p.Coords pairs) coords → is_along_z coords ≡ false → ¬ (IsAlongZ pairs)
not_along one pairs None said z along = coords_none pairs along.0 said along.1
not_along one pairs (Some g) said z along =
    let same = coords_same one pairs g along.0 said along.1 in
    let P : Geometry → Type 0 = λ h. is_along_z (Some h) ≡ false in
    no_line_z along.0 (subst P same z) along.2 along.3

pub height_unwanted : WktIsOne → (page : PageKind) (pairs : List Pair) (coords : Option Geometry) → is_corridor page ≡ true → IsHeightPaired page pairs
    → MaySay IsGeometryText (value_of p.Coords pairs) coords → is_along_z coords ≡ false → ¬ (LacksHeight page pairs)
height_unwanted one page pairs coords e paired said z =
    let P : PageKind → Type 0 = λ k. IsHeightPaired k pairs in
    at_corridor (λ k. ¬ (LacksHeight k pairs)) page e
    (paired_at one pairs (subst P (corridor_is page e) paired) (λ along. absurd (not_along one pairs coords said z along)))

bad_at : WktIsOne → (page : PageKind) (pairs : List Pair) → IsHeightPaired page pairs → HasBadCoords pairs → ¬ (LacksHeight page pairs)
bad_at one (Query Corridor) pairs paired bad =
    paired_at one pairs paired (λ along. absurd (bad.2 along.0 (value_given p.Coords (λ text. IsGeometryText text along.0) pairs bad.0 bad.1 along.1)))
bad_at one _ pairs paired bad = λ h. h

-- where coordinates are none, nothing that is missing waits for them
pub missing_none : WktIsOne → (page : PageKind) (pairs : List Pair) → ¬ (LacksRequired page pairs) → IsHeightPaired page pairs → HasBadCoords pairs → ¬ (IsMissing page pairs)
missing_none one page pairs required paired bad missing = ⊎_elim required (bad_at one page pairs paired bad) missing

-- ---- boxes

long : (lo hi : Spot) (levels : Option (ℤ × ℤ)) → 2 ≤ length (numbers_with lo hi levels)
long lo hi None = omega arith
long lo hi (Some (low, high)) = omega arith

-- the text of a box is a list of levels
pub box_levels : (text : List ℕ) (box : BoundingBox) → IsBoxText text box → IsLevelsText text (some_levels.List (numbers_of box))
box_levels text box is = (long box.lo box.hi box.levels, is.numbers)

pub no_levels_no_box : (text : List ℕ) → HasNoLevels text → HasNoBox text
no_levels_no_box text none box is = none (some_levels.List (numbers_of box)) (box_levels text box is)

pub no_box : LevelsAreUnique → (text : List ℕ) (levels : Levels) → IsLevelsText text levels → IsBoxOf (list_in levels) None → HasNoBox text
no_box unique text levels stands none box is =
    none box (ap list_in (unique text levels (some_levels.List (numbers_of box)) stands (box_levels text box is))) is.ordered is.range

numbers_some : (lo hi : Spot) (levels : Option (ℤ × ℤ)) → [] ≡ numbers_with lo hi levels → ⊥
numbers_some lo hi None e = cc
numbers_some lo hi (Some (low, high)) e = cc

pub a_box : (text : List ℕ) (levels : Levels) (box : BoundingBox) → IsLevelsText text levels → IsBoxOf (list_in levels) (Some box) → IsBoxText text box
a_box text (some_levels.List numbers) box stands is =
    let P : List ℤ → Type 0 = λ l. AreLevelTexts text l in
    record { numbers = subst P is.0 stands.1; ordered = is.1; range = is.2 }
a_box text _ box stands is = absurd (numbers_some box.lo box.hi box.levels is.0)

-- ---- texts that are no geometry

abbrev pub NoFault : Type 0
NoFault = (g : Geometry) → IsFaultless g → NoneApplies (WktApplies g)

at_fault : WktIsOne → NoFault → (text : List ℕ) (g : Geometry) (fault : WktFault) → IsWkt text g → WktApplies g fault → (h : Geometry) → ¬ (IsGeometryText text h)
at_fault one none text g fault wkt applies h is =
    let P : Geometry → Type 0 = λ k. WktApplies k fault in
    none h is.1.faultless fault (subst P (one text g h wkt is.0) applies)

pub no_geometry : WktIsOne → NoFault → (text : List ℕ) (fault : WktFault) → (fault ≡ wkt.OutOfMemory → ⊥) → MatchWkt (Err fault) text → (h : Geometry) → ¬ (IsGeometryText text h)
no_geometry one none text wkt.NotWkt not m = λ h is. m h is.0
no_geometry one none text wkt.TooManyPositions not m = at_fault one none text m.0 wkt.TooManyPositions m.1 m.2.applies
no_geometry one none text (wkt.OutOfRange n) not m = at_fault one none text m.0 (wkt.OutOfRange n) m.1 m.2.applies
no_geometry one none text (wkt.OpenRing n) not m = at_fault one none text m.0 (wkt.OpenRing n) m.1 m.2.applies
no_geometry one none text (wkt.DecreasingM n) not m = at_fault one none text m.0 (wkt.DecreasingM n) m.1 m.2.applies
no_geometry one none text wkt.OutOfMemory not m = absurd (not refl)
