-- The query that the parameters of a page say, and what it is.
use Rattle.std.proofs.Common.{◌≡◌, ◌⊎◌, inl, inr, ⊎_elim, ℕ, ℤ, List, [], ◌∷◌, Bool, true, false, refl, ap, sym, ◌∙◌, subst, arith, Some, None, codes}
use Rattle.std.specs.Prelude.{is_some, option_map, IfSome, All, ◌&&◌, ◌||◌, not}
use Rattle.std.specs.List.{AllByRecursion}
use Rattle.std.specs.declared.option.Option.{Option}
use Rattle.std.proofs.lemmas.Int.{ints}
use Rattle.std.proofs.lemmas.List.Elements.{All-head, All-tail, All-from_recursion}
use Rattle.edr_base.specs.FirstThatApplies.{NoneApplies}
use Rattle.edr_base.specs.declared.refusals.Refusal.TheVariants.{MissingParameter, WrongGeometry, Conflict}
use Rattle.edr_base.specs.declared.places.Spot.{Spot}
use Rattle.edr_axes.specs.declared.times.Times.{Times}
use Rattle.edr_axes.specs.declared.times.Times.TheVariants as some_times
use Rattle.edr_axes.specs.declared.levels.Levels.{Levels}
use Rattle.edr_axes.specs.declared.levels.Levels.TheVariants as some_levels
use Rattle.edr_axes.specs.Times.{IsTimes, IsTimesText, IsSideText, IsSideTime}
use Rattle.edr_axes.specs.Levels.{IsLevel, IsLevelsText, AreLevelTexts}
use Rattle.edr_wkt.specs.declared.geometry.Geometry.{Geometry}
use Rattle.edr_wkt.specs.Wkt.{has_z_of}
use Rattle.edr_query.specs.declared.addresses.QueryKind.{QueryKind}
use Rattle.edr_query.specs.declared.addresses.QueryKind.TheVariants.{Position, Radius, Area, Cube, Trajectory, Corridor}
use Rattle.edr_query.specs.declared.addresses.PageKind.{PageKind}
use Rattle.edr_query.specs.declared.addresses.PageKind.TheVariants.{Query, Location}
use Rattle.edr_query.specs.declared.addresses.Address.TheVariants as to
use Rattle.edr_query.specs.declared.parameters.Parameter.{Parameter}
use Rattle.edr_query.specs.declared.parameters.Parameter.TheVariants as p
use Rattle.edr_query.specs.declared.shapes.BoundingBox.{BoundingBox}
use Rattle.edr_query.specs.declared.shapes.Shape.{Shape}
use Rattle.edr_query.specs.declared.shapes.Shape.TheVariants as at
use Rattle.edr_query.specs.declared.said.Said.{Said}
use Rattle.edr_query.specs.Paths.{kind_text, IsPart, parts_of}
use Rattle.edr_query.specs.Parameters.{Pair, value_of, is_required, MaySay, MaySayBoth}
use Rattle.edr_axes.specs.Distances.{IsDistance}
use Rattle.edr_query.specs.Boxes.{IsBoxText, numbers_with}
use Rattle.edr_query.specs.Values.{QueryValue}
use Rattle.edr_query.specs.Queries.{IsGeometryText, takes, has_z, has_m, has_levels, are_several, conflicts, around, along, inside, shape_of, IsTaken, IsBox, IsHeight, IsShape, IsInstanceOf, IsLevelsAsked, coords_of, within_of, box_of, width_of, height_of, IsQuery}
use Rattle.edr_base.specs.Limits.{IsMetres}
use Rattle.edr_query.specs.Targets.{Applies, HasWrongGeometry, IsMissing}
use Rattle.edr_query.specs.Reads.{IsAllSaid}
use Rattle.edr_query.proofs.ListLemmas.{true_false, not_true, some_same, none_some}
use Rattle.edr_query.proofs.CoordsLemmas.{said_some, said_none, coords_there}

-- ---- options

map_some : {A B : Type 0} (f : A → B) (o : Option A) (b : B) → option_map f o ≡ Some b → (a : A) × (o ≡ Some a) × (f a ≡ b)
map_some f None b e = absurd (none_some b e)
map_some f (Some a) b e = (a, refl, some_same (f a) b e)

map_none : {A B : Type 0} (f : A → B) (o : Option A) → option_map f o ≡ None → o ≡ None
map_none f None e = refl
map_none f (Some a) e = absurd (none_some (f a) (sym e))

some_of : {A : Type 0} (P : A → Type 0) (o : Option A) (a : A) → IfSome o P → o ≡ Some a → P a
some_of P None a h e = absurd (none_some a e)
some_of P (Some b) a h e = subst P (some_same b a e) h

pub both_absent : {V : Type 0} (Says : List ℕ → List ℕ → V → Type 0) (a b : Option (List ℕ)) → MaySayBoth Says a b None → (a ≡ None) ⊎ (b ≡ None)
both_absent Says (Some a) (Some b) h = absurd h
both_absent Says (Some a) None h = inr refl
both_absent Says None b h = inl refl

pub both_some : {V : Type 0} (Says : List ℕ → List ℕ → V → Type 0) (a b : Option (List ℕ)) (v : V) → MaySayBoth Says a b (Some v) → (t : List ℕ) × (u : List ℕ) × Says t u v
both_some Says (Some a) (Some b) v h = (a, b, h)
both_some Says (Some a) None v h = absurd h
both_some Says None b v h = absurd h

around_none : (c : Option Geometry) (w : Option ℤ) → around c w ≡ None → (c ≡ None) ⊎ (w ≡ None)
around_none None w e = inl refl
around_none (Some g) None e = inr refl
around_none (Some g) (Some d) e = absurd (none_some (at.Radius g d) (sym e))

along_none : (c : Option Geometry) (w h : Option ℤ) → along c w h ≡ None → (c ≡ None) ⊎ (w ≡ None)
along_none None w h e = inl refl
along_none (Some g) None h e = inr refl
along_none (Some g) (Some d) h e = absurd (none_some (at.Corridor g d h) (sym e))

inside_none : (b : Option BoundingBox) → inside b ≡ None → b ≡ None
inside_none None e = refl
inside_none (Some b) e = absurd (none_some (at.Cube b.lo b.hi b.levels) (sym e))

around_some : (c : Option Geometry) (w : Option ℤ) (s : Shape) → around c w ≡ Some s → (g : Geometry) × (d : ℤ) × (c ≡ Some g) × (w ≡ Some d) × (at.Radius g d ≡ s)
around_some None w s e = absurd (none_some s e)
around_some (Some g) None s e = absurd (none_some s e)
around_some (Some g) (Some d) s e = (g, d, refl, refl, some_same (at.Radius g d) s e)

along_some : (c : Option Geometry) (w h : Option ℤ) (s : Shape) → along c w h ≡ Some s → (g : Geometry) × (d : ℤ) × (c ≡ Some g) × (w ≡ Some d) × (at.Corridor g d h ≡ s)
along_some None w h s e = absurd (none_some s e)
along_some (Some g) None h s e = absurd (none_some s e)
along_some (Some g) (Some d) h s e = (g, d, refl, refl, some_same (at.Corridor g d h) s e)

inside_some : (b : Option BoundingBox) (s : Shape) → inside b ≡ Some s → (box : BoundingBox) × (b ≡ Some box) × (at.Cube box.lo box.hi box.levels ≡ s)
inside_some None s e = absurd (none_some s e)
inside_some (Some b) s e = (b, refl, some_same (at.Cube b.lo b.hi b.levels) s e)

-- ---- what is required is there

required : (kind : QueryKind) (pairs : List Pair) → NoneApplies (Applies (Query kind) pairs) → (q : Parameter) → is_required (Query kind) q ≡ true → ¬ (value_of q pairs ≡ None)
required kind pairs none q is e = none MissingParameter (inl (q, is, e))

absent_coords : (pairs : List Pair) (coords : Option Geometry) → MaySay IsGeometryText (value_of p.Coords pairs) coords → coords ≡ None → value_of p.Coords pairs ≡ None
absent_coords pairs None said e = said_none IsGeometryText (value_of p.Coords pairs) said
absent_coords pairs (Some g) said e = absurd (none_some g (sym e))

absent_box : (pairs : List Pair) (box : Option BoundingBox) → MaySay IsBoxText (value_of p.Bbox pairs) box → box ≡ None → value_of p.Bbox pairs ≡ None
absent_box pairs None said e = said_none IsBoxText (value_of p.Bbox pairs) said
absent_box pairs (Some b) said e = absurd (none_some b (sym e))

absent_metres : (a b : Option (List ℕ)) (d : Option ℤ) → MaySayBoth IsDistance a b d → d ≡ None → (a ≡ None) ⊎ (b ≡ None)
absent_metres a b None said e = both_absent IsDistance a b said
absent_metres a b (Some d) said e = absurd (none_some d (sym e))

-- the parts of a query make a shape
pub shape_there : (kind : QueryKind) (pairs : List Pair) (said : Said) → IsAllSaid (Query kind) pairs said → ¬ (shape_of kind said.coords said.within said.bbox said.width said.height ≡ None)
shape_there Position pairs said all e = required Position pairs all.none p.Coords refl (absent_coords pairs said.coords all.is_said.coords (map_none at.Position said.coords e))
shape_there Area pairs said all e = required Area pairs all.none p.Coords refl (absent_coords pairs said.coords all.is_said.coords (map_none at.Area said.coords e))
shape_there Trajectory pairs said all e = required Trajectory pairs all.none p.Coords refl (absent_coords pairs said.coords all.is_said.coords (map_none at.Trajectory said.coords e))
shape_there Cube pairs said all e = required Cube pairs all.none p.Bbox refl (absent_box pairs said.bbox all.is_said.bbox (inside_none said.bbox e))
shape_there Radius pairs said all e =
    ⊎_elim (λ f. required Radius pairs all.none p.Coords refl (absent_coords pairs said.coords all.is_said.coords f))
    (λ f. ⊎_elim (required Radius pairs all.none p.Within refl) (required Radius pairs all.none p.WithinUnits refl) (absent_metres _ _ said.within all.is_said.within f))
    (around_none said.coords said.within e)
shape_there Corridor pairs said all e =
    ⊎_elim (λ f. required Corridor pairs all.none p.Coords refl (absent_coords pairs said.coords all.is_said.coords f))
    (λ f. ⊎_elim (required Corridor pairs all.none p.CorridorWidth refl) (required Corridor pairs all.none p.WidthUnits refl) (absent_metres _ _ said.width all.is_said.width f))
    (along_none said.coords said.width said.height e)

-- ---- each part is good

false_or : (t : Bool) → (t ≡ false → ⊥) → t ≡ true
false_or true h = refl
false_or false h = absurd (h refl)

good_coords : (kind : QueryKind) (pairs : List Pair) (coords : Option Geometry) → MaySay IsGeometryText (value_of p.Coords pairs) coords → ¬ (HasWrongGeometry (Query kind) pairs) → IfSome coords (IsTaken kind)
good_coords kind pairs None said right = tt
good_coords kind pairs (Some g) said right =
    ((said_some IsGeometryText (value_of p.Coords pairs) g said).2.1, false_or (takes kind g) (λ e. right (g, coords_there pairs g said, e)))

pub metres_in : (n u : List ℕ) (d : ℤ) → IsDistance n u d → IsMetres d
metres_in n u d is =
    let w = is.within in
    let P : ℤ → Type 0 = IsMetres in
    subst P (sym is.metres_is) (record { least = omega (arith, ints); greatest = omega (arith, ints, w) })

good_metres : (a b : Option (List ℕ)) (d : Option ℤ) → MaySayBoth IsDistance a b d → IfSome d IsMetres
good_metres a b None said = tt
good_metres a b (Some d) said = let s = both_some IsDistance a b d said in metres_in s.0 s.1 d s.2

four_in : (text : List ℕ) (a b c d : ℤ) → AreLevelTexts text (a ∷ b ∷ c ∷ d ∷ []) → IsLevel a × IsLevel b × IsLevel c × IsLevel d
four_in text a b c d h = (h.3.within, h.4.3.within, h.4.4.3.within, h.4.4.4.within)

six_in : (text : List ℕ) (a b c d e f : ℤ) → AreLevelTexts text (a ∷ b ∷ c ∷ d ∷ e ∷ f ∷ []) → IsLevel a × IsLevel b × IsLevel c × IsLevel d × IsLevel e × IsLevel f
six_in text a b c d e f h = (h.3.within, h.4.3.within, h.4.4.3.within, h.4.4.4.3.within, h.4.4.4.4.3.within, h.4.4.4.4.4.within)

box_at : (text : List ℕ) (lo hi : Spot) (levels : Option (ℤ × ℤ)) → AreLevelTexts text (numbers_with lo hi levels) → (IsLevel lo.x × IsLevel lo.y) × (IsLevel hi.x × IsLevel hi.y) × IfSome levels (λ range. IsLevel range.0 × IsLevel range.1)
box_at text lo hi None h = let f = four_in text _ _ _ _ h in ((f.0, f.1), (f.2, f.3), tt)
box_at text lo hi (Some (low, high)) h = let f = six_in text _ _ _ _ _ _ h in ((f.0, f.1), (f.3, f.4), (f.2, f.5))

pub box_in : (text : List ℕ) (box : BoundingBox) → IsBoxText text box → IsBox box
box_in text box is =
    let f = box_at text box.lo box.hi box.levels is.numbers in
    record { lo_in = f.0; hi_in = f.1; levels_in = f.2; ordered = is.ordered; range = is.range }

good_box : (o : Option (List ℕ)) (box : Option BoundingBox) → MaySay IsBoxText o box → IfSome box IsBox
good_box o None said = tt
good_box o (Some b) said = let s = said_some IsBoxText o b said in box_in s.0 b s.2

side_in : (text : List ℕ) (side : Option ℤ) → IsSideText text side → IsSideTime side
side_in text None h = tt
side_in text (Some t) h = h.time_in

pub times_in : (text : List ℕ) (t : Times) → IsTimesText text t → IsTimes t
times_in text some_times.All is = tt
times_in text (some_times.At t) is = is.time_in
times_in text (some_times.Between first last) is = (is.0, is.1.in_order, side_in is.1.front first is.1.first_is, side_in is.1.back last is.1.last_is)

pub good_times : (o : Option (List ℕ)) (t : Option Times) → MaySay IsTimesText o t → IfSome t IsTimes
good_times o None said = tt
good_times o (Some t) said = let s = said_some IsTimesText o t said in times_in s.0 t s.2

texts_in : (text : List ℕ) (ls : List ℤ) → AreLevelTexts text ls → AllByRecursion IsLevel ls
texts_in text [] h = absurd h
texts_in text (l ∷ []) h = (h.within, tt)
texts_in text (l ∷ (m ∷ ls)) h = (h.3.within, texts_in h.1 (m ∷ ls) h.4)

pub levels_in : (text : List ℕ) (l : Levels) → IsLevelsText text l → IsLevelsAsked l
levels_in text some_levels.All is = absurd is
levels_in text (some_levels.At l) is = (is.within, λ e. cc)
levels_in text (some_levels.Between low high) is = ((is.low_is.within, is.high_is.within, is.in_order), λ e. cc)
levels_in text (some_levels.List ls) is = ((is.0, All-from_recursion IsLevel ls (texts_in text ls is.1)), λ e. cc)
levels_in text (some_levels.Series n first step) is = ((is.count_is.within, is.first_is.within, is.step_is.within, is.series), λ e. cc)

pub good_levels : (o : Option (List ℕ)) (l : Option Levels) → MaySay IsLevelsText o l → IfSome l IsLevelsAsked
good_levels o None said = tt
good_levels o (Some l) said = let s = said_some IsLevelsText o l said in levels_in s.0 l s.2

-- a line that a corridor takes, its height, and nothing that is missing
record IsAllSaidAlong (pairs : List Pair) (g : Geometry) (h : Option ℤ) : Type 0 where
  coords : MaySay IsGeometryText (value_of p.Coords pairs) (Some g)
  taken : takes Corridor g ≡ true
  height : MaySayBoth IsDistance (value_of p.CorridorHeight pairs) (value_of p.HeightUnits pairs) h
  none : ¬ (IsMissing (Query Corridor) pairs)

height_at : (pairs : List Pair) (g : Geometry) (h : Option ℤ) → IsAllSaidAlong pairs g h → IsHeight g h
height_at pairs g (Some h) all = some_of IsMetres (Some h) h (good_metres _ _ (Some h) all.height) refl
height_at pairs g None all =
    not_true (has_z_of g) (λ z. all.none (inr (inr (inr (g, coords_there pairs g all.coords, all.taken, z)), both_absent IsDistance _ _ all.height)))

-- the shape of good parts is good
pub good_shape : (kind : QueryKind) (pairs : List Pair) (said : Said) (shape : Shape) → IsAllSaid (Query kind) pairs said
    → shape_of kind said.coords said.within said.bbox said.width said.height ≡ Some shape → IsShape shape
good_shape Position pairs said shape all e =
    let m = map_some at.Position said.coords shape e in
    subst IsShape m.2 (some_of (IsTaken Position) said.coords m.0 (good_coords Position pairs said.coords all.is_said.coords (all.none WrongGeometry)) m.1)
good_shape Area pairs said shape all e =
    let m = map_some at.Area said.coords shape e in
    subst IsShape m.2 (some_of (IsTaken Area) said.coords m.0 (good_coords Area pairs said.coords all.is_said.coords (all.none WrongGeometry)) m.1)
good_shape Trajectory pairs said shape all e =
    let m = map_some at.Trajectory said.coords shape e in
    subst IsShape m.2 (some_of (IsTaken Trajectory) said.coords m.0 (good_coords Trajectory pairs said.coords all.is_said.coords (all.none WrongGeometry)) m.1)
good_shape Radius pairs said shape all e =
    let m = around_some said.coords said.within shape e in
    subst IsShape m.4 (
      some_of (IsTaken Radius) said.coords m.0 (good_coords Radius pairs said.coords all.is_said.coords (all.none WrongGeometry)) m.2,
      some_of IsMetres said.within m.1 (good_metres _ _ said.within all.is_said.within) m.3,
    )
good_shape Cube pairs said shape all e =
    let m = inside_some said.bbox shape e in
    subst IsShape m.2 (some_of IsBox said.bbox m.0 (good_box _ said.bbox all.is_said.bbox) m.1)
good_shape Corridor pairs said shape all e =
    let m = along_some said.coords said.width said.height shape e in
    let taken = some_of (IsTaken Corridor) said.coords m.0 (good_coords Corridor pairs said.coords all.is_said.coords (all.none WrongGeometry)) m.2 in
    let P : Option Geometry → Type 0 = λ o. MaySay IsGeometryText (value_of p.Coords pairs) o in
    subst IsShape m.4 (
      taken,
      some_of IsMetres said.width m.1 (good_metres _ _ said.width all.is_said.width) m.3,
      height_at pairs m.0 said.height (record { coords = subst P m.2 all.is_said.coords; taken = taken.1; height = all.is_said.height; none = all.none MissingParameter }),
    )

-- ---- nothing contradicts itself

or_left : (a b : Bool) → a || b ≡ false → a ≡ false
or_left false b e = refl
or_left true b e = absurd (true_false e)

or_right : (a b : Bool) → a || b ≡ false → b ≡ false
or_right false b e = e
or_right true b e = absurd (true_false e)

four : (a b c d : Bool) → a ≡ false → b ≡ false → c ≡ false → d ≡ false → a || (b || (c || d)) ≡ false
four a b c d ea eb ec ed = ap (λ x. x || (b || (c || d))) ea ∙ ap (λ x. x || (c || d)) eb ∙ ap (λ x. x || d) ec ∙ ed

abbrev clash_m : Option Geometry → Said → Bool
clash_m c said = has_m c && is_some said.times

abbrev clash_z : Option Geometry → Said → Bool
clash_z c said = has_z c && is_some said.levels

abbrev clash_box : Option BoundingBox → Said → Bool
clash_box b said = has_levels b && is_some said.levels

abbrev clash_height : Option Geometry → Said → Bool
clash_height c said = is_some said.height && (not (has_z c) && are_several said.levels)

record NoClash (said : Said) : Type 0 where
  m : clash_m said.coords said ≡ false
  z : clash_z said.coords said ≡ false
  box : clash_box said.bbox said ≡ false
  height : clash_height said.coords said ≡ false

no_clash : (said : Said) → conflicts said ≡ false → NoClash said
no_clash said e =
    let a = clash_m said.coords said in let b = clash_z said.coords said in let c = clash_box said.bbox said in let d = clash_height said.coords said in
    record {
      m = or_left a (b || (c || d)) e;
      z = or_left b (c || d) (or_right a (b || (c || d)) e);
      box = or_left c d (or_right b (c || d) (or_right a (b || (c || d)) e));
      height = or_right c d (or_right b (c || d) (or_right a (b || (c || d)) e));
    }

abbrev with_shape : Said → Shape → Said
with_shape said shape = record {
  coords = coords_of shape;
  within = within_of shape;
  bbox = box_of shape;
  width = width_of shape;
  height = height_of shape;
  times = said.times;
  levels = said.levels;
}

abbrev IsCalm : Said → Shape → Type 0
IsCalm said shape = conflicts (with_shape said shape) ≡ false

calm_coords : (said : Said) (g : Geometry) → NoClash said → said.coords ≡ Some g
    → (has_m (Some g) && is_some said.times) || ((has_z (Some g) && is_some said.levels) || ((false && is_some said.levels) || (false && (not (has_z (Some g)) && are_several said.levels)))) ≡ false
calm_coords said g n e =
    four _ _ _ _ (ap (λ c. clash_m c said) (sym e) ∙ n.m) (ap (λ c. clash_z c said) (sym e) ∙ n.z) refl refl

pub calm : (kind : QueryKind) (said : Said) (shape : Shape) → conflicts said ≡ false
    → shape_of kind said.coords said.within said.bbox said.width said.height ≡ Some shape → IsCalm said shape
calm Position said shape quiet e = let m = map_some at.Position said.coords shape e in subst (IsCalm said) m.2 (calm_coords said m.0 (no_clash said quiet) m.1)
calm Area said shape quiet e = let m = map_some at.Area said.coords shape e in subst (IsCalm said) m.2 (calm_coords said m.0 (no_clash said quiet) m.1)
calm Trajectory said shape quiet e = let m = map_some at.Trajectory said.coords shape e in subst (IsCalm said) m.2 (calm_coords said m.0 (no_clash said quiet) m.1)
calm Radius said shape quiet e = let m = around_some said.coords said.within shape e in subst (IsCalm said) m.4 (calm_coords said m.0 (no_clash said quiet) m.2)
calm Cube said shape quiet e =
    let m = inside_some said.bbox shape e in let n = no_clash said quiet in
    subst (IsCalm said) m.2 (four _ _ _ _ refl refl (ap (λ b. clash_box b said) (sym m.1) ∙ n.box) refl)
calm Corridor said shape quiet e =
    let m = along_some said.coords said.width said.height shape e in let n = no_clash said quiet in
    subst (IsCalm said) m.4
    (four _ _ _ _ (ap (λ c. clash_m c said) (sym m.2) ∙ n.m) (ap (λ c. clash_z c said) (sym m.2) ∙ n.z) refl (ap (λ c. clash_height c said) (sym m.2) ∙ n.height))

-- ---- the query before its names

abbrev bare : List ℕ → Option (List ℕ) → Shape → Said → QueryValue
bare c i shape said = record { collection = c; instance = i; shape = shape; times = said.times; levels = said.levels; parameters = None; crs = None }

second : (a b : List ℕ) (rest : List (List ℕ)) → All IsPart (a ∷ b ∷ rest) → IsPart b
second a b rest all = All-head IsPart b rest (All-tail IsPart a (b ∷ rest) all)

fourth : (a b c d : List ℕ) (rest : List (List ℕ)) → All IsPart (a ∷ b ∷ c ∷ d ∷ rest) → IsPart d
fourth a b c d rest all = second c d rest (All-tail IsPart b (c ∷ d ∷ rest) (All-tail IsPart a (b ∷ c ∷ d ∷ rest) all))

abbrev IsMade : Shape → Type 0
IsMade (at.Location s) = ⊥
IsMade other = Unit {0}

instance_in : (shape : Shape) (i : Option (List ℕ)) → IfSome i IsPart → IsMade shape → IsInstanceOf shape i
instance_in (at.Location s) i h made = absurd made
instance_in _ None h made = tt
instance_in _ (Some i) h made = h

made : (kind : QueryKind) (c : Option Geometry) (w : Option ℤ) (b : Option BoundingBox) (d h : Option ℤ) (shape : Shape) → shape_of kind c w b d h ≡ Some shape → IsMade shape
made Position c w b d h shape e = let m = map_some at.Position c shape e in subst IsMade m.2 tt
made Area c w b d h shape e = let m = map_some at.Area c shape e in subst IsMade m.2 tt
made Trajectory c w b d h shape e = let m = map_some at.Trajectory c shape e in subst IsMade m.2 tt
made Radius c w b d h shape e = let m = around_some c w shape e in subst IsMade m.4 tt
made Cube c w b d h shape e = let m = inside_some b shape e in subst IsMade m.2 tt
made Corridor c w b d h shape e = let m = along_some c d h shape e in subst IsMade m.4 tt

ids : (kind : QueryKind) (c : List ℕ) (i : Option (List ℕ)) → All IsPart (parts_of (to.Query kind c i)) → IsPart c × IfSome i IsPart
ids kind c None all = (second (codes "collections") c (kind_text kind ∷ []) all, tt)
ids kind c (Some i) all = (second (codes "collections") c (codes "instances" ∷ i ∷ kind_text kind ∷ []) all, fourth (codes "collections") c (codes "instances") i (kind_text kind ∷ []) all)

no_conflict : (page : PageKind) (pairs : List Pair) (said : Said) → IsAllSaid page pairs said → conflicts said ≡ false
no_conflict page pairs said all = not_true (conflicts said) (λ e. all.none Conflict (said, all.is_said, e))

-- the query that a path and its parameters say, before its names
pub bare_query : (kind : QueryKind) (c : List ℕ) (i : Option (List ℕ)) (pairs : List Pair) (said : Said) (shape : Shape) → All IsPart (parts_of (to.Query kind c i)) → IsAllSaid (Query kind) pairs said
    → shape_of kind said.coords said.within said.bbox said.width said.height ≡ Some shape → IsQuery (bare c i shape said)
bare_query kind c i pairs said shape parts all e =
    let id = ids kind c i parts in
    record {
      collection = id.0;
      instance = instance_in shape i id.1 (made kind said.coords said.within said.bbox said.width said.height shape e);
      shape = good_shape kind pairs said shape all e;
      times = good_times _ said.times all.is_said.times;
      levels = good_levels _ said.levels all.is_said.levels;
      parameters = tt;
      crs = tt;
      no_conflict = calm kind said shape (no_conflict (Query kind) pairs said all) e;
    }

pub bare_location : (c s : List ℕ) (pairs : List Pair) (said : Said) → All IsPart (parts_of (to.Location c s)) → IsAllSaid Location pairs said → IsQuery (bare c None (at.Location s) said)
bare_location c s pairs said parts all =
    record {
      collection = second (codes "collections") c (codes "locations" ∷ s ∷ []) parts;
      instance = refl;
      shape = fourth (codes "collections") c (codes "locations") s [] parts;
      times = good_times _ said.times all.is_said.times;
      levels = good_levels _ said.levels all.is_said.levels;
      parameters = tt;
      crs = tt;
      no_conflict = refl;
    }
