-- The written form of a query asks for that query.
use Rattle.std.proofs.Common.{◌≡◌, inl, inr, ℕ, ℤ, List, [], ◌∷◌, ◌++◌, All, IsUtf8, Bool, true, false, refl, ap, sym, ◌∙◌, subst, append-nil, Some, None, codes}
use Rattle.std.specs.Prelude.{IfSome, option_map, is_some, ◌&&◌}
use Rattle.std.specs.Fmt.{signed_decimal}
use Rattle.std.specs.declared.option.Option.{Option}
use Rattle.std.proofs.lemmas.List.Elements.{All-nil, All-cons}
use Rattle.form_urlencoded.specs.Form.{extend_pairs}
use Rattle.edr_base.specs.FirstThatApplies.{NoneApplies}
use Rattle.edr_base.specs.declared.refusals.Refusal.TheVariants.{UnknownParameter, RepeatedParameter, WrongGeometry}
use Rattle.edr_axes.specs.declared.times.Times.{Times}
use Rattle.edr_axes.specs.declared.levels.Levels.{Levels}
use Rattle.edr_axes.specs.Instants.{TimesAreWritten}
use Rattle.edr_axes.specs.InstantGrammar.{WrittenTimesAreInstants}
use Rattle.edr_axes.specs.Times.{IsTimes, IsTimesText, TimesAreUnique}
use Rattle.edr_axes.specs.Levels.{IsLevelsText, LevelsAreUnique}
use Rattle.edr_wkt.specs.declared.geometry.Geometry.{Geometry}
use Rattle.edr_wkt.specs.declared.geometry.Geometry.TheVariants.{Points, Line, Polygons}
use Rattle.edr_wkt.specs.Wkt.{IsWkt, has_z_of}
use Rattle.edr_wkt.specs.Faults.{IsGeometry}
use Rattle.edr_wkt.specs.Spelling.{spelled, joined}
use Rattle.edr_query.specs.declared.addresses.QueryKind.{QueryKind}
use Rattle.edr_query.specs.declared.addresses.QueryKind.TheVariants.{Position, Radius, Area, Cube, Trajectory, Corridor}
use Rattle.edr_query.specs.declared.addresses.PageKind.TheVariants.{Query}
use Rattle.edr_query.specs.declared.addresses.Address.{Address}
use Rattle.edr_query.specs.declared.addresses.Address.TheVariants as to
use Rattle.edr_query.specs.declared.parameters.Parameter.TheVariants as p
use Rattle.edr_query.specs.declared.shapes.Shape.{Shape}
use Rattle.edr_query.specs.declared.shapes.Shape.TheVariants as at
use Rattle.edr_query.specs.Paths.{kind_text, parts_of, page_kind, IsPart, IsPath, path_text, path_in, query_in}
use Rattle.edr_query.specs.Parameters.{Pair, pairs_in, value_of, MaySay, MaySayBoth}
use Rattle.edr_axes.specs.Distances.{DistancesAreUnique, IsDistance}
use Rattle.edr_query.specs.Boxes.{IsBoxText}
use Rattle.edr_query.specs.Values.{QueryValue}
use Rattle.edr_query.specs.Queries.{IsGeometryText, IsSaid, shape_of, IsPlaced, Says, names_in, AreNames, IsBox, IsShape, IsInstanceOf, IsLevelsAsked, coords_of, within_of, box_of, width_of, height_of, said_of, IsQuery}
use Rattle.edr_base.specs.Limits.{IsMetres}
use Rattle.edr_query.specs.Targets.{Applies, HasBadFormat, LacksHeight, HasWrongGeometry}
use Rattle.edr_query.specs.Reads.{has_required, is_along_z, IsAllSaid}
use Rattle.edr_query.specs.Spelling.{times_text, levels_text, box_text, metres_unit, pairs_of, address_at, address_of, query_text, spell, WrittenQueriesReadBack}
use Rattle.edr_query.proofs.ListLemmas.{none_some}
use Rattle.edr_query.proofs.CoordsLemmas.{WktIsOne, none_given, taken_coords, no_coords, paired_both, paired_none, height_given, height_unwanted}
use Rattle.edr_query.proofs.StepLemmas.{all_required, passed_coords, passed_box, passed_times, passed_levels, all_said}
use Rattle.edr_query.proofs.RefusalLemmas.{start, more}
use Rattle.edr_query.proofs.TargetLemmas.{none_up}
use Rattle.edr_query.proofs.SpelledPaths.{Parts, written_path, path_before, query_after, path_alone, query_none}
use Rattle.edr_query.proofs.SpelledPairs.{Entry, pairs_with, value_look, or_none, AreKnown, known_entries, distinct_entries, AreTexts, entries_back, no_pairs, says_back, both_back}
use Rattle.edr_query.proofs.SpelledValues.{distance_back, box_back, times_back, levels_back}
use Rattle.edr_query.proofs.SpelledNames.{plain, names_back}
use Rattle.edr_query.proofs.SpelledTexts.{geometry_utf8, metres_utf8, box_utf8, times_utf8, levels_utf8, names_utf8, name_utf8, unit_utf8, collections_part, instances_part, locations_part, kind_part}

abbrev entries : Shape → Option Times → Option Levels → Option (List (List ℕ)) → Option (List ℕ) → List Entry
entries s t l n c =
    (p.Coords, option_map spelled (coords_of s)) ∷ (p.Within, option_map signed_decimal (within_of s)) ∷ (p.WithinUnits, metres_unit (within_of s))
    ∷ (p.Bbox, option_map box_text (box_of s)) ∷ (p.CorridorWidth, option_map signed_decimal (width_of s)) ∷ (p.WidthUnits, metres_unit (width_of s))
    ∷ (p.CorridorHeight, option_map signed_decimal (height_of s)) ∷ (p.HeightUnits, metres_unit (height_of s)) ∷ (p.Datetime, option_map times_text t)
    ∷ (p.Z, option_map levels_text l) ∷ (p.ParameterName, option_map (joined plain) n) ∷ (p.Crs, c) ∷ []

abbrev pairs : Shape → Option Times → Option Levels → Option (List (List ℕ)) → Option (List ℕ) → List Pair
pairs s t l n c = pairs_with (entries s t l n c)

-- ---- the value of each parameter

coords_at : (s : Shape) (t : Option Times) (l : Option Levels) (n : Option (List (List ℕ))) (c : Option (List ℕ)) → value_of p.Coords (pairs s t l n c) ≡ option_map spelled (coords_of s)
coords_at s t l n c = value_look p.Coords (entries s t l n c) ∙ or_none (option_map spelled (coords_of s))

within_at : (s : Shape) (t : Option Times) (l : Option Levels) (n : Option (List (List ℕ))) (c : Option (List ℕ)) → value_of p.Within (pairs s t l n c) ≡ option_map signed_decimal (within_of s)
within_at s t l n c = value_look p.Within (entries s t l n c) ∙ or_none (option_map signed_decimal (within_of s))

within_unit : (s : Shape) (t : Option Times) (l : Option Levels) (n : Option (List (List ℕ))) (c : Option (List ℕ)) → value_of p.WithinUnits (pairs s t l n c) ≡ metres_unit (within_of s)
within_unit s t l n c = value_look p.WithinUnits (entries s t l n c) ∙ or_none (metres_unit (within_of s))

bbox_at : (s : Shape) (t : Option Times) (l : Option Levels) (n : Option (List (List ℕ))) (c : Option (List ℕ)) → value_of p.Bbox (pairs s t l n c) ≡ option_map box_text (box_of s)
bbox_at s t l n c = value_look p.Bbox (entries s t l n c) ∙ or_none (option_map box_text (box_of s))

width_at : (s : Shape) (t : Option Times) (l : Option Levels) (n : Option (List (List ℕ))) (c : Option (List ℕ)) → value_of p.CorridorWidth (pairs s t l n c) ≡ option_map signed_decimal (width_of s)
width_at s t l n c = value_look p.CorridorWidth (entries s t l n c) ∙ or_none (option_map signed_decimal (width_of s))

width_unit : (s : Shape) (t : Option Times) (l : Option Levels) (n : Option (List (List ℕ))) (c : Option (List ℕ)) → value_of p.WidthUnits (pairs s t l n c) ≡ metres_unit (width_of s)
width_unit s t l n c = value_look p.WidthUnits (entries s t l n c) ∙ or_none (metres_unit (width_of s))

height_at : (s : Shape) (t : Option Times) (l : Option Levels) (n : Option (List (List ℕ))) (c : Option (List ℕ)) → value_of p.CorridorHeight (pairs s t l n c) ≡ option_map signed_decimal (height_of s)
height_at s t l n c = value_look p.CorridorHeight (entries s t l n c) ∙ or_none (option_map signed_decimal (height_of s))

height_unit : (s : Shape) (t : Option Times) (l : Option Levels) (n : Option (List (List ℕ))) (c : Option (List ℕ)) → value_of p.HeightUnits (pairs s t l n c) ≡ metres_unit (height_of s)
height_unit s t l n c = value_look p.HeightUnits (entries s t l n c) ∙ or_none (metres_unit (height_of s))

times_at : (s : Shape) (t : Option Times) (l : Option Levels) (n : Option (List (List ℕ))) (c : Option (List ℕ)) → value_of p.Datetime (pairs s t l n c) ≡ option_map times_text t
times_at s t l n c = value_look p.Datetime (entries s t l n c) ∙ or_none (option_map times_text t)

levels_at : (s : Shape) (t : Option Times) (l : Option Levels) (n : Option (List (List ℕ))) (c : Option (List ℕ)) → value_of p.Z (pairs s t l n c) ≡ option_map levels_text l
levels_at s t l n c = value_look p.Z (entries s t l n c) ∙ or_none (option_map levels_text l)

names_at : (s : Shape) (t : Option Times) (l : Option Levels) (n : Option (List (List ℕ))) (c : Option (List ℕ)) → value_of p.ParameterName (pairs s t l n c) ≡ option_map (joined plain) n
names_at s t l n c = value_look p.ParameterName (entries s t l n c) ∙ or_none (option_map (joined plain) n)

crs_at : (s : Shape) (t : Option Times) (l : Option Levels) (n : Option (List (List ℕ))) (c : Option (List ℕ)) → value_of p.Crs (pairs s t l n c) ≡ c
crs_at s t l n c = value_look p.Crs (entries s t l n c) ∙ or_none c

format_at : (s : Shape) (t : Option Times) (l : Option Levels) (n : Option (List (List ℕ))) (c : Option (List ℕ)) → value_of p.Format (pairs s t l n c) ≡ None
format_at s t l n c = value_look p.Format (entries s t l n c)

-- ---- each part is said

if_more : {A : Type 0} (P Q : A → Type 0) → ((a : A) → P a → Q a) → (o : Option A) → IfSome o P → IfSome o Q
if_more P Q f None h = tt
if_more P Q f (Some a) h = f a h

abbrev Stands : Type 0
Stands = (g : Geometry) → IsGeometry g → IsWkt (spelled g) g

coords_good : Stands → (s : Shape) → IsShape s → IfSome (coords_of s) (λ g. IsGeometryText (spelled g) g)
coords_good stands (at.Position g) h = (stands g h.0, h.0)
coords_good stands (at.Radius g d) h = (stands g h.0.0, h.0.0)
coords_good stands (at.Area g) h = (stands g h.0, h.0)
coords_good stands (at.Cube lo hi levels) h = tt
coords_good stands (at.Trajectory g) h = (stands g h.0, h.0)
coords_good stands (at.Corridor g w d) h = (stands g h.0.0, h.0.0)
coords_good stands (at.Location i) h = tt

within_good : (s : Shape) → IsShape s → IfSome (within_of s) IsMetres
within_good (at.Radius g d) h = h.1
within_good _ h = tt

width_good : (s : Shape) → IsShape s → IfSome (width_of s) IsMetres
width_good (at.Corridor g w d) h = h.1
width_good _ h = tt

height_good : (s : Shape) → IsShape s → IfSome (height_of s) IsMetres
height_good (at.Corridor g w None) h = tt
height_good (at.Corridor g w (Some d)) h = h.2
height_good _ h = tt

box_good : (s : Shape) → IsShape s → IfSome (box_of s) IsBox
box_good (at.Cube lo hi levels) h = h
box_good _ h = tt

may_at : {V : Type 0} (Says : List ℕ → V → Type 0) (o a : Option (List ℕ)) (v : Option V) → o ≡ a → MaySay Says a v → MaySay Says o v
may_at Says o a v e h = subst (λ (x : Option (List ℕ)). MaySay Says x v) (sym e) h

both_at : (o a u b : Option (List ℕ)) (v : Option ℤ) → o ≡ a → u ≡ b → MaySayBoth IsDistance a b v → MaySayBoth IsDistance o u v
both_at o a u b v e f h = subst (λ (x : Option (List ℕ)). MaySayBoth IsDistance x u v) (sym e) (subst (λ (x : Option (List ℕ)). MaySayBoth IsDistance a x v) (sym f) h)

metres_said : (d : Option ℤ) → IfSome d IsMetres → MaySayBoth IsDistance (option_map signed_decimal d) (metres_unit d) d
metres_said d h = both_back IsDistance signed_decimal (λ (metres : ℤ). codes "m") d (if_more IsMetres (λ m. IsDistance (signed_decimal m) (codes "m") m) distance_back d h)

is_said : Stands → WrittenTimesAreInstants → (q : QueryValue) → IsQuery q → IsSaid (pairs_of q) (said_of q)
is_said stands written q is =
    let s = q.shape in let t = q.times in let l = q.levels in let n = q.parameters in let c = q.crs in
    record {
      coords = may_at IsGeometryText _ _ (coords_of s) (coords_at s t l n c) (says_back IsGeometryText spelled (coords_of s) (coords_good stands s is.shape));
      within = both_at _ _ _ _ (within_of s) (within_at s t l n c) (within_unit s t l n c) (metres_said (within_of s) (within_good s is.shape));
      bbox = may_at IsBoxText _ _ (box_of s) (bbox_at s t l n c) (says_back IsBoxText box_text (box_of s) (if_more IsBox (λ b. IsBoxText (box_text b) b) box_back (box_of s) (box_good s is.shape)));
      width = both_at _ _ _ _ (width_of s) (width_at s t l n c) (width_unit s t l n c) (metres_said (width_of s) (width_good s is.shape));
      height = both_at _ _ _ _ (height_of s) (height_at s t l n c) (height_unit s t l n c) (metres_said (height_of s) (height_good s is.shape));
      times = may_at IsTimesText _ _ t (times_at s t l n c) (says_back IsTimesText times_text t (if_more IsTimes (λ v. IsTimesText (times_text v) v) (times_back written) t is.times));
      levels = may_at IsLevelsText _ _ l (levels_at s t l n c) (says_back IsLevelsText levels_text l (if_more IsLevelsAsked (λ v. IsLevelsText (levels_text v) v) levels_back l is.levels));
    }

-- ---- no refusal applies

three : (a b c : Bool) → a ≡ true → b ≡ true → c ≡ true → a && (b && c) ≡ true
three a b c e f g = ap (λ x. x && (b && c)) e ∙ ap (λ x. x && c) f ∙ g

required_at : (s : Shape) (t : Option Times) (l : Option Levels) (n : Option (List (List ℕ))) (c : Option (List ℕ)) (id : List ℕ) (i : Option (List ℕ)) → has_required (page_kind (address_at s id i)) (pairs s t l n c) ≡ true
required_at (at.Position g) t l n c id i = ap is_some (coords_at (at.Position g) t l n c)
required_at (at.Radius g d) t l n c id i = three _ _ _ (ap is_some (coords_at (at.Radius g d) t l n c)) (ap is_some (within_at (at.Radius g d) t l n c)) (ap is_some (within_unit (at.Radius g d) t l n c))
required_at (at.Area g) t l n c id i = ap is_some (coords_at (at.Area g) t l n c)
required_at (at.Cube lo hi levels) t l n c id i = ap is_some (bbox_at (at.Cube lo hi levels) t l n c)
required_at (at.Trajectory g) t l n c id i = ap is_some (coords_at (at.Trajectory g) t l n c)
required_at (at.Corridor g w h) t l n c id i = three _ _ _ (ap is_some (coords_at (at.Corridor g w h) t l n c)) (ap is_some (width_at (at.Corridor g w h) t l n c)) (ap is_some (width_unit (at.Corridor g w h) t l n c))
required_at (at.Location x) t l n c id i = refl

known_at : (s : Shape) (t : Option Times) (l : Option Levels) (n : Option (List (List ℕ))) (c : Option (List ℕ)) (id : List ℕ) (i : Option (List ℕ)) → AreKnown (page_kind (address_at s id i)) (entries s t l n c)
known_at (at.Position g) t l n c id i = (inr refl, (inl refl, (inl refl, (inl refl, (inl refl, (inl refl, (inl refl, (inl refl, (inr refl, (inr refl, (inr refl, (inr refl, tt))))))))))))
known_at (at.Radius g d) t l n c id i = (inr refl, (inr refl, (inr refl, (inl refl, (inl refl, (inl refl, (inl refl, (inl refl, (inr refl, (inr refl, (inr refl, (inr refl, tt))))))))))))
known_at (at.Area g) t l n c id i = (inr refl, (inl refl, (inl refl, (inl refl, (inl refl, (inl refl, (inl refl, (inl refl, (inr refl, (inr refl, (inr refl, (inr refl, tt))))))))))))
known_at (at.Cube lo hi levels) t l n c id i = (inl refl, (inl refl, (inl refl, (inr refl, (inl refl, (inl refl, (inl refl, (inl refl, (inr refl, (inr refl, (inr refl, (inr refl, tt))))))))))))
known_at (at.Trajectory g) t l n c id i = (inr refl, (inl refl, (inl refl, (inl refl, (inl refl, (inl refl, (inl refl, (inl refl, (inr refl, (inr refl, (inr refl, (inr refl, tt))))))))))))
known_at (at.Corridor g w h) t l n c id i = (inr refl, (inl refl, (inl refl, (inl refl, (inr refl, (inr refl, (inr refl, (inr refl, (inr refl, (inr refl, (inr refl, (inr refl, tt))))))))))))
known_at (at.Location x) t l n c id i = (inl refl, (inl refl, (inl refl, (inl refl, (inl refl, (inl refl, (inl refl, (inl refl, (inr refl, (inr refl, (inr refl, (inr refl, tt))))))))))))

flat_line : (g : Geometry) → has_z_of g ≡ false → is_along_z (Some g) ≡ false
flat_line (Line z m ps) e = e
flat_line (Points multi z m ps) e = refl
flat_line (Polygons multi z m ps) e = refl

height_fine : WktIsOne → (s : Shape) (t : Option Times) (l : Option Levels) (n : Option (List (List ℕ))) (c : Option (List ℕ)) (id : List ℕ) (i : Option (List ℕ)) → IsShape s
    → MaySay IsGeometryText (value_of p.Coords (pairs s t l n c)) (coords_of s) → ¬ (LacksHeight (page_kind (address_at s id i)) (pairs s t l n c))
height_fine wkt (at.Corridor g w None) t l n c id i h said =
    height_unwanted wkt (Query Corridor) (pairs (at.Corridor g w None) t l n c) (Some g) refl (paired_none (Query Corridor) (pairs (at.Corridor g w None) t l n c) refl (ap is_some (height_at (at.Corridor g w None) t l n c)) (ap is_some (height_unit (at.Corridor g w None) t l n c))) said (flat_line g h.2)
height_fine wkt (at.Corridor g w (Some d)) t l n c id i h said =
    let one = ap is_some (height_at (at.Corridor g w (Some d)) t l n c) in
    height_given wkt (Query Corridor) (pairs (at.Corridor g w (Some d)) t l n c) refl (paired_both (Query Corridor) (pairs (at.Corridor g w (Some d)) t l n c) refl one (ap is_some (height_unit (at.Corridor g w (Some d)) t l n c))) one
height_fine wkt _ t l n c id i h said = λ lacks. lacks

geometry_fine : WktIsOne → (s : Shape) (pairs_ : List Pair) (id : List ℕ) (i : Option (List ℕ)) → IsShape s → MaySay IsGeometryText (value_of p.Coords pairs_) (coords_of s) → ¬ (HasWrongGeometry (page_kind (address_at s id i)) pairs_)
geometry_fine wkt (at.Position g) ps id i h said = taken_coords wkt (Query Position) Position g ps refl said h.1
geometry_fine wkt (at.Radius g d) ps id i h said = taken_coords wkt (Query Radius) Radius g ps refl said h.0.1
geometry_fine wkt (at.Area g) ps id i h said = taken_coords wkt (Query Area) Area g ps refl said h.1
geometry_fine wkt (at.Cube lo hi levels) ps id i h said = no_coords (Query Cube) Cube ps refl said
geometry_fine wkt (at.Trajectory g) ps id i h said = taken_coords wkt (Query Trajectory) Trajectory g ps refl said h.1
geometry_fine wkt (at.Corridor g w d) ps id i h said = taken_coords wkt (Query Corridor) Corridor g ps refl said h.0.1
geometry_fine wkt (at.Location x) ps id i h said = λ wrong. wrong

all_fine : WktIsOne → TimesAreUnique → LevelsAreUnique → DistancesAreUnique → Stands → WrittenTimesAreInstants → (q : QueryValue) → IsQuery q → IsAllSaid (page_kind (address_of q)) (pairs_of q) (said_of q)
all_fine wkt times levels distances stands written q is =
    let s = q.shape in let t = q.times in let l = q.levels in let n = q.parameters in let c = q.crs in
    let page = page_kind (address_of q) in let ps = pairs_of q in
    let said = is_said stands written q is in
    let p9 = more page ps RepeatedParameter (more page ps UnknownParameter (start page ps) (known_entries page (entries s t l n c) (known_at s t l n c q.collection q.instance))) (distinct_entries (entries s t l n c) refl) in
    let format : ¬ (HasBadFormat page ps) = none_given p.Format _ ps (format_at s t l n c) in
    let required = all_required page ps (required_at s t l n c q.collection q.instance) in
    let height = height_fine wkt s t l n c q.collection q.instance is.shape said.coords in
    let p13 = more page ps WrongGeometry (passed_coords page ps (coords_of s) p9 format required said.coords height) (geometry_fine wkt s ps q.collection q.instance is.shape said.coords) in
    all_said wkt times levels distances page ps (said_of q) (passed_levels page ps l (passed_times page ps t (passed_box page ps (box_of s) p13 said.bbox) said.times) said.levels) said is.no_conflict

-- ---- the query is said

abbrev shape_with : QueryKind → Shape → Option Shape
shape_with kind s = shape_of kind (coords_of s) (within_of s) (box_of s) (width_of s) (height_of s)

placed : (q : QueryValue) (s : Shape) → q.shape ≡ s → IsInstanceOf s q.instance → IsPlaced (address_at s q.collection q.instance) (said_of q) q
placed q (at.Position g) e h = (refl, refl, ap (λ x. shape_with Position x) e ∙ ap Some (sym e))
placed q (at.Radius g d) e h = (refl, refl, ap (λ x. shape_with Radius x) e ∙ ap Some (sym e))
placed q (at.Area g) e h = (refl, refl, ap (λ x. shape_with Area x) e ∙ ap Some (sym e))
placed q (at.Cube lo hi levels) e h = (refl, refl, ap (λ x. shape_with Cube x) e ∙ ap Some (sym e))
placed q (at.Trajectory g) e h = (refl, refl, ap (λ x. shape_with Trajectory x) e ∙ ap Some (sym e))
placed q (at.Corridor g w d) e h = (refl, refl, ap (λ x. shape_with Corridor x) e ∙ ap Some (sym e))
placed q (at.Location x) e h = (refl, h, e)

names_map : (o : Option (List (List ℕ))) → IfSome o AreNames → o ≡ option_map names_in (option_map (joined plain) o)
names_map None h = refl
names_map (Some names) h = ap Some (sym (names_back names h))

says : WktIsOne → TimesAreUnique → LevelsAreUnique → DistancesAreUnique → Stands → WrittenTimesAreInstants → (q : QueryValue) → IsQuery q → Says (address_of q) (pairs_of q) q
says wkt times levels distances stands written q is =
    let s = q.shape in let t = q.times in let l = q.levels in let n = q.parameters in let c = q.crs in
    record {
      said = said_of q;
      is_said = is_said stands written q is;
      placed = placed q s refl is.instance;
      times = refl;
      levels = refl;
      parameters = names_map n is.parameters ∙ ap (option_map names_in) (sym (names_at s t l n c));
      crs = sym (crs_at s t l n c);
    }

-- ---- the target

instance_if : (s : Shape) (i : Option (List ℕ)) → IsInstanceOf s i → IfSome i IsPart
instance_if (at.Location x) None h = tt
instance_if (at.Location x) (Some i) h = absurd (none_some i (sym h))
instance_if _ None h = tt
instance_if _ (Some i) h = h

query_parts : (kind : QueryKind) (id : List ℕ) (i : Option (List ℕ)) → IsPart id → IfSome i IsPart → All IsPart (parts_of (to.Query kind id i))
query_parts kind id None h k =
    All-cons IsPart (codes "collections") (id ∷ kind_text kind ∷ []) collections_part (All-cons IsPart id (kind_text kind ∷ []) h (All-cons IsPart (kind_text kind) [] (kind_part kind) (All-nil IsPart)))
query_parts kind id (Some i) h k =
    All-cons IsPart (codes "collections") (id ∷ codes "instances" ∷ i ∷ kind_text kind ∷ []) collections_part (All-cons IsPart id (codes "instances" ∷ i ∷ kind_text kind ∷ []) h
    (All-cons IsPart (codes "instances") (i ∷ kind_text kind ∷ []) instances_part (All-cons IsPart i (kind_text kind ∷ []) k (All-cons IsPart (kind_text kind) [] (kind_part kind) (All-nil IsPart)))))

station_parts : (id x : List ℕ) → IsPart id → IsPart x → All IsPart (parts_of (to.Location id x))
station_parts id x h k =
    All-cons IsPart (codes "collections") (id ∷ codes "locations" ∷ x ∷ []) collections_part (All-cons IsPart id (codes "locations" ∷ x ∷ []) h
    (All-cons IsPart (codes "locations") (x ∷ []) locations_part (All-cons IsPart x [] k (All-nil IsPart))))

all_parts : (s : Shape) (id : List ℕ) (i : Option (List ℕ)) → IsPart id → IfSome i IsPart → IsShape s → All IsPart (parts_of (address_at s id i))
all_parts (at.Position g) id i h k is = query_parts Position id i h k
all_parts (at.Radius g d) id i h k is = query_parts Radius id i h k
all_parts (at.Area g) id i h k is = query_parts Area id i h k
all_parts (at.Cube lo hi levels) id i h k is = query_parts Cube id i h k
all_parts (at.Trajectory g) id i h k is = query_parts Trajectory id i h k
all_parts (at.Corridor g w d) id i h k is = query_parts Corridor id i h k
all_parts (at.Location x) id i h k is = station_parts id x h is

query_some : (kind : QueryKind) (id : List ℕ) (i : Option (List ℕ)) → Parts (parts_of (to.Query kind id i))
query_some kind id None = (codes "collections", id ∷ kind_text kind ∷ [], refl)
query_some kind id (Some i) = (codes "collections", id ∷ codes "instances" ∷ i ∷ kind_text kind ∷ [], refl)

some_parts : (s : Shape) (id : List ℕ) (i : Option (List ℕ)) → Parts (parts_of (address_at s id i))
some_parts (at.Position g) id i = query_some Position id i
some_parts (at.Radius g d) id i = query_some Radius id i
some_parts (at.Area g) id i = query_some Area id i
some_parts (at.Cube lo hi levels) id i = query_some Cube id i
some_parts (at.Trajectory g) id i = query_some Trajectory id i
some_parts (at.Corridor g w d) id i = query_some Corridor id i
some_parts (at.Location x) id i = (codes "collections", id ∷ codes "locations" ∷ x ∷ [], refl)

if_text : {A : Type 0} (P : A → Type 0) (f : A → List ℕ) → ((a : A) → P a → IsUtf8 (f a)) → (o : Option A) → IfSome o P → IfSome (option_map f o) IsUtf8
if_text P f g None h = tt
if_text P f g (Some a) h = g a h

geometries : (s : Shape) → IsShape s → IfSome (coords_of s) IsGeometry
geometries (at.Position g) h = h.0
geometries (at.Radius g d) h = h.0.0
geometries (at.Area g) h = h.0
geometries (at.Cube lo hi levels) h = tt
geometries (at.Trajectory g) h = h.0
geometries (at.Corridor g w d) h = h.0.0
geometries (at.Location x) h = tt

texts : TimesAreWritten → (s : Shape) (t : Option Times) (l : Option Levels) (n : Option (List (List ℕ))) (c : Option (List ℕ))
    → IsShape s → IfSome t IsTimes → IfSome l IsLevelsAsked → IfSome n AreNames → IfSome c IsUtf8 → AreTexts (entries s t l n c)
texts written s t l n c hs ht hl hn hc = (
  name_utf8 p.Coords,
  if_text IsGeometry spelled geometry_utf8 (coords_of s) (geometries s hs),
  (
    name_utf8 p.Within,
    if_text IsMetres signed_decimal metres_utf8 (within_of s) (within_good s hs),
    (
      name_utf8 p.WithinUnits,
      if_text IsMetres (λ (metres : ℤ). codes "m") (λ d m. unit_utf8) (within_of s) (within_good s hs),
      (
        name_utf8 p.Bbox,
        if_text IsBox box_text box_utf8 (box_of s) (box_good s hs),
        (
          name_utf8 p.CorridorWidth,
          if_text IsMetres signed_decimal metres_utf8 (width_of s) (width_good s hs),
          (
            name_utf8 p.WidthUnits,
            if_text IsMetres (λ (metres : ℤ). codes "m") (λ d m. unit_utf8) (width_of s) (width_good s hs),
            (
              name_utf8 p.CorridorHeight,
              if_text IsMetres signed_decimal metres_utf8 (height_of s) (height_good s hs),
              (
                name_utf8 p.HeightUnits,
                if_text IsMetres (λ (metres : ℤ). codes "m") (λ d m. unit_utf8) (height_of s) (height_good s hs),
                (
                  name_utf8 p.Datetime,
                  if_text IsTimes times_text (times_utf8 written) t ht,
                  (
                    name_utf8 p.Z,
                    if_text IsLevelsAsked levels_text (λ v h. levels_utf8 v h.0) l hl,
                    (
                      name_utf8 p.ParameterName,
                      if_text AreNames (joined plain) names_utf8 n hn,
                      (name_utf8 p.Crs, hc, tt),
                    ),
                  ),
                ),
              ),
            ),
          ),
        ),
      ),
    ),
  ),
)

target_at : (a : Address) (ps : List Pair) → All IsPart (parts_of a) → pairs_in (extend_pairs [] ps) ≡ ps → (path_in (path_text a ++ query_text ps) ≡ path_text a) × (pairs_in (query_in (path_text a ++ query_text ps)) ≡ ps)
target_at a [] all e = (ap path_in (append-nil (path_text a)) ∙ path_alone a all, ap (λ t. pairs_in (query_in t)) (append-nil (path_text a)) ∙ ap pairs_in (query_none a all) ∙ no_pairs)
target_at a (p ∷ ps) all e = (path_before a (extend_pairs [] (p ∷ ps)) all, ap pairs_in (query_after a (extend_pairs [] (p ∷ ps)) all) ∙ e)

-- the written form of a query asks for it
pub written_asks : WktIsOne → TimesAreUnique → LevelsAreUnique → DistancesAreUnique → Stands → WrittenTimesAreInstants → TimesAreWritten → WrittenQueriesReadBack
written_asks wkt times levels distances stands instants written q is =
    let a = address_of q in let ps = pairs_of q in
    let parts = all_parts q.shape q.collection q.instance is.collection (instance_if q.shape q.instance is.instance) is.shape in
    let back = entries_back (entries q.shape q.times q.levels q.parameters q.crs) (texts written q.shape q.times q.levels q.parameters q.crs is.shape is.times is.levels is.parameters is.crs) in
    let h = target_at a ps parts back in
    let N : List ℕ → Type 0 = λ t. IsPath t a in
    let S : List Pair → Type 0 = λ l. Says a l q in
    let R : List Pair → Type 0 = λ l. NoneApplies (Applies (page_kind a) l) in
    let names : IsPath (path_in (spell q)) a = subst N (sym h.0) (written_path a (some_parts q.shape q.collection q.instance) parts) in
    record {
      address = a;
      path = names;
      page_is = subst S (sym h.1) (says wkt times levels distances stands instants q is);
      none = none_up (spell q) a names (subst R (sym h.1) (all_fine wkt times levels distances stands instants q is).none);
    }
