-- The steps by which the parameters of a page are read.
use Rattle.std.proofs.Common.{◌≡◌, ◌⊎◌, inl, inr, ⊎_elim, ℕ, ℤ, List, Bool, true, false, refl, ap, sym, ◌∙◌, subst, Some, None}
use Rattle.std.specs.declared.option.Option.{Option}
use Rattle.edr_base.specs.declared.refusals.Refusal.TheVariants.{BadFormat, MissingParameter, BadCoords, BadBbox, BadDatetime, BadLevel, BadDistance, Conflict}
use Rattle.edr_axes.specs.declared.times.Times.{Times}
use Rattle.edr_axes.specs.declared.levels.Levels.{Levels}
use Rattle.edr_axes.specs.Times.{IsTimesText, TimesAreUnique}
use Rattle.edr_axes.specs.Levels.{IsLevelsText, LevelsAreUnique}
use Rattle.edr_wkt.specs.declared.geometry.Geometry.{Geometry}
use Rattle.std.specs.Prelude.{Err}
use Rattle.edr_base.specs.declared.refusals.Refusal.{Refusal}
use Rattle.edr_query.specs.declared.reading.TargetFault.{TargetFault}
use Rattle.edr_query.specs.declared.reading.TargetFault.TheVariants.{Refused, OutOfMemory}
use Rattle.std.specs.Prelude.{◌&&◌}
use Rattle.std.proofs.lemmas.Bool.{false≢true}
use Rattle.edr_query.specs.declared.addresses.QueryKind.TheVariants.{Position, Radius, Area, Cube, Trajectory, Corridor}
use Rattle.edr_query.specs.declared.addresses.PageKind.{PageKind}
use Rattle.edr_query.specs.declared.addresses.PageKind.TheVariants.{Description, Location, Query}
use Rattle.edr_query.specs.declared.parameters.Parameter.{Parameter}
use Rattle.edr_query.specs.declared.parameters.Parameter.TheVariants as p
use Rattle.edr_query.specs.declared.shapes.BoundingBox.{BoundingBox}
use Rattle.edr_query.specs.declared.said.Said.{Said}
use Rattle.edr_query.specs.Parameters.{Pair, value_of, is_required, Given, GivenBoth, MaySay, MaySayBoth}
use Rattle.edr_axes.specs.Distances.{DistancesAreUnique, IsDistance, HasNoDistance}
use Rattle.edr_query.specs.Boxes.{IsBoxText}
use Rattle.edr_query.specs.Queries.{IsGeometryText, IsSaid, conflicts}
use Rattle.edr_query.specs.Targets.{HasBadCoords, HasBadDistance, HasBadFormat, LacksRequired, LacksHeight}
use Rattle.edr_query.specs.Reads.{Passed, Steps, IsComplete, is_given, has_required, IsAllSaid}
use Rattle.edr_query.proofs.ListLemmas.{true_false, some_same, none_some, given, absent}
use Rattle.edr_query.proofs.CoordsLemmas.{WktIsOne, said_some, said_none}
use Rattle.edr_query.proofs.SaidLemmas.{said_same}
use Rattle.edr_query.proofs.RefusalLemmas.{more, done, stopped}

-- ---- what is required

present : (q : Parameter) (pairs : List Pair) → is_given q pairs ≡ true → ¬ (value_of q pairs ≡ None)
present q pairs e none = none_some (given (value_of q pairs) e).0 (sym none ∙ (given (value_of q pairs) e).1)

and_first : (a b : Bool) → a && b ≡ true → a ≡ true
and_first true b e = refl
and_first false b e = e

and_rest : (a b : Bool) → a && b ≡ true → b ≡ true
and_rest true b e = e
and_rest false b e = absurd (false≢true e)

one_of : (a b c : Bool) → a && (b && c) ≡ false → (a ≡ false) ⊎ ((b ≡ false) ⊎ (c ≡ false))
one_of false b c e = inl refl
one_of true false c e = inr (inl refl)
one_of true true c e = inr (inr e)

pub all_required : (page : PageKind) (pairs : List Pair) → has_required page pairs ≡ true → ¬ (LacksRequired page pairs)
all_required (Query Cube) pairs e (p.Bbox, r, n) = present p.Bbox pairs e n
all_required (Query Cube) pairs e (_, r, n) = false≢true r
all_required (Query Position) pairs e (p.Coords, r, n) = present p.Coords pairs e n
all_required (Query Position) pairs e (_, r, n) = false≢true r
all_required (Query Area) pairs e (p.Coords, r, n) = present p.Coords pairs e n
all_required (Query Area) pairs e (_, r, n) = false≢true r
all_required (Query Trajectory) pairs e (p.Coords, r, n) = present p.Coords pairs e n
all_required (Query Trajectory) pairs e (_, r, n) = false≢true r
all_required (Query Radius) pairs e (p.Coords, r, n) = present p.Coords pairs (and_first (is_given p.Coords pairs) (is_given p.Within pairs && is_given p.WithinUnits pairs) e) n
all_required (Query Radius) pairs e (p.Within, r, n) = present p.Within pairs (and_first (is_given p.Within pairs) (is_given p.WithinUnits pairs) (and_rest (is_given p.Coords pairs) (is_given p.Within pairs && is_given p.WithinUnits pairs) e)) n
all_required (Query Radius) pairs e (p.WithinUnits, r, n) = present p.WithinUnits pairs (and_rest (is_given p.Within pairs) (is_given p.WithinUnits pairs) (and_rest (is_given p.Coords pairs) (is_given p.Within pairs && is_given p.WithinUnits pairs) e)) n
all_required (Query Radius) pairs e (_, r, n) = false≢true r
all_required (Query Corridor) pairs e (p.Coords, r, n) = present p.Coords pairs (and_first (is_given p.Coords pairs) (is_given p.CorridorWidth pairs && is_given p.WidthUnits pairs) e) n
all_required (Query Corridor) pairs e (p.CorridorWidth, r, n) = present p.CorridorWidth pairs (and_first (is_given p.CorridorWidth pairs) (is_given p.WidthUnits pairs) (and_rest (is_given p.Coords pairs) (is_given p.CorridorWidth pairs && is_given p.WidthUnits pairs) e)) n
all_required (Query Corridor) pairs e (p.WidthUnits, r, n) = present p.WidthUnits pairs (and_rest (is_given p.CorridorWidth pairs) (is_given p.WidthUnits pairs) (and_rest (is_given p.Coords pairs) (is_given p.CorridorWidth pairs && is_given p.WidthUnits pairs) e)) n
all_required (Query Corridor) pairs e (_, r, n) = false≢true r
all_required Description pairs e (_, r, n) = false≢true r
all_required Location pairs e (_, r, n) = false≢true r

lacks : (page : PageKind) (pairs : List Pair) (q : Parameter) → is_required page q ≡ true → is_given q pairs ≡ false → LacksRequired page pairs
lacks page pairs q r e = (q, r, absent (value_of q pairs) e)

pub one_missing : (page : PageKind) (pairs : List Pair) → has_required page pairs ≡ false → LacksRequired page pairs
one_missing (Query Cube) pairs e = lacks (Query Cube) pairs p.Bbox refl e
one_missing (Query Position) pairs e = lacks (Query Position) pairs p.Coords refl e
one_missing (Query Area) pairs e = lacks (Query Area) pairs p.Coords refl e
one_missing (Query Trajectory) pairs e = lacks (Query Trajectory) pairs p.Coords refl e
one_missing (Query Radius) pairs e =
    ⊎_elim (lacks (Query Radius) pairs p.Coords refl) (λ f. ⊎_elim (lacks (Query Radius) pairs p.Within refl) (lacks (Query Radius) pairs p.WithinUnits refl) f)
    (one_of (is_given p.Coords pairs) (is_given p.Within pairs) (is_given p.WithinUnits pairs) e)
one_missing (Query Corridor) pairs e =
    ⊎_elim (lacks (Query Corridor) pairs p.Coords refl) (λ f. ⊎_elim (lacks (Query Corridor) pairs p.CorridorWidth refl) (lacks (Query Corridor) pairs p.WidthUnits refl) f)
    (one_of (is_given p.Coords pairs) (is_given p.CorridorWidth pairs) (is_given p.WidthUnits pairs) e)
one_missing Description pairs e = absurd (true_false e)
one_missing Location pairs e = absurd (true_false e)

-- ---- what is said isn't bad

pub said_fine : {V : Type 0} (Says : List ℕ → V → Type 0) (q : Parameter) (pairs : List Pair) (v : Option V) → MaySay Says (value_of q pairs) v → ¬ (Given q (λ text. (w : V) → ¬ (Says text w)) pairs)
said_fine Says q pairs None said g = none_some g.0 (sym (said_none Says (value_of q pairs) said) ∙ g.1)
said_fine Says q pairs (Some w) said g =
    let s = said_some Says (value_of q pairs) w said in
    let P : List ℕ → Type 0 = λ t. Says t w in
    g.2 w (subst P (some_same s.0 g.0 (sym s.1 ∙ g.1)) s.2)

metres_at : (a b : Option (List ℕ)) (d : Option ℤ) (t u : List ℕ) → MaySayBoth IsDistance a b d → a ≡ Some t → b ≡ Some u → ¬ (HasNoDistance t u)
metres_at None b d t u said e f none = none_some t e
metres_at (Some x) None d t u said e f none = none_some u f
metres_at (Some x) (Some y) None t u said e f none = said
metres_at (Some x) (Some y) (Some v) t u said e f none =
    let P : List ℕ → Type 0 = λ l. IsDistance l y v in
    let Q : List ℕ → Type 0 = λ l. IsDistance t l v in
    none v (subst Q (some_same y u f) (subst P (some_same x t e) said))

pub metres_fine : (n u : Parameter) (pairs : List Pair) (d : Option ℤ) → MaySayBoth IsDistance (value_of n pairs) (value_of u pairs) d → ¬ (GivenBoth n u HasNoDistance pairs)
metres_fine n u pairs d said g = metres_at (value_of n pairs) (value_of u pairs) d g.0 g.2.0 said g.1 g.2.1 g.2.2

-- ---- step by step

pub passed_coords : (page : PageKind) (pairs : List Pair) (coords : Option Geometry) → Passed page pairs 9 → ¬ (HasBadFormat page pairs) → ¬ (LacksRequired page pairs)
    → MaySay IsGeometryText (value_of p.Coords pairs) coords → ¬ (LacksHeight page pairs) → Passed page pairs 12
passed_coords page pairs coords passed format required said height =
    more page pairs BadCoords (more page pairs MissingParameter (more page pairs BadFormat passed format) (λ m. ⊎_elim required height m))
    (said_fine IsGeometryText p.Coords pairs coords said)

pub passed_place : (page : PageKind) (pairs : List Pair) (coords : Option Geometry) → IsComplete page pairs
    → MaySay IsGeometryText (value_of p.Coords pairs) coords → ¬ (LacksHeight page pairs) → Passed page pairs 12
passed_place page pairs coords complete said height =
    more page pairs BadCoords (more page pairs MissingParameter complete.passed (λ m. ⊎_elim complete.required height m))
    (said_fine IsGeometryText p.Coords pairs coords said)

pub passed_box : (page : PageKind) (pairs : List Pair) (box : Option BoundingBox) → Passed page pairs 13 → MaySay IsBoxText (value_of p.Bbox pairs) box → Passed page pairs 14
passed_box page pairs box passed said = more page pairs BadBbox passed (said_fine IsBoxText p.Bbox pairs box said)

pub passed_times : (page : PageKind) (pairs : List Pair) (t : Option Times) → Passed page pairs 14 → MaySay IsTimesText (value_of p.Datetime pairs) t → Passed page pairs 15
passed_times page pairs t passed said = more page pairs BadDatetime passed (said_fine IsTimesText p.Datetime pairs t said)

pub passed_levels : (page : PageKind) (pairs : List Pair) (l : Option Levels) → Passed page pairs 15 → MaySay IsLevelsText (value_of p.Z pairs) l → Passed page pairs 16
passed_levels page pairs l passed said = more page pairs BadLevel passed (said_fine IsLevelsText p.Z pairs l said)

pub passed_all : (page : PageKind) (pairs : List Pair) (said : Said) → Passed page pairs 16 → IsSaid pairs said → Passed page pairs 17
passed_all page pairs said passed is =
    more page pairs BadDistance passed
    (λ b. ⊎_elim (metres_fine p.Within p.WithinUnits pairs said.within is.within)
    (λ c. ⊎_elim (metres_fine p.CorridorWidth p.WidthUnits pairs said.width is.width) (metres_fine p.CorridorHeight p.HeightUnits pairs said.height is.height) c) b)

pub all_said : WktIsOne → TimesAreUnique → LevelsAreUnique → DistancesAreUnique → (page : PageKind) (pairs : List Pair) (said : Said) → Passed page pairs 16 → IsSaid pairs said → conflicts said ≡ false → IsAllSaid page pairs said
all_said wkt times levels distances page pairs said passed is calm =
    record {
      is_said = is;
      none = done page pairs (more page pairs Conflict (passed_all page pairs said passed is)
          (λ c. true_false (sym c.2 ∙ ap conflicts (said_same wkt times levels distances pairs c.0 said c.1 is) ∙ calm)));
    }

-- ---- what a step stops at

abbrev pub Stops : TargetFault → Refusal → Type 0 → Type 0
Stops fault r Bad = (fault ≡ OutOfMemory) ⊎ ((fault ≡ Refused r) × Bad)

stops_with : (fault : TargetFault) (r : Refusal) (P Q : Type 0) → (P → Q) → Stops fault r P → Stops fault r Q
stops_with fault r P Q f (inl e) = inl e
stops_with fault r P Q f (inr h) = inr (h.0, f h.1)

pub at_within : (pairs : List Pair) (fault : TargetFault) → Stops fault BadDistance (GivenBoth p.Within p.WithinUnits HasNoDistance pairs) → Stops fault BadDistance (HasBadDistance pairs)
at_within pairs fault h = stops_with fault BadDistance _ _ (λ b. inl b) h

pub at_width : (pairs : List Pair) (fault : TargetFault) → Stops fault BadDistance (GivenBoth p.CorridorWidth p.WidthUnits HasNoDistance pairs) → Stops fault BadDistance (HasBadDistance pairs)
at_width pairs fault h = stops_with fault BadDistance _ _ (λ b. inr (inl b)) h

pub at_height : (pairs : List Pair) (fault : TargetFault) → Stops fault BadDistance (GivenBoth p.CorridorHeight p.HeightUnits HasNoDistance pairs) → Stops fault BadDistance (HasBadDistance pairs)
at_height pairs fault h = stops_with fault BadDistance _ _ (λ b. inr (inr b)) h

-- coordinates that are none come after what is missing, which they can't want
pub stopped_coords : {T : Type 0} (Reads : T → Type 0) (page : PageKind) (pairs : List Pair) (fault : TargetFault) → Stops fault BadCoords (HasBadCoords pairs)
    → (HasBadCoords pairs → Passed page pairs 11) → Steps {T = T} (Err fault) Reads page pairs
stopped_coords {T = T} Reads page pairs fault (inl e) passed = let P : TargetFault → Type 0 = λ f. Steps {T = T} (Err f) Reads page pairs in subst P (sym e) tt
stopped_coords Reads page pairs fault (inr h) passed = stopped Reads page pairs fault BadCoords (inr h) (passed h.1)
