-- For private clauses: what the calls that read the parameters of a target answer.
use Rattle.std.specs.Prelude.{◌≡◌, ◌≢◌, All, ◌⊎◌, ◌<◌, ℕ, ℤ, Bool, true, false, ◌&&◌, is_some, bytes_eq, if◌then◌else◌, List, [], ◌∷◌, ◌++◌, codes, Option, None, Some, Result, Ok, Err, MatchResult}
use Rattle.std.specs.Str.Lossy.{utf8_lossy}
use Rattle.form_urlencoded.specs.Form.{decode}
use Rattle.edr_base.specs.FirstThatApplies.{IsLeast, NoneApplies}
use Rattle.edr_base.specs.declared.refusals.Refusal.{Refusal}
use Rattle.edr_wkt.specs.declared.geometry.Geometry.{Geometry}
use Rattle.edr_wkt.specs.declared.geometry.Geometry.TheVariants.{Line}
use Rattle.edr_axes.specs.Times.{IsTimesText}
use Rattle.edr_axes.specs.Levels.{IsLevelsText}
use Rattle.edr_axes.specs.declared.times.Times.{Times}
use Rattle.edr_axes.specs.declared.levels.Levels.{Levels}
use Rattle.edr_axes.specs.declared.levels.Levels.TheVariants as some_levels
use Rattle.edr_query.specs.declared.addresses.QueryKind.{QueryKind}
use Rattle.edr_query.specs.declared.addresses.QueryKind.TheVariants.{Radius, Cube, Corridor}
use Rattle.edr_query.specs.declared.addresses.PageKind.{PageKind}
use Rattle.edr_query.specs.declared.addresses.PageKind.TheVariants.{Query}
use Rattle.edr_query.specs.declared.addresses.Address.{Address}
use Rattle.edr_query.specs.declared.parameters.Parameter.{Parameter}
use Rattle.edr_query.specs.declared.parameters.Parameter.TheVariants as p
use Rattle.edr_query.specs.declared.pages.Page.{Page}
use Rattle.edr_query.specs.declared.said.Said.{Said}
use Rattle.edr_query.specs.declared.reading.TargetFault.{TargetFault}
use Rattle.edr_query.specs.declared.reading.TargetFault.TheVariants.{Refused, OutOfMemory}
use Rattle.edr_query.specs.Paths.{page_kind}
use Rattle.edr_query.specs.Parameters.{Pair, name_of, value_of, MaySay, MaySayBoth, IsGiven, HasUnknown, HasRepeat}
use Rattle.edr_query.specs.declared.shapes.BoundingBox.{BoundingBox}
use Rattle.edr_axes.specs.Distances.{IsDistance}
use Rattle.edr_query.specs.Boxes.{numbers_of, IsBoxText, IsOrdered, IsRange}
use Rattle.edr_query.specs.Queries.{IsGeometryText, IsSaid}
use Rattle.edr_base.specs.RefusalTable.{rank}
use Rattle.edr_query.specs.Targets.{Applies, LacksRequired, IsPage}

-- the parameter of a name that says where a query selects
abbrev pub place_in : List ℕ → Option Parameter
place_in name =
    if bytes_eq name (codes "within") then Some p.Within else
    if bytes_eq name (codes "within-units") then Some p.WithinUnits else
    if bytes_eq name (codes "bbox") then Some p.Bbox else
    if bytes_eq name (codes "corridor-width") then Some p.CorridorWidth else
    if bytes_eq name (codes "width-units") then Some p.WidthUnits else
    if bytes_eq name (codes "corridor-height") then Some p.CorridorHeight else
    if bytes_eq name (codes "height-units") then Some p.HeightUnits else None

-- the parameter of a name
abbrev pub parameter_in : List ℕ → Option Parameter
parameter_in name =
    if bytes_eq name (codes "f") then Some p.Format else
    if bytes_eq name (codes "coords") then Some p.Coords else
    if bytes_eq name (codes "datetime") then Some p.Datetime else
    if bytes_eq name (codes "z") then Some p.Z else
    if bytes_eq name (codes "parameter-name") then Some p.ParameterName else
    if bytes_eq name (codes "crs") then Some p.Crs else place_in name

-- what a name or a value stands for
abbrev pub read_text : List ℕ → List ℕ
read_text raw = utf8_lossy (decode raw)

-- no byte of the text is this one
abbrev pub Lacks : ℕ → List ℕ → Type 0
Lacks byte text = All (λ other. other ≢ byte) text

-- no refusal whose number is below this one applies
abbrev pub Passed : PageKind → List Pair → ℕ → Type 0
Passed page pairs number = (other : Refusal) → rank other < number → ¬ (Applies page pairs other)

-- what a step answers: what it reads, or the refusal that it looks for
abbrev pub Checks : {T : Type 0} → Result T TargetFault → (T → Type 0) → Refusal → Type 0 → Type 0
Checks result Reads refusal Bad = MatchResult result Reads (λ fault. (fault ≡ OutOfMemory) ⊎ ((fault ≡ Refused refusal) × Bad))

-- what several steps answer: what they read, or the least refusal
abbrev pub Steps : {T : Type 0} → Result T TargetFault → (T → Type 0) → PageKind → List Pair → Type 0
Steps (Ok read) Reads page pairs = Reads read
Steps (Err OutOfMemory) Reads page pairs = Unit {0}
Steps (Err (Refused refusal)) Reads page pairs = IsLeast rank (Applies page pairs) refusal

-- the pairs of a query text, whose names are known and stand once
pub record AreRead (page : PageKind) (pairs read : List Pair) : Type 0 where
  pub same : read ≡ pairs
  pub known : ¬ (HasUnknown page pairs)
  pub once : ¬ (HasRepeat pairs)

-- a parameter is given
abbrev pub is_given : Parameter → List Pair → Bool
is_given parameter pairs = is_some (value_of parameter pairs)

-- the parameters that a page can't do without are given
abbrev pub has_required : PageKind → List Pair → Bool
has_required (Query Cube) pairs = is_given p.Bbox pairs
has_required (Query Radius) pairs = is_given p.Coords pairs && (is_given p.Within pairs && is_given p.WithinUnits pairs)
has_required (Query Corridor) pairs = is_given p.Coords pairs && (is_given p.CorridorWidth pairs && is_given p.WidthUnits pairs)
has_required (Query kind) pairs = is_given p.Coords pairs
has_required other pairs = true

-- along a corridor its height and the unit are both given, or neither
abbrev pub IsHeightPaired : PageKind → List Pair → Type 0
IsHeightPaired (Query Corridor) pairs =
    (IsGiven p.CorridorHeight pairs × IsGiven p.HeightUnits pairs) ⊎ ((value_of p.CorridorHeight pairs ≡ None) × (value_of p.HeightUnits pairs ≡ None))
IsHeightPaired other pairs = Unit {0}

-- a line with z
abbrev pub is_along_z : Option Geometry → Bool
is_along_z (Some (Line has_z has_m positions)) = has_z
is_along_z other = false

-- what a page can't do without is given, and no refusal before this applies
pub record IsComplete (page : PageKind) (pairs : List Pair) : Type 0 where
  pub passed : Passed page pairs 10
  pub required : ¬ (LacksRequired page pairs)
  pub paired : IsHeightPaired page pairs

-- the geometry of `coords`, and no refusal up to a wrong one applies
pub record IsPlace (page : PageKind) (pairs : List Pair) (coords : Option Geometry) : Type 0 where
  pub said : MaySay IsGeometryText (value_of p.Coords pairs) coords
  pub passed : Passed page pairs 13

-- the box, the times and the levels, and no refusal up to theirs applies
pub record AreLimits (page : PageKind) (pairs : List Pair) (bbox : Option BoundingBox) (times : Option Times) (levels : Option Levels) : Type 0 where
  pub bbox_said : MaySay IsBoxText (value_of p.Bbox pairs) bbox
  pub times_said : MaySay IsTimesText (value_of p.Datetime pairs) times
  pub levels_said : MaySay IsLevelsText (value_of p.Z pairs) levels
  pub passed : Passed page pairs 16

-- the distances of numbers and units
pub record AreDistances (pairs : List Pair) (within width height : Option ℤ) : Type 0 where
  pub within_said : MaySayBoth IsDistance (value_of p.Within pairs) (value_of p.WithinUnits pairs) within
  pub width_said : MaySayBoth IsDistance (value_of p.CorridorWidth pairs) (value_of p.WidthUnits pairs) width
  pub height_said : MaySayBoth IsDistance (value_of p.CorridorHeight pairs) (value_of p.HeightUnits pairs) height

-- what the parameters of a page say, and no refusal applies
pub record IsAllSaid (page : PageKind) (pairs : List Pair) (said : Said) : Type 0 where
  pub is_said : IsSaid pairs said
  pub none : NoneApplies (Applies page pairs)

-- the page of an address, and no refusal applies to its parameters
pub record IsGoodPage (address : Address) (pairs : List Pair) (page : Page) : Type 0 where
  pub is_page : IsPage address pairs page
  pub none : NoneApplies (Applies (page_kind address) pairs)

-- the box of some numbers, or none has these
abbrev pub IsBoxOf : List ℤ → Option BoundingBox → Type 0
IsBoxOf numbers (Some box) = (numbers ≡ numbers_of box) × IsOrdered box × IsRange box.levels
IsBoxOf numbers None = (box : BoundingBox) → numbers ≡ numbers_of box → IsOrdered box → ¬ (IsRange box.levels)

-- a list, where a value is absent
abbrev pub if_absent : Option (List ℕ) → List Pair → Option (List Pair)
if_absent None pairs = Some pairs
if_absent (Some text) pairs = None

-- the pairs so far with one more; none where a name stands twice
abbrev pub with_pair : Option (List Pair) → Parameter → List ℕ → Option (List Pair)
with_pair None parameter text = None
with_pair (Some pairs) parameter text = if_absent (value_of parameter pairs) (pairs ++ (name_of parameter, text) ∷ [])

-- the pairs so far and those that are left are all, and no name stands twice so far; or one stands twice in all
abbrev pub IsFound : Option (List Pair) → List Pair → List Pair → Type 0
IsFound None left pairs = HasRepeat pairs
IsFound (Some found) left pairs = (found ++ left ≡ pairs) × (¬ (HasRepeat found))

-- the page is a query along a corridor
abbrev pub is_corridor : PageKind → Bool
is_corridor (Query Corridor) = true
is_corridor other = false

-- the kind of query of a page, if it is one
abbrev pub query_kind : PageKind → Option QueryKind
query_kind (Query kind) = Some kind
query_kind other = None

-- the numbers of a list of levels, and none of other levels
abbrev pub list_in : Levels → List ℤ
list_in (some_levels.List numbers) = numbers
list_in other = []
