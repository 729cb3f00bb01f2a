-- What a target asks for, or the first refusal that applies.
use Rattle.std.specs.Prelude.{◌≡◌, ◌⊎◌, ℕ, true, false, List, Result, Ok, Err, None}
use Rattle.edr_base.specs.FirstThatApplies.{IsLeast, NoneApplies}
use Rattle.edr_base.specs.declared.refusals.Refusal.{Refusal}
use Rattle.edr_base.specs.declared.refusals.Refusal.TheVariants.{NoSuchPage, UnknownParameter, RepeatedParameter, BadFormat, MissingParameter, BadCoords, WrongGeometry, BadBbox, BadDatetime, BadLevel, BadDistance, Conflict}
use Rattle.edr_base.specs.RefusalTable.{rank}
use Rattle.edr_axes.specs.Times.{HasNoTimes}
use Rattle.edr_axes.specs.Levels.{HasNoLevels}
use Rattle.edr_wkt.specs.declared.geometry.Geometry.{Geometry}
use Rattle.edr_wkt.specs.Wkt.{has_z_of}
use Rattle.edr_query.specs.declared.addresses.QueryKind.TheVariants.{Corridor}
use Rattle.edr_query.specs.declared.addresses.PageKind.{PageKind}
use Rattle.edr_query.specs.declared.addresses.PageKind.TheVariants.{Query}
use Rattle.edr_query.specs.declared.addresses.Address.{Address}
use Rattle.edr_query.specs.declared.addresses.Address.TheVariants as to
use Rattle.edr_query.specs.declared.parameters.Parameter.{Parameter}
use Rattle.edr_query.specs.declared.parameters.Parameter.TheVariants as p
use Rattle.edr_query.specs.declared.pages.Page.{Page}
use Rattle.edr_query.specs.declared.pages.Page.TheVariants.{Landing, Conformance, Collections, Collection, Instances, Instance, Locations, Ask}
use Rattle.edr_query.specs.declared.said.Said.{Said}
use Rattle.edr_query.specs.declared.reading.TargetFault.{TargetFault}
use Rattle.edr_query.specs.declared.reading.TargetFault.TheVariants.{Refused, OutOfMemory}
use Rattle.edr_query.specs.Paths.{page_kind, IsPath, path_in, query_in}
use Rattle.edr_query.specs.Parameters.{Pair, pairs_in, value_of, is_required, IsFormat, IsGiven, Given, GivenBoth, HasUnknown, HasRepeat}
use Rattle.edr_axes.specs.Distances.{HasNoDistance}
use Rattle.edr_query.specs.Boxes.{HasNoBox}
use Rattle.edr_query.specs.Queries.{IsGeometryText, IsSaid, takes, conflicts, Says}

-- ---- when each refusal applies to the parameters of a page

-- `f` is no format of the page
abbrev pub HasBadFormat : PageKind → List Pair → Type 0
HasBadFormat page pairs = Given p.Format (λ text. ¬ (IsFormat page text)) pairs

-- `coords` is a geometry
abbrev pub Coords : Geometry → List Pair → Type 0
Coords geometry pairs = Given p.Coords (λ text. IsGeometryText text geometry) pairs

-- `coords` is a line with z
abbrev pub IsAlongZ : List Pair → Type 0
IsAlongZ pairs = (geometry : Geometry) × Coords geometry pairs × (takes Corridor geometry ≡ true) × (has_z_of geometry ≡ true)

-- the height of a corridor and its unit are wanted where one of them is given, and along a line with z
abbrev pub WantsHeight : List Pair → Type 0
WantsHeight pairs = IsGiven p.CorridorHeight pairs ⊎ (IsGiven p.HeightUnits pairs ⊎ IsAlongZ pairs)

abbrev pub LacksHeight : PageKind → List Pair → Type 0
LacksHeight (Query Corridor) pairs = WantsHeight pairs × ((value_of p.CorridorHeight pairs ≡ None) ⊎ (value_of p.HeightUnits pairs ≡ None))
LacksHeight other pairs = ⊥

-- a parameter is required, and absent
abbrev pub LacksRequired : PageKind → List Pair → Type 0
LacksRequired page pairs = (parameter : Parameter) × (is_required page parameter ≡ true) × (value_of parameter pairs ≡ None)

abbrev pub IsMissing : PageKind → List Pair → Type 0
IsMissing page pairs = LacksRequired page pairs ⊎ LacksHeight page pairs

-- `coords` is no well-known text within the limits
abbrev pub HasBadCoords : List Pair → Type 0
HasBadCoords pairs = Given p.Coords (λ text. (geometry : Geometry) → ¬ (IsGeometryText text geometry)) pairs

-- `coords` is a geometry that the query doesn't take
abbrev pub HasWrongGeometry : PageKind → List Pair → Type 0
HasWrongGeometry (Query kind) pairs = (geometry : Geometry) × Coords geometry pairs × (takes kind geometry ≡ false)
HasWrongGeometry other pairs = ⊥

abbrev pub HasBadBox : List Pair → Type 0
HasBadBox pairs = Given p.Bbox HasNoBox pairs

abbrev pub HasBadTimes : List Pair → Type 0
HasBadTimes pairs = Given p.Datetime HasNoTimes pairs

abbrev pub HasBadLevels : List Pair → Type 0
HasBadLevels pairs = Given p.Z HasNoLevels pairs

-- a number and its unit are no distance
abbrev pub HasBadDistance : List Pair → Type 0
HasBadDistance pairs =
    GivenBoth p.Within p.WithinUnits HasNoDistance pairs
    ⊎ (GivenBoth p.CorridorWidth p.WidthUnits HasNoDistance pairs
    ⊎ GivenBoth p.CorridorHeight p.HeightUnits HasNoDistance pairs)

-- what the parameters say contradicts itself
abbrev pub IsConflict : List Pair → Type 0
IsConflict pairs = (said : Said) × IsSaid pairs said × (conflicts said ≡ true)

-- the table: when each refusal applies
abbrev pub Applies : PageKind → List Pair → Refusal → Type 0
Applies page pairs UnknownParameter = HasUnknown page pairs
Applies page pairs RepeatedParameter = HasRepeat pairs
Applies page pairs BadFormat = HasBadFormat page pairs
Applies page pairs MissingParameter = IsMissing page pairs
Applies page pairs BadCoords = HasBadCoords pairs
Applies page pairs WrongGeometry = HasWrongGeometry page pairs
Applies page pairs BadBbox = HasBadBox pairs
Applies page pairs BadDatetime = HasBadTimes pairs
Applies page pairs BadLevel = HasBadLevels pairs
Applies page pairs BadDistance = HasBadDistance pairs
Applies page pairs Conflict = IsConflict pairs
Applies page pairs other = ⊥

-- ---- targets

-- the path of a target names the address
abbrev pub Names : List ℕ → Address → Type 0
Names target address = IsPath (path_in target) address

-- a refusal applies to the target; where the path names no page, no other does
abbrev pub Refuses : List ℕ → Refusal → Type 0
Refuses target NoSuchPage = (address : Address) → ¬ (Names target address)
Refuses target other = (address : Address) × Names target address × Applies (page_kind address) (pairs_in (query_in target)) other

-- the page of an address and its parameters
abbrev pub IsPage : Address → List Pair → Page → Type 0
IsPage address pairs Landing = address ≡ to.Landing
IsPage address pairs Conformance = address ≡ to.Conformance
IsPage address pairs Collections = address ≡ to.Collections
IsPage address pairs (Collection c) = address ≡ to.Collection c
IsPage address pairs (Instances c) = address ≡ to.Instances c
IsPage address pairs (Instance c i) = address ≡ to.Instance c i
IsPage address pairs (Locations c) = address ≡ to.Locations c
IsPage address pairs (Ask query) = Says address pairs query

-- the target asks for the page, and no refusal applies
pub record IsAsked (target : List ℕ) (page : Page) : Type 0 where
  pub address : Address
  pub path : Names target address
  pub page_is : IsPage address (pairs_in (query_in target)) page
  pub none : NoneApplies (Refuses target)

-- the answer to a target: the page that it asks for, or the least refusal that applies
abbrev pub IsTarget : List ℕ → Result Page Refusal → Type 0
IsTarget target (Ok page) = IsAsked target page
IsTarget target (Err refusal) = IsLeast rank (Refuses target) refusal

-- what reading a target answers; it is free where memory is wanting
abbrev pub MatchTarget : Result Page TargetFault → List ℕ → Type 0
MatchTarget (Ok page) target = IsTarget target (Ok page)
MatchTarget (Err (Refused refusal)) target = IsTarget target (Err refusal)
MatchTarget (Err OutOfMemory) target = Unit {0}

-- a target has one answer at most
abbrev pub TargetIsOne : Type 0
TargetIsOne = (target : List ℕ) (one other : Result Page Refusal) → IsTarget target one → IsTarget target other → one ≡ other
