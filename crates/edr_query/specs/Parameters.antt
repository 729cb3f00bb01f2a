-- The query parameters of a target, and which of them each page takes (OGC 19-086r6, section 8).
use Rattle.std.specs.Prelude.{◌≡◌, ◌≢◌, ◌⊎◌, ℕ, Bool, true, false, ◌||◌, bytes_eq, if◌then◌else◌, List, [], ◌∷◌, map, codes, Option, None, Some, ⊤}
use Rattle.std.specs.Str.Lossy.{utf8_lossy}
use Rattle.form_urlencoded.specs.Form.{raw_pairs, decode}
use Rattle.edr_query.specs.declared.addresses.QueryKind.TheVariants.{Radius, Cube, Corridor}
use Rattle.edr_query.specs.declared.addresses.PageKind.{PageKind}
use Rattle.edr_query.specs.declared.addresses.PageKind.TheVariants.{Description, Query}
use Rattle.edr_query.specs.declared.parameters.Parameter.{Parameter}
use Rattle.edr_query.specs.declared.parameters.Parameter.TheVariants.{Format, Coords, Within, WithinUnits, Bbox, CorridorWidth, WidthUnits, CorridorHeight, HeightUnits, Datetime, Z, ParameterName, Crs}
use Rattle.edr_base.specs.Names.{IsAnyCase}

-- ---- the pairs of a query text

-- a name and its value
abbrev pub Pair : Type 0
Pair = List ℕ × List ℕ

abbrev pub read_pair : Pair → Pair
read_pair pair = (utf8_lossy (decode pair.0), utf8_lossy (decode pair.1))

-- the pairs of a query text, in their order
abbrev pub pairs_in : List ℕ → List Pair
pairs_in text = map read_pair (raw_pairs text)

-- ---- parameters and their names

abbrev pub name_of : Parameter → List ℕ
name_of Format = codes "f"
name_of Coords = codes "coords"
name_of Within = codes "within"
name_of WithinUnits = codes "within-units"
name_of Bbox = codes "bbox"
name_of CorridorWidth = codes "corridor-width"
name_of WidthUnits = codes "width-units"
name_of CorridorHeight = codes "corridor-height"
name_of HeightUnits = codes "height-units"
name_of Datetime = codes "datetime"
name_of Z = codes "z"
name_of ParameterName = codes "parameter-name"
name_of Crs = codes "crs"

-- a page can't do without the parameter; the height of a corridor, which some lines want, isn't among these
abbrev pub is_required : PageKind → Parameter → Bool
is_required (Query Cube) Bbox = true
is_required (Query Cube) other = false
is_required (Query kind) Coords = true
is_required (Query Radius) Within = true
is_required (Query Radius) WithinUnits = true
is_required (Query Corridor) CorridorWidth = true
is_required (Query Corridor) WidthUnits = true
is_required page other = false

-- every query takes the parameter
abbrev pub is_filter : Parameter → Bool
is_filter Datetime = true
is_filter Z = true
is_filter ParameterName = true
is_filter Crs = true
is_filter other = false

-- a page takes the parameter; every page takes `f`
abbrev pub is_taken : PageKind → Parameter → Bool
is_taken page Format = true
is_taken Description other = false
is_taken (Query Corridor) CorridorHeight = true
is_taken (Query Corridor) HeightUnits = true
is_taken page parameter = is_filter parameter || is_required page parameter

-- ---- the value of a parameter

abbrev pub value_of : Parameter → List Pair → Option (List ℕ)
value_of parameter [] = None
value_of parameter (pair ∷ pairs) = if bytes_eq pair.0 (name_of parameter) then Some pair.1 else value_of parameter pairs

-- the parameter is given
abbrev pub IsGiven : Parameter → List Pair → Type 0
IsGiven parameter pairs = (text : List ℕ) × (value_of parameter pairs ≡ Some text)

-- the parameter is given, and P holds of its value
abbrev pub Given : Parameter → (List ℕ → Type 0) → List Pair → Type 0
Given parameter P pairs = (text : List ℕ) × (value_of parameter pairs ≡ Some text) × P text

-- two parameters are given, and P holds of their values
abbrev pub GivenBoth : Parameter → Parameter → (List ℕ → List ℕ → Type 0) → List Pair → Type 0
GivenBoth one other P pairs = Given one (λ text. Given other (P text) pairs) pairs

-- what may be left out is absent on both sides, or its text says the value
abbrev pub MaySay : {V : Type 0} → (List ℕ → V → Type 0) → Option (List ℕ) → Option V → Type 0
MaySay Says None None = ⊤
MaySay Says (Some text) (Some value) = Says text value
MaySay Says None (Some value) = ⊥
MaySay Says (Some text) None = ⊥

-- the same of a value that two texts say together; where one is left out there is none
abbrev pub MaySayBoth : {V : Type 0} → (List ℕ → List ℕ → V → Type 0) → Option (List ℕ) → Option (List ℕ) → Option V → Type 0
MaySayBoth Says (Some one) (Some other) (Some value) = Says one other value
MaySayBoth Says (Some one) (Some other) None = ⊥
MaySayBoth Says one other None = ⊤
MaySayBoth Says one other (Some value) = ⊥

-- ---- what is wrong with names

-- no parameter that the page takes has the name
abbrev pub IsUnknown : PageKind → List ℕ → Type 0
IsUnknown page name = (parameter : Parameter) → is_taken page parameter ≡ true → name ≢ name_of parameter

abbrev pub HasUnknown : PageKind → List Pair → Type 0
HasUnknown page [] = ⊥
HasUnknown page (pair ∷ pairs) = IsUnknown page pair.0 ⊎ HasUnknown page pairs

-- some pair has the name
abbrev pub HasName : List ℕ → List Pair → Type 0
HasName name [] = ⊥
HasName name (pair ∷ pairs) = (pair.0 ≡ name) ⊎ HasName name pairs

-- some name occurs twice
abbrev pub HasRepeat : List Pair → Type 0
HasRepeat [] = ⊥
HasRepeat (pair ∷ pairs) = HasName pair.0 pairs ⊎ HasRepeat pairs

-- ---- formats

-- in any case: `json` or its type for descriptions, `CoverageJSON`, `json` or the type of CoverageJSON for data
abbrev pub IsFormat : PageKind → List ℕ → Type 0
IsFormat Description text = IsAnyCase text (codes "json") ⊎ IsAnyCase text (codes "application/json")
IsFormat page text = IsAnyCase text (codes "coveragejson") ⊎ (IsAnyCase text (codes "json") ⊎ IsAnyCase text (codes "application/prs.coverage+json"))
