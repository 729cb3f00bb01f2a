-- What the path of a target names (OGC 19-086r6, section 7), by its parts between slashes.
use Rattle.std.specs.Prelude.{◌≡◌, ◌≢◌, ℕ, ◌<◌, ◌==◌, Bool, not, ◌||◌, List, [], ◌∷◌, map, codes, All, Option, None, Some, IsUtf8}
use Rattle.std.specs.List.{slice_split, flat_map}
use Rattle.std.specs.Char.{is_ascii_alphanumeric}
use Rattle.percent_encoding.specs.AsciiSet.{should_percent_encode}
use Rattle.percent_encoding.specs.Percent.{percent_encode, percent_decode}
use Rattle.form_urlencoded.specs.Form.{split_once}
use Rattle.edr_query.specs.declared.addresses.TheConstants.{ID_SET}
use Rattle.edr_query.specs.declared.addresses.QueryKind.{QueryKind}
use Rattle.edr_query.specs.declared.addresses.QueryKind.TheVariants.{Position, Radius, Area, Cube, Trajectory, Corridor}
use Rattle.edr_query.specs.declared.addresses.PageKind.{PageKind}
use Rattle.edr_query.specs.declared.addresses.PageKind.TheVariants as page
use Rattle.edr_query.specs.declared.addresses.Address.{Address}
use Rattle.edr_query.specs.declared.addresses.Address.TheVariants.{Landing, Conformance, Collections, Collection, Instances, Instance, Locations, Location, Query}

-- the last part of the path of a query
abbrev pub kind_text : QueryKind → List ℕ
kind_text Position = codes "position"
kind_text Radius = codes "radius"
kind_text Area = codes "area"
kind_text Cube = codes "cube"
kind_text Trajectory = codes "trajectory"
kind_text Corridor = codes "corridor"

-- the parts of the path of an address
abbrev pub parts_of : Address → List (List ℕ)
parts_of Landing = []
parts_of Conformance = codes "conformance" ∷ []
parts_of Collections = codes "collections" ∷ []
parts_of (Collection c) = codes "collections" ∷ c ∷ []
parts_of (Instances c) = codes "collections" ∷ c ∷ codes "instances" ∷ []
parts_of (Instance c i) = codes "collections" ∷ c ∷ codes "instances" ∷ i ∷ []
parts_of (Locations c) = codes "collections" ∷ c ∷ codes "locations" ∷ []
parts_of (Location c s) = codes "collections" ∷ c ∷ codes "locations" ∷ s ∷ []
parts_of (Query kind c None) = codes "collections" ∷ c ∷ kind_text kind ∷ []
parts_of (Query kind c (Some i)) = codes "collections" ∷ c ∷ codes "instances" ∷ i ∷ kind_text kind ∷ []

-- the kind of the page of an address
abbrev pub page_kind : Address → PageKind
page_kind (Query kind c i) = page.Query kind
page_kind (Location c s) = page.Location
page_kind other = page.Description

-- what stands before the first `?`, and what follows it
abbrev pub path_in : List ℕ → List ℕ
path_in target = (split_once 63 target).0

abbrev pub query_in : List ℕ → List ℕ
query_in target = (split_once 63 target).1

-- the parts but one empty part at the end
abbrev pub without_empty_last : List (List ℕ) → List (List ℕ)
without_empty_last [] = []
without_empty_last ([] ∷ []) = []
without_empty_last (part ∷ parts) = part ∷ without_empty_last parts

-- the parts behind the slash that the path begins with
abbrev pub behind_slash : List (List ℕ) → Option (List (List ℕ))
behind_slash ([] ∷ part ∷ parts) = Some (without_empty_last (part ∷ parts))
behind_slash other = None

-- a part of a path: some UTF-8
abbrev pub IsPart : List ℕ → Type 0
IsPart part = (part ≢ []) × IsUtf8 part

-- the path is cut at each slash, and its parts are decoded
pub record HasParts (path : List ℕ) (parts : List (List ℕ)) : Type 0 where
  pub raw : List (List ℕ)
  pub cut : behind_slash (slice_split (λ byte. byte == 47) path) ≡ Some raw
  pub decoded : map percent_decode raw ≡ parts
  pub each : All IsPart parts

-- the path names the address
abbrev pub IsPath : List ℕ → Address → Type 0
IsPath path address = HasParts path (parts_of address)

-- a slash, and a part with its bytes escaped but letters, digits and `-._~`
abbrev pub part_text : List ℕ → List ℕ
part_text part = 47 ∷ percent_encode ID_SET part

-- each part behind a slash; one slash where there is no part
abbrev pub parts_text : List (List ℕ) → List ℕ
parts_text [] = 47 ∷ []
parts_text (part ∷ parts) = flat_map part_text (part ∷ parts)

-- the path of an address as it is written
abbrev pub path_text : Address → List ℕ
path_text address = parts_text (parts_of address)

-- the ids in the path of an address
abbrev pub ids_of : Address → List (List ℕ)
ids_of Landing = []
ids_of Conformance = []
ids_of Collections = []
ids_of (Collection c) = c ∷ []
ids_of (Instances c) = c ∷ []
ids_of (Instance c i) = c ∷ i ∷ []
ids_of (Locations c) = c ∷ []
ids_of (Location c s) = c ∷ s ∷ []
ids_of (Query kind c None) = c ∷ []
ids_of (Query kind c (Some i)) = c ∷ i ∷ []

-- the written path of an address names it, where its ids are some UTF-8
abbrev pub WrittenPathsReadBack : Type 0
WrittenPathsReadBack = (address : Address) → All IsPart (ids_of address) → IsPath (path_text address) address

-- a letter, a digit, `-`, `.`, `_` or `~`
abbrev pub is_unreserved : ℕ → Bool
is_unreserved byte = is_ascii_alphanumeric byte || (byte == 45 || (byte == 46 || (byte == 95 || byte == 126)))

-- the bytes that are escaped in a path are all others
abbrev pub EscapesAllOthers : Type 0
EscapesAllOthers = (byte : ℕ) → byte < 256 → should_percent_encode ID_SET byte ≡ not (is_unreserved byte)
