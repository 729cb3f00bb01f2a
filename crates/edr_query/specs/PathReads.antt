-- For private clauses, and `HasNoAddress` for `read_address`: what the calls that read a path answer.
use Rattle.std.specs.Prelude.{ℕ, ◌==◌, bytes_eq, if◌then◌else◌, List, [], ◌∷◌, ◌++◌, codes, map, Option, None, Some}
use Rattle.std.specs.List.{slice_split}
use Rattle.percent_encoding.specs.Percent.{percent_decode}
use Rattle.edr_query.specs.declared.addresses.QueryKind.{QueryKind}
use Rattle.edr_query.specs.declared.addresses.QueryKind.TheVariants.{Position, Radius, Area, Cube, Trajectory, Corridor}
use Rattle.edr_query.specs.declared.addresses.Address.{Address}
use Rattle.edr_query.specs.declared.addresses.Address.TheVariants.{Landing, Conformance, Collections, Collection, Instances, Instance, Locations, Location, Query}
use Rattle.edr_query.specs.Paths.{without_empty_last, IsPath, parts_of, part_text}

-- the parts of what stands behind the first slash, as they are written
abbrev pub raw_in : List ℕ → List (List ℕ)
raw_in text = without_empty_last (slice_split (λ byte. byte == 47) text)

-- the parts of what stands behind the first slash, decoded
abbrev pub parts_in : List ℕ → List (List ℕ)
parts_in text = map percent_decode (raw_in text)

abbrev pub HasNoAddress : List ℕ → Type 0
HasNoAddress path = (address : Address) → ¬ (IsPath path address)

abbrev pub kind_in : List ℕ → Option QueryKind
kind_in name =
    if bytes_eq name (codes "position") then Some Position else
    if bytes_eq name (codes "radius") then Some Radius else
    if bytes_eq name (codes "area") then Some Area else
    if bytes_eq name (codes "cube") then Some Cube else
    if bytes_eq name (codes "trajectory") then Some Trajectory else
    if bytes_eq name (codes "corridor") then Some Corridor else None

abbrev pub query_of : List ℕ → Option (List ℕ) → Option QueryKind → Option Address
query_of c i None = None
query_of c i (Some kind) = Some (Query kind c i)

abbrev pub top_page : List ℕ → Option Address
top_page name =
    if bytes_eq name (codes "conformance") then Some Conformance else
    if bytes_eq name (codes "collections") then Some Collections else None

abbrev pub named_page : List ℕ → List ℕ → Option Address
named_page c name =
    if bytes_eq name (codes "instances") then Some (Instances c) else
    if bytes_eq name (codes "locations") then Some (Locations c) else query_of c None (kind_in name)

abbrev pub id_page : List ℕ → List ℕ → List ℕ → Option Address
id_page c name id =
    if bytes_eq name (codes "instances") then Some (Instance c id) else
    if bytes_eq name (codes "locations") then Some (Location c id) else None

abbrev pub instance_page : List ℕ → List ℕ → List ℕ → List ℕ → Option Address
instance_page c name id last = if bytes_eq name (codes "instances") then query_of c (Some id) (kind_in last) else None

abbrev pub collection_page : List ℕ → List (List ℕ) → Option Address
collection_page c [] = Some (Collection c)
collection_page c (name ∷ []) = named_page c name
collection_page c (name ∷ id ∷ []) = id_page c name id
collection_page c (name ∷ id ∷ last ∷ []) = instance_page c name id last
collection_page c (name ∷ id ∷ last ∷ more ∷ parts) = None

abbrev pub below_collections : List ℕ → List ℕ → List (List ℕ) → Option Address
below_collections name c parts = if bytes_eq name (codes "collections") then collection_page c parts else None

-- a path with one more part
unfoldable pub with_part : List ℕ → List ℕ → List ℕ
with_part path part = path ++ part_text part

-- a path with more parts
abbrev pub with_parts : List ℕ → List (List ℕ) → List ℕ
with_parts path [] = path
with_parts path (part ∷ parts) = with_parts (with_part path part) parts

-- a text with the path of an address behind it
abbrev pub with_address : List ℕ → Address → List ℕ
with_address path Landing = path ++ 47 ∷ []
with_address path address = with_parts path (parts_of address)

-- the address of parts
abbrev pub address_in : List (List ℕ) → Option Address
address_in [] = Some Landing
address_in (name ∷ []) = top_page name
address_in (name ∷ c ∷ parts) = below_collections name c parts
