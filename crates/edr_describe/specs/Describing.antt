-- What describing answers.
use Rattle.std.specs.Prelude.{◌≡◌, ⊤, ℕ, codes, List, [], ◌∷◌, Option, Result, Ok, Err, None, Some, option_map}
use Rattle.serde_json.specs.Data.{Data, Members, string, array, object, no_items, item, no_members, member, put}
use Rattle.serde_json.specs.Written.{compact_text}
use Rattle.covjson_value.specs.Trees.{array_of, member_if, parameters_data}
use Rattle.edr_edition.specs.Values.{InstanceValue, CollectionValue, EditionValue}
use Rattle.edr_edition.specs.Stores.{of_grid}
use Rattle.edr_query.specs.declared.addresses.Address.TheVariants as to
use Rattle.edr_query.specs.declared.addresses.QueryKind.{QueryKind}
use Rattle.edr_query.specs.declared.addresses.QueryKind.TheVariants.{Position, Radius, Area, Cube, Trajectory, Corridor}
use Rattle.edr_query.specs.Paths.{kind_text, path_text}
use Rattle.edr_query.specs.declared.pages.Page.{Page}
use Rattle.edr_query.specs.declared.pages.Page.TheVariants.{Landing, Conformance, Collections, Collection, Instances, Instance, Locations, Ask}
use Rattle.edr_select.specs.Refusals.{refused, IsFirstRefusal}
use Rattle.edr_describe.specs.declared.describing.DescribeFault.{DescribeFault}
use Rattle.edr_describe.specs.declared.describing.DescribeFault.TheVariants.{Refused, OutOfMemory}
use Rattle.edr_describe.specs.Extents.{extent_data}
use Rattle.edr_describe.specs.Reaches.{coordinates_of_grid}
use Rattle.edr_describe.specs.Descriptions.{link_data, parameters_of_held, page_object, description}

-- a page that isn't of data
abbrev pub IsDescription : Page → Type 0
IsDescription Landing = ⊤
IsDescription Conformance = ⊤
IsDescription Collections = ⊤
IsDescription (Collection c) = ⊤
IsDescription (Instances c) = ⊤
IsDescription (Instance c i) = ⊤
IsDescription (Locations c) = ⊤
IsDescription (Ask query) = ⊥

-- the text of the description
pub record IsDescribed (edition : EditionValue) (page : Page) (text : List ℕ) : Type 0 where
  pub none : IsFirstRefusal edition page None
  pub text_is : option_map compact_text (description edition page) ≡ Some text

-- the text, or the first refusal that applies; it is free where memory is wanting
abbrev pub MatchDescription : Result (List ℕ) DescribeFault → EditionValue → Page → Type 0
MatchDescription (Ok text) edition page = IsDescribed edition page text
MatchDescription (Err (Refused refusal)) edition page = IsFirstRefusal edition page (Some refusal)
MatchDescription (Err OutOfMemory) edition page = ⊤

-- ---- for private clauses

abbrev pub linked : List ℕ → Data
linked path = object (member (codes "link") (link_data path (codes "data")) no_members)

-- members with the link of a query, with those of three queries
abbrev pub put_link : List ℕ → Option (List ℕ) → QueryKind → Members → Members
put_link c i kind members = put (kind_text kind) (linked (path_text (to.Query kind c i))) members

abbrev pub with_spaces : List ℕ → Option (List ℕ) → Members → Members
with_spaces c i members = put_link c i Cube (put_link c i Corridor (put_link c i Area members))

abbrev pub with_spots : List ℕ → Option (List ℕ) → Members → Members
with_spots c i members = put_link c i Trajectory (put_link c i Radius (put_link c i Position members))

-- the path of a collection, or of an instance of it
abbrev pub data_path : List ℕ → Option (List ℕ) → List ℕ
data_path c None = path_text (to.Collection c)
data_path c (Some i) = path_text (to.Instance c i)

-- the first members of a page
abbrev pub head_members : List ℕ → Data → Option Data → List ℕ → Members
head_members crs queries extent id =
    member (codes "crs") (array_of string (crs ∷ []))
    (member (codes "data_queries") queries (member_if (codes "extent") extent (member (codes "id") (string id) no_members)))

-- members with no links, with the one format of data, and with all that stands behind the first members of a page
abbrev pub with_links : Members → Members
with_links members = put (codes "links") (array no_items) members

abbrev pub with_formats : Members → Members
with_formats members = put (codes "output_formats") (array_of string (codes "CoverageJSON" ∷ [])) members

abbrev pub with_rest : Members → Data → List ℕ → Members
with_rest members parameters title =
    put (codes "title") (string title) (put (codes "parameter_names") parameters (with_formats (with_links members)))

-- the page of a grid, or of no data, with some queries
abbrev pub data_object : CollectionValue → Data → List ℕ → Option InstanceValue → Data
data_object collection queries id grid =
    page_object collection.referencing.crs queries (option_map (λ i. extent_data collection.referencing.crs (coordinates_of_grid i)) grid) id
    (parameters_data (parameters_of_held (option_map of_grid grid))) collection.title

-- the links of the page that leads to all others
abbrev pub landing_links : Data
landing_links = array (item (link_data (codes "/collections") (codes "data")) (item (link_data (codes "/conformance") (codes "conformance")) no_items))

-- the tree is that of the description, and no refusal applies
pub record IsTreeOf (edition : EditionValue) (page : Page) (tree : Data) : Type 0 where
  pub none : refused edition page ≡ None
  pub is : description edition page ≡ Some tree

-- so is the text
pub record IsFoundText (edition : EditionValue) (page : Page) (text : List ℕ) : Type 0 where
  pub none : refused edition page ≡ None
  pub is : option_map compact_text (description edition page) ≡ Some text

-- the refusal is the first that applies
abbrev pub IsFaultOf : EditionValue → Page → DescribeFault → Type 0
IsFaultOf edition page (Refused refusal) = refused edition page ≡ Some refusal
IsFaultOf edition page OutOfMemory = ⊤
