-- Which tree stands for which entry of a feed.
use Rattle.std.specs.Prelude.{◌≡◌, ◌⊎◌, ◌↔◌, ℕ, List, [], ◌∷◌, codes, IsPermutation, Option, None, Some, ⊤}
use Rattle.serde_json.specs.Data.{Data, string, object, Members, no_members, member}
use Rattle.serde_json.specs.Find.{get}
use Rattle.covjson_value.specs.declared.coverages.Coverage.{Coverage}
use Rattle.covjson_read.specs.Standing.{Stands}
use Rattle.edr_base.specs.Names.{IsName}
use Rattle.edr_edition.specs.declared.kinds.Kind.{Kind}
use Rattle.edr_edition.specs.declared.kinds.Kind.TheVariants.{Grid as Grids, Station as Stations}
use Rattle.edr_draft.specs.Changes.{IsChange}
use Rattle.edr_draft.specs.declared.changes.Change.TheVariants.{Collection, Grid, Station, DropCollection, DropInstance, DropStation, Bare}
use Rattle.edr_feed.specs.declared.entries.Entry.{Entry}
use Rattle.edr_feed.specs.declared.entries.Entry.TheVariants.{Change, Publish}

-- the names and values of members
abbrev pub named_values : Members → List (List ℕ × Data)
named_values no_members = []
named_values (member name d members) = (name, d) ∷ named_values members

-- an object of exactly these members, each once, in any order
pub record IsObjectOf (these : List (List ℕ × Data)) (d : Data) : Type 0 where
  pub members : Members
  pub is : d ≡ object members
  pub in_some_order : IsPermutation these (named_values members)

-- an object of one member, by that name, and its value is as it has to be
abbrev pub HasJust : List ℕ → (Data → Type 0) → Data → Type 0
HasJust name IsAsWanted d = (value : Data) × IsObjectOf ((name, value) ∷ []) d × IsAsWanted value

-- the member of the reference system of z, where there is one
abbrev pub vertical_if : Option (List ℕ) → List (List ℕ × Data)
vertical_if None = []
vertical_if (Some vertical) = (codes "vertical", string vertical) ∷ []

-- the word of a kind of collection
abbrev pub kind_word : Kind → List ℕ
kind_word Grids = codes "grid"
kind_word Stations = codes "station"

-- a new collection of a kind
pub record IsCollection (id : List ℕ) (kind : Kind) (title crs : List ℕ) (vertical : Option (List ℕ)) (d : Data) : Type 0 where
  pub id_is_name : IsName id
  pub members : IsObjectOf ((codes "id", string id) ∷ (codes "kind", string (kind_word kind)) ∷ (codes "title", string title) ∷ (codes "crs", string crs) ∷ vertical_if vertical) d

-- an instance of a collection, with that tree as its coverage
pub record IsGrid (collection instance : List ℕ) (coverage d : Data) : Type 0 where
  pub collection_is_name : IsName collection
  pub instance_is_name : IsName instance
  pub members : IsObjectOf ((codes "collection", string collection) ∷ (codes "instance", string instance) ∷ (codes "coverage", coverage) ∷ []) d

-- a station of a collection, with that tree as its coverage
pub record IsStation (collection id label : List ℕ) (coverage d : Data) : Type 0 where
  pub collection_is_name : IsName collection
  pub id_is_name : IsName id
  pub members : IsObjectOf ((codes "collection", string collection) ∷ (codes "id", string id) ∷ (codes "label", string label) ∷ (codes "coverage", coverage) ∷ []) d

-- the name of a collection to be dropped
pub record IsDropCollection (collection : List ℕ) (d : Data) : Type 0 where
  pub collection_is_name : IsName collection
  pub members : IsObjectOf ((codes "collection", string collection) ∷ []) d

-- the names of an instance to be dropped, and of its collection
pub record IsDropInstance (collection instance : List ℕ) (d : Data) : Type 0 where
  pub collection_is_name : IsName collection
  pub instance_is_name : IsName instance
  pub members : IsObjectOf ((codes "collection", string collection) ∷ (codes "instance", string instance) ∷ []) d

-- the names of a station to be dropped, and of its collection
pub record IsDropStation (collection id : List ℕ) (d : Data) : Type 0 where
  pub collection_is_name : IsName collection
  pub id_is_name : IsName id
  pub members : IsObjectOf ((codes "collection", string collection) ∷ (codes "station", string id) ∷ []) d

-- a line that sets an instance, with that tree as its coverage
abbrev pub HoldsGrid : Data → List ℕ → List ℕ → Data → Type 0
HoldsGrid d collection instance coverage = HasJust (codes "grid") (IsGrid collection instance coverage) d

-- a line that sets a station, with that tree as its coverage
abbrev pub HoldsStation : Data → List ℕ → List ℕ → List ℕ → Data → Type 0
HoldsStation d collection id label coverage = HasJust (codes "station") (IsStation collection id label coverage) d

-- a line that is a coverage by itself: whatever else it has, its type is Coverage
abbrev pub IsBare : Data → Type 0
IsBare d = get (codes "type") d ≡ Some (string (codes "Coverage"))

-- the tree of a line stands for the entry
abbrev pub HasForm : Data → Entry → Type 0
HasForm d (Change (Collection id kind title crs vertical)) = HasJust (codes "collection") (IsCollection id kind title crs vertical) d
HasForm d (Change (Grid collection instance coverage)) = (tree : Data) × HoldsGrid d collection instance tree × Stands tree coverage
HasForm d (Change (Station collection id label coverage)) = (tree : Data) × HoldsStation d collection id label tree × Stands tree coverage
HasForm d (Change (DropCollection collection)) = HasJust (codes "drop") (IsDropCollection collection) d
HasForm d (Change (DropInstance collection instance)) = HasJust (codes "drop") (IsDropInstance collection instance) d
HasForm d (Change (DropStation collection id)) = HasJust (codes "drop") (IsDropStation collection id) d
HasForm d (Change (Bare coverage)) = IsBare d × Stands d coverage
HasForm d Publish = HasJust (codes "publish") (IsObjectOf []) d

-- the tree of a line has that tree where a coverage has to be
abbrev pub HoldsCoverage : Data → Data → Type 0
HoldsCoverage d coverage =
    ((collection instance : List ℕ) × HoldsGrid d collection instance coverage)
    ⊎ (((collection id label : List ℕ) × HoldsStation d collection id label coverage) ⊎ (IsBare d × (coverage ≡ d)))

-- the tree of a line has one of the forms, whatever its coverage is
abbrev pub HasOutline : Data → Type 0
HasOutline d = ((entry : Entry) × HasForm d entry) ⊎ ((coverage : Data) × HoldsCoverage d coverage)

-- the ids of its change are names, its texts UTF-8, and its coverage is valid
abbrev pub IsEntry : Entry → Type 0
IsEntry (Change change) = IsChange change
IsEntry Publish = ⊤

-- ---- laws

-- a tree stands for one entry at most
abbrev pub TreesHaveOneForm : Type 0
TreesHaveOneForm = (d : Data) (one other : Entry) → HasForm d one → HasForm d other → one ≡ other

-- of a tree that has a coverage: it has no other, and stands for an entry exactly where that stands for a coverage
pub record HoldsOneCoverage (d coverage : Data) : Type 0 where
  pub only : (other : Data) → HoldsCoverage d other → other ≡ coverage
  pub stands : ((entry : Entry) × HasForm d entry) ↔ ((value : Coverage) × Stands coverage value)

abbrev pub TreesHoldOneCoverage : Type 0
TreesHoldOneCoverage = (d coverage : Data) → HoldsCoverage d coverage → HoldsOneCoverage d coverage
