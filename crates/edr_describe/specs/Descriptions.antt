-- The pages that describe what an edition holds (OGC 19-086r6, section 7), as JSON whose keys ascend.
use Rattle.std.specs.Prelude.{ℕ, codes, List, [], ◌∷◌, Option, None, Some, option_map, option_and_then}
use Rattle.serde_json.specs.Data.{Data, string, array, object, no_items, item, no_members, member}
use Rattle.covjson_value.specs.declared.coverages.Parameter.{Parameter}
use Rattle.covjson_value.specs.Trees.{member_if, array_of, members_in_order, integer, parameters_data}
use Rattle.edr_ids.specs.Ids.{item_of}
use Rattle.edr_station.specs.Stations.{StationValue}
use Rattle.edr_edition.specs.declared.kinds.Kind.{Kind}
use Rattle.edr_edition.specs.declared.kinds.Kind.TheVariants.{Grid, Station}
use Rattle.edr_edition.specs.Values.{InstanceValue, CollectionValue, EditionValue, instance_id}
use Rattle.edr_edition.specs.Stores.{Held, of_grid, held_in, collection_in}
use Rattle.edr_query.specs.declared.addresses.QueryKind.{QueryKind}
use Rattle.edr_query.specs.declared.addresses.QueryKind.TheVariants.{Position, Radius, Area, Cube, Trajectory, Corridor}
use Rattle.edr_query.specs.declared.addresses.Address.TheVariants as to
use Rattle.edr_query.specs.declared.pages.Page.{Page}
use Rattle.edr_query.specs.declared.pages.Page.TheVariants.{Landing, Conformance, Collections, Collection, Instances, Instance, Locations, Ask}
use Rattle.edr_query.specs.Paths.{kind_text, path_text}
use Rattle.edr_select.specs.Samples.{parameters_in}
use Rattle.edr_describe.specs.Extents.{coordinates_of, extent_data}

-- a link by its relation
abbrev pub link_data : List ℕ → List ℕ → Data
link_data href relation = object (member (codes "href") (string href) (member (codes "rel") (string relation) no_members))

-- ---- the queries of a collection, or of an instance of it

-- a name with the link of a path
abbrev pub to_path : List ℕ → List ℕ → List ℕ × Data
to_path name path = (name, object (member (codes "link") (link_data path (codes "data")) no_members))

abbrev pub to_query : List ℕ → Option (List ℕ) → QueryKind → List ℕ × Data
to_query c i kind = to_path (kind_text kind) (path_text (to.Query kind c i))

-- a collection leads to its instances, and an instance doesn't
abbrev pub to_instances : List ℕ → Option (List ℕ) → List (List ℕ × Data) → List (List ℕ × Data)
to_instances c None rest = to_path (codes "instances") (path_text (to.Instances c)) ∷ rest
to_instances c (Some i) rest = rest

-- the queries that a kind of collection offers, by their names
abbrev pub queries_of : Kind → List ℕ → Option (List ℕ) → List (List ℕ × Data)
queries_of Grid c i =
    to_query c i Area ∷ to_query c i Corridor ∷ to_query c i Cube ∷ to_instances c i (to_query c i Position ∷ to_query c i Radius ∷ to_query c i Trajectory ∷ [])
queries_of Station c i =
    to_query c i Area ∷ to_query c i Corridor ∷ to_query c i Cube ∷ to_path (codes "locations") (path_text (to.Locations c)) ∷ to_query c i Radius ∷ []

-- ---- collections and instances

abbrev pub parameters_of_held : Option Held → List Parameter
parameters_of_held None = []
parameters_of_held (Some held) = parameters_in held

-- a page by what differs from one to the next
abbrev pub page_object : List ℕ → Data → Option Data → List ℕ → Data → List ℕ → Data
page_object crs queries extent id parameters title =
    object (member (codes "crs") (array_of string (crs ∷ []))
    (member (codes "data_queries") queries
    (member_if (codes "extent") extent
    (member (codes "id") (string id)
    (member (codes "links") (array no_items)
    (member (codes "output_formats") (array_of string (codes "CoverageJSON" ∷ []))
    (member (codes "parameter_names") parameters
    (member (codes "title") (string title) no_members))))))))

-- some data of a collection under an id; there may be none
abbrev pub data_page : CollectionValue → List ℕ → Option (List ℕ) → Option Held → Data
data_page collection id instance held =
    page_object collection.referencing.crs (object (members_in_order (queries_of collection.kind collection.id instance)))
    (option_map (extent_data collection.referencing.crs) (option_and_then coordinates_of held)) id (parameters_data (parameters_of_held held)) collection.title

-- a collection, with what its newest instance or its stations have
abbrev pub collection_page : CollectionValue → Data
collection_page collection = data_page collection collection.id None (held_in collection collection.kind None)

-- an instance, under the title of its collection
abbrev pub instance_page : CollectionValue → InstanceValue → Data
instance_page collection i = data_page collection i.id (Some i.id) (Some (of_grid i))

-- a list of pages under a name
abbrev pub list_page : List ℕ → Data → Data
list_page name pages = object (member name pages (member (codes "links") (array no_items) no_members))

abbrev pub collections_page : List CollectionValue → Data
collections_page collections = list_page (codes "collections") (array_of collection_page collections)

abbrev pub instances_page : CollectionValue → Data
instances_page collection = list_page (codes "instances") (array_of (instance_page collection) collection.instances)

-- ---- stations, as features of GeoJSON (RFC 7946, section 3)

abbrev pub point_data : StationValue → Data
point_data s = object (member (codes "coordinates") (array_of integer (s.x ∷ s.y ∷ [])) (member (codes "type") (string (codes "Point")) no_members))

abbrev pub feature_data : StationValue → Data
feature_data s =
    object (member (codes "geometry") (point_data s)
    (member (codes "id") (string s.id)
    (member (codes "properties") (object (member (codes "label") (string s.label) no_members))
    (member (codes "type") (string (codes "Feature")) no_members))))

abbrev pub features_page : List StationValue → Data
features_page stations =
    object (member (codes "features") (array_of feature_data stations) (member (codes "type") (string (codes "FeatureCollection")) no_members))

abbrev pub locations_page : CollectionValue → Data
locations_page collection = features_page collection.stations

-- ---- the service

abbrev pub landing_page : Data
landing_page =
    object (member (codes "links")
    (array (item (link_data (codes "/collections") (codes "data")) (item (link_data (codes "/conformance") (codes "conformance")) no_items)))
    (member (codes "title") (string (codes "EDR")) no_members))

abbrev pub conformance_page : Data
conformance_page = object (member (codes "conformsTo") (array no_items) no_members)

-- ---- all pages

abbrev pub page_of_instance : List ℕ → CollectionValue → Option Data
page_of_instance i collection = option_map (instance_page collection) (item_of instance_id i collection.instances)

-- the page that describes, where there is what it names
abbrev pub description : EditionValue → Page → Option Data
description edition Landing = Some landing_page
description edition Conformance = Some conformance_page
description edition Collections = Some (collections_page edition.collections)
description edition (Collection c) = option_map collection_page (collection_in edition.collections c)
description edition (Instances c) = option_map instances_page (collection_in edition.collections c)
description edition (Instance c i) = option_and_then (page_of_instance i) (collection_in edition.collections c)
description edition (Locations c) = option_map locations_page (collection_in edition.collections c)
description edition (Ask query) = None
