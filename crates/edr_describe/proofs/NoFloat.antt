-- The tree of a description has no float.
use Rattle.std.proofs.Common.{◌≡◌, ℕ, ℤ, List, [], ◌∷◌, Option, Some, None, IfSome, option_map, false, refl, subst}
use Rattle.std.specs.Prelude.{option_and_then}
use Rattle.serde_json.specs.Data.{Data, object}
use Rattle.serde_json.specs.Written.{has_float}
use Rattle.covjson_value.specs.Trees.{array_of, integer, members_in_order, parameters_data}
use Rattle.covjson_value.specs.NoFloatLaws.{NoFloat, items_of-NoFloat, member_if-NoFloat, integer-NoFloat, parameters-NoFloat}
use Rattle.edr_ids.specs.Ids.{item_of}
use Rattle.edr_station.specs.Stations.{StationValue}
use Rattle.edr_edition.specs.declared.kinds.Kind.{Kind}
use Rattle.edr_edition.specs.declared.kinds.Kind.TheVariants.{Grid, Station}
use Rattle.edr_edition.specs.Values.{InstanceValue, CollectionValue, EditionValue, instance_id}
use Rattle.edr_edition.specs.Stores.{Held, of_grid, held_in, collection_in}
use Rattle.edr_query.specs.declared.pages.Page.{Page}
use Rattle.edr_query.specs.declared.pages.Page.TheVariants.{Landing, Conformance, Collections, Collection, Instances, Instance, Locations, Ask}
use Rattle.edr_describe.specs.Extents.{Coordinates, coordinates_of, time_data, interval_data, box_of, spatial_data, vertical_data, extent_data}
use Rattle.edr_describe.specs.Descriptions.{queries_of, parameters_of_held, page_object, data_page, collection_page, instance_page, collections_page, instances_page, point_data, feature_data, locations_page, page_of_instance, description}

integers-NoFloat : (values : List ℤ) → NoFloat (array_of integer values)
integers-NoFloat values = items_of-NoFloat integer integer-NoFloat values

interval-NoFloat : (data_of : ℤ → Data) → ((v : ℤ) → NoFloat (data_of v)) → (values : List ℤ) → NoFloat (interval_data data_of values)
interval-NoFloat data_of each values = rw (items_of-NoFloat (array_of data_of) (items_of-NoFloat data_of each) _) refl

spatial-NoFloat : (crs : List ℕ) (c : Coordinates) → NoFloat (spatial_data crs c)
spatial-NoFloat crs c = rw (items_of-NoFloat (array_of integer) integers-NoFloat (box_of c ∷ [])) refl

vertical-NoFloat : (zs : Option (List ℤ)) → IfSome (vertical_data zs) NoFloat
vertical-NoFloat None = tt
vertical-NoFloat (Some zs) = interval-NoFloat integer integer-NoFloat zs

extent-NoFloat : (crs : List ℕ) (c : Coordinates) → NoFloat (extent_data crs c)
extent-NoFloat crs c = rw (spatial-NoFloat crs c, interval-NoFloat time_data (λ v. refl) c.ts) (member_if-NoFloat _ _ _ (vertical-NoFloat c.zs) refl)

extents-NoFloat : (crs : List ℕ) (c : Option Coordinates) → IfSome (option_map (extent_data crs) c) NoFloat
extents-NoFloat crs None = tt
extents-NoFloat crs (Some c) = extent-NoFloat crs c

queries-NoFloat : (kind : Kind) (c : List ℕ) (i : Option (List ℕ)) → NoFloat (object (members_in_order (queries_of kind c i)))
queries-NoFloat Grid c None = refl
queries-NoFloat Grid c (Some i) = refl
queries-NoFloat Station c i = refl

page-NoFloat : (crs : List ℕ) (queries : Data) (extent : Option Data) (id : List ℕ) (parameters : Data) (title : List ℕ)
    → NoFloat queries → IfSome extent NoFloat → NoFloat parameters → NoFloat (page_object crs queries extent id parameters title)
page-NoFloat crs queries extent id parameters title q e p = rw q (member_if-NoFloat _ extent _ e (rw p refl))

data-NoFloat : (collection : CollectionValue) (id : List ℕ) (instance : Option (List ℕ)) (held : Option Held) → NoFloat (data_page collection id instance held)
data-NoFloat collection id instance held =
    let crs : List ℕ = collection.referencing.crs in
    page-NoFloat crs (object (members_in_order (queries_of collection.kind collection.id instance)))
    (option_map (extent_data crs) (option_and_then coordinates_of held)) id (parameters_data (parameters_of_held held)) collection.title
    (queries-NoFloat collection.kind collection.id instance)
    (extents-NoFloat crs (option_and_then coordinates_of held)) (parameters-NoFloat (parameters_of_held held))

collection-NoFloat : (collection : CollectionValue) → NoFloat (collection_page collection)
collection-NoFloat collection = data-NoFloat collection collection.id None (held_in collection collection.kind None)

instance-NoFloat : (collection : CollectionValue) (i : InstanceValue) → NoFloat (instance_page collection i)
instance-NoFloat collection i = data-NoFloat collection i.id (Some i.id) (Some (of_grid i))

collections-NoFloat : (collections : List CollectionValue) → NoFloat (collections_page collections)
collections-NoFloat collections = rw (items_of-NoFloat collection_page collection-NoFloat collections) refl

instances-NoFloat : (collection : CollectionValue) → NoFloat (instances_page collection)
instances-NoFloat collection = rw (items_of-NoFloat (instance_page collection) (instance-NoFloat collection) collection.instances) refl

point-NoFloat : (s : StationValue) → NoFloat (point_data s)
point-NoFloat s = rw (integers-NoFloat (s.x ∷ s.y ∷ [])) refl

feature-NoFloat : (s : StationValue) → NoFloat (feature_data s)
feature-NoFloat s = rw (point-NoFloat s) refl

locations-NoFloat : (collection : CollectionValue) → NoFloat (locations_page collection)
locations-NoFloat collection = rw (items_of-NoFloat feature_data feature-NoFloat collection.stations) refl

mapped : {V : Type 0} (data_of : V → Data) → ((v : V) → NoFloat (data_of v)) → (given : Option V) → IfSome (option_map data_of given) NoFloat
mapped data_of each None = tt
mapped data_of each (Some v) = each v

of_instance : (i : List ℕ) (given : Option CollectionValue) → IfSome (option_and_then (page_of_instance i) given) NoFloat
of_instance i None = tt
of_instance i (Some collection) = mapped (instance_page collection) (instance-NoFloat collection) (item_of instance_id i collection.instances)

each-NoFloat : (edition : EditionValue) (page : Page) → IfSome (description edition page) NoFloat
each-NoFloat edition Landing = refl
each-NoFloat edition Conformance = refl
each-NoFloat edition Collections = collections-NoFloat edition.collections
each-NoFloat edition (Collection c) = mapped collection_page collection-NoFloat (collection_in edition.collections c)
each-NoFloat edition (Instances c) = mapped instances_page instances-NoFloat (collection_in edition.collections c)
each-NoFloat edition (Instance c i) = of_instance i (collection_in edition.collections c)
each-NoFloat edition (Locations c) = mapped locations_page locations-NoFloat (collection_in edition.collections c)
each-NoFloat edition (Ask query) = tt

pub description_no_float : (edition : EditionValue) (page : Page) (tree : Data) → description edition page ≡ Some tree → has_float tree ≡ false
description_no_float edition page tree is =
    let Has : Option Data → Type 0 = λ given. IfSome given NoFloat in
    subst Has is (each-NoFloat edition page)
