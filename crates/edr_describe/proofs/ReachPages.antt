-- An extent by spans is that by coordinates, and so are the pages that have it.
use Rattle.std.proofs.Common.{◌≡◌, ℕ, ℤ, List, Option, None, Some, option_map, refl, ap, sym}
use Rattle.std.specs.Prelude.{option_and_then}
use Rattle.serde_json.specs.Data.{Data, object}
use Rattle.covjson_value.specs.Trees.{integer, members_in_order, parameters_data}
use Rattle.edr_edition.specs.declared.kinds.Kind.{Kind}
use Rattle.edr_edition.specs.declared.kinds.Kind.TheVariants.{Station}
use Rattle.edr_edition.specs.Values.{CollectionValue}
use Rattle.edr_edition.specs.Stores.{held_in}
use Rattle.edr_describe.specs.Extents.{Coordinates, coordinates_of, coordinates_where_some, vertical_data, extent_data}
use Rattle.edr_describe.specs.Reaches.{span_of, span_data, reach_of, reach_data}
use Rattle.edr_describe.specs.Descriptions.{queries_of, parameters_of_held, page_object, collection_page}

levels_data : (zs : Option (List ℤ)) → option_map (span_data integer) (option_map span_of zs) ≡ vertical_data zs
levels_data None = refl
levels_data (Some zs) = refl

pub reach_is : (crs : List ℕ) (c : Coordinates) → reach_data crs (reach_of c) ≡ extent_data crs c
reach_is crs c = rw (levels_data c.zs) refl

-- the same where there are some
pub reaches_are : (crs : List ℕ) (c : Option Coordinates) → option_map (reach_data crs) (option_map reach_of c) ≡ option_map (extent_data crs) c
reaches_are crs None = refl
reaches_are crs (Some c) = ap Some (reach_is crs c)

pub station_page_is : (collection : CollectionValue) → collection.kind ≡ Station
    → page_object collection.referencing.crs (object (members_in_order (queries_of Station collection.id None)))
    (option_map (extent_data collection.referencing.crs) (coordinates_where_some collection.stations)) collection.id (parameters_data collection.parameters) collection.title
    ≡ collection_page collection
station_page_is collection kind =
    let crs : List ℕ = collection.referencing.crs in
    let Of : Kind → Data = λ k.
    page_object crs (object (members_in_order (queries_of k collection.id None))) (option_map (extent_data crs) (option_and_then coordinates_of (held_in collection k None)))
    collection.id (parameters_data (parameters_of_held (held_in collection k None))) collection.title in
    sym (ap Of kind)
