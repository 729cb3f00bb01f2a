-- The pages of a few stations.
use Rattle.std.proofs.Common.{◌≡◌, ℕ, ℤ, pos, codes, List, [], ◌∷◌, Option, None, Some, option_map, refl}
use Rattle.std.specs.Fmt.{digits}
use Rattle.json.specs.Print.{escape_byte}
use Rattle.percent_encoding.specs.Percent.{percent_encode}
use Rattle.percent_encoding.specs.AsciiSet.{should_percent_encode}
use Rattle.serde_json.specs.Written.{compact_text}
use Rattle.covjson_value.specs.declared.coverages.Parameter.{Parameter}
use Rattle.edr_station.specs.Stations.{StationValue}
use Rattle.edr_edition.specs.declared.kinds.Kind.TheVariants.{Station}
use Rattle.edr_edition.specs.Values.{CollectionValue}
use Rattle.edr_describe.specs.Extents.{coordinates_where_some}
use Rattle.edr_describe.specs.Reaches.{reach_of}
use Rattle.edr_describe.specs.Descriptions.{collection_page, locations_page}

-- midnight of the first of January 2024, and an hour later
abbrev t0 : ℤ
t0 = pos 1704067200

abbrev t1 : ℤ
t1 = pos 1704070800

abbrev station : List ℕ → List ℕ → ℤ → List ℤ → Option (List ℤ) → StationValue
station id label x ts zs = record { id = id; label = label; x = x; y = pos 0; ts = ts; zs = zs; series = [] }

-- A at 0, 0 has two times, B at 100, 0 has the second one alone
abbrev alpha : StationValue
alpha = station (codes "A") (codes "Alpha") (pos 0) (t0 ∷ t1 ∷ []) None

abbrev beta : StationValue
beta = station (codes "B") (codes "Beta") (pos 100) (t1 ∷ []) None

abbrev temp : Parameter
temp = record { id = codes "temp"; lang = codes "en"; label = codes "Temperature"; unit = Some (codes "Cel") }

abbrev sites : List Parameter → List StationValue → CollectionValue
sites parameters stations = record {
  id = codes "sites";
  title = codes "Sites";
  kind = Station;
  referencing = record { crs = codes "local"; vertical = None };
  parameters = parameters;
  instances = [];
  stations = stations;
}

features_of_two : compact_text (locations_page (sites (temp ∷ []) (alpha ∷ beta ∷ [])))
    ≡ codes "{\"features\":[{\"geometry\":{\"coordinates\":[0,0],\"type\":\"Point\"},\"id\":\"A\",\"properties\":{\"label\":\"Alpha\"},\"type\":\"Feature\"},{\"geometry\":{\"coordinates\":[100,0],\"type\":\"Point\"},\"id\":\"B\",\"properties\":{\"label\":\"Beta\"},\"type\":\"Feature\"}],\"type\":\"FeatureCollection\"}"
unfolding escape_byte digits
features_of_two = refl

features_of_none : compact_text (locations_page (sites [] [])) ≡ codes "{\"features\":[],\"type\":\"FeatureCollection\"}"
unfolding escape_byte
features_of_none = refl

-- from the least to the greatest of both
reach_of_two : option_map reach_of (coordinates_where_some (alpha ∷ beta ∷ []))
    ≡ Some (record { xs = record { low = pos 0; high = pos 100 }; ys = record { low = pos 0; high = pos 0 }; ts = record { low = t0; high = t1 }; zs = None })
reach_of_two = refl

-- of levels too, where stations have some
abbrev low_mast : StationValue
low_mast = station (codes "A") [] (pos 7) (t1 ∷ []) (Some (pos 10 ∷ pos 50 ∷ []))

abbrev high_mast : StationValue
high_mast = station (codes "B") [] (pos 5) (t0 ∷ []) (Some (pos 20 ∷ pos 80 ∷ []))

reach_of_masts : option_map reach_of (coordinates_where_some (low_mast ∷ high_mast ∷ []))
    ≡ Some (record {
      xs = record { low = pos 5; high = pos 7 };
      ys = record { low = pos 0; high = pos 0 };
      ts = record { low = t0; high = t1 };
      zs = Some (record { low = pos 10; high = pos 80 });
    })
reach_of_masts = refl

-- a collection without stations has no extent and no parameters
page_of_none : compact_text (collection_page (sites [] []))
    ≡ codes "{\"crs\":[\"local\"],\"data_queries\":{\"area\":{\"link\":{\"href\":\"/collections/sites/area\",\"rel\":\"data\"}},\"corridor\":{\"link\":{\"href\":\"/collections/sites/corridor\",\"rel\":\"data\"}},\"cube\":{\"link\":{\"href\":\"/collections/sites/cube\",\"rel\":\"data\"}},\"locations\":{\"link\":{\"href\":\"/collections/sites/locations\",\"rel\":\"data\"}},\"radius\":{\"link\":{\"href\":\"/collections/sites/radius\",\"rel\":\"data\"}}},\"id\":\"sites\",\"links\":[],\"output_formats\":[\"CoverageJSON\"],\"parameter_names\":{},\"title\":\"Sites\"}"
unfolding escape_byte percent_encode should_percent_encode
page_of_none = refl
