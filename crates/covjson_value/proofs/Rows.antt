-- The texts of small coverages, and of a document of none.
use Rattle.std.proofs.Common.{◌≡◌, pos, negsuc, true, false, codes, [], ◌∷◌, refl, Some, None}
use Rattle.std.specs.Fmt.{digits}
use Rattle.serde_json.proofs.OnLiterals.{serde_json_on_literals}
use Rattle.edr_axes.specs.Instants.{instant_text}
use Rattle.covjson_value.specs.declared.domains.Domain.TheVariants.{Grid, Point, MultiPoint, Trajectory}
use Rattle.covjson_value.specs.declared.coverages.Parameter.{Parameter}
use Rattle.covjson_value.specs.declared.coverages.Coverage.{Coverage}
use Rattle.covjson_value.specs.declared.coverages.Document.TheVariants.{Many}
use Rattle.covjson_value.specs.Trees.{coverage_text, document_text}

temperature : Parameter
temperature = record { id = codes "temp"; lang = codes "en"; label = codes "Temperature"; unit = Some (codes "Cel") }

one : Coverage
one = record {
  id = None;
  domain = Point None None (pos 0) (pos 0);
  referencing = record { crs = codes "http://www.opengis.net/def/crs/EPSG/0/32633"; vertical = None };
  parameters = temperature ∷ [];
  ranges = record { values = Some (pos 10) ∷ [] } ∷ [];
}

row : coverage_text one ≡ codes "{\"domain\":{\"axes\":{\"x\":{\"values\":[0]},\"y\":{\"values\":[0]}},\"domainType\":\"Point\",\"referencing\":[{\"coordinates\":[\"x\",\"y\"],\"system\":{\"id\":\"http://www.opengis.net/def/crs/EPSG/0/32633\",\"type\":\"ProjectedCRS\"}}],\"type\":\"Domain\"},\"parameters\":{\"temp\":{\"observedProperty\":{\"label\":{\"en\":\"Temperature\"}},\"type\":\"Parameter\",\"unit\":{\"symbol\":\"Cel\"}}},\"ranges\":{\"temp\":{\"dataType\":\"integer\",\"type\":\"NdArray\",\"values\":[10]}},\"type\":\"Coverage\"}"
unfolding serde_json_on_literals one temperature digits
row = refl

grid : Coverage
grid = record {
  id = Some (codes "a");
  domain = Grid None (Some (pos 0 ∷ [])) (pos 0 ∷ pos 5 ∷ []) (pos 1 ∷ []);
  referencing = record { crs = []; vertical = None };
  parameters = temperature ∷ [];
  ranges = record { values = Some (pos 10) ∷ None ∷ [] } ∷ [];
}

grid_row : coverage_text grid ≡ codes "{\"domain\":{\"axes\":{\"x\":{\"values\":[1]},\"y\":{\"values\":[0,5]},\"z\":{\"values\":[0]}},\"domainType\":\"Grid\",\"referencing\":[{\"coordinates\":[\"x\",\"y\"],\"system\":{\"type\":\"ProjectedCRS\"}},{\"coordinates\":[\"z\"],\"system\":{\"type\":\"VerticalCRS\"}}],\"type\":\"Domain\"},\"id\":\"a\",\"parameters\":{\"temp\":{\"observedProperty\":{\"label\":{\"en\":\"Temperature\"}},\"type\":\"Parameter\",\"unit\":{\"symbol\":\"Cel\"}}},\"ranges\":{\"temp\":{\"axisNames\":[\"z\",\"y\",\"x\"],\"dataType\":\"integer\",\"shape\":[1,2,1],\"type\":\"NdArray\",\"values\":[10,null]}},\"type\":\"Coverage\"}"
unfolding serde_json_on_literals grid temperature digits
grid_row = refl

-- levels that are equally far apart are written short; columns that aren't, and two rows, are listed
levels : Coverage
levels = record {
  id = None;
  domain = Grid None (Some (negsuc 1 ∷ pos 0 ∷ pos 2 ∷ [])) (pos 0 ∷ pos 5 ∷ []) (pos 1 ∷ pos 2 ∷ pos 4 ∷ []);
  referencing = record { crs = []; vertical = None };
  parameters = [];
  ranges = [];
}

levels_row : coverage_text levels ≡ codes "{\"domain\":{\"axes\":{\"x\":{\"values\":[1,2,4]},\"y\":{\"values\":[0,5]},\"z\":{\"num\":3,\"start\":-2,\"stop\":2}},\"domainType\":\"Grid\",\"referencing\":[{\"coordinates\":[\"x\",\"y\"],\"system\":{\"type\":\"ProjectedCRS\"}},{\"coordinates\":[\"z\"],\"system\":{\"type\":\"VerticalCRS\"}}],\"type\":\"Domain\"},\"parameters\":{},\"ranges\":{},\"type\":\"Coverage\"}"
unfolding serde_json_on_literals levels digits
levels_row = refl

places : Coverage
places = record {
  id = None;
  domain = MultiPoint None false (record { x = pos 1; y = negsuc 1; z = pos 0; m = pos 0 } ∷ record { x = pos 3; y = pos 4; z = pos 0; m = pos 0 } ∷ []);
  referencing = record { crs = codes "c"; vertical = None };
  parameters = temperature ∷ [];
  ranges = record { values = Some (pos 10) ∷ None ∷ [] } ∷ [];
}

places_row : coverage_text places ≡ codes "{\"domain\":{\"axes\":{\"composite\":{\"coordinates\":[\"x\",\"y\"],\"dataType\":\"tuple\",\"values\":[[1,-2],[3,4]]}},\"domainType\":\"MultiPoint\",\"referencing\":[{\"coordinates\":[\"x\",\"y\"],\"system\":{\"id\":\"c\",\"type\":\"ProjectedCRS\"}}],\"type\":\"Domain\"},\"parameters\":{\"temp\":{\"observedProperty\":{\"label\":{\"en\":\"Temperature\"}},\"type\":\"Parameter\",\"unit\":{\"symbol\":\"Cel\"}}},\"ranges\":{\"temp\":{\"axisNames\":[\"composite\"],\"dataType\":\"integer\",\"shape\":[2],\"type\":\"NdArray\",\"values\":[10,null]}},\"type\":\"Coverage\"}"
unfolding serde_json_on_literals places temperature digits
places_row = refl

track : Coverage
track = record {
  id = None;
  domain = Trajectory None true (record { x = pos 1; y = pos 2; z = pos 3; m = pos 0 } ∷ []);
  referencing = record { crs = codes "c"; vertical = Some (codes "depth") };
  parameters = temperature ∷ [];
  ranges = record { values = Some (pos 10) ∷ [] } ∷ [];
}

-- where 0 is written as a time is
track_row : instant_text (pos 0) ≡ codes "1970-01-01T00:00:00Z" → coverage_text track ≡ codes "{\"domain\":{\"axes\":{\"composite\":{\"coordinates\":[\"t\",\"x\",\"y\",\"z\"],\"dataType\":\"tuple\",\"values\":[[\"1970-01-01T00:00:00Z\",1,2,3]]}},\"domainType\":\"Trajectory\",\"referencing\":[{\"coordinates\":[\"x\",\"y\"],\"system\":{\"id\":\"c\",\"type\":\"ProjectedCRS\"}},{\"coordinates\":[\"z\"],\"system\":{\"id\":\"depth\",\"type\":\"VerticalCRS\"}},{\"coordinates\":[\"t\"],\"system\":{\"calendar\":\"Gregorian\",\"type\":\"TemporalRS\"}}],\"type\":\"Domain\"},\"parameters\":{\"temp\":{\"observedProperty\":{\"label\":{\"en\":\"Temperature\"}},\"type\":\"Parameter\",\"unit\":{\"symbol\":\"Cel\"}}},\"ranges\":{\"temp\":{\"dataType\":\"integer\",\"type\":\"NdArray\",\"values\":[10]}},\"type\":\"Coverage\"}"
unfolding serde_json_on_literals track temperature digits
track_row written = rw written refl

none_row : document_text (Many []) ≡ codes "{\"coverages\":[],\"type\":\"CoverageCollection\"}"
unfolding serde_json_on_literals
none_row = refl
