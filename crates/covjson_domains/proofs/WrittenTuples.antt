-- What is written of a composite axis stands for it.
use Rattle.std.proofs.Common.{List, [], ◌∷◌, map, All, Option, Some, None, IfSome, option_map, refl}
use Rattle.std.proofs.lemmas.List.Elements.{All-head, All-tail}
use Rattle.serde_json.specs.Data.{Data}
use Rattle.serde_json.specs.View.{items_of}
use Rattle.edr_base.specs.declared.places.Position.{Position}
use Rattle.edr_axes.specs.InstantGrammar.{WrittenTimesAreInstants}
use Rattle.covjson_value.specs.declared.domains.CoordinateName.{CoordinateName}
use Rattle.covjson_value.specs.Domains.{coordinate}
use Rattle.covjson_value.specs.Coverages.{IsTuple, AreTuples}
use Rattle.covjson_value.specs.Trees.{axis_value_data, tuple_data, composite_data}
use Rattle.covjson_value.specs.TupleLaws.{HasValue, coordinates_are_values}
use Rattle.covjson_domains.specs.Tuples.{EachCoordinate, StandsForTuple, StandsForTuples, HasSameTuples}
use Rattle.edr_json.specs.TreeLaws.{each_written}
use Rattle.covjson_domains.proofs.WrittenAxes.{axis_value_written}

-- what is written of a coordinate of a tuple
abbrev coordinate_data : Position → CoordinateName → Data
coordinate_data tuple name = axis_value_data name (coordinate name tuple)

-- the coordinates of a written tuple stand for its values
coordinates_written : WrittenTimesAreInstants → (names : List CoordinateName) (tuple : Position) → All (HasValue tuple) names → EachCoordinate names (items_of (map (coordinate_data tuple) names)) tuple
coordinates_written times [] tuple h = tt
coordinates_written times (name ∷ names) tuple h =
    (axis_value_written times name (coordinate name tuple) (All-head (HasValue tuple) name names h), coordinates_written times names tuple (All-tail (HasValue tuple) name names h))

-- a written tuple stands for itself
tuple_written : WrittenTimesAreInstants → (names : List CoordinateName) (tuple : Position) → IsTuple names tuple → StandsForTuple names (tuple_data names tuple) tuple
tuple_written times names tuple h = record {
  items = items_of (map (coordinate_data tuple) names);
  list = refl;
  each = coordinates_written times names tuple (coordinates_are_values names tuple h);
  within = h;
}

-- and so does the written composite axis
tuples_written : WrittenTimesAreInstants → (names : List CoordinateName) (tuples : List Position) → AreTuples names tuples → StandsForTuples names (composite_data names tuples) tuples
tuples_written times names tuples h = record {
  data_type = refl;
  coordinates = refl;
  items = items_of (map (tuple_data names) tuples);
  list = refl;
  each = each_written (StandsForTuple names) (IsTuple names) (tuple_data names) (tuple_written times names) tuples h.each;
  some = h.some;
  in_time = h.in_time;
}

-- the composite axis is written where the domain has it
pub same_tuples_written : WrittenTimesAreInstants → (names : List CoordinateName) (tuples : Option (List Position)) → IfSome tuples (AreTuples names) → HasSameTuples names (option_map (composite_data names) tuples) tuples
same_tuples_written times names None h = tt
same_tuples_written times names (Some tuples) h = tuples_written times names tuples h
