-- The composite axis of a tree (OGC 21-069r2, composite axes), and what it stands for.
use Rattle.std.specs.Prelude.{◌≡◌, ◌<◌, List, [], ◌∷◌, length, map, codes, ⊤, Option, Some, None}
use Rattle.serde_json.specs.Data.{Data, string, array, Items, no_items, item}
use Rattle.serde_json.specs.Find.{get}
use Rattle.edr_base.specs.declared.places.Position.{Position}
use Rattle.covjson_value.specs.declared.domains.CoordinateName.{CoordinateName}
use Rattle.covjson_value.specs.declared.domains.CoordinateName.TheVariants.{T}
use Rattle.covjson_value.specs.Domains.{coordinate}
use Rattle.covjson_value.specs.Coverages.{IsTuple, NeverFall}
use Rattle.covjson_value.specs.Trees.{keys_data}
use Rattle.edr_json.specs.Trees.{EachStands}
use Rattle.covjson_domains.specs.Axes.{StandsForAxisValue}

-- the values of some coordinates, in their order
abbrev pub EachCoordinate : List CoordinateName → Items → Position → Type 0
EachCoordinate [] no_items tuple = ⊤
EachCoordinate [] (item d ds) tuple = ⊥
EachCoordinate (name ∷ names) no_items tuple = ⊥
EachCoordinate (name ∷ names) (item d ds) tuple = StandsForAxisValue name d (coordinate name tuple) × EachCoordinate names ds tuple

-- a tuple: a list of the values of its coordinates
pub record StandsForTuple (names : List CoordinateName) (d : Data) (tuple : Position) : Type 0 where
  pub items : Items
  pub list : d ≡ array items
  pub each : EachCoordinate names items tuple
  pub within : IsTuple names tuple

-- the tuples of a composite axis, of which there are some, in the order of their times
pub record StandsForTuples (names : List CoordinateName) (axis : Data) (tuples : List Position) : Type 0 where
  pub data_type : get (codes "dataType") axis ≡ Some (string (codes "tuple"))
  pub coordinates : get (codes "coordinates") axis ≡ Some (keys_data names)
  pub items : Items
  pub list : get (codes "values") axis ≡ Some (array items)
  pub each : EachStands (StandsForTuple names) items tuples
  pub some : 0 < length tuples
  pub in_time : NeverFall (map (coordinate T) tuples)

-- the composite axis is in the tree and in the domain, or in neither
abbrev pub HasSameTuples : List CoordinateName → Option Data → Option (List Position) → Type 0
HasSameTuples names None None = ⊤
HasSameTuples names None (Some tuples) = ⊥
HasSameTuples names (Some axis) None = ⊥
HasSameTuples names (Some axis) (Some tuples) = StandsForTuples names axis tuples
