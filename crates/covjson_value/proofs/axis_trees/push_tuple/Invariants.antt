use Rattle.std.proofs.Common.{◌≡◌, take, map}
use Rattle.serde_json.specs.View.{view}
use Rattle.covjson_value.specs.Domains.{coordinate}
use Rattle.covjson_value.specs.Trees.{axis_value_data}
use Rattle.covjson_value.proofs.axis_trees.push_tuple.Given as goal

abbrev pub invariant-loop-name : goal.invariant-loop-name
invariant-loop-name l = map view l.values.items ≡ map (λ name. axis_value_data name (coordinate name l.tuple)) (take l.name-index l.names)
