use Rattle.std.proofs.Common.{◌≡◌, take, map}
use Rattle.serde_json.specs.View.{view}
use Rattle.covjson_value.specs.Trees.{axis_value_data}
use Rattle.covjson_value.proofs.axis_trees.list_tree.Given as goal

abbrev pub invariant-loop-value : goal.invariant-loop-value
invariant-loop-value l = map view l.items.items ≡ map (axis_value_data l.name) (take l.value-index l.values)
