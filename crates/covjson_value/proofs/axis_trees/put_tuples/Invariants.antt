use Rattle.std.proofs.Common.{◌≡◌, take, map}
use Rattle.serde_json.specs.View.{view}
use Rattle.covjson_value.specs.Trees.{tuple_data}
use Rattle.covjson_value.proofs.axis_trees.put_tuples.Given as goal

abbrev pub invariant-loop-tuple : goal.invariant-loop-tuple
invariant-loop-tuple l = map view l.items.items ≡ map (tuple_data l.names) (take l.tuple-index l.tuples)
