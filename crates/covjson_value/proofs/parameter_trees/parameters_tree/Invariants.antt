use Rattle.std.proofs.Common.{◌≡◌, map, take}
use Rattle.serde_json.specs.View.{members_view}
use Rattle.covjson_value.specs.Trees.{members_in_order, named_parameter}
use Rattle.covjson_value.proofs.parameter_trees.parameters_tree.Given as goal

abbrev pub invariant-loop-parameter : goal.invariant-loop-parameter
invariant-loop-parameter l =
    members_view l.members.entries ≡ members_in_order (take l.parameter-index (map named_parameter l.parameters))
